-- `and`, `or` and `not` choose exits: what a filter's program does, from what the pieces of its tests do.
use Rattle.std.proofs.Common.{ℕ, List, [], ◌⊎◌, inl, inr, refl}
use Rattle.std.specs.Prelude.{Bool}
use Rattle.bpf_code.specs.declared.instruction.Ins.{Ins}
use Rattle.message_view.specs.Message.{Message}
use Rattle.rule_compile.proofs.Pieces.{Any}
use Rattle.filter.specs.declared.test.Test.{Test}
use Rattle.filter.specs.FilterTree.{FilterTree, FilterTrees, test, all, any, negation, no_filters, one_more}
use Rattle.filter_compile.specs.declared.exits.Exits.{Exits}
use Rattle.filter_compile.specs.Entered.{Entered, whole}
use Rattle.filter_compile.specs.FilterCode.{filter_code, all_code, any_code}
use Rattle.filter_compile.specs.Holds.{TestHolds, FilterHolds, EachHolds, OneHolds}
use Rattle.filter_compile.specs.EachTest.{Each, EachIn}
use Rattle.filter_compile.specs.Pieces.{Piece, turned}
use Rattle.filter_compile.specs.PieceOfTest.{test_code}
use Rattle.filter_compile.proofs.TwoExits.{Before, joined, LeadsAt, leads_here, leads_on, Extends, Tests}

-- A program that begins anywhere, in front of a rest: from there a run ends as it does from an exit on.
pub record Chooses (image : List ℕ) (P : Type 0) (f : Exits → List Ins → Entered) : Type 0 where
  pub decided : P ⊎ (P → ⊥)
  pub extends : (exits : Exits) (rest : List Ins) → Before rest (f exits rest).code
  pub holds : (exits : Exits) (rest : List Ins) (v : ℕ) → LeadsAt rest exits.holds image Any v → P → LeadsAt (f exits rest).code (f exits rest).entry image Any v
  pub fails : (exits : Exits) (rest : List Ins) (v : ℕ) → LeadsAt rest exits.fails image Any v → (P → ⊥) → LeadsAt (f exits rest).code (f exits rest).entry image Any v

chooses_piece : (image : List ℕ) (P : Type 0) (f : Piece) → Extends f → Tests image Any P f → Chooses image P (λ exits rest. whole (f exits rest))
chooses_piece image P f extends t = record {
  decided = t.decided;
  extends = λ exits rest. extends exits rest;
  holds = λ exits rest v leads p. leads_here (f exits rest) image Any v (t.holds exits rest v leads p);
  fails = λ exits rest v leads n. leads_here (f exits rest) image Any v (t.fails exits rest v leads n);
}

chooses_no : (image : List ℕ) (P : Type 0) (f : Exits → List Ins → Entered) → Chooses image P f → Chooses image (P → ⊥) (λ exits rest. f (turned exits) rest)
chooses_no image P f c = record {
  decided = elim c.decided [ inl p ↦ inr (λ n. n p) | inr n ↦ inl n ];
  extends = λ exits rest. c.extends (turned exits) rest;
  holds = λ exits rest v leads n. c.fails (turned exits) rest v leads n;
  fails = λ exits rest v leads n. elim c.decided [
    | inl p ↦ c.holds (turned exits) rest v leads p
    | inr none ↦ absurd (n none)
  ];
}

chooses_all : (image : List ℕ) → Chooses image (Unit {0}) (λ exits rest. record { code = rest; entry = exits.holds })
chooses_all image = record {
  decided = inl tt;
  extends = λ exits rest. ([], refl);
  holds = λ exits rest v leads p. leads;
  fails = λ exits rest v leads n. absurd (n tt);
}

chooses_none : (image : List ℕ) → Chooses image ⊥ (λ exits rest. record { code = rest; entry = exits.fails })
chooses_none image = record {
  decided = inr (λ none. none);
  extends = λ exits rest. ([], refl);
  holds = λ exits rest v leads none. absurd none;
  fails = λ exits rest v leads n. leads;
}

-- the one goes on with the other where it holds
abbrev and_then : (Exits → List Ins → Entered) → (Exits → List Ins → Entered) → Exits → List Ins → Entered
and_then f g exits rest = f (record { holds = (g exits rest).entry; fails = exits.fails }) (g exits rest).code

-- where it doesn't hold
abbrev or_else : (Exits → List Ins → Entered) → (Exits → List Ins → Entered) → Exits → List Ins → Entered
or_else f g exits rest = f (record { holds = exits.holds; fails = (g exits rest).entry }) (g exits rest).code

chooses_and : (image : List ℕ) (P Q : Type 0) (f g : Exits → List Ins → Entered) → Chooses image P f → Chooses image Q g → Chooses image (P × Q) (and_then f g)
chooses_and image P Q f g one other = record {
  decided = elim one.decided [
    | inl p ↦ elim other.decided [ inl q ↦ inl (p, q) | inr n ↦ inr (λ each. n each.1) ]
    | inr n ↦ inr (λ each. n each.0)
  ];
  extends = λ exits rest.
      let later = g exits rest in
      joined rest later.code _ (one.extends (record { holds = later.entry; fails = exits.fails }) later.code) (other.extends exits rest);
  holds = λ exits rest v leads each.
      let later = g exits rest in
      one.holds (record { holds = later.entry; fails = exits.fails }) later.code v (other.holds exits rest v leads each.1) each.0;
  fails = λ exits rest v leads n.
      let later = g exits rest in
      elim one.decided [
        | inl p ↦ one.holds (record { holds = later.entry; fails = exits.fails }) later.code v (other.fails exits rest v leads (λ q. n (p, q))) p
        | inr none ↦ one.fails (record { holds = later.entry; fails = exits.fails }) later.code v (leads_on later.code rest exits.fails image Any v (other.extends exits rest) leads) none
      ];
}

chooses_or : (image : List ℕ) (P Q : Type 0) (f g : Exits → List Ins → Entered) → Chooses image P f → Chooses image Q g → Chooses image (P ⊎ Q) (or_else f g)
chooses_or image P Q f g one other = record {
  decided = elim one.decided [
    | inl p ↦ inl (inl p)
    | inr none ↦ elim other.decided [ inl q ↦ inl (inr q) | inr n ↦ inr (λ each. elim each [ inl p ↦ none p | inr q ↦ n q ]) ]
  ];
  extends = λ exits rest.
      let later = g exits rest in
      joined rest later.code _ (one.extends (record { holds = exits.holds; fails = later.entry }) later.code) (other.extends exits rest);
  holds = λ exits rest v leads each.
      let later = g exits rest in
      elim one.decided [
        | inl p ↦ one.holds (record { holds = exits.holds; fails = later.entry }) later.code v (leads_on later.code rest exits.holds image Any v (other.extends exits rest) leads) p
        | inr none ↦ one.fails (record { holds = exits.holds; fails = later.entry }) later.code v (other.holds exits rest v leads (elim each [ inl p ↦ absurd (none p) | inr q ↦ q ])) none
      ];
  fails = λ exits rest v leads n.
      let later = g exits rest in
      one.fails (record { holds = exits.holds; fails = later.entry }) later.code v (other.fails exits rest v leads (λ q. n (inr q))) (λ p. n (inl p));
}

-- ---- the tree

module _ (image : List ℕ) (names : List (List ℕ)) (m : Message) (owned : List ℕ → Bool) (Fits : Test → Type 0) (extends : (t : Test) → Fits t → Extends (test_code names t)) (tests : (t : Test) → Fits t → Tests image Any (TestHolds t m owned) (test_code names t)) where
  mutual
    pub filter_chooses : (f : FilterTree) → Each Fits f → Chooses image (FilterHolds f m owned) (filter_code names f)
    filter_chooses (test t) fits = chooses_piece image (TestHolds t m owned) (test_code names t) (extends t fits) (tests t fits)
    filter_chooses (all fs) fits = each_chooses fs fits
    filter_chooses (any fs) fits = one_chooses fs fits
    filter_chooses (negation f) fits = chooses_no image (FilterHolds f m owned) (filter_code names f) (filter_chooses f fits)

    each_chooses : (fs : FilterTrees) → EachIn Fits fs → Chooses image (EachHolds fs m owned) (λ exits rest. all_code names fs exits.fails (record { code = rest; entry = exits.holds }))
    each_chooses no_filters fits = chooses_all image
    each_chooses (one_more f fs) fits =
        chooses_and image (FilterHolds f m owned) (EachHolds fs m owned) (filter_code names f) (λ exits rest. all_code names fs exits.fails (record { code = rest; entry = exits.holds })) (filter_chooses f fits.0) (each_chooses fs fits.1)

    one_chooses : (fs : FilterTrees) → EachIn Fits fs → Chooses image (OneHolds fs m owned) (λ exits rest. any_code names fs exits.holds (record { code = rest; entry = exits.fails }))
    one_chooses no_filters fits = chooses_none image
    one_chooses (one_more f fs) fits =
        chooses_or image (FilterHolds f m owned) (OneHolds fs m owned) (filter_code names f) (λ exits rest. any_code names fs exits.holds (record { code = rest; entry = exits.fails })) (filter_chooses f fits.0) (one_chooses fs fits.1)
