-- The contract of a piece with two exits: from its first instruction on, whatever A is, and where X is as it has to be,
-- a run over the image ends as it does from the one exit on where the piece's fact holds, and as it does from the other
-- on where it doesn't. In between no load fails, since a failed one would end the run with 0 at either exit. So a
-- test's piece is proved by `Tests image Any (TestHolds t m owned) (test_code names t)`, for any image that shows m.
use Rattle.std.proofs.Common.{◌≡◌, ℕ, zero, suc, ◌+◌, ◌<◌, length, Bool, true, false, List, [], ◌∷◌, ◌++◌, Some, ◌⊎◌, ◌↔◌, inl, inr, refl, sym, ap, ◌∙◌, subst, arith}
use Rattle.std.specs.Prelude.{if◌then◌else◌}
use Rattle.std.proofs.lemmas.Bool.{true≢false, false_from_ne_true}
use Rattle.std.proofs.lemmas.List.{append_assoc, length-append}
use Rattle.bpf_code.specs.declared.instruction.Ins.{Ins}
use Rattle.bpf_code.specs.declared.operation.Width.{Width}
use Rattle.bpf_code.specs.declared.operation.Test.{Test}
use Rattle.bpf_code.specs.Loads.{load, load_word}
use Rattle.bpf_code.specs.Effects.{passes}
use Rattle.rule_compile.specs.Code.{image_word, load_indexed, index_from_a, branch}
use Rattle.rule_compile.proofs.Pieces.{RunsTo, Leads, Any}
use Rattle.rule_compile.proofs.Runs.{runs_image_word, runs_indexed, runs_index_from_a, runs_hit, runs_miss}
use Rattle.rule_compile.proofs.Bytes.{At}
use Rattle.filter_compile.specs.declared.exits.Exits.{Exits}
use Rattle.filter_compile.specs.Pieces.{Piece, over, turned, holds_next, fails_next, no, both, either, fork, word_test, indexed_test, index_start, from_start}

-- a code in front of another
abbrev pub Before : List Ins → List Ins → Type 0
Before rest code = (middle : List Ins) × (code ≡ middle ++ rest)

-- one in front of another that stands in front of a third
pub joined : (rest more code : List Ins) → Before more code → Before rest more → Before rest code
joined rest more code first next =
    (first.0 ++ next.0, first.1 ∙ ap (λ (code : List Ins). first.0 ++ code) next.1 ∙ sym (append_assoc first.0 next.0 rest))

-- with n instructions to the end the program ends with a verdict, whatever A is, where X is as it has to be
pub record LeadsAt (code : List Ins) (n : ℕ) (image : List ℕ) (X : ℕ → Type 0) (v : ℕ) : Type 0 where
  pub front : List Ins
  pub exit : List Ins
  pub is : code ≡ front ++ exit
  pub len : length exit ≡ n
  pub leads : Leads exit image X v

-- the piece is put in front of the rest
abbrev pub Extends : Piece → Type 0
Extends f = (exits : Exits) (rest : List Ins) → Before rest (f exits rest)

pub record Tests (image : List ℕ) (X : ℕ → Type 0) (P : Type 0) (f : Piece) : Type 0 where
  pub decided : P ⊎ (P → ⊥)
  pub holds : (exits : Exits) (rest : List Ins) (v : ℕ) → LeadsAt rest exits.holds image X v → P → Leads (f exits rest) image X v
  pub fails : (exits : Exits) (rest : List Ins) (v : ℕ) → LeadsAt rest exits.fails image X v → (P → ⊥) → Leads (f exits rest) image X v

-- ---- exits

-- the first instruction
pub leads_here : (code : List Ins) (image : List ℕ) (X : ℕ → Type 0) (v : ℕ) → Leads code image X v → LeadsAt code (length code) image X v
leads_here code image X v leads = record { front = []; exit = code; is = refl; len = refl; leads = leads }

-- one of the rest, with more in front
pub leads_on : (code rest : List Ins) (n : ℕ) (image : List ℕ) (X : ℕ → Type 0) (v : ℕ) → Before rest code → LeadsAt rest n image X v → LeadsAt code n image X v
leads_on code rest n image X v before l =
    let all = joined l.exit rest code before (l.front, l.is) in
    record { front = all.0; exit = l.exit; is = all.1; len = l.len; leads = l.leads }

-- what leads on for any X does so for one
pub leads_any : (code : List Ins) (n : ℕ) (image : List ℕ) (X : ℕ → Type 0) (v : ℕ) → LeadsAt code n image Any v → LeadsAt code n image X v
leads_any code n image X v l = record { front = l.front; exit = l.exit; is = l.is; len = l.len; leads = λ a x fits. l.leads a x tt }

-- ---- pieces stand in front of their rest

pub extends_no : (f : Piece) → Extends f → Extends (no f)
extends_no f extends exits rest = extends (turned exits) rest

pub extends_both : (f g : Piece) → Extends f → Extends g → Extends (both f g)
extends_both f g first next exits rest =
    joined rest (g exits rest) (both f g exits rest) (first (holds_next exits (g exits rest)) (g exits rest)) (next exits rest)

pub extends_either : (f g : Piece) → Extends f → Extends g → Extends (either f g)
extends_either f g first next exits rest =
    joined rest (g exits rest) (either f g exits rest) (first (fails_next exits (g exits rest)) (g exits rest)) (next exits rest)

pub extends_choice : (b : Bool) (f g : Piece) → Extends f → Extends g → Extends (if b then f else g)
extends_choice true f g first other = first
extends_choice false f g first other = other

pub extends_word : (at : ℕ) (test : Test) (k : ℕ) → Extends (word_test at test k)
extends_word at test k exits rest = (image_word at ∷ _ ∷ [], refl)

pub extends_indexed : (width : Width) (at : ℕ) (test : Test) (k : ℕ) → Extends (indexed_test width at test k)
extends_indexed width at test k exits rest = (load_indexed width at ∷ _ ∷ [], refl)

pub extends_more : (ins : Ins) (f : Piece) → Extends f → Extends (λ exits rest. ins ∷ f exits rest)
extends_more ins f extends exits rest =
    let e = extends exits rest in (ins ∷ e.0, ap (λ (code : List Ins). ins ∷ code) e.1)

pub extends_from_start : (at : ℕ) (f : Piece) → Extends f → Extends (from_start at f)
extends_from_start at f extends =
    extends_more (image_word at) (λ exits rest. index_from_a ∷ f exits rest) (extends_more index_from_a f extends)

-- ---- pieces joined

-- the fact in other words
pub tests_same : (image : List ℕ) (X : ℕ → Type 0) (P Q : Type 0) (f : Piece) → P ↔ Q → Tests image X P f → Tests image X Q f
tests_same image X P Q f same t = record {
  decided = elim t.decided [ inl p ↦ inl (same.0 p) | inr n ↦ inr (λ q. n (same.1 q)) ];
  holds = λ exits rest v leads q. t.holds exits rest v leads (same.1 q);
  fails = λ exits rest v leads n. t.fails exits rest v leads (λ p. n (same.0 p));
}

-- the fact doesn't hold
pub tests_no : (image : List ℕ) (X : ℕ → Type 0) (P : Type 0) (f : Piece) → Tests image X P f → Tests image X (P → ⊥) (no f)
tests_no image X P f t = record {
  decided = elim t.decided [ inl p ↦ inr (λ n. n p) | inr n ↦ inl n ];
  holds = λ exits rest v leads n. t.fails (turned exits) rest v leads n;
  fails = λ exits rest v leads n. elim t.decided [
    | inl p ↦ t.holds (turned exits) rest v leads p
    | inr none ↦ absurd (n none)
  ];
}

-- the second need only do its work where the first holds
pub tests_then : (image : List ℕ) (X : ℕ → Type 0) (P Q : Type 0) (f g : Piece) → Tests image X P f → Extends g → (P → Tests image X Q g) → Tests image X (P × Q) (both f g)
tests_then image X P Q f g first extends next = record {
  decided = elim first.decided [
    | inl p ↦ elim (next p).decided [ inl q ↦ inl (p, q) | inr n ↦ inr (λ each. n each.1) ]
    | inr n ↦ inr (λ each. n each.0)
  ];
  holds = λ exits rest v leads each.
      let code : List Ins = g exits rest in
      first.holds (holds_next exits code) code v (leads_here code image X v ((next each.0).holds exits rest v leads each.1)) each.0;
  fails = λ exits rest v leads n.
      let code : List Ins = g exits rest in
      elim first.decided [
        | inl p ↦ first.holds (holds_next exits code) code v (leads_here code image X v ((next p).fails exits rest v leads (λ q. n (p, q)))) p
        | inr none ↦ first.fails (holds_next exits code) code v (leads_on code rest exits.fails image X v (extends exits rest) leads) none
      ];
}

-- the second need only do its work where the first doesn't hold
pub tests_else : (image : List ℕ) (X : ℕ → Type 0) (P Q : Type 0) (f g : Piece) → Tests image X P f → Extends g → ((P → ⊥) → Tests image X Q g) → Tests image X (P ⊎ Q) (either f g)
tests_else image X P Q f g first extends next = record {
  decided = elim first.decided [
    | inl p ↦ inl (inl p)
    | inr none ↦ elim (next none).decided [ inl q ↦ inl (inr q) | inr n ↦ inr (λ one. elim one [ inl p ↦ none p | inr q ↦ n q ]) ]
  ];
  holds = λ exits rest v leads one.
      let code : List Ins = g exits rest in
      elim first.decided [
        | inl p ↦ first.holds (fails_next exits code) code v (leads_on code rest exits.holds image X v (extends exits rest) leads) p
        | inr none ↦ first.fails (fails_next exits code) code v (leads_here code image X v ((next none).holds exits rest v leads (elim one [ inl p ↦ absurd (none p) | inr q ↦ q ]))) none
      ];
  fails = λ exits rest v leads n.
      let code : List Ins = g exits rest in
      let none : P → ⊥ = (λ p. n (inl p)) in
      first.fails (fails_next exits code) code v (leads_here code image X v ((next none).fails exits rest v leads (λ q. n (inr q)))) none;
}

-- both do their work wherever they stand
pub tests_both : (image : List ℕ) (X : ℕ → Type 0) (P Q : Type 0) (f g : Piece) → Tests image X P f → Extends g → Tests image X Q g → Tests image X (P × Q) (both f g)
tests_both image X P Q f g first extends next = tests_then image X P Q f g first extends (λ _. next)

-- ---- comparisons

-- where a run ends there is an instruction
some_exit : (exit : List Ins) (image : List ℕ) (a x v : ℕ) → RunsTo exit image a x v → 0 < length exit
some_exit [] image a x v (zero, ends) = absurd ends
some_exit [] image a x v (suc n, ends) = absurd ends
some_exit (ins ∷ more) image a x v run = omega arith

pub over_front : (code : List Ins) (n : ℕ) (image : List ℕ) (X : ℕ → Type 0) (v a x : ℕ) (l : LeadsAt code n image X v) → X x → length l.front ≡ over code n
unfolding over
over_front code n image X v a x l fits =
    let some = some_exit l.exit image a x v (l.leads a x fits) in
    omega (arith, ap length l.is, length-append l.front l.exit, l.len, some)

hit : (rest : List Ins) (image : List ℕ) (X : ℕ → Type 0) (test : Test) (k : ℕ) (exits : Exits) (w x v : ℕ) → passes test w k ≡ true → LeadsAt rest exits.holds image X v → X x → RunsTo (fork test k exits rest) image w x v
hit rest image X test k exits w x v holds l fits =
    let e = over_front rest exits.holds image X v w x l fits in
    let hit = over rest exits.holds in
    let miss = over rest exits.fails in
    subst (λ (code : List Ins). RunsTo (branch test k hit miss ∷ code) image w x v) (sym l.is) (runs_hit l.front l.exit image test k hit miss w x v holds e (l.leads w x fits))

miss : (rest : List Ins) (image : List ℕ) (X : ℕ → Type 0) (test : Test) (k : ℕ) (exits : Exits) (w x v : ℕ) → passes test w k ≡ false → LeadsAt rest exits.fails image X v → X x → RunsTo (fork test k exits rest) image w x v
miss rest image X test k exits w x v fails l fits =
    let e = over_front rest exits.fails image X v w x l fits in
    let hit = over rest exits.holds in
    let miss = over rest exits.fails in
    subst (λ (code : List Ins). RunsTo (branch test k hit miss ∷ code) image w x v) (sym l.is) (runs_miss l.front l.exit image test k hit miss w x v fails e (l.leads w x fits))

either_way : (b : Bool) → (b ≡ true) ⊎ (b ≡ true → ⊥)
either_way true = inl refl
either_way false = inr (λ e. true≢false (sym e))

-- The comparison holds of what A becomes by some instructions, which leave X as it has to be.
pub tests_loaded : (image : List ℕ) (X Y : ℕ → Type 0) (w : ℕ) (test : Test) (k : ℕ) (load : List Ins → List Ins) → ((rest : List Ins) (v : ℕ) → ((x : ℕ) → Y x → RunsTo rest image w x v) → Leads (load rest) image X v) → ((x : ℕ) → Y x → X x) → Tests image X (passes test w k ≡ true) (λ exits rest. load (fork test k exits rest))
tests_loaded image X Y w test k load runs keeps = record {
  decided = either_way (passes test w k);
  holds = λ exits rest v leads p. runs (fork test k exits rest) v (λ x y. hit rest image X test k exits w x v p leads (keeps x y));
  fails = λ exits rest v leads n. runs (fork test k exits rest) v (λ x y. miss rest image X test k exits w x v (false_from_ne_true (passes test w k) n) leads (keeps x y));
}

pub tests_word : (image : List ℕ) (X : ℕ → Type 0) (at w : ℕ) (test : Test) (k : ℕ) → load_word image at ≡ Some w → Tests image X (passes test w k ≡ true) (word_test at test k)
tests_word image X at w test k is =
    tests_loaded image X X w test k (λ rest. image_word at ∷ rest) (λ rest v run a x fits. runs_image_word rest image at w a x v is (run x fits)) (λ x fits. fits)

-- what stands at an offset from X, which is a place
pub tests_indexed : (image : List ℕ) (place : ℕ) (width : Width) (at w : ℕ) (test : Test) (k : ℕ) → load width image (place + at) ≡ Some w → Tests image (At place) (passes test w k ≡ true) (indexed_test width at test k)
tests_indexed image place width at w test k is =
    tests_loaded image (At place) (At place) w test k (λ rest. load_indexed width at ∷ rest) (λ rest v run a x fits. runs_indexed rest image width at w a x v (subst (λ (y : ℕ). load width image (y + at) ≡ Some w) (sym fits) is) (run x fits)) (λ x fits. fits)

-- instructions that make X a place, and then a piece
pub tests_placed : (image : List ℕ) (P : Type 0) (place : ℕ) (front : List Ins → List Ins) (f : Piece) → ((rest : List Ins) (v : ℕ) → Leads rest image (At place) v → Leads (front rest) image Any v) → Tests image (At place) P f → Tests image Any P (λ exits rest. front (f exits rest))
tests_placed image P place front f runs t = record {
  decided = t.decided;
  holds = λ exits rest v leads p. runs (f exits rest) v (t.holds exits rest v (leads_any rest exits.holds image (At place) v leads) p);
  fails = λ exits rest v leads n. runs (f exits rest) v (t.fails exits rest v (leads_any rest exits.fails image (At place) v leads) n);
}

-- X becomes a text's place
pub tests_from_start : (image : List ℕ) (P : Type 0) (f : Piece) (at place : ℕ) → load_word image at ≡ Some place → Tests image (At place) P f → Tests image Any P (from_start at f)
tests_from_start image P f at place is t =
    tests_placed image P place (index_start at) f (λ rest v leads a x _. runs_image_word (index_from_a ∷ rest) image at place a x v is (runs_index_from_a rest image place x v (leads place place refl))) t
