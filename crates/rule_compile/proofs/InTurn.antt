-- Two pieces that test a fact in turn, with other pieces between them.
use Rattle.std.proofs.Common.{ℕ, List, ◌⊎◌, ◌↔◌, inl, inr}
use Rattle.bpf_code.specs.declared.instruction.Ins.{Ins}
use Rattle.rule_compile.proofs.Pieces.{Guarded, Leads, Any, Tests}
use Rattle.rule_compile.proofs.Combined.{Extends, guards, tests_none, tests_same, tests_both}

-- in front of any rest the piece ends as the rest does
abbrev Passes : List ℕ → (List Ins → List Ins) → Type 0
Passes image piece = (rest : List Ins) (v : ℕ) → Guarded rest → Leads rest image Any v → Leads (piece rest) image Any v

-- it says no match
abbrev Fails : List ℕ → (List Ins → List Ins) → Type 0
Fails image piece = (rest : List Ins) → Guarded rest → Leads (piece rest) image Any 0

-- Either the first piece passes, and the second one tests the fact; or the first one fails, and the fact doesn't hold.
pub record InTurn (image : List ℕ) (P : Type 0) (first second : List Ins → List Ins) : Type 0 where
  pub first_guarded : (rest : List Ins) → Guarded rest → Guarded (first rest)
  pub second_guarded : (rest : List Ins) → Guarded rest → Guarded (second rest)
  pub cases : (Passes image first × Tests image Any P second) ⊎ (Fails image first × (P → ⊥))

-- the first piece tests the whole fact
pub turn_first : (image : List ℕ) (P : Type 0) (f : List Ins → List Ins) → Tests image Any P f → InTurn image P f (λ rest. rest)
turn_first image P f t = record {
  first_guarded = t.guarded;
  second_guarded = λ rest g. g;
  cases = elim t.decided [
    | inl p ↦ inl (λ rest v g leads. t.passes rest v g leads p, tests_none image Any P p)
    | inr none ↦ inr (λ rest g. t.fails rest g none, none)
  ];
}

-- the second piece does
pub turn_second : (image : List ℕ) (P : Type 0) (g : List Ins → List Ins) → Tests image Any P g → InTurn image P (λ rest. rest) g
turn_second image P g t = record {
  first_guarded = λ rest is. is;
  second_guarded = t.guarded;
  cases = inl (λ rest v is leads. leads, t);
}

-- the first piece tests a part of the fact, and the second one need only do its work where that holds
pub turn_then : (image : List ℕ) (Q P : Type 0) (f g : List Ins → List Ins) → Tests image Any Q f → Extends g → (Q → Tests image Any P g) → (P → Q) → InTurn image P f g
turn_then image Q P f g first extends next part = record {
  first_guarded = first.guarded;
  second_guarded = guards g extends;
  cases = elim first.decided [
    | inl q ↦ inl (λ rest v h leads. first.passes rest v h leads q, next q)
    | inr none ↦ inr (λ rest h. first.fails rest h none, λ p. none (part p))
  ];
}

-- the fact in other words
pub turn_same : (image : List ℕ) (P Q : Type 0) (f g : List Ins → List Ins) → P ↔ Q → InTurn image P f g → InTurn image Q f g
turn_same image P Q f g same t = record {
  first_guarded = t.first_guarded;
  second_guarded = t.second_guarded;
  cases = elim t.cases [
    | inl both ↦ inl (both.0, tests_same image Any P Q g same both.1)
    | inr none ↦ inr (none.0, λ q. none.1 (same.1 q))
  ];
}

-- one more piece in front of the first one, where the others need only do their work if it passes
pub turn_after : (image : List ℕ) (Q P : Type 0) (h f g : List Ins → List Ins) → Tests image Any Q h → Extends f → Extends g → (Q → InTurn image P f g) → InTurn image (Q × P) (λ rest. h (f rest)) g
turn_after image Q P h f g front extends_f extends_g next = record {
  first_guarded = λ rest is. front.guarded (f rest) (guards f extends_f rest is);
  second_guarded = guards g extends_g;
  cases = elim front.decided [
    | inl q ↦ elim (next q).cases [
      | inl both ↦ inl (λ rest v is leads. front.passes (f rest) v (guards f extends_f rest is) (both.0 rest v is leads) q, tests_same image Any P (Q × P) g (λ p. (q, p), λ each. each.1) both.1)
      | inr none ↦ inr (λ rest is. front.passes (f rest) 0 (guards f extends_f rest is) (none.0 rest is) q, λ each. none.1 each.1)
    ]
    | inr none ↦ inr (λ rest is. front.fails (f rest) (guards f extends_f rest is) none, λ each. none each.0)
  ];
}

-- ---- two facts

-- the first pieces one after the other, and any piece that joins the second ones
turn_joined : (image : List ℕ) (P Q : Type 0) (f g h k both : List Ins → List Ins) → InTurn image P f g → InTurn image Q h k → ((rest : List Ins) → Guarded rest → Guarded (both rest)) → (Tests image Any P g → Tests image Any Q k → Tests image Any (P × Q) both) → InTurn image (P × Q) (λ rest. f (h rest)) both
turn_joined image P Q f g h k both one other guarded join = record {
  first_guarded = λ rest is. one.first_guarded (h rest) (other.first_guarded rest is);
  second_guarded = guarded;
  cases = elim one.cases [
    | inl a ↦ elim other.cases [
      | inl b ↦ inl (λ rest v is leads. a.0 (h rest) v (other.first_guarded rest is) (b.0 rest v is leads), join a.1 b.1)
      | inr b ↦ inr (λ rest is. a.0 (h rest) 0 (other.first_guarded rest is) (b.0 rest is), λ each. b.1 each.1)
    ]
    | inr a ↦ inr (λ rest is. a.0 (h rest) (other.first_guarded rest is), λ each. a.1 each.0)
  ];
}

-- the second pieces in the same order
pub turn_both : (image : List ℕ) (P Q : Type 0) (f g h k : List Ins → List Ins) → InTurn image P f g → InTurn image Q h k → InTurn image (P × Q) (λ rest. f (h rest)) (λ rest. g (k rest))
turn_both image P Q f g h k one other =
    turn_joined image P Q f g h k (λ rest. g (k rest)) one other (λ rest is. one.second_guarded (k rest) (other.second_guarded rest is)) (tests_both image Any P Q g k)

-- the second pieces in the other order
pub turn_around : (image : List ℕ) (P Q : Type 0) (f g h k : List Ins → List Ins) → InTurn image P f g → InTurn image Q h k → InTurn image (P × Q) (λ rest. f (h rest)) (λ rest. k (g rest))
turn_around image P Q f g h k one other =
    turn_joined image P Q f g h k (λ rest. k (g rest)) one other (λ rest is. other.second_guarded (g rest) (one.second_guarded rest is)) (λ a b. tests_same image Any (Q × P) (P × Q) (λ rest. k (g rest)) (λ each. (each.1, each.0), λ each. (each.1, each.0)) (tests_both image Any Q P k g b a))

-- one piece right after the other
pub turn_one : (image : List ℕ) (P : Type 0) (f g : List Ins → List Ins) → InTurn image P f g → Tests image Any P (λ rest. f (g rest))
turn_one image P f g t = record {
  decided = elim t.cases [ inl both ↦ both.1.decided | inr none ↦ inr none.1 ];
  guarded = λ rest is. t.first_guarded (g rest) (t.second_guarded rest is);
  passes = λ rest v is leads p. elim t.cases [
    | inl both ↦ both.0 (g rest) v (t.second_guarded rest is) (both.1.passes rest v is leads p)
    | inr none ↦ absurd (none.1 p)
  ];
  fails = λ rest is n. elim t.cases [
    | inl both ↦ both.0 (g rest) 0 (t.second_guarded rest is) (both.1.fails rest is n)
    | inr none ↦ none.0 (g rest) (t.second_guarded rest is)
  ];
}
