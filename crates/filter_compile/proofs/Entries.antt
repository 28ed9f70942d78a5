-- Places of a program from which runs choose an exit by a fact: several entries may lead into the same instructions.
use Rattle.std.proofs.Common.{ℕ, length, List, ◌⊎◌, ◌↔◌, inl, inr}
use Rattle.bpf_code.specs.declared.instruction.Ins.{Ins}
use Rattle.filter_compile.specs.declared.exits.Exits.{Exits}
use Rattle.filter_compile.specs.Pieces.{Piece}
use Rattle.filter_compile.proofs.TwoExits.{Before, LeadsAt, leads_here, leads_on, Tests}

-- From the place with `entry` instructions to the end a run comes to the one exit of the base where the fact holds, and to
-- the other where it doesn't.
pub record Decides (image : List ℕ) (X : ℕ → Type 0) (base : List Ins) (exits : Exits) (code : List Ins) (entry : ℕ) (C : Type 0) : Type 0 where
  pub decided : C ⊎ (C → ⊥)
  pub holds : (v : ℕ) → LeadsAt base exits.holds image X v → C → LeadsAt code entry image X v
  pub fails : (v : ℕ) → LeadsAt base exits.fails image X v → (C → ⊥) → LeadsAt code entry image X v

-- more in front
pub decides_on : (image : List ℕ) (X : ℕ → Type 0) (base : List Ins) (exits : Exits) (code more : List Ins) (entry : ℕ) (C : Type 0) → Before code more → Decides image X base exits code entry C → Decides image X base exits more entry C
decides_on image X base exits code more entry C before d = record {
  decided = d.decided;
  holds = λ v leads c. leads_on more code entry image X v before (d.holds v leads c);
  fails = λ v leads n. leads_on more code entry image X v before (d.fails v leads n);
}

-- the fact in other words
pub decides_same : (image : List ℕ) (X : ℕ → Type 0) (base : List Ins) (exits : Exits) (code : List Ins) (entry : ℕ) (C D : Type 0) → C ↔ D → Decides image X base exits code entry C → Decides image X base exits code entry D
decides_same image X base exits code entry C D same d = record {
  decided = elim d.decided [ inl c ↦ inl (same.0 c) | inr n ↦ inr (λ d. n (same.1 d)) ];
  holds = λ v leads e. d.holds v leads (same.1 e);
  fails = λ v leads n. d.fails v leads (λ c. n (same.0 c));
}

-- the exits themselves
pub decides_true : (image : List ℕ) (X : ℕ → Type 0) (base : List Ins) (exits : Exits) (C : Type 0) → C → Decides image X base exits base exits.holds C
decides_true image X base exits C c = record { decided = inl c; holds = λ v leads _. leads; fails = λ v leads n. absurd (n c) }

pub decides_false : (image : List ℕ) (X : ℕ → Type 0) (base : List Ins) (exits : Exits) (C : Type 0) → (C → ⊥) → Decides image X base exits base exits.fails C
decides_false image X base exits C none = record { decided = inr none; holds = λ v leads c. absurd (none c); fails = λ v leads n. leads }

-- a test that goes on at the one entry where it holds, and at the other where it doesn't
pub decides_test : (image : List ℕ) (X : ℕ → Type 0) (base : List Ins) (exits : Exits) (code : List Ins) (P C : Type 0) (f : Piece) (ways : Exits) → Tests image X P f → (P → Decides image X base exits code ways.holds C) → ((P → ⊥) → Decides image X base exits code ways.fails C) → Decides image X base exits (f ways code) (length (f ways code)) C
decides_test image X base exits code P C f ways t one other = elim t.decided [
  | inl p ↦ (let d = one p in record {
    decided = d.decided;
    holds = λ v leads c. leads_here (f ways code) image X v (t.holds ways code v (d.holds v leads c) p);
    fails = λ v leads n. leads_here (f ways code) image X v (t.holds ways code v (d.fails v leads n) p);
  })
  | inr none ↦ (let d = other none in record {
    decided = d.decided;
    holds = λ v leads c. leads_here (f ways code) image X v (t.fails ways code v (d.holds v leads c) none);
    fails = λ v leads n. leads_here (f ways code) image X v (t.fails ways code v (d.fails v leads n) none);
  })
]
