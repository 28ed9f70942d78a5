-- What a piece of a program does in front of any rest: it tests a fact of the image.
use Rattle.std.proofs.Common.{◌≡◌, ℕ, List, [], ◌∷◌, ◌++◌, None, ◌⊎◌}
use Rattle.bpf_code.specs.declared.instruction.Ins.{Ins}
use Rattle.bpf_code.specs.Steps.{EndsFrom}
use Rattle.rule_compile.specs.Code.{returns}

-- from its first instruction on, with these registers, a program ends with a verdict
abbrev pub RunsTo : List Ins → List ℕ → ℕ → ℕ → ℕ → Type 0
RunsTo code image a x v = (n : ℕ) × EndsFrom code image v n (record { place = 0; a = a; x = x; words = λ k. None })

-- the last instruction says no match
abbrev pub Guarded : List Ins → Type 0
Guarded code = (front : List Ins) × (code ≡ front ++ returns 0 ∷ [])

-- the rest ends with a verdict, whatever A is, where X is as it has to be
abbrev pub Leads : List Ins → List ℕ → (ℕ → Type 0) → ℕ → Type 0
Leads code image X v = (a x : ℕ) → X x → RunsTo code image a x v

-- any X
abbrev pub Any : ℕ → Type 0
Any x = Unit {0}

-- In front of any rest the piece ends as the rest does where the fact holds, and with 0 where it doesn't.
pub record Tests (image : List ℕ) (X : ℕ → Type 0) (P : Type 0) (piece : List Ins → List Ins) : Type 0 where
  pub decided : P ⊎ (P → ⊥)
  pub guarded : (rest : List Ins) → Guarded rest → Guarded (piece rest)
  pub passes : (rest : List Ins) (v : ℕ) → Guarded rest → Leads rest image X v → P → Leads (piece rest) image X v
  pub fails : (rest : List Ins) → Guarded rest → (P → ⊥) → Leads (piece rest) image X 0
