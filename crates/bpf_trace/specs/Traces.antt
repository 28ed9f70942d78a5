-- The steps of a run, one after another, and the lines of them (own).
use Rattle.std.specs.Prelude.{◌≡◌, ℕ, suc, List, [], ◌∷◌, length}
use Rattle.std.specs.List.{flat_map}
use Rattle.bpf_code.specs.declared.instruction.Ins.{Ins}
use Rattle.bpf_code.specs.Steps.{State, start, Goes, Stops, Step}
use Rattle.summary.specs.declared.edition.Edition.{Edition}
use Rattle.bpf_trace.specs.Lines.{step_line}

-- the configurations after one, each of which a step leads to from the one before it; at the last one a step stops with
-- verdict v
abbrev pub AreSteps : List Ins → List ℕ → ℕ → State → List State → Type 0
AreSteps program image v s [] = Step program image s (Stops v)
AreSteps program image v s (t ∷ later) = Step program image s (Goes t) × AreSteps program image v t later

-- A text has a line for each step from the start to the verdict.
pub record IsTrace (edition : Edition) (program : List Ins) (image : List ℕ) (v steps : ℕ) (text : List ℕ) : Type 0 where
  pub later : List State
  pub are_steps : AreSteps program image v start later
  pub count : steps ≡ suc (length later)
  pub lines : text ≡ flat_map (step_line edition program image) (start ∷ later)
