-- What a lowered program is (own).
use Rattle.std.specs.Prelude.{◌≤◌, ◌<◌, ℕ, List, length}
use Rattle.bpf_code.specs.declared.instruction.Ins.{Ins}
use Rattle.bpf_code.specs.Program.{WellFormed}
use Rattle.bpf_code.specs.Steps.{Ends}
use Rattle.jump_islands.specs.declared.error.LowerError.{LowerError}
use Rattle.jump_islands.specs.declared.error.LowerError.TheVariants.{TooMany, NoMemory}
use Rattle.jump_islands.specs.Draft.{DraftTree, instructions_of}
use Rattle.jump_islands.specs.PlainLength.{plain_length}
use Rattle.jump_islands.specs.Source.{AreWellMade}

abbrev pub max_len : ℕ
max_len = 4096

-- The program ends with just the verdicts of the source program, over every image; it is accepted where that is
-- well made; and it isn't longer than without sharing.
pub record IsTarget (source program : List Ins) : Type 0 where
  pub ends : (image : List ℕ) (v n : ℕ) → Ends source image v n → (m : ℕ) × Ends program image v m
  pub only : (image : List ℕ) (v n : ℕ) → Ends program image v n → (m : ℕ) × Ends source image v m
  pub accepted : AreWellMade source → WellFormed program
  pub few : length program ≤ max_len
  pub short : length program ≤ plain_length source

-- when a source program is refused; want of memory says nothing of it
abbrev pub IsTargetRefusal : List Ins → LowerError → Type 0
IsTargetRefusal source TooMany = max_len < plain_length source
IsTargetRefusal source NoMemory = Unit {0}

-- the same of a draft
abbrev pub IsLowered : DraftTree → List Ins → Type 0
IsLowered draft program = IsTarget (instructions_of draft) program

abbrev pub IsRefusal : DraftTree → LowerError → Type 0
IsRefusal draft error = IsTargetRefusal (instructions_of draft) error
