-- Inner: what is known of a program under way.
use Rattle.std.specs.Prelude.{◌<◌, ◌-◌, ℕ, List, length}
use Rattle.bpf_code.specs.declared.instruction.Ins.{Ins}
use Rattle.bpf_code.specs.declared.operation.Op.{Op}
use Rattle.bpf_code.specs.declared.operation.Op.TheVariants.{LoadImage, LoadIndexed, IndexFromA, ReturnConstant}
use Rattle.bpf_code.specs.Flow.{At, Reads}
use Rattle.bpf_code.specs.Program.{IsLoadFine, IsFine, IsReturn}
use Rattle.rule_compile.specs.Code.{plain}

-- what makes a program well made, where it reads no scratch word at all
pub record IsSound (code : List Ins) : Type 0 where
  pub some : 0 < length code
  pub fine : (place : ℕ) → place < length code → At code place (IsFine (length code) place)
  pub last : At code (length code - 1) IsReturn
  pub quiet : (place k : ℕ) → At code place (Reads k) → ⊥

-- what stands in pieces besides comparisons
abbrev pub IsOfPiece : Op → ℕ → Type 0
IsOfPiece (LoadImage width) k = IsLoadFine (LoadImage width) (plain (LoadImage width) k)
IsOfPiece (LoadIndexed width) k = Unit {0}
IsOfPiece IndexFromA k = Unit {0}
IsOfPiece ReturnConstant k = Unit {0}
IsOfPiece _ k = ⊥
