-- Inner: the instructions of pieces, besides comparisons.
use Rattle.std.specs.Prelude.{ℕ}
use Rattle.bpf_code.specs.declared.operation.Arithmetic.TheVariants.{Add, Sub}
use Rattle.bpf_code.specs.declared.operation.Op.{Op}
use Rattle.bpf_code.specs.declared.operation.Op.TheVariants.{LoadImage, LoadIndexed, LoadLength, IndexFromA, Compute, ReturnConstant}
use Rattle.bpf_code.specs.declared.operation.Operand.TheVariants.{Constant, Index}
use Rattle.bpf_code.specs.Program.{IsLoadFine}
use Rattle.rule_compile.specs.Code.{plain}

abbrev pub IsOfPiece : Op → ℕ → Type 0
IsOfPiece (LoadImage width) k = IsLoadFine (LoadImage width) (plain (LoadImage width) k)
IsOfPiece (LoadIndexed width) k = Unit {0}
IsOfPiece LoadLength k = Unit {0}
IsOfPiece IndexFromA k = Unit {0}
IsOfPiece (Compute Add Index) k = Unit {0}
IsOfPiece (Compute Sub Constant) k = Unit {0}
IsOfPiece ReturnConstant k = Unit {0}
IsOfPiece _ k = ⊥
