-- Programs under way stay sound: an instruction in front keeps what makes them well made.
use Rattle.std.proofs.Common.{ℕ, ◌<◌, List, ◌∷◌, length, refl, arith}
use Rattle.bpf_code.specs.declared.instruction.Ins.{Ins}
use Rattle.bpf_code.specs.declared.operation.Arithmetic.TheVariants.{Add, Sub}
use Rattle.bpf_code.specs.declared.operation.Op.{Op}
use Rattle.bpf_code.specs.declared.operation.Op.TheVariants.{LoadImage, LoadIndexed, LoadLength, IndexFromA, Compute, ReturnConstant, Jump}
use Rattle.bpf_code.specs.declared.operation.Operand.TheVariants.{Constant, Index}
use Rattle.bpf_code.proofs.OneTable.{row_of_code}
use Rattle.jump_islands.specs.Source.{jump_over}
use Rattle.rule_compile.specs.Code.{plain}
use Rattle.rule_compile.specs.Sound.{IsSound}
use Rattle.rule_compile.proofs.Sound.{in_front}
use Rattle.filter_compile.specs.Sound.{IsOfPiece}

pub plain_sound : (op : Op) (k : ℕ) (rest : List Ins) → IsOfPiece op k → IsSound rest → IsSound (plain op k ∷ rest)
plain_sound (LoadImage width) k rest small s = in_front _ _ rest (row_of_code (LoadImage width)) (record { constant = tt; scratch = tt; jump = tt; load = small }) (λ j h. h) s
plain_sound (LoadIndexed width) k rest is s = in_front _ _ rest (row_of_code (LoadIndexed width)) (record { constant = tt; scratch = tt; jump = tt; load = tt }) (λ j h. h) s
plain_sound LoadLength k rest is s = in_front (plain LoadLength k) LoadLength rest refl (record { constant = tt; scratch = tt; jump = tt; load = tt }) (λ j h. h) s
plain_sound IndexFromA k rest is s = in_front (plain IndexFromA k) IndexFromA rest refl (record { constant = tt; scratch = tt; jump = tt; load = tt }) (λ j h. h) s
plain_sound (Compute Add Index) k rest is s = in_front (plain (Compute Add Index) k) (Compute Add Index) rest refl (record { constant = tt; scratch = tt; jump = tt; load = tt }) (λ j h. h) s
plain_sound (Compute Sub Constant) k rest is s = in_front (plain (Compute Sub Constant) k) (Compute Sub Constant) rest refl (record { constant = tt; scratch = tt; jump = tt; load = tt }) (λ j h. h) s
plain_sound ReturnConstant k rest is s = in_front (plain ReturnConstant k) ReturnConstant rest refl (record { constant = tt; scratch = tt; jump = tt; load = tt }) (λ j h. h) s
plain_sound _ k rest none s = absurd none

pub jump_sound : (over : ℕ) (rest : List Ins) → over < length rest → IsSound rest → IsSound (jump_over over ∷ rest)
jump_sound over rest inside s =
    in_front (jump_over over) Jump rest refl (record { constant = tt; scratch = tt; jump = omega arith; load = tt }) (λ k h. h) s
