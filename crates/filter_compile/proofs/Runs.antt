-- Runs of instructions that rules have none of, one at a time.
use Rattle.std.proofs.Common.{◌≡◌, ℕ, suc, ◌+◌, ◌-◌, ◌^◌, ◌%◌, ◌<◌, List, [], ◌∷◌, ◌++◌, length, refl, arith}
use Rattle.bpf_code.specs.declared.instruction.Ins.{Ins}
use Rattle.bpf_code.specs.declared.operation.Arithmetic.TheVariants.{Add, Sub}
use Rattle.bpf_code.specs.declared.operation.Op.TheVariants.{Compute, LoadLength}
use Rattle.bpf_code.specs.declared.operation.Operand.TheVariants.{Constant, Index}
use Rattle.jump_islands.specs.Source.{jump_over}
use Rattle.rule_compile.specs.Code.{plain}
use Rattle.rule_compile.proofs.Pieces.{RunsTo}
use Rattle.rule_compile.proofs.Runs.{runs_after}

-- A becomes the number of bytes of the image
pub runs_length : (rest : List Ins) (image : List ℕ) (a x v : ℕ) → RunsTo rest image (length image) x v → RunsTo (plain LoadLength 0 ∷ rest) image a x v
runs_length rest image a x v run =
    let later = runs_after (plain LoadLength 0 ∷ []) rest image (length image) x v 1 refl run in (suc later.0, later.1)

-- a number less
pub runs_sub : (rest : List Ins) (image : List ℕ) (k w a x v : ℕ) → k < 2 ^ 32 → a < 2 ^ 32 → w + k ≡ a → RunsTo rest image w x v → RunsTo (plain (Compute Sub Constant) k ∷ rest) image a x v
runs_sub rest image k w a x v small fits is run =
    let later = runs_after (plain (Compute Sub Constant) k ∷ []) rest image w x v 1 refl run in
    let e : (a + (2 ^ 32 - k)) % 2 ^ 32 ≡ w = omega arith in
    (suc later.0, rw e later.1)

-- X more
pub runs_add : (rest : List Ins) (image : List ℕ) (a x v : ℕ) → a + x < 2 ^ 32 → RunsTo rest image (a + x) x v → RunsTo (plain (Compute Add Index) 0 ∷ rest) image a x v
runs_add rest image a x v fits run =
    let later = runs_after (plain (Compute Add Index) 0 ∷ []) rest image (a + x) x v 1 refl run in
    let e : (a + x) % 2 ^ 32 ≡ a + x = omega arith in
    (suc later.0, rw e later.1)

-- a jump
pub runs_jump : (front exit : List Ins) (image : List ℕ) (over a x v : ℕ) → length front ≡ over → RunsTo exit image a x v → RunsTo (jump_over over ∷ (front ++ exit)) image a x v
runs_jump front exit image over a x v is run =
    let later = runs_after (jump_over over ∷ front) exit image a x v (1 + over) (omega arith) run in (suc later.0, later.1)
