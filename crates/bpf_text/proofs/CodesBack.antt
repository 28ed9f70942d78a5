-- The code of a row is the code that has the row.
use Rattle.std.proofs.Common.{◌≡◌, ℕ, Bool, true, false, cond, Option, Some, None, refl, sym, ap, ◌∙◌}
use Rattle.std.specs.Prelude.{◌==◌}
use Rattle.std.proofs.lemmas.Bool.{eqb-true}
use Rattle.bpf_code.specs.declared.operation.Op.{Op}
use Rattle.bpf_code.specs.declared.operation.Op.TheVariants.{LoadConstant, LoadImage, LoadIndexed, LoadScratch, LoadLength, IndexConstant, IndexScratch, IndexLength, IndexHeader, StoreA, StoreX, Compute, Negate, Jump, Branch, ReturnConstant, ReturnA, IndexFromA, LoadFromX}
use Rattle.bpf_code.specs.declared.operation.Width.TheVariants.{Word, Half, Byte}
use Rattle.bpf_code.specs.declared.operation.Operand.TheVariants.{Constant, Index}
use Rattle.bpf_code.specs.declared.operation.Arithmetic.TheVariants.{Add, Sub, Mul, Div, Or, And, ShiftLeft, ShiftRight, Mod, Xor}
use Rattle.bpf_code.specs.declared.operation.Test.TheVariants.{Equal, Above, AtLeast, SharesBit}
use Rattle.bpf_code.specs.Table.{op_of, code_of}

same_op : (a b : Op) → Some a ≡ Some b → a ≡ b
same_op a b h = cc

or_row : (code : ℕ) (op : Op) (here : ℕ) (row : Op) (rest : Option Op) → code_of row ≡ here → (rest ≡ Some op → code_of op ≡ code) → cond (code == here) (Some row) rest ≡ Some op → code_of op ≡ code
or_row code op here row rest is later h = by (code == here) refl h
  where
    by : (b : Bool) → (code == here) ≡ b → cond b (Some row) rest ≡ Some op → code_of op ≡ code
    by true same e = ap code_of (sym (same_op row op e)) ∙ is ∙ sym (eqb-true code here same)
    by false same e = later e

no_row : (code : ℕ) (op : Op) → ◌≡◌ {A = Option Op} None (Some op) → code_of op ≡ code
no_row code op h = absurd (cc)

pub code_back : (code : ℕ) (op : Op) → op_of code ≡ Some op → code_of op ≡ code
code_back code op h =
    or_row code op 0x00 LoadConstant _ refl (
    or_row code op 0x20 (LoadImage Word) _ refl (
    or_row code op 0x28 (LoadImage Half) _ refl (
    or_row code op 0x30 (LoadImage Byte) _ refl (
    or_row code op 0x40 (LoadIndexed Word) _ refl (
    or_row code op 0x48 (LoadIndexed Half) _ refl (
    or_row code op 0x50 (LoadIndexed Byte) _ refl (
    or_row code op 0x60 LoadScratch _ refl (
    or_row code op 0x80 LoadLength _ refl (
    or_row code op 0x01 IndexConstant _ refl (
    or_row code op 0x61 IndexScratch _ refl (
    or_row code op 0x81 IndexLength _ refl (
    or_row code op 0xb1 IndexHeader _ refl (
    or_row code op 0x02 StoreA _ refl (
    or_row code op 0x03 StoreX _ refl (
    or_row code op 0x04 (Compute Add Constant) _ refl (
    or_row code op 0x0c (Compute Add Index) _ refl (
    or_row code op 0x14 (Compute Sub Constant) _ refl (
    or_row code op 0x1c (Compute Sub Index) _ refl (
    or_row code op 0x24 (Compute Mul Constant) _ refl (
    or_row code op 0x2c (Compute Mul Index) _ refl (
    or_row code op 0x34 (Compute Div Constant) _ refl (
    or_row code op 0x3c (Compute Div Index) _ refl (
    or_row code op 0x44 (Compute Or Constant) _ refl (
    or_row code op 0x4c (Compute Or Index) _ refl (
    or_row code op 0x54 (Compute And Constant) _ refl (
    or_row code op 0x5c (Compute And Index) _ refl (
    or_row code op 0x64 (Compute ShiftLeft Constant) _ refl (
    or_row code op 0x6c (Compute ShiftLeft Index) _ refl (
    or_row code op 0x74 (Compute ShiftRight Constant) _ refl (
    or_row code op 0x7c (Compute ShiftRight Index) _ refl (
    or_row code op 0x84 Negate _ refl (
    or_row code op 0x94 (Compute Mod Constant) _ refl (
    or_row code op 0x9c (Compute Mod Index) _ refl (
    or_row code op 0xa4 (Compute Xor Constant) _ refl (
    or_row code op 0xac (Compute Xor Index) _ refl (
    or_row code op 0x05 Jump _ refl (
    or_row code op 0x15 (Branch Equal Constant) _ refl (
    or_row code op 0x1d (Branch Equal Index) _ refl (
    or_row code op 0x25 (Branch Above Constant) _ refl (
    or_row code op 0x2d (Branch Above Index) _ refl (
    or_row code op 0x35 (Branch AtLeast Constant) _ refl (
    or_row code op 0x3d (Branch AtLeast Index) _ refl (
    or_row code op 0x45 (Branch SharesBit Constant) _ refl (
    or_row code op 0x4d (Branch SharesBit Index) _ refl (
    or_row code op 0x06 ReturnConstant _ refl (
    or_row code op 0x16 ReturnA _ refl (
    or_row code op 0x07 IndexFromA _ refl (
    or_row code op 0x87 LoadFromX _ refl (
    no_row code op))))))))))))))))))))))))))))))))))))))))))))))))) h
