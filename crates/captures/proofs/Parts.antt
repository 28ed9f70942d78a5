-- Parts of bytes, and whole blocks.
use Rattle.std.proofs.Common.{◌≡◌, ℕ, ◌-◌, ◌≤◌, false, not, List, ◌++◌, length, take, drop, Option, Some, None, Result, ap, ◌∙◌, arith, length-drop, min, lit≤}
use Rattle.std.specs.Prelude.{slice_range, nat_lt, ◌==◌, IfOk}
use Rattle.std.proofs.lemmas.Bool.{ltb-false, ltb-true}
use Rattle.std.proofs.lemmas.List.{take-append-le, drop-append-le, length-take}
use Rattle.captures.specs.declared.order.Order.{Order}
use Rattle.captures.specs.declared.order.Order.TheVariants.{Big}
use Rattle.captures.specs.declared.error.CaptureError.{CaptureError}
use Rattle.captures.specs.declared.block.Block.{Block}
use Rattle.captures.specs.declared.block.Framing.{Framing}
use Rattle.captures.specs.Standard.{section_type}
use Rattle.captures.specs.Numbers.{word}
use Rattle.captures.specs.Blocks.{order_of, is_block_len, block_at, block_in, framing_at, body_of}
use Rattle.captures.specs.BlockLengths.{IsFramed}
use Rattle.captures.proofs.Choices.{either_has}
use Rattle.captures.proofs.Grown.{twelve, no_more}

pub same_part : (bytes more : List ℕ) (from to : ℕ) → from ≤ to → to ≤ length bytes → slice_range (bytes ++ more) from to ≡ slice_range bytes from to
same_part bytes more from to order le =
    ap (take (to - from)) (drop-append-le from bytes more (omega arith))
    ∙ take-append-le (to - from) (drop from bytes) more (omega (arith, length-drop from bytes))

pub part_len : (bytes : List ℕ) (from to : ℕ) → from ≤ to → to ≤ length bytes → length (slice_range bytes from to) ≡ to - from
part_len bytes from to order le = length-take (to - from) (drop from bytes) ∙ omega (arith, length-drop from bytes)

-- ---- whole blocks lie within the bytes

block_at_there : (order : Order) (bytes : List ℕ) → IfOk (block_at order bytes) (IsFramed bytes)
block_at_there order bytes =
    let P : Result Framing CaptureError → Type 0 = λ r. IfOk r (IsFramed bytes) in
    either_has P (not (is_block_len (word order bytes 4))) _ _ (λ _. tt) (λ (good : not (is_block_len (word order bytes 4)) ≡ false).
    either_has P (nat_lt (length bytes) (word order bytes 4)) _ _ (λ few. (ltb-true (length bytes) (word order bytes 4) few, no_more (word order bytes 4) good)) (λ (enough : nat_lt (length bytes) (word order bytes 4) ≡ false).
    either_has P (not (word order bytes (word order bytes 4 - 4) == word order bytes 4)) _ _ (λ _. tt) (λ _.
    (twelve (word order bytes 4) good, ltb-false (length bytes) (word order bytes 4) enough))))

block_in_there : (bytes : List ℕ) (order : Option Order) → IfOk (block_in bytes order) (IsFramed bytes)
block_in_there bytes None = tt
block_in_there bytes (Some order) = block_at_there order bytes

pub framing_there : (order : Order) (bytes : List ℕ) → IfOk (framing_at order bytes) (IsFramed bytes)
framing_there order bytes =
    let P : Result Framing CaptureError → Type 0 = λ r. IfOk r (IsFramed bytes) in
    either_has P (nat_lt (length bytes) 8) _ _ (λ few. (ltb-true (length bytes) 8 few, lit≤ tt)) (λ _.
    either_has P (not (word Big bytes 0 == section_type)) _ _ (λ _. block_at_there order bytes) (λ _.
    either_has P (nat_lt (length bytes) 12) _ _ (λ few. (ltb-true (length bytes) 12 few, lit≤ tt)) (λ _.
    block_in_there bytes (order_of (word Big bytes 8)))))

-- ---- bodies

pub same_body : (block : Block) (bytes more : List ℕ) → 12 ≤ block.len → block.len ≤ length bytes → body_of block (bytes ++ more) ≡ body_of block bytes
same_body block bytes more min le = same_part bytes more 8 (block.len - 4) (omega arith) (omega arith)

pub body_len : (block : Block) (bytes : List ℕ) → 12 ≤ block.len → block.len ≤ length bytes → length (body_of block bytes) ≡ block.len - 12
body_len block bytes min le = part_len bytes 8 (block.len - 4) (omega arith) (omega arith) ∙ omega arith
