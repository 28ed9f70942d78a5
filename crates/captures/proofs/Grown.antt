-- Numbers and blocks at the front of bytes stay where they are, whatever comes after the bytes.
use Rattle.std.proofs.Common.{◌≡◌, ℕ, ◌+◌, ◌-◌, ◌≤◌, Bool, true, false, not, cond, List, ◌++◌, get_or, length, Option, Some, None, Result, Ok, Err, refl, ap, ◌∙◌, arith, length-append}
use Rattle.std.specs.Prelude.{nat_lt, nat_le, ◌==◌}
use Rattle.std.proofs.lemmas.Bool.{ltb-false, le-ltb, leb-true}
use Rattle.std.proofs.lemmas.List.{get_or_append_left}
use Rattle.captures.specs.declared.order.Order.{Order}
use Rattle.captures.specs.declared.order.Order.TheVariants.{Big}
use Rattle.captures.specs.declared.error.CaptureError.{CaptureError}
use Rattle.captures.specs.declared.error.CaptureError.TheVariants as faults
use Rattle.captures.specs.declared.block.Framing.{Framing}
use Rattle.captures.specs.declared.block.Framing.TheVariants.{Wants, Whole}
use Rattle.captures.specs.Standard.{section_type}
use Rattle.captures.specs.Numbers.{half, word}
use Rattle.captures.specs.Blocks.{kind_of, order_of, is_block_len, block_at, block_in, framing_at}
use Rattle.captures.proofs.Choices.{both_true, Stays, stays_where_same, stays_past}

pub same_word : (order : Order) (bytes more : List ℕ) (at : ℕ) → at + 4 ≤ length bytes → word order (bytes ++ more) at ≡ word order bytes at
same_word order bytes more at le =
    let a : get_or (bytes ++ more) at 0 ≡ get_or bytes at 0 = get_or_append_left bytes more 0 at (omega arith) in
    let b : get_or (bytes ++ more) (at + 1) 0 ≡ get_or bytes (at + 1) 0 = get_or_append_left bytes more 0 (at + 1) (omega arith) in
    let c : get_or (bytes ++ more) (at + 2) 0 ≡ get_or bytes (at + 2) 0 = get_or_append_left bytes more 0 (at + 2) (omega arith) in
    let d : get_or (bytes ++ more) (at + 3) 0 ≡ get_or bytes (at + 3) 0 = get_or_append_left bytes more 0 (at + 3) (omega arith) in
    cc

pub same_half : (order : Order) (bytes more : List ℕ) (at : ℕ) → at + 2 ≤ length bytes → half order (bytes ++ more) at ≡ half order bytes at
same_half order bytes more at le =
    let a : get_or (bytes ++ more) at 0 ≡ get_or bytes at 0 = get_or_append_left bytes more 0 at (omega arith) in
    let b : get_or (bytes ++ more) (at + 1) 0 ≡ get_or bytes (at + 1) 0 = get_or_append_left bytes more 0 (at + 1) (omega arith) in
    cc

-- bytes that suffice still do
pub still_enough : (bytes more : List ℕ) (n : ℕ) → nat_lt (length bytes) n ≡ false → nat_lt (length (bytes ++ more)) n ≡ false
still_enough bytes more n enough =
    let le : n ≤ length bytes = ltb-false (length bytes) n enough in
    le-ltb (length (bytes ++ more)) n (omega (arith, length-append bytes more, le))

abbrev pub is_framed : Result Framing CaptureError → Bool
is_framed (Err fault) = true
is_framed (Ok (Wants len)) = false
is_framed (Ok (Whole block)) = true

-- a block of a length
abbrev block_as : Order → List ℕ → ℕ → Result Framing CaptureError
block_as order bytes len =
    cond (not (is_block_len len)) (Err faults.BlockLength)
    (cond (nat_lt (length bytes) len) (Ok (Wants len))
    (cond (not (word order bytes (len - 4) == len)) (Err faults.BlockLength)
    (Ok (Whole (record { kind = kind_of (word order bytes 0); order = order; len = len })))))

pub twelve : (len : ℕ) → not (is_block_len len) ≡ false → 12 ≤ len
twelve len e = go (is_block_len len) refl e
  where
    go : (b : Bool) → is_block_len len ≡ b → not b ≡ false → 12 ≤ len
    go true is e = leb-true 12 len (both_true (nat_le 12 len) _ (both_true _ _ is).0).0
    go false is e = absurd cc

pub no_more : (len : ℕ) → not (is_block_len len) ≡ false → len ≤ 268435456
no_more len e = go (is_block_len len) refl e
  where
    go : (b : Bool) → is_block_len len ≡ b → not b ≡ false → len ≤ 268435456
    go true is e = leb-true len 268435456 (both_true (nat_le 12 len) _ (both_true _ _ is).0).1
    go false is e = absurd cc

block_as_stays : (order : Order) (bytes more : List ℕ) (len : ℕ) → Stays is_framed (block_as order bytes len) (block_as order (bytes ++ more) len)
block_as_stays order bytes more len =
    stays_where_same is_framed (not (is_block_len len)) _ _ _ _ _ refl (λ _ _. refl) (λ (good : not (is_block_len len) ≡ false).
    stays_past is_framed (nat_lt (length bytes) len) _ _ _ _ refl (still_enough bytes more len) (λ (enough : nat_lt (length bytes) len ≡ false).
    let le : len ≤ length bytes = ltb-false (length bytes) len enough in
    let min : 12 ≤ len = twelve len good in
    let last : word order (bytes ++ more) (len - 4) ≡ word order bytes (len - 4) = same_word order bytes more (len - 4) (omega arith) in
    let first : word order (bytes ++ more) 0 ≡ word order bytes 0 = same_word order bytes more 0 (omega arith) in
    let test : (not (word order (bytes ++ more) (len - 4) == len)) ≡ (not (word order bytes (len - 4) == len)) = ap (λ (w : ℕ). not (w == len)) last in
    stays_where_same is_framed (not (word order bytes (len - 4) == len)) _ _ _ _ _ test (λ _ _. refl) (λ _ _.
    ap (λ (w : ℕ). let whole : Result Framing CaptureError = Ok (Whole (record { kind = kind_of w; order = order; len = len })) in whole) first)))

block_at_stays : (order : Order) (bytes more : List ℕ) → 8 ≤ length bytes → Stays is_framed (block_at order bytes) (block_at order (bytes ++ more))
block_at_stays order bytes more le settled =
    ap (block_as order (bytes ++ more)) (same_word order bytes more 4 le) ∙ block_as_stays order bytes more (word order bytes 4) settled

block_in_stays : (bytes more : List ℕ) (order : Option Order) → 8 ≤ length bytes → Stays is_framed (block_in bytes order) (block_in (bytes ++ more) order)
block_in_stays bytes more None le settled = refl
block_in_stays bytes more (Some order) le settled = block_at_stays order bytes more le settled

pub framing_stays : (order : Order) (bytes more : List ℕ) → Stays is_framed (framing_at order bytes) (framing_at order (bytes ++ more))
framing_stays order bytes more =
    stays_past is_framed (nat_lt (length bytes) 8) _ _ _ _ refl (still_enough bytes more 8) (λ (enough : nat_lt (length bytes) 8 ≡ false).
    let eight : 8 ≤ length bytes = ltb-false (length bytes) 8 enough in
    let first : word Big (bytes ++ more) 0 ≡ word Big bytes 0 = same_word Big bytes more 0 (omega arith) in
    let test : (not (word Big (bytes ++ more) 0 == section_type)) ≡ (not (word Big bytes 0 == section_type)) = ap (λ (w : ℕ). not (w == section_type)) first in
    stays_where_same is_framed (not (word Big bytes 0 == section_type)) _ _ _ _ _ test (λ _. block_at_stays order bytes more eight) (λ _.
    stays_past is_framed (nat_lt (length bytes) 12) _ _ _ _ refl (still_enough bytes more 12) (λ (enough : nat_lt (length bytes) 12 ≡ false).
    let le : 12 ≤ length bytes = ltb-false (length bytes) 12 enough in
    let magic : word Big (bytes ++ more) 8 ≡ word Big bytes 8 = same_word Big bytes more 8 le in
    (λ settled. ap (λ (w : ℕ). block_in (bytes ++ more) (order_of w)) magic ∙ block_in_stays bytes more (order_of (word Big bytes 8)) eight settled))))
