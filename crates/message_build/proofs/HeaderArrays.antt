-- Where the array of a valid message's header fields lies.
use Rattle.std.proofs.Common.{◌≡◌, ℕ, ◌+◌, ◌≤◌, List, [], ◌∷◌, length, get_or, take, drop, sym, ap, ◌∙◌, arith}
use Rattle.message_value.specs.declared.order.Order.{Order}
use Rattle.message_value.specs.Order.{word_of}
use Rattle.message_view.specs.Message.{Message}
use Rattle.message_view.specs.Spelling.{header_bytes}
use Rattle.message_view.specs.Valid.{Valid}
use Rattle.message_view.proofs.OneMessage.{valid_lies}
use Rattle.message_build.proofs.FourBytes.{four_bytes}

-- the length of a valid message's fields, as its word says it
pub fields_len_said : (raw : List ℕ) (m : Message) (order : Order) (word : List ℕ) (n : ℕ) → Valid raw m → order ≡ m.order → length word ≡ 4 → word ≡ take 4 (drop 12 raw)
    → n ≡ word_of order (get_or word 0 0 ∷ get_or word 1 0 ∷ get_or word 2 0 ∷ get_or word 3 0 ∷ []) → n ≡ length (header_bytes m)
fields_len_said raw m order word n v order_is four is text_said =
    let l = valid_lies raw m v in
    text_said
    ∙ ap (word_of order) (sym (four_bytes word four) ∙ is)
    ∙ ap (λ (o : Order). word_of o (take 4 (drop 12 raw))) (order_is ∙ sym l.is_order)
    ∙ l.is_len

-- the fixed part and the array are there
pub array_within : (raw : List ℕ) (m : Message) (n : ℕ) → Valid raw m → n ≡ length (header_bytes m) → 16 + n ≤ length raw
array_within raw m n v is = let l = valid_lies raw m v in omega (arith, l.is_whole, is)

pub array_is : (raw : List ℕ) (m : Message) (n : ℕ) → Valid raw m → n ≡ length (header_bytes m) → take n (drop 16 raw) ≡ header_bytes m
array_is raw m n v is = let l = valid_lies raw m v in ap (λ (k : ℕ). take k (drop 16 raw)) is ∙ l.are_fields
