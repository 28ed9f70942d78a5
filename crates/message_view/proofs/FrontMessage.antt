-- A message at the front of more bytes: its length is said there.
use Rattle.std.proofs.Common.{◌≡◌, ℕ, ◌+◌, ◌<◌, ◌≤◌, eqb, cond, List, ◌++◌, length, get_or, take, drop, is_none, Some, Ok, sym, ap, ◌∙◌, arith}
use Rattle.std.proofs.lemmas.List.{get_or_append_left, take-append-le, drop-append-le, length-append, length-drop}
use Rattle.message_value.specs.declared.order.Order.{Order}
use Rattle.message_value.specs.declared.order.Order.TheVariants.{Little, Big}
use Rattle.message_value.specs.Order.{order_of, word_of}
use Rattle.message_view.specs.Header.{kind_of}
use Rattle.message_view.specs.Message.{Message}
use Rattle.message_value.specs.Spelling.{padding}
use Rattle.message_view.specs.Spelling.{fixed_len, header_bytes, body_bytes}
use Rattle.message_view.specs.Valid.{Valid}
use Rattle.message_view.specs.Fixed.{order_in, word_at, body_len, serial_in, fields_len, whole_len, framing}
use Rattle.message_view.proofs.FixedPart.{IsFixed, framing_again}
use Rattle.message_view.proofs.OneMessage.{valid_lies, valid_fixed, lies_whole}

same_order : (bytes rest : List ℕ) → 0 < length bytes → order_in (bytes ++ rest) ≡ order_in bytes
same_order bytes rest lt = ap (λ (b : ℕ). cond (eqb b 108) Little Big) (get_or_append_left bytes rest 0 0 lt)

-- a word that lies in front
word_in_front : (place : ℕ) (bytes rest : List ℕ) → place + 4 ≤ length bytes → word_at place (bytes ++ rest) ≡ word_at place bytes
word_in_front place bytes rest le =
    let four : take 4 (drop place (bytes ++ rest)) ≡ take 4 (drop place bytes) = ap (take 4) (drop-append-le place bytes rest (omega arith)) ∙ take-append-le 4 (drop place bytes) rest (omega (arith, length-drop place bytes)) in
    ap (λ (o : Order). word_of o (take 4 (drop place (bytes ++ rest)))) (same_order bytes rest (omega arith)) ∙ ap (word_of (order_in bytes)) four

pub whole_in_front : (bytes rest : List ℕ) → fixed_len ≤ length bytes → whole_len (bytes ++ rest) ≡ whole_len bytes
whole_in_front bytes rest long =
    let fields : fields_len (bytes ++ rest) ≡ fields_len bytes = word_in_front 12 bytes rest (omega arith) in
    let body : body_len (bytes ++ rest) ≡ body_len bytes = word_in_front 4 bytes rest (omega arith) in
    ap (λ (k : ℕ). fixed_len + k + padding 8 k + body_len (bytes ++ rest)) fields ∙ ap (λ (k : ℕ). fixed_len + fields_len bytes + padding 8 (fields_len bytes) + k) body

pub fixed_in_front : (bytes rest : List ℕ) → IsFixed bytes → IsFixed (bytes ++ rest)
fixed_in_front bytes rest f =
    let long = f.long in
    let first : get_or (bytes ++ rest) 0 0 ≡ get_or bytes 0 0 = get_or_append_left bytes rest 0 0 (omega arith) in
    let second : get_or (bytes ++ rest) 1 0 ≡ get_or bytes 1 0 = get_or_append_left bytes rest 0 1 (omega arith) in
    let fourth : get_or (bytes ++ rest) 3 0 ≡ get_or bytes 3 0 = get_or_append_left bytes rest 0 3 (omega arith) in
    let serial : serial_in (bytes ++ rest) ≡ serial_in bytes = word_in_front 8 bytes rest (omega arith) in
    let fields : fields_len (bytes ++ rest) ≡ fields_len bytes = word_in_front 12 bytes rest (omega arith) in
    let whole : whole_len (bytes ++ rest) ≡ whole_len bytes = whole_in_front bytes rest long in
    record {
      long = omega (arith, length-append bytes rest);
      order = ap order_of first ∙ f.order ∙ ap (λ (o : Order). Some o) (sym (same_order bytes rest (omega arith)));
      kind = ap (λ (b : ℕ). is_none (kind_of b)) second ∙ f.kind;
      version = fourth ∙ f.version;
      serial = omega (arith, serial, f.serial);
      fields = omega (arith, fields, f.fields);
      whole = omega (arith, whole, f.whole);
    }

-- the length of a valid message is said wherever it begins
pub valid_frames : (bytes rest : List ℕ) (m : Message) → Valid bytes m → framing (bytes ++ rest) ≡ Ok (Some (length bytes))
valid_frames bytes rest m v =
    let fixed = valid_fixed bytes m v in
    let whole = lies_whole bytes m.order m.serial (header_bytes m) (body_bytes m) (valid_lies bytes m v) in
    framing_again (bytes ++ rest) (fixed_in_front bytes rest fixed) ∙ ap (λ (k : ℕ). Ok (Some k)) (whole_in_front bytes rest fixed.long ∙ whole)
