-- Where the parts of a message lie in its bytes.
use Rattle.std.proofs.Common.{◌≡◌, ℕ, ◌+◌, ◌^◌, ◌<◌, ◌≤◌, List, [], ◌∷◌, ◌++◌, length, get_or, take, drop, refl, sym, ap, ap₂, ◌∙◌, arith}
use Rattle.std.proofs.lemmas.List.{take_at, drop_at, take-append-drop, drop-drop, length-append, length-take-le, length-drop}
use Rattle.message_value.specs.declared.order.Order.{Order}
use Rattle.message_value.specs.Order.{order_byte, word_bytes, word_of}
use Rattle.message_value.specs.Spelling.{padding, zeros}
use Rattle.message_value.proofs.WordBytes.{IsBytes, IsBytes-drop, IsBytes-take, length-word_bytes, word_of-word_bytes, word_bytes-word_of, word_of-lt}
use Rattle.message_value.proofs.ReadItems.{length-zeros}
use Rattle.message_view.specs.Spelling.{fixed_len, body_place}
use Rattle.message_view.specs.Fixed.{order_in, word_at, body_len, serial_in, fields_len}
use Rattle.message_view.specs.Reading.{header_padding}
use Rattle.message_view.specs.HeaderAnswers.{body_of}
use Rattle.message_view.proofs.FixedPart.{order_in_of}

-- the bytes of a message
abbrev pub laid : Order → ℕ → ℕ → ℕ → List ℕ → List ℕ → List ℕ
laid order kind flags serial fields body =
    (order_byte order ∷ kind ∷ flags ∷ 1 ∷ [])
    ++ (word_bytes order (length body)
    ++ (word_bytes order serial
    ++ (word_bytes order (length fields)
    ++ (fields
    ++ (zeros (padding 8 (length fields)) ++ body)))))

-- how many they are
pub length-laid : (order : Order) (kind flags serial : ℕ) (fields body : List ℕ) → length (laid order kind flags serial fields body) ≡ body_place (length fields) + length body
length-laid order kind flags serial fields body =
    let w0 = word_bytes order (length body) in
    let w1 = word_bytes order serial in
    let w2 = word_bytes order (length fields) in
    let pad = zeros (padding 8 (length fields)) in
    let r2 = fields ++ (pad ++ body) in
    let r1 = w2 ++ r2 in
    let r0 = w1 ++ r1 in
    omega (arith, length-word_bytes order (length body), length-word_bytes order serial, length-word_bytes order (length fields), length-zeros (padding 8 (length fields)), length-append w0 r0, length-append w1 r1, length-append w2 r2, length-append fields (pad ++ body), length-append pad body)

drop_past : (p q : List ℕ) (n k : ℕ) → length p ≡ n → drop (n + k) (p ++ q) ≡ drop k q
drop_past p q n k len = sym (drop-drop k n (p ++ q)) ∙ ap (drop k) (drop_at p q n len)

-- what is found where it lies
pub record Lies (bytes : List ℕ) (order : Order) (serial : ℕ) (fields body : List ℕ) : Type 0 where
  pub is_order : order_in bytes ≡ order
  pub is_body_len : body_len bytes ≡ length body
  pub is_serial : serial_in bytes ≡ serial
  pub is_len : fields_len bytes ≡ length fields
  pub are_fields : take (length fields) (drop fixed_len bytes) ≡ fields
  pub are_zeros : header_padding bytes ≡ zeros (padding 8 (length fields))
  pub is_body : body_of bytes ≡ body
  pub is_whole : length bytes ≡ body_place (length fields) + length body

word_is : (order : Order) (place n : ℕ) (bytes : List ℕ) → order_in bytes ≡ order → take 4 (drop place bytes) ≡ word_bytes order n → n < 2 ^ 32 → word_at place bytes ≡ n
word_is order place n bytes o w lt = ap (λ (x : Order). word_of x (take 4 (drop place bytes))) o ∙ ap (word_of order) w ∙ word_of-word_bytes order n lt

pub laid_lies : (order : Order) (kind flags serial : ℕ) (fields body : List ℕ) → serial < 2 ^ 32 → length fields < 2 ^ 32 → length body < 2 ^ 32 → Lies (laid order kind flags serial fields body) order serial fields body
laid_lies order kind flags serial fields body serial_fits fields_fit body_fits =
    let bytes = laid order kind flags serial fields body in
    let w0 = word_bytes order (length body) in
    let w1 = word_bytes order serial in
    let w2 = word_bytes order (length fields) in
    let pad = zeros (padding 8 (length fields)) in
    let l0 = length-word_bytes order (length body) in
    let l1 = length-word_bytes order serial in
    let l2 = length-word_bytes order (length fields) in
    let lp = length-zeros (padding 8 (length fields)) in
    let r2 = fields ++ (pad ++ body) in
    let r1 = w2 ++ r2 in
    let r0 = w1 ++ r1 in
    let o : order_in bytes ≡ order = order_in_of bytes order refl in
    let d8 : drop 8 bytes ≡ w1 ++ r1 = drop_at w0 r0 4 l0 in
    let d12 : drop 12 bytes ≡ w2 ++ r2 = drop_past w0 r0 4 4 l0 ∙ drop_at w1 r1 4 l1 in
    let d16 : drop 16 bytes ≡ r2 = drop_past w0 r0 4 8 l0 ∙ drop_past w1 r1 4 4 l1 ∙ drop_at w2 r2 4 l2 in
    let t4 : take 4 (drop 4 bytes) ≡ w0 = take_at w0 r0 4 l0 in
    let t8 : take 4 (drop 8 bytes) ≡ w1 = ap (take 4) d8 ∙ take_at w1 r1 4 l1 in
    let t12 : take 4 (drop 12 bytes) ≡ w2 = ap (take 4) d12 ∙ take_at w2 r2 4 l2 in
    let len : fields_len bytes ≡ length fields = word_is order 12 (length fields) bytes o t12 fields_fit in
    let tail : drop (16 + length fields) bytes ≡ pad ++ body = sym (drop-drop (length fields) 16 bytes) ∙ ap (drop (length fields)) d16 ∙ drop_at fields (pad ++ body) (length fields) refl in
    let last : drop (body_place (length fields)) bytes ≡ body = sym (drop-drop (padding 8 (length fields)) (16 + length fields) bytes) ∙ ap (drop (padding 8 (length fields))) tail ∙ drop_at pad body (padding 8 (length fields)) lp in
    record {
      is_order = o;
      is_body_len = word_is order 4 (length body) bytes o t4 body_fits;
      is_serial = word_is order 8 serial bytes o t8 serial_fits;
      is_len = len;
      are_fields = ap (take (length fields)) d16 ∙ take_at fields (pad ++ body) (length fields) refl;
      are_zeros = ap (λ (k : ℕ). take (padding 8 k) (drop (16 + k) bytes)) len ∙ ap (take (padding 8 (length fields))) tail ∙ take_at pad body (padding 8 (length fields)) lp;
      is_body = ap (λ (k : ℕ). drop (body_place k) bytes) len ∙ last;
      is_whole = length-laid order kind flags serial fields body;
    }

-- ---- bytes that are long enough are laid so

first_four : (bytes : List ℕ) → 4 ≤ length bytes → take 4 bytes ≡ get_or bytes 0 0 ∷ get_or bytes 1 0 ∷ get_or bytes 2 0 ∷ get_or bytes 3 0 ∷ []
first_four [] h = absurd (omega arith)
first_four (a ∷ []) h = absurd (omega arith)
first_four (a ∷ b ∷ []) h = absurd (omega arith)
first_four (a ∷ b ∷ c ∷ []) h = absurd (omega arith)
first_four (a ∷ b ∷ c ∷ d ∷ rest) h = refl

-- the first n bytes from a place on, and the others
cut : (n place : ℕ) (bytes : List ℕ) → drop place bytes ≡ take n (drop place bytes) ++ drop (place + n) bytes
cut n place bytes = sym (take-append-drop n (drop place bytes)) ∙ ap (λ (x : List ℕ). take n (drop place bytes) ++ x) (drop-drop n place bytes)

word_again : (order : Order) (place n : ℕ) (bytes : List ℕ) → IsBytes bytes → place + 4 ≤ length bytes → word_of order (take 4 (drop place bytes)) ≡ n → take 4 (drop place bytes) ≡ word_bytes order n
word_again order place n bytes fits long is =
    let len : length (take 4 (drop place bytes)) ≡ 4 = length-take-le 4 (drop place bytes) (omega (arith, length-drop place bytes)) in
    sym (word_bytes-word_of order (take 4 (drop place bytes)) len (IsBytes-take 4 (drop place bytes) (IsBytes-drop place bytes fits))) ∙ ap (word_bytes order) is

pub word_at-lt : (place : ℕ) (bytes : List ℕ) → IsBytes bytes → word_at place bytes < 2 ^ 32
word_at-lt place bytes fits = word_of-lt (order_in bytes) (take 4 (drop place bytes)) (IsBytes-take 4 (drop place bytes) (IsBytes-drop place bytes fits))

pub lies_laid : (bytes : List ℕ) (order : Order) (serial : ℕ) (fields body : List ℕ) → IsBytes bytes → get_or bytes 0 0 ≡ order_byte order → get_or bytes 3 0 ≡ 1 → Lies bytes order serial fields body → bytes ≡ laid order (get_or bytes 1 0) (get_or bytes 2 0) serial fields body
lies_laid bytes order serial fields body fits first version l =
    let long : body_place (length fields) + length body ≡ length bytes = sym l.is_whole in
    let four : take 4 bytes ≡ order_byte order ∷ get_or bytes 1 0 ∷ get_or bytes 2 0 ∷ 1 ∷ [] = first_four bytes (omega arith) ∙ rw (first, version) refl in
    let w0 : take 4 (drop 4 bytes) ≡ word_bytes order (length body) = word_again order 4 (length body) bytes fits (omega arith) (ap (λ (o : Order). word_of o (take 4 (drop 4 bytes))) (sym l.is_order) ∙ l.is_body_len) in
    let w1 : take 4 (drop 8 bytes) ≡ word_bytes order serial = word_again order 8 serial bytes fits (omega arith) (ap (λ (o : Order). word_of o (take 4 (drop 8 bytes))) (sym l.is_order) ∙ l.is_serial) in
    let w2 : take 4 (drop 12 bytes) ≡ word_bytes order (length fields) = word_again order 12 (length fields) bytes fits (omega arith) (ap (λ (o : Order). word_of o (take 4 (drop 12 bytes))) (sym l.is_order) ∙ l.is_len) in
    let end = 16 + length fields in
    let zeros_there = zeros (padding 8 (length fields)) in
    let pad : take (padding 8 (length fields)) (drop end bytes) ≡ zeros_there = ap (λ (k : ℕ). take (padding 8 k) (drop (16 + k) bytes)) (sym l.is_len) ∙ l.are_zeros in
    let last : drop (end + padding 8 (length fields)) bytes ≡ body = ap (λ (k : ℕ). drop (body_place k) bytes) (sym l.is_len) ∙ l.is_body in
    let d_end : drop end bytes ≡ zeros_there ++ body = cut (padding 8 (length fields)) end bytes ∙ ap₂ (λ (x y : List ℕ). x ++ y) pad last in
    let d16 : drop 16 bytes ≡ fields ++ (zeros_there ++ body) = cut (length fields) 16 bytes ∙ ap₂ (λ (x y : List ℕ). x ++ y) l.are_fields d_end in
    let d12 : drop 12 bytes ≡ word_bytes order (length fields) ++ (fields ++ (zeros_there ++ body)) = cut 4 12 bytes ∙ ap₂ (λ (x y : List ℕ). x ++ y) w2 d16 in
    let d8 : drop 8 bytes ≡ word_bytes order serial ++ (word_bytes order (length fields) ++ (fields ++ (zeros_there ++ body))) = cut 4 8 bytes ∙ ap₂ (λ (x y : List ℕ). x ++ y) w1 d12 in
    let d4 : drop 4 bytes ≡ word_bytes order (length body) ++ (word_bytes order serial ++ (word_bytes order (length fields) ++ (fields ++ (zeros_there ++ body)))) = cut 4 4 bytes ∙ ap₂ (λ (x y : List ℕ). x ++ y) w0 d8 in
    cut 4 0 bytes ∙ ap₂ (λ (x y : List ℕ). x ++ y) four d4
