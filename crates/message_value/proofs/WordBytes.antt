-- Numbers and their bytes, of each width, in either order.
use Rattle.std.proofs.Common.{◌≡◌, ℕ, ◌+◌, ◌*◌, ◌^◌, ◌<◌, Bool, true, false, cond, eqb, List, [], ◌∷◌, length, get_or, take, drop, refl, sym, ap, subst, ◌∙◌, inl, inr, arith}
use Rattle.std.specs.Prelude.{◌||◌, ◌%◌}
use Rattle.std.specs.Int.{Width, w8, w16, w32, w64}
use Rattle.std.proofs.lemmas.Bool.{cases_lt}
use Rattle.std.proofs.lemmas.List.{length-take, get_or-drop, get_or-take, get_or_past}
use Rattle.std.proofs.lemmas.Nat.{be_bytes_2, le_bytes_2, from_be_bytes-to_be_bytes_2, from_le_bytes-to_le_bytes_2, be_bytes_4, le_bytes_4, from_be_bytes-to_be_bytes_4, from_le_bytes-to_le_bytes_4, be_bytes_8, le_bytes_8, from_be_bytes-to_be_bytes_8, from_le_bytes-to_le_bytes_8}
use Rattle.message_value.specs.declared.order.Order.{Order}
use Rattle.message_value.specs.declared.order.Order.TheVariants.{Little, Big}
use Rattle.message_value.specs.Order.{number_bytes, number_of, word_bytes, word_of}
use Rattle.message_value.specs.Spelling.{width_of, number_len}

abbrev pub IsBytes : List ℕ → Type 0
IsBytes bytes = (i : ℕ) → get_or bytes i 0 < 256

pub IsBytes-drop : (n : ℕ) (bytes : List ℕ) → IsBytes bytes → IsBytes (drop n bytes)
IsBytes-drop n bytes h i = rw get_or-drop (h (n + i))

pub IsBytes-take : (n : ℕ) (bytes : List ℕ) → IsBytes bytes → IsBytes (take n bytes)
IsBytes-take n bytes h i =
    elim (cases_lt i n) [
      | inl lt ↦ rw (get_or-take n bytes i 0 lt) (h i)
      | inr le ↦ rw (get_or_past (take n bytes) i 0 (omega (arith, length-take n bytes))) (omega arith)
    ]

-- ---- four bytes

pub length-word_bytes : (order : Order) (n : ℕ) → length (word_bytes order n) ≡ 4
length-word_bytes Little n = refl
length-word_bytes Big n = refl

-- the number that was written
pub word_of-word_bytes : (order : Order) (n : ℕ) → n < 2 ^ 32 → word_of order (word_bytes order n) ≡ n
word_of-word_bytes Little n lt = from_le_bytes-to_le_bytes_4 n lt
word_of-word_bytes Big n lt = from_be_bytes-to_be_bytes_4 n lt

-- the bytes that were read
pub word_bytes-word_of : (order : Order) (bytes : List ℕ) → length bytes ≡ 4 → IsBytes bytes → word_bytes order (word_of order bytes) ≡ bytes
word_bytes-word_of Little bytes len fits = le_bytes_4 bytes _ len fits refl
word_bytes-word_of Big bytes len fits = be_bytes_4 bytes _ len fits refl

pub word_of-lt : (order : Order) (bytes : List ℕ) → IsBytes bytes → word_of order bytes < 2 ^ 32
word_of-lt Little bytes fits = omega (arith, fits 0, fits 1, fits 2, fits 3)
word_of-lt Big bytes fits = omega (arith, fits 0, fits 1, fits 2, fits 3)

-- ---- each width of a number

data Size : Type 0 where
  size_1 : Size
  size_2 : Size
  size_4 : Size
  size_8 : Size

abbrev width : Size → Width
width size_1 = w8
width size_2 = w16
width size_4 = w32
width size_8 = w64

abbrev len : Size → ℕ
len size_1 = 1
len size_2 = 2
len size_4 = 4
len size_8 = 8

record Sized (code : ℕ) : Type 0 where
  size : Size
  has_width : width size ≡ width_of code
  has_len : len size ≡ number_len code

size_of : (code : ℕ) → Sized code
size_of code =
    let size = cond (eqb code 121) size_1 (cond (eqb code 110 || eqb code 113) size_2 (cond (eqb code 120 || eqb code 116 || eqb code 100) size_8 size_4)) in
    record { size = size; has_width = widths (eqb code 121) (eqb code 110 || eqb code 113) (eqb code 120 || eqb code 116 || eqb code 100); has_len = lens (eqb code 121) (eqb code 110 || eqb code 113) (eqb code 120 || eqb code 116 || eqb code 100) }
  where
    widths : (a b c : Bool) → width (cond a size_1 (cond b size_2 (cond c size_8 size_4))) ≡ cond a w8 (cond b w16 (cond c w64 w32))
    widths true b c = refl
    widths false true c = refl
    widths false false true = refl
    widths false false false = refl

    lens : (a b c : Bool) → len (cond a size_1 (cond b size_2 (cond c size_8 size_4))) ≡ cond a 1 (cond b 2 (cond c 8 4))
    lens true b c = refl
    lens false true c = refl
    lens false false true = refl
    lens false false false = refl

len-size : (order : Order) (size : Size) (n : ℕ) → length (number_bytes order (width size) n) ≡ len size
len-size Little size_1 n = refl
len-size Big size_1 n = refl
len-size Little size_2 n = refl
len-size Big size_2 n = refl
len-size Little size_4 n = refl
len-size Big size_4 n = refl
len-size Little size_8 n = refl
len-size Big size_8 n = refl

written-size : (order : Order) (size : Size) (n : ℕ) → n < 2 ^ (8 * len size) → number_of order (width size) (number_bytes order (width size) n) ≡ n
written-size Little size_1 n lt = omega arith
written-size Big size_1 n lt = omega arith
written-size Little size_2 n lt = from_le_bytes-to_le_bytes_2 n lt
written-size Big size_2 n lt = from_be_bytes-to_be_bytes_2 n lt
written-size Little size_4 n lt = from_le_bytes-to_le_bytes_4 n lt
written-size Big size_4 n lt = from_be_bytes-to_be_bytes_4 n lt
written-size Little size_8 n lt = from_le_bytes-to_le_bytes_8 n lt
written-size Big size_8 n lt = from_be_bytes-to_be_bytes_8 n lt

pub one_byte : (bytes : List ℕ) → length bytes ≡ 1 → bytes ≡ get_or bytes 0 0 ∷ []
one_byte [] e = absurd (omega arith)
one_byte (b ∷ []) e = refl
one_byte (b ∷ c ∷ bytes) e = absurd (omega arith)

same_byte : (bytes : List ℕ) → length bytes ≡ 1 → IsBytes bytes → (get_or bytes 0 0 % 256) ∷ [] ≡ bytes
same_byte bytes is fits =
    let small : get_or bytes 0 0 % 256 ≡ get_or bytes 0 0 = omega (arith, fits 0) in
    ap (λ (b : ℕ). b ∷ []) small ∙ sym (one_byte bytes is)

read-size : (order : Order) (size : Size) (bytes : List ℕ) → length bytes ≡ len size → IsBytes bytes → number_bytes order (width size) (number_of order (width size) bytes) ≡ bytes
read-size Little size_1 bytes is fits = same_byte bytes is fits
read-size Big size_1 bytes is fits = same_byte bytes is fits
read-size Little size_2 bytes is fits = le_bytes_2 bytes _ is fits refl
read-size Big size_2 bytes is fits = be_bytes_2 bytes _ is fits refl
read-size Little size_4 bytes is fits = le_bytes_4 bytes _ is fits refl
read-size Big size_4 bytes is fits = be_bytes_4 bytes _ is fits refl
read-size Little size_8 bytes is fits = le_bytes_8 bytes _ is fits refl
read-size Big size_8 bytes is fits = be_bytes_8 bytes _ is fits refl

lt-size : (order : Order) (size : Size) (bytes : List ℕ) → IsBytes bytes → number_of order (width size) bytes < 2 ^ (8 * len size)
lt-size Little size_1 bytes fits = omega (arith, fits 0)
lt-size Big size_1 bytes fits = omega (arith, fits 0)
lt-size Little size_2 bytes fits = omega (arith, fits 0, fits 1)
lt-size Big size_2 bytes fits = omega (arith, fits 0, fits 1)
lt-size Little size_4 bytes fits = omega (arith, fits 0, fits 1, fits 2, fits 3)
lt-size Big size_4 bytes fits = omega (arith, fits 0, fits 1, fits 2, fits 3)
lt-size Little size_8 bytes fits = omega (arith, fits 0, fits 1, fits 2, fits 3, fits 4, fits 5, fits 6, fits 7)
lt-size Big size_8 bytes fits = omega (arith, fits 0, fits 1, fits 2, fits 3, fits 4, fits 5, fits 6, fits 7)

len-pos : (size : Size) → 0 < len size
len-pos size_1 = omega arith
len-pos size_2 = omega arith
len-pos size_4 = omega arith
len-pos size_8 = omega arith

-- ---- the number of a type

pub number_len-pos : (code : ℕ) → 0 < number_len code
number_len-pos code = let s = size_of code in rw s.has_len at (len-pos s.size)

pub length-number_bytes : (order : Order) (code n : ℕ) → length (number_bytes order (width_of code) n) ≡ number_len code
length-number_bytes order code n = let s = size_of code in subst (λ (w : Width). length (number_bytes order w n) ≡ number_len code) s.has_width (len-size order s.size n ∙ s.has_len)

-- the number that was written
pub number_of-number_bytes : (order : Order) (code n : ℕ) → n < 2 ^ (8 * number_len code) → number_of order (width_of code) (number_bytes order (width_of code) n) ≡ n
number_of-number_bytes order code n lt =
    let s = size_of code in
    subst (λ (w : Width). number_of order w (number_bytes order w n) ≡ n) s.has_width (written-size order s.size n (subst (λ (k : ℕ). n < 2 ^ (8 * k)) (sym s.has_len) lt))

-- the bytes that were read
pub number_bytes-number_of : (order : Order) (code : ℕ) (bytes : List ℕ) → length bytes ≡ number_len code → IsBytes bytes → number_bytes order (width_of code) (number_of order (width_of code) bytes) ≡ bytes
number_bytes-number_of order code bytes is fits =
    let s = size_of code in
    subst (λ (w : Width). number_bytes order w (number_of order w bytes) ≡ bytes) s.has_width (read-size order s.size bytes (is ∙ sym s.has_len) fits)

pub number_of-lt : (order : Order) (code : ℕ) (bytes : List ℕ) → IsBytes bytes → number_of order (width_of code) bytes < 2 ^ (8 * number_len code)
number_of-lt order code bytes fits =
    let s = size_of code in
    subst (λ (w : Width). number_of order w bytes < 2 ^ (8 * number_len code)) s.has_width (subst (λ (k : ℕ). number_of order (width s.size) bytes < 2 ^ (8 * k)) s.has_len (lt-size order s.size bytes fits))
