-- Texts are made of bytes.
use Rattle.std.proofs.Common.{◌≡◌, ℕ, zero, suc, ◌+◌, ◌/◌, ◌%◌, ◌<◌, Bool, true, false, cond, eqb, ltb, leb, List, [], ◌∷◌, ◌++◌, get_or, Option, Some, None, refl, subst, inl, inr, arith}
use Rattle.std.specs.Prelude.{◌&&◌, not, is_some}
use Rattle.std.specs.Char.{encode_utf8}
use Rattle.std.specs.Str.{IsUtf8, IsAscii, is_utf8, all_scalars, encode_utf8_all}
use Rattle.std.specs.List.{list_any}
use Rattle.std.proofs.lemmas.Bool.{and_parts, cases_lt, lt-ltb, le-ltb, ltb-true}
use Rattle.std.proofs.lemmas.Str.{IsUtf8-from_is_utf8}
use Rattle.signature.specs.DataType.{DataTypes}
use Rattle.signature.specs.Name.{is_path}
use Rattle.signature.specs.Trees.{types_of}
use Rattle.signature.proofs.Ascii.{path_ascii}
use Rattle.message_value.specs.Fits.{is_text_of}
use Rattle.message_value.proofs.SignatureTexts.{signature_utf8}
use Rattle.message_value.specs.Bytes.{AreBytes}

-- ---- bytes, one after the other

no_bytes : AreBytes []
no_bytes i = omega arith

one_byte : (byte : ℕ) (bytes : List ℕ) → byte < 256 → AreBytes bytes → AreBytes (byte ∷ bytes)
one_byte byte bytes small more zero = small
one_byte byte bytes small more (suc i) = more i

both_bytes : (a b : List ℕ) → AreBytes a → AreBytes b → AreBytes (a ++ b)
both_bytes [] b first second = second
both_bytes (byte ∷ a) b first second = one_byte byte (a ++ b) (first 0) (both_bytes a b (λ i. first (suc i)) second)

-- ---- UTF-8

follows : (n : ℕ) → 128 + n % 64 < 256
follows n = omega arith

two_bytes : (a b : ℕ) → a < 256 → AreBytes (a ∷ (128 + b % 64) ∷ [])
two_bytes a b small = one_byte a ((128 + b % 64) ∷ []) small (one_byte (128 + b % 64) [] (follows b) no_bytes)

three : (a b c : ℕ) → a < 256 → AreBytes (a ∷ (128 + b % 64) ∷ (128 + c % 64) ∷ [])
three a b c small = one_byte a ((128 + b % 64) ∷ (128 + c % 64) ∷ []) small (two_bytes (128 + b % 64) c (follows b))

four : (a b c d : ℕ) → a < 256 → AreBytes (a ∷ (128 + b % 64) ∷ (128 + c % 64) ∷ (128 + d % 64) ∷ [])
four a b c d small = one_byte a ((128 + b % 64) ∷ (128 + c % 64) ∷ (128 + d % 64) ∷ []) small (three (128 + b % 64) c d (follows b))

-- a character's bytes
char_bytes : (c : ℕ) → c < 1114112 → AreBytes (encode_utf8 c)
unfolding encode_utf8
char_bytes c low =
    elim (cases_lt c 128) [
      | inl lt ↦ rw (lt-ltb c 128 lt) (one_byte c [] (omega arith) no_bytes)
      | inr le ↦ rw (le-ltb c 128 le) (elim (cases_lt c 2048) [
        | inl lt ↦ rw (lt-ltb c 2048 lt) (two_bytes (192 + c / 64) c (omega arith))
        | inr le ↦ rw (le-ltb c 2048 le) (elim (cases_lt c 65536) [
          | inl lt ↦ rw (lt-ltb c 65536 lt) (three (224 + c / 4096) (c / 64) c (omega arith))
          | inr le ↦ rw (le-ltb c 65536 le) (four (240 + c / 262144) (c / 4096) (c / 64) c (omega arith))
        ])
      ])
    ]

-- at most 0x10ffff, and no surrogate
abbrev is_scalar : ℕ → Bool
is_scalar c = cond (ltb c 55296) true (leb 57344 c && ltb c 1114112)

scalar_low : (c : ℕ) → is_scalar c ≡ true → c < 1114112
scalar_low c is = go (ltb c 55296) refl is
  where
    go : (b : Bool) → ltb c 55296 ≡ b → cond b true (leb 57344 c && ltb c 1114112) ≡ true → c < 1114112
    go true low e = let below : c < 55296 = ltb-true c 55296 low in omega arith
    go false high e = ltb-true c 1114112 (and_parts (leb 57344 c) (ltb c 1114112) e).1

chars_bytes : (chars : List ℕ) → all_scalars chars ≡ true → AreBytes (encode_utf8_all chars)
chars_bytes [] are = no_bytes
chars_bytes (c ∷ chars) are =
    let both = and_parts (is_scalar c) (all_scalars chars) are in
    both_bytes (encode_utf8 c) (encode_utf8_all chars) (char_bytes c (scalar_low c both.0)) (chars_bytes chars both.1)

utf8_bytes : (bytes : List ℕ) → IsUtf8 bytes → AreBytes bytes
utf8_bytes bytes is = subst AreBytes is.1.1 (chars_bytes is.0 is.1.0)

-- ---- the types of texts

ascii_bytes : (bytes : List ℕ) → IsAscii bytes → AreBytes bytes
ascii_bytes bytes low i = let here : get_or bytes i 0 < 128 = low i in omega arith

signature_bytes : (bytes : List ℕ) (found : Option DataTypes) → types_of bytes ≡ found → is_some found ≡ true → AreBytes bytes
signature_bytes bytes None e some = absurd cc
signature_bytes bytes (Some types) e some = utf8_bytes bytes (signature_utf8 types bytes e)

-- a text of its type
pub text_bytes : (code : ℕ) (bytes : List ℕ) → is_text_of code bytes ≡ true → AreBytes bytes
text_bytes code bytes is = go (eqb code 115) (eqb code 111) (eqb code 103) is
  where
    go : (a b c : Bool) → cond a (is_utf8 bytes && not (list_any (λ byte. eqb byte 0) bytes)) (cond b (is_path bytes) (cond c (is_some (types_of bytes)) false)) ≡ true → AreBytes bytes
    go true b c e = utf8_bytes bytes (IsUtf8-from_is_utf8 bytes (and_parts (is_utf8 bytes) (not (list_any (λ byte. eqb byte 0) bytes)) e).0)
    go false true c e = ascii_bytes bytes (path_ascii bytes e)
    go false false true e = signature_bytes bytes (types_of bytes) refl e
    go false false false e = absurd cc
