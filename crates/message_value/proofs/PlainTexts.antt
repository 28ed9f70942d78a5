-- The forms of texts, as the searches and tests of the code tell them.
use Rattle.std.proofs.Common.{◌≡◌, ℕ, ◌<◌, get_or, Bool, true, false, List, [], ◌∷◌, Option, Some, None, refl, sym, arith}
use Rattle.std.specs.Prelude.{◌&&◌, ◌==◌, is_some, not}
use Rattle.std.specs.List.{list_all, list_any}
use Rattle.std.specs.Str.{IsAscii, IsUtf8, is_utf8}
use Rattle.std.proofs.lemmas.Bool.{and_parts}
use Rattle.std.proofs.lemmas.Bool.Decides.{nat_tests}
use Rattle.std.proofs.lemmas.Str.Ascii.{IsAscii-nil, IsAscii-cons}
use Rattle.std.proofs.lemmas.Bool.{false_from_ne_true}
use Rattle.std.proofs.lemmas.List.Folds.{list_any_none, list_any_at}
use Rattle.std.proofs.lemmas.List.{get_or_default}
use Rattle.std.proofs.lemmas.Str.{IsUtf8-from_is_utf8, is_utf8-from_IsUtf8, IsUtf8-from_ascii}
use Rattle.memchr.specs.Find.{IsFirstByte, is_byte}
use Rattle.signature.specs.Name.{is_path}
use Rattle.signature.proofs.Ascii.{path_ascii}
use Rattle.message_value.specs.Fits.{is_text_of}
use Rattle.message_value.specs.Forms.{is_plain}

-- a search for a zero tells whether there is one
pub zero_found : (hay : List ℕ) (found : Option ℕ) → IsFirstByte (is_byte 0) hay found → is_some found ≡ list_any (λ byte. byte == 0) hay
zero_found hay (Some k) h = sym (list_any_at (λ byte. byte == 0) hay k 0 h.0.high h.1)
zero_found hay None h = sym (list_any_none (λ byte. byte == 0) hay (λ k d lt. false_from_ne_true (get_or hay k d == 0) (λ e. h k (omega arith) lt (rw (get_or_default hay k d 0 lt) at e))))

-- what isn't UTF-8 fails its test
pub no_text : (bytes : List ℕ) → (IsUtf8 bytes → ⊥) → is_utf8 bytes ≡ false
no_text bytes h = false_from_ne_true (is_utf8 bytes) (λ e. h (IsUtf8-from_is_utf8 bytes e))

-- text without a zero is plain
pub plain : (utf8 zeros : Bool) → utf8 ≡ true → zeros ≡ false → (utf8 && not zeros) ≡ true
plain utf8 zeros is none = rw (is, none) refl

-- what isn't UTF-8 isn't plain
pub not_plain : (utf8 zeros : Bool) → utf8 ≡ false → (utf8 && not zeros) ≡ false
not_plain utf8 zeros isnt = rw isnt refl

-- ---- bytes that are ASCII characters other than zero

plain_low : (byte : ℕ) → is_plain byte ≡ true → byte < 128
plain_low byte is = grind (arith, nat_tests)

plain_some : (byte : ℕ) → is_plain byte ≡ true → (byte == 0) ≡ false
plain_some byte is = grind (arith, nat_tests)

plain_ascii : (bytes : List ℕ) → list_all is_plain bytes ≡ true → IsAscii bytes
plain_ascii [] all = IsAscii-nil
plain_ascii (c ∷ cs) all =
    let parts = and_parts (is_plain c) (list_all is_plain cs) all in
    IsAscii-cons c cs (plain_low c parts.0) (plain_ascii cs parts.1)

plain_none : (bytes : List ℕ) → list_all is_plain bytes ≡ true → list_any (λ byte. byte == 0) bytes ≡ false
plain_none [] all = refl
plain_none (c ∷ cs) all =
    let parts = and_parts (is_plain c) (list_all is_plain cs) all in
    rw (plain_some c parts.0) (plain_none cs parts.1)

-- they are UTF-8
pub plain_utf8 : (bytes : List ℕ) → list_all is_plain bytes ≡ true → IsUtf8 bytes
plain_utf8 bytes all = IsUtf8-from_ascii bytes (plain_ascii bytes all)

-- and a text
pub plain_allowed : (bytes : List ℕ) → list_all is_plain bytes ≡ true → is_text_of 115 bytes ≡ true
plain_allowed bytes all = plain _ _ (is_utf8-from_IsUtf8 bytes (plain_utf8 bytes all)) (plain_none bytes all)

-- an object path is UTF-8
pub path_utf8 : (bytes : List ℕ) → is_path bytes ≡ true → IsUtf8 bytes
path_utf8 bytes is = IsUtf8-from_ascii bytes (path_ascii bytes is)
