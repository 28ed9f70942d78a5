-- The text of a signature is ASCII, and so it is UTF-8.
use Rattle.std.proofs.Common.{◌≡◌, ℕ, ◌+◌, ◌<◌, true, List, [], ◌∷◌, ◌++◌, Some, refl, sym, subst, arith}
use Rattle.std.specs.Prelude.{is_some, IsTrue}
use Rattle.std.specs.Str.{IsAscii, IsUtf8}
use Rattle.std.proofs.lemmas.Str.{IsUtf8-from_ascii, IsAscii-append}
use Rattle.std.proofs.lemmas.Str.Ascii.{IsAscii-nil, IsAscii-cons}
use Rattle.std.proofs.lemmas.Bool.Decides.{nat_tests}
use Rattle.signature.specs.Code.{is_basic}
use Rattle.signature.specs.DataType.{DataType, DataTypes, basic, variant, array, dict, struct, no_types, one_more, spelling, spellings, Fits, AllFit, SigText}
use Rattle.signature.specs.Trees.{types_of}
use Rattle.signature.proofs.TreesOfTexts.{trees_spelled, types_of-SigText}

basic_low : (code : ℕ) → IsTrue (is_basic code) → code < 128
basic_low code is = grind (arith, nat_tests)

ascii_one : (c : ℕ) → c < 128 → IsAscii (c ∷ [])
ascii_one c low = IsAscii-cons c [] low IsAscii-nil

mutual
  type_ascii : (t : DataType) (a s : ℕ) → Fits a s t → IsAscii (spelling t)
  type_ascii (basic c) a s fits = ascii_one c (basic_low c fits)
  type_ascii variant a s fits = ascii_one 118 (omega arith)
  type_ascii (array t) a s fits = IsAscii-cons 97 (spelling t) (omega arith) (type_ascii t (a + 1) s fits.1)
  type_ascii (dict k v) a s fits =
      IsAscii-cons 97 (123 ∷ k ∷ (spelling v ++ 125 ∷ [])) (omega arith)
      (IsAscii-cons 123 (k ∷ (spelling v ++ 125 ∷ [])) (omega arith)
      (IsAscii-cons k (spelling v ++ 125 ∷ []) (basic_low k fits.1)
      (IsAscii-append (spelling v) (125 ∷ []) (type_ascii v (a + 1) s fits.2) (ascii_one 125 (omega arith)))))
  type_ascii (struct t ts) a s fits =
      IsAscii-cons 40 (spelling t ++ (spellings ts ++ 41 ∷ [])) (omega arith)
      (IsAscii-append (spelling t) (spellings ts ++ 41 ∷ []) (type_ascii t a (s + 1) fits.1)
      (IsAscii-append (spellings ts) (41 ∷ []) (types_ascii ts a (s + 1) fits.2) (ascii_one 41 (omega arith))))

  types_ascii : (ts : DataTypes) (a s : ℕ) → AllFit a s ts → IsAscii (spellings ts)
  types_ascii no_types a s fits = IsAscii-nil
  types_ascii (one_more t ts) a s fits = IsAscii-append (spelling t) (spellings ts) (type_ascii t a s fits.0) (types_ascii ts a s fits.1)

-- a signature is UTF-8
pub signature_utf8 : (types : DataTypes) (bytes : List ℕ) → types_of bytes ≡ Some types → IsUtf8 bytes
signature_utf8 types bytes is =
    let spelled = trees_spelled types bytes is in
    IsUtf8-from_ascii bytes (subst IsAscii (sym spelled.spelled) (types_ascii types 0 0 spelled.fits))

-- the text of types is UTF-8
pub types_utf8 : (types : DataTypes) (bytes : List ℕ) → SigText types bytes → IsUtf8 bytes
types_utf8 types bytes is = signature_utf8 types bytes (types_of-SigText types bytes is)

-- and it has types
pub types_some : (types : DataTypes) (bytes : List ℕ) → SigText types bytes → is_some (types_of bytes) ≡ true
types_some types bytes is = rw (types_of-SigText types bytes is) refl
