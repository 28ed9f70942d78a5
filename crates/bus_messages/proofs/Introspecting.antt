-- What Introspect answers.
use Rattle.std.proofs.Common.{◌≡◌, ℕ, ◌+◌, ◌<◌, List, [], ◌∷◌, ◌++◌, Result, Ok, Err, sym, ap, subst, ◌∙◌, append_assoc, if◌then◌else◌, arith}
use Rattle.std.specs.Prelude.{IfOk, is_ok, IsTrue}
use Rattle.std.specs.Str.{IsUtf8, IsAscii}
use Rattle.std.proofs.lemmas.Bool.Decides.{nat_tests}
use Rattle.std.proofs.lemmas.Str.{IsUtf8-from_ascii, IsAscii-append}
use Rattle.std.proofs.lemmas.Str.Ascii.{IsAscii-nil, IsAscii-cons}
use Rattle.signature.specs.DataType.{DataType, DataTypes, basic, variant, array, dict, struct, no_types, one_more, spelling, spellings, Fits, AllFit, TypeText}
use Rattle.signature.specs.Code.{is_basic}

-- a basic type's code is ASCII
basic_ascii : (c : ℕ) → IsTrue (is_basic c) → c < 128
basic_ascii c is = grind (arith, nat_tests)

mutual
  type_ascii : (arrays structs : ℕ) (type : DataType) → Fits arrays structs type → IsAscii (spelling type)
  type_ascii arrays structs (basic code) f = IsAscii-cons code [] (basic_ascii code f) IsAscii-nil
  type_ascii arrays structs variant f = IsAscii-cons 118 [] (omega arith) IsAscii-nil
  type_ascii arrays structs (array element) f = IsAscii-cons 97 (spelling element) (omega arith) (type_ascii (arrays + 1) structs element f.1)
  type_ascii arrays structs (dict key value) f =
      let rest = spelling value ++ 125 ∷ [] in
      IsAscii-cons 97 (123 ∷ key ∷ rest) (omega arith) (IsAscii-cons 123 (key ∷ rest) (omega arith) (IsAscii-cons key rest (basic_ascii key f.1) (IsAscii-append (spelling value) (125 ∷ []) (type_ascii (arrays + 1) structs value f.2) (IsAscii-cons 125 [] (omega arith) IsAscii-nil))))
  type_ascii arrays structs (struct first others) f =
      let rest = spellings others ++ 41 ∷ [] in
      IsAscii-cons 40 (spelling first ++ rest) (omega arith)
      (IsAscii-append (spelling first) rest (type_ascii arrays (structs + 1) first f.1) (IsAscii-append (spellings others) (41 ∷ []) (types_ascii arrays (structs + 1) others f.2) (IsAscii-cons 41 [] (omega arith) IsAscii-nil)))

  types_ascii : (arrays structs : ℕ) (types : DataTypes) → AllFit arrays structs types → IsAscii (spellings types)
  types_ascii arrays structs no_types f = IsAscii-nil
  types_ascii arrays structs (one_more first others) f = IsAscii-append (spelling first) (spellings others) (type_ascii arrays structs first f.0) (types_ascii arrays structs others f.1)

-- a type's text is a text
pub type_utf8 : (type : DataType) (text : List ℕ) → TypeText type text → IsUtf8 text
type_utf8 type text is = subst IsUtf8 (sym is.spelled) (IsUtf8-from_ascii (spelling type) (type_ascii 0 0 type is.fits))

-- what is pushed last
pub pushed : {E : Type 0} (r : Result (Unit {0}) E) (old new last want : List ℕ) → new ≡ (if is_ok r then old ++ last else old) → old ++ last ≡ want → IfOk r (λ _. new ≡ want)
pushed (Ok x) old new last want e f = e ∙ f
pushed (Err x) old new last want e f = tt

pub joined : (t0 x a b z t1 t2 t3 : List ℕ) → t1 ≡ t0 ++ x → t2 ≡ t1 ++ a → t3 ≡ t2 ++ b → t3 ++ z ≡ t0 ++ (((x ++ a) ++ b) ++ z)
joined t0 x a b z t1 t2 t3 e f g = ap (λ (t : List ℕ). t ++ z) (g ∙ ap (λ (t : List ℕ). t ++ b) (f ∙ ap (λ (t : List ℕ). t ++ a) e)) ∙ simp append_assoc
