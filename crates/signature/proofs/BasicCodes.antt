-- Bytes that stand for basic types open no container.
use Rattle.std.proofs.Common.{◌≡◌, ℕ, true, List, [], ◌∷◌, None, get_or, length, refl, arith}
use Rattle.std.specs.List.{list_all}
use Rattle.std.proofs.lemmas.Bool.{and_parts}
use Rattle.signature.specs.declared.code.Code.TheVariants.{Basic}
use Rattle.signature.specs.Code.{is_basic, code_of}
use Rattle.signature.specs.DataType.{basic, TypeText}
use Rattle.signature.specs.Reading.{fault_from}

basic_code : (byte : ℕ) → is_basic byte ≡ true → code_of byte ≡ Basic
basic_code byte is = rw is refl

-- a list of basic types has no fault
pub basic_faultless : (text : List ℕ) → list_all is_basic text ≡ true → fault_from [] text ≡ None
basic_faultless [] is = refl
basic_faultless (c ∷ cs) is =
    let parts = and_parts (is_basic c) (list_all is_basic cs) is in
    rw (basic_code c parts.0) (basic_faultless cs parts.1)

-- a text of one such byte is a type
pub one_basic : (text : List ℕ) → length text ≡ 1 → is_basic (get_or text 0 0) ≡ true → TypeText (basic (get_or text 0 0)) text
one_basic [] one is = absurd (omega arith)
one_basic (c ∷ []) one is = record { spelled = refl; fits = is }
one_basic (c ∷ d ∷ more) one is = absurd (omega arith)
