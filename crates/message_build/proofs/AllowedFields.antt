-- Fields that hold what they may are fields of a valid message, and the other way round.
use Rattle.std.proofs.Common.{◌≡◌, ℕ, ◌+◌, ◌<◌, ◌≤◌, ◌^◌, Bool, true, false, ltb, lit<, List, [], ◌∷◌, length, Option, Some, None, refl, arith}
use Rattle.std.specs.Prelude.{◌&&◌, not, is_some}
use Rattle.std.specs.List.{list_all}
use Rattle.std.specs.Str.{bytes_eq}
use Rattle.std.proofs.lemmas.Bool.{and_parts, ltb-true, lt-ltb, not_from_false, and_from}
use Rattle.signature.specs.DataType.{DataTypes, basic}
use Rattle.signature.specs.Trees.{types_of}
use Rattle.signature.proofs.TreesOfTexts.{trees_spelled}
use Rattle.signature.specs.Name.{is_path, is_interface}
use Rattle.message_value.specs.declared.order.Order.TheVariants.{Little}
use Rattle.message_value.specs.Fits.{IsOneType}
use Rattle.message_view.specs.Header.{code_of, local_path, local_interface}
use Rattle.message_view.specs.Message.{Field}
use Rattle.message_view.specs.Spelling.{field_bytes}
use Rattle.message_view.specs.Valid.{IsField, IsOnce, AreFields}
use Rattle.message_build.specs.declared.field.HeaderField.{HeaderField}
use Rattle.message_build.specs.declared.field.HeaderField.TheVariants.{Path, Interface, Member, ErrorName, ReplySerial, Destination, Sender, Signature}
use Rattle.message_build.specs.HeaderFields.{field_of, fields_of, is_allowed, may_be, Holds, HoldEach}
use Rattle.message_build.proofs.PlainNames.{interface_string, member_string, bus_name_string}

-- ---- lengths

-- a signature is short
signature_short : (bytes : List ℕ) → is_some (types_of bytes) ≡ true → length bytes < 2 ^ 32
signature_short bytes e = go (types_of bytes) refl e
  where
    go : (found : Option DataTypes) → types_of bytes ≡ found → is_some found ≡ true → length bytes < 2 ^ 32
    go (Some types) is e = let s = trees_spelled types bytes is in let short : length bytes ≤ 255 = s.short in omega arith
    go None is e = absurd cc

-- ---- one field

not_true : (b : Bool) → not b ≡ true → b ≡ false
not_true true e = cc
not_true false e = refl

one_path : IsOneType (basic 111)
one_path = (record { spelled = refl; fits = refl }, omega arith)

pub one_string : IsOneType (basic 115)
one_string = (record { spelled = refl; fits = refl }, omega arith)

one_number : IsOneType (basic 117)
one_number = (record { spelled = refl; fits = refl }, omega arith)

one_signature : IsOneType (basic 103)
one_signature = (record { spelled = refl; fits = refl }, omega arith)

field_is : (place : ℕ) (f : HeaderField) → Holds f → is_allowed f ≡ true → IsField Little place (field_of f)
field_is place (Path t) holds e =
    let long = and_parts (is_path t.now && not (bytes_eq t.now local_path)) (ltb (length t.now) (2 ^ 32)) e in
    let parts = and_parts (is_path t.now) (not (bytes_eq t.now local_path)) long.0 in
    record { code_above = lit< tt; code_fits = lit< tt; typed = one_path; shaped = (parts.0, ltb-true (length t.now) (2 ^ 32) long.1); allowed = (refl, (refl, not_true (bytes_eq t.now local_path) parts.1)) }
field_is place (Interface t) holds e =
    let parts = and_parts (is_interface t.now) (not (bytes_eq t.now local_interface)) e in
    let string = interface_string t.now parts.0 in
    record { code_above = lit< tt; code_fits = lit< tt; typed = one_string; shaped = (string.plain, omega (arith, string.short)); allowed = (refl, (parts.0, not_true (bytes_eq t.now local_interface) parts.1)) }
field_is place (Member t) holds e =
    let string = member_string t.now e in
    record { code_above = lit< tt; code_fits = lit< tt; typed = one_string; shaped = (string.plain, omega (arith, string.short)); allowed = (refl, (e, refl)) }
field_is place (ErrorName t) holds e =
    let string = interface_string t.now e in
    record { code_above = lit< tt; code_fits = lit< tt; typed = one_string; shaped = (string.plain, omega (arith, string.short)); allowed = (refl, (e, refl)) }
field_is place (ReplySerial n) holds e =
    record { code_above = lit< tt; code_fits = lit< tt; typed = one_number; shaped = (refl, holds); allowed = (refl, e) }
field_is place (Destination t) holds e =
    let string = bus_name_string t.now e in
    record { code_above = lit< tt; code_fits = lit< tt; typed = one_string; shaped = (string.plain, omega (arith, string.short)); allowed = (refl, (e, refl)) }
field_is place (Sender t) holds e =
    let string = bus_name_string t.now e in
    record { code_above = lit< tt; code_fits = lit< tt; typed = one_string; shaped = (string.plain, omega (arith, string.short)); allowed = (refl, (e, refl)) }
field_is place (Signature t) holds e =
    record { code_above = lit< tt; code_fits = lit< tt; typed = one_signature; shaped = (e, signature_short t.now e); allowed = (refl, (refl, refl)) }

field_was : (place : ℕ) (f : HeaderField) → IsField Little place (field_of f) → is_allowed f ≡ true
field_was place (Path t) is =
    and_from (is_path t.now && not (bytes_eq t.now local_path)) (ltb (length t.now) (2 ^ 32))
    (and_from (is_path t.now) (not (bytes_eq t.now local_path)) is.shaped.0 (not_from_false (bytes_eq t.now local_path) is.allowed.1.1))
    (lt-ltb (length t.now) (2 ^ 32) is.shaped.1)
field_was place (Interface t) is = and_from (is_interface t.now) (not (bytes_eq t.now local_interface)) is.allowed.1.0 (not_from_false (bytes_eq t.now local_interface) is.allowed.1.1)
field_was place (Member t) is = is.allowed.1.0
field_was place (ErrorName t) is = is.allowed.1.0
field_was place (ReplySerial n) is = is.allowed.1
field_was place (Destination t) is = is.allowed.1.0
field_was place (Sender t) is = is.allowed.1.0
field_was place (Signature t) is = is.shaped.0

-- ---- all of them

-- no known one comes twice
abbrev pub AreOnce : List Field → Type 0
AreOnce [] = Unit {0}
AreOnce (f ∷ fs) = IsOnce (code_of f.code) f.code fs × AreOnce fs

pub fields_are : (place : ℕ) (xs : List (Option HeaderField)) → HoldEach xs → list_all may_be xs ≡ true → AreOnce (fields_of xs) → AreFields Little place (fields_of xs)
fields_are place [] hold e once = tt
fields_are place (None ∷ more) hold e once = fields_are place more hold e once
fields_are place (Some f ∷ more) hold e once =
    let parts = and_parts (is_allowed f) (list_all may_be more) e in
    (field_is place f hold.0 parts.0, once.0, fields_are (place + length (field_bytes Little place (field_of f))) more hold.1 parts.1 once.1)

pub fields_were : (place : ℕ) (xs : List (Option HeaderField)) → AreFields Little place (fields_of xs) → list_all may_be xs ≡ true
fields_were place [] are = refl
fields_were place (None ∷ more) are = fields_were place more are
fields_were place (Some f ∷ more) are =
    and_from (is_allowed f) (list_all may_be more) (field_was place f are.0) (fields_were (place + length (field_bytes Little place (field_of f))) more are.2)
