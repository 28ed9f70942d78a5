-- The bytes of a name are ASCII, and none is zero.
use Rattle.std.proofs.Common.{◌≡◌, ℕ, zero, suc, ◌+◌, ◌<◌, ◌≤◌, Bool, true, false, cond, eqb, leb, lit<, List, [], ◌∷◌, length, refl, sym, ◌∙◌, arith, zero-add}
use Rattle.std.specs.Prelude.{◌&&◌, ◌==◌}
use Rattle.std.specs.List.{list_any, list_all}
use Rattle.std.specs.Str.{IsAscii}
use Rattle.std.proofs.lemmas.Bool.{and_parts, leb-true, eqb-true}
use Rattle.std.proofs.lemmas.Bool.Decides.{nat_tests}
use Rattle.std.proofs.lemmas.Str.{IsUtf8-from_ascii, is_utf8-from_IsUtf8}
use Rattle.signature.specs.Name.{may_begin, may_follow, interface_form, well_known_form, unique_form, is_element, are_elements, is_interface, is_member, is_bus_name, is_dotted}
use Rattle.signature.proofs.Elements.{rest_are, rest_are-cons}
use Rattle.message_value.specs.Fits.{is_text_of}

-- no byte is zero, and each is ASCII
abbrev Plain : List ℕ → Type 0
Plain [] = Unit {0}
Plain (b ∷ bytes) = (0 < b) × (b < 128) × Plain bytes

plain_ascii : (bytes : List ℕ) → Plain bytes → IsAscii bytes
plain_ascii [] p = λ i. omega arith
plain_ascii (b ∷ bytes) p = go (plain_ascii bytes p.2)
  where
    go : IsAscii bytes → IsAscii (b ∷ bytes)
    go ahead zero = p.1
    go ahead (suc i) = ahead i

plain_nonzero : (bytes : List ℕ) → Plain bytes → list_any (λ byte. byte == 0) bytes ≡ false
plain_nonzero [] p = refl
plain_nonzero (b ∷ bytes) p =
    let above : 0 < b = p.0 in
    let first : (b == 0) ≡ false = grind (arith, nat_tests) in
    rw first (plain_nonzero bytes p.2)

plain_text : (bytes : List ℕ) → Plain bytes → is_text_of 115 bytes ≡ true
plain_text bytes p = rw (is_utf8-from_IsUtf8 bytes (IsUtf8-from_ascii bytes (plain_ascii bytes p)), plain_nonzero bytes p) refl

abbrev IsPlain : ℕ → Type 0
IsPlain b = (0 < b) × (b < 128)

-- elements divided by a byte, of which one may have begun
rest_plain : (are : Bool → ℕ → List ℕ → Bool) (begins follows : ℕ → Bool) (divider : ℕ) → IsPlain divider
    → ((b : ℕ) → begins b ≡ true → IsPlain b) → ((b : ℕ) → follows b ≡ true → IsPlain b)
    → ((n b : ℕ) (rest : List ℕ) → are true n (b ∷ rest) ≡ cond (eqb b divider) false (begins b && are false n rest))
    → ((n b : ℕ) (rest : List ℕ) → are false n (b ∷ rest) ≡ cond (eqb b divider) (are true (n + 1) rest) (follows b && are false n rest))
    → (at_start : Bool) (n : ℕ) (rest : List ℕ) → are at_start n rest ≡ true → Plain rest
rest_plain are begins follows divider d first later at_first at_later at_start n [] h = tt
rest_plain are begins follows divider d first later at_first at_later true n (b ∷ rest) h =
    go (rest_plain are begins follows divider d first later at_first at_later false n rest) (eqb b divider) (sym (at_first n b rest) ∙ h)
  where
    go : (are false n rest ≡ true → Plain rest) → (g : Bool) → cond g false (begins b && are false n rest) ≡ true → Plain (b ∷ rest)
    go ahead true h = cc
    go ahead false h = let parts = and_parts (begins b) (are false n rest) h in let p = first b parts.0 in (p.0, p.1, ahead parts.1)
rest_plain are begins follows divider d first later at_first at_later false n (b ∷ rest) h =
    go (rest_plain are begins follows divider d first later at_first at_later true (n + 1) rest) (rest_plain are begins follows divider d first later at_first at_later false n rest) (eqb b divider) refl (sym (at_later n b rest) ∙ h)
  where
    go : (are true (n + 1) rest ≡ true → Plain rest) → (are false n rest ≡ true → Plain rest) → (g : Bool) → eqb b divider ≡ g → cond g (are true (n + 1) rest) (follows b && are false n rest) ≡ true → Plain (b ∷ rest)
    go afresh ahead true e h = let same : b ≡ divider = eqb-true b divider e in (rw same d.0, rw same d.1, afresh h)
    go afresh ahead false e h = let parts = and_parts (follows b) (are false n rest) h in let p = later b parts.0 in (p.0, p.1, ahead parts.1)

interface_begins : (b : ℕ) → may_begin interface_form b ≡ true → IsPlain b
interface_begins b h = (grind (arith, nat_tests), grind (arith, nat_tests))

interface_follows : (b : ℕ) → may_follow interface_form b ≡ true → IsPlain b
interface_follows b h = (grind (arith, nat_tests), grind (arith, nat_tests))

well_known_begins : (b : ℕ) → may_begin well_known_form b ≡ true → IsPlain b
well_known_begins b h = (grind (arith, nat_tests), grind (arith, nat_tests))

well_known_follows : (b : ℕ) → may_follow well_known_form b ≡ true → IsPlain b
well_known_follows b h = (grind (arith, nat_tests), grind (arith, nat_tests))

unique_begins : (b : ℕ) → may_begin unique_form b ≡ true → IsPlain b
unique_begins b h = (grind (arith, nat_tests), grind (arith, nat_tests))

unique_follows : (b : ℕ) → may_follow unique_form b ≡ true → IsPlain b
unique_follows b h = (grind (arith, nat_tests), grind (arith, nat_tests))

interface_plain : (least : ℕ) (text : List ℕ) → are_elements interface_form least text ≡ true → Plain text
interface_plain least text h =
    rest_plain (rest_are interface_form least) (may_begin interface_form) (may_follow interface_form) 46 (lit< tt, lit< tt) interface_begins interface_follows (λ n b rest. rest_are-cons interface_form least true n b rest) (λ n b rest. rest_are-cons interface_form least false n b rest) true 0 text (rw zero-add h)

well_known_plain : (least : ℕ) (text : List ℕ) → are_elements well_known_form least text ≡ true → Plain text
well_known_plain least text h =
    rest_plain (rest_are well_known_form least) (may_begin well_known_form) (may_follow well_known_form) 46 (lit< tt, lit< tt) well_known_begins well_known_follows (λ n b rest. rest_are-cons well_known_form least true n b rest) (λ n b rest. rest_are-cons well_known_form least false n b rest) true 0 text (rw zero-add h)

unique_plain : (least : ℕ) (text : List ℕ) → are_elements unique_form least text ≡ true → Plain text
unique_plain least text h =
    rest_plain (rest_are unique_form least) (may_begin unique_form) (may_follow unique_form) 46 (lit< tt, lit< tt) unique_begins unique_follows (λ n b rest. rest_are-cons unique_form least true n b rest) (λ n b rest. rest_are-cons unique_form least false n b rest) true 0 text (rw zero-add h)

follows_plain : (text : List ℕ) → list_all (may_follow interface_form) text ≡ true → Plain text
follows_plain [] h = tt
follows_plain (b ∷ text) h =
    let parts = and_parts (may_follow interface_form b) (list_all (may_follow interface_form) text) h in
    let p = interface_follows b parts.0 in
    (p.0, p.1, follows_plain text parts.1)

element_plain : (text : List ℕ) → is_element interface_form text ≡ true → Plain text
element_plain [] h = cc
element_plain (b ∷ text) h =
    let parts = and_parts (may_begin interface_form b) (list_all (may_follow interface_form) text) h in
    let p = interface_begins b parts.0 in
    (p.0, p.1, follows_plain text parts.1)

dotted_plain : (least : ℕ) (text : List ℕ) → is_dotted least text ≡ true → Plain text
dotted_plain least [] h = cc
dotted_plain least (b ∷ rest) h = go (eqb b 58) refl h
  where
    go : (g : Bool) → eqb b 58 ≡ g → cond g (are_elements unique_form least rest) (are_elements well_known_form least (b ∷ rest)) ≡ true → Plain (b ∷ rest)
    go true e h = let same : b ≡ 58 = eqb-true b 58 e in (omega arith, omega arith, unique_plain least rest h)
    go false e h = well_known_plain least (b ∷ rest) h

-- a text of type `s`, and not too long
pub record IsString (bytes : List ℕ) : Type 0 where
  pub plain : is_text_of 115 bytes ≡ true
  pub short : length bytes ≤ 255

string_of : (bytes : List ℕ) → leb (length bytes) 255 ≡ true → Plain bytes → IsString bytes
string_of bytes len plain = record { plain = plain_text bytes plain; short = leb-true (length bytes) 255 len }

pub interface_string : (text : List ℕ) → is_interface text ≡ true → IsString text
interface_string text h =
    let parts = and_parts (leb (length text) 255) (are_elements interface_form 2 text) h in
    string_of text parts.0 (interface_plain 2 text parts.1)

pub member_string : (text : List ℕ) → is_member text ≡ true → IsString text
member_string text h =
    let parts = and_parts (leb (length text) 255) (is_element interface_form text) h in
    string_of text parts.0 (element_plain text parts.1)

pub bus_name_string : (text : List ℕ) → is_bus_name text ≡ true → IsString text
bus_name_string text h =
    let parts = and_parts (leb (length text) 255) (is_dotted 2 text) h in
    string_of text parts.0 (dotted_plain 2 text parts.1)
