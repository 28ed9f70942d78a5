-- The fields that were asked for: none comes twice, and each is found by its code.
use Rattle.std.proofs.Common.{◌≡◌, ℕ, ◌<◌, ◌≤◌, Bool, true, false, eqb, lit<, List, [], ◌∷◌, ◌++◌, Option, Some, None, is_some, refl, ap, ◌∙◌, arith}
use Rattle.std.specs.Prelude.{◌&&◌}
use Rattle.std.proofs.lemmas.Bool.Decides.{nat_tests}
use Rattle.std.specs.Borrow.{Bor}
use Rattle.signature.specs.DataType.{basic}
use Rattle.message_value.specs.Value.{Value, number, text}
use Rattle.message_view.specs.declared.kind.Kind.{Kind}
use Rattle.message_view.specs.declared.kind.Kind.TheVariants as kinds
use Rattle.message_view.specs.Header.{code_of, has_required}
use Rattle.message_view.specs.Message.{Field, field_with, text_in, or_empty, signature_in}
use Rattle.message_view.specs.Valid.{IsOnce}
use Rattle.message_build.specs.Asked.{text_field, number_field, signature_field}
use Rattle.message_build.specs.declared.header.Header.{Header}
use Rattle.message_build.specs.Headers.{fields_set, has_needed_of}
use Rattle.message_build.specs.HeaderFields.{text_said}
use Rattle.message_build.proofs.AllowedFields.{AreOnce}

-- each code is above
abbrev Above : ℕ → List Field → Type 0
Above c [] = Unit {0}
Above c (f ∷ fs) = (c < f.code) × Above c fs

above_none : (c : ℕ) (fs : List Field) → Above c fs → field_with c fs ≡ None
above_none c [] above = refl
above_none c (f ∷ fs) above =
    let lt : c < f.code = above.0 in
    let other : eqb f.code c ≡ false = grind (arith, nat_tests) in
    rw other (above_none c fs above.1)

above_less : (b c : ℕ) (fs : List Field) → b ≤ c → Above c fs → Above b fs
above_less b c [] le above = tt
above_less b c (f ∷ fs) le above = let lt = above.0 in (omega arith, above_less b c fs le above.1)

is_once : (c : ℕ) (fs : List Field) → Above c fs → IsOnce (code_of c) c fs
is_once c fs above = elim (code_of c) as (λ k. IsOnce k c fs) [ Some known ↦ above_none c fs above | None ↦ tt ]

-- above a code, and none twice
record Rising (c : ℕ) (fs : List Field) : Type 0 where
  above : Above c fs
  once : AreOnce fs

one_field : (b : ℕ) (f : Field) (fs : List Field) → b < f.code → Rising f.code fs → Rising b (f ∷ fs)
one_field b f fs lt r = record { above = (lt, above_less b f.code fs (omega arith) r.above); once = (is_once f.code fs r.above, r.once) }

no_field : (b c : ℕ) (fs : List Field) → b < c → Rising c fs → Rising b fs
no_field b c fs lt r = record { above = above_less b c fs (omega arith) r.above; once = r.once }

text_rises : (b c type : ℕ) (o : Option (List ℕ)) (fs : List Field) → b < c → Rising c fs → Rising b (text_field c type o ++ fs)
text_rises b c type None fs lt r = no_field b c fs lt r
text_rises b c type (Some t) fs lt r = one_field b (record { code = c; type = basic type; value = text t }) fs lt r

number_rises : (b c : ℕ) (o : Option ℕ) (fs : List Field) → b < c → Rising c fs → Rising b (number_field c o ++ fs)
number_rises b c None fs lt r = no_field b c fs lt r
number_rises b c (Some n) fs lt r = one_field b (record { code = c; type = basic 117; value = number n }) fs lt r

abbrev from_8 : List ℕ → List Field
from_8 s = signature_field s

abbrev from_7 : Header → List ℕ → List Field
from_7 h s = text_field 7 115 (text_said h.sender) ++ from_8 s

abbrev from_6 : Header → List ℕ → List Field
from_6 h s = text_field 6 115 (text_said h.destination) ++ from_7 h s

abbrev from_5 : Header → List ℕ → List Field
from_5 h s = number_field 5 h.reply_serial ++ from_6 h s

abbrev from_4 : Header → List ℕ → List Field
from_4 h s = text_field 4 115 (text_said h.error_name) ++ from_5 h s

abbrev from_3 : Header → List ℕ → List Field
from_3 h s = text_field 3 115 (text_said h.member) ++ from_4 h s

abbrev from_2 : Header → List ℕ → List Field
from_2 h s = text_field 2 115 (text_said h.interface) ++ from_3 h s

rising_7 : (s : List ℕ) → Rising 7 (from_8 s)
rising_7 [] = record { above = tt; once = tt }
rising_7 (b ∷ s) = one_field 7 (record { code = 8; type = basic 103; value = text (b ∷ s) }) [] (lit< tt) (record { above = tt; once = tt })

rising_6 : (h : Header) (s : List ℕ) → Rising 6 (from_7 h s)
rising_6 h s = text_rises 6 7 115 (text_said h.sender) (from_8 s) (lit< tt) (rising_7 s)

rising_5 : (h : Header) (s : List ℕ) → Rising 5 (from_6 h s)
rising_5 h s = text_rises 5 6 115 (text_said h.destination) (from_7 h s) (lit< tt) (rising_6 h s)

rising_4 : (h : Header) (s : List ℕ) → Rising 4 (from_5 h s)
rising_4 h s = number_rises 4 5 h.reply_serial (from_6 h s) (lit< tt) (rising_5 h s)

rising_3 : (h : Header) (s : List ℕ) → Rising 3 (from_4 h s)
rising_3 h s = text_rises 3 4 115 (text_said h.error_name) (from_5 h s) (lit< tt) (rising_4 h s)

rising_2 : (h : Header) (s : List ℕ) → Rising 2 (from_3 h s)
rising_2 h s = text_rises 2 3 115 (text_said h.member) (from_4 h s) (lit< tt) (rising_3 h s)

rising_1 : (h : Header) (s : List ℕ) → Rising 1 (from_2 h s)
rising_1 h s = text_rises 1 2 115 (text_said h.interface) (from_3 h s) (lit< tt) (rising_2 h s)

pub set_once : (h : Header) (s : List ℕ) → AreOnce (fields_set h s)
set_once h s = let r = text_rises 0 1 111 (text_said h.path) (from_2 h s) (lit< tt) (rising_1 h s) in r.once

-- ---- by code

skip_text : (code c type : ℕ) (o : Option (List ℕ)) (fs : List Field) → eqb c code ≡ false → field_with code (text_field c type o ++ fs) ≡ field_with code fs
skip_text code c type None fs e = refl
skip_text code c type (Some t) fs e = rw e refl

skip_number : (code c : ℕ) (o : Option ℕ) (fs : List Field) → eqb c code ≡ false → field_with code (number_field c o ++ fs) ≡ field_with code fs
skip_number code c None fs e = refl
skip_number code c (Some n) fs e = rw e refl

found_text : (c type : ℕ) (o : Option (Bor (List ℕ))) (fs : List Field) → eqb c c ≡ true → Above c fs → is_some (field_with c (text_field c type (text_said o) ++ fs)) ≡ is_some o
found_text c type None fs e above = rw (above_none c fs above) refl
found_text c type (Some t) fs e above = rw e refl

found_number : (c : ℕ) (o : Option ℕ) (fs : List Field) → eqb c c ≡ true → Above c fs → is_some (field_with c (number_field c o ++ fs)) ≡ is_some o
found_number c None fs e above = rw (above_none c fs above) refl
found_number c (Some n) fs e above = rw e refl

abbrev has : ℕ → Header → List ℕ → Bool
has code h s = is_some (field_with code (fields_set h s))

has_1 : (h : Header) (s : List ℕ) → has 1 h s ≡ is_some h.path
has_1 h s = let r = rising_1 h s in found_text 1 111 h.path (from_2 h s) refl r.above

has_2 : (h : Header) (s : List ℕ) → has 2 h s ≡ is_some h.interface
has_2 h s =
    let r = rising_2 h s in
    ap (λ (v : Option Value). is_some v) (skip_text 2 1 111 (text_said h.path) (from_2 h s) refl) ∙ found_text 2 115 h.interface (from_3 h s) refl r.above

has_3 : (h : Header) (s : List ℕ) → has 3 h s ≡ is_some h.member
has_3 h s =
    let r = rising_3 h s in
    ap (λ (v : Option Value). is_some v) (skip_text 3 1 111 (text_said h.path) (from_2 h s) refl ∙ skip_text 3 2 115 (text_said h.interface) (from_3 h s) refl) ∙ found_text 3 115 h.member (from_4 h s) refl r.above

has_4 : (h : Header) (s : List ℕ) → has 4 h s ≡ is_some h.error_name
has_4 h s =
    let r = rising_4 h s in
    ap (λ (v : Option Value). is_some v) (skip_text 4 1 111 (text_said h.path) (from_2 h s) refl ∙ skip_text 4 2 115 (text_said h.interface) (from_3 h s) refl ∙ skip_text 4 3 115 (text_said h.member) (from_4 h s) refl) ∙ found_text 4 115 h.error_name (from_5 h s) refl r.above

has_5 : (h : Header) (s : List ℕ) → has 5 h s ≡ is_some h.reply_serial
has_5 h s =
    let r = rising_5 h s in
    ap (λ (v : Option Value). is_some v) (skip_text 5 1 111 (text_said h.path) (from_2 h s) refl ∙ skip_text 5 2 115 (text_said h.interface) (from_3 h s) refl ∙ skip_text 5 3 115 (text_said h.member) (from_4 h s) refl ∙ skip_text 5 4 115 (text_said h.error_name) (from_5 h s) refl) ∙ found_number 5 h.reply_serial (from_6 h s) refl r.above

and_true : (b : Bool) → (b && true) ≡ b
and_true true = refl
and_true false = refl

and_three : (a b c : Bool) → (a && (b && (c && true))) ≡ ((a && b) && c)
and_three true b c = ap (λ (x : Bool). b && x) (and_true c)
and_three false b c = refl

-- the fields that a kind requires
pub required_set : (kind : Kind) (h : Header) (s : List ℕ) → has_required kind (fields_set h s) ≡ has_needed_of kind h
required_set kinds.MethodCall h s = rw (and_true (has 3 h s), has_1 h s, has_3 h s) refl
required_set kinds.MethodReturn h s = rw (and_true (has 5 h s), has_5 h s) refl
required_set kinds.Error h s = rw (and_true (has 5 h s), has_4 h s, has_5 h s) refl
required_set kinds.Signal h s = and_three (has 1 h s) (has 2 h s) (has 3 h s) ∙ rw (has_1 h s, has_2 h s, has_3 h s) refl
required_set (kinds.Other byte) h s = refl

-- the signature
signature_last : (s : List ℕ) → or_empty (text_in (field_with 8 (from_8 s))) ≡ s
signature_last [] = refl
signature_last (b ∷ s) = refl

pub signature_set : (h : Header) (s : List ℕ) → signature_in (fields_set h s) ≡ s
signature_set h s =
    ap (λ (v : Option Value). or_empty (text_in v)) (skip_text 8 1 111 (text_said h.path) (from_2 h s) refl ∙ skip_text 8 2 115 (text_said h.interface) (from_3 h s) refl ∙ skip_text 8 3 115 (text_said h.member) (from_4 h s) refl ∙ skip_text 8 4 115 (text_said h.error_name) (from_5 h s) refl ∙ skip_number 8 5 h.reply_serial (from_6 h s) refl ∙ skip_text 8 6 115 (text_said h.destination) (from_7 h s) refl ∙ skip_text 8 7 115 (text_said h.sender) (from_8 s) refl)
    ∙ signature_last s
