-- One field: what is read is spelled so and is a field, and what is spelled so is read again.
use Rattle.std.proofs.Common.{◌≡◌, ℕ, zero, suc, ◌+◌, ◌<◌, Bool, true, false, not, cond, eqb, List, [], ◌∷◌, ◌++◌, length, is_some, Option, Some, None, Ok, refl, sym, ap, subst, ◌∙◌, append_assoc, arith}
use Rattle.std.specs.Prelude.{◌&&◌}
use Rattle.std.proofs.lemmas.Bool.{eqb-true, eq-eqb, ne_eqb, not-false}
use Rattle.std.proofs.lemmas.List.{length-append}
use Rattle.signature.specs.DataType.{DataType, basic, variant, array, dict, struct}
use Rattle.message_value.specs.declared.order.Order.{Order}
use Rattle.message_value.specs.declared.error.MsgError.{MsgError}
use Rattle.message_value.specs.declared.error.MsgError.TheVariants as faults
use Rattle.message_value.specs.Value.{Value, number, text, elements, entries, members, of_type}
use Rattle.message_value.specs.Spelling.{padding, align_up, zeros, signature_bytes, value_bytes}
use Rattle.message_value.specs.Fits.{IsOneType, BareFits, ValueFits}
use Rattle.message_value.specs.Reading.{◌>>=◌, At, aligned_at, byte_at, signature_at, value_at}
use Rattle.message_value.proofs.OkSteps.{bind_ok, found_none, nothing_is, ok_is, some_is}
use Rattle.message_value.proofs.WordBytes.{IsBytes}
use Rattle.message_value.proofs.ReadItems.{at, Takes, Takes-then, length-zeros, byte_takes, byte_again, aligned_takes, aligned_again}
use Rattle.message_value.proofs.ReadTexts.{signature_takes, signature_again}
use Rattle.message_value.proofs.ReadValues.{value_takes, value_again}
use Rattle.message_view.specs.declared.field.FieldCode.{FieldCode}
use Rattle.message_view.specs.declared.field.FieldCode.TheVariants.{Path, Interface, Member, ErrorName, ReplySerial, Destination, Sender, Signature, UnixFds}
use Rattle.message_view.specs.Header.{code_of, type_code, is_named_well, is_reserved, is_number_allowed}
use Rattle.message_view.specs.Slots.{code_byte}
use Rattle.message_view.specs.Message.{Field, field_with}
use Rattle.message_view.specs.Spelling.{field_value_place, field_bytes}
use Rattle.message_view.specs.Valid.{HasContent, IsAllowed, IsField, IsOnce}
use Rattle.message_view.specs.Reading.{number_fault, content_fault, or_fault, is_basic_of, type_fault, known_fault, content_at, code_fault, code_at, field_at}

pub or_fault_ok : {A : Type 0} (o : Option MsgError) (x y : A) → or_fault o x ≡ Ok y → (o ≡ None) × (x ≡ y)
or_fault_ok (Some d) x y e = absurd cc
or_fault_ok None x y e = (refl, cc)

-- ---- codes

-- one step of the table
row : (byte n : ℕ) (named : FieldCode) (others : Option FieldCode) → code_byte named ≡ n → ((code : FieldCode) → others ≡ Some code → code_byte code ≡ byte) → (code : FieldCode) → cond (eqb byte n) (Some named) others ≡ Some code → code_byte code ≡ byte
row byte n named others is later code e = go (eqb byte n) refl e
  where
    go : (b : Bool) → eqb byte n ≡ b → cond b (Some named) others ≡ Some code → code_byte code ≡ byte
    go true h e = ap code_byte (sym (some_is named code e)) ∙ is ∙ sym (eqb-true byte n h)
    go false h e = later code e

pub code_byte-code_of : (byte : ℕ) (code : FieldCode) → code_of byte ≡ Some code → code_byte code ≡ byte
code_byte-code_of byte =
    row byte 1 Path _ refl (row byte 2 Interface _ refl (row byte 3 Member _ refl (row byte 4 ErrorName _ refl (row byte 5 ReplySerial _ refl (row byte 6 Destination _ refl (row byte 7 Sender _ refl (row byte 8 Signature _ refl (row byte 9 UnixFds None refl (λ code e. absurd cc)))))))))

-- what a known code says of those in front
pub once_at : (o : Option FieldCode) (code : ℕ) (fields : List Field) (known : FieldCode) → IsOnce o code fields → o ≡ Some known → field_with code fields ≡ None
once_at (Some k) code fields known once e = once
once_at None code fields known once e = absurd cc

pub once_from : (o : Option FieldCode) (code : ℕ) (fields : List Field) → ((known : FieldCode) → o ≡ Some known → field_with code fields ≡ None) → IsOnce o code fields
once_from (Some k) code fields h = h k refl
once_from None code fields h = tt

abbrev pub code_bytes : ℕ → ℕ → List ℕ
code_bytes place code = zeros (padding 8 place) ++ code ∷ []

-- a code that isn't refused
no_code_fault : (front : List Field) (code : ℕ) → code_fault front code ≡ None → (0 < code) × IsOnce (code_of code) code front
no_code_fault front code e =
    let n = found_none (eqb code 0) faults.FieldCode (cond (is_some (code_of code) && is_some (field_with code front)) (Some faults.FieldTwice) None) e in
    let t = found_none (is_some (code_of code) && is_some (field_with code front)) faults.FieldTwice None n.1 in
    (above code n.0, once (code_of code) (field_with code front) refl t.0)
  where
    above : (n : ℕ) → eqb n 0 ≡ false → 0 < n
    above zero e = absurd cc
    above (suc n) e = omega arith

    once : (o : Option FieldCode) (x : Option Value) → field_with code front ≡ x → (is_some o && is_some x) ≡ false → IsOnce o code front
    once (Some k) x is e = is ∙ nothing_is x e
    once None x is e = tt

code_passes : (front : List Field) (code : ℕ) → 0 < code → IsOnce (code_of code) code front → code_fault front code ≡ None
code_passes front code above once =
    let some : eqb code 0 ≡ false = ne_eqb _ _ (λ e. omega arith) in
    rw (some, go (code_of code) once) refl
  where
    go : (o : Option FieldCode) → IsOnce o code front → (is_some o && is_some (field_with code front)) ≡ false
    go (Some k) once = rw once refl
    go None once = refl

pub code_takes : (front : List Field) (a : At) (found : ℕ × At) → code_at front a ≡ Ok found → Takes a (code_bytes a.place found.0) found.1 × (0 < found.0) × (IsBytes a.rest → found.0 < 256) × IsOnce (code_of found.0) found.0 front
unfolding code_at
code_takes front a found e =
    let s = bind_ok (aligned_at 8 a) (λ start. byte_at start >>= λ code. or_fault (code_fault front code.0) code) found e in
    let b = bind_ok (byte_at s.0) (λ code. or_fault (code_fault front code.0) code) found s.2 in
    let g = or_fault_ok (code_fault front b.0.0) b.0 found b.2 in
    let skipped = (aligned_takes 8 a s.0 s.1).0 in
    let byte = byte_takes s.0 b.0 b.1 in
    let both = Takes-then a (zeros (padding 8 a.place)) s.0 (b.0.0 ∷ []) b.0.1 skipped byte.0 in
    let passed = no_code_fault front b.0.0 g.0 in
    subst (λ (f : ℕ × At). Takes a (code_bytes a.place f.0) f.1 × (0 < f.0) × (IsBytes a.rest → f.0 < 256) × IsOnce (code_of f.0) f.0 front) {x = b.0} g.1 (both, passed.0, λ h. byte.1 (skipped.fits h), passed.1)

pub code_again : (front : List Field) (code place : ℕ) (outside : MsgError) (rest : List ℕ) → 0 < code → IsOnce (code_of code) code front → code_at front (at place (zeros (padding 8 place) ++ (code ∷ rest)) outside) ≡ Ok (code, at (align_up 8 place + 1) rest outside)
unfolding code_at
code_again front code place outside rest above once =
    rw (aligned_again 8 place outside (code ∷ rest), byte_again (align_up 8 place) code outside rest, code_passes front code above once) refl

-- ---- what a field holds

pub basic_is : (code : ℕ) (type : DataType) → is_basic_of code type ≡ true → type ≡ basic code
basic_is code (basic c) e = ap (λ (k : ℕ). basic k) (eqb-true c code e)
basic_is code variant e = absurd cc
basic_is code (array t) e = absurd cc
basic_is code (dict k v) e = absurd cc
basic_is code (struct t ts) e = absurd cc

pub basic_again : (code : ℕ) → is_basic_of code (basic code) ≡ true
basic_again code = eq-eqb code code refl

has_content : (code : FieldCode) (order : Order) (levels place t : ℕ) (value : Value) → BareFits order levels place (basic t) value → content_fault code value ≡ None → HasContent code value
has_content code order levels place t (number bits) fits e = allowed (is_number_allowed code bits) e
  where
    allowed : (b : Bool) → cond b None (Some (number_fault code)) ≡ None → b ≡ true
    allowed true e = refl
    allowed false e = absurd cc
has_content code order levels place t (text bytes) fits e =
    let named = found_none (not (is_named_well code bytes)) faults.BadName (cond (is_reserved code bytes) (Some faults.Reserved) None) e in
    let free = found_none (is_reserved code bytes) faults.Reserved None named.1 in
    (not-false (is_named_well code bytes) named.0, free.0)
has_content code order levels place t (elements vs) fits e = absurd fits
has_content code order levels place t (entries es) fits e = absurd fits
has_content code order levels place t (members vs) fits e = absurd fits
has_content code order levels place t (of_type s v) fits e = absurd fits

no_content_fault : (code : FieldCode) (value : Value) → HasContent code value → content_fault code value ≡ None
no_content_fault code (number bits) has = rw has refl
no_content_fault code (text bytes) has = rw (has.0, has.1) refl
no_content_fault code (elements vs) has = absurd has
no_content_fault code (entries es) has = absurd has
no_content_fault code (members vs) has = absurd has
no_content_fault code (of_type s v) has = absurd has

abbrev pub field_of : ℕ → DataType → Value → Field
field_of code type value = record { code = code; type = type; value = value }

-- a field whose content isn't refused
allowed_is : (known : Option FieldCode) (order : Order) (place : ℕ) (field : Field) → ValueFits order 63 place field.type field.value → type_fault known field.type ≡ None → known_fault known field.value ≡ None → IsAllowed known field
allowed_is (Some code) order place field fits typed holds =
    let same = basic_is (type_code code) field.type (passed (is_basic_of (type_code code) field.type) typed) in
    (same, has_content code order 63 _ (type_code code) field.value (subst (λ (t : DataType). ValueFits order 63 place t field.value) same fits) holds)
  where
    passed : (b : Bool) → cond b None (Some faults.FieldType) ≡ None → b ≡ true
    passed true e = refl
    passed false e = absurd cc
allowed_is None order place field fits typed holds = tt

no_type_fault : (known : Option FieldCode) (field : Field) → IsAllowed known field → type_fault known field.type ≡ None
no_type_fault (Some code) field is =
    let same : is_basic_of (type_code code) field.type ≡ true = ap (is_basic_of (type_code code)) is.0 ∙ basic_again (type_code code) in
    rw same refl
no_type_fault None field is = refl

no_known_fault : (known : Option FieldCode) (field : Field) → IsAllowed known field → known_fault known field.value ≡ None
no_known_fault (Some code) field is = no_content_fault code field.value is.1
no_known_fault None field is = refl

-- the type and the value of a variant that stands at a place
abbrev pub content_bytes : Order → ℕ → DataType → Value → List ℕ
content_bytes order place type value = signature_bytes type ++ value_bytes order (place + length (signature_bytes type)) type value

pub record Holds (order : Order) (known : Option FieldCode) (a : At) (type : DataType) (value : Value) (tail : At) : Type 0 where
  pub takes : Takes a (content_bytes order a.place type value) tail
  pub typed : IsOneType type
  pub shaped : ValueFits order 63 (a.place + length (signature_bytes type)) type value
  pub right_type : type_fault known type ≡ None
  pub right_value : known_fault known value ≡ None

pub content_takes : (order : Order) (known : Option FieldCode) (a : At) (found : (DataType × Value) × At) → IsBytes a.rest → content_at order known a ≡ Ok found → Holds order known a found.0.0 found.0.1 found.1
unfolding content_at
content_takes order known a found fits e =
    let s = bind_ok (signature_at a) (λ type. or_fault (type_fault known type.0) type.1 >>= λ start. value_at 63 order type.0 start >>= λ value. or_fault (known_fault known value.0) ((type.0, value.0), value.1)) found e in
    let type = s.0.0 in
    let t = bind_ok (or_fault (type_fault known type) s.0.1) (λ start. value_at 63 order type start >>= λ value. or_fault (known_fault known value.0) ((type, value.0), value.1)) found s.2 in
    let g = or_fault_ok (type_fault known type) s.0.1 t.0 t.1 in
    let v = bind_ok (value_at 63 order type t.0) (λ value. or_fault (known_fault known value.0) ((type, value.0), value.1)) found t.2 in
    let made : (DataType × Value) × At = ((type, v.0.0), v.0.1) in
    let h = or_fault_ok (known_fault known v.0.0) made found v.2 in
    let first = signature_takes a s.0 s.1 in
    let read : value_at 63 order type s.0.1 ≡ Ok v.0 = ap (value_at 63 order type) g.1 ∙ v.1 in
    let second = value_takes 63 order type s.0.1 v.0 (first.0.fits fits) read in
    let here = subst (λ (k : ℕ). Takes s.0.1 (value_bytes order k type v.0.0) v.0.1 × ValueFits order 63 k type v.0.0) first.0.place second in
    let both = Takes-then a (signature_bytes type) s.0.1 (value_bytes order (a.place + length (signature_bytes type)) type v.0.0) v.0.1 first.0 here.0 in
    subst (λ (f : (DataType × Value) × At). Holds order known a f.0.0 f.0.1 f.1) {x = made} h.1 (record { takes = both; typed = first.1; shaped = here.1; right_type = g.0; right_value = h.0 })

pub content_again : (order : Order) (known : Option FieldCode) (place : ℕ) (outside : MsgError) (field : Field) (rest : List ℕ) → IsOneType field.type → ValueFits order 63 (place + length (signature_bytes field.type)) field.type field.value → IsAllowed known field
    → content_at order known (at place (content_bytes order place field.type field.value ++ rest) outside) ≡ Ok ((field.type, field.value), at (place + length (content_bytes order place field.type field.value)) rest outside)
unfolding content_at
content_again order known place outside field rest typed shaped allowed =
    let front = signature_bytes field.type in
    let bytes = value_bytes order (place + length front) field.type field.value in
    let end : place + length front + length bytes ≡ place + length (front ++ bytes) = omega (arith, length-append front bytes) in
    let grouped : (front ++ bytes) ++ rest ≡ front ++ (bytes ++ rest) = append_assoc front bytes rest in
    ap (λ (x : List ℕ). content_at order known (at place x outside)) grouped
    ∙ rw (signature_again field.type place outside (bytes ++ rest) typed, no_type_fault known field allowed, value_again 63 order field.type (place + length front) outside field.value rest shaped, no_known_fault known field allowed) (ap (λ (k : ℕ). Ok ((field.type, field.value), at k rest outside)) end)

-- ---- a field

pub record ReadsField (order : Order) (front : List Field) (a : At) (field : Field) (tail : At) : Type 0 where
  pub takes : Takes a (field_bytes order a.place field) tail
  pub is : IsField order a.place field
  pub once : IsOnce (code_of field.code) field.code front

pub field_takes : (order : Order) (front : List Field) (a : At) (found : Field × At) → IsBytes a.rest → field_at order front a ≡ Ok found → ReadsField order front a found.0 found.1
unfolding field_at
field_takes order front a found fits e =
    let c = bind_ok (code_at front a) (λ code. content_at order (code_of code.0) code.1 >>= λ content. Ok (field_of code.0 content.0.0 content.0.1, content.1)) found e in
    let code = c.0.0 in
    let v = bind_ok (content_at order (code_of code) c.0.1) (λ content. Ok (field_of code content.0.0 content.0.1, content.1)) found c.2 in
    let type = v.0.0.0 in
    let value = v.0.0.1 in
    let field = field_of code type value in
    let made : Field × At = (field, v.0.1) in
    let first = code_takes front a c.0 c.1 in
    let second = content_takes order (code_of code) c.0.1 v.0 (first.0.fits fits) v.1 in
    let skipped = zeros (padding 8 a.place) in
    let start : c.0.1.place + length (signature_bytes type) ≡ field_value_place a.place field = omega (arith, first.0.place, length-append skipped (code ∷ []), length-zeros (padding 8 a.place)) in
    let bytes = value_bytes order (field_value_place a.place field) type value in
    let here : Takes c.0.1 (signature_bytes type ++ bytes) v.0.1 = subst (λ (k : ℕ). Takes c.0.1 (signature_bytes type ++ value_bytes order k type value) v.0.1) start second.takes in
    let shaped : ValueFits order 63 (field_value_place a.place field) type value = subst (λ (k : ℕ). ValueFits order 63 k type value) start second.shaped in
    let both = Takes-then a (code_bytes a.place code) c.0.1 (signature_bytes type ++ bytes) v.0.1 first.0 here in
    let grouped : code_bytes a.place code ++ (signature_bytes type ++ bytes) ≡ field_bytes order a.place field = append_assoc skipped (code ∷ []) (signature_bytes type ++ bytes) in
    let takes : Takes a (field_bytes order a.place field) v.0.1 = subst (λ (x : List ℕ). Takes a x v.0.1) grouped both in
    let is : IsField order a.place field = record {
      code_above = first.1;
      code_fits = first.2 fits;
      typed = second.typed;
      shaped = shaped;
      allowed = allowed_is (code_of code) order (field_value_place a.place field) field shaped second.right_type second.right_value;
    } in
    subst (λ (f : Field × At). ReadsField order front a f.0 f.1) {x = made} (ok_is made found v.2) (record { takes = takes; is = is; once = first.3 })

pub field_again : (order : Order) (front : List Field) (field : Field) (place : ℕ) (outside : MsgError) (rest : List ℕ) → IsField order place field → IsOnce (code_of field.code) field.code front
    → field_at order front (at place (field_bytes order place field ++ rest) outside) ≡ Ok (field, at (place + length (field_bytes order place field)) rest outside)
unfolding field_at
field_again order front field place outside rest is once =
    let skipped = zeros (padding 8 place) in
    let start = align_up 8 place + 1 in
    let sig = signature_bytes field.type in
    let at_value : start + length sig ≡ field_value_place place field = omega arith in
    let shaped : ValueFits order 63 (start + length sig) field.type field.value = rw at_value is.shaped in
    let bytes = content_bytes order start field.type field.value in
    let same : field_bytes order place field ≡ skipped ++ (field.code ∷ bytes) = ap (λ (k : ℕ). skipped ++ (field.code ∷ (sig ++ value_bytes order k field.type field.value))) (sym at_value) in
    let grouped : field_bytes order place field ++ rest ≡ skipped ++ (field.code ∷ (bytes ++ rest)) = ap (λ (x : List ℕ). x ++ rest) same ∙ append_assoc skipped (field.code ∷ bytes) rest in
    let end : start + length bytes ≡ place + length (field_bytes order place field) = omega (arith, ap (λ (x : List ℕ). length x) same, length-append skipped (field.code ∷ bytes), length-zeros (padding 8 place)) in
    ap (λ (x : List ℕ). field_at order front (at place x outside)) grouped
    ∙ rw (code_again front field.code place outside (bytes ++ rest) is.code_above once, content_again order (code_of field.code) start outside field rest is.typed shaped is.allowed) (ap (λ (k : ℕ). Ok (field, at k rest outside)) end)
