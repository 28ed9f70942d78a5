-- The array of fields: what is read is spelled so and are fields, and what is spelled so is read again.
use Rattle.std.proofs.Common.{◌≡◌, ℕ, zero, suc, ◌+◌, ◌<◌, ◌≤◌, Bool, true, false, cond, eqb, List, [], ◌∷◌, ◌++◌, length, Option, Some, None, Ok, refl, sym, ap, ◌∙◌, append_assoc, arith}
use Rattle.std.proofs.lemmas.Bool.{eqb-true, eqb-false, ne_eqb}
use Rattle.std.proofs.lemmas.List.{append-nil, nil_from_length, length-append}
use Rattle.message_value.specs.declared.order.Order.{Order}
use Rattle.message_value.specs.declared.error.MsgError.{MsgError}
use Rattle.message_value.specs.Spelling.{padding, zeros, value_bytes}
use Rattle.message_value.specs.Reading.{◌>>=◌, At}
use Rattle.message_value.proofs.OkSteps.{bind_ok, found_none, ok_is}
use Rattle.message_value.proofs.WordBytes.{IsBytes}
use Rattle.message_value.proofs.ReadItems.{at}
use Rattle.message_view.specs.declared.field.FieldCode.{FieldCode}
use Rattle.message_view.specs.Header.{code_of}
use Rattle.message_view.specs.Message.{Field, field_with}
use Rattle.message_view.specs.Spelling.{field_front, field_value_place, field_bytes, fields_bytes}
use Rattle.message_view.specs.Valid.{IsOnce, AreFields}
use Rattle.message_view.specs.Reading.{field_at, fields_from}
use Rattle.message_view.proofs.ReadFields.{once_at, once_from, ReadsField, field_takes, field_again}
use Rattle.message_view.proofs.FieldTurns.{field_shorter}

-- ---- no known code comes twice

-- no later known field has the code of one in front
abbrev pub Apart : List Field → List Field → Type 0
Apart front [] = Unit {0}
Apart front (field ∷ more) = IsOnce (code_of field.code) field.code front × Apart front more

pub nothing_front : (more : List Field) → Apart [] more
nothing_front [] = tt
nothing_front (field ∷ more) = (once_from (code_of field.code) field.code [] (λ known e. refl), nothing_front more)

-- the code of a list with one more field
with_push : (code : ℕ) (front : List Field) (field : Field) → field_with code front ≡ None → eqb field.code code ≡ false → field_with code (front ++ field ∷ []) ≡ None
with_push code [] field none other = rw other refl
with_push code (f ∷ front) field none other =
    let n = found_none (eqb f.code code) f.value (field_with code front) none in
    rw n.0 (with_push code front field n.1 other)

of_push : (code : ℕ) (front : List Field) (field : Field) → field_with code (front ++ field ∷ []) ≡ None → (field_with code front ≡ None) × (eqb field.code code ≡ false)
of_push code [] field none = (refl, (found_none (eqb field.code code) field.value None none).0)
of_push code (f ∷ front) field none =
    let n = found_none (eqb f.code code) f.value (field_with code (front ++ field ∷ [])) none in
    let both = of_push code front field n.1 in
    (rw n.0 both.0, both.1)

-- a later field hasn't the code of a known one in front
differ : (field later : Field) (known : FieldCode) (more : List Field) → IsOnce (code_of field.code) field.code (later ∷ more) → code_of later.code ≡ Some known → eqb field.code later.code ≡ false
differ field later known more once is = ne_eqb _ _ (λ same. never same (once_at (code_of field.code) field.code (later ∷ more) known once (ap code_of same ∙ is)))
  where
    never : field.code ≡ later.code → field_with field.code (later ∷ more) ≡ None → ⊥
    never same none = eqb-false later.code field.code (found_none (eqb later.code field.code) later.value (field_with field.code more) none).0 (sym same)

-- what follows is the same with a longer front
once_after : (o : Option FieldCode) (code : ℕ) (first : Field) (more : List Field) → IsOnce o code (first ∷ more) → IsOnce o code more
once_after (Some known) code first more once = (found_none (eqb first.code code) first.value (field_with code more) once).1
once_after None code first more once = tt

pub Apart-push : (front : List Field) (field : Field) (more : List Field) → Apart front more → IsOnce (code_of field.code) field.code more → Apart (front ++ field ∷ []) more
Apart-push front field [] apart once = tt
Apart-push front field (later ∷ more) apart once = (
  once_from (code_of later.code) later.code (front ++ field ∷ []) (λ known e. with_push later.code front field (once_at (code_of later.code) later.code front known apart.0 e) (differ field later known more once e)),
  Apart-push front field more apart.1 (once_after (code_of field.code) field.code later more once),
)

pub Apart-pull : (front : List Field) (field : Field) (more : List Field) → Apart (front ++ field ∷ []) more → Apart front more × IsOnce (code_of field.code) field.code more
Apart-pull front field [] apart = (tt, once_from (code_of field.code) field.code [] (λ known e. refl))
Apart-pull front field (later ∷ more) apart =
    let others = Apart-pull front field more apart.1 in (
      (once_from (code_of later.code) later.code front (λ known e. (of_push later.code front field (once_at (code_of later.code) later.code (front ++ field ∷ []) known apart.0 e)).0), others.0),
      once_from (code_of field.code) field.code (later ∷ more) (λ known e. not_first known e (once_at (code_of field.code) field.code more known others.1 e)),
    )
  where
    not_first : (known : FieldCode) → code_of field.code ≡ Some known → field_with field.code more ≡ None → field_with field.code (later ∷ more) ≡ None
    not_first known e none =
        let other : eqb later.code field.code ≡ false = ne_eqb _ _ (λ same. eqb-false field.code later.code (of_push later.code front field (once_at (code_of later.code) later.code (front ++ field ∷ []) known apart.0 (ap code_of same ∙ e))).1 (sym same)) in
        rw other none

-- ---- one field after the other

pub field_bytes-pos : (order : Order) (place : ℕ) (field : Field) → 0 < length (field_bytes order place field)
field_bytes-pos order place field = omega (arith, length-append (zeros (padding 8 place)) (field_front field ++ value_bytes order (field_value_place place field) field.type field.value))

pub fields_again : (turns : ℕ) (order : Order) (front fields : List Field) (place : ℕ) (outside : MsgError) → AreFields order place fields → Apart front fields → length (fields_bytes order place fields) ≤ turns → fields_from turns order front (at place (fields_bytes order place fields) outside) ≡ Ok (front ++ fields)
fields_again zero order front [] place outside are apart le = ap (λ (x : List Field). Ok x) (sym (append-nil front))
fields_again (suc turns) order front [] place outside are apart le = ap (λ (x : List Field). Ok x) (sym (append-nil front))
fields_again zero order front (field ∷ fields) place outside are apart le = absurd (omega (arith, field_bytes-pos order place field, length-append (field_bytes order place field) (fields_bytes order (place + length (field_bytes order place field)) fields)))
fields_again (suc turns) order front (field ∷ fields) place outside are apart le =
    let first = field_bytes order place field in
    let rest = fields_bytes order (place + length first) fields in
    let len = length-append first rest in
    let pos = field_bytes-pos order place field in
    let some : eqb (length (first ++ rest)) 0 ≡ false = ne_eqb _ _ (λ e. omega arith) in
    let grouped : (front ++ field ∷ []) ++ fields ≡ front ++ field ∷ fields = append_assoc front (field ∷ []) fields in
    rw (some, field_again order front field place outside rest are.0 apart.0)
    (fields_again turns order (front ++ field ∷ []) fields (place + length first) outside are.2 (Apart-push front field fields apart.1 are.1) (omega (arith, len, pos)) ∙ ap (λ (x : List Field). Ok x) grouped)

-- what follows those in front
pub record Follow (order : Order) (front : List Field) (a : At) (fields : List Field) : Type 0 where
  pub more : List Field
  pub whole : fields ≡ front ++ more
  pub spelled : a.rest ≡ fields_bytes order a.place more
  pub are : AreFields order a.place more
  pub apart : Apart front more

none_follow : (order : Order) (front : List Field) (a : At) (fields : List Field) → length a.rest ≡ 0 → front ≡ fields → Follow order front a fields
none_follow order front a fields none same = record { more = []; whole = sym same ∙ sym (append-nil front); spelled = nil_from_length a.rest none; are = tt; apart = tt }

one_more : (order : Order) (front : List Field) (a : At) (fields : List Field) (field : Field × At) → ReadsField order front a field.0 field.1 → Follow order (front ++ field.0 ∷ []) field.1 fields → Follow order front a fields
one_more order front a fields field r f =
    let first = field_bytes order a.place field.0 in
    let others = Apart-pull front field.0 f.more f.apart in
    record {
      more = field.0 ∷ f.more;
      whole = f.whole ∙ append_assoc front (field.0 ∷ []) f.more;
      spelled = r.takes.parts ∙ ap (λ (x : List ℕ). first ++ x) (f.spelled ∙ ap (λ (k : ℕ). fields_bytes order k f.more) r.takes.place);
      are = (r.is, others.1, rw (← r.takes.place) f.are);
      apart = (r.once, others.0);
    }

pub fields_take : (turns : ℕ) (order : Order) (front : List Field) (a : At) (fields : List Field) → IsBytes a.rest → length a.rest ≤ turns → fields_from turns order front a ≡ Ok fields → Follow order front a fields
fields_take zero order front a fields fits le e = none_follow order front a fields (omega arith) (ok_is front fields e)
fields_take (suc turns) order front a fields fits le e =
    go (eqb (length a.rest) 0) refl e
    (λ (field : Field × At) was later.
    let r = field_takes order front a field fits was in
    one_more order front a fields field r (fields_take turns order (front ++ field.0 ∷ []) field.1 fields (r.takes.fits fits) (omega (arith, field_shorter order front a field was)) later))
  where
    go : (b : Bool) → eqb (length a.rest) 0 ≡ b → cond b (Ok front) (field_at order front a >>= λ field. fields_from turns order (front ++ field.0 ∷ []) field.1) ≡ Ok fields
        → ((field : Field × At) → field_at order front a ≡ Ok field → fields_from turns order (front ++ field.0 ∷ []) field.1 ≡ Ok fields → Follow order front a fields) → Follow order front a fields
    go true h e next = none_follow order front a fields (eqb-true _ _ h) (ok_is front fields e)
    go false h e next =
        let b = bind_ok (field_at order front a) (λ field. fields_from turns order (front ++ field.0 ∷ []) field.1) fields e in
        next b.0 b.1 b.2
