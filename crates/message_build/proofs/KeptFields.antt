-- The fields of a stamped message: each is a field where it stands, none comes twice, and each code but
-- SENDER's has the same value.
use Rattle.std.proofs.Common.{◌≡◌, ℕ, ◌+◌, Bool, true, false, cond, eqb, lit<, List, [], ◌∷◌, ◌++◌, length, filter, Option, Some, None, refl, sym, ap, subst, ◌∙◌, append_assoc, arith}
use Rattle.std.proofs.lemmas.Bool.{eqb-true}
use Rattle.std.proofs.lemmas.List.{length-append, append-nil}
use Rattle.signature.specs.Name.{is_bus_name}
use Rattle.message_value.specs.declared.order.Order.{Order}
use Rattle.message_value.specs.Value.{Value}
use Rattle.message_view.specs.declared.kind.Kind.{Kind}
use Rattle.message_view.specs.declared.kind.Kind.TheVariants as kinds
use Rattle.message_view.specs.Header.{code_of, has_required}
use Rattle.message_view.specs.Message.{Field, field_with, text_in, or_empty, signature_in}
use Rattle.message_view.specs.Spelling.{field_bytes, fields_bytes}
use Rattle.message_view.specs.Valid.{IsField, IsOnce, AreFields}
use Rattle.message_build.specs.Stamped.{sender_field, is_kept}
use Rattle.message_build.specs.StampedFields.{is_kept_code}
use Rattle.message_build.proofs.AllowedFields.{one_string}
use Rattle.message_build.proofs.PlainNames.{bus_name_string}
use Rattle.message_build.proofs.MovedFields.{field_moved}

-- ---- the list

-- the fields of a stamped message
abbrev pub stamped_list : List Field → List ℕ → List Field
stamped_list fields sender = filter is_kept fields ++ sender_field sender ∷ []

not_seven : (code : ℕ) → is_kept_code code ≡ true → eqb 7 code ≡ false
not_seven code e = go (eqb 7 code) refl
  where
    go : (b : Bool) → eqb 7 code ≡ b → b ≡ false
    go false h = refl
    go true h = let same : 7 ≡ code = eqb-true 7 code h in let kept : is_kept_code 7 ≡ true = subst (λ (n : ℕ). is_kept_code n ≡ true) (sym same) e in cc

-- a code but SENDER's has the same value
pub same_with : (code : ℕ) (fields : List Field) (sender : List ℕ) → is_kept_code code ≡ true → field_with code (stamped_list fields sender) ≡ field_with code fields
same_with code [] sender e = let other = not_seven code e in rw other refl
same_with code (f ∷ fs) sender e = go (same_with code fs sender e) (is_kept f) (eqb f.code code) refl refl
  where
    go : field_with code (stamped_list fs sender) ≡ field_with code fs → (k b : Bool) → is_kept f ≡ k → eqb f.code code ≡ b → field_with code (cond k (f ∷ filter is_kept fs) (filter is_kept fs) ++ sender_field sender ∷ []) ≡ cond b (Some f.value) (field_with code fs)
    go others true b is same = ap (λ (c : Bool). cond c (Some f.value) (field_with code (stamped_list fs sender))) same ∙ ap (λ (o : Option Value). cond b (Some f.value) o) others
    go others false false is same = others
    go others false true is same = absurd (let code_is : f.code ≡ code = eqb-true f.code code same in let kept : is_kept f ≡ true = ap is_kept_code code_is ∙ e in let no : true ≡ false = sym kept ∙ is in cc)

-- ---- each is a field

known_once : (code : ℕ) (fields others : List Field) → field_with code others ≡ field_with code fields → IsOnce (code_of code) code fields → IsOnce (code_of code) code others
known_once code fields others same =
    elim (code_of code) as (λ k. IsOnce k code fields → IsOnce k code others) [ Some known ↦ λ once. same ∙ once | None ↦ λ once. tt ]

pub sender_is : (order : Order) (place : ℕ) (sender : List ℕ) → is_bus_name sender ≡ true → IsField order place (sender_field sender)
sender_is order place sender e =
    let string = bus_name_string sender e in
    record { code_above = lit< tt; code_fits = lit< tt; typed = one_string; shaped = (string.plain, omega (arith, string.short)); allowed = (refl, (e, refl)) }

pub stamped_are : (order : Order) (p q : ℕ) (fields : List Field) (sender : List ℕ) → is_bus_name sender ≡ true → AreFields order p fields → AreFields order q (stamped_list fields sender)
stamped_are order p q [] sender e are = (sender_is order q sender e, refl, tt)
stamped_are order p q (f ∷ fs) sender e are = go (λ at. stamped_are order (p + length (field_bytes order p f)) at fs sender e are.2) (is_kept f) refl
  where
    go : ((at : ℕ) → AreFields order at (stamped_list fs sender)) → (k : Bool) → is_kept f ≡ k → AreFields order q (cond k (f ∷ filter is_kept fs) (filter is_kept fs) ++ sender_field sender ∷ [])
    go others true is = (
      field_moved order p q f are.0,
      known_once f.code fs (stamped_list fs sender) (same_with f.code fs sender is) are.1,
      others (q + length (field_bytes order q f)),
    )
    go others false is = others q

-- the fields that a kind requires are there
pub required_same : (kind : Kind) (fields : List Field) (sender : List ℕ) → has_required kind (stamped_list fields sender) ≡ has_required kind fields
required_same kinds.MethodCall fields sender = rw (same_with 1 fields sender refl, same_with 3 fields sender refl) refl
required_same kinds.MethodReturn fields sender = rw (same_with 5 fields sender refl) refl
required_same kinds.Error fields sender = rw (same_with 4 fields sender refl, same_with 5 fields sender refl) refl
required_same kinds.Signal fields sender = rw (same_with 1 fields sender refl, same_with 2 fields sender refl, same_with 3 fields sender refl) refl
required_same (kinds.Other byte) fields sender = refl

pub signature_same : (fields : List Field) (sender : List ℕ) → signature_in (stamped_list fields sender) ≡ signature_in fields
signature_same fields sender = ap (λ (o : Option Value). or_empty (text_in o)) (same_with 8 fields sender refl)

-- ---- their bytes

pub fields_bytes-append : (order : Order) (place : ℕ) (xs ys : List Field) → fields_bytes order place (xs ++ ys) ≡ fields_bytes order place xs ++ fields_bytes order (place + length (fields_bytes order place xs)) ys
fields_bytes-append order place [] ys = let same : place ≡ place + 0 = omega arith in ap (λ (k : ℕ). fields_bytes order k ys) same
fields_bytes-append order place (x ∷ xs) ys =
    let first = field_bytes order place x in
    let more = fields_bytes order (place + length first) xs in
    let end : place + length first + length more ≡ place + length (first ++ more) = omega (arith, length-append first more) in
    ap (λ (l : List ℕ). first ++ l) (fields_bytes-append order (place + length first) xs ys)
    ∙ sym (append_assoc first more (fields_bytes order (place + length first + length more) ys))
    ∙ ap (λ (k : ℕ). (first ++ more) ++ fields_bytes order k ys) end

-- the field SENDER after the others
pub sender_last : (order : Order) (place : ℕ) (xs : List Field) (sender : List ℕ) → fields_bytes order place (xs ++ sender_field sender ∷ []) ≡ fields_bytes order place xs ++ field_bytes order (place + length (fields_bytes order place xs)) (sender_field sender)
sender_last order place xs sender =
    fields_bytes-append order place xs (sender_field sender ∷ [])
    ∙ ap (λ (l : List ℕ). fields_bytes order place xs ++ l) (append-nil (field_bytes order (place + length (fields_bytes order place xs)) (sender_field sender)))

-- fields are fields wherever they stand

pub are_moved : (order : Order) (p q : ℕ) (fields : List Field) → AreFields order p fields → AreFields order q fields
are_moved order p q [] are = tt
are_moved order p q (f ∷ fs) are = (field_moved order p q f are.0, are.1, are_moved order (p + length (field_bytes order p f)) (q + length (field_bytes order q f)) fs are.2)
