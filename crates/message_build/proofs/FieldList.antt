-- Fields one after the other, field by field.
use Rattle.std.proofs.Common.{◌≡◌, ℕ, suc, ◌+◌, ◌<◌, true, List, [], ◌∷◌, ◌++◌, length, drop, get_or, Option, Some, None, refl, sym, ap, ◌∙◌, append_assoc, arith, drop-cons, add-one}
use Rattle.std.specs.List.{list_all}
use Rattle.std.proofs.lemmas.Bool.{and_parts}
use Rattle.std.proofs.lemmas.List.{length-append}
use Rattle.message_value.specs.declared.order.Order.TheVariants.{Little}
use Rattle.message_view.specs.Spelling.{fields_bytes}
use Rattle.message_build.specs.declared.field.HeaderField.{HeaderField}
use Rattle.message_build.specs.HeaderFields.{fields_of, bytes_at, may_be, HoldEach}

pub first_field : (place : ℕ) (x : Option HeaderField) (more : List (Option HeaderField)) → fields_bytes Little place (fields_of (x ∷ more)) ≡ bytes_at place x ++ fields_bytes Little (place + length (bytes_at place x)) (fields_of more)
first_field place None more = let same : place ≡ place + 0 = omega arith in ap (λ (k : ℕ). fields_bytes Little k (fields_of more)) same
first_field place (Some field) more = refl

drop_is : {A : Type 0} (xs : List A) (i : ℕ) (x : A) → i < length xs → x ≡ get_or xs i x → drop i xs ≡ x ∷ drop (i + 1) xs
drop_is xs i x lt is = rw (add-one, drop-cons xs i x) (ap (λ (h : _). h ∷ drop (suc i) xs) (sym is))

-- the fields from one on
pub field_at : (place i : ℕ) (x : Option HeaderField) (xs : List (Option HeaderField)) → i < length xs → x ≡ get_or xs i x
    → fields_bytes Little place (fields_of (drop i xs)) ≡ bytes_at place x ++ fields_bytes Little (place + length (bytes_at place x)) (fields_of (drop (i + 1) xs))
field_at place i x xs lt is = ap (λ (l : List (Option HeaderField)). fields_bytes Little place (fields_of l)) (drop_is xs i x lt is) ∙ first_field place x (drop (i + 1) xs)

-- what is appended makes what is left fewer
pub left_at : (whole old new : List ℕ) (i : ℕ) (x : Option HeaderField) (xs : List (Option HeaderField)) → i < length xs → x ≡ get_or xs i x
    → whole ≡ old ++ fields_bytes Little (length old) (fields_of (drop i xs)) → new ≡ old ++ bytes_at (length old) x
    → whole ≡ new ++ fields_bytes Little (length new) (fields_of (drop (i + 1) xs))
left_at whole old new i x xs lt is e added =
    let first = bytes_at (length old) x in
    let place : length old + length first ≡ length new = sym (ap (λ (l : List ℕ). length l) added ∙ length-append old first) in
    let more = fields_of (drop (i + 1) xs) in
    e ∙ ap (λ (l : List ℕ). old ++ l) (field_at (length old) i x xs lt is)
    ∙ sym (append_assoc old first (fields_bytes Little (length old + length first) more))
    ∙ ap (λ (k : ℕ). (old ++ first) ++ fields_bytes Little k more) place
    ∙ ap (λ (l : List ℕ). l ++ fields_bytes Little (length new) more) (sym added)

-- one that is allowed, and the others
pub allowed_at : (i : ℕ) (x : Option HeaderField) (xs : List (Option HeaderField)) → i < length xs → x ≡ get_or xs i x
    → list_all may_be (drop i xs) ≡ true → (may_be x ≡ true) × (list_all may_be (drop (i + 1) xs) ≡ true)
allowed_at i x xs lt is e = and_parts (may_be x) (list_all may_be (drop (i + 1) xs)) (sym (ap (λ (l : List (Option HeaderField)). list_all may_be l) (drop_is xs i x lt is)) ∙ e)

pub hold_more : (x : Option HeaderField) (more : List (Option HeaderField)) → HoldEach (x ∷ []) → HoldEach more → HoldEach (x ∷ more)
hold_more None more has others = others
hold_more (Some field) more has others = (has.0, others)
