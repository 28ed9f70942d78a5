-- A field where it stands elsewhere: after its zeros it has the same bytes, and it is still a field.
use Rattle.std.proofs.Common.{◌≡◌, ℕ, ◌+◌, ◌-◌, ◌%◌, List, [], ◌∷◌, ◌++◌, length, refl, sym, ap, ◌∙◌, arith}
use Rattle.signature.specs.Alignment.{alignment_of}
use Rattle.message_value.specs.declared.order.Order.{Order}
use Rattle.message_value.specs.Spelling.{padding, align_up, zeros}
use Rattle.message_value.proofs.MovedValues.{Alike, Alike-plus, aligned_alike, after_alike, value_moved, bare_fits_moved}
use Rattle.message_view.specs.Message.{Field}
use Rattle.message_view.specs.Spelling.{field_front, field_value_place, field_bytes, fields_bytes}
use Rattle.message_view.specs.Valid.{IsField}

multiples_alike : (p q : ℕ) → Alike (align_up 8 p) (align_up 8 q)
multiples_alike p q = record { is = omega arith }

values_alike : (p q : ℕ) (f : Field) → Alike (field_value_place p f) (field_value_place q f)
values_alike p q f = Alike-plus (align_up 8 p) (align_up 8 q) (length (field_front f)) (multiples_alike p q)

-- a field's bytes are its zeros, and those that it has at 0
pub field_spelled : (order : Order) (place : ℕ) (f : Field) → field_bytes order place f ≡ zeros (padding 8 place) ++ field_bytes order 0 f
field_spelled order place f =
    ap (λ (x : List ℕ). zeros (padding 8 place) ++ (field_front f ++ x)) (value_moved order (field_value_place place f) (field_value_place 0 f) (values_alike place 0 f) f.type f.value)

pub field_moved : (order : Order) (p q : ℕ) (f : Field) → IsField order p f → IsField order q f
field_moved order p q f is = record {
  code_above = is.code_above;
  code_fits = is.code_fits;
  typed = is.typed;
  shaped = bare_fits_moved order 63 (align_up (alignment_of f.type) (field_value_place p f)) (align_up (alignment_of f.type) (field_value_place q f)) (aligned_alike (field_value_place p f) (field_value_place q f) (values_alike p q f) f.type) f.type f.value is.shaped;
  allowed = is.allowed;
}

-- the fields of an array that begins at a multiple of 8 have the bytes that they have at 0
pub fields_moved : (order : Order) (p q : ℕ) → Alike p q → (fs : List Field) → fields_bytes order p fs ≡ fields_bytes order q fs
fields_moved order p q s [] = refl
fields_moved order p q s (f ∷ fs) =
    let a = field_bytes order p f in
    let b = field_bytes order q f in
    let first : a ≡ b = field_spelled order p f ∙ ap (λ (n : ℕ). zeros n ++ field_bytes order 0 f) (padding_8 p q s) ∙ sym (field_spelled order q f) in
    ap (λ (x : List ℕ). a ++ x) (fields_moved order (p + length a) (q + length b) (after_alike p q a b s first) fs) ∙ ap (λ (x : List ℕ). x ++ fields_bytes order (q + length b) fs) first
  where
    padding_8 : (p q : ℕ) → Alike p q → padding 8 p ≡ padding 8 q
    padding_8 p q s = ap (λ (r : ℕ). (8 - r) % 8) s.is
