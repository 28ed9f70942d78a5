-- The path of a message begins with a `/`.
use Rattle.std.proofs.Common.{◌≡◌, ℕ, true, List, [], ◌∷◌, eqb, Option, Some, refl, ap}
use Rattle.std.proofs.lemmas.Bool.{eqb-true, and_parts, false≢true}
use Rattle.signature.specs.DataType.{basic}
use Rattle.signature.specs.Name.{is_path, are_elements, path_form}
use Rattle.message_value.specs.declared.order.Order.{Order}
use Rattle.message_value.specs.Value.{Value, text}
use Rattle.message_value.specs.Fits.{ValueFits}
use Rattle.message_view.specs.Message.{Message, text_in, path_of}
use Rattle.message_view.specs.Spelling.{fixed_len}
use Rattle.message_view.specs.Valid.{Valid, levels_in_field}
use Rattle.message_view.proofs.FieldsHeld.{fields_held}
use Rattle.entry_table.proofs.Fronts.{IsRooted}

path_rooted : (bytes : List ℕ) → is_path bytes ≡ true → (rest : List ℕ) × (bytes ≡ 47 ∷ rest)
path_rooted [] e = absurd (false≢true e)
path_rooted (b ∷ []) e = ([], ap (λ (n : ℕ). n ∷ []) (eqb-true b 47 e))
path_rooted (b ∷ c ∷ rest) e = (c ∷ rest, ap (λ (n : ℕ). n ∷ c ∷ rest) (eqb-true b 47 (and_parts (eqb b 47) (are_elements path_form 1 (c ∷ rest)) e).0))

value_rooted : (order : Order) (place : ℕ) (value : Value) → ValueFits order levels_in_field place (basic 111) value → IsRooted (text_in (Some value))
value_rooted order place (text bytes) fits = path_rooted bytes fits.0
value_rooted order place _ fits = tt

pub rooted : (bytes : List ℕ) (m : Message) → Valid bytes m → IsRooted (path_of m)
rooted bytes m valid = fields_held (λ (o : Option Value). IsRooted (text_in o)) _ 1 m.order refl tt (value_rooted m.order) fixed_len m.fields valid.fields
