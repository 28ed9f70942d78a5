-- Worked examples of the wire format.
use Rattle.std.proofs.Common.{◌≡◌, ℕ, List, [], ◌∷◌, ◌++◌, Ok, Err, refl}
use Rattle.signature.specs.DataType.{DataType, basic, variant, array, dict, struct, no_types, one_more}
use Rattle.message_value.specs.declared.order.Order.TheVariants.{Little, Big}
use Rattle.message_value.specs.declared.error.MsgError.TheVariants as faults
use Rattle.message_value.specs.Value.{Value, number, elements, entries, members, of_type, no_values, one_value, no_entries, one_entry}
use Rattle.message_value.specs.Spelling.{value_bytes}
use Rattle.message_value.specs.Reading.{At, value_at, value_by, array_at, dict_at, struct_at, variant_at, entry_at, extent_at, signature_at, number_value_at, word_at, byte_at, aligned_at, item_at}

-- `(yau)` at place 1, little-endian: 7, and an array of 1 and 2
abbrev pair : Value
pair = members (one_value (number 7) (one_value (elements (one_value (number 1) (one_value (number 2) no_values))) no_values))

abbrev pair_type : DataType
pair_type = struct (basic 121) (one_more (array (basic 117)) no_types)

abbrev pair_bytes : List ℕ
pair_bytes = 0 ∷ 0 ∷ 0 ∷ 0 ∷ 0 ∷ 0 ∷ 0 ∷ 7 ∷ 0 ∷ 0 ∷ 0 ∷ 8 ∷ 0 ∷ 0 ∷ 0 ∷ 1 ∷ 0 ∷ 0 ∷ 0 ∷ 2 ∷ 0 ∷ 0 ∷ 0 ∷ []

pair_spelled : value_bytes Little 1 pair_type pair ≡ pair_bytes
pair_spelled = refl

abbrev in_body : ℕ → List ℕ → At
in_body place bytes = record { place = place; rest = bytes; outside = faults.Short }

pair_read : value_at 2 Little pair_type (in_body 1 (pair_bytes ++ 9 ∷ [])) ≡ Ok (pair, in_body 24 (9 ∷ []))
unfolding value_by array_at struct_at extent_at number_value_at word_at aligned_at item_at
pair_read = refl

pair_too_deep : value_at 1 Little pair_type (in_body 1 pair_bytes) ≡ Err faults.Depth
unfolding value_by array_at struct_at extent_at number_value_at word_at aligned_at item_at
pair_too_deep = refl

-- `a{yv}` at place 4, big-endian: 1 is the number 5 of two bytes
abbrev settings : Value
settings = entries (one_entry (number 1) (of_type (basic 113) (number 5)) no_entries)

abbrev settings_bytes : List ℕ
settings_bytes = 0 ∷ 0 ∷ 0 ∷ 6 ∷ 1 ∷ 1 ∷ 113 ∷ 0 ∷ 0 ∷ 5 ∷ []

settings_spelled : value_bytes Big 4 (dict 121 variant) settings ≡ settings_bytes
settings_spelled = refl

settings_read : value_at 2 Big (dict 121 variant) (in_body 4 settings_bytes) ≡ Ok (settings, in_body 14 [])
unfolding value_by dict_at entry_at variant_at extent_at signature_at number_value_at word_at byte_at aligned_at item_at
settings_read = refl
