-- Worked examples of the order of faults in values.
use Rattle.std.proofs.Common.{◌≡◌, ℕ, List, [], ◌∷◌, Ok, Err, refl}
use Rattle.signature.specs.DataType.{basic, variant, array}
use Rattle.message_value.specs.declared.order.Order.TheVariants.{Little}
use Rattle.message_value.specs.declared.error.MsgError.TheVariants as faults
use Rattle.message_value.specs.Value.{number, elements, of_type, no_values}
use Rattle.message_value.specs.Reading.{At, value_at, value_by, array_at, variant_at, extent_at, signature_at, number_value_at, text_value_at, short_text_at, text_at, word_at, byte_at, aligned_at, item_at}

abbrev body : ℕ → List ℕ → At
body place bytes = record { place = place; rest = bytes; outside = faults.Short }

-- ---- padding, and then depth

-- `au` at place 3: what isn't zero before it comes first
padding_first : value_at 0 Little (array (basic 117)) (body 3 (1 ∷ 0 ∷ 0 ∷ 0 ∷ 0 ∷ [])) ≡ Err faults.Padding
unfolding value_by aligned_at item_at
padding_first = refl

-- the depth, before the length
then_depth : value_at 0 Little (array (basic 117)) (body 3 (0 ∷ [])) ≡ Err faults.Depth
unfolding value_by aligned_at item_at
then_depth = refl

-- a number needs no level
number_deepest : value_at 0 Little (basic 121) (body 3 (7 ∷ [])) ≡ Ok (number 7, body 4 [])
unfolding value_by number_value_at aligned_at item_at
number_deepest = refl

-- `v` of `v` of `y`: each variant takes a level
variant_too_deep : value_at 1 Little variant (body 0 (1 ∷ 118 ∷ 0 ∷ 1 ∷ 121 ∷ 0 ∷ 7 ∷ [])) ≡ Err faults.Depth
unfolding value_by variant_at signature_at byte_at aligned_at item_at
variant_too_deep = refl

variant_deep_enough : value_at 2 Little variant (body 0 (1 ∷ 118 ∷ 0 ∷ 1 ∷ 121 ∷ 0 ∷ 7 ∷ [])) ≡ Ok (of_type variant (of_type (basic 121) (number 7)), body 7 [])
unfolding value_by variant_at signature_at byte_at number_value_at aligned_at item_at
variant_deep_enough = refl

-- `v` of `u`: what lies between a signature and its value is padding
variant_padding : value_at 1 Little variant (body 0 (1 ∷ 117 ∷ 0 ∷ 9 ∷ 7 ∷ 0 ∷ 0 ∷ 0 ∷ [])) ≡ Err faults.Padding
unfolding value_by variant_at signature_at byte_at aligned_at item_at
variant_padding = refl

-- ---- an array's length

-- 67108865, before the zeros and the elements, which aren't there
too_long : value_at 1 Little (array (basic 116)) (body 0 (1 ∷ 0 ∷ 0 ∷ 4 ∷ [])) ≡ Err faults.ArrayLength
unfolding value_by array_at extent_at word_at aligned_at item_at
too_long = refl

-- 67108864 is allowed
longest : value_at 1 Little (array (basic 117)) (body 0 (0 ∷ 0 ∷ 0 ∷ 4 ∷ [])) ≡ Err faults.Short
unfolding value_by array_at extent_at word_at aligned_at item_at
longest = refl

-- `at` with no elements: the zeros are there nevertheless
empty_read : value_at 1 Little (array (basic 116)) (body 0 (0 ∷ 0 ∷ 0 ∷ 0 ∷ 0 ∷ 0 ∷ 0 ∷ 0 ∷ [])) ≡ Ok (elements no_values, body 8 [])
unfolding value_by array_at extent_at word_at aligned_at item_at
empty_read = refl

empty_short : value_at 1 Little (array (basic 116)) (body 0 (0 ∷ 0 ∷ 0 ∷ 0 ∷ 0 ∷ 0 ∷ 0 ∷ [])) ≡ Err faults.Short
unfolding value_by array_at extent_at word_at aligned_at item_at
empty_short = refl

-- an array's end is looked at before its elements: a boolean of 2, and no second one
end_first : value_at 1 Little (array (basic 98)) (body 0 (8 ∷ 0 ∷ 0 ∷ 0 ∷ 2 ∷ 0 ∷ 0 ∷ 0 ∷ [])) ≡ Err faults.Short
unfolding value_by array_at extent_at word_at aligned_at item_at
end_first = refl

-- the same boolean in an array that ends with it
then_element : value_at 1 Little (array (basic 98)) (body 0 (4 ∷ 0 ∷ 0 ∷ 0 ∷ 2 ∷ 0 ∷ 0 ∷ 0 ∷ [])) ≡ Err faults.BadBool
unfolding value_by array_at extent_at number_value_at word_at aligned_at item_at
then_element = refl

-- a number that the array's length cuts, whatever follows in the body
element_cut : value_at 1 Little (array (basic 117)) (body 0 (3 ∷ 0 ∷ 0 ∷ 0 ∷ 7 ∷ 0 ∷ 0 ∷ 0 ∷ [])) ≡ Err faults.ArrayLength
unfolding value_by array_at extent_at number_value_at word_at aligned_at item_at
element_cut = refl

-- `aay`: the inner array lies beyond the outer one's end
inner_cut : value_at 2 Little (array (array (basic 121))) (body 0 (4 ∷ 0 ∷ 0 ∷ 0 ∷ 1 ∷ 0 ∷ 0 ∷ 0 ∷ 7 ∷ [])) ≡ Err faults.ArrayLength
unfolding value_by array_at extent_at number_value_at word_at aligned_at item_at
inner_cut = refl

-- ---- texts

-- `g` of `(`: its form, and then its end
form_first : value_at 0 Little (basic 103) (body 0 (1 ∷ 40 ∷ 9 ∷ [])) ≡ Err faults.BadSignature
unfolding value_by text_value_at short_text_at text_at byte_at aligned_at item_at
form_first = refl

then_end : value_at 0 Little (basic 103) (body 0 (1 ∷ 121 ∷ 9 ∷ [])) ≡ Err faults.BadText
unfolding value_by text_value_at short_text_at text_at byte_at aligned_at item_at
then_end = refl

-- a text and its zero byte are one item
end_missing : value_at 0 Little (basic 103) (body 0 (1 ∷ 40 ∷ [])) ≡ Err faults.Short
unfolding value_by text_value_at short_text_at text_at byte_at aligned_at item_at
end_missing = refl

-- a variant of two types has no signature
two_types : value_at 1 Little variant (body 0 (2 ∷ 121 ∷ 121 ∷ 0 ∷ 7 ∷ 7 ∷ [])) ≡ Err faults.BadSignature
unfolding value_by variant_at signature_at byte_at aligned_at item_at
two_types = refl
