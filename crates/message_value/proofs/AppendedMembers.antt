-- Members with one more after them.
use Rattle.std.proofs.Common.{◌≡◌, ℕ, ◌+◌, List, [], ◌∷◌, ◌++◌, length, refl, sym, ap, ◌∙◌, append_assoc, arith}
use Rattle.std.proofs.lemmas.List.{length-append}
use Rattle.signature.specs.DataType.{DataType, DataTypes, no_types, one_more, spelling, spellings}
use Rattle.message_value.specs.declared.order.Order.{Order}
use Rattle.message_value.specs.Value.{Value, Values, no_values, one_value}
use Rattle.message_value.specs.Spelling.{members_bytes, value_bytes}

abbrev pub with_type : DataTypes → DataType → DataTypes
with_type no_types type = one_more type no_types
with_type (one_more t ts) type = one_more t (with_type ts type)

abbrev pub with_value : Values → Value → Values
with_value no_values value = one_value value no_values
with_value (one_value v vs) value = one_value v (with_value vs value)

-- as many values as types
abbrev pub AsMany : DataTypes → Values → Type 0
AsMany no_types no_values = Unit {0}
AsMany (one_more t ts) (one_value v vs) = AsMany ts vs
AsMany _ _ = ⊥

append_nothing : (xs : List ℕ) → xs ++ [] ≡ xs
append_nothing [] = refl
append_nothing (x ∷ xs) = ap (λ (l : List ℕ). x ∷ l) (append_nothing xs)

pub spellings-with_type : (types : DataTypes) (type : DataType) → spellings (with_type types type) ≡ spellings types ++ spelling type
spellings-with_type no_types type = append_nothing (spelling type)
spellings-with_type (one_more t ts) type = ap (λ (l : List ℕ). spelling t ++ l) (spellings-with_type ts type) ∙ sym (append_assoc (spelling t) (spellings ts) (spelling type))

pub members_bytes-with : (order : Order) (place : ℕ) (types : DataTypes) (values : Values) (type : DataType) (value : Value) → AsMany types values
    → members_bytes order place (with_type types type) (with_value values value) ≡ members_bytes order place types values ++ value_bytes order (place + length (members_bytes order place types values)) type value
members_bytes-with order place no_types no_values type value many =
    let same : place ≡ place + 0 = omega arith in
    append_nothing (value_bytes order place type value) ∙ ap (λ (k : ℕ). value_bytes order k type value) same
members_bytes-with order place no_types (one_value v vs) type value many = absurd many
members_bytes-with order place (one_more t ts) no_values type value many = absurd many
members_bytes-with order place (one_more t ts) (one_value v vs) type value many =
    let first = value_bytes order place t v in
    let more = members_bytes order (place + length first) ts vs in
    let end : place + length first + length more ≡ place + length (first ++ more) = omega (arith, length-append first more) in
    ap (λ (l : List ℕ). first ++ l) (members_bytes-with order (place + length first) ts vs type value many)
    ∙ sym (append_assoc first more (value_bytes order (place + length first + length more) type value))
    ∙ ap (λ (k : ℕ). (first ++ more) ++ value_bytes order k type value) end
