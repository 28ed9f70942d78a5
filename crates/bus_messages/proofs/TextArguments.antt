-- The text of a message whose signature is one text.
use Rattle.std.proofs.Common.{◌≡◌, ◌≢◌, ℕ, List, [], ◌∷◌, length, lit≤, Some, None, refl, sym, ap, subst, ◌∙◌}
use Rattle.signature.specs.DataType.{DataTypes, basic, no_types, one_more, spellings, SigText}
use Rattle.message_value.specs.declared.order.Order.{Order}
use Rattle.message_value.specs.Value.{Values, number, text, elements, entries, members, of_type, no_values, one_value}
use Rattle.message_value.specs.Fits.{MembersFit}
use Rattle.message_value.specs.Arguments.{arguments_from}
use Rattle.message_view.specs.Message.{Message}
use Rattle.message_view.specs.Spelling.{header_bytes, body_place}
use Rattle.message_view.specs.Valid.{Valid}
use Rattle.bus_messages.specs.Arguments.{text_of, first_text}
use Rattle.bus_messages.specs.Calls.{given_by}

abbrev one_text : DataTypes
one_text = one_more (basic 115) no_types

value_is_there : (order : Order) (place : ℕ) (values : Values) → MembersFit order 64 place one_text values → text_of (arguments_from order place one_text values) ≢ None
value_is_there order place no_values fits = λ none. fits
value_is_there order place (one_value (text bytes) more) fits = λ none. cc none
value_is_there order place (one_value (number bits) more) fits = λ none. cc (fits.0.0)
value_is_there order place (one_value (elements vs) more) fits = λ none. fits.0
value_is_there order place (one_value (entries es) more) fits = λ none. fits.0
value_is_there order place (one_value (members vs) more) fits = λ none. fits.0
value_is_there order place (one_value (of_type type value) more) fits = λ none. fits.0

pub text_there : (types_are : (types others : DataTypes) (text : List ℕ) → SigText types text → SigText others text → types ≡ others) (bytes : List ℕ) (m : Message) → Valid bytes m → spellings m.types ≡ 115 ∷ [] → first_text (given_by m) ≢ None
text_there types_are bytes m valid is =
    let short : SigText one_text (115 ∷ []) = record { spelled = refl; fits = (refl, tt); short = lit≤ tt } in
    let own : SigText m.types (115 ∷ []) = subst (λ (x : List ℕ). SigText m.types x) (valid.types.spelled ∙ is) valid.types in
    let types : m.types ≡ one_text = types_are m.types one_text (115 ∷ []) own short in
    let place = body_place (length (header_bytes m)) in
    subst (λ (ts : DataTypes). MembersFit m.order 64 place ts m.arguments → text_of (arguments_from m.order place ts m.arguments) ≢ None) (sym types) (value_is_there m.order place m.arguments) valid.arguments

-- the text that is read is that of the first argument
pub text_is : (m : Message) (types : DataTypes) (t : List ℕ) (values : Values) → m.types ≡ one_more (basic 115) types → m.arguments ≡ one_value (text t) values → first_text (given_by m) ≡ Some t
text_is m types t others typed valued =
    let place = body_place (length (header_bytes m)) in
    ap (λ (ts : DataTypes). text_of (arguments_from m.order place ts m.arguments)) typed
    ∙ ap (λ (vs : Values). text_of (arguments_from m.order place (one_more (basic 115) types) vs)) valued
