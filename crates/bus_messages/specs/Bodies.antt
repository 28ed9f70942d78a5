-- What the messages of the bus carry (D-Bus Specification, "Message Bus Messages").
use Rattle.std.specs.Prelude.{ℕ, List, [], ◌∷◌, codes, if◌then◌else◌}
use Rattle.signature.specs.DataType.{DataType, basic, variant, array, dict, spelling}
use Rattle.message_value.specs.declared.order.Order.TheVariants.{Little}
use Rattle.message_value.specs.Spelling.{value_bytes}
use Rattle.message_value.specs.Value.{Value, text, number, elements, entries, of_type, no_entries, one_entry}
use Rattle.message_build.specs.Asked.{Asked}
use Rattle.message_build.specs.Adding.{with_argument, with_raw, string_values}
use Rattle.message_build.specs.NamedFacts.{fact_entries}
use Rattle.message_build.specs.TextLists.{text_list_entries}
use Rattle.bus_messages.specs.declared.body.Body.{Body}
use Rattle.bus_messages.specs.declared.body.Body.TheVariants.{Nothing, Text, Number, Truth, Texts, EmptyDict, Property, Properties, User, Facts, TextLists}
use Rattle.bus_messages.specs.Properties.{value_of, all_properties}

-- what is known of a client: the number of the user that it runs as
abbrev pub user_properties : ℕ → Value
user_properties n = entries (one_entry (text (codes "UnixUserID")) (of_type (basic 117) (number n)) no_entries)

-- the message with one value as its whole body
abbrev pub with_value : Asked → DataType → Value → Asked
with_value asked type value = with_raw asked (spelling type) (value_bytes Little 0 type value)

-- the message with a text as one more argument
abbrev pub with_text : Asked → List ℕ → Asked
with_text asked string = with_argument asked (basic 115) (text string)

-- the message with texts as further arguments
abbrev pub with_texts : Asked → List (List ℕ) → Asked
with_texts asked [] = asked
with_texts asked (string ∷ more) = with_texts (with_text asked string) more

-- the message with the arguments of a body after those that it has
abbrev pub with_body : Asked → Body → Asked
with_body asked Nothing = asked
with_body asked (Text string) = with_text asked string.now
with_body asked (Number n) = with_argument asked (basic 117) (number n)
with_body asked (Truth b) = with_argument asked (basic 98) (number (if b then 1 else 0))
with_body asked (Texts strings) = with_argument asked (array (basic 115)) (elements (string_values strings.now))
with_body asked EmptyDict = with_value asked (dict 115 variant) (entries no_entries)
with_body asked (Property property) = with_value asked variant (value_of property)
with_body asked Properties = with_value asked (dict 115 variant) all_properties
with_body asked (User n) = with_value asked (dict 115 variant) (user_properties n)
with_body asked (Facts facts) = with_argument asked (dict 115 variant) (entries (fact_entries facts.now))
with_body asked (TextLists lists) = with_argument asked (dict 115 (array (basic 115))) (entries (text_list_entries lists.now))
