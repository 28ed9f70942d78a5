-- Lists of texts as the entries of an `a{sas}` (own).
use Rattle.std.specs.Prelude.{List, [], ◌∷◌, String, string_bytes}
use Rattle.message_value.specs.Value.{Values, Entries, text, elements, no_values, one_value, no_entries, one_entry}
use Rattle.message_build.specs.declared.text_lists.TextList.{TextList}

-- texts as the elements of an array
abbrev pub text_values : {A : Type 0} → List (String A) → Values
text_values [] = no_values
text_values (string ∷ more) = one_value (text (string_bytes string)) (text_values more)

-- each list under its key
abbrev pub text_list_entries : List TextList → Entries
text_list_entries [] = no_entries
text_list_entries (list ∷ more) = one_entry (text (string_bytes list.key)) (elements (text_values list.texts.items)) (text_list_entries more)
