-- The conditions of rules (D-Bus Specification, "Match Rules").
use Rattle.std.specs.Prelude.{ℕ, Bool, true, false, List, [], ◌∷◌, Option, Some, None, option_map, codes, ◌&&◌, if◌then◌else◌}
use Rattle.std.specs.Str.{bytes_eq, is_utf8}
use Rattle.std.specs.List.{list_any}
use Rattle.signature.specs.Name.{is_interface, is_member, is_path, is_bus_name, is_namespace}
use Rattle.match_key.specs.declared.source.Field.{Field}
use Rattle.match_key.specs.declared.source.Field.TheVariants.{Interface, Member, Path, Destination}
use Rattle.match_key.specs.declared.source.Source.{Source}
use Rattle.match_key.specs.declared.source.Source.TheVariants.{Header, Arg}
use Rattle.match_key.specs.declared.relation.Relation.{Relation}
use Rattle.match_key.specs.declared.relation.Relation.TheVariants.{NameNamespace}
use Rattle.match_key.specs.declared.key.Key.{Key}
use Rattle.match_key.specs.declared.key.Key.TheVariants as keys
use Rattle.match_rule.specs.declared.condition.Condition.{Condition}
use Rattle.match_rule.specs.declared.condition.Condition.TheVariants.{Kind, Sender, Compares}
use Rattle.match_rule.specs.declared.term.Term.{Term}
use Rattle.match_rule.specs.declared.term.Term.TheVariants.{Asks, Eavesdrop}
use Rattle.match_key.specs.Rows.{row_of}
use Rattle.match_key.specs.Kinds.{kind_word, kind_named}
use Rattle.match_key.specs.Key.{key_eq, is_twice, is_path_twice}

-- `true` and `false`
abbrev pub flag_words : List (List ℕ × Bool)
flag_words = (codes "true", true) ∷ (codes "false", false) ∷ []

abbrev pub flag_named : List ℕ → Option Bool
flag_named word = row_of flag_words word

abbrev pub key_of : Condition → Key
key_of (Kind kind) = keys.Kind
key_of (Sender name) = keys.Sender
key_of (Compares source relation value) = keys.Compares source relation

-- the bytes of a condition's value
abbrev pub value_of : Condition → List ℕ
value_of (Kind kind) = kind_word kind
value_of (Sender name) = name
value_of (Compares source relation value) = value

-- what a part of a rule's text says: a condition, or whether the rule eavesdrops
abbrev pub term_key : Term → Key
term_key (Asks condition) = key_of condition
term_key (Eavesdrop flag) = keys.Eavesdrop

-- ---- the values that keys allow

-- the texts that a field may be compared with
abbrev pub is_field_value : Field → List ℕ → Bool
is_field_value Interface text = is_interface text
is_field_value Member text = is_member text
is_field_value Path text = is_path text
is_field_value Destination text = is_bus_name text

-- the texts that an argument may be compared with: any, but for the namespace of a name
abbrev pub is_arg_value : Relation → List ℕ → Bool
is_arg_value NameNamespace text = is_namespace text
is_arg_value _ text = true

abbrev pub is_value : Source → Relation → List ℕ → Bool
is_value (Header field) relation text = is_field_value field text
is_value (Arg n) relation text = is_arg_value relation text

-- the term of a condition, where its value is allowed
abbrev pub asks_if : Bool → Condition → Option Term
asks_if true condition = Some (Asks condition)
asks_if false condition = None

-- what a key and a text say, where the text is allowed for the key
abbrev pub term_of : Key → List ℕ → Option Term
term_of keys.Kind text = option_map (λ kind. Asks (Kind kind)) (kind_named text)
term_of keys.Sender text = asks_if (is_bus_name text) (Sender text)
term_of (keys.Compares source relation) text = asks_if (is_value source relation text) (Compares source relation text)
term_of keys.Eavesdrop text = option_map Eavesdrop (flag_named text)

-- What a key and a value say: the value has to be a text, in UTF-8.
abbrev pub term_with : Key → List ℕ → Option Term
term_with key value = if is_utf8 value then term_of key value else None

-- the same key and the same value
abbrev pub condition_eq : Condition → Condition → Bool
condition_eq a b = key_eq (key_of a) (key_of b) && bytes_eq (value_of a) (value_of b)

-- some term has this key, or one that a rule may not have beside it
abbrev pub has_key : Key → List Term → Bool
has_key key terms = list_any (λ t. is_twice (term_key t) key) terms

-- a path beside the namespace of a path
abbrev pub has_path : Key → List Term → Bool
has_path key terms = list_any (λ t. is_path_twice (term_key t) key) terms

-- the conditions among the terms
abbrev pub conditions_in : List Term → List Condition
conditions_in [] = []
conditions_in (Asks condition ∷ terms) = condition ∷ conditions_in terms
conditions_in (Eavesdrop flag ∷ terms) = conditions_in terms

abbrev pub is_eavesdrop : Term → Bool
is_eavesdrop (Eavesdrop flag) = flag
is_eavesdrop (Asks condition) = false

-- a rule with `eavesdrop='true'`
abbrev pub eavesdrops_in : List Term → Bool
eavesdrops_in terms = list_any is_eavesdrop terms
