-- Where a rule holds of a message (D-Bus Specification, "Match Rules").
use Rattle.std.specs.Prelude.{◌≡◌, ◌⊎◌, ◌==◌, ◌||◌, ℕ, Bool, true, List, [], ◌∷◌, ◌++◌, Option, Some, None, All, IfSome, IsSomeAnd, MatchBool, slice_get, if◌then◌else◌}
use Rattle.message_view.specs.Message.{Message, path_of, interface_of, member_of, destination_of, sender_of}
use Rattle.message_view.specs.Spelling.{arguments_of}
use Rattle.match_rule.specs.declared.condition.Condition.{Condition}
use Rattle.match_rule.specs.declared.condition.Condition.TheVariants.{Kind, Sender, Compares}
use Rattle.match_key.specs.declared.source.Field.{Field}
use Rattle.match_key.specs.declared.source.Field.TheVariants.{Interface, Member, Path, Destination}
use Rattle.match_key.specs.declared.source.Source.{Source}
use Rattle.match_key.specs.ArgNumber.{number_of_arg}
use Rattle.match_key.specs.declared.source.Source.TheVariants.{Header, Arg}
use Rattle.match_key.specs.declared.relation.Relation.{Relation}
use Rattle.match_key.specs.declared.relation.Relation.TheVariants.{Equal, PathNamespace, NameNamespace, NestedPath}
use Rattle.match_key.specs.Kinds.{kind_meant}
use Rattle.match_rule.specs.Arguments.{text_in}
use Rattle.match_rule.specs.Bytes.{ends_with}
use Rattle.match_rule.specs.RuleTree.{RuleTree, is_owned_name, sender_name_of}

-- the text begins with the front
abbrev pub Begins : List ℕ → List ℕ → Type 0
Begins text front = (rest : List ℕ) × (text ≡ front ++ rest)

-- the path equals the value, or begins with the value and a `/`; of `/` every path is
abbrev pub InPathNamespace : List ℕ → List ℕ → Type 0
InPathNamespace path value = (path ≡ value) ⊎ Begins path (value ++ 47 ∷ []) ⊎ (value ≡ 47 ∷ [])

-- the text equals the value, or begins with the value and a `.`
abbrev pub InNamespace : List ℕ → List ℕ → Type 0
InNamespace text value = (text ≡ value) ⊎ Begins text (value ++ 46 ∷ [])

-- the first ends with `/`, and the second begins with it
abbrev pub IsFolderOf : List ℕ → List ℕ → Type 0
IsFolderOf folder path = (ends_with 47 folder ≡ true) × Begins path folder

-- both are equal, or one of them is a folder that the other lies in
abbrev pub AreNested : List ℕ → List ℕ → Type 0
AreNested text value = (text ≡ value) ⊎ IsFolderOf text value ⊎ IsFolderOf value text

-- the text stands in the relation to the value
abbrev pub Relates : Relation → List ℕ → List ℕ → Type 0
Relates Equal text value = text ≡ value
Relates PathNamespace text value = InPathNamespace text value
Relates NameNamespace text value = InNamespace text value
Relates NestedPath text value = AreNested text value

-- the text of a header field
abbrev pub field_of : Field → Message → Option (List ℕ)
field_of Interface m = interface_of m
field_of Member m = member_of m
field_of Path m = path_of m
field_of Destination m = destination_of m

-- the types of arguments that a relation compares: a string, and for `argNpath` an object path too
abbrev pub is_compared : Relation → ℕ → Bool
is_compared NestedPath code = code == 115 || code == 111
is_compared _ code = code == 115

-- the text of a type that the relation compares
abbrev pub compared_text : Relation → Option (ℕ × List ℕ) → Option (List ℕ)
compared_text relation None = None
compared_text relation (Some found) = if is_compared relation found.0 then Some found.1 else None

-- the text that a message has at a source, if it has one that the relation compares
abbrev pub text_at : Source → Relation → Message → Option (List ℕ)
text_at (Header field) relation m = field_of field m
text_at (Arg n) relation m = compared_text relation (text_in (slice_get (arguments_of m) (number_of_arg n)))

-- what a condition says of a message, whose sender is the primary owner of the owned names
abbrev pub ConditionHolds : Condition → Message → (List ℕ → Bool) → Type 0
ConditionHolds (Kind kind) m owned = m.kind ≡ kind_meant kind
ConditionHolds (Sender name) m owned = MatchBool (is_owned_name name) (owned name ≡ true) (sender_of m ≡ Some name)
ConditionHolds (Compares source relation value) m owned = IsSomeAnd (text_at source relation m) (λ text. Relates relation text value)

-- each condition holds, and the message has no destination or the rule eavesdrops
pub record Holds (rule : RuleTree) (m : Message) (owned : List ℕ → Bool) : Type 0 where
  pub each : All (λ c. ConditionHolds c m owned) rule.conditions
  pub destination_fits : (destination_of m ≡ None) ⊎ (rule.eavesdrops ≡ true)

-- the test of names says so of the rule's sender name, where it has one
abbrev pub Agrees : RuleTree → (List ℕ → Bool) → Bool → Type 0
Agrees rule owned owns = IfSome (sender_name_of rule) (λ name. owned name ≡ owns)
