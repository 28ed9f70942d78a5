-- Why a rule doesn't hold of a message, in lines for people (own).
use Rattle.std.specs.Prelude.{◌≡◌, ◌==◌, ℕ, Bool, List, [], ◌∷◌, ◌++◌, Option, Some, None, codes, decimal, slice_get, if◌then◌else◌}
use Rattle.std.specs.List.{flat_map}
use Rattle.message_value.specs.Arguments.{Argument}
use Rattle.message_view.specs.declared.kind.Kind.{Kind}
use Rattle.message_view.specs.declared.kind.Kind.TheVariants.{MethodCall, MethodReturn, Error, Signal, Other}
use Rattle.message_view.specs.Message.{Message, destination_of, sender_of}
use Rattle.message_view.specs.Spelling.{arguments_of}
use Rattle.match_key.specs.ArgNumber.{number_of_arg}
use Rattle.match_key.specs.declared.source.Source.TheVariants.{Header, Arg}
use Rattle.match_key.specs.declared.relation.Relation.{Relation}
use Rattle.match_key.specs.declared.relation.Relation.TheVariants.{Equal, PathNamespace}
use Rattle.match_rule.specs.declared.condition.Condition.{Condition}
use Rattle.match_rule.specs.declared.condition.Condition.TheVariants.{Kind as OfKind, Sender, Compares}
use Rattle.match_rule.specs.Arguments.{text_in}
use Rattle.match_rule.specs.Condition.{key_of, value_of}
use Rattle.match_rule.specs.RuleTree.{RuleTree, is_owned_name}
use Rattle.match_rule.specs.Holds.{field_of, compared_text, ConditionHolds}
use Rattle.rule_reasons.specs.KeyWords.{key_text}
use Rattle.rule_reasons.specs.Shown.{quoted_text}

-- ---- what a message has in place of what a condition asks for

abbrev pub kind_text : Kind → List ℕ
kind_text MethodCall = codes "it is a method call"
kind_text MethodReturn = codes "it is a method return"
kind_text Error = codes "it is an error"
kind_text Signal = codes "it is a signal"
kind_text (Other byte) = codes "it is of kind " ++ decimal byte

-- what comes before the text of a field
abbrev pub found_words : Relation → List ℕ
found_words PathNamespace = codes "the path is "
found_words _ = codes "it is "

abbrev pub none_words : Relation → List ℕ
none_words PathNamespace = codes "there is no path"
none_words _ = codes "there is none"

-- the text of a field, or that there is no such field
abbrev pub field_text : Relation → Option (List ℕ) → List ℕ
field_text relation None = none_words relation
field_text relation (Some text) = found_words relation ++ quoted_text text

-- what a type with this first byte is (D-Bus Specification, "Type System")
abbrev pub type_text : ℕ → List ℕ
type_text code =
    if code == 121 then codes "a number (y)"
    else if code == 110 then codes "a number (n)"
    else if code == 113 then codes "a number (q)"
    else if code == 105 then codes "a number (i)"
    else if code == 117 then codes "a number (u)"
    else if code == 120 then codes "a number (x)"
    else if code == 116 then codes "a number (t)"
    else if code == 100 then codes "a number (d)"
    else if code == 98 then codes "a boolean (b)"
    else if code == 115 then codes "a string (s)"
    else if code == 111 then codes "an object path (o)"
    else if code == 103 then codes "a signature (g)"
    else if code == 104 then codes "a file descriptor (h)"
    else if code == 118 then codes "a variant (v)"
    else if code == 97 then codes "an array (a)"
    else codes "a struct"

-- the text of an argument that a relation compares, or what another argument is
abbrev pub content_text : ℕ → Option (List ℕ) → List ℕ
content_text code None = type_text code
content_text code (Some text) = quoted_text text

abbrev pub no_argument_text : ℕ → List ℕ
no_argument_text n = codes "argument " ++ decimal n ++ codes " isn't there"

-- argument n, or that there is none
abbrev pub argument_text : Relation → ℕ → Option Argument → List ℕ
argument_text relation n None = no_argument_text n
argument_text relation n (Some argument) =
    codes "argument " ++ decimal n ++ codes " is " ++ content_text argument.code (compared_text relation (text_in (Some argument)))

-- A message has its sender's unique name alone.
abbrev pub owned_text : List ℕ
owned_text = codes "a message doesn't say which names its sender owns (--owns)"

abbrev pub sender_text : List ℕ → Option (List ℕ) → List ℕ
sender_text name sender = if is_owned_name name then owned_text else field_text Equal sender

abbrev pub found_text : Condition → Message → List ℕ
found_text (OfKind kind) m = kind_text m.kind
found_text (Sender name) m = sender_text name (sender_of m)
found_text (Compares (Header field) relation value) m = field_text relation (field_of field m)
found_text (Compares (Arg n) relation value) m = argument_text relation (number_of_arg n) (slice_get (arguments_of m) (number_of_arg n))

-- ---- lines

-- a condition as a rule has it, and what the message has in its place
abbrev pub reason_line : Condition → Message → List ℕ
reason_line c m = key_text (key_of c) ++ codes "=" ++ quoted_text (value_of c) ++ codes ": " ++ found_text c m

-- the lines of the conditions that don't hold, in the rule's order; `owns` says whether the message's sender owns each
-- name, or none
pub data AreReasons (m : Message) (owns : Bool) : List Condition → List (List ℕ) → Type 0 where
  no_more : AreReasons m owns [] []
  holds : {c : Condition} {later : List Condition} {lines : List (List ℕ)} → ConditionHolds c m (λ name. owns) → AreReasons m owns later lines → AreReasons m owns (c ∷ later) lines
  fails : {c : Condition} {later : List Condition} {lines : List (List ℕ)} → (ConditionHolds c m (λ name. owns) → ⊥) → AreReasons m owns later lines → AreReasons m owns (c ∷ later) (reason_line c m ∷ lines)

-- that a message is to somebody, and the rule is no eavesdropper's
abbrev pub to_text : List ℕ → List ℕ
to_text name = codes "the message is to " ++ quoted_text name ++ codes ", and the rule doesn't eavesdrop"

abbrev pub lines_to : Option (List ℕ) → List (List ℕ)
lines_to None = []
lines_to (Some name) = to_text name ∷ []

abbrev pub destination_lines : RuleTree → Message → List (List ℕ)
destination_lines rule m = if rule.eavesdrops then [] else lines_to (destination_of m)

-- all lines: those of the conditions, and after them that of the destination
pub record AreAllReasons (rule : RuleTree) (m : Message) (owns : Bool) (lines : List (List ℕ)) : Type 0 where
  pub of_conditions : List (List ℕ)
  pub each : AreReasons m owns rule.conditions of_conditions
  pub lines_are : lines ≡ of_conditions ++ destination_lines rule m

-- lines, each after a front
abbrev pub after_fronts : List ℕ → List (List ℕ) → List ℕ
after_fronts front lines = flat_map (λ line. front ++ line) lines
