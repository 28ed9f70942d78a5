-- What a rule asks of a message's envelope: of its kind, its SENDER and its destination (own).
use Rattle.std.specs.Prelude.{◌≡◌, ◌⊎◌, Bool, true, false, not, Some, None, All, MatchBool}
use Rattle.message_view.specs.Message.{Message, destination_of, sender_of}
use Rattle.match_key.specs.Kinds.{kind_meant}
use Rattle.match_rule.specs.declared.condition.Condition.{Condition}
use Rattle.match_rule.specs.declared.condition.Condition.TheVariants.{Kind, Sender, Compares}
use Rattle.match_rule.specs.RuleTree.{RuleTree, is_owned_name}

-- the condition is about the envelope alone: whether a sender owns a name isn't seen there
abbrev pub is_of_envelope : Condition → Bool
is_of_envelope (Kind kind) = true
is_of_envelope (Sender name) = not (is_owned_name name)
is_of_envelope (Compares source relation value) = false

-- what such a condition says of a message; another one says nothing
abbrev pub ConditionFits : Condition → Message → Type 0
ConditionFits (Kind kind) m = m.kind ≡ kind_meant kind
ConditionFits (Sender name) m = MatchBool (is_owned_name name) (Unit {0}) (sender_of m ≡ Some name)
ConditionFits (Compares source relation value) m = Unit {0}

-- each condition about the envelope holds, and the message has no destination or the rule eavesdrops
pub record EnvelopeFits (rule : RuleTree) (m : Message) : Type 0 where
  pub each : All (λ c. ConditionFits c m) rule.conditions
  pub destination_fits : (destination_of m ≡ None) ⊎ (rule.eavesdrops ≡ true)
