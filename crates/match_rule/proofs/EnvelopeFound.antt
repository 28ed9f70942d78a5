-- A message of which a rule holds has an envelope as the rule asks.
use Rattle.std.proofs.Common.{◌≡◌, ◌↔◌, ℕ, Bool, true, false, List, refl}
use Rattle.std.specs.Prelude.{Option, Some, IsTrue, MatchBool, get_or}
use Rattle.message_view.specs.Message.{Message, sender_of}
use Rattle.match_rule.specs.declared.condition.Condition.{Condition}
use Rattle.match_rule.specs.declared.condition.Condition.TheVariants.{Kind, Sender, Compares}
use Rattle.match_rule.specs.RuleTree.{RuleTree, is_owned_name}
use Rattle.match_rule.specs.Holds.{Holds, ConditionHolds}
use Rattle.match_rule.specs.Envelope.{ConditionFits, EnvelopeFits}

condition_fits : (c : Condition) (m : Message) (owned : List ℕ → Bool) → ConditionHolds c m owned → ConditionFits c m
condition_fits (Kind kind) m owned h = h
condition_fits (Sender name) m owned h = go (is_owned_name name) h
  where
    go : (b : Bool) → MatchBool b (owned name ≡ true) (sender_of m ≡ Some name) → MatchBool b (Unit {0}) (sender_of m ≡ Some name)
    go true h = tt
    go false h = h
condition_fits (Compares source relation value) m owned h = tt

-- where the answer is right for a name that is owned and for another
pub sender_fits : (name : List ℕ) (sender : Option (List ℕ)) (m : Message) (answer : Bool) → sender ≡ sender_of m → (is_owned_name name ≡ true → IsTrue answer) → (is_owned_name name ≡ false → (IsTrue answer ↔ (sender ≡ Some name))) → (IsTrue answer ↔ ConditionFits (Sender name) m)
sender_fits name sender m answer is owned other = go (is_owned_name name) owned (rw is at other)
  where
    go : (b : Bool) → (b ≡ true → IsTrue answer) → (b ≡ false → (IsTrue answer ↔ (sender_of m ≡ Some name))) → (IsTrue answer ↔ MatchBool b (Unit {0}) (sender_of m ≡ Some name))
    go true owned other = (λ yes. tt, λ fits. owned refl)
    go false owned other = other refl

pub EnvelopeFits-Holds : (rule : RuleTree) (m : Message) (owned : List ℕ → Bool) → Holds rule m owned → EnvelopeFits rule m
EnvelopeFits-Holds rule m owned h = record {
  each = λ k d less. condition_fits (get_or rule.conditions k d) m owned (h.each k d less);
  destination_fits = h.destination_fits;
}
