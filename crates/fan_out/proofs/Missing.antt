-- A rule that asks for another envelope than the message's doesn't match.
use Rattle.std.proofs.Common.{◌↔◌, ℕ, Bool, true, false, not, List, Option, refl}
use Rattle.std.specs.Prelude.{IsTrue, MatchBool}
use Rattle.message_view.specs.Message.{Message}
use Rattle.message_view.specs.Valid.{Valid}
use Rattle.match_rule.specs.RuleTree.{RuleTree}
use Rattle.match_rule.specs.Holds.{Holds}
use Rattle.match_rule.specs.Envelope.{EnvelopeFits}
use Rattle.entry_table.specs.declared.entry.Filter.{Filter}
use Rattle.entry_table.specs.declared.entry.Filter.TheVariants.{Rule, Attached}
use Rattle.entry_table.specs.Envelopes.{FilterFits}
use Rattle.program_table.specs.Registrations.{Registrations}
use Rattle.program_table.specs.Recipients.{is_owned, FilterMatches}
use Rattle.fan_out.specs.Marking.{IsMissed, IsFit}

-- a message of which a rule holds has an envelope as the rule asks
abbrev FitsWhereItHolds : Type 0
FitsWhereItHolds = (rule : RuleTree) (m : Message) (owned : List ℕ → Bool) → Holds rule m owned → EnvelopeFits rule m

envelope_fits : (filter : Filter) (r : Registrations) (sender : Option ℕ) (m : Message) → FitsWhereItHolds → FilterMatches r sender m filter → FilterFits filter m
envelope_fits (Rule compiled) r sender m law matches = law compiled.rule m (is_owned r sender) matches
envelope_fits (Attached attached) r sender m law matches = tt

pub fits_or_missed : (bytes : List ℕ) (filter : Filter) → FitsWhereItHolds → (fits : Bool) → ((m : Message) → Valid bytes m → (IsTrue fits ↔ FilterFits filter m)) → MatchBool (not fits) (IsMissed bytes filter) (IsFit bytes filter)
fits_or_missed bytes filter law true tells = λ m valid. (tells m valid).0 refl
fits_or_missed bytes filter law false tells = λ r sender m valid matches. false_true ((tells m valid).1 (envelope_fits filter r sender m law matches))
  where
    false_true : IsTrue false → ⊥
    false_true e = cc
