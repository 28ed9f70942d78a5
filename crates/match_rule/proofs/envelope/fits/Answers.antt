use Rattle.std.proofs.Common.{◌↔◌, ℕ, List, subst}
use Rattle.std.specs.Prelude.{IsTrue}
use Rattle.match_rule.specs.declared.condition.Condition.TheVariants.{Sender}
use Rattle.match_rule.specs.Envelope.{ConditionFits}
use Rattle.match_rule.proofs.EnvelopeFound.{sender_fits}
use Rattle.match_rule.proofs.envelope.fits.Goals as goal

pub returns-in-Sender : goal.returns-in-Sender
returns-in-Sender c = λ m valid.
    let fits = sender_fits c.as_str.result.now _ m c.may_be_sender.result (c.sender.ensures m valid) c.may_be_sender.ensures.owned c.may_be_sender.ensures.other in
    rw c.in-Sender.is (subst (λ (name : List ℕ). IsTrue c.may_be_sender.result ↔ ConditionFits (Sender name) m) c.as_str.ensures fits)
