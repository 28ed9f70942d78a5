use Rattle.routing.proofs.Own.{all_on}
use Rattle.routing.proofs.sender.Sender.message.Goals as goal

pub invariant_of-self : goal.invariant_of-self
invariant_of-self g c = (
  c.self.invariant.0,
  c.self.invariant.1,
  c.message.ensures.settled,
  all_on c.self.inside.has_withdrawn c.self.inside.releases c.message.new.releases c.self.inside.recipient_seats.items c.message.ensures.on c.self.invariant.3,
)
