use Rattle.std.proofs.Common.{List, ℕ, Option, subst}
use Rattle.std.specs.Prelude.{option_map}
use Rattle.monitors.specs.Sending.{IsLed}
use Rattle.monitors.proofs.Answered.{answered}
use Rattle.monitors.proofs.asking.holds_of.Goals as goal

pub returns : goal.returns
returns g c = λ m valid.
    let asked : Option (List ℕ) = option_map (λ text. text.now) c.destination_asked-asked.result in
    let led = subst (λ (to : Option (List ℕ)). IsLed (g.O.Owners.unites c.args.owners.now) to asked c.is_led-is_led.result) (c.destination.ensures m valid) c.is_led-is_led.ensures in
    answered (g.O.Owners.answers c.args.owners.now) (g.O.Owners.unites c.args.owners.now) m c.args.rule.now asked c.owns_sender_name-owns.result c.is_led-is_led.result c.holds_as_led.result c.destination_asked-asked.ensures c.owns_sender_name-owns.ensures led (c.holds_as_led.ensures m valid)
