use Rattle.std.proofs.Common.{List, ℕ, Option, Bor, inl, inr, ap}
use Rattle.std.specs.Prelude.{option_map}
use Rattle.monitors.proofs.Answered.{unled}
use Rattle.monitors.proofs.asking.holds_as_led.Goals as goal

pub returns-else-is_led : goal.returns-else-is_led
returns-else-is_led c = λ m valid. unled (option_map (λ text. text.now) c.args.asked) c.args.is_led c.args.rule.now m c.args.owns c.holds.result (inr c.if-is_led.false) (c.holds.ensures m (λ _. c.args.owns) valid)

pub returns-in-None : goal.returns-in-None
returns-in-None c = λ m valid. unled (option_map (λ text. text.now) c.args.asked) c.args.is_led c.args.rule.now m c.args.owns c.holds-in-None.result (inl (ap (λ (o : Option (Bor (List ℕ))). option_map (λ text. text.now) o) c.in-None.is)) (c.holds-in-None.ensures m (λ _. c.args.owns) valid)
