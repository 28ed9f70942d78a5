use Rattle.std.proofs.Common.{sym, ◌∙◌}
use Rattle.watch_command.specs.Options.{is_said}
use Rattle.watch_command.proofs.AnyOf.{any_later, any_here}
use Rattle.watch_command.proofs.options.Options.has_any.Goals as goal

pub loop-key-preserved : goal.loop-key-preserved
loop-key-preserved c = any_later (is_said c.args.self.now) c.args.keys.now c.loop-key.key-index _ c.loop-key-test.true (sym c.has.ensures ∙ c.if-has.false) c.loop-key.invariant

pub returns-then-has : goal.returns-then-has
returns-then-has c = any_here (is_said c.args.self.now) c.args.keys.now c.loop-key.key-index _ c.loop-key-test.true (sym c.has.ensures ∙ c.if-has.true) c.loop-key.invariant
