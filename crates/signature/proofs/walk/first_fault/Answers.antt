use Rattle.std.proofs.Common.{sym, ◌∙◌}
use Rattle.signature.proofs.BasicCodes.{basic_faultless}
use Rattle.signature.proofs.walk.first_fault.Goals as goal

pub returns-then-are_basic : goal.returns-then-are_basic
returns-then-are_basic c = sym (basic_faultless c.args.text.now (sym c.are_basic.ensures ∙ c.if-are_basic.true))
