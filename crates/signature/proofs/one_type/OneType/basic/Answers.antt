use Rattle.std.proofs.Common.{get_or, sym, ◌∙◌}
use Rattle.signature.specs.DataType.{basic}
use Rattle.signature.proofs.BasicCodes.{one_basic}
use Rattle.signature.proofs.one_type.OneType.basic.Goals as goal

pub new-requires : goal.new-requires
new-requires c = (basic (get_or c.args.text.now 0 0), one_basic c.args.text.now c.if-text-eq1.true (sym c.is_basic.ensures ∙ c.if-is_basic.true))
