use Rattle.std.proofs.Common.{◌-◌, arith}
use Rattle.filter_compile.proofs.Units.{units_before}
use Rattle.filter_compile.proofs.code.Code.same_bytes.Goals as goal

pub loop-unit-preserved : goal.loop-unit-preserved
loop-unit-preserved c =
    units_before c.unit_of-width.result c.args.at c.args.value.now (c.loop-unit.unit - 1) c.loop-unit.unit c.unit_len-len.result c.args.exits.fails c.holds_next-next.result _ _ _ (omega (arith, c.loop-unit-test.true)) c.unit_len-len.ensures.value c.holds_next-next.ensures c.in_ok-same_unit-2.ensures c.loop-unit.invariant
