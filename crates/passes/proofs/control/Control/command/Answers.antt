use Rattle.std.proofs.Common.{false}
use Rattle.passes.proofs.Admitted.{answers_admitted, handed_on, not_admitted}
use Rattle.passes.proofs.control.Control.command.Goals as goal

pub returns-in_err-admit : goal.returns-in_err-admit
returns-in_err-admit g c =
    handed_on false c.args.pass.now c.admit.new.pass c.args.self.now c.args.self.now c.args.command c.from_residual.result c.in_err-admit.field-0.0 c.from_residual.ensures.1
    (not_admitted c.args.pass.now c.admit.new.pass c.args.self.now false c.args.command c.in_err-admit.field-0.0 c.in_err-admit.ensures)

pub returns : goal.returns
returns g c =
    let h = c.in_ok-admit.ensures in
    answers_admitted c.args.pass.now c.admit.new.pass c.publish.new.pass c.args.self.now c.publish.new.self c.args.command c.publish.result h.3 h.2.legal h.0 h.1 c.publish.ensures
