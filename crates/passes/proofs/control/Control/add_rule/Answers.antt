use Rattle.std.proofs.Common.{refl, sym, subst}
use Rattle.std.specs.Prelude.{Err}
use Rattle.program_table.specs.History.{after}
use Rattle.passes.specs.declared.error.BusError.{BusError}
use Rattle.passes.specs.Compiling.{Compiles}
use Rattle.passes.proofs.Adding.{added, not_compiled}
use Rattle.passes.proofs.control.Control.add_rule.Goals as goal

pub returns-in-Ok : goal.returns-in-Ok
returns-in-Ok g c =
    let h = c.in_ok-admit.ensures in
    added c.args.pass.now c.admit.new.pass c.publish.new.pass c.args.self.now c.publish.new.self c.connection-connection.result c.args.rule c.in-Ok.program c.publish.result h.3 h.2.legal h.0 h.1 c.connection-connection.ensures c.in-Ok.ensures.0 c.in-Ok.ensures.1 c.publish.ensures

pub returns-in-Err : goal.returns-in-Err
returns-in-Err g c =
    let h = c.in_ok-admit.ensures in
    let C : BusError → Type 0 = λ e. Compiles (after c.args.self.now.history) c.connection-connection.result c.args.rule (Err e) in
    not_compiled c.args.pass.now c.admit.new.pass c.refuse.new.self c.args.self.now c.connection-connection.result c.args.rule c.refuse.result _ h.3 h.2.legal h.0 h.1 c.connection-connection.ensures refl (subst C (sym c.refuse.ensures.error) c.in-Err.ensures) c.refuse.ensures.pass
