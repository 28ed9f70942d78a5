use Rattle.std.proofs.Common.{ap}
use Rattle.message_view.specs.Message.{Message}
use Rattle.message_view.specs.Valid.{Valid}
use Rattle.std.specs.Prelude.{Some}
use Rattle.match_rule.specs.FixedTexts.{texts_from}
use Rattle.fan_out.specs.Reach.{TellsReach}
use Rattle.program_table.specs.State.{State}
use Rattle.passes.specs.Passes.{PassState}
use Rattle.passes.proofs.Done.{asked}
use Rattle.passes.proofs.pass.Pass.may_reach.Goals as goal

pub returns-clause-found : goal.returns-clause-found
returns-clause-found g c =
    let P : State g.row.M.Denot → Type 0 = λ s. (m : Message) → Valid c.args.view.now m → TellsReach s (texts_from (Some c.args.sender.now) m) c.may_reach-found.result in
    asked P c.args.self.now.seen c.in_ok-guard.guard c.leave.new.self c.state.result.now c.in_ok-guard.ensures.guard.0 c.state.ensures.state (ap (λ (p : PassState g.row.M.Denot). p.seen) c.leave.ensures) c.may_reach-found.ensures
