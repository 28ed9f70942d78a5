use Rattle.std.proofs.Common.{Some, sym, subst}
use Rattle.message_view.specs.Valid.{Valid}
use Rattle.program_table.specs.Recipients.{AreRecipients}
use Rattle.world.specs.Steps.{opened_job, SetsJob}
use Rattle.world.specs.WorldState.{WorldState}
use Rattle.world.proofs.world.World.begin.Goals as goal

pub returns-clause-step : goal.returns-clause-step
returns-clause-step c =
    let found = c.in-Ok.ensures.found in
    let numbers = c.select-recipients.result.items in
    record {
      message = found.1.0;
      valid = found.1.1;
      recipients = numbers;
      are = subst (λ (w : WorldState). AreRecipients w.state c.args.sender found.1.0 numbers) c.self.view_is (c.select-recipients.ensures found.1.0 (subst (λ bytes. Valid bytes found.1.0) (sym found.0) found.1.1));
      jobs = subst (λ (w : WorldState). SetsJob w.events (Some (opened_job numbers)) w.jobs c.begin.new.self) c.self.view_is c.in_ok-begin.ensures.ok;
    }
