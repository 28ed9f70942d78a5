use Rattle.std.proofs.Common.{rules}
use Rattle.fan_out.proofs.Verdicts.{attached_anywhere}
use Rattle.fan_out.proofs.programs.Programs.matches_at_once.Goals as goal

pub returns-in_ok-run_constant-in-Attached-clause-answer : goal.returns-in_ok-run_constant-in-Attached-clause-answer
returns-in_ok-run_constant-in-Attached-clause-answer c =
    let run = rw c.in_ok-run_constant-in-Attached.was at c.run_constant-in-Attached.ensures in
    rw c.in-Attached.is (attached_anywhere c.in-Attached.attached c.args.self.now.view.now c.args.self.now.owned.now c.in_ok-run_constant-in-Attached.field-0 _ (rw c.program.ensures at run.1) (search rules), run.0)
