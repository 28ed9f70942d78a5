use Rattle.std.proofs.Common.{rules}
use Rattle.fan_out.proofs.Verdicts.{rule_answer, attached_answer}
use Rattle.fan_out.proofs.programs.Programs.matches.Goals as goal

pub returns-in-Rule-clause-answer : goal.returns-in-Rule-clause-answer
returns-in-Rule-clause-answer c =
    rw c.in-Rule.is (rule_answer c.in-Rule.compiled c.args.self.now.view.now c.args.self.now.owned.now c.args.image.now c.rest.result.now c.run.result _ (rw c.in-Rule.is at c.requires.image) c.rest.ensures c.run.ensures.ends (search rules))

pub returns-in-Attached-clause-answer : goal.returns-in-Attached-clause-answer
returns-in-Attached-clause-answer c =
    rw c.in-Attached.is (attached_answer c.in-Attached.attached c.args.self.now.view.now c.args.self.now.owned.now c.args.image.now c.run-in-Attached.result _ (rw c.in-Attached.is at c.requires.image) (rw c.program.ensures at c.run-in-Attached.ensures.ends) (search rules))
