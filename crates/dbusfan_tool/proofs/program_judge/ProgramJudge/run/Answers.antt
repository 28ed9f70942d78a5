use Rattle.std.proofs.Common.{rules}
use Rattle.dbusfan_tool.proofs.Judgements.{traced_if, untraced_if}
use Rattle.dbusfan_tool.proofs.program_judge.ProgramJudge.run.Goals as goal

pub returns-then-self-clause-traced : goal.returns-then-self-clause-traced
returns-then-self-clause-traced c =
    let traces = c.in_ok-outcome.ensures.traces in
    traced_if c.args.self.now.traces c.args.self.now.edition c.args.self.now.program c.args.image.now c.in_ok-outcome.outcome.verdict c.in_ok-outcome.outcome.steps _ _ traces.0 c.if-self.true traces.1 (search rules) traces.2

pub returns-clause-traced : goal.returns-clause-traced
returns-clause-traced c =
    untraced_if c.args.self.now.traces c.args.self.now.edition c.args.self.now.program c.args.image.now c.run-outcome.result.verdict c.run-outcome.result.steps _ c.if-self.false (search rules)
