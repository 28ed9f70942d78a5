use Rattle.dbusfan_tool.proofs.Judgements.{of_outcome}
use Rattle.dbusfan_tool.proofs.program_judge.ProgramJudge.judge.Goals as goal

pub returns : goal.returns
returns c judge m serves valid =
    of_outcome judge c.args.self.now c.args.message.now m _ _ serves valid (c.new-image.ensures m valid) c.in_ok-ran.ensures.ends c.in_ok-ran.ensures.traced (c.in_ok-told.ensures m valid)
