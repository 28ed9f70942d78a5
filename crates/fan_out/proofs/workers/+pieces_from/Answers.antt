use Rattle.fan_out.proofs.Joining.{none_joined, piece_joined}
use Rattle.fan_out.proofs.workers.+pieces_from.Goals as goal

pub returns-then-part-of-clause-marks : goal.returns-then-part-of-clause-marks
returns-then-part-of-clause-marks g t c =
    none_joined (g.W.Work.finds c.args.work.now) c.args.part c.args.of 4096 c.new.result.places c.if-part-of.true c.new.ensures

pub returns-clause-marks : goal.returns-clause-marks
returns-clause-marks g t c =
    piece_joined (g.W.Work.finds c.args.work.now) c.args.part c.args.of c.join-mine.result.places c.in_ok-marks.marks.places c.join.new.self.places c.if-part-of.false (rw c.in-Ok.ensures.ok at c.join-mine.ensures) c.in_ok-marks.ensures.marks c.join.ensures
