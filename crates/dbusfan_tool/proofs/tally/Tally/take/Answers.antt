use Rattle.dbusfan_tool.proofs.Tallied.{one_more}
use Rattle.dbusfan_tool.proofs.tally.Tally.take.Goals as goal

pub returns : goal.returns
returns c words each written found passed tally =
    one_more words each written found passed c.args.self.now c.put_texts.new.self c.count.new.self c.keep.new.self c.args.finding _ tally c.in_ok-number.ensures c.in_ok-put_texts.ensures.lines c.in_ok-put_texts.ensures.notes c.put_texts.ensures.same c.in_ok-count.ensures c.in_ok-keep.ensures.nearest c.keep.ensures.same
