use Rattle.std.proofs.Common.{arith}
use Rattle.filter.proofs.Marks.{split}
use Rattle.filter.proofs.escaping.at_apostrophe.Goals as goal

pub returns : goal.returns
returns c = split 39 c.args.text.now c.split_once.result (c.split_once.ensures.byte (omega arith) (λ w o h. h))
