use Rattle.std.proofs.Common.{arith}
use Rattle.rule_text.proofs.Escaping.{split}
use Rattle.rule_text.proofs.quoting.at_apostrophe.Goals as goal

pub returns : goal.returns
returns c = split c.args.value.now c.split_once.result (c.split_once.ensures.byte (omega arith) (λ w o h. h))
