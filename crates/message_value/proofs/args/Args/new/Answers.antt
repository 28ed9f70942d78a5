use Rattle.message_value.proofs.ArgumentTurns.{new_left, new_is}
use Rattle.message_value.proofs.args.Args.new.Goals as goal

pub invariant_of-result : goal.invariant_of-result
invariant_of-result c =
    let r = c.requires in
    new_left c.args.order c.types.result c.args.cursor r.0 c.args.signature (r.2.0, r.2.1) (c.types.ensures r.0 r.1) r.1 r.2.2

pub returns : goal.returns
returns c = λ types values tail is e. new_is c.args.order c.types.result c.args.cursor types c.args.signature (values, tail) (c.types.ensures types is) is e
