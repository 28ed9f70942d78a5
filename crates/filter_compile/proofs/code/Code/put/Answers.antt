use Rattle.filter_compile.proofs.Sound.{plain_sound}
use Rattle.filter_compile.proofs.code.Code.put.Goals as goal

pub invariant_of-self-2 : goal.invariant_of-self-2
invariant_of-self-2 c =
    rw (c.in_ok-put_plain.ensures.put, c.plain.ensures.value) (plain_sound c.args.op c.args.k _ c.requires.piece c.self.invariant)
