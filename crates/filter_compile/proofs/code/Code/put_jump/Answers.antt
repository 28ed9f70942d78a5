use Rattle.std.proofs.Common.{List, length, ap, arith}
use Rattle.bpf_code.specs.declared.instruction.Ins.{Ins}
use Rattle.filter_compile.proofs.Sound.{jump_sound}
use Rattle.filter_compile.proofs.code.Code.put_jump.Goals as goal

pub invariant_of-self-2 : goal.invariant_of-self-2
invariant_of-self-2 c =
    let same = ap (λ (code : List Ins). length code) c.self.view_is in
    let inside = c.over-over.ensures.inside in
    rw c.in_ok-put_jump.ensures.put (jump_sound c.over-over.result c.self.inside.source (omega (arith, same, inside)) c.self.invariant)
