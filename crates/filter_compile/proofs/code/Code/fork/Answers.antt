use Rattle.std.proofs.Common.{List, length, ap, arith}
use Rattle.bpf_code.specs.declared.instruction.Ins.{Ins}
use Rattle.rule_compile.proofs.Sound.{branch_sound}
use Rattle.filter_compile.proofs.code.Code.fork.Goals as goal

pub invariant_of-self-2 : goal.invariant_of-self-2
invariant_of-self-2 c =
    let same = ap (λ (code : List Ins). length code) c.self.view_is in
    let hit = c.over-hit.ensures.inside in
    let miss = c.over-miss.ensures.inside in
    rw c.in_ok-put_branch.ensures.put (branch_sound c.args.test c.args.k _ _ c.self.inside.source (omega (arith, same, hit)) (omega (arith, same, miss)) c.self.invariant)
