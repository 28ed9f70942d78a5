use Rattle.std.proofs.Common.{◌<◌, ◌-◌, ◌↔◌, length, get_or, rules, IsTrue}
use Rattle.std.specs.Option.{IsSomeAnd}
use Rattle.bpf_code.specs.declared.instruction.Ins.{Ins}
use Rattle.bpf_code.specs.Table.{op_of}
use Rattle.bpf_code.specs.Program.{IsReturn}
use Rattle.bpf_verify.proofs.Verdict.{well_formed, last_returns}
use Rattle.bpf_verify.proofs.accepted.fault_of.Goals as goal

pub returns : goal.returns
returns c =
    let some : 0 < length c.args.code.now = search rules in
    let none : Ins = record { code = 0; jt = 0; jf = 0; k = 0 } in
    let last : Ins = get_or c.args.code.now (length c.args.code.now - 1) none in
    let test : IsTrue c.is_return.result ↔ IsSomeAnd (op_of last.code) (λ op. IsReturn op last) = c.is_return.ensures in
    well_formed c.args.code.now some c.if-code-gt4096.false c.in_default.ensures (last_returns c.args.code.now none some (test.0 c.if-not-is_return.false)) c.in_default-unset.ensures
