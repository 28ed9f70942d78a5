use Rattle.std.proofs.Common.{◌≡◌, ◌++◌, drop}
use Rattle.bpf_code.specs.Bytes.{byte_form}
use Rattle.bpf_code.proofs.byte_form.encode.Given as goal

abbrev pub invariant-loop-ins : goal.invariant-loop-ins
invariant-loop-ins l = l.bytes.items ++ byte_form (drop l.ins-index l.program) ≡ byte_form l.program
