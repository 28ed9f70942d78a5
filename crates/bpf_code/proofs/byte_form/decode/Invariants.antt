use Rattle.std.proofs.Common.{◌≡◌, ◌++◌, List, ℕ, drop}
use Rattle.std.specs.List.{flat_map}
use Rattle.bpf_code.specs.Bytes.{byte_form}
use Rattle.bpf_code.proofs.byte_form.decode.Given as goal

abbrev pub invariant-loop-group : goal.invariant-loop-group
invariant-loop-group l = byte_form l.program.items ++ flat_map (λ (group : List ℕ). group) (drop l.group-index l.groups) ≡ l.bytes
