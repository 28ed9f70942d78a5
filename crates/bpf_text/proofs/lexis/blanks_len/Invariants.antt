use Rattle.std.proofs.Common.{◌≡◌, ◌+◌, drop}
use Rattle.std.specs.List.{prefix_len}
use Rattle.bpf_text.specs.Lexis.{is_blank}
use Rattle.bpf_text.proofs.lexis.blanks_len.Given as goal

abbrev pub invariant-loop-len : goal.invariant-loop-len
invariant-loop-len l = prefix_len is_blank l.bytes ≡ l.len + prefix_len is_blank (drop l.len l.bytes)
