use Rattle.std.proofs.Common.{◌≡◌, ◌++◌}
use Rattle.std.specs.Prelude.{string_bytes}
use Rattle.bpf_trace.specs.Lines.{scratch_texts}
use Rattle.bpf_trace.specs.Views.{state_of}
use Rattle.bpf_trace.proofs.line.push_scratches.Given as goal

abbrev pub invariant-loop-k : goal.invariant-loop-k
invariant-loop-k l = string_bytes l.text ≡ string_bytes l.initial.text ++ scratch_texts (state_of l.at).words l.k
