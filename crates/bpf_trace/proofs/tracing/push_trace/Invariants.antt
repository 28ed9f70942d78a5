use Rattle.std.proofs.Common.{◌≡◌}
use Rattle.std.specs.Prelude.{string_bytes}
use Rattle.bpf_trace.specs.Views.{state_of}
use Rattle.bpf_trace.proofs.Runs.{Traced}
use Rattle.bpf_trace.proofs.tracing.push_trace.Given as goal

abbrev pub invariant-steps : goal.invariant-steps
invariant-steps l =
    Traced l.edition l.program l.image l.outcome.verdict l.outcome.steps l.counter (state_of l.at) (string_bytes l.initial.text) (string_bytes l.text)
