use Rattle.std.proofs.Common.{sym}
use Rattle.std.specs.Prelude.{string_bytes}
use Rattle.bpf_trace.specs.Views.{state_of}
use Rattle.bpf_trace.proofs.Runs.{goes_on, stops, goes_nowhere}
use Rattle.bpf_trace.proofs.tracing.push_trace.Goals as goal

pub steps-preserved : goal.steps-preserved
steps-preserved c =
    goes_on c.args.edition c.args.program.now c.args.image.now c.run-outcome.result.verdict c.run-outcome.result.steps c.steps.counter (state_of c.steps.at) (state_of c.in-Some-Goes.next) (string_bytes c.args.text.now) (string_bytes c.steps.text) (string_bytes c.push_line.new.text) c.steps-test.true c.steps.invariant (sym (rw c.in-Some-Goes.field-0-is at c.in-Some-Goes.ensures)) (rw c.code.ensures.value at c.in_ok-push_line.ensures)

pub returns-in-Some-Stops-clause-traces : goal.returns-in-Some-Stops-clause-traces
returns-in-Some-Stops-clause-traces c =
    stops c.args.edition c.args.program.now c.args.image.now c.run-outcome.result.verdict c.run-outcome.result.steps c.steps.counter _ (state_of c.steps.at) (string_bytes c.args.text.now) (string_bytes c.steps.text) (string_bytes c.push_line.new.text) c.steps-test.true c.steps.invariant (sym (rw c.in-Some-Stops.field-0-is at c.in-Some-Stops.ensures)) (rw c.code.ensures.value at c.in_ok-push_line.ensures)

pub returns-in-None-clause-traces : goal.returns-in-None-clause-traces
returns-in-None-clause-traces c =
    absurd (goes_nowhere c.args.edition c.args.program.now c.args.image.now c.run-outcome.result.verdict c.run-outcome.result.steps c.steps.counter (state_of c.steps.at) (string_bytes c.args.text.now) (string_bytes c.steps.text) c.steps-test.true c.steps.invariant (sym c.in-None.ensures))
