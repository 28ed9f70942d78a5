use Rattle.bpf_machine.proofs.StepChains.{ends_by_steps}
use Rattle.bpf_machine.proofs.laws.ends_by_steps.Goals as goal

pub returns : goal.returns
returns c = ends_by_steps
