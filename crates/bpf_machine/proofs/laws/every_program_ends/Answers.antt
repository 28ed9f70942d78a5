use Rattle.bpf_machine.proofs.Progress.{accepted_ends}
use Rattle.bpf_machine.proofs.laws.every_program_ends.Goals as goal

pub returns : goal.returns
returns c = λ program image well. accepted_ends program image well
