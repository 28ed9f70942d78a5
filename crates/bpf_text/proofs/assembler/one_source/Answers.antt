use Rattle.bpf_text.proofs.OneSource.{one_program, no_fault}
use Rattle.bpf_text.proofs.assembler.one_source.Goals as goal

pub returns-clause-program : goal.returns-clause-program
returns-clause-program c = one_program

pub returns-clause-fault : goal.returns-clause-fault
returns-clause-fault c = no_fault
