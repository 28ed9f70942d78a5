use Rattle.bpf_text.proofs.PrintedPrograms.{names_one, names_same}
use Rattle.bpf_text.proofs.printer.reads_back.Goals as goal

pub returns-clause-used : goal.returns-clause-used
returns-clause-used c = names_one

pub returns-clause-same : goal.returns-clause-same
returns-clause-same c = names_same
