use Rattle.std.proofs.lemmas.Result.{IfErr-weaker}
use Rattle.bpf_text.proofs.Prints.{print_fault}
use Rattle.bpf_text.proofs.PrintedPrograms.{source_of}
use Rattle.bpf_text.proofs.printer.print.Goals as goal

pub returns-clause-source : goal.returns-clause-source
returns-clause-source c = source_of c.args.program.now c.print_lines.result c.print_lines.ensures.few c.print_lines.ensures.widths c.print_lines.ensures.found

pub returns-clause-fault : goal.returns-clause-fault
returns-clause-fault c = IfErr-weaker c.print_lines.result _ _ (λ e is. print_fault c.args.program.now e is) c.print_lines.ensures.fault
