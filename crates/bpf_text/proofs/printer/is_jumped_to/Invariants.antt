use Rattle.std.proofs.Common.{◌≡◌, drop}
use Rattle.bpf_text.specs.Printing.{is_target}
use Rattle.bpf_text.proofs.printer.is_jumped_to.Given as goal

abbrev pub invariant-loop-place : goal.invariant-loop-place
invariant-loop-place l = is_target l.to l.place (drop l.place l.program) ≡ is_target l.to 0 l.program
