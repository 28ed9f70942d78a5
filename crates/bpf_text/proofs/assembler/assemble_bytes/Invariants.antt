use Rattle.std.proofs.Common.{length}
use Rattle.bpf_text.specs.Views.{sketch_view}
use Rattle.bpf_text.proofs.Lines.{ReadSoFar}
use Rattle.bpf_text.proofs.assembler.assemble_bytes.Given as goal

abbrev pub invariant-lines : goal.invariant-lines
invariant-lines l = ReadSoFar l.fn.text l.rest l.number (sketch_view l.draft)

abbrev pub decreases-lines : goal.decreases-lines
decreases-lines l = length l.rest
