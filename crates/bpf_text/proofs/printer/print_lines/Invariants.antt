use Rattle.std.proofs.Common.{◌≡◌, ◌<◌, ℕ, drop, string_bytes, slice_index_or}
use Rattle.bpf_code.specs.declared.instruction.Ins.{Ins}
use Rattle.bpf_text.specs.Printing.{then_text, text_from, text_of}
use Rattle.bpf_text.specs.Used.{IsInRange}
use Rattle.bpf_text.proofs.printer.print_lines.Given as goal

abbrev pub invariant-loop-place : goal.invariant-loop-place
invariant-loop-place l =
    (then_text (string_bytes l.out) (text_from l.program l.place (drop l.place l.program)) ≡ text_of l.program)
    × ((k : ℕ) → k < l.place → (d : Ins) → IsInRange (slice_index_or l.program k d))
