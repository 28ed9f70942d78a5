use Rattle.std.proofs.Common.{◌≡◌, ◌+◌, drop, map, length}
use Rattle.bpf_text.specs.Sketches.{noted_program, program_in}
use Rattle.bpf_text.specs.Views.{noted_view, sketch_view}
use Rattle.bpf_text.proofs.Programs.{with_front}
use Rattle.bpf_text.proofs.resolve.program.Given as goal

abbrev pub invariant-loop-index : goal.invariant-loop-index
invariant-loop-index l =
    with_front l.program.items (noted_program l.draft.labels l.draft.count (length l.program.items) (l.index + 1) (map noted_view (drop l.index l.draft.lines.items)))
    ≡ program_in (sketch_view l.draft)
