-- The program of lines is that of what is kept of them.
use Rattle.std.proofs.Common.{◌≡◌, ℕ, ◌+◌, List, [], ◌∷◌, ◌++◌, Result, Err, cond, refl, ap}
use Rattle.bpf_code.specs.declared.instruction.Ins.{Ins}
use Rattle.bpf_code.specs.declared.error.CodeError.{CodeError}
use Rattle.bpf_code.specs.declared.error.CodeError.TheVariants as errors
use Rattle.bpf_text.specs.Source.{Line, Label, count_row, labels_at, labels_from, count_of, repeats, with_row, program_from, program_of}
use Rattle.bpf_text.specs.Sketches.{noted_from, noted_program, sketch_of, program_in}

program_noted : (labels : List Label) (count : ℕ) (earlier : List Label) (place number : ℕ) (lines : List Line) → program_from labels count earlier place number lines ≡ noted_program labels count place number (noted_from earlier place lines)
program_noted labels count earlier place number [] = refl
program_noted labels count earlier place number (line ∷ more) =
    ap (λ (later : Result (List Ins) CodeError). cond (repeats earlier place line.labels) (Err (errors.Label number)) (with_row labels count place number line.row later))
    (program_noted labels count (earlier ++ labels_at place line.labels) (place + count_row line.row) (number + 1) more)

pub program_sketched : (lines : List Line) → program_of lines ≡ program_in (sketch_of lines)
program_sketched lines = program_noted (labels_from 0 lines) (count_of lines) [] 0 1 lines
