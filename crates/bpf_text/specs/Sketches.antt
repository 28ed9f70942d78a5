-- Inner: the lines of a text as the assembler keeps them, and the program of what is kept.
use Rattle.std.specs.Prelude.{ℕ, ◌+◌, Bool, List, [], ◌∷◌, ◌++◌, Option, Result, Ok, Err, if◌then◌else◌}
use Rattle.bpf_code.specs.declared.instruction.Ins.{Ins}
use Rattle.bpf_code.specs.declared.error.CodeError.{CodeError}
use Rattle.bpf_code.specs.declared.error.CodeError.TheVariants as errors
use Rattle.bpf_text.specs.Rows.{LabelIns}
use Rattle.bpf_text.specs.Source.{Line, Label, count_row, labels_at, labels_from, count_of, repeats, with_row}

-- what a line has beside its labels: whether one of them is defined a second time, and its instruction
pub record Noted : Type 0 where
  pub again : Bool
  pub row : Option LabelIns

abbrev pub noted_from : List Label → ℕ → List Line → List Noted
noted_from earlier place [] = []
noted_from earlier place (line ∷ lines) =
    record { again = repeats earlier place line.labels; row = line.row } ∷ noted_from (earlier ++ labels_at place line.labels) (place + count_row line.row) lines

-- what lines so far come to
pub record Sketch : Type 0 where
  pub labels : List Label
  pub lines : List Noted
  pub count : ℕ

-- what all lines come to
abbrev pub sketch_of : List Line → Sketch
sketch_of lines = record { labels = labels_from 0 lines; lines = noted_from [] 0 lines; count = count_of lines }

-- the program of what is kept of lines, or the fault of the first that has one
abbrev pub noted_program : List Label → ℕ → ℕ → ℕ → List Noted → Result (List Ins) CodeError
noted_program labels count place line [] = Ok []
noted_program labels count place line (noted ∷ more) =
    if noted.again then Err (errors.Label line)
    else with_row labels count place line noted.row (noted_program labels count (place + count_row noted.row) (line + 1) more)

abbrev pub program_in : Sketch → Result (List Ins) CodeError
program_in sketch = noted_program sketch.labels sketch.count 0 1 sketch.lines
