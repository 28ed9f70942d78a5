-- Inner: lines, read from left to right.
use Rattle.std.specs.Prelude.{◌≡◌, ℕ, ◌||◌, ◌+◌, ◌*◌, ◌^◌, ◌&&◌, List, Option, Some, None, if◌then◌else◌, Bool, [], ◌∷◌, ◌++◌, nat_lt}
use Rattle.std.specs.Option.{option_map}
use Rattle.std.specs.Char.{digit_value}
use Rattle.bpf_text.specs.Lexis.{◌>>=◌, word_at, is_over, begins_blank, sign_at}
use Rattle.bpf_text.specs.Mnemonics.{mnemonic_of}
use Rattle.bpf_text.specs.OperandReading.{operands_of}
use Rattle.bpf_text.specs.Rows.{LabelIns, row_of, is_absent}
use Rattle.bpf_text.specs.Source.{Line, Label, count_row, labels_at, repeats}
use Rattle.bpf_text.specs.Sketches.{Sketch}

-- a number with one more digit, if that is one of the base and it fits 32 bits
abbrev pub with_digit_of : ℕ → ℕ → ℕ → Option ℕ
with_digit_of base number digit =
    if nat_lt (digit_value digit) base && nat_lt (number * base + digit_value digit) (2 ^ 32) then Some (number * base + digit_value digit) else None

-- the instruction of a mnemonic and the bytes after it; a blank stands before operands
unfoldable pub row_after : List ℕ → List ℕ → Option LabelIns
row_after word rest = do
  mnemonic ← mnemonic_of word
  operands ← operands_of rest
  if is_absent operands || begins_blank rest then row_of mnemonic operands else None

abbrev pub statement_by : List ℕ → Option (List ℕ × List ℕ) → Option (Option LabelIns)
statement_by bytes None = if is_over bytes then Some None else None
statement_by bytes (Some word) = option_map Some (row_after word.0 word.1)

-- at most one instruction, and a comment
unfoldable pub statement_of : List ℕ → Option (Option LabelIns)
statement_of bytes = statement_by bytes (word_at bytes)

-- a label and its colon
unfoldable pub label_at : List ℕ → Option (List ℕ × List ℕ)
label_at bytes = do
  word ← word_at bytes
  rest ← sign_at 58 word.1
  Some (word.0, rest)

-- these labels are read from bytes one after another, and the rest follows
abbrev pub Begins : List ℕ → List (List ℕ) → List ℕ → Type 0
Begins bytes [] rest = bytes ≡ rest
Begins bytes (label ∷ labels) rest = (tail : List ℕ) × (label_at bytes ≡ Some (label, tail)) × Begins tail labels rest

-- Bytes begin with labels and go on with the rest. The labels stand at a place and are added after the earlier ones;
-- again tells whether one of them was defined before.
pub record TakesLabels (bytes rest : List ℕ) (place : ℕ) (old new : List Label) (again : Bool) : Type 0 where
  pub names : List (List ℕ)
  pub begins : Begins bytes names rest
  pub last : label_at rest ≡ None
  pub labels : new ≡ old ++ labels_at place names
  pub repeated : again ≡ repeats old place names

-- one more line
abbrev pub with_line : Sketch → Line → Sketch
with_line old line = record {
  labels = old.labels ++ labels_at old.count line.labels;
  lines = old.lines ++ record { again = repeats old.labels old.count line.labels; row = line.row } ∷ [];
  count = old.count + count_row line.row;
}
