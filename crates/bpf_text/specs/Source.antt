-- What an assembler text means: its lines, and the program that they name (own, in the manner of Linux's `bpf_asm`).
use Rattle.std.specs.Prelude.{◌≡◌, ℕ, ◌+◌, ◌-◌, ◌^◌, Bool, false, ◌&&◌, ◌||◌, List, [], ◌∷◌, ◌++◌, length, map, Option, Some, None, Result, Ok, Err, if◌then◌else◌, ◌==◌, nat_lt, true}
use Rattle.std.specs.Option.{option_map}
use Rattle.std.specs.List.{list_any, find, slice_split}
use Rattle.std.specs.Str.{bytes_eq}
use Rattle.bpf_code.specs.declared.instruction.Ins.{Ins}
use Rattle.bpf_code.specs.declared.error.CodeError.{CodeError}
use Rattle.bpf_code.specs.declared.error.CodeError.TheVariants as errors
use Rattle.bpf_code.specs.Table.{code_of}
use Rattle.bpf_code.specs.declared.operation.Op.{Op}
use Rattle.bpf_text.specs.Grammar.{Word, Sign, IsToken, Front, AreTokens, tokens_of}
use Rattle.bpf_text.specs.Lexis.{◌>>=◌, is_over, begins_blank}
use Rattle.bpf_text.specs.Mnemonics.{mnemonic_of}
use Rattle.bpf_text.specs.declared.mnemonic.Mnemonic.{Mnemonic}
use Rattle.bpf_text.specs.Operands.{Operands, One, Both}
use Rattle.bpf_text.specs.Rows.{LabelIns, Jumps, Stays, Goes, Parts, is_absent, row_of}

-- ---- lines

-- a line: its labels, and the instruction, if it has one
pub record Line : Type 0 where
  pub labels : List (List ℕ)
  pub row : Option LabelIns

-- bytes begin with these labels, each a word and a colon, and the rest follows
abbrev pub HasLabels : List ℕ → List (List ℕ) → List ℕ → Type 0
HasLabels bytes [] rest = bytes ≡ rest
HasLabels bytes (label ∷ labels) rest = (tail : List ℕ) × Front (Word label ∷ Sign 58 ∷ []) bytes tail × HasLabels tail labels rest

-- bytes spell an instruction: a mnemonic, a blank where operands follow, and the tokens of the operands
pub record Spells (bytes : List ℕ) (row : LabelIns) : Type 0 where
  pub word : List ℕ
  pub tail : List ℕ
  pub mnemonic : Mnemonic
  pub operands : Operands
  pub begins : IsToken (Word word) bytes tail
  pub names : mnemonic_of word ≡ Some mnemonic
  pub apart : (is_absent operands || begins_blank tail) ≡ true
  pub spelled : AreTokens (tokens_of operands) tail
  pub means : row_of mnemonic operands ≡ Some row

-- an instruction, or nothing but a comment
abbrev pub IsStatement : List ℕ → Option LabelIns → Type 0
IsStatement bytes None = is_over bytes ≡ true
IsStatement bytes (Some row) = Spells bytes row

-- the bytes are of the form of a line: labels, then at most one instruction, and a comment
pub record IsLine (bytes : List ℕ) (line : Line) : Type 0 where
  pub rest : List ℕ
  pub labels : HasLabels bytes line.labels rest
  pub row : IsStatement rest line.row

-- each of the bytes is of the form of a line
abbrev pub AreLines : List (List ℕ) → List Line → Type 0
AreLines [] [] = Unit {0}
AreLines [] (line ∷ lines) = ⊥
AreLines (bytes ∷ more) [] = ⊥
AreLines (bytes ∷ more) (line ∷ lines) = IsLine bytes line × AreLines more lines

-- the lines of a text, which LF ends
abbrev pub lines_of : List ℕ → List (List ℕ)
lines_of text = slice_split (λ b. b == 10) text

-- ---- labels

-- a label, and the place of the instruction that it names
pub record Label : Type 0 where
  pub name : List ℕ
  pub place : ℕ

abbrev pub count_row : Option LabelIns → ℕ
count_row None = 0
count_row (Some row) = 1

-- the labels of one line
abbrev pub labels_at : ℕ → List (List ℕ) → List Label
labels_at place names = map (λ name. record { name = name; place = place }) names

-- the labels of lines, in the order of the text
abbrev pub labels_from : ℕ → List Line → List Label
labels_from place [] = []
labels_from place (line ∷ lines) = labels_at place line.labels ++ labels_from (place + count_row line.row) lines

-- the number of instructions
abbrev pub count_of : List Line → ℕ
count_of [] = 0
count_of (line ∷ lines) = count_row line.row + count_of lines

-- one of these labels has the name
abbrev pub has_name : List Label → List ℕ → Bool
has_name labels name = list_any (λ (label : Label). bytes_eq label.name name) labels

-- one of these names was defined before it
abbrev pub repeats : List Label → ℕ → List (List ℕ) → Bool
repeats earlier place [] = false
repeats earlier place (name ∷ names) = has_name earlier name || repeats (earlier ++ record { name = name; place = place } ∷ []) place names

-- ---- the program

-- the place that a label names, by its first definition
unfoldable pub defined : List Label → List ℕ → Option ℕ
defined labels name = option_map (λ (label : Label). label.place) (find (λ (label : Label). bytes_eq label.name name) labels)

-- the distance of a jump: its target stands ahead, and is an instruction
unfoldable pub distance : List Label → ℕ → ℕ → List ℕ → Option ℕ
distance labels count place name = do
  to ← defined labels name
  if nat_lt place to && nat_lt to count then Some (to - place - 1) else None

abbrev pub far_or : ℕ → Bool → Ins → Result Ins CodeError
far_or line near ins = if near then Ok ins else Err (errors.FarJump line)

abbrev pub goes_by : ℕ → Op → Option ℕ → Result Ins CodeError
goes_by line op None = Err (errors.Label line)
goes_by line op (Some d) = far_or line (nat_lt d (2 ^ 32)) (record { code = code_of op; jt = 0; jf = 0; k = d })

abbrev pub parts_by : ℕ → Op → ℕ → Option ℕ → Option ℕ → Result Ins CodeError
parts_by line op k (Some d) (Some e) = far_or line (nat_lt d (2 ^ 8) && nat_lt e (2 ^ 8)) (record { code = code_of op; jt = d; jf = e; k = k })
parts_by line op k _ _ = Err (errors.Label line)

abbrev pub resolve_by : List Label → ℕ → ℕ → ℕ → Op → ℕ → Jumps → Result Ins CodeError
resolve_by labels count place line op k Stays = Ok (record { code = code_of op; jt = 0; jf = 0; k = k })
resolve_by labels count place line op k (Goes name) = goes_by line op (distance labels count place name)
resolve_by labels count place line op k (Parts (One first)) = parts_by line op k (distance labels count place first) (Some 0)
resolve_by labels count place line op k (Parts (Both first second)) =
    parts_by line op k (distance labels count place first) (distance labels count place second)

-- The instruction of a row at a place and on a line. A second target that is left out is the next
-- instruction.
unfoldable pub resolve : List Label → ℕ → ℕ → ℕ → LabelIns → Result Ins CodeError
resolve labels count place line row = resolve_by labels count place line row.op row.k row.jumps

abbrev pub with_ins : Result Ins CodeError → Result (List Ins) CodeError → Result (List Ins) CodeError
with_ins (Err e) rest = Err e
with_ins (Ok ins) (Err e) = Err e
with_ins (Ok ins) (Ok program) = Ok (ins ∷ program)

abbrev pub with_row : List Label → ℕ → ℕ → ℕ → Option LabelIns → Result (List Ins) CodeError → Result (List Ins) CodeError
with_row labels count place line None later = later
with_row labels count place line (Some row) later = with_ins (resolve labels count place line row) later

-- The program of lines, the first of which has this number, or the fault of the first line that has one: a label that is
-- defined a second time, a jump's label that names no instruction ahead, a distance that is too far. `labels` are those of
-- all lines, `earlier` those of the lines before; `place` is that of the next instruction, of which all lines have `count`.
abbrev pub program_from : List Label → ℕ → List Label → ℕ → ℕ → List Line → Result (List Ins) CodeError
program_from labels count earlier place number [] = Ok []
program_from labels count earlier place number (line ∷ more) =
    if repeats earlier place line.labels then Err (errors.Label number)
    else with_row labels count place number line.row (program_from labels count (earlier ++ labels_at place line.labels) (place + count_row line.row) (number + 1) more)

-- the program of all lines of a text
abbrev pub program_of : List Line → Result (List Ins) CodeError
program_of lines = program_from (labels_from 0 lines) (count_of lines) [] 0 1 lines

-- the text has the form of lines, and names this program
abbrev pub SourceText : List ℕ → List Ins → Type 0
SourceText text program = (lines : List Line) × AreLines (lines_of text) lines × (program_of lines ≡ Ok program)

-- the first line that isn't of the form has this number, from 1
pub record IsBadLine (text : List ℕ) (line : ℕ) : Type 0 where
  pub front : List (List ℕ)
  pub good : List Line
  pub bad : List ℕ
  pub tail : List (List ℕ)
  pub all : lines_of text ≡ front ++ bad ∷ tail
  pub before : AreLines front good
  pub none : (here : Line) → ¬ IsLine bad here
  pub number : line ≡ length front + 1

-- The fault of a text that is none: a line that isn't of the form comes before all others. Want of memory
-- says nothing of a text.
abbrev pub IsTextFault : List ℕ → CodeError → Type 0
IsTextFault text errors.Length = ⊥
IsTextFault text (errors.Code place) = ⊥
IsTextFault text (errors.Line line) = IsBadLine text line
IsTextFault text (errors.Label line) = (lines : List Line) × AreLines (lines_of text) lines × (program_of lines ≡ Err (errors.Label line))
IsTextFault text (errors.FarJump line) = (lines : List Line) × AreLines (lines_of text) lines × (program_of lines ≡ Err (errors.FarJump line))
IsTextFault text errors.NoMemory = Unit {0}
