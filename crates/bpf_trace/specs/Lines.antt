-- The line of a step, for people (own, in the manner of Linux's `bpf_dbg`): the instruction, what the run has before it,
-- and what it reads of the image.
use Rattle.std.specs.Prelude.{ℕ, zero, suc, ◌+◌, ◌-◌, true, List, [], ◌++◌, length, replicate, slice_get, Option, Some, None, codes, decimal}
use Rattle.std.specs.Option.{option_map_or}
use Rattle.bpf_code.specs.declared.instruction.Ins.{Ins}
use Rattle.bpf_code.specs.declared.operation.Op.{Op}
use Rattle.bpf_code.specs.declared.operation.Op.TheVariants.{LoadImage, LoadIndexed, IndexHeader}
use Rattle.bpf_code.specs.declared.operation.Width.{Width}
use Rattle.bpf_code.specs.declared.operation.Width.TheVariants.{Byte}
use Rattle.bpf_code.specs.Loads.{load}
use Rattle.bpf_code.specs.Steps.{State}
use Rattle.bpf_code.specs.Table.{op_of}
use Rattle.bpf_text.specs.Printing.{label_text, instruction_text}
use Rattle.summary.specs.declared.edition.Edition.{Edition}
use Rattle.bpf_trace.specs.ImageWords.{place_text}

-- a text, and blanks up to a width
abbrev pub in_column : ℕ → List ℕ → List ℕ
in_column width text = text ++ replicate (width - length text) 32

-- an instruction with the label of its place
abbrev pub labelled_text : ℕ → Op → Ins → List ℕ
labelled_text place op ins = label_text place true ++ instruction_text place op ins

-- a scratch word, if it is set
abbrev pub scratch_text : ℕ → Option ℕ → List ℕ
scratch_text k None = []
scratch_text k (Some value) = codes " M[" ++ decimal k ++ codes "]=" ++ decimal value

-- those of the first n scratch words that are set
unfoldable pub scratch_texts : (ℕ → Option ℕ) → ℕ → List ℕ
scratch_texts words zero = []
scratch_texts words (suc n) = scratch_texts words n ++ scratch_text n (words n)

-- A, X, and the scratch words that are set
abbrev pub registers_text : State → List ℕ
registers_text s = codes " A=" ++ decimal s.a ++ codes " X=" ++ decimal s.x ++ scratch_texts s.words 16

-- what a load finds at a place
abbrev pub found_text : Edition → Width → ℕ → Option ℕ → List ℕ
found_text edition width at None = codes "  [" ++ decimal at ++ codes "] lies outside"
found_text edition width at (Some value) =
    codes "  [" ++ decimal at ++ codes "] = " ++ decimal value ++ place_text edition width at

abbrev pub load_text : Edition → List ℕ → Width → ℕ → List ℕ
load_text edition image width at = found_text edition width at (load width image at)

-- what an instruction reads of the image
abbrev pub read_text : Edition → List ℕ → Op → Ins → ℕ → List ℕ
read_text edition image (LoadImage width) ins x = load_text edition image width ins.k
read_text edition image (LoadIndexed width) ins x = load_text edition image width (x + ins.k)
read_text edition image IndexHeader ins x = load_text edition image Byte ins.k
read_text edition image _ ins x = []

-- how wide the column of the instructions is
abbrev pub column_width : ℕ
column_width = 32

abbrev pub line_of : Edition → List ℕ → State → Ins → Op → List ℕ
line_of edition image s ins op =
    in_column column_width (labelled_text s.place op ins) ++ registers_text s ++ read_text edition image op ins s.x ++ codes "\n"

-- the line of the step that a program makes at a configuration
abbrev pub step_line : Edition → List Ins → List ℕ → State → List ℕ
step_line edition program image s =
    option_map_or (λ ins. option_map_or (line_of edition image s ins) (op_of ins.code) []) (slice_get program s.place) []
