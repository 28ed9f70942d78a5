-- The rows of the command line, and the words that spell them (own). A word is its bytes.
use Rattle.std.specs.Prelude.{◌≡◌, ℕ, nat_lt, ◌==◌, ◌&&◌, ◌||◌, Bool, true, false, List, [], ◌∷◌, length, map, slice_index, codes, Option, Some, None, is_none, unwrap_or}
use Rattle.std.specs.Borrow.{Bor}
use Rattle.std.specs.Str.{bytes_eq}
use Rattle.summary.specs.declared.edition.Edition.{Edition}
use Rattle.summary.specs.declared.edition.Edition.TheVariants.{One, Two}
use Rattle.command_line.specs.Numbers.{number_of}

-- what words are
abbrev pub texts : List (Bor (List ℕ)) → List (List ℕ)
texts words = map (λ (word : Bor (List ℕ)). word.now) words

-- `match`
abbrev pub match_word : List ℕ
match_word = codes "match"

-- `asm`
abbrev pub asm_word : List ℕ
asm_word = codes "asm"

-- `check`
abbrev pub check_word : List ℕ
check_word = codes "check"

-- `run`
abbrev pub run_word : List ℕ
run_word = codes "run"

-- `compile`
abbrev pub compile_word : List ℕ
compile_word = codes "compile"

-- `--owns`: the sender owns the rule's well-known name
abbrev pub owns_word : List ℕ
owns_word = codes "--owns"

-- `--each`: the file is a capture, and what is said of each of its messages is wanted
abbrev pub each_word : List ℕ
each_word = codes "--each"

-- `--why`: of a message that doesn't match it is said why
abbrev pub why_word : List ℕ
why_word = codes "--why"

-- `--trace`: the steps of a program are wanted
abbrev pub trace_word : List ℕ
trace_word = codes "--trace"

-- `--nearest`: the next word says of how many messages that nearly match it is said why they don't
abbrev pub nearest_word : List ℕ
nearest_word = codes "--nearest"

-- `--edition`: the next word says of which edition the image is
abbrev pub edition_word : List ℕ
edition_word = codes "--edition"

-- `--filter`: the next word, whatever it is, is a filter expression
abbrev pub filter_word : List ℕ
filter_word = codes "--filter"

-- the word of an edition
abbrev pub word_of_edition : Edition → List ℕ
word_of_edition One = codes "1"
word_of_edition Two = codes "2"

-- `--`, after which no word is an option
abbrev pub end_word : List ℕ
end_word = codes "--"

-- a word that begins with `-` is an option, but for a lone `-`
abbrev pub is_option : List ℕ → Bool
is_option word = nat_lt 1 (length word) && slice_index word 0 == 45

-- a lone `-` is standard input
abbrev pub is_input : List ℕ → Bool
is_input word = bytes_eq word (codes "-")

-- the options of a row: `--owns`, `--each`, `--why`, `--trace`, how many messages are nearest, an edition, and a filter expression
pub record Options : Type 0 where
  pub owns : Bool
  pub each : Bool
  pub why : Bool
  pub trace : Bool
  pub nearest : Option ℕ
  pub edition : Option Edition
  pub filter : Option (List ℕ)

-- no option is given
abbrev pub no_options : Options
no_options = record { owns = false; each = false; why = false; trace = false; nearest = None; edition = None; filter = None }

-- The options among the words after a command, and the words that are no options, in their order. An option may stand
-- anywhere before `--`, and is given once at most.
pub data Spells : Options → List (List ℕ) → List (List ℕ) → Type 0 where
  nothing : Spells no_options [] []
  ended : {words : List (List ℕ)} → Spells no_options words (end_word ∷ words)
  named : {options : Options} {word : List ℕ} {names words : List (List ℕ)} → is_option word ≡ false → Spells options names words → Spells options (word ∷ names) (word ∷ words)
  owned : {options : Options} {names words : List (List ℕ)} → options.owns ≡ false → Spells options names words → Spells (record options { owns = true }) names (owns_word ∷ words)
  eached : {options : Options} {names words : List (List ℕ)} → options.each ≡ false → Spells options names words → Spells (record options { each = true }) names (each_word ∷ words)
  whyed : {options : Options} {names words : List (List ℕ)} → options.why ≡ false → Spells options names words → Spells (record options { why = true }) names (why_word ∷ words)
  traced : {options : Options} {names words : List (List ℕ)} → options.trace ≡ false → Spells options names words → Spells (record options { trace = true }) names (trace_word ∷ words)
  by_nearest : {options : Options} {word : List ℕ} {count : ℕ} {names words : List (List ℕ)} → options.nearest ≡ None → number_of word ≡ Some count → Spells options names words → Spells (record options { nearest = Some count }) names (nearest_word ∷ word ∷ words)
  in_edition : {options : Options} {edition : Edition} {names words : List (List ℕ)} → options.edition ≡ None → Spells options names words → Spells (record options { edition = Some edition }) names (edition_word ∷ word_of_edition edition ∷ words)
  by_filter : {options : Options} {expression : List ℕ} {names words : List (List ℕ)} → options.filter ≡ None → Spells options names words → Spells (record options { filter = Some expression }) names (filter_word ∷ expression ∷ words)

-- what a row of the command line asks for
pub data Asked : Type 0 where
  to_match : (rule file : List ℕ) (owns each why : Bool) (nearest : Option ℕ) → Asked
  to_match_filter : (expression file : List ℕ) (owns each why : Bool) → Asked
  to_asm : (file : List ℕ) → Asked
  to_check : (file : List ℕ) → Asked
  to_compile : (rule : List ℕ) → Asked
  to_compile_filter : (expression : List ℕ) → Asked
  to_run : (program file : List ℕ) (edition : Edition) (each trace : Bool) → Asked

-- `match RULE FILE [--owns] [--each [--nearest N]] [--why]`, `match --filter EXPR FILE [--owns] [--each] [--why]`, `asm FILE`,
-- `check FILE`, `compile RULE`, `compile --filter EXPR`, `run PROGRAM FILE [--edition 1|2] [--each] [--trace]`, whose edition is 1 where
-- none is given, and one of whose files alone may be standard input
pub data IsRow : Asked → List (List ℕ) → Type 0 where
  match_row : {rule file : List ℕ} {owns each why : Bool} {nearest : Option ℕ} {words : List (List ℕ)} → (each || is_none nearest) ≡ true → Spells (record no_options { owns = owns; each = each; why = why; nearest = nearest }) (rule ∷ file ∷ []) words → IsRow (to_match rule file owns each why nearest) (match_word ∷ words)
  match_filter_row : {expression file : List ℕ} {owns each why : Bool} {words : List (List ℕ)} → Spells (record no_options { owns = owns; each = each; why = why; filter = Some expression }) (file ∷ []) words → IsRow (to_match_filter expression file owns each why) (match_word ∷ words)
  asm_row : {file : List ℕ} {words : List (List ℕ)} → Spells no_options (file ∷ []) words → IsRow (to_asm file) (asm_word ∷ words)
  check_row : {file : List ℕ} {words : List (List ℕ)} → Spells no_options (file ∷ []) words → IsRow (to_check file) (check_word ∷ words)
  compile_row : {rule : List ℕ} {words : List (List ℕ)} → Spells no_options (rule ∷ []) words → IsRow (to_compile rule) (compile_word ∷ words)
  compile_filter_row : {expression : List ℕ} {words : List (List ℕ)} → Spells (record no_options { filter = Some expression }) [] words → IsRow (to_compile_filter expression) (compile_word ∷ words)
  run_row : {program file : List ℕ} {option : Option Edition} {each trace : Bool} {words : List (List ℕ)} → is_input program && is_input file ≡ false → Spells (record no_options { each = each; trace = trace; edition = option }) (program ∷ file ∷ []) words → IsRow (to_run program file (unwrap_or option One) each trace) (run_word ∷ words)
