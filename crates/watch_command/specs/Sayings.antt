-- What the words of `watch` say (own). A word is its bytes.
use Rattle.std.specs.Prelude.{ℕ, Bool, true, false, ◌&&◌, ◌==◌, nat_lt, List, [], ◌∷◌, ◌++◌, length, map, slice_index, codes, Option, Some, None, option_and_then, if◌then◌else◌}
use Rattle.std.specs.Borrow.{Bor}
use Rattle.std.specs.List.{list_any}
use Rattle.std.specs.Option.{option_map}
use Rattle.std.specs.Str.{bytes_eq}
use Rattle.watch_command.specs.declared.words.Key.{Key}
use Rattle.watch_command.specs.declared.words.Key.TheVariants.{Attach, Calls, Clock, Count, Edition, Filter, Full, Hex, Invert, Json, Monitor, Names, Of, Patience, Program, Read, Rules, Seconds, Slow, Summary, Time, Top, Why, Write}
use Rattle.watch_command.specs.declared.words.Word.{Word}
use Rattle.watch_command.specs.declared.words.Word.TheVariants as of_word
use Rattle.watch_command.specs.declared.words.Awaited.{Awaited}
use Rattle.watch_command.specs.declared.words.Awaited.TheVariants.{AnyWord, WordOf, NameAlone}
use Rattle.watch_command.specs.declared.words.Step.{Step}

-- an option's number, by which options are told apart
abbrev pub key_number : Key → ℕ
key_number Attach = 1
key_number Calls = 2
key_number Clock = 3
key_number Count = 4
key_number Edition = 5
key_number Filter = 6
key_number Full = 7
key_number Hex = 8
key_number Invert = 9
key_number Json = 10
key_number Monitor = 11
key_number Names = 12
key_number Of = 13
key_number Patience = 14
key_number Program = 15
key_number Read = 16
key_number Rules = 17
key_number Seconds = 18
key_number Slow = 19
key_number Summary = 20
key_number Time = 21
key_number Top = 22
key_number Why = 23
key_number Write = 24

-- whether two options are the same
abbrev pub key_eq : Key → Key → Bool
key_eq a b = key_number a == key_number b

-- what a word says: an option alone, an option with its word, or an address or a rule
pub data Saying : Type 0 where
  flag : Key → Saying
  setting : Key → List ℕ → Saying
  name : List ℕ → Saying

-- the words of the options
abbrev pub options : List (List ℕ × Key)
options =
    (codes "--attach", Attach) ∷
    (codes "--calls", Calls) ∷
    (codes "--clock", Clock) ∷
    (codes "--count", Count) ∷
    (codes "--edition", Edition) ∷
    (codes "--filter", Filter) ∷
    (codes "--full", Full) ∷
    (codes "--hex", Hex) ∷
    (codes "--invert", Invert) ∷
    (codes "--json", Json) ∷
    (codes "--monitor", Monitor) ∷
    (codes "--names", Names) ∷
    (codes "--of", Of) ∷
    (codes "--patience", Patience) ∷
    (codes "--program", Program) ∷
    (codes "--read", Read) ∷
    (codes "--rules", Rules) ∷
    (codes "--seconds", Seconds) ∷
    (codes "--slow", Slow) ∷
    (codes "--summary", Summary) ∷
    (codes "--time", Time) ∷
    (codes "--top", Top) ∷
    (codes "--why", Why) ∷
    (codes "--write", Write) ∷
    []

-- the option that a word has in a table
abbrev pub key_in : List ℕ → List (List ℕ × Key) → Option Key
key_in word [] = None
key_in word (named ∷ more) = if bytes_eq word named.0 then Some named.1 else key_in word more

-- the option that a word is
unfoldable pub key_of : List ℕ → Option Key
key_of word = key_in word options

-- the options that take the word after them
abbrev pub takes_word : Key → Bool
takes_word Count = true
takes_word Edition = true
takes_word Filter = true
takes_word Of = true
takes_word Patience = true
takes_word Program = true
takes_word Read = true
takes_word Rules = true
takes_word Seconds = true
takes_word Slow = true
takes_word Write = true
takes_word _ = false

-- a word that begins with `-` is an option, but for a lone `-`
abbrev pub is_option : List ℕ → Bool
is_option word = nat_lt 1 (length word) && slice_index word 0 == 45

-- what a word says by itself, if anything, and what the word after it may be
pub record Reading : Type 0 where
  pub said : Option Saying
  pub awaited : Awaited

-- a word that is this option, or none
abbrev pub reading_by : List ℕ → Option Key → Option Reading
reading_by word (Some key) = Some (if takes_word key then record { said = None; awaited = WordOf key } else record { said = Some (flag key); awaited = AnyWord })
reading_by word None = if is_option word then None else Some (record { said = Some (name word); awaited = AnyWord })

-- a word, where this is awaited: after `--` no word is an option
abbrev pub reading_of : Awaited → List ℕ → Option Reading
reading_of AnyWord word = if bytes_eq word (codes "--") then Some (record { said = None; awaited = NameAlone }) else reading_by word (key_of word)
reading_of (WordOf key) word = Some (record { said = Some (setting key word); awaited = AnyWord })
reading_of NameAlone word = Some (record { said = Some (name word); awaited = NameAlone })

-- whether this is the option
abbrev pub is_key : Key → Saying → Bool
is_key key (flag own) = key_eq own key
is_key key (setting own _) = key_eq own key
is_key key (name _) = false

-- whether this is an option that was said before
abbrev pub is_repeated : List Saying → Saying → Bool
is_repeated before (flag key) = list_any (is_key key) before
is_repeated before (setting key _) = list_any (is_key key) before
is_repeated before (name _) = false

-- one more saying, if there is one: an option is said once at most
abbrev pub with_saying : List Saying → Option Saying → Option (List Saying)
with_saying before None = Some before
with_saying before (Some saying) = if is_repeated before saying then None else Some (before ++ saying ∷ [])

-- where the words end, no option may still want its word
abbrev pub may_end : Awaited → Bool
may_end (WordOf key) = false
may_end _ = true

-- what the words that are left say, after what was said before
abbrev pub sayings_from : List Saying → Awaited → List (List ℕ) → Option (List Saying)
sayings_from before awaited [] = if may_end awaited then Some before else None
sayings_from before awaited (word ∷ words) =
    option_and_then (λ (reading : Reading). option_and_then (λ said. sayings_from said reading.awaited words) (with_saying before reading.said)) (reading_of awaited word)

-- what some words say, if each may stand where it does
abbrev pub sayings_in : List (List ℕ) → Option (List Saying)
sayings_in words = sayings_from [] AnyWord words

-- the word of an option, if this is it
abbrev pub word_in : Key → Saying → Option (List ℕ)
word_in key (setting own text) = if key_eq own key then Some text else None
word_in key _ = None

-- the name, if this is one
abbrev pub name_in : Saying → Option (List ℕ)
name_in (name text) = Some text
name_in _ = None

-- a word of the code
abbrev pub saying_of : Word → Saying
saying_of (of_word.Flag key) = flag key
saying_of (of_word.Setting key text) = setting key text.now
saying_of (of_word.Name text) = name text.now

-- a step of the code
abbrev pub reading_by_step : Step → Reading
reading_by_step step = record { said = option_map saying_of step.said; awaited = step.awaited }

abbrev pub sayings_of : List Word → List Saying
sayings_of words = map saying_of words

-- what words are
abbrev pub texts : List (Bor (List ℕ)) → List (List ℕ)
texts words = map (λ (word : Bor (List ℕ)). word.now) words
