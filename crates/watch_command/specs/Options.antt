-- Which sayings are a row of `watch`, and what they ask for (own).
use Rattle.std.specs.Prelude.{ℕ, ◌+◌, Bool, not, ◌||◌, ◌&&◌, ◌==◌, nat_lt, nat_le, List, [], ◌∷◌, length, codes, Option, Some, None, if◌then◌else◌}
use Rattle.std.specs.List.{list_any}
use Rattle.std.specs.Str.{bytes_eq}
use Rattle.summary.specs.declared.edition.Edition.{Edition as AnEdition}
use Rattle.summary.specs.declared.edition.Edition.TheVariants.{One, Two}
use Rattle.watch_command.specs.declared.words.Key.{Key}
use Rattle.watch_command.specs.declared.words.Key.TheVariants.{Attach, Calls, Clock, Count, Edition, Filter, Full, Hex, Invert, Json, Monitor, Names, Of, Patience, Program, Read, Rules, Seconds, Slow, Summary, Time, Top, Why, Write}
use Rattle.watch_command.specs.Sayings.{Saying, is_key, word_in, name_in}

-- whether an option is said
abbrev pub has : Key → List Saying → Bool
has key said = list_any (is_key key) said

abbrev pub first_some : Option (List ℕ) → Option (List ℕ) → Option (List ℕ)
first_some (Some text) later = Some text
first_some None later = later

-- the word of an option
abbrev pub word_of : Key → List Saying → Option (List ℕ)
word_of key [] = None
word_of key (saying ∷ later) = first_some (word_in key saying) (word_of key later)

abbrev pub name_before : Option (List ℕ) → List (List ℕ) → List (List ℕ)
name_before (Some text) later = text ∷ later
name_before None later = later

-- the words that are no options
abbrev pub names : List Saying → List (List ℕ)
names [] = []
names (saying ∷ later) = name_before (name_in saying) (names later)

abbrev pub is_said : List Saying → Key → Bool
is_said said key = has key said

-- if an option is said, none of the others is
abbrev pub excludes : Key → List Key → List Saying → Bool
excludes key others said = not (has key said) || not (list_any (is_said said) others)

-- if an option is said, another one is
abbrev pub needs : Key → Key → List Saying → Bool
needs key other said = not (has key said) || has other said

-- if an option is said, one of some others is
abbrev pub needs_any : Key → List Key → List Saying → Bool
needs_any key others said = not (has key said) || list_any (is_said said) others

-- the options that don't go with a filter expression, with one that asks the bus to run a program, or with a capture
abbrev pub fits_source : List Saying → Bool
fits_source said =
    needs Edition Program said && needs_any Attach (Program ∷ Filter ∷ []) said
    && excludes Filter (Program ∷ Edition ∷ Rules ∷ Of ∷ []) said
    && excludes Attach (Monitor ∷ Invert ∷ Rules ∷ Of ∷ Read ∷ Calls ∷ []) said
    && excludes Read (Monitor ∷ Seconds ∷ Names ∷ Of ∷ Top ∷ []) said
    && excludes Of (Rules ∷ []) said

-- the options that say which messages are shown, or how, don't go with one that has them counted
abbrev pub excludes_forms : Key → List Saying → Bool
excludes_forms key said = excludes key (Program ∷ Invert ∷ Time ∷ Clock ∷ Hex ∷ Json ∷ Write ∷ Names ∷ Full ∷ []) said

-- the options that say which messages are counted, or how they are written, don't go with a table of who sent what
abbrev pub excludes_lines : Key → List Saying → Bool
excludes_lines key said = excludes key (Rules ∷ Of ∷ Calls ∷ Hex ∷ Json ∷ Write ∷ Time ∷ Clock ∷ Names ∷ Full ∷ []) said

-- the options that don't go with one that says how messages are written
abbrev pub fits_form : List Saying → Bool
fits_form said =
    excludes_forms Rules said
    && excludes_forms Of said
    && excludes_lines Summary said
    && excludes_lines Top said
    && excludes Hex (Json ∷ Write ∷ Time ∷ Clock ∷ Names ∷ Full ∷ []) said
    && excludes Json (Write ∷ Time ∷ Clock ∷ Names ∷ Full ∷ []) said
    && excludes Write (Time ∷ Clock ∷ Names ∷ Full ∷ []) said
    && excludes Clock (Time ∷ []) said

-- the options that say which calls are shown, and those that don't go with calls
abbrev pub fits_calls : List Saying → Bool
fits_calls said =
    needs Patience Calls said && needs Slow Calls said
    && excludes Calls (Rules ∷ Of ∷ Hex ∷ Json ∷ Write ∷ []) said

-- messages to others are asked for too
abbrev pub is_monitor : List Saying → Bool
is_monitor said = has Monitor said || has Calls said

-- a table of who sent what is asked for
abbrev pub is_summary : List Saying → Bool
is_summary said = has Summary said || has Top said

-- another option than a rule says which messages are wanted
abbrev pub wants_all : List Saying → Bool
wants_all said = has Read said || has Program said || has Filter said || is_summary said || is_monitor said

-- how many of the words that are no options aren't rules: the address of a bus
abbrev pub address_count : List Saying → ℕ
address_count said = if has Read said then 0 else 1

-- how many rules there are where it is said why messages aren't shown: one, or none beside a filter expression
abbrev pub explained_rules : List Saying → ℕ
explained_rules said = if has Filter said then 0 else 1

-- why a rule or a filter expression doesn't hold is said of one rule, or of the expression alone, and of lines for people
abbrev pub fits_why : List Saying → Bool
fits_why said =
    not (has Why said)
    || (excludes Why (Program ∷ Attach ∷ Invert ∷ Calls ∷ Summary ∷ Top ∷ Rules ∷ Of ∷ Hex ∷ Json ∷ Write ∷ []) said && length (names said) == address_count said + explained_rules said)

-- an address where there is no capture, and a rule at least where nothing else says what is wanted; none where something
-- else says all
abbrev pub has_names : List Saying → Bool
has_names said =
    if has Attach said || has Rules said || has Of said then length (names said) == address_count said
    else if wants_all said then nat_le (address_count said) (length (names said))
    else nat_lt (address_count said) (length (names said))

-- the options go together, and there are as many other words as there may be
abbrev pub fits : List Saying → Bool
fits said = fits_source said && fits_form said && fits_calls said && fits_why said && has_names said

-- whether there is an option whose word has to be a number or an edition
abbrev pub has_value : List Saying → Bool
has_value said = has Count said || has Seconds said || has Patience said || has Slow said || has Edition said

-- the edition that a word says
abbrev pub edition_of : List ℕ → Option AnEdition
edition_of word = if bytes_eq word (codes "1") then Some One else if bytes_eq word (codes "2") then Some Two else None
