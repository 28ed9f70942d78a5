-- Inner: reading the words of a command line from left to right.
use Rattle.std.specs.Prelude.{ℕ, nat_lt, Bool, true, not, ◌&&◌, ◌||◌, List, [], ◌∷◌, ◌++◌, length, Option, Some, None, is_some, unwrap_or, is_none, option_and_then, if◌then◌else◌}
use Rattle.std.specs.Option.{option_map}
use Rattle.std.specs.Str.{bytes_eq}
use Rattle.summary.specs.declared.edition.Edition.{Edition}
use Rattle.summary.specs.declared.edition.Edition.TheVariants.{One, Two}
use Rattle.command_line.specs.declared.gathered.Awaited.{Awaited}
use Rattle.command_line.specs.declared.gathered.Awaited.TheVariants.{AnyWord, NearestWord, EditionWord, FilterWord, NameAlone}
use Rattle.command_line.specs.Numbers.{number_of}
use Rattle.command_line.specs.CommandRow.{match_word, asm_word, check_word, compile_word, run_word, owns_word, each_word, why_word, trace_word, nearest_word, edition_word, filter_word, word_of_edition, end_word, is_option, is_input, Options, no_options, Asked, to_match, to_match_filter, to_asm, to_check, to_compile, to_compile_filter, to_run}

-- What has been read so far: at most two words that are no options, the options, and what the next word may be.
pub record Gathering : Type 0 where
  pub names : List (List ℕ)
  pub options : Options
  pub awaited : Awaited

abbrev pub no_words : Gathering
no_words = record { names = []; options = no_options; awaited = AnyWord }

-- a word that is no option
abbrev pub with_name : List ℕ → Gathering → Option Gathering
with_name word so_far = if nat_lt (length so_far.names) 2 then Some (record so_far { names = so_far.names ++ word ∷ [] }) else None

-- `--owns`
abbrev pub with_owns : Gathering → Option Gathering
with_owns so_far = if so_far.options.owns then None else Some (record so_far { options = record so_far.options { owns = true } })

-- `--each`
abbrev pub with_each : Gathering → Option Gathering
with_each so_far = if so_far.options.each then None else Some (record so_far { options = record so_far.options { each = true } })

-- `--why`
abbrev pub with_why : Gathering → Option Gathering
with_why so_far = if so_far.options.why then None else Some (record so_far { options = record so_far.options { why = true } })

-- `--trace`
abbrev pub with_trace : Gathering → Option Gathering
with_trace so_far = if so_far.options.trace then None else Some (record so_far { options = record so_far.options { trace = true } })

-- `--nearest`
abbrev pub with_nearest : Gathering → Option Gathering
with_nearest so_far = if is_some so_far.options.nearest then None else Some (record so_far { awaited = NearestWord })

-- the word after `--nearest`
abbrev pub with_nearest_word : List ℕ → Gathering → Option Gathering
with_nearest_word word so_far =
    option_map (λ count. record so_far { options = record so_far.options { nearest = Some count }; awaited = AnyWord }) (number_of word)

-- `--edition`
abbrev pub with_edition : Gathering → Option Gathering
with_edition so_far = if is_some so_far.options.edition then None else Some (record so_far { awaited = EditionWord })

-- the edition that a word says
abbrev pub edition_of : List ℕ → Option Edition
edition_of word =
    if bytes_eq word (word_of_edition One) then Some One
    else if bytes_eq word (word_of_edition Two) then Some Two
    else None

-- the word after `--edition`
abbrev pub with_edition_word : List ℕ → Gathering → Option Gathering
with_edition_word word so_far =
    option_map (λ edition. record so_far { options = record so_far.options { edition = Some edition }; awaited = AnyWord }) (edition_of word)

-- `--filter`
abbrev pub with_filter : Gathering → Option Gathering
with_filter so_far = if is_some so_far.options.filter then None else Some (record so_far { awaited = FilterWord })

-- the word after `--filter`
abbrev pub with_filter_word : List ℕ → Gathering → Gathering
with_filter_word word so_far = record so_far { options = record so_far.options { filter = Some word }; awaited = AnyWord }

-- a word before `--`
abbrev pub with_any : List ℕ → Gathering → Option Gathering
with_any word so_far =
    if bytes_eq word end_word then Some (record so_far { awaited = NameAlone })
    else if bytes_eq word owns_word then with_owns so_far
    else if bytes_eq word each_word then with_each so_far
    else if bytes_eq word why_word then with_why so_far
    else if bytes_eq word trace_word then with_trace so_far
    else if bytes_eq word nearest_word then with_nearest so_far
    else if bytes_eq word edition_word then with_edition so_far
    else if bytes_eq word filter_word then with_filter so_far
    else if is_option word then None
    else with_name word so_far

-- one more word, where this is awaited
abbrev pub with_awaited : Awaited → List ℕ → Gathering → Option Gathering
with_awaited AnyWord word so_far = with_any word so_far
with_awaited NearestWord word so_far = with_nearest_word word so_far
with_awaited EditionWord word so_far = with_edition_word word so_far
with_awaited FilterWord word so_far = Some (with_filter_word word so_far)
with_awaited NameAlone word so_far = with_name word so_far

-- one more word
abbrev pub with_word : List ℕ → Gathering → Option Gathering
with_word word so_far = with_awaited so_far.awaited word so_far

-- where the words end, no option may still want its word
abbrev pub at_end : Awaited → Gathering → Option Gathering
at_end NearestWord so_far = None
at_end EditionWord so_far = None
at_end FilterWord so_far = None
at_end _ so_far = Some so_far

-- the words that are left
abbrev pub gather : Gathering → List (List ℕ) → Option Gathering
gather so_far [] = at_end so_far.awaited so_far
gather so_far (word ∷ words) = option_and_then (λ next. gather next words) (with_word word so_far)

-- no option is given, but for a filter
abbrev pub are_plain : Options → Bool
are_plain options = not options.owns && not options.each && not options.why && not options.trace && not (is_some options.nearest) && not (is_some options.edition)

-- the options that may stand beside a rule: the nearest messages are those of a capture
abbrev pub fit_a_rule : Options → Bool
fit_a_rule options = not options.trace && not (is_some options.edition) && (options.each || is_none options.nearest)

-- the options that may stand beside a filter
abbrev pub fit_a_filter : Options → Bool
fit_a_filter options = not options.trace && not (is_some options.edition) && is_none options.nearest

-- what `match`, its words and a filter ask for
abbrev pub match_by : List (List ℕ) → Options → Option (List ℕ) → Option Asked
match_by (rule ∷ file ∷ []) options None =
    if fit_a_rule options then Some (to_match rule file options.owns options.each options.why options.nearest) else None
match_by (file ∷ []) options (Some expression) =
    if fit_a_filter options then Some (to_match_filter expression file options.owns options.each options.why) else None
match_by _ options filter = None

abbrev pub match_of : List (List ℕ) → Options → Option Asked
match_of names options = match_by names options options.filter

-- what `compile`, its words and a filter ask for
abbrev pub compile_by : List (List ℕ) → Option (List ℕ) → Option Asked
compile_by (rule ∷ []) None = Some (to_compile rule)
compile_by [] (Some expression) = Some (to_compile_filter expression)
compile_by _ filter = None

abbrev pub compile_of : List (List ℕ) → Options → Option Asked
compile_of names options = if are_plain options then compile_by names options.filter else None

-- one word without options
abbrev pub only_by : List (List ℕ) → Option (List ℕ) → Option (List ℕ)
only_by (word ∷ []) None = Some word
only_by _ filter = None

abbrev pub only_word : List (List ℕ) → Options → Option (List ℕ)
only_word names options = if are_plain options then only_by names options.filter else None

-- what `run` and two words ask for
abbrev pub run_by : List (List ℕ) → Options → Option (List ℕ) → Option Asked
run_by (program ∷ file ∷ []) options None =
    if options.owns || options.why || is_some options.nearest then None
    else if is_input program && is_input file then None
    else Some (to_run program file (unwrap_or options.edition One) options.each options.trace)
run_by _ options filter = None

abbrev pub run_of : List (List ℕ) → Options → Option Asked
run_of names options = run_by names options options.filter

-- what a command and the words gathered after it ask for
abbrev pub asked_of : List ℕ → Gathering → Option Asked
asked_of command all =
    if bytes_eq command match_word then match_of all.names all.options
    else if bytes_eq command asm_word then option_map to_asm (only_word all.names all.options)
    else if bytes_eq command check_word then option_map to_check (only_word all.names all.options)
    else if bytes_eq command compile_word then compile_of all.names all.options
    else if bytes_eq command run_word then run_of all.names all.options
    else None

-- what some words ask for, if they are a row
abbrev pub asked_in : List (List ℕ) → Option Asked
asked_in [] = None
asked_in (word ∷ words) = option_and_then (asked_of word) (gather no_words words)
