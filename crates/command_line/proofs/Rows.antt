-- The reading of a command line reads exactly its rows.
use Rattle.std.proofs.Common.{◌≡◌, ℕ, ◌+◌, ◌≤◌, Bool, true, false, ◌||◌, ◌&&◌, List, [], ◌∷◌, ◌++◌, length, Option, Some, None, nat_lt, refl, ap, sym, subst, lit≤, ◌∙◌, inl, inr, arith, append_assoc, append-nil, length-append}
use Rattle.std.specs.Prelude.{is_none, is_some, unwrap_or}
use Rattle.std.specs.Str.{bytes_eq}
use Rattle.std.specs.Option.{option_and_then, option_map, IfSome}
use Rattle.summary.specs.declared.edition.Edition.{Edition}
use Rattle.summary.specs.declared.edition.Edition.TheVariants.{One, Two}
use Rattle.command_line.specs.declared.command_row.CommandRow.{CommandRow}
use Rattle.command_line.specs.declared.gathered.Awaited.{Awaited}
use Rattle.command_line.specs.declared.gathered.Awaited.TheVariants.{AnyWord, NearestWord, EditionWord, FilterWord, NameAlone}
use Rattle.std.proofs.Math.Bool.{or-false}
use Rattle.std.proofs.lemmas.Bool.{cases_Bool, false_from_ne_true}
use Rattle.std.proofs.lemmas.Bool.Decides.{Decides-ltb}
use Rattle.std.proofs.lemmas.Slice.Eq.{bytes_eq-Decides}
use Rattle.command_line.specs.Numbers.{number_of}
use Rattle.command_line.specs.CommandRow.{match_word, asm_word, check_word, compile_word, run_word, owns_word, each_word, why_word, trace_word, nearest_word, edition_word, filter_word, word_of_edition, end_word, is_option, is_input, Options, no_options, Spells, nothing, ended, named, owned, eached, whyed, traced, by_nearest, in_edition, by_filter, Asked, to_match, to_match_filter, to_asm, to_check, to_compile, to_compile_filter, to_run, IsRow, match_row, match_filter_row, asm_row, check_row, compile_row, compile_filter_row, run_row}
use Rattle.command_line.specs.Views.{asked_by}
use Rattle.command_line.specs.RowReading.{Gathering, no_words, with_name, with_owns, with_each, with_why, with_trace, with_nearest, with_edition, with_filter, edition_of, gather, match_of, compile_of, only_word, run_of, asked_of, asked_in}

abbrev Words : Type 0
Words = List (List ℕ)

-- a gathering, by its parts
abbrev having : Words → Options → Awaited → Gathering
having names options awaited = record { names = names; options = options; awaited = awaited }

-- what was given, or else the other
abbrev either : {A : Type 0} → Option A → Option A → Option A
either (Some a) other = Some a
either None other = other

either-none : {A : Type 0} (given : Option A) → either given None ≡ given
either-none (Some a) = refl
either-none None = refl

-- the options that were given before, and those that come later
abbrev joined : Options → Options → Options
joined before later = record {
  owns = before.owns || later.owns;
  each = before.each || later.each;
  why = before.why || later.why;
  trace = before.trace || later.trace;
  nearest = either before.nearest later.nearest;
  edition = either before.edition later.edition;
  filter = either before.filter later.filter;
}

-- none of them is given twice
record Apart (before later : Options) : Type 0 where
  owns : (before.owns && later.owns) ≡ false
  each : (before.each && later.each) ≡ false
  why : (before.why && later.why) ≡ false
  trace : (before.trace && later.trace) ≡ false
  nearest : (is_some before.nearest && is_some later.nearest) ≡ false
  edition : (is_some before.edition && is_some later.edition) ≡ false
  filter : (is_some before.filter && is_some later.filter) ≡ false

joined_none : (before : Options) → joined before no_options ≡ before
joined_none before = rw (or-false before.owns, or-false before.each, or-false before.why, or-false before.trace, either-none before.nearest, either-none before.edition, either-none before.filter) refl

and_false : (b : Bool) → (b && false) ≡ false
and_false true = refl
and_false false = refl

apart_none : (before : Options) → Apart before no_options
apart_none before = record { owns = and_false before.owns; each = and_false before.each; why = and_false before.why; trace = and_false before.trace; nearest = and_false (is_some before.nearest); edition = and_false (is_some before.edition); filter = and_false (is_some before.filter) }

apart_first : (later : Options) → Apart no_options later
apart_first later = record { owns = refl; each = refl; why = refl; trace = refl; nearest = refl; edition = refl; filter = refl }

-- what is given later wasn't given before
not_before : (b : Bool) → (b && true) ≡ false → b ≡ false
not_before true e = absurd (cc)
not_before false e = refl

none_before : {A : Type 0} (given : Option A) → (is_some given && true) ≡ false → given ≡ None
none_before (Some a) e = absurd (cc)
none_before None e = refl

-- what was given before isn't given later
none_beside : {A : Type 0} (given : Option A) → (true && is_some given) ≡ false → given ≡ None
none_beside None alone = refl
none_beside (Some a) alone = absurd (cc)

-- the word of an edition says it
said_edition : (edition : Edition) → edition_of (word_of_edition edition) ≡ Some edition
said_edition One = refl
said_edition Two = refl

-- a word that says an edition is its word
word_said : (word : List ℕ) (edition : Edition) → edition_of word ≡ Some edition → word ≡ word_of_edition edition
word_said word edition e =
    elim (cases_Bool (bytes_eq word (word_of_edition One))) [
      | inl same ↦
          let is : word ≡ word_of_edition One = (bytes_eq-Decides word (word_of_edition One)).0 same in
          let first : Some One ≡ Some edition = rw same at e in
          let says : One ≡ edition = cc in
          is ∙ ap word_of_edition says
      | inr not_one ↦ elim (cases_Bool (bytes_eq word (word_of_edition Two))) [
        | inl same ↦
            let is : word ≡ word_of_edition Two = (bytes_eq-Decides word (word_of_edition Two)).0 same in
            let second : Some Two ≡ Some edition = rw (not_one, same) at e in
            let says : Two ≡ edition = cc in
            is ∙ ap word_of_edition says
        | inr not_two ↦ let none : None ≡ Some edition = rw (not_one, not_two) at e in absurd (cc)
      ]
    ]

-- after `--`
ended_names : (front words : Words) (options : Options) → length front + length words ≤ 2 → gather (having front options NameAlone) words ≡ Some (having (front ++ words) options NameAlone)
ended_names front [] options fits = ap (λ all. Some (having all options NameAlone)) (sym (append-nil front))
ended_names front (word ∷ words) options fits =
    let room : nat_lt (length front) 2 ≡ true = (Decides-ltb (length front) 2).1 (omega arith) in
    let rest = ended_names (front ++ word ∷ []) words options (simp length-append (omega arith)) in
    rw room (rest ∙ ap (λ all. Some (having all options NameAlone)) (append_assoc front (word ∷ []) words))

-- a word that is no option is none of them
other_word : (word known : List ℕ) → is_option known ≡ true → is_option word ≡ false → bytes_eq word known ≡ false
other_word word known option plain =
    false_from_ne_true (bytes_eq word known) (λ same. let e = (bytes_eq-Decides word known).0 same in cc)

-- The words after a command are gathered as they are spelled, with a front and options that were gathered before.
spelled : {later : Options} {names words : Words} → Spells later names words → (front : Words) (before : Options) → length front + length names ≤ 2 → Apart before later → (awaited : Awaited) × (gather (having front before AnyWord) words ≡ Some (having (front ++ names) (joined before later) awaited))
spelled nothing front before fits apart = (AnyWord, rw (append-nil front, joined_none before) refl)
spelled (ended {words = words}) front before fits apart = (NameAlone, rw (joined_none before) (ended_names front words before fits))
spelled (named {options = later} {word = word} {names = names} plain rest) front before fits apart =
    let room : nat_lt (length front) 2 ≡ true = (Decides-ltb (length front) 2).1 (omega arith) in
    let read = spelled rest (front ++ word ∷ []) before (simp length-append (omega arith)) apart in
    let no_end = other_word word end_word refl plain in
    let no_owns = other_word word owns_word refl plain in
    let no_each = other_word word each_word refl plain in
    let no_why = other_word word why_word refl plain in
    let no_trace = other_word word trace_word refl plain in
    let no_nearest = other_word word nearest_word refl plain in
    let no_edition = other_word word edition_word refl plain in
    let no_filter = other_word word filter_word refl plain in
    (read.0, rw (no_end, no_owns, no_each, no_why, no_trace, no_nearest, no_edition, no_filter, plain, room) (read.1 ∙ ap (λ all. Some (having all (joined before later) read.0)) (append_assoc front (word ∷ []) names)))
spelled (owned {options = later} fresh rest) front before fits apart =
    let none : before.owns ≡ false = not_before before.owns apart.owns in
    let read = spelled rest front (record before { owns = true }) fits (record { owns = fresh; each = apart.each; why = apart.why; trace = apart.trace; nearest = apart.nearest; edition = apart.edition; filter = apart.filter }) in
    (read.0, rw none read.1)
spelled (eached {options = later} fresh rest) front before fits apart =
    let none : before.each ≡ false = not_before before.each apart.each in
    let read = spelled rest front (record before { each = true }) fits (record { owns = apart.owns; each = fresh; why = apart.why; trace = apart.trace; nearest = apart.nearest; edition = apart.edition; filter = apart.filter }) in
    (read.0, rw none read.1)
spelled (whyed {options = later} fresh rest) front before fits apart =
    let none : before.why ≡ false = not_before before.why apart.why in
    let read = spelled rest front (record before { why = true }) fits (record { owns = apart.owns; each = apart.each; why = fresh; trace = apart.trace; nearest = apart.nearest; edition = apart.edition; filter = apart.filter }) in
    (read.0, rw none read.1)
spelled (traced {options = later} fresh rest) front before fits apart =
    let none : before.trace ≡ false = not_before before.trace apart.trace in
    let read = spelled rest front (record before { trace = true }) fits (record { owns = apart.owns; each = apart.each; why = apart.why; trace = fresh; nearest = apart.nearest; edition = apart.edition; filter = apart.filter }) in
    (read.0, rw none read.1)
spelled (by_nearest {options = later} {count = count} fresh says rest) front before fits apart =
    let none : before.nearest ≡ None = none_before before.nearest apart.nearest in
    let read = spelled rest front (record before { nearest = Some count }) fits (record { owns = apart.owns; each = apart.each; why = apart.why; trace = apart.trace; nearest = rw fresh refl; edition = apart.edition; filter = apart.filter }) in
    (read.0, rw (none, says) read.1)
spelled (in_edition {options = later} {edition = value} fresh rest) front before fits apart =
    let none : before.edition ≡ None = none_before before.edition apart.edition in
    let read = spelled rest front (record before { edition = Some value }) fits (record { owns = apart.owns; each = apart.each; why = apart.why; trace = apart.trace; nearest = apart.nearest; edition = rw fresh refl; filter = apart.filter }) in
    (read.0, rw (none, said_edition value) read.1)
spelled (by_filter {options = later} {expression = value} fresh rest) front before fits apart =
    let none : before.filter ≡ None = none_before before.filter apart.filter in
    let read = spelled rest front (record before { filter = Some value }) fits (record { owns = apart.owns; each = apart.each; why = apart.why; trace = apart.trace; nearest = apart.nearest; edition = apart.edition; filter = rw fresh refl }) in
    (read.0, rw none read.1)

-- what a gathering that began with a front and with options says of the words after them
record Found (front : Words) (before : Options) (words : Words) (all : Gathering) : Type 0 where
  options : Options
  names : Words
  spells : Spells options names words
  all_names : all.names ≡ front ++ names
  all_options : all.options ≡ joined before options
  apart : Apart before options

abbrev IsFound : Words → Type 0
IsFound words = (front : Words) (before : Options) (all : Gathering) → gather (having front before AnyWord) words ≡ Some all → Found front before words all

-- a front, and the number of nearest messages
record FoundNearest (front : Words) (before : Options) (words : Words) (all : Gathering) : Type 0 where
  count : ℕ
  word : List ℕ
  tail : Words
  words_are : words ≡ word ∷ tail
  says : number_of word ≡ Some count
  rest : Found front (record before { nearest = Some count }) tail all

abbrev IsFoundNearest : Words → Type 0
IsFoundNearest words = (front : Words) (before : Options) (all : Gathering) → gather (having front before NearestWord) words ≡ Some all → FoundNearest front before words all

-- a front, and the word of an edition
record FoundEdition (front : Words) (before : Options) (words : Words) (all : Gathering) : Type 0 where
  edition : Edition
  tail : Words
  words_are : words ≡ word_of_edition edition ∷ tail
  rest : Found front (record before { edition = Some edition }) tail all

abbrev IsFoundEdition : Words → Type 0
IsFoundEdition words = (front : Words) (before : Options) (all : Gathering) → gather (having front before EditionWord) words ≡ Some all → FoundEdition front before words all

-- a front, and an expression
record FoundFilter (front : Words) (before : Options) (words : Words) (all : Gathering) : Type 0 where
  expression : List ℕ
  tail : Words
  words_are : words ≡ expression ∷ tail
  rest : Found front (record before { filter = Some expression }) tail all

abbrev IsFoundFilter : Words → Type 0
IsFoundFilter words = (front : Words) (before : Options) (all : Gathering) → gather (having front before FilterWord) words ≡ Some all → FoundFilter front before words all

ended_found : (front words : Words) (before : Options) (all : Gathering) → gather (having front before NameAlone) words ≡ Some all → (all.names ≡ front ++ words) × (all.options ≡ before)
ended_found front [] before all e = (rw append-nil (cc), cc)
ended_found front (word ∷ words) before all e =
    elim (cases_Bool (nat_lt (length front) 2)) [
      | inl room ↦
          let rest = ended_found (front ++ word ∷ []) words before all (rw room at e) in
          (rest.0 ∙ append_assoc front (word ∷ []) words, rest.1)
      | inr full ↦ let none : None ≡ Some all = rw full at e in absurd (cc)
    ]

end_found : (front words : Words) (before : Options) (all : Gathering) → gather (having front before NameAlone) words ≡ Some all → Found front before (end_word ∷ words) all
end_found front words before all e =
    let rest = ended_found front words before all e in
    record { options = no_options; names = words; spells = ended; all_names = rest.0; all_options = rest.1 ∙ sym (joined_none before); apart = apart_none before }

owns_found : (front words : Words) (before : Options) (all : Gathering) → IsFound words → option_and_then (λ next. gather next words) (with_owns (having front before AnyWord)) ≡ Some all → Found front before (owns_word ∷ words) all
owns_found front words before all rest e =
    elim (cases_Bool before.owns) [
      | inl given ↦ let none : None ≡ Some all = rw given at e in absurd (cc)
      | inr none ↦
          let tail = rest front (record before { owns = true }) all (rw none at e) in
          record { options = record tail.options { owns = true }; names = tail.names; spells = owned tail.apart.owns tail.spells; all_names = tail.all_names; all_options = rw none tail.all_options; apart = record { owns = rw none refl; each = tail.apart.each; why = tail.apart.why; trace = tail.apart.trace; nearest = tail.apart.nearest; edition = tail.apart.edition; filter = tail.apart.filter } }
    ]

each_found : (front words : Words) (before : Options) (all : Gathering) → IsFound words → option_and_then (λ next. gather next words) (with_each (having front before AnyWord)) ≡ Some all → Found front before (each_word ∷ words) all
each_found front words before all rest e =
    elim (cases_Bool before.each) [
      | inl given ↦ let none : None ≡ Some all = rw given at e in absurd (cc)
      | inr none ↦
          let tail = rest front (record before { each = true }) all (rw none at e) in
          record { options = record tail.options { each = true }; names = tail.names; spells = eached tail.apart.each tail.spells; all_names = tail.all_names; all_options = rw none tail.all_options; apart = record { owns = tail.apart.owns; each = rw none refl; why = tail.apart.why; trace = tail.apart.trace; nearest = tail.apart.nearest; edition = tail.apart.edition; filter = tail.apart.filter } }
    ]

why_found : (front words : Words) (before : Options) (all : Gathering) → IsFound words → option_and_then (λ next. gather next words) (with_why (having front before AnyWord)) ≡ Some all → Found front before (why_word ∷ words) all
why_found front words before all rest e =
    elim (cases_Bool before.why) [
      | inl given ↦ let none : None ≡ Some all = rw given at e in absurd (cc)
      | inr none ↦
          let tail = rest front (record before { why = true }) all (rw none at e) in
          record { options = record tail.options { why = true }; names = tail.names; spells = whyed tail.apart.why tail.spells; all_names = tail.all_names; all_options = rw none tail.all_options; apart = record { owns = tail.apart.owns; each = tail.apart.each; why = rw none refl; trace = tail.apart.trace; nearest = tail.apart.nearest; edition = tail.apart.edition; filter = tail.apart.filter } }
    ]

trace_found : (front words : Words) (before : Options) (all : Gathering) → IsFound words → option_and_then (λ next. gather next words) (with_trace (having front before AnyWord)) ≡ Some all → Found front before (trace_word ∷ words) all
trace_found front words before all rest e =
    elim (cases_Bool before.trace) [
      | inl given ↦ let none : None ≡ Some all = rw given at e in absurd (cc)
      | inr none ↦
          let tail = rest front (record before { trace = true }) all (rw none at e) in
          record { options = record tail.options { trace = true }; names = tail.names; spells = traced tail.apart.trace tail.spells; all_names = tail.all_names; all_options = rw none tail.all_options; apart = record { owns = tail.apart.owns; each = tail.apart.each; why = tail.apart.why; trace = rw none refl; nearest = tail.apart.nearest; edition = tail.apart.edition; filter = tail.apart.filter } }
    ]

nearest_found : (front words : Words) (before : Options) (all : Gathering) → IsFoundNearest words → (given : Option ℕ) → before.nearest ≡ given → option_and_then (λ next. gather next words) (with_nearest (having front before AnyWord)) ≡ Some all → Found front before (nearest_word ∷ words) all
nearest_found front words before all rest (Some count) is e = let none : None ≡ Some all = rw is at e in absurd (cc)
nearest_found front words before all rest None is e =
    let said = rest front (record before { nearest = None }) all (rw is at e) in
    let tail = said.rest in
    let options : Options = record tail.options { nearest = Some said.count } in
    let spells : Spells options tail.names (nearest_word ∷ said.word ∷ said.tail) = by_nearest (none_beside tail.options.nearest tail.apart.nearest) said.says tail.spells in
    record { options = options; names = tail.names; spells = subst (λ (words : Words). Spells options tail.names (nearest_word ∷ words)) (sym said.words_are) spells; all_names = tail.all_names; all_options = rw is tail.all_options; apart = record { owns = tail.apart.owns; each = tail.apart.each; why = tail.apart.why; trace = tail.apart.trace; nearest = rw is refl; edition = tail.apart.edition; filter = tail.apart.filter } }

edition_found : (front words : Words) (before : Options) (all : Gathering) → IsFoundEdition words → (given : Option Edition) → before.edition ≡ given → option_and_then (λ next. gather next words) (with_edition (having front before AnyWord)) ≡ Some all → Found front before (edition_word ∷ words) all
edition_found front words before all rest (Some edition) is e = let none : None ≡ Some all = rw is at e in absurd (cc)
edition_found front words before all rest None is e =
    let said = rest front (record before { edition = None }) all (rw is at e) in
    let tail = said.rest in
    let options : Options = record tail.options { edition = Some said.edition } in
    let spells : Spells options tail.names (edition_word ∷ word_of_edition said.edition ∷ said.tail) = in_edition (none_beside tail.options.edition tail.apart.edition) tail.spells in
    record { options = options; names = tail.names; spells = subst (λ (words : Words). Spells options tail.names (edition_word ∷ words)) (sym said.words_are) spells; all_names = tail.all_names; all_options = rw is tail.all_options; apart = record { owns = tail.apart.owns; each = tail.apart.each; why = tail.apart.why; trace = tail.apart.trace; nearest = tail.apart.nearest; edition = rw is refl; filter = tail.apart.filter } }

filter_found : (front words : Words) (before : Options) (all : Gathering) → IsFoundFilter words → (given : Option (List ℕ)) → before.filter ≡ given → option_and_then (λ next. gather next words) (with_filter (having front before AnyWord)) ≡ Some all → Found front before (filter_word ∷ words) all
filter_found front words before all rest (Some expression) is e = let none : None ≡ Some all = rw is at e in absurd (cc)
filter_found front words before all rest None is e =
    let said = rest front (record before { filter = None }) all (rw is at e) in
    let tail = said.rest in
    let options : Options = record tail.options { filter = Some said.expression } in
    let spells : Spells options tail.names (filter_word ∷ said.expression ∷ said.tail) = by_filter (none_beside tail.options.filter tail.apart.filter) tail.spells in
    record { options = options; names = tail.names; spells = subst (λ (words : Words). Spells options tail.names (filter_word ∷ words)) (sym said.words_are) spells; all_names = tail.all_names; all_options = rw is tail.all_options; apart = record { owns = tail.apart.owns; each = tail.apart.each; why = tail.apart.why; trace = tail.apart.trace; nearest = tail.apart.nearest; edition = tail.apart.edition; filter = rw is refl } }

name_found : (front : Words) (word : List ℕ) (words : Words) (before : Options) (all : Gathering) → is_option word ≡ false → IsFound words → option_and_then (λ next. gather next words) (with_name word (having front before AnyWord)) ≡ Some all → Found front before (word ∷ words) all
name_found front word words before all plain rest e =
    elim (cases_Bool (nat_lt (length front) 2)) [
      | inl room ↦
          let tail = rest (front ++ word ∷ []) before all (rw room at e) in
          record { options = tail.options; names = word ∷ tail.names; spells = named plain tail.spells; all_names = tail.all_names ∙ append_assoc front (word ∷ []) tail.names; all_options = tail.all_options; apart = tail.apart }
      | inr full ↦ let none : None ≡ Some all = rw full at e in absurd (cc)
    ]

any_found : (word : List ℕ) (words : Words) → IsFound words → IsFoundNearest words → IsFoundEdition words → IsFoundFilter words → IsFound (word ∷ words)
any_found word words rest of_nearest of_edition of_filter front before all e =
    elim (cases_Bool (bytes_eq word end_word)) [
      | inl same ↦ as_known end_word same (end_found front words before all (rw same at e))
      | inr no_end ↦ elim (cases_Bool (bytes_eq word owns_word)) [
        | inl same ↦ as_known owns_word same (owns_found front words before all rest (rw (no_end, same) at e))
        | inr no_owns ↦ elim (cases_Bool (bytes_eq word each_word)) [
          | inl same ↦ as_known each_word same (each_found front words before all rest (rw (no_end, no_owns, same) at e))
          | inr no_each ↦ elim (cases_Bool (bytes_eq word why_word)) [
            | inl same ↦ as_known why_word same (why_found front words before all rest (rw (no_end, no_owns, no_each, same) at e))
            | inr no_why ↦ elim (cases_Bool (bytes_eq word trace_word)) [
              | inl same ↦ as_known trace_word same (trace_found front words before all rest (rw (no_end, no_owns, no_each, no_why, same) at e))
              | inr no_trace ↦ elim (cases_Bool (bytes_eq word nearest_word)) [
                | inl same ↦ as_known nearest_word same (nearest_found front words before all of_nearest before.nearest refl (rw (no_end, no_owns, no_each, no_why, no_trace, same) at e))
                | inr no_nearest ↦ elim (cases_Bool (bytes_eq word edition_word)) [
                  | inl same ↦ as_known edition_word same (edition_found front words before all of_edition before.edition refl (rw (no_end, no_owns, no_each, no_why, no_trace, no_nearest, same) at e))
                  | inr no_edition ↦ elim (cases_Bool (bytes_eq word filter_word)) [
                    | inl same ↦ as_known filter_word same (filter_found front words before all of_filter before.filter refl (rw (no_end, no_owns, no_each, no_why, no_trace, no_nearest, no_edition, same) at e))
                    | inr no_filter ↦ elim (cases_Bool (is_option word)) [
                      | inl option ↦ let none : None ≡ Some all = rw (no_end, no_owns, no_each, no_why, no_trace, no_nearest, no_edition, no_filter, option) at e in absurd (cc)
                      | inr plain ↦ name_found front word words before all plain rest (rw (no_end, no_owns, no_each, no_why, no_trace, no_nearest, no_edition, no_filter, plain) at e)
                    ]
                  ]
                ]
              ]
            ]
          ]
        ]
      ]
    ]
  where
    as_known : (known : List ℕ) → bytes_eq word known ≡ true → Found front before (known ∷ words) all → Found front before (word ∷ words) all
    as_known known same found =
        let is : word ≡ known = (bytes_eq-Decides word known).0 same in
        subst (λ (x : List ℕ). Found front before (x ∷ words) all) (sym is) found

count_found : (front : Words) (word : List ℕ) (words : Words) (before : Options) (said : Option ℕ) (all : Gathering) → number_of word ≡ said → IsFound words → option_and_then (λ next. gather next words) (option_map (λ count. having front (record before { nearest = Some count }) AnyWord) said) ≡ Some all → FoundNearest front before (word ∷ words) all
count_found front word words before None all is rest e = absurd (cc)
count_found front word words before (Some count) all is rest e =
    record { count = count; word = word; tail = words; words_are = refl; says = is; rest = rest front (record before { nearest = Some count }) all e }

said_found : (front : Words) (word : List ℕ) (words : Words) (before : Options) (said : Option Edition) (all : Gathering) → edition_of word ≡ said → IsFound words → option_and_then (λ next. gather next words) (option_map (λ edition. having front (record before { edition = Some edition }) AnyWord) said) ≡ Some all → FoundEdition front before (word ∷ words) all
said_found front word words before None all is rest e = absurd (cc)
said_found front word words before (Some edition) all is rest e =
    record { edition = edition; tail = words; words_are = ap (λ (x : List ℕ). x ∷ words) (word_said word edition is); rest = rest front (record before { edition = Some edition }) all e }

found : (words : Words) → IsFound words × IsFoundNearest words × IsFoundEdition words × IsFoundFilter words
found [] = (
  λ front before all e. record { options = no_options; names = []; spells = nothing; all_names = rw append-nil (cc); all_options = rw (joined_none before) (cc); apart = apart_none before },
  λ front before all e. absurd (cc),
  λ front before all e. absurd (cc),
  λ front before all e. absurd (cc),
)
found (word ∷ words) =
    let rest = found words in (
      any_found word words rest.0 rest.1 rest.2 rest.3,
      λ front before all e. count_found front word words before (number_of word) all refl rest.0 e,
      λ front before all e. said_found front word words before (edition_of word) all refl rest.0 e,
      λ front before all e. record { expression = word; tail = words; words_are = refl; rest = rest.0 front (record before { filter = Some word }) all e },
    )

-- ---- which rows they are

-- the words after `match`
match_rule_words : (asked : Asked) (rule file : List ℕ) (words : Words) (owns each why : Bool) (nearest : Option ℕ) → Spells (record no_options { owns = owns; each = each; why = why; nearest = nearest }) (rule ∷ file ∷ []) words → match_of (rule ∷ file ∷ []) (record no_options { owns = owns; each = each; why = why; nearest = nearest }) ≡ Some asked → IsRow asked (match_word ∷ words)
match_rule_words asked rule file words owns each why nearest spells e =
    elim (cases_Bool (each || is_none nearest)) [
      | inl fits ↦
          let some : Some (to_match rule file owns each why nearest) ≡ Some asked = rw fits at e in
          let is : to_match rule file owns each why nearest ≡ asked = cc in
          subst (λ (x : Asked). IsRow x (match_word ∷ words)) is (match_row fits spells)
      | inr not ↦ let none : None ≡ Some asked = rw not at e in absurd (cc)
    ]

match_words : (asked : Asked) (names words : Words) (owns each why trace : Bool) (nearest : Option ℕ) (edition : Option Edition) (filter : Option (List ℕ)) → Spells (record { owns = owns; each = each; why = why; trace = trace; nearest = nearest; edition = edition; filter = filter }) names words → match_of names (record { owns = owns; each = each; why = why; trace = trace; nearest = nearest; edition = edition; filter = filter }) ≡ Some asked → IsRow asked (match_word ∷ words)
match_words asked [] words owns each why trace nearest edition filter spells e = absurd (cc)
match_words asked (file ∷ []) words owns each why trace nearest edition None spells e = absurd (cc)
match_words asked (file ∷ []) words owns each why true nearest edition (Some expression) spells e = absurd (cc)
match_words asked (file ∷ []) words owns each why false nearest (Some edition) (Some expression) spells e = absurd (cc)
match_words asked (file ∷ []) words owns each why false (Some count) None (Some expression) spells e = absurd (cc)
match_words asked (file ∷ []) words owns each why false None None (Some expression) spells e =
    let is : to_match_filter expression file owns each why ≡ asked = cc in
    subst (λ (x : Asked). IsRow x (match_word ∷ words)) is (match_filter_row spells)
match_words asked (rule ∷ file ∷ []) words owns each why trace nearest edition (Some expression) spells e = absurd (cc)
match_words asked (rule ∷ file ∷ []) words owns each why true nearest edition None spells e = absurd (cc)
match_words asked (rule ∷ file ∷ []) words owns each why false nearest (Some edition) None spells e = absurd (cc)
match_words asked (rule ∷ file ∷ []) words owns each why false nearest None None spells e = match_rule_words asked rule file words owns each why nearest spells e
match_words asked (rule ∷ file ∷ other ∷ names) words owns each why trace nearest edition filter spells e = absurd (cc)

-- one word after `asm` or `check`
file_word : (make : List ℕ → Asked) (command : List ℕ) (asked : Asked) (names words : Words) (owns each why trace : Bool) (nearest : Option ℕ) (edition : Option Edition) (filter : Option (List ℕ)) → ((file : List ℕ) → Spells no_options (file ∷ []) words → IsRow (make file) (command ∷ words)) → Spells (record { owns = owns; each = each; why = why; trace = trace; nearest = nearest; edition = edition; filter = filter }) names words → option_map make (only_word names (record { owns = owns; each = each; why = why; trace = trace; nearest = nearest; edition = edition; filter = filter })) ≡ Some asked → IsRow asked (command ∷ words)
file_word make command asked names words true each why trace nearest edition filter row spells e = absurd (cc)
file_word make command asked names words false true why trace nearest edition filter row spells e = absurd (cc)
file_word make command asked names words false false true trace nearest edition filter row spells e = absurd (cc)
file_word make command asked names words false false false true nearest edition filter row spells e = absurd (cc)
file_word make command asked names words false false false false (Some count) edition filter row spells e = absurd (cc)
file_word make command asked names words false false false false None (Some edition) filter row spells e = absurd (cc)
file_word make command asked [] words false false false false None None filter row spells e = absurd (cc)
file_word make command asked (file ∷ []) words false false false false None None (Some expression) row spells e = absurd (cc)
file_word make command asked (file ∷ []) words false false false false None None None row spells e =
    let made : make file ≡ asked = cc in
    subst (λ (x : Asked). IsRow x (command ∷ words)) made (row file spells)
file_word make command asked (file ∷ other ∷ names) words false false false false None None filter row spells e = absurd (cc)

-- the words after `compile`
compile_words : (asked : Asked) (names words : Words) (owns each why trace : Bool) (nearest : Option ℕ) (edition : Option Edition) (filter : Option (List ℕ)) → Spells (record { owns = owns; each = each; why = why; trace = trace; nearest = nearest; edition = edition; filter = filter }) names words → compile_of names (record { owns = owns; each = each; why = why; trace = trace; nearest = nearest; edition = edition; filter = filter }) ≡ Some asked → IsRow asked (compile_word ∷ words)
compile_words asked names words true each why trace nearest edition filter spells e = absurd (cc)
compile_words asked names words false true why trace nearest edition filter spells e = absurd (cc)
compile_words asked names words false false true trace nearest edition filter spells e = absurd (cc)
compile_words asked names words false false false true nearest edition filter spells e = absurd (cc)
compile_words asked names words false false false false (Some count) edition filter spells e = absurd (cc)
compile_words asked names words false false false false None (Some edition) filter spells e = absurd (cc)
compile_words asked [] words false false false false None None None spells e = absurd (cc)
compile_words asked [] words false false false false None None (Some expression) spells e =
    let is : to_compile_filter expression ≡ asked = cc in
    subst (λ (x : Asked). IsRow x (compile_word ∷ words)) is (compile_filter_row spells)
compile_words asked (rule ∷ []) words false false false false None None (Some expression) spells e = absurd (cc)
compile_words asked (rule ∷ []) words false false false false None None None spells e =
    let is : to_compile rule ≡ asked = cc in
    subst (λ (x : Asked). IsRow x (compile_word ∷ words)) is (compile_row spells)
compile_words asked (rule ∷ other ∷ names) words false false false false None None filter spells e = absurd (cc)

-- two words after `run`, which aren't both standard input
run_files : (asked : Asked) (program file : List ℕ) (words : Words) (each trace : Bool) (edition : Option Edition) → Spells (record no_options { each = each; trace = trace; edition = edition }) (program ∷ file ∷ []) words → run_of (program ∷ file ∷ []) (record no_options { each = each; trace = trace; edition = edition }) ≡ Some asked → IsRow asked (run_word ∷ words)
run_files asked program file words each trace edition spells e =
    elim (cases_Bool (is_input program && is_input file)) [
      | inl both ↦ let none : None ≡ Some asked = rw both at e in absurd (cc)
      | inr one ↦
          let some : Some (to_run program file (unwrap_or edition One) each trace) ≡ Some asked = rw one at e in
          let is : to_run program file (unwrap_or edition One) each trace ≡ asked = cc in
          subst (λ (x : Asked). IsRow x (run_word ∷ words)) is (run_row one spells)
    ]

run_words : (asked : Asked) (names words : Words) (owns each why trace : Bool) (nearest : Option ℕ) (edition : Option Edition) (filter : Option (List ℕ)) → Spells (record { owns = owns; each = each; why = why; trace = trace; nearest = nearest; edition = edition; filter = filter }) names words → run_of names (record { owns = owns; each = each; why = why; trace = trace; nearest = nearest; edition = edition; filter = filter }) ≡ Some asked → IsRow asked (run_word ∷ words)
run_words asked [] words owns each why trace nearest edition filter spells e = absurd (cc)
run_words asked (program ∷ []) words owns each why trace nearest edition filter spells e = absurd (cc)
run_words asked (program ∷ file ∷ []) words owns each why trace nearest edition (Some expression) spells e = absurd (cc)
run_words asked (program ∷ file ∷ []) words true each why trace nearest edition None spells e = absurd (cc)
run_words asked (program ∷ file ∷ []) words false each true trace nearest edition None spells e = absurd (cc)
run_words asked (program ∷ file ∷ []) words false each false trace (Some count) edition None spells e = absurd (cc)
run_words asked (program ∷ file ∷ []) words false each false trace None edition None spells e = run_files asked program file words each trace edition spells e
run_words asked (program ∷ file ∷ other ∷ names) words owns each why trace nearest edition filter spells e = absurd (cc)

-- What is asked after a command is its row.
row_of_asked : (asked : Asked) (command : List ℕ) (words : Words) (all : Gathering) → Found [] no_options words all → asked_of command all ≡ Some asked → IsRow asked (command ∷ words)
row_of_asked asked command words all found e =
    let o = found.options in
    let gathered : asked_of command (having found.names found.options all.awaited) ≡ Some asked = rw (found.all_names, found.all_options) at e in
    elim (cases_Bool (bytes_eq command match_word)) [
      | inl same ↦ as_known match_word same (match_words asked found.names words o.owns o.each o.why o.trace o.nearest o.edition o.filter found.spells (rw same at gathered))
      | inr no_match ↦ elim (cases_Bool (bytes_eq command asm_word)) [
        | inl same ↦ as_known asm_word same (file_word to_asm asm_word asked found.names words o.owns o.each o.why o.trace o.nearest o.edition o.filter (λ file spells. asm_row spells) found.spells (rw (no_match, same) at gathered))
        | inr no_asm ↦ elim (cases_Bool (bytes_eq command check_word)) [
          | inl same ↦ as_known check_word same (file_word to_check check_word asked found.names words o.owns o.each o.why o.trace o.nearest o.edition o.filter (λ file spells. check_row spells) found.spells (rw (no_match, no_asm, same) at gathered))
          | inr no_check ↦ elim (cases_Bool (bytes_eq command compile_word)) [
            | inl same ↦ as_known compile_word same (compile_words asked found.names words o.owns o.each o.why o.trace o.nearest o.edition o.filter found.spells (rw (no_match, no_asm, no_check, same) at gathered))
            | inr no_compile ↦ elim (cases_Bool (bytes_eq command run_word)) [
              | inl same ↦ as_known run_word same (run_words asked found.names words o.owns o.each o.why o.trace o.nearest o.edition o.filter found.spells (rw (no_match, no_asm, no_check, no_compile, same) at gathered))
              | inr other ↦ let none : None ≡ Some asked = rw (no_match, no_asm, no_check, no_compile, other) at gathered in absurd (cc)
            ]
          ]
        ]
      ]
    ]
  where
    as_known : (known : List ℕ) → bytes_eq command known ≡ true → IsRow asked (known ∷ words) → IsRow asked (command ∷ words)
    as_known known same row =
        let is : command ≡ known = (bytes_eq-Decides command known).0 same in
        subst (λ (x : List ℕ). IsRow asked (x ∷ words)) (sym is) row

row_of_gathered : (asked : Asked) (command : List ℕ) (words : Words) (all : Option Gathering) → gather no_words words ≡ all → option_and_then (asked_of command) all ≡ Some asked → IsRow asked (command ∷ words)
row_of_gathered asked command words None is e = absurd (cc)
row_of_gathered asked command words (Some all) is e = row_of_asked asked command words all ((found words).0 [] no_options all is) e

-- What is read is a row.
pub row_of_read : (asked : Asked) (words : Words) → asked_in words ≡ Some asked → IsRow asked words
row_of_read asked [] e = absurd (cc)
row_of_read asked (word ∷ words) e = row_of_gathered asked word words (gather no_words words) refl e

-- the words of a row are gathered
gathered : {options : Options} {names words : Words} → Spells options names words → length names ≤ 2 → (awaited : Awaited) × (gather no_words words ≡ Some (having names options awaited))
gathered {options = options} {names = names} spells few = spelled spells [] no_options (omega (arith, few)) (apart_first options)

-- A row is read.
pub read_of_row : (asked : Asked) (words : Words) → IsRow asked words → asked_in words ≡ Some asked
read_of_row asked words (match_row fits spells) = let read = gathered spells (lit≤ tt) in rw (read.1, fits) refl
read_of_row asked words (match_filter_row spells) = let read = gathered spells (lit≤ tt) in rw read.1 refl
read_of_row asked words (asm_row spells) = let read = gathered spells (lit≤ tt) in rw read.1 refl
read_of_row asked words (check_row spells) = let read = gathered spells (lit≤ tt) in rw read.1 refl
read_of_row asked words (compile_row spells) = let read = gathered spells (lit≤ tt) in rw read.1 refl
read_of_row asked words (compile_filter_row spells) = let read = gathered spells (lit≤ tt) in rw read.1 refl
read_of_row asked words (run_row one spells) = let read = gathered spells (lit≤ tt) in rw (read.1, one) refl

-- What the code reads is a row.
pub row_of_code : (row : Option CommandRow) (words : Words) → option_map asked_by row ≡ asked_in words → IfSome row (λ (row : CommandRow). IsRow (asked_by row) words)
row_of_code None words e = tt
row_of_code (Some row) words e = row_of_read (asked_by row) words (sym e)
