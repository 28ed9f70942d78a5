-- The lowered program of a filter, from what is known of the program before it was lowered.
use Rattle.std.proofs.Common.{◌≡◌, ◌↔◌, ℕ, ◌<◌, ◌≤◌, Bool, true, false, List, [], ◌∷◌, length, refl, sym, subst, inl, inr, ◌++◌, ap, ◌∙◌, arith}
use Rattle.std.specs.Prelude.{nat_lt, if◌then◌else◌}
use Rattle.std.proofs.lemmas.Bool.{ltb-false}
use Rattle.std.proofs.lemmas.List.{length-append, nil_from_length}
use Rattle.bpf_code.specs.declared.instruction.Ins.{Ins}
use Rattle.bpf_code.specs.Steps.{Ends, start}
use Rattle.bpf_machine.proofs.OneEnd.{ends_one}
use Rattle.message_view.specs.Message.{Message}
use Rattle.message_view.specs.Valid.{Valid}
use Rattle.summary.specs.declared.edition.Edition.TheVariants.{Two}
use Rattle.summary.specs.ImageBytes.{image_bytes}
use Rattle.summary.specs.Sets.{IsSet}
use Rattle.summary.proofs.ImageShows.{image_shows}
use Rattle.jump_islands.specs.declared.error.LowerError.{LowerError}
use Rattle.jump_islands.specs.declared.error.LowerError.TheVariants.{TooMany, NoMemory}
use Rattle.jump_islands.specs.Lowering.{IsTarget, IsTargetRefusal}
use Rattle.jump_islands.specs.PlainLength.{plain_length}
use Rattle.jump_islands.specs.Source.{jump_over}
use Rattle.rule_compile.proofs.Pieces.{RunsTo, Any}
use Rattle.rule_compile.proofs.Runs.{runs_returns}
use Rattle.rule_compile.specs.Code.{returns}
use Rattle.rule_compile.specs.RuleCode.{verdicts}
use Rattle.filter.specs.FilterTree.{FilterTree, FilterTrees, test, all, any, negation, no_filters, one_more}
use Rattle.filter.specs.Weights.{weight_of}
use Rattle.filter.specs.declared.test.Test.{Test}
use Rattle.filter_compile.specs.Compiled.{AgreeOn, IsCompiled, IsRefusal}
use Rattle.filter_compile.specs.EachTest.{Each, EachIn, HasBytes}
use Rattle.filter_compile.specs.FilterCode.{filter_code, from_entry, last_exits, program_code}
use Rattle.filter_compile.specs.Holds.{FilterHolds}
use Rattle.filter_compile.specs.Names.{names_of}
use Rattle.filter_compile.specs.Numbers.{error_of}
use Rattle.filter_compile.specs.Pieces.{over}
use Rattle.filter_compile.proofs.TwoExits.{LeadsAt, over_front}
use Rattle.filter_compile.proofs.Runs.{runs_jump}
use Rattle.filter_compile.proofs.NamesOf.{AsksIn, asks_its_names, slot_below, names_below}
use Rattle.filter_compile.proofs.TestRuns.{Slots, test_runs, extends_piece}
use Rattle.filter_compile.proofs.FilterRuns.{Chooses, filter_chooses}
use Rattle.filter_compile.proofs.ImageLength.{image_len}
use Rattle.filter_compile.proofs.ArgumentValues.{laid_lies}
use Rattle.message_value.specs.Fits.{max_levels}

-- ---- what is known of each test

mutual
  each_both : (P Q : Test → Type 0) (f : FilterTree) → Each P f → Each Q f → Each (λ t. P t × Q t) f
  each_both P Q (test t) p q = (p, q)
  each_both P Q (all fs) p q = among_both P Q fs p q
  each_both P Q (any fs) p q = among_both P Q fs p q
  each_both P Q (negation f) p q = each_both P Q f p q

  among_both : (P Q : Test → Type 0) (fs : FilterTrees) → EachIn P fs → EachIn Q fs → EachIn (λ t. P t × Q t) fs
  among_both P Q no_filters p q = tt
  among_both P Q (one_more f fs) p q = (each_both P Q f p.0 q.0, among_both P Q fs p.1 q.1)

-- ---- the program

-- what ends from the entry on does so as a program of its own
enters : (code : List Ins) (entry : ℕ) (image : List ℕ) (v : ℕ) → LeadsAt code entry image Any v → RunsTo (from_entry code entry) image 0 0 v
enters code entry image v l = go (nat_lt entry (length code)) refl
  where
    go : (later : Bool) → nat_lt entry (length code) ≡ later → RunsTo (if later then jump_over (over code entry) ∷ code else code) image 0 0 v
    go true is =
        let e = over_front code entry image Any v 0 0 l tt in
        subst (λ (more : List Ins). RunsTo (jump_over (over code entry) ∷ more) image 0 0 v) (sym l.is) (runs_jump l.front l.exit image (over code entry) 0 0 v e (l.leads 0 0 tt))
    go false is =
        let h = ltb-false entry (length code) is in
        let none : l.front ≡ [] = nil_from_length l.front (omega (arith, ap length l.is, length-append l.front l.exit, l.len, h)) in
        let same : code ≡ l.exit = l.is ∙ ap (λ (front : List Ins). front ++ l.exit) none in
        subst (λ (more : List Ins). RunsTo more image 0 0 v) (sym same) (l.leads 0 0 tt)

-- a match, and no match
match_leads : (image : List ℕ) → LeadsAt verdicts 2 image Any 1
match_leads image = record { front = []; exit = verdicts; is = refl; len = refl; leads = λ a x any. runs_returns (returns 0 ∷ []) image a x 1 }

no_match_leads : (image : List ℕ) → LeadsAt verdicts 1 image Any 0
no_match_leads image = record { front = returns 1 ∷ []; exit = returns 0 ∷ []; is = refl; len = refl; leads = λ a x any. runs_returns [] image a x 0 }

-- a program that chooses by a fact ends, with 1 where the fact holds and with 0 where it doesn't
verdict : (image : List ℕ) (P : Type 0) (names : List (List ℕ)) (f : FilterTree) → Chooses image P (filter_code names f) → (v : ℕ) × (n : ℕ) × Ends (program_code names f) image v n × ((0 < v) ↔ P)
verdict image P names f c =
    let entered = filter_code names f last_exits verdicts in
    elim c.decided [
      | inl p ↦ (let run = enters entered.code entered.entry image 1 (c.holds last_exits verdicts 1 (match_leads image) p) in (1, run.0, run.1, (λ _. p, λ _. omega arith)))
      | inr none ↦ (let run = enters entered.code entered.entry image 0 (c.fails last_exits verdicts 0 (no_match_leads image) none) in (0, run.0, run.1, (λ less. absurd (omega arith), λ p. absurd (none p))))
    ]

-- over the image of each message the program ends, with a verdict that is nonzero exactly where the filter holds
abbrev Decides : FilterTree → List Ins → Type 0
Decides f code =
    (bytes : List ℕ) (m : Message) (slots : List ℕ) (owned : List ℕ → Bool)
    → Valid bytes m
    → IsSet slots
    → AgreeOn f owned slots
    → (v : ℕ) × (n : ℕ) × Ends code (image_bytes Two m slots) v n × ((0 < v) ↔ FilterHolds f m owned)

filter_decides : (f : FilterTree) → Each HasBytes f → weight_of f ≤ 4096 → Decides f (program_code (names_of f) f)
filter_decides f are light bytes m slots owned valid set agree =
    let names = names_of f in
    let image : List ℕ = image_bytes Two m slots in
    let shows = image_shows Two bytes m slots valid set.size set.bits in
    let named : Slots names owned slots = record { agree = agree; small = λ name is. omega (arith, slot_below names name is, names_below f, light) } in
    let fits = each_both HasBytes (AsksIn names) f are (asks_its_names f) in
    let runs = test_runs image bytes m slots owned names valid shows (image_len m slots set.size) (λ o v laid. laid_lies m slots m.order max_levels o v set.size laid) named in
    verdict image (FilterHolds f m owned) names f (filter_chooses image names m owned (λ t. HasBytes t × AsksIn names t) (λ t fits. extends_piece names t) runs f fits)

-- so does the lowered program
pub compiled : (f : FilterTree) (program : List Ins) → Each HasBytes f → weight_of f ≤ 4096 → IsTarget (program_code (names_of f) f) program → IsCompiled f program
compiled f program are light lowered = λ bytes m slots owned v n valid set agree ends.
    let image = image_bytes Two m slots in
    let code = program_code (names_of f) f in
    let of_code = lowered.only image v n ends in
    let r = filter_decides f are light bytes m slots owned valid set agree in
    let one = ends_one code image v r.0 of_code.0 r.1 start of_code.1 r.2 in
    let Holding : ℕ → Type 0 = λ w. (0 < w) ↔ FilterHolds f m owned in
    subst Holding (sym one.0) r.3

-- a program that is refused weighs too much
pub refused : (f : FilterTree) (code : List Ins) (error : LowerError) → IsTargetRefusal code error → plain_length code ≤ weight_of f → IsRefusal f (error_of error)
refused f code TooMany many short = omega arith
refused f code NoMemory many short = tt
