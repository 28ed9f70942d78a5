-- The exchange that adds a command keeps the rule.
use Rattle.std.proofs.Common.{◌≡◌, ℕ, ◌+◌, ◌<◌, ◌==◌, Bool, true, false, List, [], ◌∷◌, ◌++◌, length, refl, ap, sym, subst, arith, inl, length-append, None}
use Rattle.std.proofs.lemmas.List.{append-nil}
use Rattle.std.proofs.lemmas.Bool.Decides.{nat_tests}
use mathlib.Core.List.{IsPrefix}
use prog.Atomic.{either}
use Rattle.logbook.specs.Pages.{Cell, cell, keeps, no_nib, step, Moves, Goes}
use Rattle.program_table.specs.declared.command.Command.{Command}
use Rattle.program_table.specs.Does.{is_accepted}
use Rattle.program_table.specs.History.{after, IsHistory}
use Rattle.published.proofs.Histories.{history-push}
use Rattle.published.specs.HistoryRule.{IsKept}
use Rattle.published.specs.Steps.{Adds}
use Rattle.published.proofs.Fronts.{prefix_whole}

module _ {M : Type 0} where
  abbrev pub shows_none : List (Command M) → List (Command M)
  shows_none log = []

  abbrev pub moves_any : List (Command M) → List (Command M) → ℕ → Type 0
  moves_any xs ys n = Unit {0}

  pub adds_goes : (log v : List (Command M)) (e : Command M) (old : ℕ) → length v ≡ old → is_accepted (after v) e ≡ true → IsHistory log → IsPrefix v log
      → (b : Bool) → (length log == old) ≡ b
      → Goes IsKept shows_none moves_any 0 (v, (no_nib, None)) (λ n. either (n == old) (old + 1) n) (Adds (step 0 old (old + 1) e) (v, (no_nib, None))) ((length log, true) ∷ (0, true) ∷ []) log
  adds_goes log v e old len may legal pre true is =
      let here : length log ≡ old = grind (arith, nat_tests) in
      let same : v ≡ log = prefix_whole v log pre (omega arith) in
      let may' : is_accepted (after log) e ≡ true = subst (λ (l : List (Command M)). is_accepted (after l) e ≡ true) same may in
      let legal' : IsHistory (log ++ e ∷ []) = history-push log e legal may' in
      let n : either (length log == old) (old + 1) (length log) ≡ length (log ++ e ∷ []) = rw is (omega (arith, length-append log (e ∷ []))) in (
        keeps,
        e ∷ [],
        None,
        tt,
        record { words = ap (λ (k : ℕ). (k, true) ∷ (0, true) ∷ []) n; accepted = legal' },
        inl (refl, refl),
        rw is (ap (λ w. w ++ e ∷ []) (sym same), legal'),
      )
  adds_goes log v e old len may legal pre false is =
      let all : log ++ [] ≡ log = append-nil log in
      let legal' : IsHistory (log ++ []) = subst IsHistory (sym all) legal in
      let n : either (length log == old) (old + 1) (length log) ≡ length (log ++ []) = rw is (ap length (sym all)) in (
        keeps,
        [],
        None,
        tt,
        record { words = ap (λ (k : ℕ). (k, true) ∷ (0, true) ∷ []) n; accepted = legal' },
        inl (refl, refl),
        rw is (ap length all, legal'),
      )

  -- whatever the history is, the exchange adds the command to all that was seen, or finds that it is longer
  pub adds_moves : (v : List (Command M)) (e : Command M) (old : ℕ) → length v ≡ old → is_accepted (after v) e ≡ true
      → Moves IsKept shows_none moves_any 0 (v, (no_nib, None)) (λ n. either (n == old) (old + 1) n) (Adds (step 0 old (old + 1) e) (v, (no_nib, None)))
  adds_moves v e old len may cs log kept pre away =
      let P : List Cell → Type 0 = λ c. (0 < length c) × ((cell c 0).1 ≡ true) × Goes IsKept shows_none moves_any 0 (v, (no_nib, None)) (λ n. either (n == old) (old + 1) n) (Adds (step 0 old (old + 1) e) (v, (no_nib, None))) c log in
      subst P (sym kept.words) (omega arith, refl, adds_goes log v e old len may kept.accepted pre (length log == old) refl)
