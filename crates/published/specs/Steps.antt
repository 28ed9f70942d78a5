-- Inner: the steps of the history, and what the writer's log holds.
use Rattle.std.specs.Prelude.{◌≡◌, ℕ, ◌==◌, ◌<◌, true, List, [], ◌∷◌, ◌++◌, length, MatchBool, fold, Option, Some, None}
use mathlib.Core.List.{IsPrefix}
use Rattle.logbook.specs.Pages.{Step, View, Book, Named}
use Rattle.program_table.specs.declared.command.Command.{Command}
use Rattle.program_table.specs.History.{IsHistory}

abbrev pub head_of : Book → Named
head_of b = record { tracked = true; key = 0; book = b }

module _ {M : Type 0} where
  -- ys begins with xs, and goes on
  abbrev pub IsLonger : List (Command M) → List (Command M) → Type 0
  IsLonger xs ys = IsPrefix xs ys × (length xs < length ys)

  -- the command was added to all that had been seen; or the history was longer, and was seen
  abbrev pub Adds : Step (Command M) → View (Command M) ℕ → ℕ → View (Command M) ℕ → Type 0
  Adds s v found w = MatchBool (found == s.old) ((w.0 ≡ v.0 ++ s.ask ∷ []) × IsHistory w.0) ((length w.0 ≡ found) × IsHistory w.0)

  -- what is published begins with what had been seen, and is seen then
  abbrev pub Shows : List (Command M) → List (Command M) → List (Command M) → List (Command M) → Type 0
  Shows seen before published after = IsPrefix seen published × (after ≡ published)

  -- the history ends with the command, if there is one
  abbrev pub EndsWith : List (Command M) → Option (Command M) → Type 0
  EndsWith history None = Unit {0}
  EndsWith history (Some command) = (before : List (Command M)) × (history ≡ before ++ command ∷ [])

  -- the last of these histories begins with the first one
  abbrev pub Continues : List (Command M) → List (List (Command M)) → Type 0
  Continues history later = IsPrefix history (fold (λ (before after : List (Command M)). after) history later)
