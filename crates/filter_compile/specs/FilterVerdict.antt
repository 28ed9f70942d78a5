-- What is promised of a filter's text and a message's bytes (own).
use Rattle.std.specs.Prelude.{◌≡◌, ◌↔◌, ℕ, ◌<◌, ◌≤◌, Bool, List, Err}
use Rattle.message_view.specs.Message.{Message}
use Rattle.message_view.specs.Valid.{Valid}
use Rattle.filter.specs.FilterTree.{FilterTree}
use Rattle.filter.specs.Grammar.{ReadsAs}
use Rattle.filter.specs.Reading.{filter_at}
use Rattle.filter.specs.declared.error.FilterError.TheVariants as filter_errors
use Rattle.summary.specs.Sets.{IsSet}
use Rattle.filter_compile.specs.Compiled.{AgreeOn, IsRefusal}
use Rattle.filter_compile.specs.Holds.{FilterHolds}
use Rattle.filter_compile.specs.declared.verdict.VerdictError.{VerdictError}
use Rattle.filter_compile.specs.declared.verdict.VerdictError.TheVariants.{Filter, Program}

-- The text reads as a filter, the bytes spell a message, and the verdict is nonzero exactly where the filter holds of the
-- message, whichever names its sender owns, as far as the slots say so of the names that the filter asks for.
pub record DecidesFilter (text : List ℕ) (bytes slots : List ℕ) (verdict steps : ℕ) : Type 0 where
  pub filter : FilterTree
  pub reads : ReadsAs text filter
  pub message : Message
  pub valid : Valid bytes message
  pub within : steps ≤ 4096
  pub decides : (owned : List ℕ → Bool) → IsSet slots → AgreeOn filter owned slots → (0 < verdict) ↔ FilterHolds filter message owned

-- why a text has no verdict: its first fault, or what its filter isn't compiled for, or memory ran out
abbrev pub IsUndecided : List ℕ → VerdictError → Type 0
IsUndecided text (Filter filter_errors.NoMemory) = Unit {0}
IsUndecided text (Filter (filter_errors.Fault at)) = filter_at text ≡ Err at
IsUndecided text (Program error) = (filter : FilterTree) × ReadsAs text filter × IsRefusal filter error
