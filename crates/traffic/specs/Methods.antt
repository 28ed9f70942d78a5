-- What is counted of the calls of a method (own).
use Rattle.std.specs.Prelude.{◌≡◌, ℕ, ◌+◌, ◌-◌, ◌^◌, ◌/◌, min}
use Rattle.traffic.specs.Times.{TimesInClasses, IsClass, no_times, with_time}
use Rattle.traffic.specs.declared.methods.Outcome.{Outcome}
use Rattle.traffic.specs.declared.methods.Outcome.TheVariants.{Returned, Failed, Unanswered, OneWay}
use Rattle.traffic.specs.declared.methods.MethodCounts.{MethodCounts}

abbrev pub no_calls : MethodCounts
no_calls = record { calls = 0; errors = 0; unanswered = 0; times = no_times }

-- one more, as far as a word of 64 bits counts
abbrev pub one_more : ℕ → ℕ
one_more n = min (n + 1) (2 ^ 64 - 1)

-- the times after a call: with the one that its answer took, if there was an answer
abbrev pub TimesAfter : Outcome → TimesInClasses → TimesInClasses → Type 0
TimesAfter (Returned time) before after = (class : ℕ) × IsClass (time / 1000) class × (after ≡ with_time class time before)
TimesAfter (Failed time) before after = (class : ℕ) × IsClass (time / 1000) class × (after ≡ with_time class time before)
TimesAfter Unanswered before after = after ≡ before
TimesAfter OneWay before after = after ≡ before

abbrev pub errors_after : Outcome → ℕ → ℕ
errors_after (Failed time) n = one_more n
errors_after _ n = n

abbrev pub unanswered_after : Outcome → ℕ → ℕ
unanswered_after Unanswered n = one_more n
unanswered_after _ n = n

-- the counts before and after a call
pub record Counts (outcome : Outcome) (before after : MethodCounts) : Type 0 where
  pub calls : after.calls ≡ one_more before.calls
  pub errors : after.errors ≡ errors_after outcome before.errors
  pub unanswered : after.unanswered ≡ unanswered_after outcome before.unanswered
  pub times : TimesAfter outcome before.times after.times
