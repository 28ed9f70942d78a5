-- How long calls took, in classes of times (own).
use Rattle.std.specs.Prelude.{◌≡◌, ℕ, ◌+◌, ◌-◌, ◌*◌, ◌/◌, ◌^◌, ◌<◌, ◌≤◌, min, max, nat_le, List, [], ◌∷◌, ◌++◌, length, slice_index_or, slice_set, replicate, if◌then◌else◌}
use Rattle.traffic.specs.declared.times.Class.{Class}

-- the classes, from the shortest times on, and how many times there are
pub record TimesInClasses : Type 0 where
  pub classes : List Class
  pub total : ℕ

abbrev pub no_times : TimesInClasses
no_times = record { classes = []; total = 0 }

-- the class of a time in microseconds: 0 has the first; from 2 ^ k to twice that each sixteenth of it has one, and each time below
-- 16 its own
pub data IsClass : ℕ → ℕ → Type 0 where
  none : (time : ℕ) → time ≡ 0 → IsClass time 0
  part : (time k class : ℕ) → 2 ^ k ≤ time → time < 2 * 2 ^ k → class ≡ (k - 4) * 16 + min (time / 2 ^ (k - 4)) 31 → IsClass time class

abbrev pub empty_class : Class
empty_class = record { count = 0; longest = 0 }

-- a class with one time more
abbrev pub with_one : ℕ → Class → Class
with_one time class = record { count = min (class.count + 1) (2 ^ 64 - 1); longest = max class.longest time }

-- the classes, and empty ones up to a place
abbrev pub reaching : ℕ → List Class → List Class
reaching place classes = classes ++ replicate (place + 1 - length classes) empty_class

-- a time in its class
abbrev pub put_at : ℕ → ℕ → List Class → List Class
put_at place time classes = slice_set classes place (with_one time (slice_index_or classes place empty_class))

abbrev pub with_time : ℕ → ℕ → TimesInClasses → TimesInClasses
with_time place time times = record { classes = put_at place time (reaching place times.classes); total = min (times.total + 1) (2 ^ 64 - 1) }

-- the longest time of the first class up to which there are that many times
abbrev pub at_rank : ℕ → List Class → ℕ
at_rank rank [] = 0
at_rank rank (class ∷ later) = if nat_le rank class.count then class.longest else at_rank (rank - class.count) later
