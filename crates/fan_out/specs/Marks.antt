-- Inner: connections that are marked, by their places.
use Rattle.std.specs.Prelude.{◌≡◌, ℕ, ◌/◌, ◌%◌, ◌<◌, ◌≤◌, Bool, true, false, List, [], ◌∷◌, Some, count_by, slice_get, slice_set, if◌then◌else◌}

-- the number stands at a marked place
abbrev pub IsMarked : List ℕ → List Bool → ℕ → Type 0
IsMarked numbers marks n = (k : ℕ) × (slice_get numbers k ≡ Some n) × (slice_get marks k ≡ Some true)

-- the numbers at marked places, in their order
abbrev pub marked_numbers : List ℕ → List Bool → List ℕ
marked_numbers [] marks = []
marked_numbers (n ∷ ns) [] = []
marked_numbers (n ∷ ns) (mark ∷ marks) = if mark then n ∷ marked_numbers ns marks else marked_numbers ns marks

-- how many places are marked
abbrev pub mark_count : List Bool → ℕ
mark_count marks = count_by (λ mark. mark) marks

-- a row with a marked place is noted
abbrev pub AreInRows : List Bool → List Bool → Type 0
AreInRows marks rows = (k : ℕ) → slice_get marks k ≡ Some true → slice_get rows (k / 16) ≡ Some true

-- a marked place isn't below the first, and is below the second
abbrev pub AreWithin : List Bool → ℕ → ℕ → Type 0
AreWithin marks low high = (k : ℕ) → slice_get marks k ≡ Some true → (low ≤ k) × (k < high)

-- the remainders of the numbers at marked places are noted
abbrev pub AreNoted : List ℕ → List Bool → List Bool → Type 0
AreNoted numbers marks remainders =
    (k n : ℕ) → slice_get numbers k ≡ Some n → slice_get marks k ≡ Some true → slice_get remainders (n % 256) ≡ Some true

-- the number stands at no marked place
abbrev pub IsUnmarked : List ℕ → List Bool → ℕ → Type 0
IsUnmarked numbers marks n = (k : ℕ) → slice_get numbers k ≡ Some n → slice_get marks k ≡ Some false

-- the number's place is marked, and no other one more
pub record IsMarkedMore (numbers : List ℕ) (n : ℕ) (before after : List Bool) : Type 0 where
  pub place : ℕ
  pub stands : slice_get numbers place ≡ Some n
  pub marked : after ≡ slice_set before place true
