-- The statuses that a server ends with (own).
use Rattle.std.specs.Prelude.{ℕ, [], ◌∷◌, Contains}

-- done, or one of the faults
abbrev pub IsStatus : ℕ → Type 0
IsStatus status = Contains (0 ∷ 3 ∷ 4 ∷ 5 ∷ []) status
