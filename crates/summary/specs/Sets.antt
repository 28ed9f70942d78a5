-- Sets of slots (own).
use Rattle.std.specs.Prelude.{◌≡◌, ℕ, ◌/◌, ◌%◌, ◌^◌, ◌<◌, Bool, ◌==◌, List, length, slice_index}
use Rattle.std.specs.Int.{bit_at}

-- slot s is bit s mod 32 of word s / 32
abbrev pub has_slot : List ℕ → ℕ → Bool
has_slot words slot = bit_at (slice_index words (slot / 32)) (slot % 32) == 1

-- the words of some set: 32 of 32 bits each
pub record IsSet (words : List ℕ) : Type 0 where
  pub size : length words ≡ 32
  pub bits : (i : ℕ) → slice_index words i < 2 ^ 32
