-- Inner: lists of what belongs to connections, by the connections' numbers.
use Rattle.std.specs.Prelude.{ℕ, ◌≡◌, ◌<◌, ◌≤◌, ◌==◌, Bool, List, length, map, slice_index_or}
use Rattle.routing.specs.SenderView.{RecipientSeatView}
use Rattle.routing.specs.RecipientSeats.{RisesFrom}
use Rattle.routing.specs.Turns.{TurnView}

abbrev pub bears : {X : Type 0} → (X → ℕ) → ℕ → X → Bool
bears number n x = number x == n

-- each number is above the one before it
abbrev pub AreRising : {X : Type 0} → (X → ℕ) → List X → Type 0
AreRising number xs = RisesFrom 0 (map number xs)

-- what stands at the place bears the number
pub record IsAt {X : Type 0} (number : X → ℕ) (n : ℕ) (xs : List X) (k : ℕ) : Type 0 where
  pub inside : k < length xs
  pub here : (d : X) → number (slice_index_or xs k d) ≡ n

-- the numbers before the place are lower, and those from it on are greater
pub record IsGap {X : Type 0} (number : X → ℕ) (n : ℕ) (xs : List X) (k : ℕ) : Type 0 where
  pub inside : k ≤ length xs
  pub below : (i : ℕ) (d : X) → i < k → number (slice_index_or xs i d) < n
  pub above : (i : ℕ) (d : X) → k ≤ i → i < length xs → n < number (slice_index_or xs i d)

abbrev pub recipient_of : RecipientSeatView → ℕ
recipient_of s = s.recipient

abbrev pub SeatsRise : List RecipientSeatView → Type 0
SeatsRise recipient_seats = AreRising recipient_of recipient_seats

abbrev pub connection_of : TurnView → ℕ
connection_of t = t.number

abbrev pub TurnsRise : List TurnView → Type 0
TurnsRise turns = AreRising connection_of turns
