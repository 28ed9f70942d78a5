-- Inner: the marks of pieces, joined.
use Rattle.std.specs.Prelude.{◌≡◌, ◌↔◌, ◌⊎◌, ℕ, ◌≤◌, Bool, true, List, Option, Some, slice_get}
use Rattle.message_view.specs.Message.{Message}
use Rattle.message_view.specs.Valid.{Valid}
use Rattle.program_table.specs.State.{State}
use Rattle.program_table.specs.IsState.{IsState}
use Rattle.fan_out.specs.Marking.{AreMarkedRecipients}

-- a place is marked where it is in one or the other
pub record AreBoth (marks one other : List Bool) : Type 0 where
  pub exact : (k : ℕ) → (slice_get marks k ≡ Some true) ↔ ((slice_get one k ≡ Some true) ⊎ (slice_get other k ≡ Some true))

-- the marks of the pieces from `part` on, each as it was found, joined
pub record AreJoined (finds : ℕ → List Bool → Type 0) (part of : ℕ) (marks : List Bool) : Type 0 where
  pub pieces : ℕ → List Bool
  pub found : (p : ℕ) → part ≤ p → p ≤ of → finds p (pieces p)
  pub exact : (k : ℕ) → (slice_get marks k ≡ Some true) ↔ ((p : ℕ) × (part ≤ p) × (p ≤ of) × (slice_get (pieces p) k ≡ Some true))

-- the recipients of the message of these bytes are found in a piece
pub record FindsRecipients {M : Type 0} (s : State M) (sender : Option ℕ) (bytes : List ℕ) (of part : ℕ) (marks : List Bool) : Type 0 where
  pub state : IsState s
  pub exact : (m : Message) → Valid bytes m → AreMarkedRecipients s sender m part of marks
