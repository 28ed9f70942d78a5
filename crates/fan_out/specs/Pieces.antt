-- Recipients in pieces (own). Connections are shared out by the remainders of their numbers.
use Rattle.std.specs.Prelude.{◌≡◌, ◌↔◌, ℕ, ◌-◌, ◌%◌, List, Option, Contains}
use Rattle.std.specs.List.Sorted.{IsStrictlyIncreasing}
use Rattle.message_view.specs.Message.{Message}
use Rattle.program_table.specs.State.{State}
use Rattle.program_table.specs.Recipients.{IsRecipient}

-- the connection of this number is in piece `part`, counted from 1, of `of` pieces
abbrev pub IsInPiece : ℕ → ℕ → ℕ → Type 0
IsInPiece part of n = n % of ≡ part - 1

-- exactly the recipients in the piece, by rising number
pub record ArePieceRecipients {M : Type 0} (s : State M) (sender : Option ℕ) (m : Message) (part of : ℕ) (numbers : List ℕ) : Type 0 where
  pub rising : IsStrictlyIncreasing numbers
  pub exact : (n : ℕ) → Contains numbers n ↔ (IsRecipient s sender m n × IsInPiece part of n)
