-- Jobs: broadcasts that began and have not ended (own). A job is nothing but the place of its Begin among all
-- events, from 0.
use Rattle.std.specs.Prelude.{◌≡◌, ℕ, ◌+◌, ◌-◌, ◌%◌, ◌==◌, ◌&&◌, not, nat_le, Bool, true, false, List, filter, take, drop, slice_get, Option, Some, None}
use Rattle.std.specs.List.{list_any}
use Rattle.message_view.specs.Message.{Message}
use Rattle.message_view.specs.Valid.{Valid}
use Rattle.program_table.specs.Recipients.{AreRecipients}
use Rattle.world.specs.declared.event.Event.{Event}
use Rattle.world.specs.declared.event.Event.TheVariants.{Command, Begin, Piece, End}
use Rattle.world.specs.Histories.{state_after}

-- how many parts the recipients of a job are divided into
abbrev pub parts : ℕ
parts = 16

-- the events before a job's Begin
abbrev pub events_before : ℕ → List Event → List Event
events_before job all = take job all

-- the events after a job's Begin
abbrev pub events_since : ℕ → List Event → List Event
events_since job all = drop (job + 1) all

-- the event is a Begin of the sender, with the bytes of the message
abbrev pub Begins : Option ℕ → Message → Option Event → Type 0
Begins sender m (Some (Begin from bytes)) = (from ≡ sender) × Valid bytes.items m
Begins sender m (Some (Command command)) = ⊥
Begins sender m (Some (Piece job part)) = ⊥
Begins sender m (Some (End job)) = ⊥
Begins sender m None = ⊥

abbrev pub is_end_of : ℕ → Event → Bool
is_end_of job (End other) = other == job
is_end_of job _ = false

abbrev pub is_piece_of : ℕ → ℕ → Event → Bool
is_piece_of job part (Piece other asked) = other == job && asked == part
is_piece_of job part _ = false

-- a broadcast of the message began there, and there was no End of it since
pub record IsOpen (all : List Event) (job : ℕ) (sender : Option ℕ) (m : Message) : Type 0 where
  pub begun : Begins sender m (slice_get all job)
  pub not_ended : list_any (is_end_of job) (events_since job all) ≡ false

-- no job is open there
abbrev pub IsClosed : List Event → ℕ → Type 0
IsClosed all job = (sender : Option ℕ) (m : Message) → ¬ (IsOpen all job sender m)

-- the recipients of an open job: those of the state before its Begin
pub record AreRecipientsOf (all : List Event) (job : ℕ) (numbers : List ℕ) : Type 0 where
  pub sender : Option ℕ
  pub message : Message
  pub is_open : IsOpen all job sender message
  pub recipients : AreRecipients (state_after (events_before job all)) sender message numbers

-- there is such a part, and no Piece asked for it since the job's Begin
abbrev pub is_free : List Event → ℕ → ℕ → Bool
is_free all job part = nat_le 1 part && nat_le part parts && not (list_any (is_piece_of job part) (events_since job all))

-- the numbers in a part
abbrev pub in_part : ℕ → List ℕ → List ℕ
in_part part numbers = filter (λ n. n % parts == part - 1) numbers

-- the recipients of an open job in a part that is free
pub record AreRecipientsIn (all : List Event) (job part : ℕ) (numbers : List ℕ) : Type 0 where
  pub free : is_free all job part ≡ true
  pub whole : List ℕ
  pub recipients : AreRecipientsOf all job whole
  pub in_it : numbers ≡ in_part part whole
