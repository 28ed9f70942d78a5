-- How a peer leaves the bus (own).
use Rattle.std.specs.Prelude.{ℕ, zero, suc, ◌≡◌, ◌⊎◌, ◌<◌, Bool, true, false, List, codes, Option, Some, None, Result, Ok, Err}
use Rattle.std.specs.Result.{result_and}
use Rattle.outbox.specs.Seated.{OutboxId}
use Rattle.owners.specs.Registry.{max_claims}
use Rattle.router.specs.BusError.{BusError}
use Rattle.router.specs.BusError.TheVariants as errors
use Rattle.router.specs.Calls.{Once, Answers, HasNoClaim}
use Rattle.router.specs.Command.{Command}
use Rattle.router.specs.Command.TheVariants.{Close}
use Rattle.router.specs.NameCall.TheVariants.{DropOne}
use Rattle.router.specs.Passes.{PassState}
use Rattle.router.specs.Publication.{Publication}
use Rattle.router.specs.Reply.{Reply}
use Rattle.router.specs.Reply.TheVariants as replies
use Rattle.router.specs.Routes.{pass_written}
use Rattle.peers.specs.declared.error.AnswerError.{AnswerError}
use Rattle.peers.specs.declared.leaving.Farewell.{Farewell}
use Rattle.peers.specs.declared.leaving.Farewell.TheVariants.{Silent, Told}
use Rattle.peers.specs.declared.leaving.Giving.{Giving}
use Rattle.peers.specs.declared.leaving.Giving.TheVariants as givings
use Rattle.peers.specs.declared.leaving.Leaving.{Leaving}
use Rattle.peers.specs.declared.leaving.Leaving.TheVariants.{Done, Ended, Refused}
use Rattle.peers.specs.Announcements.{HasSignalled, TellsOwner, change_asked}
use Rattle.peers.specs.Calling.{AnswersCallers}
use Rattle.peers.specs.OwnerChanges.{ChangesOwner}
use Rattle.router.specs.Standing.TheVariants as standings
use Rattle.peers.specs.Passing.{HasSeenMore, with_pass}
use Rattle.peers.specs.PeerState.{PeerState, name_of}

-- what giving up a name comes to, by what the bus answered
abbrev pub giving_of : Result Reply BusError → Giving
giving_of (Ok (replies.Changed change)) = givings.Further
giving_of (Ok replies.Waiting) = givings.Further
giving_of (Ok _) = givings.Last
giving_of (Err errors.NoMemory) = givings.Refused
giving_of (Err _) = givings.Last

-- In what follows a result is what became of the messages that tell of the leaving: the first error of these, if there is one.
module _ {M : Type 0} where
  -- The peer has seen more. Then the pass gives up its claim on the least of its names, and a change of the owner is announced; or
  -- it has none in what it has seen.
  abbrev pub GivesUpName : (M → OutboxId) → PeerState M → Giving → Result (Unit {0}) AnswerError → PeerState M → Type 0
  GivesUpName outbox_of v giving announced w =
      (looked : PassState M) × HasSeenMore v.pass looked
      × (((asked : Result Reply BusError) × Once (λ before next. ChangesOwner outbox_of DropOne (with_pass v looked) before asked announced w next) × (giving ≡ giving_of asked))
      ⊎ ((giving ≡ givings.Last) × (announced ≡ Ok tt) × (w ≡ with_pass v looked) × HasNoClaim looked.connection looked.seen))

  -- one name more is given up after what was announced before
  abbrev pub GivesUpNext : (M → OutboxId) → Result (Unit {0}) AnswerError → PeerState M → Giving → Result (Unit {0}) AnswerError → PeerState M → Type 0
  GivesUpNext outbox_of before v giving announced w = (last : Result (Unit {0}) AnswerError) × GivesUpName outbox_of v giving last w × (announced ≡ result_and before last)

  -- this many names were given up, one after the other
  abbrev pub GivesUpNames : (M → OutboxId) → ℕ → PeerState M → Result (Unit {0}) AnswerError → PeerState M → Type 0
  GivesUpNames outbox_of zero v announced w = (announced ≡ Ok tt) × (w ≡ v)
  GivesUpNames outbox_of (suc n) v announced w =
      (mid : PeerState M) × (before : Result (Unit {0}) AnswerError) × GivesUpNames outbox_of n v before mid × GivesUpNext outbox_of before mid givings.Further announced w

  -- Names were given up until none was left, or the bus had ended. If not all were, memory was refused, or there were more
  -- than a bus has claims.
  abbrev pub AreGivenUp : (M → OutboxId) → Bool → PeerState M → Result (Unit {0}) AnswerError → PeerState M → Type 0
  AreGivenUp outbox_of true v announced w =
      (n : ℕ) × (mid : PeerState M) × (before : Result (Unit {0}) AnswerError) × GivesUpNames outbox_of n v before mid × GivesUpNext outbox_of before mid givings.Last announced w
  AreGivenUp outbox_of false v announced w =
      (n : ℕ) × (mid : PeerState M) × (before : Result (Unit {0}) AnswerError)
      × GivesUpNames outbox_of n v before mid × (GivesUpNext outbox_of before mid givings.Refused announced w ⊎ ((max_claims < n) × (announced ≡ before) × (w ≡ mid)))

  -- What closing the pass comes to after the farewell, by what the bus answered: that the client's own name is gone is announced,
  -- at the place of the command that closed it, which is the last of this history.
  abbrev pub IsClosing : (M → OutboxId) → List (Command M) → Result Reply BusError → Result (Unit {0}) AnswerError → PeerState M → Leaving → Result (Unit {0}) AnswerError → PeerState M → Type 0
  IsClosing outbox_of history (Ok _) lost v leaving told w =
      (leaving ≡ Done)
      × (gone : Result (Unit {0}) AnswerError) × HasSignalled standings.Last outbox_of history (change_asked v.serial (name_of v) (Some v.pass.connection) None) v gone w
      × (told ≡ result_and lost gone)
  IsClosing outbox_of history (Err errors.NoMemory) lost v leaving told w = (leaving ≡ Refused) × (told ≡ lost) × (w ≡ v)
  IsClosing outbox_of history (Err _) lost v leaving told w = (leaving ≡ Ended) × (told ≡ lost) × (w ≡ v)

  -- whom a farewell tells that the peer's unique name is lost
  abbrev pub told_by : Farewell → PeerState M → Option ℕ
  told_by Silent v = None
  told_by Told v = Some v.pass.connection

  -- The client is told by NameLost that its unique name is lost, if it is to be told, at the place of the next command; and by
  -- that command the pass is closed.
  abbrev pub ClosesAfter : (M → OutboxId) → Farewell → PeerState M → Publication M → Leaving → Result (Unit {0}) AnswerError → PeerState M → Publication M → Type 0
  ClosesAfter outbox_of farewell v before leaving told w next =
      (mid : PeerState M) × (lost : Result (Unit {0}) AnswerError) × (asked : Result Reply BusError) × (pass : PassState M)
      × TellsOwner standings.Next outbox_of before.history (codes "NameLost") (name_of v) (told_by farewell v) v lost mid
      × Answers true mid.pass before (Close mid.pass.connection) asked pass next
      × IsClosing outbox_of next.history asked lost (with_pass mid pass) leaving told w

  -- the pass is closed
  abbrev pub ClosesPass : (M → OutboxId) → Farewell → PeerState M → Leaving → Result (Unit {0}) AnswerError → PeerState M → Type 0
  ClosesPass outbox_of farewell v leaving told w = Once (λ before next. ClosesAfter outbox_of farewell v before leaving told w next)

  -- who waits for the replies of a client that is gone is told that none will come
  abbrev pub AnswersAfter : (M → OutboxId) → Leaving → Result (Unit {0}) AnswerError → PeerState M → Result (Unit {0}) AnswerError → PeerState M → Type 0
  AnswersAfter outbox_of Done announced v told w = (answered : Result (Unit {0}) AnswerError) × AnswersCallers outbox_of v answered w × (told ≡ result_and announced answered)
  AnswersAfter outbox_of Ended announced v told w = (told ≡ announced) × (w ≡ v)
  AnswersAfter outbox_of Refused announced v told w = (told ≡ announced) × (w ≡ v)

  abbrev pub Closes : (M → OutboxId) → Farewell → PeerState M → Leaving → Result (Unit {0}) AnswerError → PeerState M → Type 0
  Closes outbox_of farewell v leaving told w =
      (mid : PeerState M) × (announced : Result (Unit {0}) AnswerError) × ClosesPass outbox_of farewell v leaving announced mid × AnswersAfter outbox_of leaving announced mid told w

  -- the pass is closed only once no name is left
  abbrev pub ClosesIf : (M → OutboxId) → Bool → Farewell → Result (Unit {0}) AnswerError → PeerState M → Leaving → Result (Unit {0}) AnswerError → PeerState M → Type 0
  ClosesIf outbox_of true farewell announced v leaving told w = (closed : Result (Unit {0}) AnswerError) × Closes outbox_of farewell v leaving closed w × (told ≡ result_and announced closed)
  ClosesIf outbox_of false farewell announced v leaving told w = (leaving ≡ Refused) × (told ≡ announced) × (w ≡ v)

  -- A peer leaves: it gives up its names one after the other, each change announced, closes its pass after the farewell, announces
  -- that its own name is gone, and tells those who wait for its replies, in this order, and does nothing else.
  abbrev pub Departs : (M → OutboxId) → Farewell → PeerState M → Leaving → Result (Unit {0}) AnswerError → PeerState M → Type 0
  Departs outbox_of farewell v leaving told w =
      (cleared : Bool) × (mid : PeerState M) × (announced : Result (Unit {0}) AnswerError) × AreGivenUp outbox_of cleared v announced mid × ClosesIf outbox_of cleared farewell announced mid leaving told w

  -- That of a client that is gone leaves. Then nothing that it has put to others waits to be written out.
  abbrev pub Leaves : (M → OutboxId) → PeerState M → Leaving → Result (Unit {0}) AnswerError → PeerState M → Type 0
  Leaves outbox_of v leaving told w = (last : PeerState M) × Departs outbox_of Silent v leaving told last × (w ≡ with_pass last (pass_written last.pass))

  -- a peer that has left has closed its pass, or that is shut out
  abbrev pub HasLeft : Leaving → PeerState M → Type 0
  HasLeft Done w = w.pass.is_closed ≡ true
  HasLeft Ended w = w.pass.is_shut_out ≡ true
  HasLeft Refused w = Unit {0}
