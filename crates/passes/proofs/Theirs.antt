-- That a pass's seats and the turns under the lock are at the outboxes of the connections whose numbers they have.
use Rattle.std.proofs.Common.{◌≡◌, ◌⊎◌, inl, inr, ℕ, ◌+◌, ◌<◌, ◌≤◌, ◌==◌, Bool, true, false, true≢false, cond, List, [], ◌∷◌, ◌++◌, Option, Some, None, IfSome, IsSomeAnd, option_map, refl, sym, ap, subst, ◌∙◌, arith, eq-eqb, eqb-true, ne_eqb}
use Rattle.std.specs.Prelude.{is_some, if◌then◌else◌, Result, Ok, Err, IfOk, MatchOption}
use Rattle.std.specs.Global.{Global}
use mathlib.Core.List.{IsPrefix}
use Rattle.crossbeam_queue.specs.SegTies.{SegId}
use Rattle.outbox.specs.Seated.{OutboxId}
use Rattle.program_table.specs.declared.command.Command.{Command}
use Rattle.program_table.specs.declared.command.Command.TheVariants.{Connect, Close}
use Rattle.program_table.specs.declared.connection.Connection.{Connection}
use Rattle.program_table.specs.Connections.{connection_of, is_connected, mailbox_of}
use Rattle.program_table.specs.Does.{is_accepted}
use Rattle.program_table.specs.History.{after, IsHistory}
use Rattle.program_table.specs.State.{State}
use Rattle.program_table.specs.declared.command.Reply.{Reply}
use Rattle.published.specs.Publication.{Publication}
use Rattle.routing.specs.SenderView.{RecipientSeatView, SenderView}
use Rattle.routing.specs.RecipientSeats.{seat_at, outbox_at, outbox_id, written, all_written, is_in, HasSeat, Keeps}
use Rattle.routing.specs.Turns.{TurnView, TurnsView, queue_at, HasTurn, StandsAt, MayStand, KeepsTurns}
use Rattle.routing.proofs.Routes.{written_at}
use Rattle.passes.specs.declared.error.BusError.{BusError}
use Rattle.passes.specs.Mailboxes.{mailbox_given}
use Rattle.passes.specs.NameOwners.{IsOwner}
use Rattle.passes.specs.Passes.{PassState}
use Rattle.passes.specs.Routes.{IsOutboxOf}
use Rattle.passes.specs.Seats.{KeepsThere}
use Rattle.passes.specs.Calls.{Answers}
use Rattle.passes.specs.Theirs.{IsGiven, AreTheirs, HaveTurns, keeps_connections}
use Rattle.passes.proofs.Seats.{kept}
use Rattle.passes.proofs.Mailboxes.{given_later, given_there, none_above, mailbox_kept, mailbox_joined, mailbox_closed}

written_outbox : (o : Option RecipientSeatView) → outbox_id (option_map written o) ≡ outbox_id o
written_outbox None = refl
written_outbox (Some s) = refl

stands : (place : Option ℕ) (n : ℕ) (recipient_seats : List RecipientSeatView) (turns : TurnsView) → IfSome place (λ p. p ≡ turns.latest) → HasTurn n recipient_seats turns → StandsAt place n recipient_seats turns
stands None n recipient_seats turns at has = tt
stands (Some p) n recipient_seats turns at has = (at, has)

module _ {M : Type 0} where
  -- the queue of a mailbox's outbox
  abbrev queue_of : (M → OutboxId) → M → SegId Global
  queue_of outbox_of m = (outbox_of m).queue

  given_still : (outbox_of : M → OutboxId) (old new : List (Command M)) (n : ℕ) (outbox : OutboxId) → IsPrefix old new → IsGiven outbox_of old n outbox → IsGiven outbox_of new n outbox
  given_still outbox_of old new n outbox begins h = go (mailbox_given old n) refl h
    where
      P : Option M → Type 0
      P o = IsSomeAnd o (λ m. outbox_of m ≡ outbox)

      go : (o : Option M) → mailbox_given old n ≡ o → P o → IsGiven outbox_of new n outbox
      go None e h = absurd h
      go (Some m) e h = subst P (sym (given_later old new n m begins e)) h

  -- what was given stays given
  pub theirs_later : (outbox_of : M → OutboxId) (old new : List (Command M)) (recipient_seats : List RecipientSeatView) → IsPrefix old new → AreTheirs outbox_of old recipient_seats → AreTheirs outbox_of new recipient_seats
  theirs_later outbox_of old new recipient_seats begins h n outbox e = given_still outbox_of old new n outbox begins (h n outbox e)

  pub theirs_none : (outbox_of : M → OutboxId) (seen : List (Command M)) → AreTheirs outbox_of seen []
  theirs_none outbox_of seen n outbox e = absurd (cc)

  pub theirs_written : (outbox_of : M → OutboxId) (seen : List (Command M)) (recipient_seats : List RecipientSeatView) → AreTheirs outbox_of seen recipient_seats → AreTheirs outbox_of seen (all_written recipient_seats)
  theirs_written outbox_of seen recipient_seats h n outbox e =
      h n outbox (sym (ap outbox_id (written_at n recipient_seats) ∙ written_outbox (seat_at n recipient_seats)) ∙ e)

  -- a connection that is there was given its outbox
  given_outbox : (outbox_of : M → OutboxId) (l : List (Command M)) (n : ℕ) (outbox : OutboxId) → IsHistory l → IsOutboxOf outbox_of (after l) n outbox → IsGiven outbox_of l n outbox
  given_outbox outbox_of l n outbox legal (m, there, is) =
      let P : Option M → Type 0 = λ o. IsSomeAnd o (λ m. outbox_of m ≡ outbox) in
      subst P (sym (given_there l n m legal there)) is

  -- seats that are kept or taken anew of those that are there
  pub theirs_kept : (outbox_of : M → OutboxId) (l : List (Command M)) (s : State M) (old new : SenderView) → IsHistory l → s ≡ after l → KeepsThere outbox_of s old new → AreTheirs outbox_of l old.recipient_seats → AreTheirs outbox_of l new.recipient_seats
  theirs_kept outbox_of l s old new legal is keeps h n outbox e = pick (keeps.theirs n outbox e)
    where
      pick : (outbox_at n old.recipient_seats ≡ Some outbox) ⊎ IsOutboxOf outbox_of s n outbox → IsGiven outbox_of l n outbox
      pick (inl k) = h n outbox k
      pick (inr k) = let P : State M → Type 0 = λ x. IsOutboxOf outbox_of x n outbox in given_outbox outbox_of l n outbox legal (subst P is k)

  its_mailbox : (n : ℕ) (connections : List (Connection M)) → is_connected n connections ≡ true → (m : M) × (mailbox_of n connections ≡ Some m)
  its_mailbox n connections e = go (connection_of n connections) refl e
    where
      go : (o : Option (Connection M)) → connection_of n connections ≡ o → is_some o ≡ true → (m : M) × (mailbox_of n connections ≡ Some m)
      go None at is = absurd (true≢false (sym is))
      go (Some c) at is = (c.mailbox, ap (λ (o : Option (Connection M)). option_map (λ (c : Connection M). c.mailbox) o) at)

  -- the seat at the outbox of a connection that is there has its turn
  pub have_turn : (outbox_of : M → OutboxId) (l : List (Command M)) (n : ℕ) (recipient_seats : List RecipientSeatView) (turns : TurnsView) → IsHistory l → is_connected n (after l).connections ≡ true
      → AreTheirs outbox_of l recipient_seats → HaveTurns outbox_of l turns.turns → HasTurn n recipient_seats turns
  have_turn outbox_of l n recipient_seats turns legal there theirs have = go (seat_at n recipient_seats) refl
    where
      its : (m : M) × (mailbox_of n (after l).connections ≡ Some m)
      its = its_mailbox n (after l).connections there

      given : (outbox : OutboxId) → IsGiven outbox_of l n outbox → outbox_of its.0 ≡ outbox
      given outbox h = let P : Option M → Type 0 = λ o. IsSomeAnd o (λ m. outbox_of m ≡ outbox) in subst P (given_there l n its.0 legal its.1) h

      go : (o : Option RecipientSeatView) → seat_at n recipient_seats ≡ o → IfSome o (λ s. queue_at n turns.turns ≡ Some s.outbox.queue)
      go None e = tt
      go (Some s) e = have n ∙ ap (option_map (queue_of outbox_of)) its.1 ∙ ap (λ (x : OutboxId). Some x.queue) (given s.outbox (theirs n s.outbox (ap outbox_id e)))

  -- the turns of the outboxes stay those of the connections that are there
  pub turns_alike : (outbox_of : M → OutboxId) (l : List (Command M)) (old new : List TurnView) → ((n : ℕ) → queue_at n new ≡ queue_at n old) → HaveTurns outbox_of l old → HaveTurns outbox_of l new
  turns_alike outbox_of l old new same have n = same n ∙ have n

  pub turns_none : (outbox_of : M → OutboxId) → HaveTurns outbox_of [] []
  turns_none outbox_of n = refl

  -- a number that wasn't given yet has no turn
  pub no_turn : (outbox_of : M → OutboxId) (l : List (Command M)) (n : ℕ) (turns : List TurnView) → IsHistory l → (after l).last_connection < n → HaveTurns outbox_of l turns → queue_at n turns ≡ None
  no_turn outbox_of l n turns legal above have = have n ∙ ap (option_map (queue_of outbox_of)) (none_above l n legal above)

  -- what is refused changes no turn
  pub turns_stay : (outbox_of : M → OutboxId) (v w : PassState M) (before next : Publication M) (command : Command M) (error : BusError) (turns : List TurnView) → Answers false v before command (Err error) w next
      → HaveTurns outbox_of before.history turns → HaveTurns outbox_of next.history turns
  turns_stay outbox_of v w before next command error turns answers have =
      let P : List (Command M) → Type 0 = λ x. HaveTurns outbox_of x turns in
      subst P (sym (elim answers [ inl refused ↦ refused.0.published | inr closed ↦ closed.0.published ])) have

  -- nor does what makes no connection and closes none
  pub turns_next : (outbox_of : M → OutboxId) (v w : PassState M) (before next : Publication M) (command : Command M) (result : Result Reply BusError) (turns : List TurnView) → keeps_connections command ≡ true
      → Answers false v before command result w next → HaveTurns outbox_of before.history turns → HaveTurns outbox_of next.history turns
  turns_next outbox_of v w before next command (Ok reply) turns keeps answers have =
      let P : List (Command M) → Type 0 = λ x. HaveTurns outbox_of x turns in
      subst P (sym answers.0.published) (λ n. have n ∙ ap (option_map (queue_of outbox_of)) (sym (mailbox_kept before.history command n answers.0.accepted keeps)))
  turns_next outbox_of v w before next command (Err error) turns keeps answers have = turns_stay outbox_of v w before next command error turns answers have

  -- a connection is made, whose turn is kept
  pub turns_joined : (outbox_of : M → OutboxId) (l : List (Command M)) (mailbox : M) (number : ℕ) (queue : SegId Global) (old new : List TurnView) → IsHistory l → is_accepted (after l) (Connect mailbox) ≡ true → number ≡ (after l).last_connection + 1
      → queue ≡ (outbox_of mailbox).queue → ((n : ℕ) → queue_at n new ≡ cond (number == n) (Some queue) (queue_at n old)) → HaveTurns outbox_of l old → HaveTurns outbox_of (l ++ Connect mailbox ∷ []) new
  turns_joined outbox_of l mailbox number queue old new legal ok next its added have n =
      added n ∙ ap (λ (k : ℕ). cond (k == n) (Some queue) (queue_at n old)) next ∙ ap (λ (q : SegId Global). cond (((after l).last_connection + 1) == n) (Some q) (queue_at n old)) its
      ∙ ap (λ (o : Option (SegId Global)). cond (((after l).last_connection + 1) == n) (Some (outbox_of mailbox).queue) o) (have n)
      ∙ push (((after l).last_connection + 1) == n) (Some mailbox) (mailbox_of n (after l).connections)
      ∙ ap (option_map (queue_of outbox_of)) (sym (mailbox_joined l mailbox n legal ok))
    where
      push : (b : Bool) (one other : Option M) → cond b (option_map (queue_of outbox_of) one) (option_map (queue_of outbox_of) other) ≡ option_map (queue_of outbox_of) (cond b one other)
      push true one other = refl
      push false one other = refl

  -- the turn of a connection that has gone is given up
  pub turns_left : (outbox_of : M → OutboxId) (l : List (Command M)) (number : ℕ) (old new : List TurnView) → is_accepted (after l) (Close number) ≡ true → ((n : ℕ) → queue_at n new ≡ cond (number == n) None (queue_at n old))
      → HaveTurns outbox_of l old → HaveTurns outbox_of (l ++ Close number ∷ []) new
  turns_left outbox_of l number old new ok left have n =
      left n ∙ ap (λ (o : Option (SegId Global)). cond (number == n) None o) (have n) ∙ push (number == n) (mailbox_of n (after l).connections)
      ∙ ap (option_map (queue_of outbox_of)) (sym (mailbox_closed l number n ok))
    where
      push : (b : Bool) (other : Option M) → cond b None (option_map (queue_of outbox_of) other) ≡ option_map (queue_of outbox_of) (cond b None other)
      push true other = refl
      push false other = refl

  -- the seats of a sender that a pass gave away, after it left
  pub theirs_sent : (outbox_of : M → OutboxId) (v u q : PassState M) (l : List (Command M)) (s : State M) (old mid new : SenderView) → u ≡ v → IsPrefix v.seen l → IsHistory l → s ≡ after l → q.seen ≡ l
      → AreTheirs outbox_of u.seen old.recipient_seats → KeepsThere outbox_of s old mid → Keeps [] mid new → AreTheirs outbox_of q.seen new.recipient_seats
  theirs_sent outbox_of v u q l s old mid new entered begins legal is left theirs keeps after_it =
      let V : PassState M → Type 0 = λ x. AreTheirs outbox_of x.seen old.recipient_seats in
      let L : List (Command M) → Type 0 = λ x. AreTheirs outbox_of x new.recipient_seats in
      let first = theirs_kept outbox_of l s old mid legal is keeps (theirs_later outbox_of v.seen l old.recipient_seats begins (subst V entered theirs)) in
      subst L (sym left) (theirs_kept outbox_of l s mid new legal is (kept outbox_of s mid new after_it) first)

  -- a message at the place may be put at the outbox of a connection that is there
  pub stands_for : (outbox_of : M → OutboxId) (l : List (Command M)) (n : ℕ) (place : Option ℕ) (recipient_seats : List RecipientSeatView) (turns : TurnsView) → IfSome place (λ p. p ≡ turns.latest) → IsHistory l → is_connected n (after l).connections ≡ true
      → AreTheirs outbox_of l recipient_seats → HaveTurns outbox_of l turns.turns → StandsAt place n recipient_seats turns
  stands_for outbox_of l n place recipient_seats turns at legal there theirs have = stands place n recipient_seats turns at (have_turn outbox_of l n recipient_seats turns legal there theirs have)

  -- of the owner that was found
  pub stands_owner : (E : Type 0) (outbox_of : M → OutboxId) (l : List (Command M)) (s : State M) (to : List ℕ) (place : Option ℕ) (recipient_seats : List RecipientSeatView) (turns : TurnsView) (found : Result (Option ℕ) E) → IfSome place (λ p. p ≡ turns.latest) → IsHistory l → s ≡ after l
      → AreTheirs outbox_of l recipient_seats → HaveTurns outbox_of l turns.turns
      → IfOk found (λ owner. MatchOption owner ((n : ℕ) → IsOwner s to n → ⊥) (λ n. IsOwner s to n × HasSeat n recipient_seats)) → IfOk found (λ owner. IfSome owner (λ n. StandsAt place n recipient_seats turns))
  stands_owner E outbox_of l s to place recipient_seats turns (Ok None) at legal is theirs have owner = tt
  stands_owner E outbox_of l s to place recipient_seats turns (Ok (Some n)) at legal is theirs have owner =
      let P : State M → Type 0 = λ x. is_connected n x.connections ≡ true in
      stands_for outbox_of l n place recipient_seats turns at legal (subst P is owner.0.1) theirs have
  stands_owner E outbox_of l s to place recipient_seats turns (Err e) at legal is theirs have owner = tt

  -- of all recipients
  pub stands_all : (outbox_of : M → OutboxId) (l : List (Command M)) (s : State M) (recipients : List ℕ) (place : Option ℕ) (recipient_seats : List RecipientSeatView) (turns : TurnsView) → IfSome place (λ p. p ≡ turns.latest) → IsHistory l → s ≡ after l
      → AreTheirs outbox_of l recipient_seats → HaveTurns outbox_of l turns.turns → ((n : ℕ) → is_in n recipients ≡ true → is_connected n s.connections ≡ true) → MayStand place recipients recipient_seats turns
  stands_all outbox_of l s recipients place recipient_seats turns at legal is theirs have there n listed =
      let P : State M → Type 0 = λ x. is_connected n x.connections ≡ true in
      stands_for outbox_of l n place recipient_seats turns at legal (subst P is (there n listed)) theirs have
