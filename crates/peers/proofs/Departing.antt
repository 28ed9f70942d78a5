-- How a peer leaves the bus.
use Rattle.std.proofs.Common.{◌≡◌, ℕ, ◌+◌, Bool, true, false, [], append-nil, Some, None, Result, Ok, Err, inl, inr, refl, sym, ap, subst, ◌∙◌}
use Rattle.std.specs.Prelude.{codes, IfErr}
use Rattle.std.specs.Result.{result_and}
use Rattle.outbox.specs.Seated.{OutboxId}
use Rattle.message_build.specs.Asked.{Asked}
use Rattle.router.specs.Standing.TheVariants as standings
use Rattle.router.specs.BusError.{BusError}
use Rattle.router.specs.BusError.TheVariants as errors
use Rattle.router.specs.Calls.{Answers, HasNoClaim, HasSeenAll, ClaimsNothing, ClaimsOrIsGone}
use Rattle.router.specs.Command.TheVariants.{Close}
use Rattle.router.specs.NameCall.TheVariants.{DropOne}
use Rattle.router.specs.Passes.{PassState}
use Rattle.router.specs.Publication.{Publication}
use Rattle.router.specs.Reply.{Reply}
use Rattle.peers.specs.declared.error.AnswerError.{AnswerError}
use Rattle.peers.specs.declared.leaving.Farewell.{Farewell}
use Rattle.peers.specs.declared.leaving.Giving.{Giving}
use Rattle.peers.specs.declared.leaving.Giving.TheVariants.{Further, Last}
use Rattle.peers.specs.declared.leaving.Leaving.{Leaving}
use Rattle.peers.specs.declared.leaving.Leaving.TheVariants.{Done, Refused}
use Rattle.peers.specs.Announcements.{IsSignalled, TellsOwner, change_asked}
use Rattle.peers.specs.Calling.{AnswersCallers}
use Rattle.peers.specs.Departure.{AreGivenUp, Closes, ClosesIf, Departs, IsClosing, ClosesPass, GivesUpName, GivesUpNames, HasLeft, giving_of, told_by}
use Rattle.peers.specs.OwnerChanges.{ChangesOwner}
use Rattle.peers.specs.Passing.{HasSeenMore, with_pass}
use Rattle.peers.specs.PeerState.{PeerState, name_of}
use Rattle.peers.proofs.Calling.{callers_close_none, next_is}

module _ {M : Type 0} where
  seen_more : (v w : PassState M) (now : Publication M) → HasSeenAll v now w → HasSeenMore v w
  seen_more v w now (begins, same) = let P : PassState M → Type 0 = λ p. HasSeenMore v p in subst P (sym same) (begins, refl)

  -- the pass was found to have no claim
  pub last_given : (outbox_of : M → OutboxId) (u v : PeerState M) (pass : PassState M) (now : Publication M) → u ≡ v → ClaimsNothing u.pass now pass → GivesUpName outbox_of v Last (Ok tt) (with_pass u pass)
  last_given outbox_of u v pass now is (seen, none) =
      let P : PeerState M → Type 0 = λ s. GivesUpName outbox_of s Last (Ok tt) (with_pass u pass) in
      let Q : PassState M → Type 0 = λ p. HasNoClaim p.connection p.seen in subst P is (pass, seen_more u.pass pass now seen, inr (refl, refl, refl, subst Q (sym seen.1) none))

  looked : (v w : PassState M) (now : Publication M) → ClaimsOrIsGone v now w → HasSeenMore v w
  looked v w now (inl (seen, claims)) = seen_more v w now seen
  looked v w now (inr (fewer, same)) = let P : PassState M → Type 0 = λ p. HasSeenMore v p in subst P (sym same) (([], append-nil v.seen), refl)

  -- it was found to have one, or not to be there, and the call was made
  pub name_given : (outbox_of : M → OutboxId) (u v : PeerState M) (pass : PassState M) (w : PeerState M) (now before next : Publication M) (asked : Result Reply BusError) (announced : Result (Unit {0}) AnswerError) (giving : Giving) → u ≡ v
      → ClaimsOrIsGone u.pass now pass → ChangesOwner outbox_of DropOne (with_pass u pass) before asked announced w next → giving ≡ giving_of asked → GivesUpName outbox_of v giving announced w
  name_given outbox_of u v pass w now before next asked announced giving is claims changes gives =
      let P : PeerState M → Type 0 = λ s. GivesUpName outbox_of s giving announced w in subst P is (pass, looked u.pass pass now claims, inl (asked, (before, next, changes), gives))

  -- one name more was given up
  pub given_next : (outbox_of : M → OutboxId) (n : ℕ) (v mid w : PeerState M) (giving : Giving) (before last announced : Result (Unit {0}) AnswerError) → giving ≡ Further → GivesUpNames outbox_of n v before mid → GivesUpName outbox_of mid giving last w → announced ≡ result_and before last
      → GivesUpNames outbox_of (n + 1) v announced w
  given_next outbox_of n v mid w giving before last announced is earlier gives both =
      let P : ℕ → Type 0 = λ k. GivesUpNames outbox_of k v announced w in
      let G : Giving → Type 0 = λ x. GivesUpName outbox_of mid x last w in
      subst P (next_is n) (mid, before, earlier, (last, subst G is gives, both))

  -- the last one was
  pub given_last : (outbox_of : M → OutboxId) (n : ℕ) (v mid w : PeerState M) (giving : Giving) (before last announced : Result (Unit {0}) AnswerError) → giving ≡ Last → GivesUpNames outbox_of n v before mid → GivesUpName outbox_of mid giving last w → announced ≡ result_and before last
      → AreGivenUp outbox_of true v announced w
  given_last outbox_of n v mid w giving before last announced is earlier gives both =
      let G : Giving → Type 0 = λ x. GivesUpName outbox_of mid x last w in
      (n, mid, before, earlier, (last, subst G is gives, both))

  -- with no name left it closed its pass
  pub departed : (outbox_of : M → OutboxId) (farewell : Farewell) (cleared : Bool) (v mid w : PeerState M) (announced closed told : Result (Unit {0}) AnswerError) (leaving : Leaving) → cleared ≡ true → AreGivenUp outbox_of cleared v announced mid
      → Closes outbox_of farewell mid leaving closed w → told ≡ result_and announced closed → Departs outbox_of farewell v leaving told w
  departed outbox_of farewell cleared v mid w announced closed told leaving is given closes both =
      let P : Bool → Type 0 = λ b. AreGivenUp outbox_of b v announced mid in
      (true, mid, announced, subst P is given, (closed, closes, both))

  -- with one left it stays
  pub stayed : (outbox_of : M → OutboxId) (farewell : Farewell) (cleared : Bool) (v w : PeerState M) (announced : Result (Unit {0}) AnswerError) → cleared ≡ false → AreGivenUp outbox_of cleared v announced w → Departs outbox_of farewell v Refused announced w
  stayed outbox_of farewell cleared v w announced is given =
      let P : Bool → Type 0 = λ b. AreGivenUp outbox_of b v announced w in
      (false, w, announced, subst P is given, (refl, refl, refl))

  -- after the farewell the pass was closed
  pub closed : (outbox_of : M → OutboxId) (farewell : Farewell) (v mid u w : PeerState M) (before told next : Publication M) (lost : Result (Unit {0}) AnswerError) (asked : Result Reply BusError) (pass : PassState M) (leaving : Leaving) (came : Result (Unit {0}) AnswerError) → u ≡ mid → told ≡ before
      → TellsOwner standings.Next outbox_of before.history (codes "NameLost") (name_of v) (told_by farewell v) v lost mid
      → Answers true u.pass told (Close u.pass.connection) asked pass next → IsClosing outbox_of next.history asked lost (with_pass u pass) leaving came w → ClosesPass outbox_of farewell v leaving came w
  closed outbox_of farewell v mid u w before told next lost asked pass leaving came is same tells d g =
      let P : PeerState M → Type 0 = λ s. Answers true s.pass told (Close s.pass.connection) asked pass next × IsClosing outbox_of next.history asked lost (with_pass s pass) leaving came w in
      let Q : Publication M → Type 0 = λ p. Answers true mid.pass p (Close mid.pass.connection) asked pass next in
      let moved = subst P is (d, g) in (before, next, (mid, lost, asked, pass, tells, subst Q same moved.0, moved.1))

  -- a signal of the bus closes no pass and opens none
  signalled : (outbox_of : M → OutboxId) (asked : Asked) (v w : PassState M) (result : Result (Unit {0}) AnswerError) → IsSignalled standings.Last outbox_of asked v result w → w.is_closed ≡ v.is_closed
  signalled outbox_of asked v w (Ok x) (bytes, recipients, refused, are, routed) = ap (λ (p : PassState M). p.is_closed) routed.sends.same
  signalled outbox_of asked v w (Err error) (is, inl same) = ap (λ (p : PassState M). p.is_closed) same
  signalled outbox_of asked v w (Err error) (is, inr (why, inl (gone, same))) = ap (λ (p : PassState M). p.is_closed) same
  signalled outbox_of asked v w (Err error) (is, inr (why, inr (lost, unput))) = ap (λ (p : PassState M). p.is_closed) unput.sends.same

  -- whoever is done has closed its pass, and if the bus has ended, it is shut out
  pub has_left : (outbox_of : M → OutboxId) (v w : PeerState M) (before next : Publication M) (asked : Result Reply BusError) (pass : PassState M) (lost : Result (Unit {0}) AnswerError) (leaving : Leaving) (came : Result (Unit {0}) AnswerError) → Answers true v.pass before (Close v.pass.connection) asked pass next → IfErr asked (λ _. pass.is_shut_out ≡ true)
      → IsClosing outbox_of next.history asked lost (with_pass v pass) leaving came w → HasLeft leaving w
  has_left outbox_of v w before next (Ok reply) pass lost leaving came done shut (is, gone, (made, signal, here), first) =
      let P : Leaving → Type 0 = λ l. HasLeft l w in
      let u : PeerState M = with_pass v pass in
      subst P (sym is) (signalled outbox_of (change_asked u.serial (name_of u) (Some pass.connection) None) pass w.pass gone signal ∙ done.2)
  has_left outbox_of v w before next (Err errors.NoMemory) pass lost leaving came done shut (is, first, same) = let P : Leaving → Type 0 = λ l. HasLeft l w in subst P (sym is) tt
  has_left outbox_of v w before next (Err error) pass lost leaving came done shut (is, first, same) = let P : Leaving → Type 0 = λ l. HasLeft l w in subst P (sym is) (ap (λ (p : PeerState M). p.pass.is_shut_out) same ∙ shut)

  -- and telling those who wait opens none
  pub left_done : (outbox_of : M → OutboxId) (v w : PeerState M) (answered : Result (Unit {0}) AnswerError) → HasLeft Done v → AnswersCallers outbox_of v answered w → HasLeft Done w
  left_done outbox_of v w answered closed answers = callers_close_none outbox_of v w answered answers ∙ closed
