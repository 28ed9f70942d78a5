-- Changes of a name's owner, announced and made.
use Rattle.std.proofs.Common.{◌≡◌, false, ℕ, List, [], append-nil, Option, Some, None, Result, Ok, Err, inl, inr, refl, sym, ap, subst, ◌∙◌}
use Rattle.std.specs.Result.{result_and}
use Rattle.outbox.specs.Seated.{OutboxId}
use Rattle.owners.specs.declared.answer.Change.{Change}
use Rattle.message_build.specs.Asked.{Asked}
use Rattle.router.specs.BusError.{BusError}
use Rattle.router.specs.Calls.{Answers}
use Rattle.router.specs.Command.{Command}
use Rattle.router.specs.Does.{reply_to}
use Rattle.router.specs.History.{after}
use Rattle.router.specs.NameCall.{NameCall}
use Rattle.router.specs.NameCalls.{Foresees, change_in, command_of}
use Rattle.router.specs.Passes.{PassState}
use Rattle.router.specs.Publication.{Publication}
use Rattle.router.specs.Reply.{Reply}
use Rattle.router.specs.Sent.{Sent}
use Rattle.router.specs.Standing.{Standing}
use Rattle.router.specs.Standing.TheVariants as standings
use Rattle.router.specs.Sent.TheVariants as sent
use Rattle.router.specs.Unicasts.{Unicasts}
use Rattle.unique_name.specs.UniqueNames.{unique_name}
use Rattle.peers.specs.declared.error.AnswerError.{AnswerError}
use Rattle.peers.specs.declared.request.Request.{Request}
use Rattle.peers.specs.Answers.{IsPutAt}
use Rattle.peers.specs.Announcements.{IsTold, IsSignalled, HasTold, TellsOwner, Announces, AnnouncesAny, told_asked, change_asked}
use Rattle.peers.specs.Holdings.{HoldingsState}
use Rattle.peers.specs.NameRows.{ChangesName, TellsNamed}
use Rattle.peers.specs.OwnerChanges.{IsChangeOf, ChangesAhead, ChangesOwner}
use Rattle.peers.specs.Passing.{HasSeenMore, with_pass}
use Rattle.peers.specs.PeerState.{PeerState}

module _ {M : Type 0} where
  -- what the bus puts by a pass leaves it its connection
  unicast_keeps : (standing : Standing) (outbox_of : M → OutboxId) (to bytes : List ℕ) (v w : PassState M) (s : Sent) → Unicasts standing outbox_of to bytes v s w → w.connection ≡ v.connection
  unicast_keeps standing outbox_of to bytes v w (sent.Put n) (owner, sends, count, put, waits) = ap (λ (p : PassState M). p.connection) sends.same
  unicast_keeps standing outbox_of to bytes v w sent.NoOwner (unput, nobody) = ap (λ (p : PassState M). p.connection) unput.sends.same
  unicast_keeps standing outbox_of to bytes v w (sent.Full n) (unput, owner, shut, waits) = ap (λ (p : PassState M). p.connection) unput.sends.same

  told_keeps : (standing : Standing) (outbox_of : M → OutboxId) (asked : Asked) (to : List ℕ) (v w : PassState M) (result : Result (Unit {0}) AnswerError) → IsTold standing outbox_of asked to v result w → w.connection ≡ v.connection
  told_keeps standing outbox_of asked to v w (Ok x) (bytes, s, are, unicast) = unicast_keeps standing outbox_of to bytes v w s unicast
  told_keeps standing outbox_of asked to v w (Err error) (is, inl same) = ap (λ (p : PassState M). p.connection) same
  told_keeps standing outbox_of asked to v w (Err error) (is, inr (why, inl (gone, same))) = ap (λ (p : PassState M). p.connection) same
  told_keeps standing outbox_of asked to v w (Err error) (is, inr (why, inr (lost, unput))) = ap (λ (p : PassState M). p.connection) unput.sends.same

  signalled_keeps : (standing : Standing) (outbox_of : M → OutboxId) (asked : Asked) (v w : PassState M) (result : Result (Unit {0}) AnswerError) → IsSignalled standing outbox_of asked v result w → w.connection ≡ v.connection
  signalled_keeps standing outbox_of asked v w (Ok x) (bytes, recipients, refused, are, routed) = ap (λ (p : PassState M). p.connection) routed.sends.same
  signalled_keeps standing outbox_of asked v w (Err error) (is, inl same) = ap (λ (p : PassState M). p.connection) same
  signalled_keeps standing outbox_of asked v w (Err error) (is, inr (why, inl (gone, same))) = ap (λ (p : PassState M). p.connection) same
  signalled_keeps standing outbox_of asked v w (Err error) (is, inr (why, inr (lost, unput))) = ap (λ (p : PassState M). p.connection) unput.sends.same

  owner_keeps : (standing : Standing) (outbox_of : M → OutboxId) (history : List (Command M)) (member name : List ℕ) (owner : Option ℕ) (v w : PeerState M) (result : Result (Unit {0}) AnswerError) → TellsOwner standing outbox_of history member name owner v result w → w.pass.connection ≡ v.pass.connection
  owner_keeps standing outbox_of history member name None v w result (is, same) = ap (λ (p : PeerState M). p.pass.connection) same
  owner_keeps standing outbox_of history member name (Some n) v w result (made, unicast, here) = told_keeps standing outbox_of (told_asked v.serial member name n) (unique_name n) v.pass w.pass result unicast

  announced_keeps : (outbox_of : M → OutboxId) (history : List (Command M)) (change : Change) (v w : PeerState M) (result : Result (Unit {0}) AnswerError) → Announces outbox_of history change v result w → w.pass.connection ≡ v.pass.connection
  announced_keeps outbox_of history change v w result (mid, next, lost, changed, acquired, a, (made, signal, here), c, is) =
      owner_keeps standings.Next outbox_of history _ change.name change.new next w acquired c
      ∙ (signalled_keeps standings.Next outbox_of (change_asked mid.serial change.name change.old change.new) mid.pass next.pass changed signal ∙ owner_keeps standings.Next outbox_of history _ change.name change.old v mid lost a)

  -- what was foreseen is what came about
  foreseen_is : (call : NameCall) (change : Option Change) (v w : PassState M) (before next : Publication M) (n m : ℕ) (asked : Result Reply BusError) → m ≡ n → change ≡ change_in (reply_to (after before.history) (command_of n call))
      → Answers false v before (command_of m call) asked w next → IsChangeOf change before (command_of n call) asked
  foreseen_is call change v w before next n m (Ok reply) is foreseen (done, same, stays) =
      foreseen ∙ (ap (λ k. change_in (reply_to (after before.history) (command_of k call))) (sym is) ∙ ap change_in (sym done.replies))
  foreseen_is call change v w before next n m (Err error) is foreseen answers = inr foreseen

  seen_more : (v seen : PassState M) (before : Publication M) (command : Command M) (change : Option Change) → Foresees v before command (Ok change) seen → HasSeenMore v seen
  seen_more v seen before command change (is, begins, same) = let P : PassState M → Type 0 = λ p. HasSeenMore v p in subst P (sym same) (begins, refl)

  -- a change that was foreseen was announced, and came about
  pub made_ahead : (outbox_of : M → OutboxId) (call : NameCall) (change : Change) (u v w : PeerState M) (seen : PassState M) (before next : Publication M) (asked : Result Reply BusError) (announced : Result (Unit {0}) AnswerError) → u ≡ v
      → Foresees u.pass before (command_of u.pass.connection call) (Ok (Some change)) seen → ChangesAhead outbox_of call change (with_pass u seen) before asked announced w next → ChangesOwner outbox_of call v before asked announced w next
  made_ahead outbox_of call change u v w seen before next asked announced is foresees (mid, announces, answers, same) =
      let P : PeerState M → Type 0 = λ s. ChangesOwner outbox_of call s before asked announced w next in
      let kept = announced_keeps outbox_of before.history change (with_pass u seen) mid announced announces ∙ ap (λ (p : PassState M). p.connection) foresees.2 in
      subst P is (
        seen,
        Some change,
        mid,
        seen_more u.pass seen before (command_of u.pass.connection call) (Some change) foresees,
        ap (λ (p : PassState M). p.seen) foresees.2,
        foreseen_is call (Some change) mid.pass w.pass before next u.pass.connection mid.pass.connection asked kept foresees.0 answers,
        announces,
        answers,
        same,
      )

  -- nothing was foreseen, and the call was made
  pub made_alone : (outbox_of : M → OutboxId) (call : NameCall) (u v w : PeerState M) (seen : PassState M) (before next : Publication M) (asked : Result Reply BusError) → u ≡ v
      → Foresees u.pass before (command_of u.pass.connection call) (Ok None) seen → Answers false seen before (command_of seen.connection call) asked w.pass next → w ≡ with_pass u w.pass → ChangesOwner outbox_of call v before asked (Ok tt) w next
  made_alone outbox_of call u v w seen before next asked is foresees answers same =
      let P : PeerState M → Type 0 = λ s. ChangesOwner outbox_of call s before asked (Ok tt) w next in
      subst P is (
        seen,
        None,
        with_pass u seen,
        seen_more u.pass seen before (command_of u.pass.connection call) None foresees,
        tt,
        foreseen_is call None seen w.pass before next u.pass.connection seen.connection asked (ap (λ (p : PassState M). p.connection) foresees.2) foresees.0 answers,
        (refl, refl),
        answers,
        same,
      )

  -- the pass may not call
  pub made_none : (outbox_of : M → OutboxId) (call : NameCall) (u v w : PeerState M) (error : BusError) (before : Publication M) → u ≡ v
      → Foresees u.pass before (command_of u.pass.connection call) (Err error) w.pass → w ≡ with_pass u w.pass → ChangesOwner outbox_of call v before (Err error) (Ok tt) w before
  made_none outbox_of call u v w error before is (closed, stopped, shut) same =
      let P : PeerState M → Type 0 = λ s. ChangesOwner outbox_of call s before (Err error) (Ok tt) w before in
      subst P is (u.pass, None, u, (([], append-nil u.pass.seen), refl), tt, inl refl, (refl, refl), inr (stopped, inl (closed, shut)), same)

  -- what a peer holds has no part in a change
  told_holding : (standing : Standing) (outbox_of : M → OutboxId) (history : List (Command M)) (held : HoldingsState) (asked : Asked) (to : List ℕ) (v w : PeerState M) (result : Result (Unit {0}) AnswerError) → HasTold standing outbox_of history asked to v result w
      → HasTold standing outbox_of history asked to (record v { holdings = held }) result (record w { holdings = held })
  told_holding standing outbox_of history held asked to v w result (made, told, here) = (ap (λ (s : PeerState M). record s { holdings = held }) made, told, here)

  owner_holding : (standing : Standing) (outbox_of : M → OutboxId) (history : List (Command M)) (held : HoldingsState) (member name : List ℕ) (owner : Option ℕ) (v w : PeerState M) (result : Result (Unit {0}) AnswerError) → TellsOwner standing outbox_of history member name owner v result w
      → TellsOwner standing outbox_of history member name owner (record v { holdings = held }) result (record w { holdings = held })
  owner_holding standing outbox_of history held member name None v w result (is, same) = (is, ap (λ (s : PeerState M). record s { holdings = held }) same)
  owner_holding standing outbox_of history held member name (Some n) v w result tells = told_holding standing outbox_of history held (told_asked v.serial member name n) (unique_name n) v w result tells

  announced_holding : (outbox_of : M → OutboxId) (history : List (Command M)) (held : HoldingsState) (change : Change) (v w : PeerState M) (result : Result (Unit {0}) AnswerError) → Announces outbox_of history change v result w
      → Announces outbox_of history change (record v { holdings = held }) result (record w { holdings = held })
  announced_holding outbox_of history held change v w result (mid, next, lost, changed, acquired, a, (made, signal, here), c, is) = (
    record mid { holdings = held },
    record next { holdings = held },
    lost,
    changed,
    acquired,
    owner_holding standings.Next outbox_of history held _ change.name change.old v mid lost a,
    (ap (λ (s : PeerState M). record s { holdings = held }) made, signal, here),
    owner_holding standings.Next outbox_of history held _ change.name change.new next w acquired c,
    is,
  )

  any_holding : (outbox_of : M → OutboxId) (history : List (Command M)) (held : HoldingsState) (change : Option Change) (v w : PeerState M) (result : Result (Unit {0}) AnswerError) → AnnouncesAny outbox_of history change v result w
      → AnnouncesAny outbox_of history change (record v { holdings = held }) result (record w { holdings = held })
  any_holding outbox_of history held None v w result (is, same) = (is, ap (λ (s : PeerState M). record s { holdings = held }) same)
  any_holding outbox_of history held (Some change) v w result announces = announced_holding outbox_of history held change v w result announces

  made_holding : (outbox_of : M → OutboxId) (held : HoldingsState) (call : NameCall) (v w : PeerState M) (before next : Publication M) (asked : Result Reply BusError) (announced : Result (Unit {0}) AnswerError) → ChangesOwner outbox_of call v before asked announced w next
      → ChangesOwner outbox_of call (record v { holdings = held }) before asked announced (record w { holdings = held }) next
  made_holding outbox_of held call v w before next asked announced (seen, change, mid, more, here, is, announces, answers, same) =
      (seen, change, record mid { holdings = held }, more, here, is, any_holding outbox_of before.history held change (with_pass v seen) mid announced announces, answers, ap (λ (s : PeerState M). record s { holdings = held }) same)

  -- a row of the table: what the client holds changed by the bus's answer, and the client was told it
  pub changed : (outbox_of : M → OutboxId) (request : Request) (call : NameCall) (change : Result Reply BusError → HoldingsState → HoldingsState) (u v mid w : PeerState M) (before next : Publication M) (asked : Result Reply BusError) (held : HoldingsState) (announced answered result : Result (Unit {0}) AnswerError) → u ≡ v
      → ChangesOwner outbox_of call u before asked announced mid next → held ≡ change asked mid.holdings → TellsNamed (IsPutAt standings.State outbox_of next.history) request asked (record mid { holdings = held }) answered w → result ≡ result_and announced answered → ChangesName outbox_of request call change v result w
  changed outbox_of request call change u v mid w before next asked held announced answered result is c h t e =
      let P : PeerState M → Type 0 = λ s. ChangesOwner outbox_of call s before asked announced mid next in
      let Q : HoldingsState → Type 0 = λ x. TellsNamed (IsPutAt standings.State outbox_of next.history) request asked (record mid { holdings = x }) answered w in
      (asked, mid, announced, answered, (before, next, (subst P is c, subst Q h t)), e)

  -- of a peer whose holdings stood aside meanwhile
  pub changed_aside : (outbox_of : M → OutboxId) (request : Request) (call : NameCall) (change : Result Reply BusError → HoldingsState → HoldingsState) (u v mid w : PeerState M) (before next : Publication M) (asked : Result Reply BusError) (held : HoldingsState) (announced answered result : Result (Unit {0}) AnswerError) → record u { holdings = v.holdings } ≡ v
      → ChangesOwner outbox_of call u before asked announced mid next → held ≡ change asked v.holdings → TellsNamed (IsPutAt standings.State outbox_of next.history) request asked (record mid { holdings = held }) answered w → result ≡ result_and announced answered → ChangesName outbox_of request call change v result w
  changed_aside outbox_of request call change u v mid w before next asked held announced answered result is c h t e =
      changed outbox_of request call change (record u { holdings = v.holdings }) v (record mid { holdings = v.holdings }) w before next asked held announced answered result is (made_holding outbox_of v.holdings call u mid before next asked announced c) h t e
