-- Lists that clients ask for.
use Rattle.std.proofs.Common.{◌≡◌, ◌==◌, ℕ, false, List, [], ◌∷◌, ◌++◌, length, map, Option, Result, Ok, Err, ⊎_elim, inl, inr, refl, sym, ap, subst, true≢false}
use Rattle.outbox.specs.Seated.{OutboxId}
use Rattle.signature.specs.Name.{bus_name}
use Rattle.unique_name.specs.UniqueNames.{unique_name}
use Rattle.router.specs.Command.{Command}
use Rattle.router.specs.Connections.{numbers_of}
use Rattle.router.specs.History.{after}
use Rattle.router.specs.Names.{AreNames}
use Rattle.router.specs.Standing.TheVariants as standings
use Rattle.router.specs.State.{State}
use Rattle.peers.specs.Answers.{IsPutAt, RefusesBy}
use Rattle.peers.specs.Asked.{HasLooked, IsOwnerOf}
use Rattle.peers.specs.Passing.{HasSeenMore, with_pass}
use Rattle.peers.specs.PeerState.{PeerState}
use Rattle.peers.specs.Queries.{queue_found, RepliesFound, AnswersFound, AnswersOwner, AreAllNames, AreQueuedFor}
use Rattle.peers.specs.Queues.{IsQueueOf}
use Rattle.peers.specs.declared.error.AnswerError.{AnswerError}
use Rattle.peers.specs.declared.owner.Owner.{Owner}
use Rattle.peers.specs.declared.refused.Refused.{Refused}
use Rattle.peers.specs.declared.refused.Refused.TheVariants.{Ended, Error}
use Rattle.peers.specs.declared.request.Request.{Request}
use Rattle.peers.proofs.Putting.{refused_seen}

-- somebody is in the queue
pub queue_told : (numbers : List ℕ) → (length numbers == 0) ≡ false → queue_found (map unique_name numbers) ≡ Ok (map unique_name numbers)
queue_told [] e = absurd (true≢false e)
queue_told (number ∷ more) e = refl

module _ {M : Type 0} where
  -- what was found is answered, at the place of what the pass has seen
  pub answers_found : (outbox_of : M → OutboxId) (history : List (Command M)) (P : State M → Result (List (List ℕ)) Refused → Type 0) (request : Request) (found : Result (List (List ℕ)) Refused) (v u w : PeerState M) (result : Result (Unit {0}) AnswerError) → u ≡ with_pass v u.pass → HasSeenMore v.pass u.pass → P (after u.pass.seen) found
      → u.pass.seen ≡ history → RepliesFound (IsPutAt standings.State outbox_of history) request found u result w → AnswersFound outbox_of P request v result w
  answers_found outbox_of history P request found v u w result is seen p here a =
      let R : PeerState M → Type 0 = λ s. RepliesFound (IsPutAt standings.State outbox_of u.pass.seen) request found s result w in
      let H : List (Command M) → Type 0 = λ l. RepliesFound (IsPutAt standings.State outbox_of l) request found u result w in
      (u.pass, found, seen, p, subst R is (subst H (sym here) a))

  -- or why nothing was found
  pub answers_none : (outbox_of : M → OutboxId) (history : List (Command M)) (P : State M → Result (List (List ℕ)) Refused → Type 0) (request : Request) (why : Refused) (v u w : PeerState M) (result : Result (Unit {0}) AnswerError) → u ≡ with_pass v u.pass → HasSeenMore v.pass u.pass → P (after u.pass.seen) (Err why)
      → HasLooked why history u.pass → RefusesBy (IsPutAt standings.State outbox_of history) request why u result w → AnswersFound outbox_of P request v result w
  answers_none outbox_of history P request why v u w result is seen p looked a =
      let R : PeerState M → Type 0 = λ s. RefusesBy (IsPutAt standings.State outbox_of u.pass.seen) request why s result w in
      (u.pass, Err why, seen, p, subst R is (refused_seen outbox_of history request why u.pass u result w looked a))

  -- the owner is told in the same way
  pub tells_owner : (outbox_of : M → OutboxId) (history : List (Command M)) (name : List ℕ) (P : ((List ℕ → Type 0) → PeerState M → Result (Unit {0}) AnswerError → PeerState M → Type 0) → Result (Option Owner) Refused → PeerState M → Result (Unit {0}) AnswerError → PeerState M → Type 0) (owner : Result (Option Owner) Refused) (v u w : PeerState M) (result : Result (Unit {0}) AnswerError) → u ≡ with_pass v u.pass → HasSeenMore v.pass u.pass
      → IsOwnerOf (after u.pass.seen) name owner → u.pass.seen ≡ history → P (IsPutAt standings.State outbox_of history) owner u result w → AnswersOwner outbox_of name P v result w
  tells_owner outbox_of history name P owner v u w result is seen o here a =
      let R : PeerState M → Type 0 = λ s. P (IsPutAt standings.State outbox_of u.pass.seen) owner s result w in
      let H : List (Command M) → Type 0 = λ l. P (IsPutAt standings.State outbox_of l) owner u result w in
      (u.pass, owner, seen, o, subst R is (subst H (sym here) a))

  -- or why it can't be told; once the bus has ended, nothing is put
  pub tells_none : (outbox_of : M → OutboxId) (history : List (Command M)) (name : List ℕ) (P : ((List ℕ → Type 0) → PeerState M → Result (Unit {0}) AnswerError → PeerState M → Type 0) → Result (Option Owner) Refused → PeerState M → Result (Unit {0}) AnswerError → PeerState M → Type 0) (why : Refused) (v u w : PeerState M) (result : Result (Unit {0}) AnswerError) → u ≡ with_pass v u.pass → HasSeenMore v.pass u.pass
      → IsOwnerOf (after u.pass.seen) name (Err why) → HasLooked why history u.pass → (((put other : (List ℕ → Type 0) → PeerState M → Result (Unit {0}) AnswerError → PeerState M → Type 0) → P put (Err Ended) u result w → P other (Err Ended) u result w)) → P (IsPutAt standings.State outbox_of history) (Err why) u result w → AnswersOwner outbox_of name P v result w
  tells_none outbox_of history name P Ended v u w result is seen o looked any a =
      let R : PeerState M → Type 0 = λ s. P (IsPutAt standings.State outbox_of u.pass.seen) (Err Ended) s result w in
      (u.pass, Err Ended, seen, o, subst R is (any (IsPutAt standings.State outbox_of history) (IsPutAt standings.State outbox_of u.pass.seen) a))
  tells_none outbox_of history name P (Error error) v u w result is seen o looked any a = tells_owner outbox_of history name P (Err (Error error)) v u w result is seen o looked a

  pub all_told : (s : State M) (numbers : List ℕ) (owned : List (List ℕ)) → numbers ≡ numbers_of s.connections → AreNames s.registrations.claims owned → AreAllNames s (Ok ((bus_name ∷ map unique_name numbers) ++ owned))
  all_told s numbers owned e a = (owned, a, ap (λ (ns : List ℕ). (bus_name ∷ map unique_name ns) ++ owned) e)

  pub queue_untold : (s : State M) (text : List ℕ) (why : Refused) → IsQueueOf s text (Err why) → AreQueuedFor text s (Err why)
  queue_untold s text why h = ⊎_elim (λ named. inl (named.0, named.1, inr (why, named.2, refl))) (λ asked. inr (why, asked, refl)) h
