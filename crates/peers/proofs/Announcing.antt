-- What the bus announces of names.
use Rattle.std.proofs.Common.{◌≡◌, ℕ, List, [], ◌∷◌, Option, Some, None, Result, Ok, Err, inr, sym, ap, subst, ◌∙◌}
use Rattle.std.specs.Prelude.{IfErr, IfOk, codes}
use Rattle.outbox.specs.Seated.{OutboxId}
use Rattle.message_build.specs.Asked.{Asked}
use Rattle.message_build.specs.declared.error.BuildError.{BuildError}
use Rattle.bus_messages.specs.Sent.{signal_asked, Builds}
use Rattle.unique_name.specs.UniqueNames.{unique_name}
use Rattle.message_build.specs.Building.{AreAsked}
use Rattle.owners.specs.declared.answer.Change.{Change}
use Rattle.std.specs.Result.{result_and}
use Rattle.router.specs.Source.TheVariants.{Bus}
use Rattle.router.specs.Command.{Command}
use Rattle.router.specs.Passes.{PassState}
use Rattle.router.specs.Standing.{Standing}
use Rattle.router.specs.Standing.TheVariants as standings
use Rattle.peers.specs.declared.error.AnswerError.{AnswerError}
use Rattle.peers.specs.declared.error.AnswerError.TheVariants.{NoMemory}
use Rattle.peers.specs.Announcements.{IsTold, HasTold, TellsOwner, IsSignalled, HasSignalled, Announces, AnnouncesArrival, told_asked, change_asked, owner_text}
use Rattle.peers.specs.Answers.{IsPutAt, after_serial}
use Rattle.peers.specs.Broadcasts.{Broadcasts}
use Rattle.peers.specs.Passing.{with_pass}
use Rattle.peers.specs.Arrival.{Registers}
use Rattle.peers.specs.Queries.{RepliesTextBy}
use Rattle.peers.specs.declared.request.Request.{Request}
use Rattle.peers.specs.PeerState.{PeerState, name_of}

pub told_built : (serial : ℕ) (member name : List ℕ) (n : ℕ) (result : Result (List ℕ) BuildError) → Builds (signal_asked serial (Some (unique_name n)) member (name ∷ [])) result → Builds (told_asked serial member name n) result
unfolding told_asked
told_built serial member name n result h = h

pub change_built : (serial : ℕ) (name : List ℕ) (old new : Option ℕ) (bytes : List ℕ) → AreAsked (signal_asked serial None (codes "NameOwnerChanged") (name ∷ owner_text old ∷ owner_text new ∷ [])) bytes → AreAsked (change_asked serial name old new) bytes
unfolding change_asked
change_built serial name old new bytes h = h

module _ {M : Type 0} where
  signalled : (standing : Standing) (outbox_of : M → OutboxId) (asked : Asked) (bytes : List ℕ) (v w : PassState M) (result : Result (Unit {0}) AnswerError) (recipients refused : List ℕ) → AreAsked asked bytes → IfErr result (λ error. error ≡ NoMemory)
      → Broadcasts standing outbox_of Bus bytes v result recipients refused w → IsSignalled standing outbox_of asked v result w
  signalled standing outbox_of asked bytes v w (Ok x) recipients refused are err routed = (bytes, recipients, refused, are, routed)
  signalled standing outbox_of asked bytes v w (Err error) recipients refused are err routed = (err, inr routed)

  -- a signal was built with the next serial, and put
  pub has_signalled : (standing : Standing) (outbox_of : M → OutboxId) (history : List (Command M)) (asked : Asked) (bytes : List ℕ) (v u w : PeerState M) (result : Result (Unit {0}) AnswerError) (recipients refused : List ℕ) → u ≡ after_serial v → AreAsked asked bytes → IfErr result (λ error. error ≡ NoMemory)
      → Broadcasts standing outbox_of Bus bytes u.pass result recipients refused w.pass → w ≡ with_pass u w.pass → IfOk result (λ _. w.pass.seen ≡ history)
      → HasSignalled standing outbox_of history asked v result w
  has_signalled standing outbox_of history asked bytes v u w result recipients refused is are err routed same here =
      let P : PeerState M → Type 0 = λ s. Broadcasts standing outbox_of Bus bytes s.pass result recipients refused w.pass in
      (same ∙ ap (λ (s : PeerState M). with_pass s w.pass) is, signalled standing outbox_of asked bytes v.pass w.pass result recipients refused are err (subst P is routed), here)

  -- a signal to one connection was built with the next serial, and sent
  pub has_told : (standing : Standing) (outbox_of : M → OutboxId) (history : List (Command M)) (member name : List ℕ) (n m serial : ℕ) (to : List ℕ) (v u w : PeerState M) (built : Result (List ℕ) BuildError) (result : Result (Unit {0}) AnswerError) → u ≡ after_serial v → serial ≡ v.serial → m ≡ n → to ≡ unique_name m
      → Builds (signal_asked serial (Some to) member (name ∷ [])) built → ((asked : Asked) → Builds asked built → IsTold standing outbox_of asked (unique_name m) u.pass result w.pass) → w ≡ with_pass u w.pass
      → IfOk result (λ _. w.pass.seen ≡ history) → HasTold standing outbox_of history (told_asked v.serial member name n) (unique_name n) v result w
  has_told standing outbox_of history member name n m serial to v u w built result is s e t b sent_as same here =
      let B : ℕ → List ℕ → Type 0 = λ k y. Builds (signal_asked k (Some y) member (name ∷ [])) built in
      let N : ℕ → Type 0 = λ k. IsTold standing outbox_of (told_asked v.serial member name k) (unique_name k) u.pass result w.pass in
      let P : PeerState M → Type 0 = λ x. IsTold standing outbox_of (told_asked v.serial member name n) (unique_name n) x.pass result w.pass in (
        same ∙ ap (λ (x : PeerState M). with_pass x w.pass) is,
        subst P is (subst N e (sent_as (told_asked v.serial member name m) (told_built v.serial member name m built (subst (B v.serial) t (subst (λ k. B k to) s b))))),
        here,
      )

  pub announced : (outbox_of : M → OutboxId) (history : List (Command M)) (change : Change) (name : List ℕ) (v mid next w : PeerState M) (lost changed acquired first result : Result (Unit {0}) AnswerError) → name ≡ change.name → TellsOwner standings.Next outbox_of history (codes "NameLost") name change.old v lost mid
      → HasSignalled standings.Next outbox_of history (change_asked mid.serial name change.old change.new) mid changed next → TellsOwner standings.Next outbox_of history (codes "NameAcquired") name change.new next acquired w → first ≡ result_and lost changed → result ≡ result_and first acquired
      → Announces outbox_of history change v result w
  announced outbox_of history change name v mid next w lost changed acquired first result is a b c e f =
      let A : List ℕ → Type 0 = λ n. TellsOwner standings.Next outbox_of history (codes "NameLost") n change.old v lost mid in
      let B : List ℕ → Type 0 = λ n. HasSignalled standings.Next outbox_of history (change_asked mid.serial n change.old change.new) mid changed next in
      let C : List ℕ → Type 0 = λ n. TellsOwner standings.Next outbox_of history (codes "NameAcquired") n change.new next acquired w in
      (mid, next, lost, changed, acquired, subst A is a, subst B is b, subst C is c, f ∙ ap (λ (x : Result (Unit {0}) AnswerError). result_and x acquired) e)

  pub arrived : (outbox_of : M → OutboxId) (history : List (Command M)) (number : ℕ) (name other : List ℕ) (v mid w : PeerState M) (changed acquired result : Result (Unit {0}) AnswerError) → number ≡ v.pass.connection → name ≡ unique_name number → other ≡ unique_name number
      → HasSignalled standings.Last outbox_of history (change_asked v.serial name None (Some number)) v changed mid → TellsOwner standings.Last outbox_of history (codes "NameAcquired") other (Some number) mid acquired w → result ≡ result_and changed acquired → AnnouncesArrival outbox_of history v result w
  arrived outbox_of history number name other v mid w changed acquired result e n o a b both_are =
      let A : List ℕ → ℕ → Type 0 = λ x k. HasSignalled standings.Last outbox_of history (change_asked v.serial x None (Some k)) v changed mid in
      let B : List ℕ → ℕ → Type 0 = λ x k. TellsOwner standings.Last outbox_of history (codes "NameAcquired") x (Some k) mid acquired w in
      (mid, changed, acquired, subst (λ k. A (unique_name k) k) e (subst (λ x. A x number) n a), subst (λ k. B (unique_name k) k) e (subst (λ x. B x number) o b), both_are)

  pub registered : (outbox_of : M → OutboxId) (history : List (Command M)) (request : Request) (v u mid x w : PeerState M) (answered announced result : Result (Unit {0}) AnswerError) → u ≡ v → RepliesTextBy (IsPutAt standings.Last outbox_of history) request (name_of u) u answered mid
      → AnnouncesArrival outbox_of history mid announced x → w ≡ x → result ≡ result_and answered announced → Registers outbox_of history request v result w
  registered outbox_of history request v u mid x w answered announced result is a b e both_are =
      let A : PeerState M → Type 0 = λ s. RepliesTextBy (IsPutAt standings.Last outbox_of history) request (name_of s) s answered mid in
      let B : PeerState M → Type 0 = λ s. AnnouncesArrival outbox_of history mid announced s in
      (mid, answered, announced, subst A is a, subst B (sym e) b, both_are)
