-- What a peer passes on.
use Rattle.std.proofs.Common.{◌≡◌, ℕ, List, Result, Ok, Err, inr, ap, subst, ◌∙◌}
use Rattle.std.specs.Prelude.{IfErr}
use Rattle.outbox.specs.Seated.{OutboxId}
use Rattle.router.specs.Standing.TheVariants as standings
use Rattle.router.specs.Source.TheVariants.{Own}
use Rattle.router.specs.Passes.{PassState}
use Rattle.unique_name.specs.UniqueNames.{unique_name}
use Rattle.peers.specs.declared.error.AnswerError.{AnswerError}
use Rattle.peers.specs.declared.error.AnswerError.TheVariants.{NoMemory}
use Rattle.peers.specs.Broadcasts.{Broadcasts}
use Rattle.peers.specs.Passing.{HasSeenMore, IsStamped, IsOverLimit, HasBroadcast, with_pass}
use Rattle.peers.specs.PeerState.{PeerState, name_of}

-- stamped with the name of a number
pub stamped_by : (bytes stamped : List ℕ) (name connection : ℕ) → name ≡ connection → IsStamped bytes (unique_name name) stamped → IsStamped bytes (unique_name connection) stamped
stamped_by bytes stamped name connection e h = let P : ℕ → Type 0 = λ n. IsStamped bytes (unique_name n) stamped in subst P e h

pub over_by : (bytes : List ℕ) (name connection : ℕ) → name ≡ connection → IsOverLimit bytes (unique_name name) → IsOverLimit bytes (unique_name connection)
over_by bytes name connection e h = let P : ℕ → Type 0 = λ n. IsOverLimit bytes (unique_name n) in subst P e h

module _ {M : Type 0} where
  pub seen_connection : (v w : PassState M) → HasSeenMore v w → w.connection ≡ v.connection
  seen_connection v w h = ap (λ (p : PassState M). p.connection) h.1

  pub broadcast_done : (outbox_of : M → OutboxId) (bytes stamped : List ℕ) (v u w : PeerState M) (result : Result (Unit {0}) AnswerError) (recipients refused : List ℕ) → u ≡ with_pass v u.pass → HasSeenMore v.pass u.pass
      → IsStamped bytes (name_of v) stamped → IfErr result (λ error. error ≡ NoMemory) → Broadcasts standings.Apart outbox_of Own stamped u.pass result recipients refused w.pass → w ≡ with_pass u w.pass → HasBroadcast outbox_of bytes v result w
  broadcast_done outbox_of bytes stamped v u w (Ok x) recipients refused is seen st err routed same =
      (same ∙ ap (λ (s : PeerState M). with_pass s w.pass) is, inr (u.pass, stamped, recipients, refused, seen, st, routed))
  broadcast_done outbox_of bytes stamped v u w (Err error) recipients refused is seen st err routed same =
      (err, same ∙ ap (λ (s : PeerState M). with_pass s w.pass) is, u.pass, seen, inr routed)
