-- What is told to whoever looks into the bus (own; the calls are dbus-daemon's).
use Rattle.std.specs.Prelude.{ℕ, ◌⊎◌, List, Result}
use Rattle.outbox.specs.Seated.{OutboxId}
use Rattle.bus_messages.specs.declared.body.Body.{Body}
use Rattle.bus_messages.specs.declared.body.Body.TheVariants.{Facts, TextLists}
use Rattle.router.specs.Command.{Command}
use Rattle.router.specs.Passes.{PassState}
use Rattle.router.specs.Standing.TheVariants as standings
use Rattle.peers.specs.Answers.{IsPut, IsPutAt, RefusesBy}
use Rattle.peers.specs.Passing.{HasSeenMore, with_pass}
use Rattle.peers.specs.PeerState.{PeerState}
use Rattle.peers.specs.Rows.{RepliesBy}
use Rattle.peers.specs.declared.error.AnswerError.{AnswerError}
use Rattle.peers.specs.declared.refused.Refused.{Refused}
use Rattle.peers.specs.declared.request.Request.{Request}

-- the arguments are facts
abbrev pub AreFacts : Body → Type 0
AreFacts (Facts _) = Unit {0}
AreFacts _ = ⊥

-- the arguments are lists of texts
abbrev pub AreTextLists : Body → Type 0
AreTextLists (TextLists _) = Unit {0}
AreTextLists _ = ⊥

module _ {M : Type 0} where
  -- The call is answered with arguments of this form, or with an error, which are put so, and changes nothing else.
  abbrev pub AnswersInsightBy : ((List ℕ → Type 0) → PeerState M → Result (Unit {0}) AnswerError → PeerState M → Type 0) → (Body → Type 0) → Request → PeerState M → Result (Unit {0}) AnswerError → PeerState M → Type 0
  AnswersInsightBy put IsOfForm request v result w = ((body : Body) × IsOfForm body × RepliesBy put request body v result w) ⊎ ((why : Refused) × RefusesBy put request why v result w)

  abbrev pub AnswersInsight : (Body → Type 0) → Request → PeerState M → Result (Unit {0}) AnswerError → PeerState M → Type 0
  AnswersInsight IsOfForm request v result w = AnswersInsightBy IsPut IsOfForm request v result w

  -- the same once the pass has seen who owns a name, at the place of what it has then seen
  abbrev pub AnswersInsightLater : (M → OutboxId) → (Body → Type 0) → Request → PeerState M → Result (Unit {0}) AnswerError → PeerState M → Type 0
  AnswersInsightLater outbox_of IsOfForm request v result w =
      (pass : PassState M) × (history : List (Command M)) × HasSeenMore v.pass pass × AnswersInsightBy (IsPutAt standings.State outbox_of history) IsOfForm request (with_pass v pass) result w
