-- The table of the methods of the bus: what each call does, and is answered (D-Bus Specification, "Message Bus Messages").
use Rattle.std.specs.Prelude.{ℕ, false, [], ◌∷◌, Result, Ok, Err, vec_len}
use Rattle.signature.specs.Name.{bus_name}
use Rattle.entry_table.specs.AttachedProgram.{nothing_asked}
use Rattle.outbox.specs.Seated.{OutboxId}
use Rattle.bus_messages.specs.declared.body.Body.TheVariants as bodies
use Rattle.bus_messages.specs.declared.call.Call.{Call}
use Rattle.bus_messages.specs.declared.call.Call.TheVariants as calls
use Rattle.bus_messages.specs.declared.error_name.ErrorName.TheVariants as names
use Rattle.bus_messages.specs.Introspection.{introspection_text}
use Rattle.router.specs.Command.TheVariants.{Detach}
use Rattle.router.specs.Calls.{Once, Answers}
use Rattle.router.specs.Readings.{AddsMatch, RemovesMatch}
use Rattle.peers.specs.Answers.{IsRefused}
use Rattle.peers.specs.Attachments.{AttachesProgram, AttachesFilter}
use Rattle.peers.specs.Holdings.{after_add, after_remove, after_detach}
use Rattle.peers.specs.Monitoring.{BecomesMonitor}
use Rattle.peers.specs.NameRows.{RequestsName, ReleasesName}
use Rattle.peers.specs.PeerState.{PeerState}
use Rattle.peers.specs.Queries.{RepliesText, RepliesTexts, RepliesDigits, RepliesMachineId, AnswersFound, AreAllNames, AreQueuedFor, AnswersOwner, NamesOwner, TellsWhetherOwned, TellsOfOwned, bus_id, credentials_of, user_found}
use Rattle.peers.specs.Rows.{Replies, IsConfirmed}
use Rattle.peers.specs.Shares.{WithinShare, rule_limit}
use Rattle.peers.specs.Stats.{AreFacts, AreTextLists, AnswersInsight, AnswersInsightLater}
use Rattle.peers.specs.declared.error.AnswerError.{AnswerError}
use Rattle.peers.specs.declared.refused.Refused.TheVariants.{Error}
use Rattle.peers.specs.declared.request.Request.{Request}
use Rattle.peers.specs.declared.shares.Shares.{Shares}

-- what StartServiceByName is answered of a name that has an owner
abbrev pub already_running : ℕ
already_running = 2

module _ {M : Type 0} where
  abbrev pub Performs : (M → OutboxId) → Shares → Request → Call → PeerState M → Result (Unit {0}) AnswerError → PeerState M → Type 0
  Performs outbox_of shares request calls.Hello v result w = IsRefused request (Error names.Failed) v result w
  Performs outbox_of shares request (calls.AddMatch text) v result w =
      WithinShare (rule_limit shares v.holdings) request (IsConfirmed request (λ asked pass. Once (λ before next. AddsMatch text.now v.pass before asked pass next)) after_add v result w) v result w
  Performs outbox_of shares request (calls.RemoveMatch text) v result w = IsConfirmed request (λ asked pass. Once (λ before next. RemovesMatch text.now v.pass before asked pass next)) after_remove v result w
  Performs outbox_of shares request (calls.Attach edition program) v result w = AttachesProgram shares request edition (vec_len program) program.items nothing_asked v result w
  Performs outbox_of shares request (calls.AttachFilter text) v result w = AttachesFilter shares request text.now v result w
  Performs outbox_of shares request (calls.Detach id) v result w = IsConfirmed request (λ asked pass. Once (λ before next. Answers false v.pass before (Detach v.pass.connection id) asked pass next)) (after_detach id) v result w
  Performs outbox_of shares request (calls.RequestName name flags) v result w = RequestsName outbox_of shares request name.now flags v result w
  Performs outbox_of shares request (calls.ReleaseName name) v result w = ReleasesName outbox_of request name.now v result w
  Performs outbox_of shares request (calls.GetNameOwner name) v result w = AnswersOwner outbox_of name.now (NamesOwner request) v result w
  Performs outbox_of shares request (calls.NameHasOwner name) v result w = AnswersOwner outbox_of name.now (TellsWhetherOwned request) v result w
  Performs outbox_of shares request (calls.StartServiceByName name) v result w = AnswersOwner outbox_of name.now (TellsOfOwned request (Ok (bodies.Number already_running)) names.ServiceUnknown) v result w
  Performs outbox_of shares request (calls.GetConnectionUnixUser name) v result w = AnswersOwner outbox_of name.now (TellsOfOwned request (user_found v.identity.user) names.NameHasNoOwner) v result w
  Performs outbox_of shares request (calls.GetConnectionUnixProcessId name) v result w = AnswersOwner outbox_of name.now (TellsOfOwned request (Err names.UnixProcessIdUnknown) names.NameHasNoOwner) v result w
  Performs outbox_of shares request (calls.GetConnectionCredentials name) v result w = AnswersOwner outbox_of name.now (TellsOfOwned request (Ok (credentials_of v.identity.user)) names.NameHasNoOwner) v result w
  Performs outbox_of shares request (calls.GetAdtAuditSessionData name) v result w = AnswersOwner outbox_of name.now (TellsOfOwned request (Err names.AdtAuditDataUnknown) names.NameHasNoOwner) v result w
  Performs outbox_of shares request (calls.GetConnectionSelinuxSecurityContext name) v result w = AnswersOwner outbox_of name.now (TellsOfOwned request (Err names.SelinuxSecurityContextUnknown) names.NameHasNoOwner) v result w
  Performs outbox_of shares request (calls.BecomeMonitor rules flags) v result w = BecomesMonitor outbox_of request v result w
  Performs outbox_of shares request calls.GetStats v result w = AnswersInsight AreFacts request v result w
  Performs outbox_of shares request (calls.GetConnectionStats name) v result w = AnswersInsightLater outbox_of AreFacts request v result w
  Performs outbox_of shares request calls.GetAllMatchRules v result w = AnswersInsight AreTextLists request v result w
  Performs outbox_of shares request calls.ListActivatableNames v result w = RepliesTexts request (bus_name ∷ []) v result w
  Performs outbox_of shares request calls.Ping v result w = Replies request bodies.Nothing v result w
  Performs outbox_of shares request (calls.Get property) v result w = Replies request (bodies.Property property) v result w
  Performs outbox_of shares request calls.GetAll v result w = Replies request bodies.Properties v result w
  Performs outbox_of shares request calls.GetAllOfNone v result w = Replies request bodies.EmptyDict v result w
  Performs outbox_of shares request calls.UpdateActivationEnvironment v result w = Replies request bodies.Nothing v result w
  Performs outbox_of shares request calls.ReloadConfig v result w = Replies request bodies.Nothing v result w
  Performs outbox_of shares request calls.ListNames v result w = AnswersFound outbox_of AreAllNames request v result w
  Performs outbox_of shares request (calls.ListQueuedOwners name) v result w = AnswersFound outbox_of (AreQueuedFor name.now) request v result w
  Performs outbox_of shares request calls.GetId v result w = RepliesDigits request (bus_id v.identity) v result w
  Performs outbox_of shares request calls.GetMachineId v result w = RepliesMachineId request v.identity.machine_id v result w
  Performs outbox_of shares request calls.Introspect v result w = RepliesText request introspection_text v result w
