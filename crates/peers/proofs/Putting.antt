-- What is put to a client.
use Rattle.std.specs.Prelude.{IfOk, MatchResult}
use Rattle.std.proofs.Common.{◌≡◌, ℕ, Bool, true, false, not, List, [], ◌∷◌, None, Some, Result, Ok, Err, ⊎_elim, inl, inr, refl, sym, ap, subst, ◌∙◌, true≢false, Bor}
use Rattle.outbox.specs.Items.{Item}
use Rattle.outbox.specs.Seated.{OutboxId}
use Rattle.signature.specs.DataType.{array, basic}
use Rattle.message_value.specs.Value.{Values, elements, text, one_value}
use Rattle.message_build.specs.Adding.{string_values, with_argument}
use Rattle.message_build.specs.Asked.{Asked}
use Rattle.message_build.specs.Building.{AreAsked}
use Rattle.bus_messages.specs.Sent.{reply_asked, error_asked}
use Rattle.bus_messages.specs.declared.body.Body.{Body}
use Rattle.bus_messages.specs.declared.body.Body.TheVariants.{Nothing, Text, Texts}
use Rattle.bus_messages.specs.declared.error_name.ErrorName.{ErrorName}
use Rattle.bus_messages.specs.declared.error_name.ErrorName.TheVariants as names
use Rattle.router.specs.Command.{Command}
use Rattle.router.specs.Passes.{PassState}
use Rattle.router.specs.Sent.TheVariants.{Put}
use Rattle.router.specs.Standing.{Standing}
use Rattle.router.specs.Standing.TheVariants as standings
use Rattle.router.specs.Unicasts.{Unicasts}
use Rattle.peers.specs.declared.error.AnswerError.{AnswerError}
use Rattle.peers.specs.declared.error.AnswerError.TheVariants.{NoMemory, Slow}
use Rattle.peers.specs.declared.identity.Identity.{Identity}
use Rattle.peers.specs.declared.refused.Refused.{Refused}
use Rattle.peers.specs.declared.refused.Refused.TheVariants.{Ended, Error}
use Rattle.peers.specs.declared.request.Request.{Request}
use Rattle.peers.specs.Answers.{after_own_put, after_refusal, IsPut, IsPutAt, IsEither, TurnsAwayIf, AnswersBy, IsAnswered, IsRefused, RefusesBy, after_serial, fault_asked, reply_with, text_with, texts_with, text_values, fault_with}
use Rattle.peers.specs.Asked.{HasLooked}
use Rattle.peers.specs.Holdings.{HoldingsState}
use Rattle.peers.specs.LentTexts.{lent_texts}
use Rattle.peers.specs.PeerState.{OwnState, PeerState, name_of}
use Rattle.peers.specs.Serials.{serial_after}

-- each definition of an answer is the message that a builder is asked for
pub reply_is : (serial : ℕ) (to : List ℕ) (request : Request) (body : Body) (bytes : List ℕ) → AreAsked (reply_asked serial (Some to) request.serial body) bytes → AreAsked (reply_with serial to request body) bytes
unfolding reply_with
reply_is serial to request body bytes h = h

pub fault_is : (serial : ℕ) (to : List ℕ) (request : Request) (name : ErrorName) (bytes : List ℕ) → AreAsked (error_asked serial (Some to) request.serial name) bytes → AreAsked (fault_with serial to request name) bytes
unfolding fault_with
fault_is serial to request name bytes h = h

pub text_is : (serial : ℕ) (to : List ℕ) (request : Request) (string : Bor (List ℕ)) → reply_with serial to request (Text string) ≡ text_with serial to request string.now
unfolding reply_with text_with
text_is serial to request string = refl

values_are : (texts : List (Bor (List ℕ))) → string_values texts ≡ text_values (lent_texts texts)
values_are [] = refl
values_are (string ∷ more) = ap (λ (values : Values). one_value (text string.now) values) (values_are more)

pub texts_are : (serial : ℕ) (to : List ℕ) (request : Request) (texts : Bor (List (Bor (List ℕ)))) → reply_with serial to request (Texts texts) ≡ texts_with serial to request (lent_texts texts.now)
unfolding reply_with texts_with
texts_are serial to request texts = ap (λ (values : Values). with_argument (reply_asked serial (Some to) request.serial Nothing) (array (basic 115)) (elements values)) (values_are texts.now)

pub not_false : (b : Bool) → not b ≡ false → b ≡ true
not_false true e = refl
not_false false e = absurd (true≢false e)

pub turned_away : (request : Request) (name : ErrorName) (item : Item) (own new : OwnState) (result : Result (Unit {0}) AnswerError) → request.wants_answer ≡ true → item.mark ≡ None
    → IsEither (error_asked 1 None request.serial name) (error_asked 1 None request.serial names.NoMemory) item.bytes
    → MatchResult result (λ _. new ≡ after_own_put item own) (λ error. (error ≡ Slow) × (new ≡ after_refusal error own)) → TurnsAwayIf request.wants_answer request name own result new
turned_away request name item own new (Ok x) wants mark bytes put = subst (λ b. TurnsAwayIf b request name own (Ok x) new) (sym wants) (item, mark, bytes, put)
turned_away request name item own new (Err error) wants mark bytes put = subst (λ b. TurnsAwayIf b request name own (Err error) new) (sym wants) (inl put.0, put.1)

module _ {M : Type 0} where
  -- what is put by a peer that is seen as another record of the same, and whose bytes are so for another reason
  pub put_as : (P Q : List ℕ → Type 0) (u v : PeerState M) (result : Result (Unit {0}) AnswerError) (w : PeerState M) → u ≡ v → ((bytes : List ℕ) → P bytes → Q bytes) → IsPut P u result w → IsPut Q v result w
  put_as P Q u v (Ok x) w e f (item, mark, p, is) = (item, mark, f item.bytes p, is ∙ ap (λ (s : PeerState M). record s { own = after_own_put item s.own }) e)
  put_as P Q u v (Err x) w e f (why, is) = (why, is ∙ ap (λ (s : PeerState M). record s { own = after_refusal x s.own }) e)

  -- an answer was built with the serial and the name of the client
  pub reply_built : (request : Request) (body : Body) (v : PeerState M) (serial : ℕ) (to bytes : List ℕ) → serial ≡ v.serial → to ≡ name_of v → AreAsked (reply_asked serial (Some to) request.serial body) bytes
      → IsEither (reply_with v.serial (name_of v) request body) (fault_asked v request names.NoMemory) bytes
  reply_built request body v serial to bytes s t built =
      let A : ℕ → List ℕ → Type 0 = λ n x. AreAsked (reply_with n x request body) bytes in
      inl (subst (A v.serial) t (subst (λ n. A n to) s (reply_is serial to request body bytes built)))

  fault_moved : (request : Request) (name : ErrorName) (v : PeerState M) (serial : ℕ) (to bytes : List ℕ) → serial ≡ v.serial → to ≡ name_of v → AreAsked (error_asked serial (Some to) request.serial name) bytes → AreAsked (fault_asked v request name) bytes
  fault_moved request name v serial to bytes s t built =
      let A : ℕ → List ℕ → Type 0 = λ n x. AreAsked (fault_with n x request name) bytes in
      subst (A v.serial) t (subst (λ n. A n to) s (fault_is serial to request name bytes built))

  -- an error was
  pub faults_are : (request : Request) (name : ErrorName) (v : PeerState M) (serial : ℕ) (to : List ℕ) (result : Result (List ℕ) AnswerError) → serial ≡ v.serial → to ≡ name_of v
      → IfOk result (IsEither (error_asked serial (Some to) request.serial name) (error_asked serial (Some to) request.serial names.NoMemory)) → IfOk result (IsEither (fault_asked v request name) (fault_asked v request names.NoMemory))
  faults_are request name v serial to (Ok bytes) s t built = ⊎_elim (λ h. inl (fault_moved request name v serial to bytes s t h)) (λ h. inr (fault_moved request names.NoMemory v serial to bytes s t h)) built
  faults_are request name v serial to (Err error) s t built = tt

  -- the error NoMemory was, in place of an answer
  pub fault_built : (request : Request) (asked : Asked) (v : PeerState M) (serial : ℕ) (to : List ℕ) (result : Result (List ℕ) AnswerError) → serial ≡ v.serial → to ≡ name_of v
      → IfOk result (IsEither (error_asked serial (Some to) request.serial names.NoMemory) (error_asked serial (Some to) request.serial names.NoMemory)) → IfOk result (IsEither asked (fault_asked v request names.NoMemory))
  fault_built request asked v serial to (Ok bytes) s t built = let moved = fault_moved request names.NoMemory v serial to bytes s t in inr (⊎_elim moved moved built)
  fault_built request asked v serial to (Err error) s t built = tt

  pub placed_as : (standing : Standing) (outbox_of : M → OutboxId) (history : List (Command M)) (P Q : List ℕ → Type 0) (v : PeerState M) (result : Result (Unit {0}) AnswerError) (w : PeerState M) → ((bytes : List ℕ) → P bytes → Q bytes)
      → IsPutAt standing outbox_of history P v result w → IsPutAt standing outbox_of history Q v result w
  placed_as standing outbox_of history P Q v (Ok x) w f (bytes, n, p, put, seen, same) = (bytes, n, f bytes p, put, seen, same)
  placed_as standing outbox_of history P Q v (Err x) w f h = h

  no_memory_if : (put : ((List ℕ → Type 0) → PeerState M → Result (Unit {0}) AnswerError → PeerState M → Type 0)) (wants : Bool) (request : Request) (asked : Asked) (v : PeerState M) (result : Result (Unit {0}) AnswerError) (w : PeerState M)
      → ((P Q : List ℕ → Type 0) → ((bytes : List ℕ) → P bytes → Q bytes) → put P (after_serial v) result w → put Q (after_serial v) result w) → AnswersBy put wants request (fault_asked v request names.NoMemory) v result w → AnswersBy put wants request asked v result w
  no_memory_if put false request asked v result w mono h = h
  no_memory_if put true request asked v result w mono h =
      let fault = fault_asked v request names.NoMemory in
      mono (IsEither fault fault) (IsEither asked fault) (λ bytes are. inr (⊎_elim (λ x. x) (λ x. x) are)) h

  -- the error NoMemory may stand in the place of any answer
  pub no_memory_for : (request : Request) (asked : Asked) (v : PeerState M) (result : Result (Unit {0}) AnswerError) (w : PeerState M) → IsRefused request (Error names.NoMemory) v result w → IsAnswered request asked v result w
  no_memory_for request asked v result w h = no_memory_if IsPut request.wants_answer request asked v result w (λ P Q f put. put_as P Q (after_serial v) (after_serial v) result w refl f put) h

  pub no_memory_placed : (outbox_of : M → OutboxId) (history : List (Command M)) (request : Request) (asked : Asked) (v : PeerState M) (result : Result (Unit {0}) AnswerError) (w : PeerState M) → RefusesBy (IsPutAt standings.State outbox_of history) request (Error names.NoMemory) v result w
      → AnswersBy (IsPutAt standings.State outbox_of history) request.wants_answer request asked v result w
  no_memory_placed outbox_of history request asked v result w h =
      no_memory_if (IsPutAt standings.State outbox_of history) request.wants_answer request asked v result w (λ P Q f put. placed_as standings.State outbox_of history P Q (after_serial v) result w f put) h

  -- a caller that waits was answered
  pub answered_if : (put : ((List ℕ → Type 0) → PeerState M → Result (Unit {0}) AnswerError → PeerState M → Type 0)) (request : Request) (asked : Asked) (v : PeerState M) (result : Result (Unit {0}) AnswerError) (w : PeerState M) → request.wants_answer ≡ true
      → put (IsEither asked (fault_asked v request names.NoMemory)) (after_serial v) result w → AnswersBy put request.wants_answer request asked v result w
  answered_if put request asked v result w e h = let P : Bool → Type 0 = λ b. AnswersBy put b request asked v result w in subst P (sym e) h

  pub refused_if : (put : ((List ℕ → Type 0) → PeerState M → Result (Unit {0}) AnswerError → PeerState M → Type 0)) (request : Request) (why : Refused) (name : ErrorName) (v : PeerState M) (result : Result (Unit {0}) AnswerError) (w : PeerState M) → why ≡ Error name → request.wants_answer ≡ true
      → put (IsEither (fault_asked v request name) (fault_asked v request names.NoMemory)) (after_serial v) result w → RefusesBy put request why v result w
  refused_if put request why name v result w is e h = let P : Refused → Type 0 = λ y. RefusesBy put request y v result w in subst P (sym is) (answered_if put request (fault_asked v request name) v result w e h)

  -- what was built with the next serial was put, or nothing was built
  pub built_put : (P : List ℕ → Type 0) (bytes : List ℕ) (v u w : PeerState M) (result : Result (Unit {0}) AnswerError) → u ≡ after_serial v → P bytes → IsPut (λ put. put ≡ bytes) u result w → IsPut P (after_serial v) result w
  built_put P bytes v u w result is built put = put_as (λ put. put ≡ bytes) P u (after_serial v) result w is (λ put e. subst P (sym e) built) put

  pub built_placed : (standing : Standing) (outbox_of : M → OutboxId) (history : List (Command M)) (P : List ℕ → Type 0) (bytes : List ℕ) (v u w : PeerState M) (result : Result (Unit {0}) AnswerError) → u ≡ after_serial v → P bytes
      → IsPutAt standing outbox_of history (λ put. put ≡ bytes) u result w → IsPutAt standing outbox_of history P (after_serial v) result w
  built_placed standing outbox_of history P bytes v u w result is built put =
      let S : PeerState M → Type 0 = λ s. IsPutAt standing outbox_of history P s result w in
      subst S is (placed_as standing outbox_of history (λ put. put ≡ bytes) P u result w (λ put e. subst P (sym e) built) put)

  pub unbuilt_put : (P : List ℕ → Type 0) (v w : PeerState M) (error : AnswerError) → w ≡ after_serial v → error ≡ NoMemory → IsPut P (after_serial v) (Err error) w
  unbuilt_put P v w error is none =
      let Q : AnswerError → Type 0 = λ e. IsPut P (after_serial v) (Err e) w in subst Q (sym none) (inr refl, is)

  pub unbuilt_placed : (standing : Standing) (outbox_of : M → OutboxId) (history : List (Command M)) (P : List ℕ → Type 0) (v w : PeerState M) (error : AnswerError) → w ≡ after_serial v → error ≡ NoMemory → IsPutAt standing outbox_of history P (after_serial v) (Err error) w
  unbuilt_placed standing outbox_of history P v w error is none =
      let Q : AnswerError → Type 0 = λ e. IsPutAt standing outbox_of history P (after_serial v) (Err e) w in
      let S : PeerState M → Type 0 = λ s. IsPutAt standing outbox_of history P (after_serial v) (Err NoMemory) s in
      subst Q (sym none) (subst S (sym is) (inr refl, inl refl, refl))

  -- a message that the pass sent to the client's own name
  pub sent_placed : (standing : Standing) (outbox_of : M → OutboxId) (history : List (Command M)) (bytes to : List ℕ) (n : ℕ) (u v w : PeerState M) → u ≡ v → to ≡ name_of v → Unicasts standing outbox_of to bytes u.pass (Put n) w.pass → w.pass.seen ≡ history → w ≡ record u { pass = w.pass }
      → IsPutAt standing outbox_of history (λ put. put ≡ bytes) v (Ok tt) w
  sent_placed standing outbox_of history bytes to n u v w is named put seen same =
      let T : List ℕ → Type 0 = λ x. Unicasts standing outbox_of x bytes v.pass (Put n) w.pass in
      let U : PeerState M → Type 0 = λ s. Unicasts standing outbox_of to bytes s.pass (Put n) w.pass in
      (bytes, n, refl, subst T named (subst U is put), seen, same ∙ ap (λ (s : PeerState M). record s { pass = w.pass }) is)

  -- a name that was asked for and whose owner is told in what the pass has then seen
  pub refused_seen : (outbox_of : M → OutboxId) (history : List (Command M)) (request : Request) (why : Refused) (pass : PassState M) (v : PeerState M) (result : Result (Unit {0}) AnswerError) (w : PeerState M) → HasLooked why history pass
      → RefusesBy (IsPutAt standings.State outbox_of history) request why v result w → RefusesBy (IsPutAt standings.State outbox_of pass.seen) request why v result w
  refused_seen outbox_of history request Ended pass v result w seen h = h
  refused_seen outbox_of history request (Error name) pass v result w seen h =
      let P : List (Command M) → Type 0 = λ l. RefusesBy (IsPutAt standings.State outbox_of l) request (Error name) v result w in subst P (sym seen) h

  -- a peer that has used a serial
  pub used_serial : (pass : PassState M) (own : OwnState) (identity : Identity) (holdings : HoldingsState) (serial next : ℕ) (v : PeerState M) → record { pass = pass; own = own; serial = serial; identity = identity; holdings = holdings } ≡ v → next ≡ serial_after serial
      → record { pass = pass; own = own; serial = next; identity = identity; holdings = holdings } ≡ after_serial v
  used_serial pass own identity holdings serial next v is e = ap (λ (n : ℕ). record { pass = pass; own = own; serial = n; identity = identity; holdings = holdings }) e ∙ ap after_serial is
