-- What a step does to what clauses see of a session.
use Rattle.std.proofs.Common.{◌≡◌, ℕ, Bool, List, [], ◌∷◌, ◌++◌, length, take, drop, Option, Some, None, Result, Ok, Err, inr, refl, sym, ap, subst, ◌∙◌}
use Rattle.auth.specs.Talk.{Standing, taken_of}
use Rattle.std.proofs.lemmas.List.{take-append-drop}
use Rattle.outbox.specs.Seated.{OutboxId}
use Rattle.frames.specs.Stream.{IsMessage}
use Rattle.peers.specs.declared.shares.Shares.{Shares}
use Rattle.peers.specs.PeerState.{PeerState}
use Rattle.sessions.specs.SessionState.{SessionState, outbox_after}
use Rattle.sessions.specs.Steps.{IsFoundShut, IsShutIf, Takes, TakesLine, TakesMessage, Hears}
use Rattle.sessions.specs.declared.error.SessionError.{SessionError}
use Rattle.sessions.specs.declared.error.SessionError.TheVariants.{Slow}
use Rattle.sessions.specs.declared.step.Step.{Step}
use Rattle.sessions.specs.declared.step.Step.TheVariants.{Done}

-- what comes after a message, once that is taken away
after_message : (message rest : List ℕ) → drop (length message) (message ++ rest) ≡ rest
after_message [] rest = refl
after_message (b ∷ message) rest = after_message message rest

module _ {M : Type 0} where
  -- a client whose outbox is found to be shut may be said to be slow
  pub found_shut : (v w : Option (PeerState M)) → IsFoundShut v w → IsShutIf w Slow
  found_shut None w e = let P : Option (PeerState M) → Type 0 = λ p. IsShutIf p Slow in subst P (sym e) tt
  found_shut (Some v) w e = let P : Option (PeerState M) → Type 0 = λ p. IsShutIf p Slow in subst P (sym e) refl

  pub line_taken : (standing later : Standing) (begun now_begun : Bool) (fault : Option SessionError) (unread now : List ℕ) (taken : ℕ) (outbox kept : Option OutboxId) (peer : Option (PeerState M)) (v : SessionState M)
      → record { standing = standing; has_begun = begun; unread = unread; outbox = outbox; peer = peer; fault = fault } ≡ v → kept ≡ outbox → now ≡ drop taken unread → taken ≡ taken_of standing unread → Hears (take taken unread) standing later now_begun
      → TakesLine v (Ok Done) (record { standing = later; has_begun = now_begun; unread = now; outbox = kept; peer = peer; fault = fault })
  line_taken standing later begun now_begun fault unread now taken outbox kept peer v is k n t hears =
      let P : SessionState M → Type 0 = λ s. TakesLine s (Ok Done) (record { standing = later; has_begun = now_begun; unread = now; outbox = kept; peer = peer; fault = fault }) in
      subst P is (take taken unread, sym (take-append-drop taken unread) ∙ ap (λ (x : List ℕ). take taken unread ++ x) (sym n), ap (λ (n : ℕ). take n unread) t, hears, ap (λ (o : Option OutboxId). let s : SessionState M = record { standing = later; has_begun = now_begun; unread = now; outbox = o; peer = peer; fault = fault } in s) k)

  pub message_handled : (outbox_of : M → OutboxId) (shares : Shares) (standing : Standing) (begun : Bool) (fault : Option SessionError) (message rest unread now : List ℕ) (outbox kept : Option OutboxId) (peer later : Option (PeerState M)) (v : SessionState M)
      → record { standing = standing; has_begun = begun; unread = unread; outbox = outbox; peer = peer; fault = fault } ≡ v → IsMessage message → unread ≡ message ++ rest → now ≡ drop (length message) unread
      → Takes outbox_of shares message outbox peer (Ok tt) later → kept ≡ outbox_after later outbox
      → TakesMessage outbox_of shares v (Ok Done) (record { standing = standing; has_begun = begun; unread = now; outbox = kept; peer = later; fault = fault })
  message_handled outbox_of shares standing begun fault message rest unread now outbox kept peer later v is valid first n takes k =
      let w : Option OutboxId → SessionState M = λ o. record { standing = standing; has_begun = begun; unread = now; outbox = o; peer = later; fault = fault } in
      let P : SessionState M → Type 0 = λ s. TakesMessage outbox_of shares s (Ok Done) (w kept) in
      let left : now ≡ rest = n ∙ ap (drop (length message)) first ∙ after_message message rest in
      subst P is (message, (valid, first ∙ ap (λ (x : List ℕ). message ++ x) (sym left), takes, ap w k))

  pub message_refused : (outbox_of : M → OutboxId) (shares : Shares) (standing : Standing) (begun : Bool) (fault : Option SessionError) (message rest unread : List ℕ) (outbox kept : Option OutboxId) (peer later : Option (PeerState M)) (error : SessionError) (result : Result Step SessionError) (v : SessionState M)
      → record { standing = standing; has_begun = begun; unread = unread; outbox = outbox; peer = peer; fault = fault } ≡ v → result ≡ Err error → IsMessage message → unread ≡ message ++ rest
      → Takes outbox_of shares message outbox peer (Err error) later → kept ≡ outbox_after later outbox
      → TakesMessage outbox_of shares v result (record { standing = standing; has_begun = begun; unread = unread; outbox = kept; peer = later; fault = fault })
  message_refused outbox_of shares standing begun fault message rest unread outbox kept peer later error result v is ends valid first takes k =
      let w : Option OutboxId → SessionState M = λ o. record { standing = standing; has_begun = begun; unread = unread; outbox = o; peer = later; fault = fault } in
      let P : SessionState M → Type 0 = λ s. TakesMessage outbox_of shares s (Err error) (w kept) in
      let Q : Result Step SessionError → Type 0 = λ r. TakesMessage outbox_of shares v r (w kept) in
      subst Q (sym ends) (subst P is (inr (message, rest, valid, first, takes, ap w k)))
