-- What a session has handled comes first in its stream.
use Rattle.std.proofs.Common.{◌≡◌, ℕ, List, [], ◌∷◌, ◌++◌, sym, ap, ◌∙◌}
use Rattle.std.proofs.lemmas.List.{append_assoc, append-nil}
use Rattle.outbox.specs.Seated.{OutboxId}
use Rattle.frames.specs.Stream.{IsCut, bytes_of}
use Rattle.peers.specs.declared.shares.Shares.{Shares}
use Rattle.sessions.specs.Runs.{Event, fed, handled, looked, Runs, bytes_fed, messages_handled}
use Rattle.sessions.specs.SessionState.{SessionState}

module _ {M : Type 0} where
  pub runs_in_order : (outbox_of : M → OutboxId) (shares : Shares) (events : List Event) (v w : SessionState M) → Runs outbox_of shares events v w → IsCut (v.unread ++ bytes_fed events) (messages_handled events) w.unread
  runs_in_order outbox_of shares [] v w is = record { whole = append-nil v.unread ∙ ap (λ (s : SessionState M). s.unread) (sym is); each = tt }
  runs_in_order outbox_of shares (fed bytes ∷ later) v w (mid, feeds, runs) =
      let cut = runs_in_order outbox_of shares later mid w runs in
      let grown : mid.unread ≡ v.unread ++ bytes = ap (λ (s : SessionState M). s.unread) feeds.1 in
      record {
        whole = sym (append_assoc v.unread bytes (bytes_fed later)) ∙ ap (λ (x : List ℕ). x ++ bytes_fed later) (sym grown) ∙ cut.whole;
        each = cut.each;
      }
  runs_in_order outbox_of shares (handled message ∷ later) v w (mid, next, runs) =
      let cut = runs_in_order outbox_of shares later mid w runs in
      record {
        whole =
            ap (λ (x : List ℕ). x ++ bytes_fed later) next.1 ∙ append_assoc message mid.unread (bytes_fed later) ∙ ap (λ (x : List ℕ). message ++ x) cut.whole
            ∙ sym (append_assoc message (bytes_of (messages_handled later)) w.unread);
        each = (next.0, cut.each);
      }
  runs_in_order outbox_of shares (looked ∷ later) v w (mid, looks, runs) =
      let cut = runs_in_order outbox_of shares later mid w runs in
      let kept : mid.unread ≡ v.unread = ap (λ (s : SessionState M). s.unread) looks.1 in
      record {
        whole = ap (λ (x : List ℕ). x ++ bytes_fed later) (sym kept) ∙ cut.whole;
        each = cut.each;
      }
