-- Unicast messages.
use Rattle.std.proofs.Common.{◌≡◌, inr, ℕ, ◌==◌, ◌&&◌, ◌++◌, append-nil, Bool, true, false, cond, List, [], ◌∷◌, length, Option, Some, None, refl, sym, ap, subst, ◌∙◌}
use Rattle.std.specs.Prelude.{Result, Ok, Err, IfOk, IfErr, IfSome, MatchOption, MatchResult}
use Rattle.outbox.specs.Items.{Item}
use Rattle.outbox.specs.Seated.{OutboxId}
use Rattle.program_table.specs.declared.command.Command.{Command}
use Rattle.program_table.specs.History.{after}
use Rattle.passes.specs.NameOwners.{IsOwner}
use Rattle.program_table.specs.State.{State}
use Rattle.routing.specs.SenderView.{SenderView}
use Rattle.routing.specs.RecipientSeats.{puts_at, shut_at, waits_at, HasSeat, AllFit, Keeps, Unrouted, SentTo}
use Rattle.passes.specs.declared.error.BusError.{BusError}
use Rattle.passes.specs.declared.error.BusError.TheVariants as errors
use Rattle.passes.specs.declared.unicasts.Sent.{Sent}
use Rattle.passes.specs.declared.unicasts.Sent.TheVariants.{Put, NoOwner, Full}
use Rattle.passes.specs.Deliveries.{IsDelivered}
use Rattle.passes.specs.declared.standing.Standing.{Standing}
use Rattle.passes.specs.Passes.{PassState}
use Rattle.passes.specs.Standings.{place_at}
use Rattle.passes.specs.Routes.{Sends, HasPut, HasNotPut}
use Rattle.passes.specs.Seats.{KeepsThere, NothingPut}
use Rattle.passes.specs.Sending.{sending}
use Rattle.passes.specs.Unicasts.{Unicasts, IsUnsent}
use Rattle.passes.proofs.Seats.{keeps_on, nothing_on, kept, unrouted}
use Rattle.passes.proofs.Sending.{Turn, turned, own_keeps, own_nothing, sends_to, has_not_put}

and_true : (b : Bool) → (b && true) ≡ b
and_true true = refl
and_true false = refl

and_false : (b : Bool) → (b && false) ≡ false
and_false true = refl
and_false false = refl

-- a message that was refused was put nowhere
full_unrouted : (place : Option ℕ) (n : ℕ) (bytes : List ℕ) (old new : SenderView) → SentTo place n bytes false old new → Unrouted old new
full_unrouted place n bytes old new s = record {
  count_is = s.count_is;
  puts = λ m. s.puts m ∙ ap (λ (b : Bool). puts_at m old.recipient_seats ++ cond b (s.item ∷ []) []) (and_false (n == m)) ∙ append-nil (puts_at m old.recipient_seats);
}

unrouted_same : (old new : SenderView) → new ≡ old → Unrouted old new
unrouted_same old new e = record { count_is = ap (λ (v : SenderView). v.count) e; puts = λ n. ap (λ (v : SenderView). puts_at n v.recipient_seats) e }

-- an owner that was found has its seat
pub its_seat : (E : Type 0) (found : Result (Option ℕ) E) (N : Type 0) (O H : ℕ → Type 0) → IfOk found (λ owner. MatchOption owner N (λ n. O n × H n)) → IfOk found (λ owner. IfSome owner H)
its_seat E (Ok None) N O H h = tt
its_seat E (Ok (Some n)) N O H h = h.1
its_seat E (Err e) N O H h = tt

module _ {M : Type 0} where
  -- what became of a unicast message
  pub delivered : (E : Type 0) (standing : Standing) (place : Option ℕ) (outbox_of : M → OutboxId) (to bytes : List ℕ) (v u p q w : PassState M) (l : List (Command M)) (s : State M) (old mid new : SenderView) (found : Result (Option ℕ) E) (r : Result Sent BusError)
      → Turn v u p q w l s old new → IfOk found (λ owner. MatchOption owner ((n : ℕ) → IsOwner s to n → ⊥) (λ n. IsOwner s to n × HasSeat n mid.recipient_seats))
      → KeepsThere outbox_of s old mid → NothingPut s old mid → Keeps [] mid new → AllFit new.origin new.count new.recipient_seats
      → IfOk r (IsDelivered place found bytes mid new) → IfErr r (λ e. (e ≡ errors.NoMemory) × Unrouted mid new)
      → place ≡ place_at standing (length l) → MatchResult r (λ sent. Unicasts standing outbox_of to bytes v sent w) (λ e. IsUnsent outbox_of e v w)
  delivered E standing place outbox_of to bytes v u p q w l s old mid new found r t owners k n after_it fits ok err at = go r ok err
    where
      is : w ≡ record v { seen = l; count = new.count; recipient_seats = new.recipient_seats }
      is = turned v u p q w l s old new t

      nothing : NothingPut (after l) (sending v) mid
      nothing = own_nothing v u p q w l s old new mid t n

      all : KeepsThere outbox_of (after l) (sending v) new
      all = keeps_on outbox_of (after l) (sending v) mid new (own_keeps outbox_of v u p q w l s old new mid t k) (kept outbox_of (after l) mid new after_it)

      not_put : Unrouted mid new → HasNotPut outbox_of v w
      not_put un = has_not_put outbox_of v w l new is t.begins all (nothing_on (after l) (sending v) mid new nothing (unrouted (after l) mid new un)) fits

      owner : (m : ℕ) → found ≡ Ok (Some m) → IsOwner (after w.seen) to m
      owner m e =
          let F : Result (Option ℕ) E → Type 0 = λ x. IfOk x (λ owner. MatchOption owner ((n : ℕ) → IsOwner s to n → ⊥) (λ n. IsOwner s to n × HasSeat n mid.recipient_seats)) in
          let its = subst F e owners in
          let S : State M → Type 0 = λ x. IsOwner x to m in
          let W : PassState M → Type 0 = λ x. IsOwner (after x.seen) to m in
          subst W (sym is) (subst S t.state its.0)

      nobody : found ≡ Ok None → (m : ℕ) → IsOwner (after w.seen) to m → ⊥
      nobody e =
          let F : Result (Option ℕ) E → Type 0 = λ x. IfOk x (λ owner. MatchOption owner ((n : ℕ) → IsOwner s to n → ⊥) (λ n. IsOwner s to n × HasSeat n mid.recipient_seats)) in
          let none = subst F e owners in
          let S : State M → Type 0 = λ x. (m : ℕ) → IsOwner x to m → ⊥ in
          let W : PassState M → Type 0 = λ x. (m : ℕ) → IsOwner (after x.seen) to m → ⊥ in
          subst W (sym is) (subst S t.state none)

      put : (m : ℕ) → SentTo place m bytes true mid new → Sends outbox_of v w × (w.count ≡ v.count) × HasPut standing (λ j. m == j) bytes None v w × (waits_at m w.recipient_seats ≡ true)
      put m sent =
          let W : PassState M → Type 0 = λ x. Sends outbox_of v x × (x.count ≡ v.count) × HasPut standing (λ j. m == j) bytes None v x × (waits_at m x.recipient_seats ≡ true) in
          subst W (sym is) (
            sends_to outbox_of v l new t.begins all fits,
            sent.count_is ∙ nothing.count_is,
            record {
              item = sent.item;
              bytes_are = sent.bytes_are;
              mark_is = sent.mark_is;
              place_is = sent.place_is ∙ at;
              puts = λ j there.
                  sent.puts j ∙ ap (λ (x : List Item). x ++ cond ((m == j) && true) (sent.item ∷ []) []) (nothing.puts j there)
                  ∙ ap (λ (b : Bool). puts_at j v.recipient_seats ++ cond b (sent.item ∷ []) []) (and_true (m == j));
            },
            sent.waits,
          )

      shut : (m : ℕ) → shut_at m new.recipient_seats ≡ true → waits_at m new.recipient_seats ≡ true → (shut_at m w.recipient_seats ≡ true) × (waits_at m w.recipient_seats ≡ true)
      shut m e waits = let W : PassState M → Type 0 = λ x. (shut_at m x.recipient_seats ≡ true) × (waits_at m x.recipient_seats ≡ true) in subst W (sym is) (e, waits)

      go : (r : Result Sent BusError) → IfOk r (IsDelivered place found bytes mid new) → IfErr r (λ e. (e ≡ errors.NoMemory) × Unrouted mid new) → MatchResult r (λ sent. Unicasts standing outbox_of to bytes v sent w) (λ e. IsUnsent outbox_of e v w)
      go (Ok (Put n)) ok err = let done = put n ok.1 in (owner n ok.0, done.0, done.1, done.2, done.3)
      go (Ok (Full n)) ok err = let done = shut n ok.2 ok.1.waits in (not_put (full_unrouted place n bytes mid new ok.1), owner n ok.0, done.0, done.1)
      go (Ok NoOwner) ok err = (not_put (unrouted_same mid new ok.1), nobody ok.0)
      go (Err e) ok err = inr (err.0, not_put err.1)
