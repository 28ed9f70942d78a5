-- What a pass puts after it has been told what is published.
use Rattle.std.proofs.Common.{◌≡◌, ◌⊎◌, inl, inr, ℕ, ◌==◌, Bool, true, List, [], length, refl, sym, ap, subst, ◌∙◌, append-nil}
use Rattle.std.specs.Prelude.{Result, Ok, Err, IfErr, IfOk, MatchOption, MatchResult, Option, Some, None}
use mathlib.Core.List.{IsPrefix}
use Rattle.outbox.specs.Seated.{OutboxId}
use Rattle.program_table.specs.declared.command.Command.{Command}
use Rattle.message_view.specs.Message.{Message}
use Rattle.message_view.specs.Valid.{Valid}
use Rattle.program_table.specs.History.{after}
use Rattle.program_table.specs.Recipients.{AreRecipients}
use Rattle.program_table.specs.State.{State}
use Rattle.published.proofs.Fronts.{prefix_trans}
use Rattle.routing.specs.SenderView.{SenderView}
use Rattle.routing.specs.RecipientSeats.{HasSeat, AllFit, Keeps, Routed, Unrouted}
use Rattle.passes.specs.declared.error.BusError.{BusError}
use Rattle.passes.specs.declared.error.BusError.TheVariants as errors
use Rattle.passes.specs.declared.reading.Source.{Source}
use Rattle.passes.specs.declared.standing.Standing.{Standing}
use Rattle.passes.specs.declared.unicasts.Sent.{Sent}
use Rattle.passes.specs.declared.unicasts.Sent.TheVariants.{Put, NoOwner, Full}
use Rattle.passes.specs.Deliveries.{IsDelivered}
use Rattle.passes.specs.NameOwners.{IsOwner}
use Rattle.passes.specs.Passes.{PassState, sender_of}
use Rattle.passes.specs.Seats.{KeepsThere, NothingPut, KeepsShut}
use Rattle.passes.specs.Sending.{sending}
use Rattle.passes.specs.Standings.{place_at}
use Rattle.passes.specs.Routes.{max_count, Sends, HasRouted, HasNotPut, HasPut, IsUnrouted}
use Rattle.passes.specs.Unicasts.{Unicasts, IsUnsent}
use Rattle.passes.proofs.Delivering.{delivered}
use Rattle.passes.proofs.Sending.{Turn, answered}

module _ {M : Type 0} where
  prefix_itself : (l : List (Command M)) → IsPrefix l l
  prefix_itself l = ([], append-nil l)

  pub seen_itself : (l k : List (Command M)) → l ≡ k → IsPrefix l k
  seen_itself l k e = let P : List (Command M) → Type 0 = λ x. IsPrefix l x in subst P e (prefix_itself l)

  module _ (outbox_of : M → OutboxId) (v : PassState M) (l : List (Command M)) (begins : IsPrefix v.seen l) where
    abbrev told : PassState M
    told = record v { seen = l }

    sends : (w : PassState M) → Sends outbox_of told w → Sends outbox_of v w
    sends w s = record {
      begins = prefix_trans v.seen l w.seen begins s.begins;
      same = s.same;
      keeps = record { stay = s.keeps.stay; theirs = s.keeps.theirs; shut = s.keeps.shut; waits = s.keeps.waits; fits = s.keeps.fits };
    }

    not_put : (w : PassState M) → HasNotPut outbox_of told w → HasNotPut outbox_of v w
    not_put w h = record { sends = sends w h.sends; count_is = h.count_is; puts = h.puts }

    puts : (standing : Standing) (to : ℕ → Bool) (bytes : List ℕ) (mark : Option (ℕ × ℕ)) (w : PassState M) → HasPut standing to bytes mark told w → HasPut standing to bytes mark v w
    puts standing to bytes mark w h = record { item = h.item; bytes_are = h.bytes_are; mark_is = h.mark_is; place_is = h.place_is; puts = h.puts }

    routed : (A : Type 0) (standing : Standing) (source : Source) (bytes recipients refused : List ℕ) (w : PassState M) (r : Result A BusError) → ((e : BusError) → r ≡ Err e → (e ≡ errors.Closed) → ⊥)
        → MatchResult r (λ _. HasRouted standing outbox_of source bytes told recipients refused w) (λ e. IsUnrouted outbox_of e told w) → MatchResult r (λ _. HasRouted standing outbox_of source bytes v recipients refused w) (λ e. IsUnrouted outbox_of e v w)
    routed A standing source bytes recipients refused w (Ok a) unshut h = record {
      sends = sends w h.sends;
      are = h.are;
      count_is = h.count_is;
      put = puts standing _ bytes _ w h.put;
      rising = h.rising;
      listed = h.listed;
      again = h.again;
      waits = h.waits;
    }
    routed A standing source bytes recipients refused w (Err e) unshut (inl (closed, same)) = absurd (unshut e refl closed)
    routed A standing source bytes recipients refused w (Err e) unshut (inr (why, h)) = inr (why, not_put w h)

    sent : (standing : Standing) (to bytes : List ℕ) (w : PassState M) (r : Result Sent BusError) → ((e : BusError) → r ≡ Err e → (e ≡ errors.Closed) → ⊥)
        → MatchResult r (λ s. Unicasts standing outbox_of to bytes told s w) (λ e. IsUnsent outbox_of e told w) → MatchResult r (λ s. Unicasts standing outbox_of to bytes v s w) (λ e. IsUnsent outbox_of e v w)
    sent standing to bytes w (Ok (Put n)) unshut (owner, s, count, put, waits) = (owner, sends w s, count, puts standing _ bytes None w put, waits)
    sent standing to bytes w (Ok NoOwner) unshut (h, nobody) = (not_put w h, nobody)
    sent standing to bytes w (Ok (Full n)) unshut (h, owner, shut, waits) = (not_put w h, owner, shut, waits)
    sent standing to bytes w (Err e) unshut (inl (closed, same)) = absurd (unshut e refl closed)
    sent standing to bytes w (Err e) unshut (inr (why, h)) = inr (why, not_put w h)

  -- a pass that has seen this is one that has seen this
  seen_at : (p : PassState M) (l : List (Command M)) → p.seen ≡ l → p ≡ record p { seen = l }
  seen_at p l e = ap (λ (h : List (Command M)). record p { seen = h }) e

  -- The pass v was told what is published, gave its sender away, and got it back.
  pub record Telling (v u p w : PassState M) (l : List (Command M)) (s : State M) (old new : SenderView) : Type 0 where
    pub begins : IsPrefix v.seen l
    pub told : u ≡ record v { seen = l }
    pub state : s ≡ after l
    pub taken : p ≡ record u { count = 0; recipient_seats = [] }
    pub is : old ≡ sending u
    pub back : w ≡ record p { count = new.count; recipient_seats = new.recipient_seats }

  turn_of : (v u p w : PassState M) (l : List (Command M)) (s : State M) (old new : SenderView) → Telling v u p w l s old new → Turn (record v { seen = l }) u p p w l s old new
  turn_of v u p w l s old new t = record {
    entered = t.told;
    begins = prefix_itself l;
    state = t.state;
    taken = t.taken;
    is = t.is;
    left = seen_at p l (ap (λ (x : PassState M). x.seen) (t.taken ∙ ap (λ (x : PassState M). record x { count = 0; recipient_seats = [] }) t.told));
    back = t.back;
  }

  pub told_routed : (A : Type 0) (standing : Standing) (place : Option ℕ) (outbox_of : M → OutboxId) (source : Source) (from : Option ℕ) (bytes : List ℕ) (v u p w : PassState M) (l : List (Command M)) (s : State M) (old mid new : SenderView) (recipients refused : List ℕ) (r : Result A BusError)
      → Telling v u p w l s old new → from ≡ sender_of source p.connection
      → ((m : Message) → Valid bytes m → AreRecipients s from m recipients) → KeepsShut recipients old mid → KeepsThere outbox_of s old mid → NothingPut s old mid → Keeps [] mid new → AllFit new.origin new.count new.recipient_seats
      → IfOk r (λ _. Routed place bytes recipients refused mid new) → IfErr r (λ e. ((e ≡ errors.NoMemory) ⊎ ((e ≡ errors.Counts) × (mid.count ≡ max_count))) × Unrouted mid new)
      → place ≡ place_at standing (length l) → MatchResult r (λ _. HasRouted standing outbox_of source bytes v recipients refused w) (λ e. IsUnrouted outbox_of e v w)
  told_routed A standing place outbox_of source from bytes v u p w l s old mid new recipients refused r t is are shut k n after_it fits ok err at =
      routed outbox_of v l t.begins A standing source bytes recipients refused w r (λ e is closed. never r err e is closed)
      (answered A standing place outbox_of source from bytes (record v { seen = l }) u p p w l s old mid new recipients refused r (turn_of v u p w l s old new t) is are shut k n after_it fits ok err at)
    where
      never : (r : Result A BusError) → IfErr r (λ e. ((e ≡ errors.NoMemory) ⊎ ((e ≡ errors.Counts) × (mid.count ≡ max_count))) × Unrouted mid new) → (e : BusError) → r ≡ Err e → e ≡ errors.Closed → ⊥
      never (Ok a) err e is closed = absurd (cc)
      never (Err f) err e is closed = either err.0
        where
          either : (f ≡ errors.NoMemory) ⊎ ((f ≡ errors.Counts) × (mid.count ≡ max_count)) → ⊥
          either (inl why) = absurd (cc)
          either (inr why) = let other = why.0 in absurd (cc)

  pub told_sent : (E : Type 0) (standing : Standing) (place : Option ℕ) (outbox_of : M → OutboxId) (to bytes : List ℕ) (v u p w : PassState M) (l : List (Command M)) (s : State M) (old mid new : SenderView) (found : Result (Option ℕ) E) (r : Result Sent BusError)
      → Telling v u p w l s old new → IfOk found (λ owner. MatchOption owner ((n : ℕ) → IsOwner s to n → ⊥) (λ n. IsOwner s to n × HasSeat n mid.recipient_seats))
      → KeepsThere outbox_of s old mid → NothingPut s old mid → Keeps [] mid new → AllFit new.origin new.count new.recipient_seats
      → IfOk r (IsDelivered place found bytes mid new) → IfErr r (λ e. (e ≡ errors.NoMemory) × Unrouted mid new)
      → place ≡ place_at standing (length l) → MatchResult r (λ sent. Unicasts standing outbox_of to bytes v sent w) (λ e. IsUnsent outbox_of e v w)
  told_sent E standing place outbox_of to bytes v u p w l s old mid new found r t owners k n after_it fits ok err at =
      sent outbox_of v l t.begins standing to bytes w r (λ e is closed. never r err e is closed)
      (delivered E standing place outbox_of to bytes (record v { seen = l }) u p p w l s old mid new found r (turn_of v u p w l s old new t) owners k n after_it fits ok err at)
    where
      never : (r : Result Sent BusError) → IfErr r (λ e. (e ≡ errors.NoMemory) × Unrouted mid new) → (e : BusError) → r ≡ Err e → e ≡ errors.Closed → ⊥
      never (Ok a) err e is closed = absurd (cc)
      never (Err f) err e is closed = let why = err.0 in absurd (cc)
