-- What a pass sends by its sender.
use Rattle.std.proofs.Common.{◌≡◌, ◌⊎◌, inl, inr, ℕ, ◌+◌, ◌++◌, List, [], ◌∷◌, length, cond, Option, Some, refl, sym, ap, subst, ◌∙◌}
use Rattle.std.specs.Prelude.{Result, Ok, Err, IfOk, IfErr, MatchResult}
use mathlib.Core.List.{IsPrefix}
use Rattle.outbox.specs.Items.{Item}
use Rattle.outbox.specs.Seated.{OutboxId}
use Rattle.message_view.specs.Message.{Message}
use Rattle.message_view.specs.Valid.{Valid}
use Rattle.program_table.specs.declared.command.Command.{Command}
use Rattle.program_table.specs.History.{after}
use Rattle.program_table.specs.Recipients.{AreRecipients}
use Rattle.program_table.specs.State.{State}
use Rattle.routing.specs.SenderView.{SenderView}
use Rattle.routing.specs.RecipientSeats.{is_put, AllFit, Keeps, Routed, Unrouted}
use Rattle.passes.specs.declared.reading.Source.{Source}
use Rattle.passes.specs.declared.error.BusError.{BusError}
use Rattle.passes.specs.declared.error.BusError.TheVariants as errors
use Rattle.passes.specs.declared.standing.Standing.{Standing}
use Rattle.passes.specs.Passes.{PassState, sender_of}
use Rattle.passes.specs.Standings.{place_at}
use Rattle.passes.specs.Routes.{max_count, Sends, HasRouted, HasNotPut, IsUnrouted}
use Rattle.passes.specs.Seats.{KeepsThere, NothingPut, KeepsShut}
use Rattle.passes.specs.Sending.{sending}
use Rattle.passes.proofs.Seats.{keeps_on, nothing_on, kept, unrouted}

module _ {M : Type 0} where
  -- The pass v entered the state s after the history l, gave its sender away, left, and got its sender back.
  pub record Turn (v u p q w : PassState M) (l : List (Command M)) (s : State M) (old new : SenderView) : Type 0 where
    pub entered : u ≡ v
    pub begins : IsPrefix v.seen l
    pub state : s ≡ after l
    pub taken : p ≡ record u { count = 0; recipient_seats = [] }
    pub is : old ≡ sending u
    pub left : q ≡ record p { seen = l }
    pub back : w ≡ record q { count = new.count; recipient_seats = new.recipient_seats }

  pub turned : (v u p q w : PassState M) (l : List (Command M)) (s : State M) (old new : SenderView) → Turn v u p q w l s old new → w ≡ record v { seen = l; count = new.count; recipient_seats = new.recipient_seats }
  turned v u p q w l s old new t =
      t.back
      ∙ ap (λ (x : PassState M). record x { count = new.count; recipient_seats = new.recipient_seats }) (t.left ∙ ap (λ (x : PassState M). record x { seen = l }) (t.taken ∙ ap (λ (x : PassState M). record x { count = 0; recipient_seats = [] }) t.entered))

  its_sender : (v u p q w : PassState M) (l : List (Command M)) (s : State M) (old new : SenderView) → Turn v u p q w l s old new → old ≡ sending v
  its_sender v u p q w l s old new t = t.is ∙ ap (λ (x : PassState M). sending x) t.entered

  -- what the sender keeps of the connections that are there after what the pass has seen then
  pub own_keeps : (outbox_of : M → OutboxId) (v u p q w : PassState M) (l : List (Command M)) (s : State M) (old new mid : SenderView) → Turn v u p q w l s old new → KeepsThere outbox_of s old mid → KeepsThere outbox_of (after l) (sending v) mid
  own_keeps outbox_of v u p q w l s old new mid t k =
      let S : State M → Type 0 = λ x. KeepsThere outbox_of x old mid in
      let O : SenderView → Type 0 = λ x. KeepsThere outbox_of (after l) x mid in
      subst O (its_sender v u p q w l s old new t) (subst S t.state k)

  pub own_nothing : (v u p q w : PassState M) (l : List (Command M)) (s : State M) (old new mid : SenderView) → Turn v u p q w l s old new → NothingPut s old mid → NothingPut (after l) (sending v) mid
  own_nothing v u p q w l s old new mid t k =
      let S : State M → Type 0 = λ x. NothingPut x old mid in
      let O : SenderView → Type 0 = λ x. NothingPut (after l) x mid in
      subst O (its_sender v u p q w l s old new t) (subst S t.state k)

  pub sends_to : (outbox_of : M → OutboxId) (v : PassState M) (l : List (Command M)) (new : SenderView) → IsPrefix v.seen l → KeepsThere outbox_of (after l) (sending v) new → AllFit new.origin new.count new.recipient_seats
      → Sends outbox_of v (record v { seen = l; count = new.count; recipient_seats = new.recipient_seats })
  sends_to outbox_of v l new begins k fits = record {
    begins = begins;
    same = refl;
    keeps = record {
      stay = λ n outbox there e. k.stay n outbox there e;
      theirs = λ n outbox e. k.theirs n outbox e;
      shut = λ n there e. k.shut n there e;
      waits = λ n there e. k.waits n there e;
      fits = let P : ℕ → Type 0 = λ o. AllFit o new.count new.recipient_seats in subst P k.origin_is fits;
    };
  }

  pub has_not_put : (outbox_of : M → OutboxId) (v w : PassState M) (l : List (Command M)) (new : SenderView) → w ≡ record v { seen = l; count = new.count; recipient_seats = new.recipient_seats } → IsPrefix v.seen l
      → KeepsThere outbox_of (after l) (sending v) new → NothingPut (after l) (sending v) new → AllFit new.origin new.count new.recipient_seats → HasNotPut outbox_of v w
  has_not_put outbox_of v w l new is begins k u fits =
      let P : PassState M → Type 0 = λ x. HasNotPut outbox_of v x in
      subst P (sym is) (record { sends = sends_to outbox_of v l new begins k fits; count_is = u.count_is; puts = λ n there. u.puts n there })

  has_routed : (standing : Standing) (place : Option ℕ) (outbox_of : M → OutboxId) (source : Source) (bytes : List ℕ) (v w : PassState M) (l : List (Command M)) (mid new : SenderView) (recipients refused : List ℕ) → w ≡ record v { seen = l; count = new.count; recipient_seats = new.recipient_seats } → IsPrefix v.seen l
      → ((m : Message) → Valid bytes m → AreRecipients (after l) (sender_of source v.connection) m recipients) → KeepsShut recipients (sending v) mid
      → NothingPut (after l) (sending v) mid → KeepsThere outbox_of (after l) (sending v) new → AllFit new.origin new.count new.recipient_seats → Routed place bytes recipients refused mid new
      → place ≡ place_at standing (length l) → HasRouted standing outbox_of source bytes v recipients refused w
  has_routed standing place outbox_of source bytes v w l mid new recipients refused is begins are shut u all fits r at =
      let P : PassState M → Type 0 = λ x. HasRouted standing outbox_of source bytes v recipients refused x in
      subst P (sym is) (record {
        sends = sends_to outbox_of v l new begins all fits;
        are = are;
        count_is = r.count_is ∙ ap (λ c. c + 1) u.count_is;
        put = record {
          item = r.item;
          bytes_are = r.bytes_are;
          mark_is = r.mark_is ∙ ap (λ (o : ℕ). Some (o, new.count)) all.origin_is;
          place_is = r.place_is ∙ at;
          puts = λ n there. r.puts n ∙ ap (λ (l : List Item). l ++ cond (is_put n recipients refused) (r.item ∷ []) []) (u.puts n there);
        };
        rising = r.rising;
        listed = r.listed;
        again = λ n i e. r.again n i (shut n i e);
        waits = r.waits;
      })

  -- what a broadcast came to
  pub answered : (A : Type 0) (standing : Standing) (place : Option ℕ) (outbox_of : M → OutboxId) (source : Source) (from : Option ℕ) (bytes : List ℕ) (v u p q w : PassState M) (l : List (Command M)) (s : State M) (old mid new : SenderView) (recipients refused : List ℕ) (r : Result A BusError)
      → Turn v u p q w l s old new → from ≡ sender_of source p.connection
      → ((m : Message) → Valid bytes m → AreRecipients s from m recipients) → KeepsShut recipients old mid → KeepsThere outbox_of s old mid → NothingPut s old mid → Keeps [] mid new → AllFit new.origin new.count new.recipient_seats
      → IfOk r (λ _. Routed place bytes recipients refused mid new) → IfErr r (λ e. ((e ≡ errors.NoMemory) ⊎ ((e ≡ errors.Counts) × (mid.count ≡ max_count))) × Unrouted mid new)
      → place ≡ place_at standing (length l) → MatchResult r (λ _. HasRouted standing outbox_of source bytes v recipients refused w) (λ e. IsUnrouted outbox_of e v w)
  answered A standing place outbox_of source from bytes v u p q w l s old mid new recipients refused r t is are shut k n after_it fits ok err at = go r ok err
    where
      mine : KeepsThere outbox_of (after l) (sending v) mid
      mine = own_keeps outbox_of v u p q w l s old new mid t k

      nothing : NothingPut (after l) (sending v) mid
      nothing = own_nothing v u p q w l s old new mid t n

      all : KeepsThere outbox_of (after l) (sending v) new
      all = keeps_on outbox_of (after l) (sending v) mid new mine (kept outbox_of (after l) mid new after_it)

      from_is : from ≡ sender_of source v.connection
      from_is = is ∙ ap (λ (x : PassState M). sender_of source x.connection) (t.taken ∙ ap (λ (x : PassState M). record x { count = 0; recipient_seats = [] }) t.entered)

      are_after : (m : Message) → Valid bytes m → AreRecipients (after l) (sender_of source v.connection) m recipients
      are_after m valid =
          let S : State M → Type 0 = λ x. AreRecipients x from m recipients in
          let F : Option ℕ → Type 0 = λ x. AreRecipients (after l) x m recipients in
          subst F from_is (subst S t.state (are m valid))

      shut_after : KeepsShut recipients (sending v) mid
      shut_after = let O : SenderView → Type 0 = λ x. KeepsShut recipients x mid in subst O (its_sender v u p q w l s old new t) shut

      go : (r : Result A BusError) → IfOk r (λ _. Routed place bytes recipients refused mid new) → IfErr r (λ e. ((e ≡ errors.NoMemory) ⊎ ((e ≡ errors.Counts) × (mid.count ≡ max_count))) × Unrouted mid new)
          → MatchResult r (λ _. HasRouted standing outbox_of source bytes v recipients refused w) (λ e. IsUnrouted outbox_of e v w)
      go (Ok a) ok err = has_routed standing place outbox_of source bytes v w l mid new recipients refused (turned v u p q w l s old new t) t.begins are_after shut_after nothing all fits ok at
      go (Err e) ok err = inr (why err.0, has_not_put outbox_of v w l new (turned v u p q w l s old new t) t.begins all (nothing_on (after l) (sending v) mid new nothing (unrouted (after l) mid new err.1)) fits)
        where
          why : (e ≡ errors.NoMemory) ⊎ ((e ≡ errors.Counts) × (mid.count ≡ max_count)) → (e ≡ errors.NoMemory) ⊎ ((e ≡ errors.Counts) × (v.count ≡ max_count))
          why (inl h) = inl h
          why (inr h) = inr (h.0, sym nothing.count_is ∙ h.1)
