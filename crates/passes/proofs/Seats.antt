-- Seats that a sender gives up and takes, of the connections that are there.
use Rattle.std.proofs.Common.{◌≡◌, ◌⊎◌, inl, inr, ℕ, zero, suc, ◌+◌, ◌<◌, ◌==◌, ◌||◌, ◌++◌, Bool, true, false, true≢false, cond, List, [], ◌∷◌, length, take, get_or, Option, Some, None, IsSome, refl, sym, ap, subst, ◌∙◌, arith, eq-eqb}
use Rattle.std.specs.Prelude.{filter}
use Rattle.std.proofs.lemmas.Bool.{or_right}
use Rattle.std.proofs.lemmas.List.{take_more}
use Rattle.outbox.specs.Seated.{OutboxId}
use Rattle.program_table.specs.Connections.{numbers_of, is_connected}
use Rattle.program_table.specs.State.{State}
use Rattle.routing.specs.SenderView.{RecipientView, RecipientSeatView, SenderView}
use Rattle.routing.specs.RecipientSeats.{seat_at, put_in, outbox_id, knows_shut, waits_in, is_in, outbox_at, HasSeat, AllHave, Lists, Keeps, Unrouted}
use Rattle.routing.proofs.Routes.{kept_at}
use Rattle.passes.specs.Routes.{IsOutboxOf}
use Rattle.passes.specs.Seats.{KeepsThere, NothingPut}
use Rattle.passes.proofs.Finding.{is_in-connected}

kept_outbox : (b : Bool) (o p : Option RecipientSeatView) (outbox : OutboxId) → p ≡ cond b o None → outbox_id p ≡ Some outbox → outbox_id o ≡ Some outbox
kept_outbox true o p outbox e h = ap outbox_id (sym e) ∙ h
kept_outbox false o p outbox e h = let no : outbox_id None ≡ Some outbox = ap outbox_id (sym e) ∙ h in absurd (cc)

has_outbox : (o : Option RecipientSeatView) → IsSome o → (outbox : OutboxId) × (outbox_id o ≡ Some outbox)
has_outbox None h = absurd (true≢false (sym h))
has_outbox (Some s) h = (s.outbox, refl)

outbox_has : (o : Option RecipientSeatView) (outbox : OutboxId) → outbox_id o ≡ Some outbox → IsSome o
outbox_has None outbox h = absurd (cc)
outbox_has (Some s) outbox h = refl

all_and : (xs : List ℕ) (m : ℕ) (recipient_seats : List RecipientSeatView) → AllHave xs recipient_seats → HasSeat m recipient_seats → AllHave (xs ++ m ∷ []) recipient_seats
all_and [] m recipient_seats all has = (has, tt)
all_and (x ∷ xs) m recipient_seats all has = (all.0, all_and xs m recipient_seats all.1 has)

-- one recipient more has its seat
pub next_has : (numbers : List ℕ) (k d : ℕ) (recipient_seats : List RecipientSeatView) → k < length numbers → AllHave (take k numbers) recipient_seats → HasSeat (get_or numbers k d) recipient_seats → AllHave (take (k + 1) numbers) recipient_seats
next_has numbers k d recipient_seats lt all has =
    let P : List ℕ → Type 0 = λ l. AllHave l recipient_seats in
    subst P (sym (take_more numbers k d lt)) (all_and (take k numbers) (get_or numbers k d) recipient_seats all has)

in_take : (n k : ℕ) (xs : List ℕ) → is_in n (take k xs) ≡ true → is_in n xs ≡ true
in_take n zero [] e = e
in_take n zero (x ∷ xs) e = absurd (true≢false (sym e))
in_take n (suc k) [] e = e
in_take n (suc k) (x ∷ xs) e = pick (x == n) (λ h. in_take n k xs h) e
  where
    pick : (b : Bool) → (is_in n (take k xs) ≡ true → is_in n xs ≡ true) → (b || is_in n (take k xs)) ≡ true → (b || is_in n xs) ≡ true
    pick true f h = refl
    pick false f h = f h

in_first : (m : ℕ) (ms : List ℕ) → is_in m (m ∷ ms) ≡ true
in_first m ms = ap (λ b. b || is_in m ms) (eq-eqb m m refl)

pub in_at : (xs : List ℕ) (k d : ℕ) → k < length xs → is_in (get_or xs k d) xs ≡ true
in_at [] k d lt = absurd (omega (arith, lt))
in_at (x ∷ xs) zero d lt = in_first x xs
in_at (x ∷ xs) (suc k) d lt = or_right (x == get_or xs k d) (is_in (get_or xs k d) xs) (in_at xs k d (omega (arith, lt)))

-- a sender that did nothing
pub all_kept : (v : SenderView) → Keeps [] v v
all_kept v = record { origin_is = refl; stay = λ n outbox e. e; theirs = λ n outbox e. inl e; shut = λ n e. e; waits = λ n e. e; takes = λ n. refl }

pub none_put : (v : SenderView) → Unrouted v v
none_put v = record { count_is = refl; puts = λ n. refl }

module _ {M : Type 0} where
  pub keeps_same : (outbox_of : M → OutboxId) (s : State M) (v : SenderView) → KeepsThere outbox_of s v v
  keeps_same outbox_of s v = record { origin_is = refl; stay = λ n outbox there e. e; theirs = λ n outbox e. inl e; shut = λ n there e. e; waits = λ n there e. e }

  pub keeps_on : (outbox_of : M → OutboxId) (s : State M) (a b c : SenderView) → KeepsThere outbox_of s a b → KeepsThere outbox_of s b c → KeepsThere outbox_of s a c
  keeps_on outbox_of s a b c h k = record {
    origin_is = k.origin_is ∙ h.origin_is;
    stay = λ n outbox there e. k.stay n outbox there (h.stay n outbox there e);
    theirs = λ n outbox e. pick n outbox (k.theirs n outbox e);
    shut = λ n there e. k.shut n there (h.shut n there e);
    waits = λ n there e. k.waits n there (h.waits n there e);
  }
    where
      pick : (n : ℕ) (outbox : OutboxId) → (outbox_at n b.recipient_seats ≡ Some outbox) ⊎ IsOutboxOf outbox_of s n outbox → (outbox_at n a.recipient_seats ≡ Some outbox) ⊎ IsOutboxOf outbox_of s n outbox
      pick n outbox (inl e) = h.theirs n outbox e
      pick n outbox (inr e) = inr e

  pub nothing_same : (s : State M) (v : SenderView) → NothingPut s v v
  nothing_same s v = record { count_is = refl; puts = λ n there. refl }

  pub nothing_on : (s : State M) (a b c : SenderView) → NothingPut s a b → NothingPut s b c → NothingPut s a c
  nothing_on s a b c h k = record { count_is = k.count_is ∙ h.count_is; puts = λ n there. k.puts n there ∙ h.puts n there }

  -- seats were given up at the outboxes of those that aren't there
  pub gave_up : (outbox_of : M → OutboxId) (s : State M) (numbers : List ℕ) (old new : SenderView) → numbers ≡ numbers_of s.connections
      → new ≡ record { origin = old.origin; count = old.count; recipient_seats = filter (λ (t : RecipientSeatView). is_in t.recipient numbers) old.recipient_seats } → KeepsThere outbox_of s old new × NothingPut s old new
  gave_up outbox_of s numbers old new are e = (
    record {
      origin_is = ap (λ (v : SenderView). v.origin) e;
      stay = λ n outbox there h. ap outbox_id (same n there) ∙ h;
      theirs = λ n outbox h. inl (kept_outbox (is_in n numbers) (seat_at n old.recipient_seats) (seat_at n new.recipient_seats) outbox (left n) h);
      shut = λ n there h. ap knows_shut (same n there) ∙ h;
      waits = λ n there h. ap waits_in (same n there) ∙ h;
    },
    record { count_is = ap (λ (v : SenderView). v.count) e; puts = λ n there. ap put_in (same n there) },
  )
    where
      left : (n : ℕ) → seat_at n new.recipient_seats ≡ cond (is_in n numbers) (seat_at n old.recipient_seats) None
      left n = ap (λ (v : SenderView). seat_at n v.recipient_seats) e ∙ kept_at numbers n old.recipient_seats

      same : (n : ℕ) → is_connected n s.connections ≡ true → seat_at n new.recipient_seats ≡ seat_at n old.recipient_seats
      same n there = left n ∙ ap (λ b. cond b (seat_at n old.recipient_seats) None) (ap (is_in n) are ∙ is_in-connected n s.connections ∙ there)

  -- a seat was taken at the outbox of a connection that is there
  pub seated : (outbox_of : M → OutboxId) (s : State M) (r : RecipientView) (n : ℕ) (old new : SenderView) → (r.number ≡ n) × IsOutboxOf outbox_of s n r.outbox → Keeps (r ∷ []) old new → KeepsThere outbox_of s old new
  seated outbox_of s r n old new is k = record {
    origin_is = k.origin_is;
    stay = λ m outbox there e. k.stay m outbox e;
    theirs = λ m outbox e. pick m outbox (k.theirs m outbox e);
    shut = λ m there e. k.shut m e;
    waits = λ m there e. k.waits m e;
  }
    where
      pick : (m : ℕ) (outbox : OutboxId) → (outbox_at m old.recipient_seats ≡ Some outbox) ⊎ Lists (r ∷ []) m outbox → (outbox_at m old.recipient_seats ≡ Some outbox) ⊎ IsOutboxOf outbox_of s m outbox
      pick m outbox (inl e) = inl e
      pick m outbox (inr (inl (its, there))) =
          let P : ℕ → Type 0 = λ x. IsOutboxOf outbox_of s x r.outbox in
          let Q : OutboxId → Type 0 = λ x. IsOutboxOf outbox_of s m x in
          inr (subst Q there (subst P (sym is.0 ∙ its) is.1))
      pick m outbox (inr (inr never)) = absurd never

  -- no seat was taken
  pub kept : (outbox_of : M → OutboxId) (s : State M) (old new : SenderView) → Keeps [] old new → KeepsThere outbox_of s old new
  kept outbox_of s old new k = record {
    origin_is = k.origin_is;
    stay = λ m outbox there e. k.stay m outbox e;
    theirs = λ m outbox e. pick m outbox (k.theirs m outbox e);
    shut = λ m there e. k.shut m e;
    waits = λ m there e. k.waits m e;
  }
    where
      pick : (m : ℕ) (outbox : OutboxId) → (outbox_at m old.recipient_seats ≡ Some outbox) ⊎ Lists [] m outbox → (outbox_at m old.recipient_seats ≡ Some outbox) ⊎ IsOutboxOf outbox_of s m outbox
      pick m outbox (inl e) = inl e
      pick m outbox (inr never) = absurd never

  pub unrouted : (s : State M) (old new : SenderView) → Unrouted old new → NothingPut s old new
  unrouted s old new u = record { count_is = u.count_is; puts = λ n there. u.puts n }

  has_still : (outbox_of : M → OutboxId) (s : State M) (n : ℕ) (old new : SenderView) → KeepsThere outbox_of s old new → is_connected n s.connections ≡ true → HasSeat n old.recipient_seats → HasSeat n new.recipient_seats
  has_still outbox_of s n old new k there has = let o = has_outbox (seat_at n old.recipient_seats) has in outbox_has (seat_at n new.recipient_seats) o.0 (k.stay n o.0 there o.1)

  all_still : (outbox_of : M → OutboxId) (s : State M) (numbers : List ℕ) (old new : SenderView) → ((n : ℕ) → is_in n numbers ≡ true → is_connected n s.connections ≡ true) → KeepsThere outbox_of s old new → AllHave numbers old.recipient_seats → AllHave numbers new.recipient_seats
  all_still outbox_of s [] old new there k all = tt
  all_still outbox_of s (m ∷ ms) old new there k all = (
    has_still outbox_of s m old new k (there m (in_first m ms)) all.0,
    all_still outbox_of s ms old new (λ n e. there n (or_right (m == n) (is_in n ms) e)) k all.1,
  )

  -- one connection more has its seat
  pub next_seat : (outbox_of : M → OutboxId) (s : State M) (numbers : List ℕ) (k d : ℕ) (old new : SenderView) → k < length numbers → ((n : ℕ) → is_in n numbers ≡ true → is_connected n s.connections ≡ true)
      → AllHave (take k numbers) old.recipient_seats → KeepsThere outbox_of s old new → HasSeat (get_or numbers k d) new.recipient_seats → AllHave (take (k + 1) numbers) new.recipient_seats
  next_seat outbox_of s numbers k d old new lt there all keeps has =
      let P : List ℕ → Type 0 = λ l. AllHave l new.recipient_seats in
      subst P (sym (take_more numbers k d lt)) (all_and (take k numbers) (get_or numbers k d) new.recipient_seats (all_still outbox_of s (take k numbers) old new (λ n e. there n (in_take n k numbers e)) keeps all) has)
