-- Turns that are added, given up and used.
use Rattle.std.proofs.Common.{ℕ, ◌≡◌, ◌≤◌, ◌==◌, not, Option, Some, None, is_some, IfSome, IsSomeAnd, option_map, Bool, true, false, true≢false, cond, List, [], ◌∷◌, filter, refl, sym, ap, ◌∙◌, subst, arith, eq-eqb, eqb-true}
use Rattle.std.specs.Global.{Global}
use Rattle.std.specs.List.{insert}
use Rattle.crossbeam_queue.specs.SegTies.{SegId}
use Rattle.routing.specs.SenderView.{RecipientSeatView}
use Rattle.routing.specs.RecipientSeats.{seat_at}
use Rattle.routing.specs.Numbers.{connection_of, TurnsRise, IsAt, IsGap}
use Rattle.routing.specs.Puts.{TurnUsed}
use Rattle.routing.specs.Turns.{TurnView, TurnsView, turn_at, queue_at, AllBefore, StandsAt, KeepsTurns}
use Rattle.routing.proofs.Places.{inserted, is_there}

abbrev queue_in : Option TurnView → Option (SegId Global)
queue_in o = option_map (λ (t : TurnView). t.queue) o

abbrev IsBefore : ℕ → Option TurnView → Type 0
IsBefore latest o = IfSome o (λ t. t.last ≤ latest)

-- a turn that is added in its gap
pub added_queue : (t : TurnView) (k : ℕ) (turns : List TurnView) → IsGap connection_of t.number turns k → (n : ℕ) → queue_at n (insert turns k t) ≡ cond (t.number == n) (Some t.queue) (queue_at n turns)
added_queue t k turns gap n = ap queue_in (inserted connection_of t.number k turns t gap refl n) ∙ pick (t.number == n)
  where
    pick : (b : Bool) → queue_in (cond b (Some t) (turn_at n turns)) ≡ cond b (Some t.queue) (queue_at n turns)
    pick true = refl
    pick false = refl

pub added_before : (latest : ℕ) (t : TurnView) (k : ℕ) (turns : List TurnView) → IsGap connection_of t.number turns k → t.last ≤ latest → AllBefore latest turns → AllBefore latest (insert turns k t)
added_before latest t k turns gap le all n =
    let P : Option TurnView → Type 0 = λ o. IsBefore latest o in
    subst P (sym (inserted connection_of t.number k turns t gap refl n)) (pick (t.number == n))
  where
    pick : (b : Bool) → IsBefore latest (cond b (Some t) (turn_at n turns))
    pick true = le
    pick false = all n

-- where no turn is, none is found
pub no_turn : (n k : ℕ) (turns : List TurnView) → TurnsRise turns → queue_at n turns ≡ None → IsAt connection_of n turns k → ⊥
no_turn n k turns rise none at = lacks (turn_at n turns) none (is_there connection_of n k turns rise at)
  where
    lacks : (o : Option TurnView) → queue_in o ≡ None → is_some o ≡ true → ⊥
    lacks None e some = absurd (true≢false (sym some))
    lacks (Some t) e some = absurd (cc)

-- a turn that is given up
left_at : (number n : ℕ) (turns : List TurnView) → turn_at n (filter (λ (t : TurnView). not (t.number == number)) turns) ≡ cond (number == n) None (turn_at n turns)
left_at number n [] = nothing (number == n)
  where
    nothing : (b : Bool) → None ≡ cond {A = Option TurnView} b None None
    nothing true = refl
    nothing false = refl
left_at number n (t ∷ ts) = pick (t.number == number) (t.number == n) (number == n) refl refl refl (left_at number n ts)
  where
    rest : Option TurnView
    rest = turn_at n (filter (λ (t : TurnView). not (t.number == number)) ts)

    pick : (a b c : Bool) → (t.number == number) ≡ a → (t.number == n) ≡ b → (number == n) ≡ c → rest ≡ cond c None (turn_at n ts)
        → turn_at n (cond (not a) (t ∷ filter (λ (t : TurnView). not (t.number == number)) ts) (filter (λ (t : TurnView). not (t.number == number)) ts)) ≡ cond c None (cond b (Some t) (turn_at n ts))
    pick true b true ea eb ec h = h
    pick true false false ea eb ec h = h
    pick true true false ea eb ec h =
        let e = eqb-true t.number number ea in
        let f = eqb-true t.number n eb in
        absurd (true≢false (sym (eq-eqb number n (sym e ∙ f)) ∙ ec))
    pick false true false ea eb ec h = ap (λ b. cond b (Some t) rest) eb
    pick false false false ea eb ec h = ap (λ b. cond b (Some t) rest) eb ∙ h
    pick false false true ea eb ec h = ap (λ b. cond b (Some t) rest) eb ∙ h
    pick false true true ea eb ec h =
        let e = eqb-true number n ec in
        let f = eqb-true t.number n eb in
        absurd (true≢false (sym (eq-eqb t.number number (f ∙ sym e)) ∙ ea))

pub left_queue : (number n : ℕ) (turns : List TurnView) → queue_at n (filter (λ (t : TurnView). not (t.number == number)) turns) ≡ cond (number == n) None (queue_at n turns)
left_queue number n turns = ap queue_in (left_at number n turns) ∙ pick (number == n)
  where
    pick : (b : Bool) → queue_in (cond b None (turn_at n turns)) ≡ cond b None (queue_at n turns)
    pick true = refl
    pick false = refl

pub left_before : (latest number : ℕ) (turns : List TurnView) → AllBefore latest turns → AllBefore latest (filter (λ (t : TurnView). not (t.number == number)) turns)
left_before latest number turns all n =
    let P : Option TurnView → Type 0 = λ o. IsBefore latest o in
    subst P (sym (left_at number n turns)) (pick (number == n))
  where
    pick : (b : Bool) → IsBefore latest (cond b None (turn_at n turns))
    pick true = tt
    pick false = all n

pub later : (latest place : ℕ) (turns : List TurnView) → latest ≤ place → AllBefore latest turns → AllBefore place turns
later latest place turns le all n = pick (turn_at n turns) (all n)
  where
    pick : (o : Option TurnView) → IsBefore latest o → IsBefore place o
    pick None h = tt
    pick (Some t) h = omega (arith, le, h)

-- a turn that is used
pub used_before : (latest m : ℕ) (t : TurnView) (old new : List TurnView) → ((n : ℕ) → turn_at n new ≡ cond (m == n) (Some t) (turn_at n old)) → t.last ≤ latest → AllBefore latest old → AllBefore latest new
used_before latest m t old new is le all n =
    let P : Option TurnView → Type 0 = λ o. IsBefore latest o in
    subst P (sym (is n)) (pick (m == n))
  where
    pick : (b : Bool) → IsBefore latest (cond b (Some t) (turn_at n old))
    pick true = le
    pick false = all n

pub used_queue : (m : ℕ) (s t : TurnView) (old new : List TurnView) → ((n : ℕ) → turn_at n new ≡ cond (m == n) (Some t) (turn_at n old)) → turn_at m old ≡ Some s → t.queue ≡ s.queue → (n : ℕ) → queue_at n new ≡ queue_at n old
used_queue m s t old new is was same n = ap queue_in (is n) ∙ pick (m == n) refl
  where
    pick : (b : Bool) → (m == n) ≡ b → queue_in (cond b (Some t) (turn_at n old)) ≡ queue_at n old
    pick false e = refl
    pick true e =
        let P : ℕ → Type 0 = λ j. Some t.queue ≡ queue_at j old in
        subst P (eqb-true m n e) (ap Some same ∙ sym (ap queue_in was))

-- what may stand by some turns may stand by those of the same outboxes
pub stands_still : (place : Option ℕ) (n : ℕ) (recipient_seats : List RecipientSeatView) (old new : TurnsView) → KeepsTurns old new → StandsAt place n recipient_seats old → StandsAt place n recipient_seats new
stands_still None n recipient_seats old new keeps h = tt
stands_still (Some p) n recipient_seats old new keeps (at, has) = (at ∙ sym keeps.latest, pick (seat_at n recipient_seats) has)
  where
    pick : (o : Option RecipientSeatView) → IfSome o (λ s. queue_at n old.turns ≡ Some s.outbox.queue) → IfSome o (λ s. queue_at n new.turns ≡ Some s.outbox.queue)
    pick None h = tt
    pick (Some s) h = keeps.queues n ∙ h

-- what may stand where a seat is may stand where the same seat is
pub stands_alike : (place : Option ℕ) (n : ℕ) (old new : List RecipientSeatView) (turns : TurnsView) → seat_at n old ≡ seat_at n new → StandsAt place n old turns → StandsAt place n new turns
stands_alike None n old new turns e h = tt
stands_alike (Some p) n old new turns e (at, has) =
    let P : Option RecipientSeatView → Type 0 = λ o. IfSome o (λ s. queue_at n turns.turns ≡ Some s.outbox.queue) in
    (at, subst P e has)

-- at the recipient's seat
pub stands_there : (place : Option ℕ) (n : ℕ) (recipient_seats : List RecipientSeatView) (turns : TurnsView) (s : RecipientSeatView) → seat_at n recipient_seats ≡ Some s → s.recipient ≡ n → StandsAt place n recipient_seats turns
    → IfSome place (λ p. (p ≡ turns.latest) × (queue_at s.recipient turns.turns ≡ Some s.outbox.queue))
stands_there None n recipient_seats turns s here is h = tt
stands_there (Some p) n recipient_seats turns s here is (at, has) =
    let P : Option RecipientSeatView → Type 0 = λ o. IfSome o (λ s. queue_at n turns.turns ≡ Some s.outbox.queue) in
    let Q : ℕ → Type 0 = λ m. queue_at m turns.turns ≡ Some s.outbox.queue in
    (at, subst Q (sym is) (subst P here has))

pub turns_kept : (v : TurnsView) → KeepsTurns v v
turns_kept v = record { latest = refl; queues = λ n. refl }

pub turns_kept_on : (a b c : TurnsView) → KeepsTurns a b → KeepsTurns b c → KeepsTurns a c
turns_kept_on a b c h k = record { latest = k.latest ∙ h.latest; queues = λ n. k.queues n ∙ h.queues n }

-- what may be put by a turn that is there, where all are before the place
pub may_use : (n latest : ℕ) (place : Option ℕ) (turns : List TurnView) (queue : SegId Global) → place ≡ Some latest → queue_at n turns ≡ Some queue → AllBefore latest turns
    → IsSomeAnd (turn_at n turns) (λ t. (t.queue ≡ queue) × IsSomeAnd place (λ p. t.last ≤ p))
may_use n latest place turns queue at has all = pick (turn_at n turns) has (all n)
  where
    pick : (o : Option TurnView) → queue_in o ≡ Some queue → IsBefore latest o → IsSomeAnd o (λ t. (t.queue ≡ queue) × IsSomeAnd place (λ p. t.last ≤ p))
    pick None e h = absurd (cc)
    pick (Some t) e h = (cc, (let P : Option ℕ → Type 0 = λ o. IsSomeAnd o (λ p. t.last ≤ p) in subst P (sym at) h))

-- the use of a turn at the latest place
used_at : (place : Option ℕ) (latest n : ℕ) (old new : List TurnView) → place ≡ Some latest → IsSomeAnd place (λ p. TurnUsed n p old new) → TurnUsed n latest old new
used_at place latest n old new at h = let P : Option ℕ → Type 0 = λ o. IsSomeAnd o (λ p. TurnUsed n p old new) in subst P at h

pub still_before : (place : Option ℕ) (latest n : ℕ) (old new : List TurnView) → place ≡ Some latest → IsSomeAnd place (λ p. TurnUsed n p old new) → AllBefore latest old → AllBefore latest new
still_before place latest n old new at h all = let u = used_at place latest n old new at h in used_before latest n u.after old new u.now u.last all

pub same_queues : (place : Option ℕ) (latest n : ℕ) (old new : List TurnView) → place ≡ Some latest → IsSomeAnd place (λ p. TurnUsed n p old new) → (m : ℕ) → queue_at m new ≡ queue_at m old
same_queues place latest n old new at h = let u = used_at place latest n old new at h in used_queue n u.before u.after old new u.now u.was u.queue

pub used : (place : Option ℕ) (n : ℕ) (old new : List TurnView) (s t : TurnView) → turn_at n old ≡ Some s → t.queue ≡ s.queue → IsSomeAnd place (λ p. t.last ≤ p) → ((m : ℕ) → turn_at m new ≡ cond (n == m) (Some t) (turn_at m old))
    → IsSomeAnd place (λ p. TurnUsed n p old new)
used None n old new s t was queue last now = last
used (Some p) n old new s t was queue last now = record { before = s; after = t; was = was; queue = queue; last = last; now = now }
