-- One recipient after the other.
use Rattle.std.proofs.Common.{ℕ, zero, suc, ◌≡◌, ◌+◌, ◌<◌, ◌≤◌, ◌==◌, ◌&&◌, ◌||◌, not, Bool, true, false, true≢false, cond, List, [], ◌∷◌, ◌++◌, length, take, drop, get_or, refl, sym, ap, ◌∙◌, subst, arith, eq-eqb, eqb-true, ne_eqb, take-append-drop, length-append, Option, Some, None, IsSome, IfSome, IsSomeAnd}
use Rattle.std.proofs.lemmas.Bool.{or_right}
use Rattle.std.proofs.lemmas.List.{take_more}
use Rattle.outbox.specs.Items.{Item}
use Rattle.routing.specs.SenderView.{RecipientSeatView}
use Rattle.routing.specs.RecipientSeats.{seat_at, is_in, RisesFrom, HasSeat, AllHave}
use Rattle.routing.specs.Turns.{TurnsView, StandsAt, MayStand, KeepsTurns}
use Rattle.routing.proofs.Lending.{stands_still, stands_alike}
use Rattle.routing.specs.Puts.{end_of, PutThere, PutAt, RoutedAt, PutTo}

end_above : (n : ℕ) (xs : List ℕ) → RisesFrom n xs → n ≤ end_of n xs
end_above n [] r = omega arith
end_above n (x ∷ xs) r = let h = end_above (x + 1) xs r.1 in omega (arith, h, r.0)

-- what is above the last isn't there
not_in : (n m : ℕ) (xs : List ℕ) → RisesFrom n xs → end_of n xs ≤ m → is_in m xs ≡ false
not_in n m [] r l = refl
not_in n m (x ∷ xs) r l =
    let h = end_above (x + 1) xs r.1 in
    let no : (x == m) ≡ false = ne_eqb x m (λ e. omega (arith, e, h, l)) in
    ap (λ b. b || is_in m xs) no ∙ not_in (x + 1) m xs r.1 l

rises_front : (n : ℕ) (xs ys : List ℕ) → RisesFrom n (xs ++ ys) → RisesFrom n xs
rises_front n [] ys r = tt
rises_front n (x ∷ xs) ys r = (r.0, rises_front (x + 1) xs ys r.1)

rises_snoc : (n : ℕ) (xs : List ℕ) (m : ℕ) → RisesFrom n xs → end_of n xs ≤ m → RisesFrom n (xs ++ m ∷ [])
rises_snoc n [] m r l = (l, tt)
rises_snoc n (x ∷ xs) m r l = (r.0, rises_snoc (x + 1) xs m r.1 l)

end_snoc : (n : ℕ) (xs : List ℕ) (m : ℕ) → end_of n (xs ++ m ∷ []) ≡ m + 1
end_snoc n [] m = refl
end_snoc n (x ∷ xs) m = end_snoc (x + 1) xs m

pub in_snoc : (n m : ℕ) (xs : List ℕ) → is_in n (xs ++ m ∷ []) ≡ (is_in n xs || (m == n))
in_snoc n m [] = pick (m == n)
  where
    pick : (b : Bool) → (b || false) ≡ b
    pick true = refl
    pick false = refl
in_snoc n m (x ∷ xs) = ap (λ b. (x == n) || b) (in_snoc n m xs) ∙ pick (x == n)
  where
    pick : (b : Bool) → (b || (is_in n xs || (m == n))) ≡ ((b || is_in n xs) || (m == n))
    pick true = refl
    pick false = refl

rises_last : (n m : ℕ) (xs : List ℕ) → RisesFrom n (xs ++ m ∷ []) → end_of n xs ≤ m
rises_last n m [] r = r.0
rises_last n m (x ∷ xs) r = rises_last (x + 1) m xs r.1

-- the next recipient's number is above those that are done
next_above : (recipients : List ℕ) (k d : ℕ) → k < length recipients → RisesFrom 0 recipients → RisesFrom 0 (take k recipients ++ get_or recipients k d ∷ [])
next_above recipients k d lt r =
    let P : List ℕ → Type 0 = λ l. RisesFrom 0 l in
    subst P (take_more recipients k d lt) (rises_front 0 (take (k + 1) recipients) (drop (k + 1) recipients) (subst P (sym (take-append-drop (k + 1) recipients)) r))

all_at : (recipients : List ℕ) (k d : ℕ) (recipient_seats : List RecipientSeatView) → k < length recipients → AllHave recipients recipient_seats → HasSeat (get_or recipients k d) recipient_seats
all_at [] k d recipient_seats lt all = absurd (omega (arith, lt))
all_at (r ∷ rs) zero d recipient_seats lt all = all.0
all_at (r ∷ rs) (suc k) d recipient_seats lt all = all_at rs k d recipient_seats (omega (arith, lt)) all.1

pub some_and : (o : Option RecipientSeatView) (P : RecipientSeatView → Type 0) → IsSome o → IfSome o P → IsSomeAnd o P
some_and None P has if_some = absurd (true≢false (sym has))
some_and (Some s) P has if_some = if_some

-- what holds of each recipient_seat before holds of the next recipient's now
pub may_put : (item : Item) (k : ℕ) (recipients : List ℕ) (d : ℕ) (refused : List ℕ) (old recipient_seats : List RecipientSeatView) (P : RecipientSeatView → Type 0) → k < length recipients → RisesFrom 0 recipients → AllHave recipients old
    → ((n : ℕ) → IfSome (seat_at n old) P) → PutTo item (take k recipients) refused old recipient_seats → IsSomeAnd (seat_at (get_or recipients k d) recipient_seats) P
may_put item k recipients d refused old recipient_seats P lt rising all fits h =
    let m : ℕ = get_or recipients k d in
    let done : List ℕ = take k recipients in
    let r = next_above recipients k d lt rising in
    let out : is_in m done ≡ false = not_in 0 m done (rises_front 0 done (m ∷ []) r) (rises_last 0 m done r) in
    let R : Bool → Type 0 = λ b. RoutedAt item b (is_in m refused) (seat_at m old) (seat_at m recipient_seats) in
    let same = subst R out (h.each m) in
    let Q : Option RecipientSeatView → Type 0 = λ o. IsSomeAnd o P in
    subst Q (sym same.1) (some_and (seat_at m old) P (all_at recipients k d old lt all) (fits m))

in_first : (m : ℕ) (ms : List ℕ) → is_in m (m ∷ ms) ≡ true
in_first m ms = ap (λ b. b || is_in m ms) (eq-eqb m m refl)

pub in_at : (xs : List ℕ) (k d : ℕ) → k < length xs → is_in (get_or xs k d) xs ≡ true
in_at [] k d lt = absurd (omega (arith, lt))
in_at (x ∷ xs) zero d lt = in_first x xs
in_at (x ∷ xs) (suc k) d lt = or_right (x == get_or xs k d) (is_in (get_or xs k d) xs) (in_at xs k d (omega (arith, lt)))

-- the message may be put at the next recipient's outbox too
pub stands_next : (item : Item) (k : ℕ) (recipients : List ℕ) (d : ℕ) (refused : List ℕ) (old recipient_seats : List RecipientSeatView) (turns later : TurnsView) → k < length recipients → RisesFrom 0 recipients
    → MayStand item.place recipients old turns → PutTo item (take k recipients) refused old recipient_seats → KeepsTurns turns later → StandsAt item.place (get_or recipients k d) recipient_seats later
stands_next item k recipients d refused old recipient_seats turns later lt rising may h keeps =
    let m : ℕ = get_or recipients k d in
    let done : List ℕ = take k recipients in
    let r = next_above recipients k d lt rising in
    let out : is_in m done ≡ false = not_in 0 m done (rises_front 0 done (m ∷ []) r) (rises_last 0 m done r) in
    let R : Bool → Type 0 = λ b. RoutedAt item b (is_in m refused) (seat_at m old) (seat_at m recipient_seats) in
    let same = subst R out (h.each m) in
    stands_alike item.place m old recipient_seats later (sym same.1) (stands_still item.place m old turns later keeps (may m (in_at recipients k d lt)))

-- what one more put makes of a recipient_seat: of its recipient's, or of another
pub put_more : (item : Item) (e put done refused : Bool) (old recipient_seats new : Option RecipientSeatView) (before after : RecipientSeatView) → (e ≡ true → (done ≡ false) × (recipient_seats ≡ Some before)) → RoutedAt item done refused old recipient_seats
    → PutThere item put before after → new ≡ cond e (Some after) recipient_seats → RoutedAt item (done || e) (refused || (e && not put)) old new
put_more item true put true refused old recipient_seats new before after its h change is = absurd (true≢false (its refl).0)
put_more item true put false true old recipient_seats new before after its h change is = absurd (true≢false h.0)
put_more item true true false false old recipient_seats new before after its h change is = (before, after, sym h.1 ∙ (its refl).1, is, change)
put_more item true false false false old recipient_seats new before after its h change is = (before, after, sym h.1 ∙ (its refl).1, is, change)
put_more item false put false true old recipient_seats new before after its h change is = absurd (true≢false h.0)
put_more item false put false false old recipient_seats new before after its h change is = (refl, is ∙ h.1)
put_more item false put true true old recipient_seats new before after its h change is = (h.0, h.1, h.2, is ∙ h.3, h.4)
put_more item false put true false old recipient_seats new before after its h change is = (h.0, h.1, h.2, is ∙ h.3, h.4)

-- one more recipient
next_put : (item : Item) (m : ℕ) (done refused refused' : List ℕ) (old recipient_seats new : List RecipientSeatView) (put : Bool) → RisesFrom 0 (done ++ m ∷ []) → refused' ≡ cond put refused (refused ++ m ∷ []) → PutTo item done refused old recipient_seats
    → PutAt m item put recipient_seats new → PutTo item (done ++ m ∷ []) refused' old new
next_put item m done refused refused' old recipient_seats new put r noted h now =
    record {
      each = λ n. one n;
      rising = let P : List ℕ → Type 0 = λ l. RisesFrom 0 l in subst P (sym noted) (rising' put);
      below = let P : List ℕ → Type 0 = λ l. end_of 0 l ≤ end_of 0 (done ++ m ∷ []) in subst P (sym noted) (below' put);
    }
  where
    above : end_of 0 done ≤ m
    above = rises_last 0 m done r

    out_done : is_in m done ≡ false
    out_done = not_in 0 m done (rises_front 0 done (m ∷ []) r) above

    rising' : (p : Bool) → RisesFrom 0 (cond p refused (refused ++ m ∷ []))
    rising' true = h.rising
    rising' false = let w = h.below in rises_snoc 0 refused m h.rising (omega (arith, w, above))

    below' : (p : Bool) → end_of 0 (cond p refused (refused ++ m ∷ [])) ≤ end_of 0 (done ++ m ∷ [])
    below' true = let w = h.below in let l = end_snoc 0 done m in omega (arith, w, above, l)
    below' false = let l = end_snoc 0 done m in let k = end_snoc 0 refused m in omega (arith, l, k)

    in_refused : (n : ℕ) (p : Bool) → is_in n (cond p refused (refused ++ m ∷ [])) ≡ (is_in n refused || ((m == n) && not p))
    in_refused n true = plain (is_in n refused) (m == n)
      where
        plain : (a e : Bool) → a ≡ (a || (e && false))
        plain true e = refl
        plain false true = refl
        plain false false = refl
    in_refused n false = in_snoc n m refused ∙ plain (m == n)
      where
        plain : (e : Bool) → (is_in n refused || e) ≡ (is_in n refused || (e && true))
        plain true = refl
        plain false = refl

    its : (n : ℕ) → (m == n) ≡ true → (is_in n done ≡ false) × (seat_at n recipient_seats ≡ Some now.before)
    its n e = let P : ℕ → Type 0 = λ j. (is_in j done ≡ false) × (seat_at j recipient_seats ≡ Some now.before) in subst P (eqb-true m n e) (out_done, now.was)

    one : (n : ℕ) → RoutedAt item (is_in n (done ++ m ∷ [])) (is_in n refused') (seat_at n old) (seat_at n new)
    one n =
        let listed : (is_in n refused || ((m == n) && not put)) ≡ is_in n refused' = sym (ap (is_in n) noted ∙ in_refused n put) in
        let P : Bool → Type 0 = λ b. RoutedAt item b (is_in n refused') (seat_at n old) (seat_at n new) in
        let Q : Bool → Type 0 = λ b. RoutedAt item (is_in n done || (m == n)) b (seat_at n old) (seat_at n new) in
        subst P (sym (in_snoc n m done)) (subst Q listed (put_more item (m == n) put (is_in n done) (is_in n refused) (seat_at n old) (seat_at n recipient_seats) (seat_at n new) now.before now.after (its n) (h.each n) now.change (now.now n)))

pub next_recipient : (item : Item) (k : ℕ) (recipients : List ℕ) (d : ℕ) (refused refused' : List ℕ) (old recipient_seats new : List RecipientSeatView) (put : Bool) → k < length recipients → RisesFrom 0 recipients
    → refused' ≡ cond put refused (refused ++ get_or recipients k d ∷ []) → PutTo item (take k recipients) refused old recipient_seats → PutAt (get_or recipients k d) item put recipient_seats new → PutTo item (take (k + 1) recipients) refused' old new
next_recipient item k recipients d refused refused' old recipient_seats new put lt rising noted h now =
    let P : List ℕ → Type 0 = λ l. PutTo item l refused' old new in
    subst P (sym (take_more recipients k d lt)) (next_put item (get_or recipients k d) (take k recipients) refused refused' old recipient_seats new put (next_above recipients k d lt rising) noted h now)

pub noted_length : (put : Bool) (m : ℕ) (refused refused' : List ℕ) (k : ℕ) → refused' ≡ cond put refused (refused ++ m ∷ []) → length refused ≤ k → length refused' ≤ k + 1
noted_length true m refused refused' k e l = let P : List ℕ → Type 0 = λ x. length x ≤ k + 1 in subst P (sym e) (omega (arith, l))
noted_length false m refused refused' k e l = let P : List ℕ → Type 0 = λ x. length x ≤ k + 1 in let a = length-append refused (m ∷ []) in subst P (sym e) (omega (arith, l, a))

-- a put at one recipient_seat, as puts to a list of one recipient
pub put_once : (item : Item) (m : ℕ) (put : Bool) (old new : List RecipientSeatView) → PutAt m item put old new → (n : ℕ) → RoutedAt item (m == n) ((m == n) && not put) (seat_at n old) (seat_at n new)
put_once item m put old new now n =
    put_more item (m == n) put false false (seat_at n old) (seat_at n old) (seat_at n new) now.before now.after (λ e. (refl, its e)) (refl, refl) now.change (now.now n)
  where
    its : (m == n) ≡ true → seat_at n old ≡ Some now.before
    its e = let P : ℕ → Type 0 = λ j. seat_at j old ≡ Some now.before in subst P (eqb-true m n e) now.was
