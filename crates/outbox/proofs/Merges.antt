-- What the rule of an outbox says.
use Rattle.std.proofs.Common.{ℕ, zero, suc, ◌≡◌, ◌≢◌, ◌<◌, ◌≤◌, ◌+◌, ◌==◌, Bool, true, false, cond, List, [], ◌∷◌, ◌++◌, map, length, refl, sym, ap, ◌∙◌, subst, arith, eq-eqb, ne_eqb, ⊎_elim}
use Rattle.std.proofs.lemmas.Bool.{cases_lt, eqb-false}
use Rattle.std.proofs.lemmas.List.{map-append}
use Rattle.outbox.specs.Items.{Item}
use Rattle.outbox.specs.declared.rule.SeatView.{SeatView}
use Rattle.outbox.specs.Counts.{Put, Take, of_seat, Rises, count_from, counts_from, Among}
use Rattle.outbox.specs.Places.{places_of, Climbs, PlacesRise}
use Rattle.outbox.specs.Views.{blank, item_of, put_of, seat_known, Merged, PutAlone}
use Rattle.outbox.specs.Weights.{weight, put_in_all, taken_in_all}
use Rattle.outbox.proofs.Steps.{places_taken}
use Rattle.outbox.proofs.Rising.{of_append, among_of, among_more, among_items, taken_among, among_rises_from, rises_from, rises_front, from_append}

pub taken_put : (items : List Item) (views : List SeatView) (taker putter : ℕ) → Merged items views → Among (of_seat putter (seat_known views taker).taken) (seat_known views putter).put
taken_put items views taker putter h =
    let puts : List Put = map put_of h.gone in
    let P : List Put → Type 0 = λ l. Among (of_seat putter l) (of_seat putter puts) in
    let inside : Among (of_seat putter (seat_known views taker).taken) (of_seat putter puts) = subst P (h.fits taker).taken (among_of putter (of_seat taker h.gone) puts (taken_among taker h.gone)) in
    let Q : List Item → Type 0 = λ l. Among (of_seat putter (seat_known views taker).taken) l in
    subst Q (sym (of_append putter puts h.line) ∙ (h.fits putter).put) (among_more (of_seat putter (seat_known views taker).taken) (of_seat putter puts) (of_seat putter h.line) inside)

-- where the counts of the others are none, the counts are the seat's
empty_back : (xs ys : List ℕ) → xs ++ ys ≡ [] → ys ≡ []
empty_back [] ys e = e
empty_back (x ∷ xs) ys e = absurd (cc)

empty_front : (xs ys : List ℕ) → xs ++ ys ≡ [] → xs ≡ []
empty_front [] ys e = refl
empty_front (x ∷ xs) ys e = absurd (cc)

alone_rest : (origin q : ℕ) (x : Put) (xs : List Put) → counts_from origin (of_seat q (x ∷ xs)) ≡ [] → counts_from origin (of_seat q xs) ≡ []
alone_rest origin q x xs e = pick (x.0 == q) e
  where
    pick : (b : Bool) → counts_from origin (cond b (x.1 ∷ of_seat q xs) (of_seat q xs)) ≡ [] → counts_from origin (of_seat q xs) ≡ []
    pick true e = empty_back (count_from origin x.1.mark) (counts_from origin (of_seat q xs)) e
    pick false e = e

alone_first : (origin : ℕ) (x : Put) (xs : List Put) → counts_from origin (of_seat x.0 (x ∷ xs)) ≡ [] → count_from origin x.1.mark ≡ []
alone_first origin x xs e =
    let P : Bool → Type 0 = λ b. counts_from origin (cond b (x.1 ∷ of_seat x.0 xs) (of_seat x.0 xs)) ≡ [] in
    empty_front (count_from origin x.1.mark) (counts_from origin (of_seat x.0 xs)) (subst P (eq-eqb x.0 x.0 refl) e)

alone_counts : (origin seat : ℕ) (puts : List Put) → ((q : ℕ) → q ≢ seat → counts_from origin (of_seat q puts) ≡ []) → counts_from origin (map item_of puts) ≡ counts_from origin (of_seat seat puts)
alone_counts origin seat [] alone = refl
alone_counts origin seat (x ∷ xs) alone = pick (x.0 == seat) refl (alone_counts origin seat xs (λ q n. alone_rest origin q x xs (alone q n)))
  where
    pick : (b : Bool) → (x.0 == seat) ≡ b → counts_from origin (map item_of xs) ≡ counts_from origin (of_seat seat xs) → count_from origin x.1.mark ++ counts_from origin (map item_of xs) ≡ counts_from origin (cond b (x.1 ∷ of_seat seat xs) (of_seat seat xs))
    pick true e rest = ap (λ (l : List ℕ). count_from origin x.1.mark ++ l) rest
    pick false e rest = ap (λ (l : List ℕ). l ++ counts_from origin (map item_of xs)) (alone_first origin x xs (alone x.0 (eqb-false x.0 seat e))) ∙ rest

pub origin_all : (items : List Item) (views : List SeatView) (origin seat : ℕ) (h : Merged items views) → PutAlone origin seat views → Rises 0 (counts_from origin (map item_of (map put_of h.gone) ++ items))
origin_all items views origin seat h alone =
    let puts : List Put = map put_of h.gone ++ h.line in
    let whole : map item_of puts ≡ map item_of (map put_of h.gone) ++ items = map-append item_of (map put_of h.gone) h.line ∙ ap (λ (l : List Item). map item_of (map put_of h.gone) ++ l) h.stands in
    let others : (q : ℕ) → q ≢ seat → counts_from origin (of_seat q puts) ≡ [] = λ q n. ap (counts_from origin) (h.fits q).put ∙ alone q n in
    let same : counts_from origin (seat_known views seat).put ≡ counts_from origin (map item_of (map put_of h.gone) ++ items) = ap (counts_from origin) (sym (h.fits seat).put) ∙ sym (alone_counts origin seat puts others) ∙ ap (counts_from origin) whole in
    let P : List ℕ → Type 0 = λ l. Rises 0 l in
    subst P same (rises_from origin (seat_known views seat).put 0 (h.fits seat).run.0)

pub origin_each : (items : List Item) (views : List SeatView) (origin seat taker : ℕ) → Merged items views → PutAlone origin seat views → Rises 0 (counts_from origin (map item_of (seat_known views taker).taken))
origin_each items views origin seat taker h alone =
    let all = origin_all items views origin seat h alone in
    let gone : List Item = map item_of (map put_of h.gone) in
    let P : List ℕ → Type 0 = λ l. Rises 0 l in
    let front : Rises 0 (counts_from origin gone) = rises_front 0 (counts_from origin gone) (counts_from origin items) (subst P (from_append origin gone items) all) in
    let Q : List Put → Type 0 = λ l. Among (map item_of l) gone in
    let inside : Among (map item_of (seat_known views taker).taken) gone = subst Q (h.fits taker).taken (among_items (of_seat taker h.gone) (map put_of h.gone) (taken_among taker h.gone)) in
    among_rises_from origin (map item_of (seat_known views taker).taken) gone inside 0 front

add3 : (a b c : ℕ) → (a + b) + c ≡ a + (b + c)
add3 a b c = omega arith

swap3 : (a b c : ℕ) → a + (b + c) ≡ b + (a + c)
swap3 a b c = omega arith

-- the sum of e at the first n numbers
abbrev total : (ℕ → ℕ) → ℕ → ℕ
total e zero = 0
total e (suc n) = e zero + total (λ k. e (suc k)) n

total_same : (e d : ℕ → ℕ) (n : ℕ) → ((k : ℕ) → e k ≡ d k) → total e n ≡ total d n
total_same e d zero h = refl
total_same e d (suc n) h = ap (λ (m : ℕ). m + total (λ k. e (suc k)) n) (h zero) ∙ ap (λ (m : ℕ). d zero + m) (total_same (λ k. e (suc k)) (λ k. d (suc k)) n (λ k. h (suc k)))

-- one thing more is in one of the lists
total_one : {A : Type 0} (g : A → ℕ) (b : ℕ → Bool) (x : A) (l : ℕ → List A) (p n : ℕ) → b p ≡ true → ((k : ℕ) → k ≢ p → b k ≡ false) → p < n → total (λ k. weight g (cond (b k) (x ∷ l k) (l k))) n ≡ g x + total (λ k. weight g (l k)) n
total_one g b x l p zero is off lt = absurd (omega (arith, lt))
total_one g b x l zero (suc n) is off lt =
    ap (λ (c : Bool). weight g (cond c (x ∷ l zero) (l zero)) + total (λ k. weight g (cond (b (suc k)) (x ∷ l (suc k)) (l (suc k)))) n) is
    ∙ ap (λ (m : ℕ). (g x + weight g (l zero)) + m) (total_same (λ k. weight g (cond (b (suc k)) (x ∷ l (suc k)) (l (suc k)))) (λ k. weight g (l (suc k))) n (λ k. ap (λ (c : Bool). weight g (cond c (x ∷ l (suc k)) (l (suc k)))) (off (suc k) (λ e. omega (arith, e)))))
    ∙ add3 (g x) (weight g (l zero)) (total (λ k. weight g (l (suc k))) n)
total_one g b x l (suc p) (suc n) is off lt =
    ap (λ (c : Bool). weight g (cond c (x ∷ l zero) (l zero)) + total (λ k. weight g (cond (b (suc k)) (x ∷ l (suc k)) (l (suc k)))) n) (off zero (λ e. omega (arith, e)))
    ∙ ap (λ (m : ℕ). weight g (l zero) + m) (total_one g (λ k. b (suc k)) x (λ k. l (suc k)) p n is (λ k d. off (suc k) (λ e. d (omega (arith, e)))) (omega (arith, lt)))
    ∙ swap3 (weight g (l zero)) (g x) (total (λ k. weight g (l (suc k))) n)

total_zero : (n : ℕ) → total (λ k. 0) n ≡ 0
total_zero zero = refl
total_zero (suc n) = ap (λ (m : ℕ). 0 + m) (total_zero n)

abbrev Below : {A : Type 0} → ℕ → List (ℕ × A) → Type 0
Below n [] = Unit {0}
Below n (x ∷ xs) = (x.0 < n) × Below n xs

-- what each of the first n seats has, taken together
weigh_seats : {A : Type 0} (g : A → ℕ) (n : ℕ) (xs : List (ℕ × A)) → Below n xs → total (λ k. weight g (of_seat k xs)) n ≡ weight (λ x. g x.1) xs
weigh_seats g n [] b = total_zero n
weigh_seats g n (x ∷ xs) b =
    total_one g (λ k. x.0 == k) x.1 (λ k. of_seat k xs) x.0 n (eq-eqb x.0 x.0 refl) (λ k d. ne_eqb x.0 k (λ e. d (sym e))) b.0 ∙ ap (λ (m : ℕ). g x.1 + m) (weigh_seats g n xs b.1)

of_rest : {A : Type 0} (q : ℕ) (x : ℕ × A) (xs : List (ℕ × A)) → of_seat q (x ∷ xs) ≡ [] → of_seat q xs ≡ []
of_rest {A} q x xs e = pick (x.0 == q) e
  where
    pick : (b : Bool) → cond b (x.1 ∷ of_seat q xs) (of_seat q xs) ≡ [] → of_seat q xs ≡ []
    pick true e = absurd (cc)
    pick false e = e

of_own : {A : Type 0} (x : ℕ × A) (xs : List (ℕ × A)) → of_seat x.0 (x ∷ xs) ≡ [] → ⊥
of_own {A} x xs e =
    let P : Bool → Type 0 = λ b. cond b (x.1 ∷ of_seat x.0 xs) (of_seat x.0 xs) ≡ [] in
    let none : x.1 ∷ of_seat x.0 xs ≡ [] = subst P (eq-eqb x.0 x.0 refl) e in cc

below : {A : Type 0} (n : ℕ) (xs : List (ℕ × A)) → ((q : ℕ) → n ≤ q → of_seat q xs ≡ []) → Below n xs
below n [] none = tt
below n (x ∷ xs) none = (
  ⊎_elim (λ (lt : x.0 < n). lt) (λ (le : n ≤ x.0). absurd (of_own x xs (none x.0 le))) (cases_lt x.0 n),
  below n xs (λ q le. of_rest q x xs (none q le)),
)

known_past : (views : List SeatView) (q : ℕ) → length views ≤ q → seat_known views q ≡ blank
known_past [] q le = refl
known_past (v ∷ vs) zero le = absurd (omega (arith, le))
known_past (v ∷ vs) (suc q) le = known_past vs q (omega (arith, le))

put_total : (f : Item → ℕ) (views : List SeatView) → total (λ k. weight f (seat_known views k).put) (length views) ≡ put_in_all f views
put_total f [] = refl
put_total f (v ∷ vs) = ap (λ (m : ℕ). weight f v.put + m) (put_total f vs)

taken_total : (f : Item → ℕ) (views : List SeatView) → total (λ k. weight (λ (x : Put). f x.1) (seat_known views k).taken) (length views) ≡ taken_in_all f views
taken_total f [] = refl
taken_total f (v ∷ vs) = ap (λ (m : ℕ). weight (λ (x : Put). f x.1) v.taken + m) (taken_total f vs)

weigh_items : (f : Item → ℕ) (xs : List Put) → weight (λ (x : Put). f x.1) xs ≡ weight f (map item_of xs)
weigh_items f [] = refl
weigh_items f (x ∷ xs) = ap (λ (m : ℕ). f x.1 + m) (weigh_items f xs)

weigh_gone : (f : Item → ℕ) (xs : List Take) → weight (λ (x : Put). f x.1) (map put_of xs) ≡ weight (λ (x : Take). f x.1.1) xs
weigh_gone f [] = refl
weigh_gone f (x ∷ xs) = ap (λ (m : ℕ). f x.1.1 + m) (weigh_gone f xs)

weigh_append : {A : Type 0} (g : A → ℕ) (xs ys : List A) → weight g (xs ++ ys) ≡ weight g xs + weight g ys
weigh_append g [] ys = omega arith
weigh_append g (x ∷ xs) ys = ap (λ (m : ℕ). g x + m) (weigh_append g xs ys) ∙ sym (add3 (g x) (weight g xs) (weight g ys))

pub balanced : (f : Item → ℕ) (items : List Item) (views : List SeatView) → Merged items views → put_in_all f views ≡ taken_in_all f views + weight f items
balanced f items views h =
    let n : ℕ = length views in
    let g : Put → ℕ = λ x. f x.1 in
    let puts : List Put = map put_of h.gone ++ h.line in
    let past_put : (q : ℕ) → n ≤ q → of_seat q puts ≡ [] = λ q le. (h.fits q).put ∙ ap (λ (v : SeatView). v.put) (known_past views q le) in
    let past_taken : (q : ℕ) → n ≤ q → of_seat q h.gone ≡ [] = λ q le. (h.fits q).taken ∙ ap (λ (v : SeatView). v.taken) (known_past views q le) in
    let put : put_in_all f views ≡ weight g puts =
    sym (put_total f views) ∙ sym (total_same (λ k. weight f (of_seat k puts)) (λ k. weight f (seat_known views k).put) n (λ k. ap (weight f) (h.fits k).put)) ∙ weigh_seats f n puts (below n puts past_put) in
    let taken : weight (λ (x : Take). f x.1.1) h.gone ≡ taken_in_all f views =
    sym (weigh_seats g n h.gone (below n h.gone past_taken)) ∙ total_same (λ k. weight g (of_seat k h.gone)) (λ k. weight g (seat_known views k).taken) n (λ k. ap (weight g) (h.fits k).taken) ∙ taken_total f views in
    let line : weight g h.line ≡ weight f items = weigh_items f h.line ∙ ap (weight f) h.stands in
    put ∙ weigh_append g (map put_of h.gone) h.line ∙ ap (λ (m : ℕ). m + weight g h.line) (weigh_gone f h.gone ∙ taken) ∙ ap (λ (m : ℕ). taken_in_all f views + m) line

-- places never go back, whoever put them
pub places_all : (items : List Item) (views : List SeatView) (h : Merged items views) → Climbs 0 (places_of (map item_of (map put_of h.gone) ++ items))
places_all items views h =
    let whole : map item_of (map put_of h.gone ++ h.line) ≡ map item_of (map put_of h.gone) ++ items = map-append item_of (map put_of h.gone) h.line ∙ ap (λ (l : List Item). map item_of (map put_of h.gone) ++ l) h.stands in
    let P : List Item → Type 0 = λ l. Climbs 0 (places_of l) in subst P whole h.places.climbs

pub places_each : (items : List Item) (views : List SeatView) (taker : ℕ) → Merged items views → PlacesRise (seat_known views taker).taken
places_each items views taker h = places_taken taker (seat_known views taker).taken h.gone h.line (h.fits taker).taken h.places.climbs
