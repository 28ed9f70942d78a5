-- What a taker has given out.
use Rattle.std.proofs.Common.{ℕ, ◌≡◌, is_some, Option, Some, None, List, [], ◌∷◌, ◌++◌, refl, sym, ap, ◌∙◌, subst}
use Rattle.outbox.specs.Items.{Item}
use Rattle.outbox.specs.Counts.{Put, Rises, of_seat, counts_of, InOrder}
use Rattle.outbox.specs.Places.{places_of, Climbs, put_items, PlacesRise}
use Rattle.outbox.specs.Seated.{Seated}
use Rattle.outbox.specs.Taken.{Taking, front_of, deliveries, EndsWith}
use Rattle.std.proofs.lemmas.List.{map-append}
use Rattle.outbox.proofs.Placing.{places_append, climbs_front}
use Rattle.outbox.proofs.Rising.{rises_front, counts_append, of_append}

front_snoc : (xs : List Put) (x : Put) → front_of (xs ++ x ∷ []) ≡ xs
front_snoc [] x = refl
front_snoc (y ∷ []) x = refl
front_snoc (y ∷ (z ∷ zs)) x = ap (λ l. y ∷ l) (front_snoc (z ∷ zs) x)

-- what was taken but its last element, which is held
pub all_but_held : (front taken : List Put) (item : Item) → (by : ℕ) × (taken ≡ front ++ (by, item) ∷ []) → front_of taken ≡ front
all_but_held front taken item (by, e) = ap front_of e ∙ front_snoc front (by, item)

front_in_order : (xs : List Put) (x : Put) → InOrder (xs ++ x ∷ []) → InOrder xs
front_in_order xs x order q =
    let P : List ℕ → Type 0 = λ l. Rises 0 l in
    let parts : counts_of (of_seat q (xs ++ x ∷ [])) ≡ counts_of (of_seat q xs) ++ counts_of (of_seat q (x ∷ [])) = ap counts_of (of_append q xs (x ∷ [])) ∙ counts_append (of_seat q xs) (of_seat q (x ∷ [])) in
    rises_front 0 (counts_of (of_seat q xs)) (counts_of (of_seat q (x ∷ []))) (subst P parts (order q))

-- and it is in order
pub in_order_but_held : (front taken : List Put) (item : Item) → (by : ℕ) × (taken ≡ front ++ (by, item) ∷ []) → InOrder taken → InOrder (front_of taken)
in_order_but_held front taken item (by, e) order =
    let P : List Put → Type 0 = λ l. InOrder l in subst P (sym (all_but_held front taken item (by, e))) (front_in_order front (by, item) (subst P e order))

ends_with : (item : Item) (taken : List Put) → EndsWith (Some item) taken → (by : ℕ) × (taken ≡ front_of taken ++ (by, item) ∷ [])
ends_with item taken (front, by, e) = (by, e ∙ ap (λ l. l ++ (by, item) ∷ []) (sym (all_but_held front taken item (by, e))))

-- what was taken is what was given out, and the item that is held
pub held_last : (t : Taking) (seat : Seated) (held : Option Item) (item : Item) → record { seat = seat; is_holding = is_some held } ≡ t → held ≡ Some item → EndsWith held seat.view.taken
    → (by : ℕ) × (seat.view.taken ≡ deliveries t ++ (by, item) ∷ [])
held_last t seat None item is e ends = absurd (cc)
held_last t seat (Some other) item is e ends =
    let same : other ≡ item = cc in
    let last = ends_with other seat.view.taken ends in
    let front : front_of seat.view.taken ≡ deliveries t = ap deliveries is in
    (last.0, last.1 ∙ ap (λ l. l ++ (last.0, other) ∷ []) front ∙ ap (λ i. deliveries t ++ (last.0, i) ∷ []) same)

places_front : (xs : List Put) (x : Put) → PlacesRise (xs ++ x ∷ []) → PlacesRise xs
places_front xs x rise =
    let C : List ℕ → Type 0 = λ l. Climbs 0 l in
    let parts : places_of (put_items (xs ++ x ∷ [])) ≡ places_of (put_items xs) ++ places_of (put_items (x ∷ [])) =
    ap places_of (map-append (λ (p : Put). p.1) xs (x ∷ [])) ∙ places_append (put_items xs) (put_items (x ∷ [])) in
    climbs_front 0 (places_of (put_items xs)) (places_of (put_items (x ∷ []))) (subst C parts rise)

-- and its places don't go back
pub places_but_held : (front taken : List Put) (item : Item) → (by : ℕ) × (taken ≡ front ++ (by, item) ∷ []) → PlacesRise taken → PlacesRise (front_of taken)
places_but_held front taken item (by, e) rise =
    let P : List Put → Type 0 = λ l. PlacesRise l in subst P (sym (all_but_held front taken item (by, e))) (places_front front (by, item) (subst P e rise))
