-- Each step of a seat keeps the rule of an outbox.
use Rattle.std.proofs.Common.{ℕ, zero, suc, ◌≡◌, ◌≢◌, ◌≤◌, Option, Some, None, IfSome, IsSomeAnd, List, [], ◌∷◌, ◌++◌, map, set, refl, sym, ap, ◌∙◌, subst, arith}
use Rattle.std.proofs.lemmas.List.{append_assoc, append-nil, map-append}
use mathlib.Core.Option.{some, some-injective, some-ne-none}
use lib.ListN.{get_elem?}
use Rattle.crossbeam_queue.specs.Fifo.{Pushes, Pops, Learns, Admits, Forks, Merges}
use Rattle.outbox.specs.Items.{Item}
use Rattle.outbox.specs.declared.rule.SeatView.{SeatView}
use Rattle.outbox.specs.Counts.{Put, Take, of_seat, Rises, count_of, counts_of, InOrder, Among}
use Rattle.outbox.specs.Places.{places_of, Climbs, PlacesRise}
use Rattle.outbox.specs.Views.{blank, minter, with_turn, turn_at, last_in, after_put, after_placed, after_taken, item_of, put_of, seat_known, IsRun, Fits, Placed, Merged, Follows}
use Rattle.outbox.specs.Taking.{TakesNext}
use Rattle.outbox.proofs.Seating.{known_at, known_else, each_set, each_snoc}
use Rattle.outbox.proofs.Placing.{climbs_front, places_append, among_climbs, placed_as, place_begins, place_admits, place_same, place_plain, place_placed, place_mints, place_lends, place_back, Has}
use Rattle.outbox.proofs.Rising.{rises_snoc, of_append, of_mine, of_other, counts_append, are_of_snoc, taken_among, among_of, among_more, among_items, among_rises}

-- a put follows those of its seat
run_after : (items : List Item) (x : Item) → IsRun items → Follows items x.mark → IsRun (items ++ x ∷ [])
run_after items x run may = pick x.mark refl may
  where
    pick : (mark : Option (ℕ × ℕ)) → x.mark ≡ mark → Follows items mark → IsRun (items ++ x ∷ [])
    pick None is may =
        let P : List ℕ → Type 0 = λ l. Rises 0 l in
        let same : counts_of (items ++ x ∷ []) ≡ counts_of items = counts_append items (x ∷ []) ∙ ap (λ (m : Option (ℕ × ℕ)). counts_of items ++ (count_of m ++ [])) is ∙ append-nil (counts_of items) in
        let Q : Option (ℕ × ℕ) → Type 0 = λ o. IfSome o (λ m. m.0 ≡ run.1.0) in
        (subst P (sym same) run.0, (run.1.0, are_of_snoc run.1.0 items x run.1.1 (subst Q (sym is) tt)))
    pick (Some m) is may =
        let P : List ℕ → Type 0 = λ l. Rises 0 l in
        let more : counts_of (items ++ x ∷ []) ≡ counts_of items ++ m.1 ∷ [] = counts_append items (x ∷ []) ∙ ap (λ (o : Option (ℕ × ℕ)). counts_of items ++ (count_of o ++ [])) is in
        let Q : Option (ℕ × ℕ) → Type 0 = λ o. IfSome o (λ k. k.0 ≡ m.0) in
        (subst P (sym more) (rises_snoc 0 (counts_of items) m.1 run.0 may.1), (m.0, are_of_snoc m.0 items x may.0 (subst Q (sym is) refl)))

fits_else : (q p : ℕ) (u : SeatView) (x : Item) (gone : List Take) (line : List Put) → q ≢ p → Fits q u gone line → Fits q u gone (line ++ (p, x) ∷ [])
fits_else q p u x gone line n f = record {
  put = ap (of_seat q) (sym (append_assoc (map put_of gone) line ((p, x) ∷ []))) ∙ of_other q p (map put_of gone ++ line) x n ∙ f.put;
  taken = f.taken;
  run = f.run;
}

fits_put : (p : ℕ) (v : SeatView) (x : Item) (gone : List Take) (line : List Put) → Follows v.put x.mark → Fits p v gone line → Fits p (after_put v x) gone (line ++ (p, x) ∷ [])
fits_put p v x gone line may f = record {
  put = ap (of_seat p) (sym (append_assoc (map put_of gone) line ((p, x) ∷ []))) ∙ of_mine p (map put_of gone ++ line) x ∙ ap (λ (l : List Item). l ++ x ∷ []) f.put;
  taken = f.taken;
  run = run_after v.put x f.run may;
}

-- what was put is longer by this
all_after : (gone : List Take) (line : List Put) (p : ℕ) (x : Item) → map item_of (map put_of gone ++ line) ++ x ∷ [] ≡ map item_of (map put_of gone ++ (line ++ (p, x) ∷ []))
all_after gone line p x = sym (map-append item_of (map put_of gone ++ line) ((p, x) ∷ [])) ∙ ap (map item_of) (append_assoc (map put_of gone) line ((p, x) ∷ []))

pub puts : (n p : ℕ) (v : SeatView) (x : Item) → Follows v.put x.mark → x.place ≡ None → Pushes Merged n p v x (λ w. w ≡ after_put v x)
puts n p v x may plain items views room h at =
    let w : SeatView = after_put v x in
    let all : List Item = map item_of (map put_of h.gone ++ h.line) in
    let line : List Put = h.line ++ (p, x) ∷ [] in
    let Q : ℕ → SeatView → Type 0 = λ q u. Fits q u h.gone line in
    let mine : Fits p v h.gone h.line = let P : SeatView → Type 0 = λ u. Fits p u h.gone h.line in subst P (known_at views p v at) (h.fits p) in (
      w,
      record {
        gone = h.gone;
        line = line;
        stands = map-append item_of h.line ((p, x) ∷ []) ∙ ap (λ (l : List Item). l ++ x ∷ []) h.stands;
        fits = each_set Q views p v w at (fits_put p v x h.gone h.line may mine) (λ q n. fits_else q p (seat_known views q) x h.gone h.line n (h.fits q));
        places = placed_as (all ++ x ∷ []) (map item_of (map put_of h.gone ++ line)) (set views p w) (all_after h.gone h.line p x)
            (place_same (all ++ x ∷ []) views p v w at refl refl (place_plain all views x plain h.places));
      },
      refl,
    )

fits_placed : (p : ℕ) (v : SeatView) (x : Item) (gone : List Take) (line : List Put) → Fits p (after_put v x) gone line → Fits p (after_placed v x) gone line
fits_placed p v x gone line f = record { put = f.put; taken = f.taken; run = f.run }

pub puts_placed : (n p : ℕ) (v : SeatView) (x : Item) (last : ℕ) → Follows v.put x.mark → v.turn ≡ Some last → IsSomeAnd x.place (λ place. last ≤ place) → Pushes Merged n p v x (λ w. w ≡ after_placed v x)
puts_placed n p v x last may has above items views room h at =
    let w : SeatView = after_placed v x in
    let line : List Put = h.line ++ (p, x) ∷ [] in
    let all : List Item = map item_of (map put_of h.gone ++ h.line) in
    let Q : ℕ → SeatView → Type 0 = λ q u. Fits q u h.gone line in
    let mine : Fits p v h.gone h.line = let P : SeatView → Type 0 = λ u. Fits p u h.gone h.line in subst P (known_at views p v at) (h.fits p) in (
      w,
      record {
        gone = h.gone;
        line = line;
        stands = map-append item_of h.line ((p, x) ∷ []) ∙ ap (λ (l : List Item). l ++ x ∷ []) h.stands;
        fits = each_set Q views p v w at (fits_placed p v x h.gone line (fits_put p v x h.gone h.line may mine)) (λ q n. fits_else q p (seat_known views q) x h.gone h.line n (h.fits q));
        places = placed_as (all ++ x ∷ []) (map item_of (map put_of h.gone ++ line)) (set views p w) (all_after h.gone h.line p x) (place_placed all views p v x last at has above h.places);
      },
      refl,
    )

fits_nothing : (q : ℕ) → Fits q blank [] []
fits_nothing q = record { put = refl; taken = refl; run = (tt, (0, tt)) }

pub begins : Merged [] (blank ∷ [])
begins = record { gone = []; line = []; stands = refl; fits = λ q. begin_fits q; places = place_begins }
  where
    begin_fits : (q : ℕ) → Fits q (seat_known (blank ∷ []) q) [] []
    begin_fits zero = fits_nothing zero
    begin_fits (suc q) = fits_nothing (suc q)

pub admits : Admits Merged blank
admits items views h = record {
  gone = h.gone;
  line = h.line;
  stands = h.stands;
  fits = let Q : ℕ → SeatView → Type 0 = λ q u. Fits q u h.gone h.line in each_snoc Q views blank (λ q f. f) h.fits;
  places = place_admits (map item_of (map put_of h.gone ++ h.line)) views h.places;
}

-- what a seat took of each other seat's items rises as that seat's counts do
pub in_order : (p : ℕ) (taken : List Put) (gone : List Take) (line : List Put) (views : List SeatView) → of_seat p gone ≡ taken → ((q : ℕ) → Fits q (seat_known views q) gone line) → InOrder taken
in_order p taken gone line views took fits q =
    let inside : Among (of_seat q taken) (of_seat q (map put_of gone ++ line)) =
    let P : List Put → Type 0 = λ l. Among (of_seat q l) (of_seat q (map put_of gone ++ line)) in
    let R : List Item → Type 0 = λ l. Among (of_seat q (of_seat p gone)) l in
    subst P took (subst R (sym (of_append q (map put_of gone) line)) (among_more (of_seat q (of_seat p gone)) (of_seat q (map put_of gone)) (of_seat q line) (among_of q (of_seat p gone) (map put_of gone) (taken_among p gone)))) in
    let run : Rises 0 (counts_of (of_seat q (map put_of gone ++ line))) = let P : List Item → Type 0 = λ l. Rises 0 (counts_of l) in subst P (sym (fits q).put) (fits q).run.0 in
    among_rises (of_seat q taken) (of_seat q (map put_of gone ++ line)) inside 0 run

-- and its places don't go back
pub places_taken : (p : ℕ) (taken : List Put) (gone : List Take) (line : List Put) → of_seat p gone ≡ taken → Climbs 0 (places_of (map item_of (map put_of gone ++ line))) → PlacesRise taken
places_taken p taken gone line took climbs =
    let C : List ℕ → Type 0 = λ l. Climbs 0 l in
    let first : List Item = map item_of (map put_of gone) in
    let parts : places_of (map item_of (map put_of gone ++ line)) ≡ places_of first ++ places_of (map item_of line) = ap places_of (map-append item_of (map put_of gone) line) ∙ places_append first (map item_of line) in
    let front : Climbs 0 (places_of first) = climbs_front 0 (places_of first) (places_of (map item_of line)) (subst C parts climbs) in
    let P : List Put → Type 0 = λ l. PlacesRise l in
    subst P took (among_climbs (map item_of (of_seat p gone)) first (among_items (of_seat p gone) (map put_of gone) (taken_among p gone)) 0 front)

-- the first of what stands is taken
takes_first : (p : ℕ) (v : SeatView) (x : Item) (items : List Item) (views : List SeatView) (gone : List Take) (line : List Put) → get_elem? views p ≡ some v → map item_of line ≡ x ∷ items
    → ((q : ℕ) → Fits q (seat_known views q) gone line) → Placed (map item_of (map put_of gone ++ line)) views → (w : SeatView) × Merged items (set views p w) × TakesNext v x w
takes_first p v x items views gone [] at stands fits places = absurd (cc)
takes_first p v x items views gone (y ∷ rest) at stands fits places =
    let first : y.1 ≡ x = cc in
    let others : map item_of rest ≡ items = cc in
    let z : Put = (y.0, x) in
    let w : SeatView = after_taken v z in
    let gone' : List Take = gone ++ (p, z) ∷ [] in
    let same : map put_of gone' ++ rest ≡ map put_of gone ++ y ∷ rest =
    ap (λ (l : List Put). l ++ rest) (map-append put_of gone ((p, z) ∷ [])) ∙ append_assoc (map put_of gone) (z ∷ []) rest ∙ ap (λ (i : Item). map put_of gone ++ (y.0, i) ∷ rest) (sym first) in
    let Q : ℕ → SeatView → Type 0 = λ q u. Fits q u gone' rest in
    let before : Fits p v gone (y ∷ rest) = let P : SeatView → Type 0 = λ u. Fits p u gone (y ∷ rest) in subst P (known_at views p v at) (fits p) in
    let mine : Fits p w gone' rest = record {
      put = ap (of_seat p) same ∙ before.put;
      taken = of_mine p gone z ∙ ap (λ (l : List Put). l ++ z ∷ []) before.taken;
      run = before.run;
    } in
    let fits' : (q : ℕ) → Fits q (seat_known (set views p w) q) gone' rest =
    each_set Q views p v w at mine (λ q n. let f = fits q in record { put = ap (of_seat q) same ∙ f.put; taken = of_other q p gone z n ∙ f.taken; run = f.run }) in
    let places' : Placed (map item_of (map put_of gone' ++ rest)) (set views p w) =
    placed_as (map item_of (map put_of gone ++ y ∷ rest)) (map item_of (map put_of gone' ++ rest)) (set views p w) (ap (map item_of) (sym same)) (place_same (map item_of (map put_of gone ++ y ∷ rest)) views p v w at refl refl places) in (
      w,
      record {
        gone = gone';
        line = rest;
        stands = others;
        fits = fits';
        places = places';
      },
      (y.0, refl, in_order p w.taken gone' rest (set views p w) mine.taken fits', places_taken p w.taken gone' rest mine.taken places'.climbs),
    )

pub takes : (p : ℕ) (v : SeatView) → Pops Merged p v (TakesNext v)
takes p v x items views h at = takes_first p v x items views h.gone h.line at h.stands h.fits h.places

-- the rule tells nothing more of the items that wait
pub learns : (p : ℕ) (v : SeatView) → Learns Merged p v (λ items. Unit {0})
learns p v items views h at = tt

-- the turn is made of the first seat
fits_nobody : (q : ℕ) (u : SeatView) (gone : List Take) (line : List Put) → u.put ≡ [] → u.taken ≡ [] → Fits q blank gone line → Fits q u gone line
fits_nobody q u gone line put taken f =
    let R : List Item → Type 0 = λ l. IsRun l in record { put = f.put ∙ sym put; taken = f.taken ∙ sym taken; run = subst R (sym put) f.run }

pub mints : Forks Merged 0 blank minter (turn_at 0)
mints items views h at =
    let Q : ℕ → SeatView → Type 0 = λ q u. Fits q u h.gone h.line in
    let first : Fits 0 blank h.gone h.line = let P : SeatView → Type 0 = λ u. Fits 0 u h.gone h.line in subst P (known_at views 0 blank at) (h.fits 0) in
    let fits = each_set Q views 0 blank minter at (fits_nobody 0 minter h.gone h.line refl refl first) (λ q n. h.fits q) in
    record {
      gone = h.gone;
      line = h.line;
      stands = h.stands;
      fits = each_snoc Q (set views 0 minter) (turn_at 0) (λ q f. fits_nobody q (turn_at 0) h.gone h.line refl refl f) fits;
      places = place_mints (map item_of (map put_of h.gone ++ h.line)) views at h.places;
    }

pub mints_at : (p : ℕ) (v : SeatView) → p ≡ 0 → v ≡ blank → Forks Merged p v minter (turn_at 0)
mints_at p v first is =
    let P : ℕ × SeatView → Type 0 = λ s. Forks Merged s.0 s.1 minter (turn_at 0) in subst P (λ i. (sym first i, sym is i)) mints

fits_turned : (q : ℕ) (u : SeatView) (turn : Option ℕ) (gone : List Take) (line : List Put) → Fits q u gone line → Fits q (with_turn u turn) gone line
fits_turned q u turn gone line f = record { put = f.put; taken = f.taken; run = f.run }

-- a seat takes the turn in
lends : (p : ℕ) (v : SeatView) (other last : ℕ) → Merges Merged p v other (turn_at last) (with_turn v (Some last)) blank
lends p v other last items views h at apart at' =
    let both : SeatView = with_turn v (Some last) in
    let mid : List SeatView = set views p both in
    let Q : ℕ → SeatView → Type 0 = λ q u. Fits q u h.gone h.line in
    let before : Fits p v h.gone h.line = let P : SeatView → Type 0 = λ u. Fits p u h.gone h.line in subst P (known_at views p v at) (h.fits p) in
    let mid_fits = each_set Q views p v both at (fits_turned p v (Some last) h.gone h.line before) (λ q n. h.fits q) in
    let theirs : Fits other (turn_at last) h.gone h.line = let P : SeatView → Type 0 = λ u. Fits other u h.gone h.line in subst P (known_at mid other (turn_at last) at') (mid_fits other) in
    record {
      gone = h.gone;
      line = h.line;
      stands = h.stands;
      fits = each_set Q mid other (turn_at last) blank at' (fits_turned other (turn_at last) None h.gone h.line theirs) (λ q n. mid_fits q);
      places = place_lends (map item_of (map put_of h.gone ++ h.line)) views p v other last at apart at' h.places;
    }

pub lends_any : (p : ℕ) (v : SeatView) (other : ℕ) (u : SeatView) → u ≡ turn_at (last_in u.turn) → Merges Merged p v other u (with_turn v u.turn) blank
lends_any p v other u is =
    let P : SeatView → Type 0 = λ t. Merges Merged p v other t (with_turn v t.turn) blank in subst P (sym is) (lends p v other (last_in u.turn))

-- and gives it back
pub gives_back : (p : ℕ) (v : SeatView) → Has v → Forks Merged p v (with_turn v None) (with_turn blank v.turn)
gives_back p v has items views h at =
    let left : SeatView = with_turn v None in
    let Q : ℕ → SeatView → Type 0 = λ q u. Fits q u h.gone h.line in
    let before : Fits p v h.gone h.line = let P : SeatView → Type 0 = λ u. Fits p u h.gone h.line in subst P (known_at views p v at) (h.fits p) in
    let fits = each_set Q views p v left at (fits_turned p v None h.gone h.line before) (λ q n. h.fits q) in
    record {
      gone = h.gone;
      line = h.line;
      stands = h.stands;
      fits = each_snoc Q (set views p left) (with_turn blank v.turn) (λ q f. fits_turned q blank v.turn h.gone h.line f) fits;
      places = place_back (map item_of (map put_of h.gone ++ h.line)) views p v has.0 at has.1 h.places;
    }
