-- Each step of a seat keeps the places of an outbox in order.
use Rattle.std.proofs.Common.{ℕ, zero, suc, ◌≡◌, ◌≢◌, ◌≤◌, Bool, true, false, true≢false, Option, Some, None, IsSomeAnd, Result, Ok, Err, MatchResult, List, [], ◌∷◌, ◌++◌, length, set, refl, sym, ap, ◌∙◌, subst, arith, ⊎_elim}
use Rattle.std.proofs.lemmas.List.{append_assoc, append-nil}
use mathlib.Core.Option.{some, some-injective, some-ne-none}
use lib.ListN.{get_elem?}
use Rattle.outbox.specs.Items.{Item}
use Rattle.outbox.specs.declared.rule.SeatView.{SeatView}
use Rattle.outbox.specs.Counts.{Among}
use Rattle.outbox.specs.Places.{place_in, places_of, Climbs}
use Rattle.outbox.specs.Counts.{last_of}
use Rattle.outbox.specs.Views.{blank, minter, with_turn, turn_at, turn_after, last_in, after_put, after_placed, after_taken, seat_known, KnowsLast, Placed}
use Rattle.outbox.proofs.Seating.{known_at, known_else, each_set, each_snoc, each_new, minted_set, minted_snoc}

pub places_append : (xs ys : List Item) → places_of (xs ++ ys) ≡ places_of xs ++ places_of ys
places_append [] ys = refl
places_append (x ∷ xs) ys = ap (λ (l : List ℕ). place_in x.place ++ l) (places_append xs ys) ∙ sym (append_assoc (place_in x.place) (places_of xs) (places_of ys))

climbs_snoc : (n : ℕ) (xs : List ℕ) (y : ℕ) → Climbs n xs → last_of n xs ≤ y → Climbs n (xs ++ y ∷ [])
climbs_snoc n [] y r l = (l, tt)
climbs_snoc n (x ∷ xs) y r l = (r.0, climbs_snoc x xs y r.1 l)

place_last : (n : ℕ) (xs : List ℕ) (y : ℕ) → last_of n (xs ++ y ∷ []) ≡ y
place_last n [] y = refl
place_last n (x ∷ xs) y = place_last x xs y

pub climbs_front : (n : ℕ) (xs ys : List ℕ) → Climbs n (xs ++ ys) → Climbs n xs
climbs_front n [] ys r = tt
climbs_front n (x ∷ xs) ys r = (r.0, climbs_front x xs ys r.1)

climbs_lower : (n m : ℕ) (xs : List ℕ) → n ≤ m → Climbs m xs → Climbs n xs
climbs_lower n m [] le r = tt
climbs_lower n m (x ∷ xs) le r = (omega (arith, le, r.0), r.1)

rest_places : (n : ℕ) (place : Option ℕ) (cs : List ℕ) → Climbs n (place_in place ++ cs) → Climbs n cs
rest_places n None cs r = r
rest_places n (Some m) cs r = climbs_lower n m cs r.0 r.1

same_places : (n : ℕ) (place : Option ℕ) (cs ds : List ℕ) → ((k : ℕ) → Climbs k cs → Climbs k ds) → Climbs n (place_in place ++ cs) → Climbs n (place_in place ++ ds)
same_places n None cs ds rest r = rest n r
same_places n (Some m) cs ds rest r = (r.0, rest m r.1)

-- places that never go back don't where items are left out
pub among_climbs : (xs ys : List Item) → Among xs ys → (n : ℕ) → Climbs n (places_of ys) → Climbs n (places_of xs)
among_climbs [] ys a n r = tt
among_climbs (x ∷ xs) [] a n r = absurd a
among_climbs (x ∷ xs) (y ∷ ys) a n r =
    ⊎_elim
    (λ (h : (x ≡ y) × Among xs ys). let P : Item → Type 0 = λ z. Climbs n (places_of (z ∷ xs)) in subst P (sym h.0) (same_places n y.place (places_of ys) (places_of xs) (λ k q. among_climbs xs ys h.1 k q) r))
    (λ (h : Among (x ∷ xs) ys). among_climbs (x ∷ xs) ys h n (rest_places n y.place (places_of ys) r))
    a

places_plain : (all : List Item) (x : Item) → x.place ≡ None → places_of (all ++ x ∷ []) ≡ places_of all
places_plain all x is = places_append all (x ∷ []) ∙ ap (λ (o : Option ℕ). places_of all ++ (place_in o ++ [])) is ∙ append-nil (places_of all)

places_placed : (all : List Item) (x : Item) (n : ℕ) → x.place ≡ Some n → places_of (all ++ x ∷ []) ≡ places_of all ++ n ∷ []
places_placed all x n is = places_append all (x ∷ []) ∙ ap (λ (o : Option ℕ). places_of all ++ (place_in o ++ [])) is

-- the same, of more that was put
pub placed_as : (all more : List Item) (views : List SeatView) → all ≡ more → Placed all views → Placed more views
placed_as all more views same h = let P : List Item → Type 0 = λ l. Placed l views in subst P same h

pub place_begins : Placed [] (blank ∷ [])
place_begins = record { holder = 0; climbs = tt; knows = λ q last e. absurd (turns_none q last e); unmade = λ _. (turns, refl) }
  where
    turns : (q : ℕ) → (seat_known (blank ∷ []) q).turn ≡ None
    turns zero = refl
    turns (suc q) = refl

    turns_none : (q last : ℕ) → (seat_known (blank ∷ []) q).turn ≡ Some last → ⊥
    turns_none zero last e = cc
    turns_none (suc q) last e = cc

pub place_admits : (all : List Item) (views : List SeatView) → Placed all views → Placed all (views ++ blank ∷ [])
place_admits all views h = record {
  holder = h.holder;
  climbs = h.climbs;
  knows = let Q : ℕ → SeatView → Type 0 = λ q u. KnowsLast h.holder all q u in each_snoc Q views blank (λ q f. f) h.knows;
  unmade = λ e.
      let was = h.unmade (sym (minted_snoc views blank refl 0) ∙ e) in
      let Q : ℕ → SeatView → Type 0 = λ q u. u.turn ≡ None in (each_snoc Q views blank (λ q f. f) was.0, was.1);
}

-- a seat whose turn doesn't change puts what bears no place, or takes
pub place_same : (all : List Item) (views : List SeatView) (p : ℕ) (v w : SeatView) → get_elem? views p ≡ some v → w.turn ≡ v.turn → w.minted ≡ v.minted → Placed all views → Placed all (set views p w)
place_same all views p v w at same minted h =
    let known : seat_known views p ≡ v = known_at views p v at in
    let Q : ℕ → SeatView → Type 0 = λ q u. KnowsLast h.holder all q u in
    let mine : KnowsLast h.holder all p w = λ last e. h.knows p last (ap (λ (u : SeatView). u.turn) known ∙ sym same ∙ e) in
    let T : ℕ → SeatView → Type 0 = λ q u. u.turn ≡ None in
    record {
      holder = h.holder;
      climbs = h.climbs;
      knows = each_set Q views p v w at mine (λ q n. h.knows q);
      unmade = λ e.
          let was = h.unmade (sym (minted_set views p v w at minted 0) ∙ e) in
          (each_set T views p v w at (same ∙ ap (λ (u : SeatView). u.turn) (sym known) ∙ was.0 p) (λ q n. was.0 q), was.1);
    }

pub place_plain : (all : List Item) (views : List SeatView) (x : Item) → x.place ≡ None → Placed all views → Placed (all ++ x ∷ []) views
place_plain all views x is h =
    let C : List ℕ → Type 0 = λ l. Climbs 0 l in
    let same = places_plain all x is in
    record {
      holder = h.holder;
      climbs = subst C (sym same) h.climbs;
      knows = λ q last e. ((h.knows q last e).0, (h.knows q last e).1 ∙ ap (last_of 0) (sym same));
      unmade = λ e. ((h.unmade e).0, same ∙ (h.unmade e).1);
    }

-- the seat that has the turn puts what bears a place
place_some : (all : List Item) (views : List SeatView) (p : ℕ) (v : SeatView) (x : Item) (last place : ℕ) → get_elem? views p ≡ some v → v.turn ≡ Some last → x.place ≡ Some place → last ≤ place → Placed all views
    → Placed (all ++ x ∷ []) (set views p (after_placed v x))
place_some all views p v x last place at has is rises h =
    let w : SeatView = after_placed v x in
    let known : seat_known views p ≡ v = known_at views p v at in
    let turn = h.knows p last (ap (λ (u : SeatView). u.turn) known ∙ has) in
    let same = places_placed all x place is in
    let Q : ℕ → SeatView → Type 0 = λ q u. KnowsLast h.holder (all ++ x ∷ []) q u in
    let mine : KnowsLast h.holder (all ++ x ∷ []) p w = λ n e.
    let now : n ≡ place = ap last_in (sym e ∙ ap (turn_after v.turn) is) in (turn.0, now ∙ sym (place_last 0 (places_of all) place) ∙ ap (last_of 0) (sym same)) in
    let C : List ℕ → Type 0 = λ l. Climbs 0 l in
    let L : ℕ → Type 0 = λ n. n ≤ place in
    record {
      holder = h.holder;
      climbs = subst C (sym same) (climbs_snoc 0 (places_of all) place h.climbs (subst L turn.1 rises));
      knows = each_set Q views p v w at mine (λ q n k e. absurd (n ((h.knows q k e).0 ∙ sym turn.0)));
      unmade = λ e.
          let was = h.unmade (sym (minted_set views p v w at refl 0) ∙ e) in
          let none : v.turn ≡ None = ap (λ (u : SeatView). u.turn) (sym known) ∙ was.0 p in absurd (cc);
    }

pub place_placed : (all : List Item) (views : List SeatView) (p : ℕ) (v : SeatView) (x : Item) (last : ℕ) → get_elem? views p ≡ some v → v.turn ≡ Some last → IsSomeAnd x.place (λ place. last ≤ place) → Placed all views
    → Placed (all ++ x ∷ []) (set views p (after_placed v x))
place_placed all views p v x last at has may h = pick x.place refl may
  where
    pick : (place : Option ℕ) → x.place ≡ place → IsSomeAnd place (λ place. last ≤ place) → Placed (all ++ x ∷ []) (set views p (after_placed v x))
    pick None is may = absurd may
    pick (Some place) is may = place_some all views p v x last place at has is may h

first_minted : (views : List SeatView) (v r : SeatView) → get_elem? views 0 ≡ some v → (seat_known (set views 0 minter ++ r ∷ []) 0).minted ≡ true
first_minted [] v r at = absurd (some-ne-none v (sym at))
first_minted (x ∷ xs) v r at = refl

-- the turn is made of the first seat
pub place_mints : (all : List Item) (views : List SeatView) → get_elem? views 0 ≡ some blank → Placed all views → Placed all (set views 0 minter ++ turn_at 0 ∷ [])
place_mints all views at h =
    let made : List SeatView = set views 0 minter in
    let was = h.unmade (ap (λ (u : SeatView). u.minted) (known_at views 0 blank at)) in
    let Q : ℕ → SeatView → Type 0 = λ q u. KnowsLast (length made) all q u in
    let old : (q : ℕ) → KnowsLast (length made) all q (seat_known views q) = λ q last e. let none = was.0 q in absurd (cc) in
    let first : KnowsLast (length made) all 0 minter = λ last e. absurd (cc) in
    let turn : KnowsLast (length made) all (length made) (turn_at 0) = λ last e. (refl, ap last_in (sym e) ∙ ap (last_of 0) (sym was.1)) in
    let set_knows = each_set Q views 0 blank minter at first (λ q n. old q) in
    record {
      holder = length made;
      climbs = h.climbs;
      knows = each_new Q made (turn_at 0) turn (λ q n. set_knows q);
      unmade = λ e. absurd (true≢false (sym (first_minted views blank (turn_at 0) at) ∙ e));
    }

-- a seat takes the turn in
pub place_lends : (all : List Item) (views : List SeatView) (p : ℕ) (v : SeatView) (other last : ℕ) → get_elem? views p ≡ some v → other ≢ p → get_elem? (set views p (with_turn v (Some last))) other ≡ some (turn_at last) → Placed all views
    → Placed all (set (set views p (with_turn v (Some last))) other blank)
place_lends all views p v other last at apart at' h =
    let both : SeatView = with_turn v (Some last) in
    let mid : List SeatView = set views p both in
    let theirs : seat_known views other ≡ turn_at last = sym (known_else views p v both at other apart) ∙ known_at mid other (turn_at last) at' in
    let has = h.knows other last (ap (λ (u : SeatView). u.turn) theirs) in
    let mine : KnowsLast p all p both = λ n e. (refl, ap last_in (sym e) ∙ has.1) in
    let Q : ℕ → SeatView → Type 0 = λ q u. KnowsLast p all q u in
    let R : ℕ → SeatView → Type 0 = λ q u. q ≢ other → KnowsLast p all q u in
    let mid_knows = each_set R views p v both at (λ _. mine) (λ q n m k e. absurd (m ((h.knows q k e).0 ∙ sym has.0))) in
    let spent : KnowsLast p all other blank = λ n e. absurd (cc) in
    record {
      holder = p;
      climbs = h.climbs;
      knows = each_set Q mid other (turn_at last) blank at' spent (λ q n. mid_knows q n);
      unmade = λ e.
          let was = h.unmade (sym (minted_set views p v both at refl 0) ∙ sym (minted_set mid other (turn_at last) blank at' refl 0) ∙ e) in
          let none : (turn_at last).turn ≡ None = ap (λ (u : SeatView). u.turn) (sym theirs) ∙ was.0 other in absurd (cc);
    }

-- and gives it back
pub place_back : (all : List Item) (views : List SeatView) (p : ℕ) (v : SeatView) (last : ℕ) → get_elem? views p ≡ some v → v.turn ≡ Some last → Placed all views → Placed all (set views p (with_turn v None) ++ with_turn blank v.turn ∷ [])
place_back all views p v last at is h =
    let left : SeatView = with_turn v None in
    let right : SeatView = with_turn blank v.turn in
    let mid : List SeatView = set views p left in
    let known : seat_known views p ≡ v = known_at views p v at in
    let has = h.knows p last (ap (λ (u : SeatView). u.turn) known ∙ is) in
    let Q : ℕ → SeatView → Type 0 = λ q u. KnowsLast (length mid) all q u in
    let mine : KnowsLast (length mid) all p left = λ k e. absurd (cc) in
    let mid_knows = each_set Q views p v left at mine (λ q n k e. absurd (n ((h.knows q k e).0 ∙ sym has.0))) in
    let new : KnowsLast (length mid) all (length mid) right = λ k e. (refl, (h.knows p k (ap (λ (u : SeatView). u.turn) known ∙ e)).1) in
    record {
      holder = length mid;
      climbs = h.climbs;
      knows = each_new Q mid right new (λ q n. mid_knows q);
      unmade = λ e.
          let was = h.unmade (sym (minted_set views p v left at refl 0) ∙ sym (minted_snoc mid right refl 0) ∙ e) in
          let none : v.turn ≡ None = ap (λ (u : SeatView). u.turn) (sym known) ∙ was.0 p in absurd (cc);
    }

abbrev pub Has : SeatView → Type 0
Has v = (last : ℕ) × (v.turn ≡ Some last)

-- a put leaves the turn with who had it, whether it was refused or not
pub put_had : (v w : SeatView) (x : Item) (result : Result (Unit {0}) Item) (A B : Type 0) → Has v → MatchResult result (λ _. (w ≡ after_placed v x) × A) (λ y. (y ≡ x) × (w ≡ v) × B) → Has w
put_had v w x (Ok _) A B had rule = pick x.place (ap (λ (u : SeatView). u.turn) rule.0)
  where
    pick : (place : Option ℕ) → w.turn ≡ turn_after v.turn place → Has w
    pick None is = (had.0, is ∙ had.1)
    pick (Some place) is = (place, is)
put_had v w x (Err y) A B had rule = (had.0, ap (λ (u : SeatView). u.turn) rule.1 ∙ had.1)

-- a copy of the turn's view is one
pub turn_again : (lent mine : SeatView) → lent ≡ mine → mine ≡ turn_at (last_in mine.turn) → lent ≡ turn_at (last_in lent.turn)
turn_again lent mine same is = let P : SeatView → Type 0 = λ v. v ≡ turn_at (last_in v.turn) in subst P (sym same) is

-- what has taken in the turn has it
pub turn_there : (v lent mine w : SeatView) → lent ≡ mine → mine ≡ turn_at (last_in mine.turn) → w ≡ with_turn v lent.turn → w.turn ≡ Some (last_in mine.turn)
turn_there v lent mine w same is now = ap (λ (u : SeatView). u.turn) now ∙ ap (λ (u : SeatView). u.turn) same ∙ ap (λ (u : SeatView). u.turn) is
