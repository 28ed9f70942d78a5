-- The entries of a slab by falling id: where each stands, and what an insert and a removal do.
use Rattle.std.proofs.Common.{◌≡◌, ◌≢◌, ℕ, zero, suc, ◌<◌, ◌≤◌, ◌+◌, Bool, true, false, not, ◌||◌, cond, List, [], ◌∷◌, length, get_or, refl, sym, ap, ◌∙◌, subst, eqb, ltb, inl, inr, arith, count_by}
use Rattle.std.proofs.lemmas.Bool.{eq-eqb, ne_eqb, or_parts, lt-ltb, le-ltb, ltb-true, ltb-false, cases_Bool, false≢true, cond-true, cond-false, not_from_true, not_from_false}
use Rattle.std.proofs.lemmas.List.Sums.{sum_by-cons}
use Rattle.std.specs.Prelude.{Option, Some, None, is_some, option_map, find}
use Rattle.entry_table.specs.PlaceLists.{has_place, AreOnce}
use Rattle.entry_table.specs.declared.entry.Entry.{Entry}
use Rattle.entry_table.specs.PlacedEntries.{Placed, by_id, with_slot, placed_from, places_of, entry_at, but_at}
use Rattle.entry_table.specs.Searching.{AreGiven, AreBelow}
use Rattle.entry_table.proofs.Finding.{but_at-out, AreGiven-but}

-- ---- one more entry

module _ (x : Placed) where
  goes-after : (y : Placed) (ys : List Placed) → x.1.id < y.1.id → by_id x (y ∷ ys) ≡ y ∷ by_id x ys
  goes-after y ys low = cond-true (ltb x.1.id y.1.id) (y ∷ by_id x ys) (x ∷ y ∷ ys) (lt-ltb x.1.id y.1.id low)

  goes-before : (y : Placed) (ys : List Placed) → y.1.id ≤ x.1.id → by_id x (y ∷ ys) ≡ x ∷ y ∷ ys
  goes-before y ys high = cond-false (ltb x.1.id y.1.id) (y ∷ by_id x ys) (x ∷ y ∷ ys) (le-ltb x.1.id y.1.id high)

  goes-first : (xs : List Placed) → AreGiven x.1.id xs → by_id x xs ≡ x ∷ xs
  goes-first [] falls = refl
  goes-first (y ∷ ys) falls = goes-before y ys falls.0

at-first : (place : ℕ) (x : Placed) (xs : List Placed) → eqb place x.0 ≡ true → entry_at place (x ∷ xs) ≡ Some x.1
at-first place x xs here = ap (option_map {T = Placed} {U = Entry} (λ (y : Placed). y.1)) (cond-true (eqb place x.0) (Some x) (find (λ (y : Placed). eqb place y.0) xs) here)

at-later : (place : ℕ) (x : Placed) (xs : List Placed) → eqb place x.0 ≡ false → entry_at place (x ∷ xs) ≡ entry_at place xs
at-later place x xs there = ap (option_map {T = Placed} {U = Entry} (λ (y : Placed). y.1)) (cond-false (eqb place x.0) (Some x) (find (λ (y : Placed). eqb place y.0) xs) there)

some_none : (e : Entry) (o : Option Entry) → o ≡ Some e → o ≡ None → ⊥
some_none e o is none = absurd cc

entry_at-own : (x : Placed) (xs : List Placed) → entry_at x.0 xs ≡ None → entry_at x.0 (by_id x xs) ≡ Some x.1
entry_at-own x [] none = at-first x.0 x [] (eq-eqb x.0 x.0 refl)
entry_at-own x (y ∷ ys) none =
    elim (cases_Bool (eqb x.0 y.0)) [
      | inl here ↦ absurd (some_none y.1 (entry_at x.0 (y ∷ ys)) (at-first x.0 y ys here) none)
      | inr there ↦ (elim (cases_Bool (ltb x.1.id y.1.id)) [
        | inl lower ↦ ap (entry_at x.0) (goes-after x y ys (ltb-true x.1.id y.1.id lower)) ∙ at-later x.0 y (by_id x ys) there ∙ entry_at-own x ys (sym (at-later x.0 y ys there) ∙ none)
        | inr higher ↦ ap (entry_at x.0) (goes-before x y ys (ltb-false x.1.id y.1.id higher)) ∙ at-first x.0 x (y ∷ ys) (eq-eqb x.0 x.0 refl)
      ])
    ]

entry_at-other : (place : ℕ) (x : Placed) (xs : List Placed) → place ≢ x.0 → entry_at place (by_id x xs) ≡ entry_at place xs
entry_at-other place x [] other = at-later place x [] (ne_eqb place x.0 other)
entry_at-other place x (y ∷ ys) other =
    elim (cases_Bool (ltb x.1.id y.1.id)) [
      | inl lower ↦ ap (entry_at place) (goes-after x y ys (ltb-true x.1.id y.1.id lower)) ∙ (elim (cases_Bool (eqb place y.0)) [
        | inl here ↦ at-first place y (by_id x ys) here ∙ sym (at-first place y ys here)
        | inr there ↦ at-later place y (by_id x ys) there ∙ entry_at-other place x ys other ∙ sym (at-later place y ys there)
      ])
      | inr higher ↦ ap (entry_at place) (goes-before x y ys (ltb-false x.1.id y.1.id higher)) ∙ at-later place x (y ∷ ys) (ne_eqb place x.0 other)
    ]

-- a place is one of theirs where an entry stands there
pub has_place-entry_at : (place : ℕ) (xs : List Placed) → has_place place (places_of xs) ≡ is_some (entry_at place xs)
has_place-entry_at place [] = refl
has_place-entry_at place (x ∷ xs) =
    elim (cases_Bool (eqb place x.0)) [
      | inl here ↦ ap (λ (b : Bool). b || has_place place (places_of xs)) here ∙ ap (λ (o : Option Entry). is_some o) (sym (at-first place x xs here))
      | inr there ↦ ap (λ (b : Bool). b || has_place place (places_of xs)) there ∙ has_place-entry_at place xs ∙ ap (λ (o : Option Entry). is_some o) (sym (at-later place x xs there))
    ]

AreOnce-by_id : (x : Placed) (xs : List Placed) → has_place x.0 (places_of xs) ≡ false → AreOnce (places_of xs) → AreOnce (places_of (by_id x xs))
AreOnce-by_id x [] out once = (refl, tt)
AreOnce-by_id x (y ∷ ys) out once =
    let parts = or_parts (eqb x.0 y.0) (has_place x.0 (places_of ys)) out in
    let apart : y.0 ≢ x.0 = (λ e. false≢true (sym parts.0 ∙ eq-eqb x.0 y.0 (sym e))) in
    let still : has_place y.0 (places_of (by_id x ys)) ≡ false =
    has_place-entry_at y.0 (by_id x ys) ∙ ap (λ (o : Option Entry). is_some o) (entry_at-other y.0 x ys apart) ∙ sym (has_place-entry_at y.0 ys) ∙ once.0 in
    elim (cases_Bool (ltb x.1.id y.1.id)) [
      | inl lower ↦ subst (λ (zs : List Placed). AreOnce (places_of zs)) (sym (goes-after x y ys (ltb-true x.1.id y.1.id lower))) (still, AreOnce-by_id x ys parts.1 once.1)
      | inr higher ↦ subst (λ (zs : List Placed). AreOnce (places_of zs)) (sym (goes-before x y ys (ltb-false x.1.id y.1.id higher))) (out, once)
    ]

length-by_id : (x : Placed) (xs : List Placed) → length (by_id x xs) ≡ suc (length xs)
length-by_id x [] = refl
length-by_id x (y ∷ ys) =
    elim (cases_Bool (ltb x.1.id y.1.id)) [
      | inl lower ↦ ap (λ (zs : List Placed). length zs) (goes-after x y ys (ltb-true x.1.id y.1.id lower)) ∙ ap suc (length-by_id x ys)
      | inr higher ↦ ap (λ (zs : List Placed). length zs) (goes-before x y ys (ltb-false x.1.id y.1.id higher))
    ]

-- ---- ids that don't rise

AreGiven-raised : (low high : ℕ) (xs : List Placed) → low ≤ high → AreGiven low xs → AreGiven high xs
AreGiven-raised low high [] le falls = tt
AreGiven-raised low high (x ∷ xs) le falls = (omega (arith, falls.0), AreGiven-raised low high xs le falls.1)

AreGiven-below : (id : ℕ) (xs : List Placed) → AreBelow id xs → AreGiven id xs
AreGiven-below id [] below = tt
AreGiven-below id (x ∷ xs) below = (omega (arith, below.0), AreGiven-below id xs below.1)

AreGiven-by_id : (last : ℕ) (x : Placed) (xs : List Placed) → x.1.id ≤ last → AreGiven last xs → AreGiven last (by_id x xs)
AreGiven-by_id last x [] le falls = (le, tt)
AreGiven-by_id last x (y ∷ ys) le falls =
    elim (cases_Bool (ltb x.1.id y.1.id)) [
      | inl lower ↦ subst (AreGiven last) (sym (goes-after x y ys (ltb-true x.1.id y.1.id lower))) (falls.0, AreGiven-by_id last x ys le falls.1)
      | inr higher ↦ subst (AreGiven last) (sym (goes-before x y ys (ltb-false x.1.id y.1.id higher))) (le, falls)
    ]

-- no id is above one before it
abbrev DontRise : List Placed → Type 0
DontRise [] = Unit {0}
DontRise (x ∷ xs) = AreGiven x.1.id xs × DontRise xs

DontRise-by_id : (x : Placed) (xs : List Placed) → DontRise xs → DontRise (by_id x xs)
DontRise-by_id x [] fall = (tt, tt)
DontRise-by_id x (y ∷ ys) fall =
    elim (cases_Bool (ltb x.1.id y.1.id)) [
      | inl lower ↦ (let low = ltb-true x.1.id y.1.id lower in subst DontRise (sym (goes-after x y ys low)) (AreGiven-by_id y.1.id x ys (omega (arith, low)) fall.0, DontRise-by_id x ys fall.1))
      | inr higher ↦ (let high = ltb-false x.1.id y.1.id higher in subst DontRise (sym (goes-before x y ys high)) ((high, AreGiven-raised y.1.id x.1.id ys high fall.0), fall))
    ]

-- ---- the entries of slots

pub entry_at-below : (place first : ℕ) (slots : List (Option Entry)) → place < first → entry_at place (placed_from first slots) ≡ None
entry_at-below place first [] low = refl
entry_at-below place first (None ∷ slots) low = entry_at-below place (first + 1) slots (omega (arith, low))
entry_at-below place first (Some e ∷ slots) low = entry_at-other place (first, e) (placed_from (first + 1) slots) (λ same. omega (arith, same, low)) ∙ entry_at-below place (first + 1) slots (omega (arith, low))

-- what stands at a place is what the slot has
entry_at-slot : (place first k : ℕ) (slots : List (Option Entry)) → place ≡ first + k → entry_at place (placed_from first slots) ≡ get_or slots k None
entry_at-slot place first zero [] is = refl
entry_at-slot place first (suc k) [] is = refl
entry_at-slot place first zero (None ∷ slots) is = entry_at-below place (first + 1) slots (omega (arith, is))
entry_at-slot place first (suc k) (None ∷ slots) is = entry_at-slot place (first + 1) k slots (omega (arith, is))
entry_at-slot place first zero (Some e ∷ slots) is =
    let here : place ≡ first = omega (arith, is) in
    ap (λ (p : ℕ). entry_at p (by_id (first, e) (placed_from (first + 1) slots))) here ∙ entry_at-own (first, e) (placed_from (first + 1) slots) (entry_at-below first (first + 1) slots (omega arith))
entry_at-slot place first (suc k) (Some e ∷ slots) is =
    entry_at-other place (first, e) (placed_from (first + 1) slots) (λ same. omega (arith, same, is)) ∙ entry_at-slot place (first + 1) k slots (omega (arith, is))

pub entry_at-placed : (place : ℕ) (slots : List (Option Entry)) → entry_at place (placed_from 0 slots) ≡ get_or slots place None
entry_at-placed place slots = entry_at-slot place 0 place slots (omega arith)

out-below : (place first : ℕ) (slots : List (Option Entry)) → place < first → has_place place (places_of (placed_from first slots)) ≡ false
out-below place first slots low = has_place-entry_at place (placed_from first slots) ∙ ap (λ (o : Option Entry). is_some o) (entry_at-below place first slots low)

pub AreOnce-placed : (first : ℕ) (slots : List (Option Entry)) → AreOnce (places_of (placed_from first slots))
AreOnce-placed first [] = tt
AreOnce-placed first (None ∷ slots) = AreOnce-placed (first + 1) slots
AreOnce-placed first (Some e ∷ slots) = AreOnce-by_id (first, e) (placed_from (first + 1) slots) (out-below first (first + 1) slots (omega arith)) (AreOnce-placed (first + 1) slots)

pub length-placed : (first : ℕ) (slots : List (Option Entry)) → length (placed_from first slots) ≡ count_by is_some slots
length-placed first [] = refl
length-placed first (None ∷ slots) = omega (arith, length-placed (first + 1) slots, sum_by-cons (λ (o : Option Entry). cond (is_some o) 1 0) None slots)
length-placed first (Some e ∷ slots) = omega (arith, length-by_id (first, e) (placed_from (first + 1) slots), length-placed (first + 1) slots, sum_by-cons (λ (o : Option Entry). cond (is_some o) 1 0) (Some e) slots)

DontRise-placed : (first : ℕ) (slots : List (Option Entry)) → DontRise (placed_from first slots)
DontRise-placed first [] = tt
DontRise-placed first (None ∷ slots) = DontRise-placed (first + 1) slots
DontRise-placed first (Some e ∷ slots) = DontRise-by_id (first, e) (placed_from (first + 1) slots) (DontRise-placed (first + 1) slots)

-- all slots but the first
abbrev later : List (Option Entry) → List (Option Entry)
later [] = []
later (slot ∷ slots) = slots

placed-parts : (first : ℕ) (slots : List (Option Entry)) → placed_from first slots ≡ with_slot first (get_or slots 0 None) (placed_from (first + 1) (later slots))
placed-parts first [] = refl
placed-parts first (slot ∷ slots) = refl

get_or-later : (slots : List (Option Entry)) (k : ℕ) → get_or (later slots) k None ≡ get_or slots (suc k) None
get_or-later [] zero = refl
get_or-later [] (suc k) = refl
get_or-later (slot ∷ slots) k = refl

-- slots that have the same at each place
placed-same : (first : ℕ) (old new : List (Option Entry)) → ((k : ℕ) → get_or new k None ≡ get_or old k None) → placed_from first new ≡ placed_from first old
placed-same first [] [] same = refl
placed-same first [] (n ∷ ns) same =
    ap (λ (slot : Option Entry). with_slot first slot (placed_from (first + 1) ns)) (same 0) ∙ placed-same (first + 1) [] ns (λ k. same (suc k) ∙ sym (get_or-later [] k))
placed-same first (o ∷ os) [] same =
    placed-same (first + 1) os [] (λ k. get_or-later [] k ∙ same (suc k)) ∙ ap (λ (slot : Option Entry). with_slot first slot (placed_from (first + 1) os)) (same 0)
placed-same first (o ∷ os) (n ∷ ns) same =
    ap (λ (slot : Option Entry). with_slot first slot (placed_from (first + 1) ns)) (same 0) ∙ ap (with_slot first o) (placed-same (first + 1) os ns (λ k. same (suc k)))

-- the slots differ at one place alone
abbrev DifferAt : ℕ → List (Option Entry) → List (Option Entry) → Type 0
DifferAt k old new = (j : ℕ) → j ≢ k → get_or new j None ≡ get_or old j None

later-same : (old new : List (Option Entry)) → DifferAt 0 old new → (k : ℕ) → get_or (later new) k None ≡ get_or (later old) k None
later-same old new others k = get_or-later new k ∙ others (suc k) (λ e. omega (arith, e)) ∙ sym (get_or-later old k)

later-differ : (k : ℕ) (old new : List (Option Entry)) → DifferAt (suc k) old new → DifferAt k (later old) (later new)
later-differ k old new others = λ j other. get_or-later new j ∙ others (suc j) (λ e. other (omega (arith, e))) ∙ sym (get_or-later old j)

first-same : (k first : ℕ) (old new : List (Option Entry)) → DifferAt (suc k) old new → placed_from first new ≡ with_slot first (get_or old 0 None) (placed_from (first + 1) (later new))
first-same k first old new others =
    placed-parts first new ∙ ap (λ (slot : Option Entry). with_slot first slot (placed_from (first + 1) (later new))) (others 0 (λ e. omega (arith, e)))

AreBelow-parts : (id : ℕ) (x : Placed) (xs : List Placed) → AreBelow id (by_id x xs) → (x.1.id < id) × AreBelow id xs
AreBelow-parts id x [] below = below
AreBelow-parts id x (y ∷ ys) below =
    elim (cases_Bool (ltb x.1.id y.1.id)) [
      | inl lower ↦ (
          let h : AreBelow id (y ∷ by_id x ys) = subst (AreBelow id) (goes-after x y ys (ltb-true x.1.id y.1.id lower)) below in
          let parts = AreBelow-parts id x ys h.1 in (parts.0, (h.0, parts.1)))
      | inr higher ↦ subst (AreBelow id) (goes-before x y ys (ltb-false x.1.id y.1.id higher)) below
    ]

below-later : (id first : ℕ) (slot : Option Entry) (held : List Placed) → AreBelow id (with_slot first slot held) → AreBelow id held
below-later id first None held below = below
below-later id first (Some e) held below = (AreBelow-parts id (first, e) held below).1

newest-first : (first : ℕ) (slot : Option Entry) (x : Placed) (held : List Placed) → AreBelow x.1.id (with_slot first slot held) → with_slot first slot (x ∷ held) ≡ x ∷ with_slot first slot held
newest-first first None x held below = refl
newest-first first (Some e) x held below = goes-after (first, e) x held (AreBelow-parts x.1.id (first, e) held below).0

-- the newest entry is put into a free slot
newest-put : (place first k : ℕ) (e : Entry) (old new : List (Option Entry)) → place ≡ first + k → get_or old k None ≡ None → get_or new k None ≡ Some e → DifferAt k old new → AreBelow e.id (placed_from first old)
    → placed_from first new ≡ (place, e) ∷ placed_from first old
newest-put place first zero e old new is was now others below =
    let here : first ≡ place = omega (arith, is) in
    let old_is : placed_from first old ≡ placed_from (first + 1) (later old) = placed-parts first old ∙ ap (λ (slot : Option Entry). with_slot first slot (placed_from (first + 1) (later old))) was in
    placed-parts first new
    ∙ ap (λ (slot : Option Entry). with_slot first slot (placed_from (first + 1) (later new))) now
    ∙ ap (by_id (first, e)) (placed-same (first + 1) (later old) (later new) (later-same old new others) ∙ sym old_is)
    ∙ goes-first (first, e) (placed_from first old) (AreGiven-below e.id (placed_from first old) below)
    ∙ ap (λ (p : ℕ). (p, e) ∷ placed_from first old) here
newest-put place first (suc k) e old new is was now others below =
    let slot : Option Entry = get_or old 0 None in
    let rest : List Placed = placed_from (first + 1) (later old) in
    let old_is : placed_from first old ≡ with_slot first slot rest = placed-parts first old in
    let below_now : AreBelow e.id (with_slot first slot rest) = subst (AreBelow e.id) old_is below in
    let one_more = newest-put place (first + 1) k e (later old) (later new) (omega (arith, is)) (get_or-later old k ∙ was) (get_or-later new k ∙ now) (later-differ k old new others) (below-later e.id first slot rest below_now) in
    first-same k first old new others
    ∙ ap (with_slot first slot) one_more
    ∙ newest-first first slot (place, e) rest below_now
    ∙ ap (λ (ys : List Placed). (place, e) ∷ ys) (sym old_is)

pub placed-put : (place : ℕ) (e : Entry) (old new : List (Option Entry)) → get_or old place None ≡ None → get_or new place None ≡ Some e → ((other : ℕ) → other ≢ place → get_or new other None ≡ get_or old other None) → AreBelow e.id (placed_from 0 old)
    → placed_from 0 new ≡ (place, e) ∷ placed_from 0 old
placed-put place e old new was now others below = newest-put place 0 place e old new (omega arith) was now others below

-- ---- an entry less

drops : (place : ℕ) (x : Placed) (xs : List Placed) → eqb place x.0 ≡ true → but_at place (x ∷ xs) ≡ but_at place xs
drops place x xs here = cond-false (not (eqb place x.0)) (x ∷ but_at place xs) (but_at place xs) (not_from_true (eqb place x.0) here)

keeps : (place : ℕ) (x : Placed) (xs : List Placed) → eqb place x.0 ≡ false → but_at place (x ∷ xs) ≡ x ∷ but_at place xs
keeps place x xs there = cond-true (not (eqb place x.0)) (x ∷ but_at place xs) (but_at place xs) (not_from_false (eqb place x.0) there)

but_at-own : (x : Placed) (xs : List Placed) → but_at x.0 (by_id x xs) ≡ but_at x.0 xs
but_at-own x [] = drops x.0 x [] (eq-eqb x.0 x.0 refl)
but_at-own x (y ∷ ys) =
    elim (cases_Bool (ltb x.1.id y.1.id)) [
      | inl lower ↦ ap (but_at x.0) (goes-after x y ys (ltb-true x.1.id y.1.id lower)) ∙ ap (λ (zs : List Placed). cond (not (eqb x.0 y.0)) (y ∷ zs) zs) (but_at-own x ys)
      | inr higher ↦ ap (but_at x.0) (goes-before x y ys (ltb-false x.1.id y.1.id higher)) ∙ drops x.0 x (y ∷ ys) (eq-eqb x.0 x.0 refl)
    ]

but_at-other : (place : ℕ) (x : Placed) (xs : List Placed) → eqb place x.0 ≡ false → DontRise xs → but_at place (by_id x xs) ≡ by_id x (but_at place xs)
but_at-other place x [] other fall = keeps place x [] other
but_at-other place x (y ∷ ys) other fall =
    elim (cases_Bool (ltb x.1.id y.1.id)) [
      | inl lower ↦ (
          let low = ltb-true x.1.id y.1.id lower in
          let rest = but_at-other place x ys other fall.1 in
          ap (but_at place) (goes-after x y ys low) ∙ (elim (cases_Bool (eqb place y.0)) [
            | inl here ↦ drops place y (by_id x ys) here ∙ rest ∙ ap (by_id x) (sym (drops place y ys here))
            | inr there ↦ keeps place y (by_id x ys) there ∙ ap (λ (zs : List Placed). y ∷ zs) rest ∙ sym (goes-after x y (but_at place ys) low) ∙ ap (by_id x) (sym (keeps place y ys there))
          ]))
      | inr higher ↦ (
          let high = ltb-false x.1.id y.1.id higher in
          let falls : AreGiven x.1.id (y ∷ ys) = (high, AreGiven-raised y.1.id x.1.id ys high fall.0) in
          ap (but_at place) (goes-before x y ys high) ∙ keeps place x (y ∷ ys) other ∙ sym (goes-first x (but_at place (y ∷ ys)) (AreGiven-but x.1.id place (y ∷ ys) falls)))
    ]

own-slot : (place : ℕ) (slot : Option Entry) (held : List Placed) → has_place place (places_of held) ≡ false → but_at place (with_slot place slot held) ≡ held
own-slot place None held out = but_at-out place held out
own-slot place (Some e) held out = but_at-own (place, e) held ∙ but_at-out place held out

other-slot : (place first : ℕ) (slot : Option Entry) (held : List Placed) → place ≢ first → DontRise held → but_at place (with_slot first slot held) ≡ with_slot first slot (but_at place held)
other-slot place first None held other fall = refl
other-slot place first (Some e) held other fall = but_at-other place (first, e) held (ne_eqb place first other) fall

slot-emptied : (place first k : ℕ) (old new : List (Option Entry)) → place ≡ first + k → get_or new k None ≡ None → DifferAt k old new → placed_from first new ≡ but_at place (placed_from first old)
slot-emptied place first zero old new is now others =
    let here : place ≡ first = omega (arith, is) in
    let rest : List Placed = placed_from (first + 1) (later old) in
    placed-parts first new
    ∙ ap (λ (slot : Option Entry). with_slot first slot (placed_from (first + 1) (later new))) now
    ∙ placed-same (first + 1) (later old) (later new) (later-same old new others)
    ∙ sym (own-slot first (get_or old 0 None) rest (out-below first (first + 1) (later old) (omega arith)))
    ∙ ap (but_at first) (sym (placed-parts first old))
    ∙ ap (λ (p : ℕ). but_at p (placed_from first old)) (sym here)
slot-emptied place first (suc k) old new is now others =
    let rest : List Placed = placed_from (first + 1) (later old) in
    first-same k first old new others
    ∙ ap (with_slot first (get_or old 0 None)) (slot-emptied place (first + 1) k (later old) (later new) (omega (arith, is)) (get_or-later new k ∙ now) (later-differ k old new others))
    ∙ sym (other-slot place first (get_or old 0 None) rest (λ same. omega (arith, same, is)) (DontRise-placed (first + 1) (later old)))
    ∙ ap (but_at place) (sym (placed-parts first old))

pub placed-take : (place : ℕ) (old new : List (Option Entry)) → get_or new place None ≡ None → ((other : ℕ) → other ≢ place → get_or new other None ≡ get_or old other None) → placed_from 0 new ≡ but_at place (placed_from 0 old)
placed-take place old new now others = slot-emptied place 0 place old new (omega arith) now others
