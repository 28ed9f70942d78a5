-- Lists of places by a key of the entries: what a push and a removal do to them, and what a search in one finds.
use Rattle.std.proofs.Common.{◌≡◌, ◌≢◌, ℕ, ◌<◌, ◌≤◌, ◌+◌, true, false, not, List, [], ◌∷◌, length, refl, sym, ap, ◌∙◌, subst, eqb, inl, inr, arith, get_or-set_same, get_or-set_other}
use Rattle.std.proofs.lemmas.List.{length-set, length-replicate, get_or-replicate}
use Rattle.std.proofs.lemmas.Bool.{eqb-true, ne_eqb, eq-eqb, or_parts, or_from, or_left, or_right, cases_eq, cases_Bool, cond-true, cond-false, not_from_true, not_from_false}
use Rattle.std.specs.Prelude.{Option, Some, filter, find, option_map}
use Rattle.entry_table.specs.PlaceLists.{PlaceLists, places_in, has_place, without, AreOnce, IsFree, empty_lists}
use Rattle.entry_table.proofs.Places.{Out-from_test, without-out}
use Rattle.entry_table.specs.declared.entry.Entry.{Entry}
use Rattle.entry_table.specs.PlacedEntries.{Placed, places_of, entry_at, but_at, room}
use Rattle.entry_table.specs.IndexLists.{places_with_key, IsKeyed, put_in, taken_from}

module _ (key : Entry → ℕ) where
  pub keyed-here : (k : ℕ) (x : Placed) (xs : List Placed) → key x.1 ≡ k → places_with_key key k (x ∷ xs) ≡ x.0 ∷ places_with_key key k xs
  keyed-here k x xs is = ap places_of (cond-true (eqb (key x.1) k) (x ∷ filter (λ (y : Placed). eqb (key y.1) k) xs) (filter (λ (y : Placed). eqb (key y.1) k) xs) (eq-eqb (key x.1) k is))

  pub keyed-other : (k : ℕ) (x : Placed) (xs : List Placed) → key x.1 ≢ k → places_with_key key k (x ∷ xs) ≡ places_with_key key k xs
  keyed-other k x xs other = ap places_of (cond-false (eqb (key x.1) k) (x ∷ filter (λ (y : Placed). eqb (key y.1) k) xs) (filter (λ (y : Placed). eqb (key y.1) k) xs) (ne_eqb (key x.1) k other))

  -- a place that no entry has stands in no list
  keyed-out : (k place : ℕ) (xs : List Placed) → has_place place (places_of xs) ≡ false → has_place place (places_with_key key k xs) ≡ false
  keyed-out k place [] out = refl
  keyed-out k place (x ∷ xs) out =
      let parts = or_parts (eqb place x.0) (has_place place (places_of xs)) out in
      elim (cases_eq (key x.1) k) [
        | inl is ↦ ap (has_place place) (keyed-here k x xs is) ∙ or_from (eqb place x.0) (has_place place (places_with_key key k xs)) parts.0 (keyed-out k place xs parts.1)
        | inr other ↦ ap (has_place place) (keyed-other k x xs other) ∙ keyed-out k place xs parts.1
      ]

  -- the entry at a place, first in the list
  pub first_at : (place : ℕ) (x : Placed) (xs : List Placed) (e : Entry) → eqb place x.0 ≡ true → entry_at place (x ∷ xs) ≡ Some e → x.1 ≡ e
  first_at place x xs e here at =
      let same : ◌≡◌ {A = Option Entry} (Some x.1) (Some e) = sym (ap (λ (o : Option Placed). option_map {T = Placed} {U = Entry} (λ (y : Placed). y.1) o) (cond-true (eqb place x.0) (Some x) (find (λ (y : Placed). eqb place y.0) xs) here)) ∙ at in cc

  pub later_at : (place : ℕ) (x : Placed) (xs : List Placed) (e : Entry) → eqb place x.0 ≡ false → entry_at place (x ∷ xs) ≡ Some e → entry_at place xs ≡ Some e
  later_at place x xs e there at =
      sym (ap (λ (o : Option Placed). option_map {T = Placed} {U = Entry} (λ (y : Placed). y.1) o) (cond-false (eqb place x.0) (Some x) (find (λ (y : Placed). eqb place y.0) xs) there)) ∙ at

  -- the place of an entry stands in the list of the entry's key
  pub keyed-stands : (place : ℕ) (e : Entry) (xs : List Placed) → entry_at place xs ≡ Some e → has_place place (places_with_key key (key e) xs) ≡ true
  keyed-stands place e [] at = absurd cc
  keyed-stands place e (x ∷ xs) at =
      elim (cases_Bool (eqb place x.0)) [
        | inl here ↦ ap (has_place place) (keyed-here (key e) x xs (ap key (first_at place x xs e here at))) ∙ or_left (eqb place x.0) (has_place place (places_with_key key (key e) xs)) here
        | inr there ↦ (let later = keyed-stands place e xs (later_at place x xs e there at) in elim (cases_eq (key x.1) (key e)) [
          | inl is ↦ ap (has_place place) (keyed-here (key e) x xs is) ∙ or_right (eqb place x.0) (has_place place (places_with_key key (key e) xs)) later
          | inr other ↦ ap (has_place place) (keyed-other (key e) x xs other) ∙ later
        ])
      ]

  -- and in no other
  keyed-elsewhere : (k place : ℕ) (e : Entry) (xs : List Placed) → AreOnce (places_of xs) → entry_at place xs ≡ Some e → key e ≢ k → has_place place (places_with_key key k xs) ≡ false
  keyed-elsewhere k place e [] once at other = absurd cc
  keyed-elsewhere k place e (x ∷ xs) once at other =
      elim (cases_Bool (eqb place x.0)) [
        | inl here ↦ ap (has_place place) (keyed-other k x xs (λ is. other (ap key (sym (first_at place x xs e here at)) ∙ is)))
            ∙ keyed-out k place xs (ap (λ (p : ℕ). has_place p (places_of xs)) (eqb-true place x.0 here) ∙ once.0)
        | inr there ↦ (let later = keyed-elsewhere k place e xs once.1 (later_at place x xs e there at) other in elim (cases_eq (key x.1) k) [
          | inl is ↦ ap (has_place place) (keyed-here k x xs is) ∙ or_from (eqb place x.0) (has_place place (places_with_key key k xs)) there later
          | inr same ↦ ap (has_place place) (keyed-other k x xs same) ∙ later
        ])
      ]

  keyed-but : (k place : ℕ) (xs : List Placed) → places_with_key key k (but_at place xs) ≡ without place (places_with_key key k xs)
  keyed-but k place [] = refl
  keyed-but k place (x ∷ xs) =
      let rest = keyed-but k place xs in
      elim (cases_Bool (eqb place x.0)) [
        | inl here ↦ (
            let gone : places_with_key key k (but_at place (x ∷ xs)) ≡ places_with_key key k (but_at place xs) = ap (places_with_key key k) (cond-false (not (eqb place x.0)) (x ∷ but_at place xs) (but_at place xs) (not_from_true (eqb place x.0) here)) in
            elim (cases_eq (key x.1) k) [
              | inl is ↦ gone ∙ rest ∙ sym (ap (without place) (keyed-here k x xs is) ∙ cond-false (not (eqb place x.0)) (x.0 ∷ without place (places_with_key key k xs)) (without place (places_with_key key k xs)) (not_from_true (eqb place x.0) here))
              | inr other ↦ gone ∙ rest ∙ sym (ap (without place) (keyed-other k x xs other))
            ])
        | inr there ↦ (
            let kept : places_with_key key k (but_at place (x ∷ xs)) ≡ places_with_key key k (x ∷ but_at place xs) = ap (places_with_key key k) (cond-true (not (eqb place x.0)) (x ∷ but_at place xs) (but_at place xs) (not_from_false (eqb place x.0) there)) in
            elim (cases_eq (key x.1) k) [
              | inl is ↦ kept ∙ keyed-here k x (but_at place xs) is ∙ ap (λ (ys : List ℕ). x.0 ∷ ys) rest ∙ sym (ap (without place) (keyed-here k x xs is) ∙ cond-true (not (eqb place x.0)) (x.0 ∷ without place (places_with_key key k xs)) (without place (places_with_key key k xs)) (not_from_false (eqb place x.0) there))
              | inr other ↦ kept ∙ keyed-other k x (but_at place xs) other ∙ rest ∙ sym (ap (without place) (keyed-other k x xs other))
            ])
      ]

  pub keyed-few : (k : ℕ) (xs : List Placed) → length (places_with_key key k xs) ≤ length xs
  keyed-few k [] = omega arith
  keyed-few k (x ∷ xs) =
      elim (cases_eq (key x.1) k) [
        | inl is ↦ omega (arith, keyed-few k xs, ap (λ (ys : List ℕ). length ys) (keyed-here k x xs is))
        | inr other ↦ omega (arith, keyed-few k xs, ap (λ (ys : List ℕ). length ys) (keyed-other k x xs other))
      ]

  pub keyed-grown : (place : ℕ) (e : Entry) (xs : List Placed) → length (places_with_key key (key e) ((place, e) ∷ xs)) ≡ length (places_with_key key (key e) xs) + 1
  keyed-grown place e xs = omega (arith, ap (λ (ys : List ℕ). length ys) (keyed-here (key e) (place, e) xs refl))

  pub keyed-same : (k place : ℕ) (e : Entry) (xs : List Placed) → key e ≢ k → places_with_key key k ((place, e) ∷ xs) ≡ places_with_key key k xs
  keyed-same k place e xs other = keyed-other k (place, e) xs other

  pub keyed-shrunk : (place : ℕ) (e : Entry) (xs : List Placed) → AreOnce (places_of xs) → entry_at place xs ≡ Some e → length (places_with_key key (key e) (but_at place xs)) + 1 ≡ length (places_with_key key (key e) xs)
  keyed-shrunk place e [] once at = absurd cc
  keyed-shrunk place e (x ∷ xs) once at =
      elim (cases_Bool (eqb place x.0)) [
        | inl here ↦ (
            let gone = ap (λ (ys : List Placed). length (places_with_key key (key e) ys)) (cond-false (not (eqb place x.0)) (x ∷ but_at place xs) (but_at place xs) (not_from_true (eqb place x.0) here)) in
            let out : has_place place (places_with_key key (key e) xs) ≡ false = keyed-out (key e) place xs (ap (λ (p : ℕ). has_place p (places_of xs)) (eqb-true place x.0 here) ∙ once.0) in
            let same = keyed-but (key e) place xs ∙ without-out place (places_with_key key (key e) xs) (Out-from_test place (places_with_key key (key e) xs) out) in
            omega (arith, gone, ap (λ (ys : List ℕ). length ys) same, ap (λ (ys : List ℕ). length ys) (keyed-here (key e) x xs (ap key (first_at place x xs e here at)))))
        | inr there ↦ (
            let kept = ap (λ (ys : List Placed). length (places_with_key key (key e) ys)) (cond-true (not (eqb place x.0)) (x ∷ but_at place xs) (but_at place xs) (not_from_false (eqb place x.0) there)) in
            let rest = keyed-shrunk place e xs once.1 (later_at place x xs e there at) in
            elim (cases_eq (key x.1) (key e)) [
              | inl is ↦ omega (arith, kept, rest, ap (λ (ys : List ℕ). length ys) (keyed-here (key e) x xs is), ap (λ (ys : List ℕ). length ys) (keyed-here (key e) x (but_at place xs) is))
              | inr other ↦ omega (arith, kept, rest, ap (λ (ys : List ℕ). length ys) (keyed-other (key e) x xs other), ap (λ (ys : List ℕ). length ys) (keyed-other (key e) x (but_at place xs) other))
            ])
      ]

  pub keyed-kept : (k place : ℕ) (e : Entry) (xs : List Placed) → AreOnce (places_of xs) → entry_at place xs ≡ Some e → key e ≢ k → places_with_key key k (but_at place xs) ≡ places_with_key key k xs
  keyed-kept k place e xs once at other =
      keyed-but k place xs ∙ without-out place (places_with_key key k xs) (Out-from_test place (places_with_key key k xs) (keyed-elsewhere k place e xs once at other))

  module _ (count : ℕ) where
    pub IsKeyed-empty : IsKeyed key count (empty_lists count room) []
    IsKeyed-empty = record { places = refl; long = length-replicate count []; each = λ k low. get_or-replicate count k [] [] low }

    pub IsKeyed-free : (all : PlaceLists) (held : List Placed) (place : ℕ) → IsKeyed key count all held → has_place place (places_of held) ≡ false → IsFree all place
    IsKeyed-free all held place h out list low = ap (has_place place) (h.each list (omega (arith, low, h.long))) ∙ keyed-out list place held out

    pub IsKeyed-stands : (all : PlaceLists) (held : List Placed) (place : ℕ) (e : Entry) → IsKeyed key count all held → key e < count → entry_at place held ≡ Some e → has_place place (places_in all (key e)) ≡ true
    IsKeyed-stands all held place e h low at = ap (has_place place) (h.each (key e) low) ∙ keyed-stands place e held at

    pub IsKeyed-put : (all : PlaceLists) (held : List Placed) (place : ℕ) (e : Entry) → IsKeyed key count all held → key e < count → IsKeyed key count (put_in (key e) place all) ((place, e) ∷ held)
    IsKeyed-put all held place e h low = record {
      places = h.places;
      long = length-set all.lists (key e) (place ∷ places_in all (key e)) ∙ h.long;
      each = λ k below. elim (cases_eq k (key e)) [
        | inl is ↦ subst (λ (j : ℕ). places_in (put_in (key e) place all) j ≡ places_with_key key j ((place, e) ∷ held)) (sym is)
            (get_or-set_same all.lists (key e) (place ∷ places_in all (key e)) [] (omega (arith, low, h.long)) ∙ ap (λ (ys : List ℕ). place ∷ ys) (h.each (key e) low) ∙ sym (keyed-here (key e) (place, e) held refl))
        | inr other ↦ get_or-set_other all.lists (key e) k (place ∷ places_in all (key e)) [] other ∙ h.each k below ∙ sym (keyed-other k (place, e) held (λ same. other (sym same)))
      ];
    }

    pub IsKeyed-take : (all : PlaceLists) (held : List Placed) (place : ℕ) (e : Entry) → AreOnce (places_of held) → IsKeyed key count all held → key e < count → entry_at place held ≡ Some e → IsKeyed key count (taken_from (key e) place all) (but_at place held)
    IsKeyed-take all held place e once h low at = record {
      places = h.places;
      long = length-set all.lists (key e) (without place (places_in all (key e))) ∙ h.long;
      each = λ k below. elim (cases_eq k (key e)) [
        | inl is ↦ subst (λ (j : ℕ). places_in (taken_from (key e) place all) j ≡ places_with_key key j (but_at place held)) (sym is)
            (get_or-set_same all.lists (key e) (without place (places_in all (key e))) [] (omega (arith, low, h.long)) ∙ ap (without place) (h.each (key e) low) ∙ sym (keyed-but (key e) place held))
        | inr other ↦ get_or-set_other all.lists (key e) k (without place (places_in all (key e))) [] other ∙ h.each k below ∙ sym (keyed-kept k place e held once at (λ same. other (sym same)))
      ];
    }
