-- An entry is taken out of the entries.
use Rattle.std.proofs.Common.{◌≡◌, ◌⊎◌, inl, inr, ℕ, zero, suc, ◌+◌, ◌<◌, Bool, true, false, not, cond, List, [], ◌∷◌, ◌++◌, length, filter, Some, None, refl, sym, ap, subst, ◌∙◌, arith}
use Rattle.std.specs.Prelude.{◌==◌, All, AllPairs, Contains, find, count_by}
use Rattle.std.specs.List.{list_all}
use Rattle.std.proofs.lemmas.List.Sums.{sum_by-append}
use Rattle.std.proofs.lemmas.Bool.Decides.{nat_tests}
use Rattle.std.proofs.lemmas.Bool.{and_right, and_from, and_parts}
use Rattle.entry_table.specs.declared.entry.Entry.{Entry}
use Rattle.entry_table.specs.Entries.{is_entry}
use Rattle.program_table.proofs.Adding.{count-cons}

abbrev pub AreRising : List Entry → Type 0
AreRising es = AllPairs (λ (a b : Entry). a.id < b.id) es

abbrev pub AreAbove : ℕ → List Entry → Type 0
AreAbove n es = All (λ (e : Entry). n < e.id) es

-- the others, by id
abbrev pub others : ℕ → List Entry → List Entry
others n es = filter (λ (e : Entry). not (e.id == n)) es

later_rise : (x : Entry) (xs : List Entry) → AreRising (x ∷ xs) → AreRising xs
later_rise x xs h = λ i j d lt within. h (suc i) (suc j) d (omega arith) (omega arith)

above_first : (x : Entry) (xs : List Entry) → AreRising (x ∷ xs) → AreAbove x.id xs
above_first x xs h = λ k d within. h zero (suc k) d (omega arith) (omega arith)

above_later : (n : ℕ) (x : Entry) (xs : List Entry) → AreAbove n (x ∷ xs) → AreAbove n xs
above_later n x xs h = λ k d within. h (suc k) d (omega arith)

above_here : (n : ℕ) (x : Entry) (xs : List Entry) → AreAbove n (x ∷ xs) → n < x.id
above_here n x xs h = h zero x (omega arith)

kept_if : (b : Bool) (x : Entry) (xs ys : List Entry) → b ≡ false → xs ≡ ys → cond (not b) (x ∷ xs) xs ≡ x ∷ ys
kept_if false x xs ys e f = ap (λ (es : List Entry). x ∷ es) f
kept_if true x xs ys e f = cc

lost_if : (b : Bool) (x : Entry) (xs ys : List Entry) → b ≡ true → xs ≡ ys → cond (not b) (x ∷ xs) xs ≡ ys
lost_if true x xs ys e f = f
lost_if false x xs ys e f = cc

others_above : (n : ℕ) (xs : List Entry) → AreAbove n xs → others n xs ≡ xs
others_above n [] h = refl
others_above n (x ∷ xs) h =
    let lt = above_here n x xs h in
    let apart : (x.id == n) ≡ false = grind (arith, nat_tests) in
    kept_if (x.id == n) x (others n xs) xs apart (others_above n xs (above_later n x xs h))

none_above : (c n : ℕ) (xs : List Entry) → AreAbove n xs → filter (λ (e : Entry). not (is_entry c n e)) xs ≡ xs
none_above c n [] h = refl
none_above c n (x ∷ xs) h =
    let lt = above_here n x xs h in
    let apart : (x.id == n) ≡ false = grind (arith, nat_tests) in
    kept_if (is_entry c n x) x (filter (λ (e : Entry). not (is_entry c n e)) xs) xs (and_right (x.connection == c) (x.id == n) apart) (none_above c n xs (above_later n x xs h))

-- what is found passes, and is above what all are above
pub found_passes : (p : Entry → Bool) (xs : List Entry) (e : Entry) → find p xs ≡ Some e → p e ≡ true
found_passes p [] e f = cc
found_passes p (x ∷ xs) e f = go (found_passes p xs e) (p x) refl f
  where
    go : (find p xs ≡ Some e → p e ≡ true) → (b : Bool) → p x ≡ b → cond b (Some x) (find p xs) ≡ Some e → p e ≡ true
    go later true is g = let same : x ≡ e = cc in ap p (sym same) ∙ is
    go later false is g = later g

found_above : (n : ℕ) (p : Entry → Bool) (xs : List Entry) (e : Entry) → AreAbove n xs → find p xs ≡ Some e → n < e.id
found_above n p [] e h f = cc
found_above n p (x ∷ xs) e h f = go (found_above n p xs e (above_later n x xs h)) (p x) f
  where
    go : (find p xs ≡ Some e → n < e.id) → (b : Bool) → cond b (Some x) (find p xs) ≡ Some e → n < e.id
    go later true g = let same : x ≡ e = cc in subst (λ (y : Entry). n < y.id) same (above_here n x xs h)
    go later false g = later g

-- The entry stands between two parts of the list, and the others are the two parts.
pub record IsTaken (e : Entry) (all rest : List Entry) : Type 0 where
  pub front : List Entry
  pub back : List Entry
  pub before : all ≡ front ++ e ∷ back
  pub after : rest ≡ front ++ back

pub taken : (p : Entry → Bool) (xs : List Entry) (e : Entry) → AreRising xs → find p xs ≡ Some e → IsTaken e xs (others e.id xs)
taken p [] e h f = cc
taken p (x ∷ xs) e h f = go (taken p xs e (later_rise x xs h)) (p x) f
  where
    go : (find p xs ≡ Some e → IsTaken e xs (others e.id xs)) → (b : Bool) → cond b (Some x) (find p xs) ≡ Some e → IsTaken e (x ∷ xs) (others e.id (x ∷ xs))
    go later true g =
        let same : x ≡ e = cc in
        let is : (x.id == x.id) ≡ true = grind (arith, nat_tests) in
        let here : IsTaken x (x ∷ xs) (others x.id (x ∷ xs)) = record {
          front = [];
          back = xs;
          before = refl;
          after = lost_if (x.id == x.id) x (others x.id xs) xs is (others_above x.id xs (above_first x xs h));
        } in
        subst (λ (y : Entry). IsTaken y (x ∷ xs) (others y.id (x ∷ xs))) same here
    go later false g =
        let rest = later g in
        let lt = found_above x.id p xs e (above_first x xs h) g in
        let apart : (x.id == e.id) ≡ false = grind (arith, nat_tests) in
        record {
          front = x ∷ rest.front;
          back = rest.back;
          before = ap (λ (es : List Entry). x ∷ es) rest.before;
          after = kept_if (x.id == e.id) x (others e.id xs) (rest.front ++ rest.back) apart rest.after;
        }

among_cases : (x e : Entry) (xs : List Entry) → Contains (x ∷ xs) e → (x ≡ e) ⊎ Contains xs e
among_cases x e xs (zero, less, at) = inl at
among_cases x e xs (suc k, less, at) = inr (k, omega arith, at)

among_above : (n : ℕ) (e : Entry) (xs : List Entry) → AreAbove n xs → Contains xs e → n < e.id
among_above n e xs above (k, less, at) = subst (λ (f : Entry). n < f.id) at (above k e less)

-- any entry that is taken
pub taken_one : (e : Entry) (xs : List Entry) → AreRising xs → Contains xs e → IsTaken e xs (others e.id xs)
taken_one e [] h (k, less, at) = absurd (omega arith)
taken_one e (x ∷ xs) h there = elim (among_cases x e xs there) [
  | inl same ↦ (
      let is : (x.id == x.id) ≡ true = grind (arith, nat_tests) in
      let here : IsTaken x (x ∷ xs) (others x.id (x ∷ xs)) = record {
        front = [];
        back = xs;
        before = refl;
        after = lost_if (x.id == x.id) x (others x.id xs) xs is (others_above x.id xs (above_first x xs h));
      } in
      subst (λ (y : Entry). IsTaken y (x ∷ xs) (others y.id (x ∷ xs))) same here)
  | inr later ↦ (
      let rest = taken_one e xs (later_rise x xs h) later in
      let lt = among_above x.id e xs (above_first x xs h) later in
      let apart : (x.id == e.id) ≡ false = grind (arith, nat_tests) in
      record {
        front = x ∷ rest.front;
        back = rest.back;
        before = ap (λ (es : List Entry). x ∷ es) rest.before;
        after = kept_if (x.id == e.id) x (others e.id xs) (rest.front ++ rest.back) apart rest.after;
      })
]

-- the connection's entry of an id, where it has one, is the only one of this id
pub taken_entry : (c n : ℕ) (xs : List Entry) (e : Entry) → AreRising xs → find (is_entry c n) xs ≡ Some e → filter (λ (f : Entry). not (is_entry c n f)) xs ≡ others e.id xs
taken_entry c n [] e h f = cc
taken_entry c n (x ∷ xs) e h f = go (taken_entry c n xs e (later_rise x xs h)) (is_entry c n x) refl f
  where
    go : (find (is_entry c n) xs ≡ Some e → filter (λ (f : Entry). not (is_entry c n f)) xs ≡ others e.id xs) → (b : Bool) → is_entry c n x ≡ b → cond b (Some x) (find (is_entry c n) xs) ≡ Some e → filter (λ (f : Entry). not (is_entry c n f)) (x ∷ xs) ≡ others e.id (x ∷ xs)
    go later true is g =
        let same : x ≡ e = cc in
        let named : (x.id == n) ≡ true = (and_parts (x.connection == c) (x.id == n) is).1 in
        let number : x.id ≡ n = grind (arith, nat_tests) in
        let above : AreAbove n xs = subst (λ (k : ℕ). AreAbove k xs) number (above_first x xs h) in
        let self : (x.id == x.id) ≡ true = grind (arith, nat_tests) in
        lost_if (is_entry c n x) x (filter (λ (f : Entry). not (is_entry c n f)) xs) xs is (none_above c n xs above)
        ∙ sym (lost_if (x.id == x.id) x (others x.id xs) xs self (others_above x.id xs (above_first x xs h)))
        ∙ ap (λ (y : Entry). others y.id (x ∷ xs)) same
    go later false is g =
        let lt = found_above x.id (is_entry c n) xs e (above_first x xs h) g in
        let apart : (x.id == e.id) ≡ false = grind (arith, nat_tests) in
        kept_if (is_entry c n x) x (filter (λ (f : Entry). not (is_entry c n f)) xs) (others e.id xs) is (later g)
        ∙ sym (kept_if (x.id == e.id) x (others e.id xs) (others e.id xs) apart refl)

-- where none is found all stay
pub none_taken : (p : Entry → Bool) (xs : List Entry) → find p xs ≡ None → filter (λ (f : Entry). not (p f)) xs ≡ xs
none_taken p [] f = refl
none_taken p (x ∷ xs) f = go (none_taken p xs) (p x) refl f
  where
    go : (find p xs ≡ None → filter (λ (f : Entry). not (p f)) xs ≡ xs) → (b : Bool) → p x ≡ b → cond b (Some x) (find p xs) ≡ None → filter (λ (f : Entry). not (p f)) (x ∷ xs) ≡ x ∷ xs
    go later true is g = cc
    go later false is g = kept_if (p x) x (filter (λ (f : Entry). not (p f)) xs) xs is (later g)

-- how many pass, the one between two parts among them
pub count_between : (p : Entry → Bool) (front back : List Entry) (e : Entry) → count_by p (front ++ e ∷ back) ≡ cond (p e) 1 0 + count_by p (front ++ back)
count_between p front back e =
    let all = sum_by-append (λ (y : Entry). cond (p y) 1 0) front (e ∷ back) in
    let here = count-cons p e back in
    let rest = sum_by-append (λ (y : Entry). cond (p y) 1 0) front back in
    omega (arith, all, here, rest)

pub length_between : (front back : List Entry) (e : Entry) → length (front ++ back) < length (front ++ e ∷ back)
length_between [] back e = omega arith
length_between (x ∷ front) back e = let rest = length_between front back e in omega (arith, rest)

pub all_between : (p : Entry → Bool) (front back : List Entry) (e : Entry) → list_all p (front ++ e ∷ back) ≡ true → (p e ≡ true) × (list_all p (front ++ back) ≡ true)
all_between p [] back e h = and_parts (p e) (list_all p back) h
all_between p (x ∷ front) back e h =
    let rest = all_between p front back e (and_parts (p x) (list_all p (front ++ e ∷ back)) h).1 in
    (rest.0, and_from (p x) (list_all p (front ++ back)) (and_parts (p x) (list_all p (front ++ e ∷ back)) h).0 rest.1)

-- those that fail a test that the entry passes
pub filter_between : (p : Entry → Bool) (front back : List Entry) (e : Entry) → p e ≡ true → filter (λ (f : Entry). not (p f)) (front ++ e ∷ back) ≡ filter (λ (f : Entry). not (p f)) (front ++ back)
filter_between p [] back e is = lost_if (p e) e (filter (λ (f : Entry). not (p f)) back) (filter (λ (f : Entry). not (p f)) back) is refl
filter_between p (x ∷ front) back e is = ap (λ (es : List Entry). cond (not (p x)) (x ∷ es) es) (filter_between p front back e is)
