-- Lists through a map, where two tests agree, and what a filter keeps.
use Rattle.std.specs.Prelude.{◌≡◌, ◌<◌, ◌≤◌, ◌+◌, ℕ, zero, suc, Bool, true, false, not, cond, List, [], ◌∷◌, ◌++◌, Option, Some, None, map, filter, find, length, option_map, set, slice_get, ◌||◌, ◌&&◌}
use Rattle.std.specs.List.{list_any, list_all, position_from}
use Rattle.std.proofs.Common.{refl, sym, ap, subst, ◌∙◌, arith}
use Rattle.std.proofs.lemmas.Bool.{false≢true, and_parts, and_from, or_left, or_right}

-- P of each element
abbrev pub Each : {X : Type 0} → (X → Type 0) → List X → Type 0
Each P [] = Unit {0}
Each P (x ∷ xs) = P x × Each P xs

pub Each-from_all : {X : Type 0} (test : X → Bool) (P : X → Type 0) → ((x : X) → test x ≡ true → P x) → (xs : List X) → list_all test xs ≡ true → Each P xs
Each-from_all test P h [] e = tt
Each-from_all test P h (x ∷ xs) e =
    let p = and_parts (test x) (list_all test xs) e in
    (h x p.0, Each-from_all test P h xs p.1)

pub all-from_Each : {X : Type 0} (test : X → Bool) (xs : List X) → Each (λ x. test x ≡ true) xs → list_all test xs ≡ true
all-from_Each test [] e = refl
all-from_Each test (x ∷ xs) e = and_from (test x) (list_all test xs) e.0 (all-from_Each test xs e.1)

pub Each-weaker : {X : Type 0} (P Q : X → Type 0) → ((x : X) → P x → Q x) → (xs : List X) → Each P xs → Each Q xs
Each-weaker P Q h [] e = tt
Each-weaker P Q h (x ∷ xs) e = (h x e.0, Each-weaker P Q h xs e.1)

Each-cond : {X : Type 0} (P : X → Type 0) (b : Bool) (x : X) (xs : List X) → P x → Each P xs → Each P (cond b (x ∷ xs) xs)
Each-cond P true x xs p e = (p, e)
Each-cond P false x xs p e = e

pub Each-filter : {X : Type 0} (P : X → Type 0) (r : X → Bool) (xs : List X) → Each P xs → Each P (filter r xs)
Each-filter P r [] e = tt
Each-filter P r (x ∷ xs) e = Each-cond P (r x) x (filter r xs) e.0 (Each-filter P r xs e.1)

pub Each-append : {X : Type 0} (P : X → Type 0) (xs ys : List X) → Each P xs → Each P ys → Each P (xs ++ ys)
Each-append P [] ys e f = f
Each-append P (x ∷ xs) ys e f = (e.0, Each-append P xs ys e.1 f)

pub Each-map : {X Y : Type 0} (P : Y → Type 0) (f : X → Y) (xs : List X) → Each (λ x. P (f x)) xs → Each P (map f xs)
Each-map P f [] e = tt
Each-map P f (x ∷ xs) e = (e.0, Each-map P f xs e.1)

pub Each-always : {X : Type 0} (P : X → Type 0) → ((x : X) → P x) → (xs : List X) → Each P xs
Each-always P h [] = tt
Each-always P h (x ∷ xs) = (h x, Each-always P h xs)

pub Each-both : {X : Type 0} (P Q : X → Type 0) (xs : List X) → Each P xs → Each Q xs → Each (λ x. P x × Q x) xs
Each-both P Q [] e f = tt
Each-both P Q (x ∷ xs) e f = ((e.0, f.0), Each-both P Q xs e.1 f.1)

-- an element that passes is there
pub Each-any : {X : Type 0} (p : X → Bool) (xs : List X) → Each (λ x. (q : X → Bool) → q x ≡ true → list_any q xs ≡ true) xs
Each-any p [] = tt
Each-any {X} p (x ∷ xs) = (
  λ q h. or_left (q x) (list_any q xs) h,
  Each-weaker (λ (y : X). (q : X → Bool) → q y ≡ true → list_any q xs ≡ true) (λ (y : X). (q : X → Bool) → q y ≡ true → list_any q (x ∷ xs) ≡ true) (λ y h q e. or_right (q x) (list_any q xs) (h q e)) xs (Each-any p xs),
)

pub map-same : {X Y : Type 0} (f g : X → Y) (xs : List X) → Each (λ x. f x ≡ g x) xs → map f xs ≡ map g xs
map-same f g [] e = refl
map-same f g (x ∷ xs) e = let first = e.0 in let rest = map-same f g xs e.1 in cc

map_cond : {X Y : Type 0} (f : X → Y) (b : Bool) (x : X) (ys : List Y) (xs : List X) → ys ≡ map f xs → cond b (f x ∷ ys) ys ≡ map f (cond b (x ∷ xs) xs)
map_cond f true x ys xs e = ap (λ l. f x ∷ l) e
map_cond f false x ys xs e = e

pub filter-map : {X Y : Type 0} (p : Y → Bool) (q : X → Bool) (f : X → Y) (xs : List X) → Each (λ x. p (f x) ≡ q x) xs → filter p (map f xs) ≡ map f (filter q xs)
filter-map p q f [] e = refl
filter-map p q f (x ∷ xs) e = rw e.0 (map_cond f (q x) x (filter p (map f xs)) (filter q xs) (filter-map p q f xs e.1))

found_first : {X Y : Type 0} (f : X → Y) (b : Bool) (x : X) (o : Option Y) (r : Option X) → o ≡ option_map f r → cond b (Some (f x)) o ≡ option_map f (cond b (Some x) r)
found_first f true x o r e = refl
found_first f false x o r e = e

pub find-map : {X Y : Type 0} (p : Y → Bool) (q : X → Bool) (f : X → Y) (xs : List X) → Each (λ x. p (f x) ≡ q x) xs → find p (map f xs) ≡ option_map f (find q xs)
find-map p q f [] e = refl
find-map p q f (x ∷ xs) e = rw e.0 (found_first f (q x) x (find p (map f xs)) (find q xs) (find-map p q f xs e.1))

pub any-map : {X Y : Type 0} (p : Y → Bool) (q : X → Bool) (f : X → Y) (xs : List X) → Each (λ x. p (f x) ≡ q x) xs → list_any p (map f xs) ≡ list_any q xs
any-map p q f [] e = refl
any-map p q f (x ∷ xs) e = rw e.0 (ap (λ b. q x || b) (any-map p q f xs e.1))

pub map-map : {X Y Z : Type 0} (f : Y → Z) (g : X → Y) (xs : List X) → map f (map g xs) ≡ map (λ x. f (g x)) xs
map-map f g [] = refl
map-map f g (x ∷ xs) = ap (λ l. f (g x) ∷ l) (map-map f g xs)

-- the same test and the same change, before a map and after it
pub map-map_same : {X Y : Type 0} (f : X → Y) (g : X → X) (h : Y → Y) (xs : List X) → Each (λ x. f (g x) ≡ h (f x)) xs → map f (map g xs) ≡ map h (map f xs)
map-map_same f g h [] e = refl
map-map_same f g h (x ∷ xs) e = let first = e.0 in let rest = map-map_same f g h xs e.1 in cc

passes_first : {X : Type 0} (p : X → Bool) (b : Bool) (x y : X) (r : Option X) → p x ≡ b → (r ≡ Some y → p y ≡ true) → cond b (Some x) r ≡ Some y → p y ≡ true
passes_first p true x y r e ih h = let s : x ≡ y = cc in subst (λ z. p z ≡ true) s e
passes_first p false x y r e ih h = ih h

pub find_passes : {X : Type 0} (p : X → Bool) (xs : List X) (y : X) → find p xs ≡ Some y → p y ≡ true
find_passes p [] y h = absurd cc
find_passes p (x ∷ xs) y h = passes_first p (p x) x y (find p xs) refl (find_passes p xs y) h

any_first : {X : Type 0} (b c : Bool) (x y : X) (r : Option X) → (r ≡ Some y → c ≡ true) → cond b (Some x) r ≡ Some y → (b || c) ≡ true
any_first true c x y r ih h = refl
any_first false c x y r ih h = ih h

pub any-from_find : {X : Type 0} (p : X → Bool) (xs : List X) (y : X) → find p xs ≡ Some y → list_any p xs ≡ true
any-from_find p [] y h = absurd cc
any-from_find p (x ∷ xs) y h = any_first (p x) (list_any p xs) x y (find p xs) (any-from_find p xs y) h

no_first : {X : Type 0} (b c : Bool) (x : X) (r : Option X) → (r ≡ None → c ≡ false) → cond b (Some x) r ≡ None → (b || c) ≡ false
no_first true c x r ih h = absurd cc
no_first false c x r ih h = ih h

pub any-from_none : {X : Type 0} (p : X → Bool) (xs : List X) → find p xs ≡ None → list_any p xs ≡ false
any-from_none p [] h = refl
any-from_none p (x ∷ xs) h = no_first (p x) (list_any p xs) x (find p xs) (any-from_none p xs) h

-- where none passes one test, none passes both
pub any-both : {X : Type 0} (p q : X → Bool) (xs : List X) → list_any p xs ≡ false → list_any (λ x. p x && q x) xs ≡ false
any-both p q [] h = refl
any-both p q (x ∷ xs) h = by (p x) (any-both p q xs) h
  where
    by : (b : Bool) → (list_any p xs ≡ false → list_any (λ y. p y && q y) xs ≡ false) → (b || list_any p xs) ≡ false → ((b && q x) || list_any (λ y. p y && q y) xs) ≡ false
    by true ih k = absurd (false≢true (sym k))
    by false ih k = ih k

append_first : {X : Type 0} (b : Bool) (x : X) (r s t : Option X) → (r ≡ None → s ≡ t) → cond b (Some x) r ≡ None → cond b (Some x) s ≡ t
append_first true x r s t ih h = absurd cc
append_first false x r s t ih h = ih h

pub find-append_none : {X : Type 0} (p : X → Bool) (xs ys : List X) → find p xs ≡ None → find p (xs ++ ys) ≡ find p ys
find-append_none p [] ys h = refl
find-append_none p (x ∷ xs) ys h = append_first (p x) x (find p xs) (find p (xs ++ ys)) (find p ys) (find-append_none p xs ys) h

stays_first : {X : Type 0} (b : Bool) (x y : X) (r s : Option X) → (r ≡ Some y → s ≡ Some y) → cond b (Some x) r ≡ Some y → cond b (Some x) s ≡ Some y
stays_first true x y r s ih h = h
stays_first false x y r s ih h = ih h

pub find-append_some : {X : Type 0} (p : X → Bool) (xs ys : List X) (y : X) → find p xs ≡ Some y → find p (xs ++ ys) ≡ Some y
find-append_some p [] ys y h = absurd cc
find-append_some p (x ∷ xs) ys y h = stays_first (p x) x y (find p xs) (find p (xs ++ ys)) (find-append_some p xs ys y) h

-- the first that passes is kept by a filter
filter_first : {X : Type 0} (p r : X → Bool) (b c : Bool) (x y : X) (xs : List X) (o : Option X) → p x ≡ b → r x ≡ c → r y ≡ true → (o ≡ Some y → find p xs ≡ Some y) → cond b (Some x) o ≡ Some y → find p (cond c (x ∷ xs) xs) ≡ Some y
filter_first p r true true x y xs o e f k ih h = rw e h
filter_first p r true false x y xs o e f k ih h = let s : x ≡ y = cc in absurd (false≢true (sym f ∙ ap r s ∙ k))
filter_first p r false true x y xs o e f k ih h = rw e (ih h)
filter_first p r false false x y xs o e f k ih h = ih h

pub find-filter : {X : Type 0} (p r : X → Bool) (xs : List X) (y : X) → r y ≡ true → find p xs ≡ Some y → find p (filter r xs) ≡ Some y
find-filter p r [] y k h = absurd cc
find-filter p r (x ∷ xs) y k h = filter_first p r (p x) (r x) x y (filter r xs) (find p xs) refl refl k (find-filter p r xs y k) h

any_kept : {X : Type 0} (p r : X → Bool) (b c : Bool) (x : X) (xs : List X) (a : Bool) → p x ≡ b → r x ≡ c → (b ≡ true → c ≡ true) → (a ≡ true → list_any p xs ≡ true) → (b || a) ≡ true → list_any p (cond c (x ∷ xs) xs) ≡ true
any_kept p r true true x xs a e f k ih h = rw e refl
any_kept p r true false x xs a e f k ih h = absurd (false≢true (k refl))
any_kept p r false true x xs a e f k ih h = rw e (ih h)
any_kept p r false false x xs a e f k ih h = ih h

pub any-filter : {X : Type 0} (p r : X → Bool) → ((x : X) → p x ≡ true → r x ≡ true) → (xs : List X) → list_any p xs ≡ true → list_any p (filter r xs) ≡ true
any-filter p r k [] h = h
any-filter p r k (x ∷ xs) h = any_kept p r (p x) (r x) x (filter r xs) (list_any p xs) refl refl (k x) (any-filter p r k xs) h

any_before : (b a c : Bool) → (a ≡ true → c ≡ true) → (b || a) ≡ true → (b || c) ≡ true
any_before true a c ih h = refl
any_before false a c ih h = ih h

pub any-append : {X : Type 0} (p : X → Bool) (xs ys : List X) → list_any p xs ≡ true → list_any p (xs ++ ys) ≡ true
any-append p [] ys h = absurd (false≢true h)
any-append p (x ∷ xs) ys h = any_before (p x) (list_any p xs) (list_any p (xs ++ ys)) (any-append p xs ys) h

pub any-append_last : {X : Type 0} (p : X → Bool) (xs ys : List X) → list_any p ys ≡ true → list_any p (xs ++ ys) ≡ true
any-append_last p [] ys h = h
any-append_last p (x ∷ xs) ys h = or_right (p x) (list_any p (xs ++ ys)) (any-append_last p xs ys h)

length_kept : {X : Type 0} (b : Bool) (x : X) (xs : List X) (n : ℕ) → length xs ≤ n → length (cond b (x ∷ xs) xs) ≤ suc n
length_kept true x xs n h = omega arith
length_kept false x xs n h = omega arith

pub length-filter-le : {X : Type 0} (r : X → Bool) (xs : List X) → length (filter r xs) ≤ length xs
length-filter-le r [] = omega arith
length-filter-le r (x ∷ xs) = length_kept (r x) x (filter r xs) (length xs) (length-filter-le r xs)

length_less : {X : Type 0} (b a : Bool) (x : X) (xs : List X) (n : ℕ) → length xs ≤ n → (a ≡ true → length xs < n) → (b || a) ≡ true → length (cond (not b) (x ∷ xs) xs) < suc n
length_less true a x xs n h ih e = omega arith
length_less false a x xs n h ih e = let k = ih e in omega arith

-- what passes is taken away
pub length-without : {X : Type 0} (p : X → Bool) (xs : List X) → list_any p xs ≡ true → length (filter (λ x. not (p x)) xs) < length xs
length-without p [] h = absurd (false≢true h)
length-without p (x ∷ xs) h =
    length_less (p x) (list_any p xs) x (filter (λ y. not (p y)) xs) (length xs) (length-filter-le (λ y. not (p y)) xs) (length-without p xs) h

pub any-without : {X : Type 0} (p : X → Bool) (xs : List X) → list_any p (filter (λ x. not (p x)) xs) ≡ false
any-without p [] = refl
any-without p (x ∷ xs) = by (p x) refl (any-without p xs)
  where
    by : (b : Bool) → p x ≡ b → list_any p (filter (λ y. not (p y)) xs) ≡ false → list_any p (cond (not b) (x ∷ filter (λ y. not (p y)) xs) (filter (λ y. not (p y)) xs)) ≡ false
    by true e ih = ih
    by false e ih = rw e ih

all_stay : {X : Type 0} (b a : Bool) (x : X) (xs ys : List X) → (a ≡ false → xs ≡ ys) → (b || a) ≡ false → cond (not b) (x ∷ xs) xs ≡ x ∷ ys
all_stay true a x xs ys ih h = absurd (false≢true (sym h))
all_stay false a x xs ys ih h = ap (λ l. x ∷ l) (ih h)

pub without_none : {X : Type 0} (p : X → Bool) (xs : List X) → list_any p xs ≡ false → filter (λ x. not (p x)) xs ≡ xs
without_none p [] h = refl
without_none p (x ∷ xs) h = all_stay (p x) (list_any p xs) x (filter (λ y. not (p y)) xs) xs (without_none p xs) h

pub length-map : {X Y : Type 0} (f : X → Y) (xs : List X) → length (map f xs) ≡ length xs
length-map f [] = refl
length-map f (x ∷ xs) = ap suc (length-map f xs)

-- the first place where a test passes
abbrev pub Found : {X : Type 0} → (X → Bool) → ℕ → ℕ → List X → Type 0
Found {X} p i k xs = (j : ℕ) × (x : X) × (k ≡ i + j) × (slice_get xs j ≡ Some x) × (p x ≡ true)

found_here : {X : Type 0} (p : X → Bool) (b : Bool) (i k : ℕ) (x : X) (xs : List X) (o : Option ℕ) → p x ≡ b → (o ≡ Some k → Found p (i + 1) k xs) → cond b (Some i) o ≡ Some k → Found p i k (x ∷ xs)
found_here p true i k x xs o e ih h = let s : i ≡ k = cc in (0, x, omega arith, refl, e)
found_here p false i k x xs o e ih h = let r = ih h in (suc r.0, r.1, omega (arith, r.2), r.3, r.4)

pub found : {X : Type 0} (p : X → Bool) (i k : ℕ) (xs : List X) → position_from p i xs ≡ Some k → Found p i k xs
found p i k [] h = absurd cc
found p i k (x ∷ xs) h = found_here p (p x) i k x xs (position_from p (i + 1) xs) refl (found p (i + 1) k xs) h

finds_here : (b : Bool) (i : ℕ) (o : Option ℕ) → ((k : ℕ) × (o ≡ Some k)) → (k : ℕ) × (cond b (Some i) o ≡ Some k)
finds_here true i o r = (i, refl)
finds_here false i o r = r

pub finds : {X : Type 0} (p : X → Bool) (i j : ℕ) (xs : List X) (x : X) → slice_get xs j ≡ Some x → p x ≡ true → (k : ℕ) × (position_from p i xs ≡ Some k)
finds p i j [] x h e = absurd cc
finds p i zero (y ∷ xs) x h e = let s : y ≡ x = cc in rw (ap p s ∙ e) (i, refl)
finds p i (suc j) (y ∷ xs) x h e = finds_here (p y) i (position_from p (i + 1) xs) (finds p (i + 1) j xs x h e)

pub slice_get-set_same : {X : Type 0} (xs : List X) (i : ℕ) (x : X) → i < length xs → slice_get (set xs i x) i ≡ Some x
slice_get-set_same [] i x h = absurd (omega arith)
slice_get-set_same (y ∷ xs) zero x h = refl
slice_get-set_same (y ∷ xs) (suc i) x h = slice_get-set_same xs i x (omega arith)

pub slice_get-set_other : {X : Type 0} (xs : List X) (i j : ℕ) (x : X) → (j ≡ i → ⊥) → slice_get (set xs i x) j ≡ slice_get xs j
slice_get-set_other [] i j x h = refl
slice_get-set_other (y ∷ xs) zero zero x h = absurd (h refl)
slice_get-set_other (y ∷ xs) zero (suc j) x h = refl
slice_get-set_other (y ∷ xs) (suc i) zero x h = refl
slice_get-set_other (y ∷ xs) (suc i) (suc j) x h = slice_get-set_other xs i j x (λ e. h (ap suc e))

-- two lists with the same elements are one
pub same_elements : {X : Type 0} (xs ys : List X) → ((i : ℕ) → slice_get xs i ≡ slice_get ys i) → xs ≡ ys
same_elements [] [] h = refl
same_elements [] (y ∷ ys) h = let e = h 0 in absurd cc
same_elements (x ∷ xs) [] h = let e = h 0 in absurd cc
same_elements (x ∷ xs) (y ∷ ys) h = let e = h 0 in let s : x ≡ y = cc in let t = same_elements xs ys (λ i. h (suc i)) in cc
