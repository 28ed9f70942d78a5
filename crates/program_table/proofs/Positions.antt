-- First positions in mapped and changed lists.
use Rattle.std.proofs.Common.{◌≡◌, ◌≢◌, ℕ, zero, suc, ◌+◌, Bool, true, false, not, cond, List, [], ◌∷◌, length, map, set, Option, Some, None, refl, sym, ap, ◌∙◌, arith}
use Rattle.std.specs.Prelude.{position, option_map, nat_lt, slice_get}
use Rattle.std.specs.List.{prefix_len, position_from}
use Rattle.std.proofs.lemmas.Bool.Decides.{nat_tests}

in_longer : (n l : ℕ) → cond (nat_lt (1 + n) (suc l)) (Some (1 + n)) None ≡ option_map suc (cond (nat_lt n l) (Some n) None)
in_longer n l = go (nat_lt n l) (nat_lt (1 + n) (suc l)) (grind (arith, nat_tests))
  where
    go : (a b : Bool) → a ≡ b → cond b (Some (1 + n)) None ≡ option_map suc (cond a (Some n) None)
    go true true e = let s : 1 + n ≡ suc n = omega arith in ap Some s
    go false false e = refl
    go true false e = cc
    go false true e = cc

at_front : (l : ℕ) → cond {A = Option ℕ} (nat_lt 0 (suc l)) (Some 0) None ≡ Some 0
at_front l = let e : nat_lt 0 (suc l) ≡ true = grind (arith, nat_tests) in ap (λ (b : Bool). cond {A = Option ℕ} b (Some 0) None) e

-- the first position, by recursion
pub position-cons : {X : Type 0} (p : X → Bool) (x : X) (xs : List X) → position p (x ∷ xs) ≡ cond (p x) (Some 0) (option_map suc (position p xs))
position-cons p x xs = go (p x) refl
  where
    go : (b : Bool) → p x ≡ b → position p (x ∷ xs) ≡ cond b (Some 0) (option_map suc (position p xs))
    go true e = rw e (at_front (length xs))
    go false e = rw e (in_longer (prefix_len (λ y. not (p y)) xs) (length xs))

pub position-map : {X Y : Type 0} (p : Y → Bool) (q : X → Bool) (f : X → Y) (xs : List X) → ((x : X) → p (f x) ≡ q x) → position p (map f xs) ≡ position q xs
position-map p q f [] h = refl
position-map p q f (x ∷ xs) h = rw (position-cons p (f x) (map f xs), position-cons q x xs, h x, position-map p q f xs h) refl

suc_is : (o : Option ℕ) (n : ℕ) → option_map suc o ≡ Some (suc n) → o ≡ Some n
suc_is None n e = cc
suc_is (Some m) n e = cc

suc_not_zero : {A : Type 0} (o : Option ℕ) → option_map suc o ≡ Some 0 → A
suc_not_zero None e = cc
suc_not_zero (Some m) e = cc

suc_none : (o : Option ℕ) → option_map suc o ≡ None → o ≡ None
suc_none None e = refl
suc_none (Some m) e = cc

-- the element at the first position passes
pub position-here : {X : Type 0} (p : X → Bool) (xs : List X) (n : ℕ) → position p xs ≡ Some n → (x : X) × (slice_get xs n ≡ Some x) × (p x ≡ true)
position-here p [] n e = cc
position-here p (x ∷ xs) n e = go (position-here p xs) (p x) refl n e
  where
    go : ((m : ℕ) → position p xs ≡ Some m → (y : _) × (slice_get xs m ≡ Some y) × (p y ≡ true)) → (b : Bool) → p x ≡ b → (m : ℕ) → position p (x ∷ xs) ≡ Some m → (y : _) × (slice_get (x ∷ xs) m ≡ Some y) × (p y ≡ true)
    go later true is zero f = (x, refl, is)
    go later true is (suc m) f = let g = sym (position-cons p x xs) ∙ f in let h = rw is at g in cc
    go later false is zero f = let g = sym (position-cons p x xs) ∙ f in suc_not_zero (position p xs) (rw is at g)
    go later false is (suc m) f = let g = sym (position-cons p x xs) ∙ f in later m (suc_is (position p xs) m (rw is at g))

-- where none passes, no element does
pub position-nowhere : {X : Type 0} (p : X → Bool) (xs : List X) (k : ℕ) (x : X) → position p xs ≡ None → slice_get xs k ≡ Some x → p x ≡ false
position-nowhere p [] k x e is = cc
position-nowhere p (y ∷ xs) k x e is = go (λ m none. position-nowhere p xs m x none) (p y) refl k is
  where
    go : ((m : ℕ) → position p xs ≡ None → slice_get xs m ≡ Some x → p x ≡ false) → (b : Bool) → p y ≡ b → (m : ℕ) → slice_get (y ∷ xs) m ≡ Some x → p x ≡ false
    go later true here m f = let g = sym (position-cons p y xs) ∙ e in let h = rw here at g in cc
    go later false here zero f = let s : y ≡ x = cc in ap p (sym s) ∙ here
    go later false here (suc m) f = let g = sym (position-cons p y xs) ∙ e in later m (suc_none (position p xs) (rw here at g)) f

-- an element is replaced by one of which the test says the same
pub position-set_same : {X : Type 0} (p : X → Bool) (xs : List X) (n : ℕ) (x y : X) → slice_get xs n ≡ Some x → p x ≡ p y → position p (set xs n y) ≡ position p xs
position-set_same p [] n x y is e = refl
position-set_same p (z ∷ xs) zero x y is e =
    let s : z ≡ x = cc in
    rw (position-cons p y xs, position-cons p z xs, s, e) refl
position-set_same p (z ∷ xs) (suc n) x y is e = rw (position-cons p z (set xs n y), position-cons p z xs, position-set_same p xs n x y is e) refl

-- the first that passes is put
pub position-set_first : {X : Type 0} (p : X → Bool) (xs : List X) (n : ℕ) (x y : X) → slice_get xs n ≡ Some x → position p xs ≡ None → p y ≡ true → position p (set xs n y) ≡ Some n
position-set_first p [] n x y is none passes = cc
position-set_first p (z ∷ xs) zero x y is none passes = rw (position-cons p y xs, passes) refl
position-set_first p (z ∷ xs) (suc n) x y is none passes =
    let g = sym (position-cons p z xs) ∙ none in
    let no = position-nowhere p (z ∷ xs) 0 z none refl in
    let rest = position-set_first p xs n x y is (suc_none (position p xs) (rw no at g)) passes in
    rw (position-cons p z (set xs n y), no, rest) refl

-- maps that agree elsewhere agree once one element is replaced
pub set-agree : {X Y : Type 0} (f g : X → Y) (xs : List X) (n : ℕ) (v : Y) → ((k : ℕ) (x : X) → k ≢ n → slice_get xs k ≡ Some x → f x ≡ g x) → set (map f xs) n v ≡ set (map g xs) n v
set-agree f g [] n v h = refl
set-agree f g (x ∷ xs) zero v h = ap (λ (ys : List _). v ∷ ys) (map-agree xs (λ k y is. h (suc k) y (λ e. cc) is))
  where
    map-agree : (ys : List _) → ((k : ℕ) (y : _) → slice_get ys k ≡ Some y → f y ≡ g y) → map f ys ≡ map g ys
    map-agree [] a = refl
    map-agree (y ∷ ys) a = rw (a 0 y refl, map-agree ys (λ k z is. a (suc k) z is)) refl
set-agree f g (x ∷ xs) (suc n) v h = rw (h 0 x (λ e. cc) refl, set-agree f g xs n v (λ k y ne is. h (suc k) y (λ e. ne (omega arith)) is)) refl

pub set-itself : {X : Type 0} (xs : List X) (n : ℕ) (x : X) → slice_get xs n ≡ Some x → set xs n x ≡ xs
set-itself [] n x e = refl
set-itself (y ∷ xs) zero x e = let s : x ≡ y = cc in ap (λ (z : _). z ∷ xs) s
set-itself (y ∷ xs) (suc n) x e = ap (λ (ys : List _). y ∷ ys) (set-itself xs n x e)

pub slice_get-map : {X Y : Type 0} (f : X → Y) (xs : List X) (k : ℕ) → slice_get (map f xs) k ≡ option_map f (slice_get xs k)
slice_get-map f [] k = refl
slice_get-map f (x ∷ xs) zero = refl
slice_get-map f (x ∷ xs) (suc k) = slice_get-map f xs k

later_by : (n : ℕ) (o : Option ℕ) → option_map (λ k. n + 1 + k) o ≡ option_map (λ k. n + k) (option_map suc o)
later_by n None = refl
later_by n (Some k) = let e : n + 1 + k ≡ n + suc k = omega arith in ap Some e

-- the first position from the list's first index
position_from-is : {X : Type 0} (p : X → Bool) (n : ℕ) (xs : List X) → position_from p n xs ≡ option_map (λ k. n + k) (position p xs)
position_from-is p n [] = refl
position_from-is p n (x ∷ xs) = go (p x) refl (position_from-is p (n + 1) xs)
  where
    go : (b : Bool) → p x ≡ b → position_from p (n + 1) xs ≡ option_map (λ k. n + 1 + k) (position p xs) → position_from p n (x ∷ xs) ≡ option_map (λ k. n + k) (position p (x ∷ xs))
    go true e rest = let z : n ≡ n + 0 = omega arith in rw (position-cons p x xs, e) (ap Some z)
    go false e rest = rw (position-cons p x xs, e) (rest ∙ later_by n (position p xs))

by_none : (o : Option ℕ) → option_map (λ k. 0 + k) o ≡ o
by_none None = refl
by_none (Some k) = let e : 0 + k ≡ k = omega arith in ap Some e

pub position_from-first : {X : Type 0} (p : X → Bool) (xs : List X) → position_from p 0 xs ≡ position p xs
position_from-first p xs = position_from-is p 0 xs ∙ by_none (position p xs)
