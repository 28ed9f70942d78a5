-- What marks tell of the numbers at their places.
use Rattle.std.proofs.Common.{◌≡◌, ◌⊎◌, inl, inr, ℕ, zero, suc, ◌+◌, ◌<◌, ◌≤◌, Bool, true, false, cond, List, [], ◌∷◌, ◌++◌, length, get_or, set, drop, Some, refl, sym, ap, subst, ◌∙◌, add-one, append_assoc, arith}
use Rattle.std.specs.Prelude.{slice_get, Contains, replicate}
use Rattle.std.specs.List.Sorted.{IsStrictlyIncreasing}
use Rattle.std.proofs.lemmas.List.Elements.{Contains-get_or}
use Rattle.std.proofs.lemmas.List.Kept.{AllPairs-from_increasing}
use Rattle.std.proofs.lemmas.List.Sums.{sum_by-cons}
use Rattle.std.proofs.lemmas.Option.{slice_get_read}
use Rattle.program_table.specs.declared.connection.Connection.{Connection}
use Rattle.program_table.specs.Connections.{numbers_of}
use Rattle.fan_out.specs.Marks.{IsMarked, marked_numbers, mark_count}

pub contains_here : {X : Type 0} (x : X) (xs : List X) → Contains (x ∷ xs) x
contains_here x xs = (0, omega arith, refl)

pub contains_later : {X : Type 0} (x y : X) (xs : List X) → Contains xs y → Contains (x ∷ xs) y
contains_later x y xs (k, less, e) = (suc k, omega arith, e)

pub contains_cases : {X : Type 0} (x y : X) (xs : List X) → Contains (x ∷ xs) y → (x ≡ y) ⊎ Contains xs y
contains_cases x y xs (zero, less, e) = inl e
contains_cases x y xs (suc k, less, e) = inr (k, omega arith, e)

pub contains_none : {X : Type 0} (y : X) → Contains [] y → ⊥
contains_none y (k, less, e) = omega arith

marked_later : (x : ℕ) (ns : List ℕ) (b : Bool) (ms : List Bool) (n : ℕ) → IsMarked ns ms n → IsMarked (x ∷ ns) (b ∷ ms) n
marked_later x ns b ms n (k, stands, marked) = (suc k, stands, marked)

-- the numbers at marked places are the ones that are marked
pub marked_from : (ns : List ℕ) (ms : List Bool) (n : ℕ) → Contains (marked_numbers ns ms) n → IsMarked ns ms n
marked_from [] ms n c = absurd (contains_none n c)
marked_from (x ∷ ns) [] n c = absurd (contains_none n c)
marked_from (x ∷ ns) (true ∷ ms) n c = elim (contains_cases x n (marked_numbers ns ms) c) [
  | inl e ↦ (0, ap (λ (k : ℕ). Some k) e, refl)
  | inr later ↦ marked_later x ns true ms n (marked_from ns ms n later)
]
marked_from (x ∷ ns) (false ∷ ms) n c = marked_later x ns false ms n (marked_from ns ms n c)

pub from_marked : (ns : List ℕ) (ms : List Bool) (n : ℕ) → IsMarked ns ms n → Contains (marked_numbers ns ms) n
from_marked [] ms n (k, stands, marked) = cc
from_marked (x ∷ ns) [] n (k, stands, marked) = cc
from_marked (x ∷ ns) (true ∷ ms) n (zero, stands, marked) = let e : x ≡ n = cc in subst (λ (y : ℕ). Contains (x ∷ marked_numbers ns ms) y) e (contains_here x (marked_numbers ns ms))
from_marked (x ∷ ns) (true ∷ ms) n (suc k, stands, marked) = contains_later x n (marked_numbers ns ms) (from_marked ns ms n (k, stands, marked))
from_marked (x ∷ ns) (false ∷ ms) n (zero, stands, marked) = cc
from_marked (x ∷ ns) (false ∷ ms) n (suc k, stands, marked) = from_marked ns ms n (k, stands, marked)

-- of rising numbers, those at marked places rise
pub rising_tail : (x : ℕ) (ns : List ℕ) → IsStrictlyIncreasing (x ∷ ns) → IsStrictlyIncreasing ns
rising_tail x ns h k less = let later = h (suc k) (omega arith) in rw add-one (rw add-one at later)

pub rising_head : (x : ℕ) (ns : List ℕ) (n : ℕ) → IsStrictlyIncreasing (x ∷ ns) → Contains ns n → x < n
rising_head x ns n h (k, less, e) = let below = AllPairs-from_increasing (x ∷ ns) h 0 (suc k) n (omega arith) (omega arith) in rw e at below

rising_cons : (x : ℕ) (ns : List ℕ) → ((n : ℕ) → Contains ns n → x < n) → IsStrictlyIncreasing ns → IsStrictlyIncreasing (x ∷ ns)
rising_cons x ns h r zero less = h (get_or ns 0 0) (Contains-get_or ns 0 0 (omega arith))
rising_cons x ns h r (suc k) less = let later = r k (omega arith) in rw add-one (rw add-one at later)

marked_among : (ns : List ℕ) (ms : List Bool) (n : ℕ) → Contains (marked_numbers ns ms) n → Contains ns n
marked_among [] ms n c = c
marked_among (x ∷ ns) [] n c = absurd (contains_none n c)
marked_among (x ∷ ns) (true ∷ ms) n c = elim (contains_cases x n (marked_numbers ns ms) c) [
  | inl e ↦ subst (λ (y : ℕ). Contains (x ∷ ns) y) e (contains_here x ns)
  | inr later ↦ contains_later x n ns (marked_among ns ms n later)
]
marked_among (x ∷ ns) (false ∷ ms) n c = contains_later x n ns (marked_among ns ms n c)

pub rising_marked : (ns : List ℕ) (ms : List Bool) → IsStrictlyIncreasing ns → IsStrictlyIncreasing (marked_numbers ns ms)
rising_marked [] ms h = h
rising_marked (x ∷ ns) [] h = λ k less. absurd (omega arith)
rising_marked (x ∷ ns) (true ∷ ms) h =
    rising_cons x (marked_numbers ns ms) (λ n c. rising_head x ns n h (marked_among ns ms n c)) (rising_marked ns ms (rising_tail x ns h))
rising_marked (x ∷ ns) (false ∷ ms) h = rising_marked ns ms (rising_tail x ns h)

count_yes : (ms : List Bool) → mark_count (true ∷ ms) ≡ 1 + mark_count ms
count_yes ms = sum_by-cons (λ (b : Bool). cond b 1 0) true ms

count_no : (ms : List Bool) → mark_count (false ∷ ms) ≡ 0 + mark_count ms
count_no ms = sum_by-cons (λ (b : Bool). cond b 1 0) false ms

-- there are at most as many as places are marked
pub marked_few : (ns : List ℕ) (ms : List Bool) → length (marked_numbers ns ms) ≤ mark_count ms
marked_few [] ms = omega arith
marked_few (x ∷ ns) [] = omega arith
marked_few (x ∷ ns) (true ∷ ms) = omega (arith, count_yes ms, marked_few ns ms)
marked_few (x ∷ ns) (false ∷ ms) = omega (arith, count_no ms, marked_few ns ms)

-- no place is marked at first
pub none_marked : (size k : ℕ) → slice_get (replicate size false) k ≡ Some true → ⊥
none_marked zero k e = cc
none_marked (suc size) zero e = cc
none_marked (suc size) (suc k) e = none_marked size k e

pub count_none : (size : ℕ) → mark_count (replicate size false) ≡ 0
count_none zero = refl
count_none (suc size) = omega (arith, count_no (replicate size false), count_none size)

-- one more place is marked
pub set_here : (ms : List Bool) (k : ℕ) (b : Bool) → slice_get ms k ≡ Some b → slice_get (set ms k true) k ≡ Some true
set_here [] k b e = cc
set_here (m ∷ ms) zero b e = refl
set_here (m ∷ ms) (suc k) b e = set_here ms k b e

pub set_kept : (ms : List Bool) (k j : ℕ) → slice_get ms j ≡ Some true → slice_get (set ms k true) j ≡ Some true
set_kept [] k j e = e
set_kept (m ∷ ms) zero zero e = refl
set_kept (m ∷ ms) zero (suc j) e = e
set_kept (m ∷ ms) (suc k) zero e = e
set_kept (m ∷ ms) (suc k) (suc j) e = set_kept ms k j e

pub set_cases : (ms : List Bool) (k j : ℕ) → slice_get (set ms k true) j ≡ Some true → (j ≡ k) ⊎ (slice_get ms j ≡ Some true)
set_cases [] k j e = inr e
set_cases (m ∷ ms) zero zero e = inl refl
set_cases (m ∷ ms) zero (suc j) e = inr e
set_cases (m ∷ ms) (suc k) zero e = inr e
set_cases (m ∷ ms) (suc k) (suc j) e = elim (set_cases ms k j e) [ inl same ↦ inl (ap suc same) | inr there ↦ inr there ]

pub count_set : (ms : List Bool) (k : ℕ) → slice_get ms k ≡ Some false → mark_count (set ms k true) ≡ mark_count ms + 1
count_set [] k e = cc
count_set (m ∷ ms) zero e = let is : m ≡ false = cc in rw is (omega (arith, count_yes ms, count_no ms))
count_set (true ∷ ms) (suc k) e = omega (arith, count_yes ms, count_yes (set ms k true), count_set ms k e)
count_set (false ∷ ms) (suc k) e = omega (arith, count_no ms, count_no (set ms k true), count_set ms k e)

-- the numbers from a place on, of which the one at the place is the next
drop_place : {X : Type 0} (xs : List X) (k : ℕ) (x : X) → slice_get xs k ≡ Some x → drop k xs ≡ x ∷ drop (suc k) xs
drop_place [] k x e = cc
drop_place (y ∷ xs) zero x e = let s : y ≡ x = cc in ap (λ (z : _). z ∷ xs) s
drop_place (y ∷ xs) (suc k) x e = drop_place xs k x e

pub next_number : (ns : List ℕ) (ms : List Bool) (k n : ℕ) (b : Bool) → slice_get ns k ≡ Some n → slice_get ms k ≡ Some b → marked_numbers (drop k ns) (drop k ms) ≡ cond b (n ∷ marked_numbers (drop (suc k) ns) (drop (suc k) ms)) (marked_numbers (drop (suc k) ns) (drop (suc k) ms))
next_number ns ms k n b e f = rw (drop_place ns k n e, drop_place ms k b f) refl

pub number_pushed : (numbers more ns all : List ℕ) (ms : List Bool) (k n : ℕ) → slice_get ns k ≡ Some n → slice_get ms k ≡ Some true → more ≡ numbers ++ n ∷ [] → numbers ++ marked_numbers (drop k ns) (drop k ms) ≡ all → more ++ marked_numbers (drop (k + 1) ns) (drop (k + 1) ms) ≡ all
number_pushed numbers more ns all ms k n e f push so_far =
    rw (add-one, push, append_assoc) (ap (λ (xs : List ℕ). numbers ++ xs) (sym (next_number ns ms k n true e f)) ∙ so_far)

module _ {M : Type 0} where
  number_get : (cs : List (Connection M)) (k : ℕ) (c : Connection M) → slice_get cs k ≡ Some c → slice_get (numbers_of cs) k ≡ Some c.number
  number_get [] k c e = cc
  number_get (d ∷ cs) zero c e = let s : d ≡ c = cc in ap (λ (x : Connection M). Some x.number) s
  number_get (d ∷ cs) (suc k) c e = number_get cs k c e

  pub number_at : (cs : List (Connection M)) (k : ℕ) (c : Connection M) → k < length cs → c ≡ get_or cs k c → slice_get (numbers_of cs) k ≡ Some c.number
  number_at cs k c less e = number_get cs k c (slice_get_read cs (length cs) k c refl less e)
