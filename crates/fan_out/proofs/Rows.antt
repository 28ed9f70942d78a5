-- Marks in rows, and the remainders of the numbers of marked connections.
use Rattle.std.proofs.Common.{◌≡◌, ℕ, zero, suc, ◌+◌, ◌-◌, ◌*◌, ◌/◌, ◌%◌, ◌<◌, ◌≤◌, Bool, true, false, List, [], ◌∷◌, ◌++◌, length, get_or, drop, Some, refl, sym, ap, subst, ◌∙◌, add-one, arith}
use Rattle.std.specs.Prelude.{MatchBool, Contains, slice_get, set, replicate}
use Rattle.std.specs.List.Sorted.{IsStrictlyIncreasing}
use Rattle.std.proofs.lemmas.List.{length-map, drop_all}
use Rattle.std.proofs.lemmas.Option.{slice_get-get_or}
use Rattle.program_table.specs.declared.connection.Connection.{Connection}
use Rattle.program_table.specs.Connections.{numbers_of}
use Rattle.fan_out.specs.Marks.{AreInRows, AreWithin, IsMarked, IsUnmarked, marked_numbers}
use Rattle.fan_out.proofs.Places.{contains_here, contains_later, rising_tail, rising_head}

skip_mark : (ns : List ℕ) (ms : List Bool) (k : ℕ) → slice_get ms k ≡ Some false → marked_numbers (drop k ns) (drop k ms) ≡ marked_numbers (drop (suc k) ns) (drop (suc k) ms)
skip_mark [] ms zero e = refl
skip_mark [] ms (suc k) e = refl
skip_mark (n ∷ ns) [] k e = cc
skip_mark (n ∷ ns) (true ∷ ms) zero e = cc
skip_mark (n ∷ ns) (false ∷ ms) zero e = refl
skip_mark (n ∷ ns) (m ∷ ms) (suc k) e = skip_mark ns ms k e

pub number_skipped : (numbers ns : List ℕ) (ms : List Bool) (k : ℕ) → slice_get ms k ≡ Some false → numbers ++ marked_numbers (drop (k + 1) ns) (drop (k + 1) ms) ≡ numbers ++ marked_numbers (drop k ns) (drop k ms)
number_skipped numbers ns ms k e = rw add-one (ap (λ (xs : List ℕ). numbers ++ xs) (sym (skip_mark ns ms k e)))

-- places without a mark give no numbers
skip_marks : (count k : ℕ) (ns : List ℕ) (ms : List Bool) → ((j : ℕ) → k ≤ j → j < k + count → slice_get ms j ≡ Some false) → marked_numbers (drop k ns) (drop k ms) ≡ marked_numbers (drop (k + count) ns) (drop (k + count) ms)
skip_marks zero k ns ms h = let e : k + 0 ≡ k = omega arith in rw e refl
skip_marks (suc count) k ns ms h =
    let e : k + suc count ≡ suc k + count = omega arith in
    skip_mark ns ms k (h k (omega arith) (omega arith)) ∙ rw e (skip_marks count (suc k) ns ms (λ j from below. h j (omega arith) (omega arith)))

marked_never : (b : Bool) → Some b ≡ Some false → Some b ≡ Some true → ⊥
marked_never b e f = cc

-- a row that isn't noted has no mark
unmarked_row : (places rows : List Bool) (row j : ℕ) → length places ≡ 4096 → AreInRows places rows → row < 256 → slice_get rows row ≡ Some false → 16 * row ≤ j → j < 16 * row + 16 → slice_get places j ≡ Some false
unmarked_row places rows row j size in_rows less unnoted from below = go (get_or places j false) (slice_get-get_or places j false (omega arith))
  where
    go : (b : Bool) → slice_get places j ≡ Some b → slice_get places j ≡ Some false
    go false e = e
    go true e =
        let at : j / 16 ≡ row = omega arith in
        absurd (marked_never true (sym (in_rows j e) ∙ ap (slice_get rows) at ∙ unnoted) refl)

pub row_passed : (places rows : List Bool) (row : ℕ) (ns : List ℕ) → length places ≡ 4096 → AreInRows places rows → row < 256 → slice_get rows row ≡ Some false → marked_numbers (drop (16 * row) ns) (drop (16 * row) places) ≡ marked_numbers (drop (16 * row + 16) ns) (drop (16 * row + 16) places)
row_passed places rows row ns size in_rows less unnoted = skip_marks 16 (16 * row) ns places (λ j from below. unmarked_row places rows row j size in_rows less unnoted from below)

-- ---- the places between which all marks lie

-- a place outside has no mark
outside : (places : List Bool) (low high j : ℕ) → length places ≡ 4096 → AreWithin places low high → j < 4096 → ((low ≤ j) × (j < high) → ⊥) → slice_get places j ≡ Some false
outside places low high j size within inside out = go (get_or places j false) (slice_get-get_or places j false (omega arith))
  where
    go : (b : Bool) → slice_get places j ≡ Some b → slice_get places j ≡ Some false
    go false e = e
    go true e = absurd (out (within j e))

-- the places before the first mark give no numbers
pub first_places : (places : List Bool) (low high start : ℕ) (ns : List ℕ) → length places ≡ 4096 → AreWithin places low high → low ≤ 4096 → start ≤ low → marked_numbers (drop start ns) (drop start places) ≡ marked_numbers ns places
first_places places low high start ns size within small before =
    let e : 0 + start ≡ start = omega arith in
    sym (rw e at (skip_marks start 0 ns places (λ j from below. outside places low high j size within (omega arith) (λ (b : (low ≤ j) × (j < high)). omega (arith, b.0)))))

marked_nothing : (ns : List ℕ) → marked_numbers ns [] ≡ []
marked_nothing [] = refl
marked_nothing (n ∷ ns) = refl

-- nor do those after the last mark
pub last_places : (places : List Bool) (low high end : ℕ) (ns : List ℕ) → length places ≡ 4096 → AreWithin places low high → high ≤ end → marked_numbers (drop end ns) (drop end places) ≡ []
last_places places low high end ns size within past =
    skip_marks (4096 - end) end ns places (λ j from below. outside places low high j size within (omega arith) (λ (b : (low ≤ j) × (j < high)). omega (arith, b.1)))
    ∙ ap (λ (ms : List Bool). marked_numbers (drop (end + (4096 - end)) ns) ms) (drop_all (end + (4096 - end)) places (omega arith))
    ∙ marked_nothing (drop (end + (4096 - end)) ns)

-- ---- marks that are taken away

-- what is marked still was marked before
pub still_marked : (places : List Bool) (place k : ℕ) → slice_get (set places place false) k ≡ Some true → slice_get places k ≡ Some true
still_marked [] place k e = cc
still_marked (m ∷ ms) zero zero e = cc
still_marked (m ∷ ms) zero (suc k) e = e
still_marked (m ∷ ms) (suc place) zero e = e
still_marked (m ∷ ms) (suc place) (suc k) e = still_marked ms place k e

-- and stands elsewhere
pub marked_elsewhere : (places : List Bool) (place k : ℕ) → slice_get (set places place false) k ≡ Some true → k ≡ place → ⊥
marked_elsewhere [] place k e same = cc
marked_elsewhere (m ∷ ms) zero zero e same = cc
marked_elsewhere (m ∷ ms) zero (suc k) e same = omega (arith, same)
marked_elsewhere (m ∷ ms) (suc place) zero e same = omega (arith, same)
marked_elsewhere (m ∷ ms) (suc place) (suc k) e same = marked_elsewhere ms place k e (omega (arith, same))

-- the first mark lies after a place that was the first, once it is taken away
pub after_first : (places : List Bool) (place high : ℕ) → AreWithin places place high → AreWithin (set places place false) (place + 1) high
after_first places place high within k e =
    let inside = within k (still_marked places place k e) in
    let elsewhere = marked_elsewhere places place k e in
    (omega (arith, inside.0, elsewhere), inside.1)

-- where all marks lie between a place and none after it, there are none
pub all_unmarked : (size : ℕ) (places : List Bool) → length places ≡ size → ((k : ℕ) → slice_get places k ≡ Some true → ⊥) → places ≡ replicate size false
all_unmarked zero [] e none = refl
all_unmarked zero (m ∷ ms) e none = let never : ⊥ = omega (arith, e) in absurd never
all_unmarked (suc size) [] e none = let never : ⊥ = omega (arith, e) in absurd never
all_unmarked (suc size) (true ∷ ms) e none = absurd (none 0 refl)
all_unmarked (suc size) (false ∷ ms) e none = ap (λ (l : List Bool). false ∷ l) (all_unmarked size ms (omega (arith, e)) (λ k marked. none (suc k) marked))

module _ {M : Type 0} where
  -- after the last connection there are no numbers
  pub none_left : (cs : List (Connection M)) (ms : List Bool) (k : ℕ) → length cs ≤ k → marked_numbers (drop k (numbers_of cs)) ms ≡ []
  none_left cs ms k past =
      let few : length (numbers_of cs) ≤ k = omega (arith, past, length-map cs (λ (c : Connection M). c.number)) in
      ap (λ (ns : List ℕ). marked_numbers ns ms) (drop_all k (numbers_of cs) few)

at_contains : (ns : List ℕ) (j n : ℕ) → slice_get ns j ≡ Some n → Contains ns n
at_contains [] j n e = cc
at_contains (x ∷ ns) zero n e = let same : x ≡ n = cc in subst (λ (y : ℕ). Contains (x ∷ ns) y) same (contains_here x ns)
at_contains (x ∷ ns) (suc j) n e = contains_later x n ns (at_contains ns j n e)

not_first : (x n : ℕ) (ns : List ℕ) (j : ℕ) → IsStrictlyIncreasing (x ∷ ns) → Some x ≡ Some n → slice_get ns j ≡ Some n → ⊥
not_first x n ns j rising e f = let same : x ≡ n = cc in omega (arith, rising_head x ns n rising (at_contains ns j n f), same)

-- a number stands at one place
same_place : (ns : List ℕ) (i j n : ℕ) → IsStrictlyIncreasing ns → slice_get ns i ≡ Some n → slice_get ns j ≡ Some n → i ≡ j
same_place [] i j n rising e f = cc
same_place (x ∷ ns) zero zero n rising e f = refl
same_place (x ∷ ns) zero (suc j) n rising e f = absurd (not_first x n ns j rising e f)
same_place (x ∷ ns) (suc i) zero n rising e f = absurd (not_first x n ns i rising f e)
same_place (x ∷ ns) (suc i) (suc j) n rising e f = ap suc (same_place ns i j n (rising_tail x ns rising) e f)

-- the mark at a number's place is the number's
pub marked_at : (numbers : List ℕ) (marks : List Bool) (place n : ℕ) (b : Bool) → IsStrictlyIncreasing numbers → slice_get numbers place ≡ Some n → slice_get marks place ≡ Some b → MatchBool b (IsMarked numbers marks n) (IsUnmarked numbers marks n)
marked_at numbers marks place n true rising stands e = (place, stands, e)
marked_at numbers marks place n false rising stands e = λ k there. subst (λ (j : ℕ). slice_get marks j ≡ Some false) (same_place numbers place k n rising stands there) e
