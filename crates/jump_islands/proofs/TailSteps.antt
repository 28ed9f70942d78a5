-- What each step of `lower` keeps of a tail.
use Rattle.std.proofs.Common.{◌≡◌, ℕ, ◌+◌, ◌-◌, ◌<◌, ◌≤◌, List, [], ◌∷◌, ◌++◌, length, Some, inl, inr, refl, sym, ◌∙◌, arith, length-append}
use Rattle.std.proofs.lemmas.Bool.{cases_eq, cases_lt}
use Rattle.std.proofs.lemmas.List.{get_or_append_left, get_or_push, get_or-set_same, get_or-set_other}
use Rattle.std.proofs.Math.ListN.{length-set}
use Rattle.std.specs.List.{slice_get}
use Rattle.bpf_code.specs.declared.instruction.Ins.{Ins}
use Rattle.jump_islands.specs.Tails.{TailTree, len, height, reach, jump_to, with_ins, with_place, with_island}
use Rattle.jump_islands.proofs.ListPlaces.{slice_get-seam}
use Rattle.jump_islands.proofs.TailFacts.{Reached, IsPut, From, Holds, island_extends, put_extends, reached_on, lowered_on, from_on}

-- ---- an island

at_seam : (xs : List Ins) (x : Ins) (j : ℕ) → j ≡ length xs → slice_get (xs ++ x ∷ []) j ≡ Some x
at_seam xs x j e = rw e (slice_get-seam xs [] x)

pub len-island : (place : ℕ) (t : TailTree) → len (with_island place t) ≡ len t + 1
len-island place t = length-append t.program (jump_to place t ∷ [])

pub island_holds : (W : Type 0) (source : List Ins) (t : TailTree) → Holds W source t → (place : ℕ) → place ≤ length source → (W → 0 < place) → Holds W source (with_island place t)
island_holds W source t h place inside well = record {
  long = h.long;
  reached = length-set t.reaches place (len t + 1) ∙ h.reached;
  last = h.last;
  below = λ i small. let b : height t i ≤ len t = h.below i small in omega (arith, len-island place t);
  lowered = lowered_on t (with_island place t) (island_extends t place) source (omega (arith, h.long)) h.lowered;
  each = each;
  reaches = reaches;
}
  where
    bounded : height t place ≤ len t
    bounded = h.below place inside

    over : height t place + (len t - height t place) ≡ len t
    over = omega (arith, bounded)

    is : slice_get (with_island place t).program (height t place + (len t - height t place)) ≡ Some (jump_to place t)
    is = at_seam t.program (jump_to place t) _ over

    here : (r : ℕ) → r ≡ len t + 1 → Reached (with_island place t) place r
    here r e = inr (len t - height t place, is, omega (arith, over))

    each : (j : ℕ) → j < len (with_island place t) → From W source (with_island place t) j
    each j small = elim (cases_lt j (len t)) [
      | inl low ↦ from_on W t (with_island place t) (island_extends t place) source source j (omega (arith, h.long)) (omega arith) (h.each j low)
      | inr high ↦ (place, inside, well, here (j + 1) (omega (arith, len-island place t)))
    ]

    reaches : (i : ℕ) → i ≤ length source → Reached (with_island place t) i (reach (with_island place t) i)
    reaches i small = elim (cases_eq i place) [
      | inl e ↦ rw e (here _ (get_or-set_same t.reaches place (len t + 1) 0 (omega (arith, h.reached))))
      | inr ne ↦ rw (get_or-set_other t.reaches place i (len t + 1) 0 ne) (reached_on t (with_island place t) (island_extends t place) i (reach t i) (omega (arith, h.long)) (h.reaches i small))
    ]

-- ---- an instruction, and its place

pub len-put : (x : Ins) (t : TailTree) → len (with_place (with_ins x t)) ≡ len t + 1
len-put x t = length-append t.program (x ∷ [])

pub put_holds : (W : Type 0) (source : List Ins) (t : TailTree) → Holds W source t → (ins x : Ins) → IsPut (with_place (with_ins x t)) ins (length source) → Holds W (ins ∷ source) (with_place (with_ins x t))
put_holds W source t h ins x put = record {
  long = omega (arith, h.long, length-append t.heights (len (with_ins x t) ∷ []));
  reached = omega (arith, h.reached, length-append t.reaches (len (with_ins x t) ∷ []));
  last = (put_extends t x).same 0 (omega (arith, h.long)) ∙ h.last;
  below = below;
  lowered = (put, lowered_on t u (put_extends t x) source (omega (arith, h.long)) h.lowered);
  each = each;
  reaches = reaches;
}
  where
    u : TailTree
    u = with_place (with_ins x t)

    top : (i : ℕ) → i ≡ length source + 1 → height u i ≡ len u
    top i e = get_or_push t.heights (len u) 0 i (omega (arith, h.long))

    top_reach : (i : ℕ) → i ≡ length source + 1 → reach u i ≡ len u
    top_reach i e = get_or_push t.reaches (len u) 0 i (omega (arith, h.reached))

    below : (i : ℕ) → i ≤ length (ins ∷ source) → height u i ≤ len u
    below i small = elim (cases_lt i (length source + 1)) [
      | inl low ↦ (let s = (put_extends t x).same i (omega (arith, h.long)) in let b : height t i ≤ len t = h.below i (omega arith) in omega (arith, len-put x t))
      | inr high ↦ (let e = top i (omega arith) in omega arith)
    ]

    each : (j : ℕ) → j < len u → From W (ins ∷ source) u j
    each j small = elim (cases_lt j (len t)) [
      | inl low ↦ from_on W t u (put_extends t x) source (ins ∷ source) j (omega (arith, h.long)) (omega arith) (h.each j low)
      | inr high ↦ (length source + 1, omega arith, λ w. omega arith, let e = top (length source + 1) refl in inl (omega (arith, len-put x t)))
    ]

    reaches : (i : ℕ) → i ≤ length (ins ∷ source) → Reached u i (reach u i)
    reaches i small = elim (cases_lt i (length source + 1)) [
      | inl low ↦ (
          let same : reach u i ≡ reach t i = get_or_append_left t.reaches _ 0 i (omega (arith, h.reached)) in
          rw same (reached_on t u (put_extends t x) i (reach t i) (omega (arith, h.long)) (h.reaches i (omega arith))))
      | inr high ↦ (let e : i ≡ length source + 1 = omega arith in inl (top_reach i e ∙ sym (top i e)))
    ]

-- the place in front of the instruction, and the one after it
pub put_top : (W : Type 0) (source : List Ins) (t : TailTree) → Holds W source t → (x : Ins) → height (with_place (with_ins x t)) (length source + 1) ≡ len t + 1
put_top W source t h x = get_or_push t.heights (len (with_ins x t)) 0 (length source + 1) (omega (arith, h.long)) ∙ len-put x t

pub put_after : (W : Type 0) (source : List Ins) (t : TailTree) → Holds W source t → (x : Ins) (i : ℕ) → i ≤ length source → height (with_place (with_ins x t)) i ≡ height t i
put_after W source t h x i small = (put_extends t x).same i (omega (arith, h.long))
