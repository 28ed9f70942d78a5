-- Which places are near, and how many islands a conditional jump gets.
use Rattle.std.proofs.Common.{◌≡◌, ℕ, ◌+◌, ◌-◌, ◌<◌, ◌≤◌, Bool, true, false, length, inl, inr, refl, sym, ◌∙◌, arith}
use Rattle.std.proofs.lemmas.Bool.{cases_eq, ltb-true, ltb-false, lt-ltb, le-leb, or_cases, or_parts, or_left, or_right, and_parts, and_cases, and_from, false≢true}
use Rattle.std.proofs.lemmas.List.{get_or-set_same, get_or-set_other}
use Rattle.std.proofs.Math.ListN.{length-set}
use Rattle.jump_islands.specs.PlainLength.{is_far, count}
use Rattle.jump_islands.specs.Tails.{TailTree, len, height, reach, with_island, with_needed, is_too_far, is_first_far, with_first, with_islands, IsPlace}
use Rattle.jump_islands.proofs.TailSteps.{len-island}

-- ---- what an island changes

reach_here : (t : TailTree) (place : ℕ) → place < length t.reaches → reach (with_island place t) place ≡ len t + 1
reach_here t place inside = get_or-set_same t.reaches place (len t + 1) 0 inside

reach_grows : (t : TailTree) (place i : ℕ) → place < length t.reaches → reach t place ≤ len t → reach t i ≤ reach (with_island place t) i
reach_grows t place i inside small = elim (cases_eq i place) [
  | inl e ↦ (let s = reach_here t place inside in rw e (omega arith))
  | inr ne ↦ (let s : reach (with_island place t) i ≡ reach t i = get_or-set_other t.reaches place i (len t + 1) 0 ne in omega arith)
]

pub len-needed : (needed : Bool) (place : ℕ) (t : TailTree) → len (with_needed needed place t) ≡ len t + count needed
len-needed true place t = len-island place t
len-needed false place t = omega arith

-- a place of a tail is still one once an island was added
pub place-needed : (needed : Bool) (place i : ℕ) (t : TailTree) → IsPlace t place → IsPlace t i → IsPlace (with_needed needed place t) i
place-needed false place i t h p = p
place-needed true place i t h p =
    let l = len-island place t in
    let n = p.bounded in
    let m = p.kept in
    record {
      within = p.within;
      reached = rw (length-set t.reaches place (len t + 1)) p.reached;
      bounded = omega arith;
      kept = elim (cases_eq i place) [
        | inl e ↦ (let s = reach_here t place h.reached in rw e (omega arith))
        | inr ne ↦ (let s : reach (with_island place t) i ≡ reach t i = get_or-set_other t.reaches place i (len t + 1) 0 ne in omega arith)
      ];
    }

-- ---- once the islands stand both places are near

-- the first place is near now, and stays near if the second one needs an island
abbrev Kept : ℕ → ℕ → TailTree → Type 0
Kept hit miss t = (len t - reach t hit ≤ 255) × (is_too_far miss (len t) t ≡ true → len t + 1 - reach t hit ≤ 255)

kept_first : (hit miss : ℕ) (t : TailTree) (b : Bool) → is_first_far hit miss t ≡ b → hit < length t.reaches → Kept hit miss (with_needed b hit t)
kept_first hit miss t true far inside =
    let r = reach_here t hit inside in
    let l = len-island hit t in
    (omega arith, λ h. omega arith)
kept_first hit miss t false far inside =
    let p = or_parts _ _ far in (
      ltb-false 255 (len t - reach t hit) p.0,
      λ h. elim (and_cases _ _ p.1) [
        | inl q ↦ absurd (false≢true (sym q ∙ h))
        | inr q ↦ ltb-false 255 (len t + 1 - reach t hit) q
      ],
    )

near_both : (hit miss : ℕ) (t : TailTree) (b : Bool) → is_too_far miss (len t) t ≡ b → Kept hit miss t → IsPlace t miss → let u = with_needed b miss t in (len u - reach u hit ≤ 255) × (len u - reach u miss ≤ 255)
near_both hit miss t false far kept p = (kept.0, ltb-false 255 (len t - reach t miss) far)
near_both hit miss t true far kept p =
    let r = reach_here t miss p.reached in
    let g = reach_grows t miss hit p.reached p.kept in
    let k : len t + 1 - reach t hit ≤ 255 = kept.1 far in
    let l = len-island miss t in
    (omega arith, omega arith)

pub both_near : (hit miss : ℕ) (t : TailTree) → IsPlace t hit → IsPlace t miss → let u = with_islands hit miss t in (len u - reach u hit ≤ 255) × (len u - reach u miss ≤ 255)
both_near hit miss t h m =
    let kept = kept_first hit miss t (is_first_far hit miss t) refl h.reached in
    near_both hit miss (with_first hit miss t) _ refl kept (place-needed (is_first_far hit miss t) hit miss t h m)

-- ---- how many islands

pub count-le : (b far : Bool) → (b ≡ true → far ≡ true) → count b ≤ count far
count-le true far h = let e = h refl in rw e (omega arith)
count-le false far h = omega arith

far_more : (span other : ℕ) → 255 < span → is_far span other ≡ true
far_more span other h = or_left _ _ (lt-ltb 255 span h)

far_beside : (span other : ℕ) → 255 < other → 255 ≤ span → is_far span other ≡ true
far_beside span other a b = or_right _ _ (and_from _ _ (lt-ltb 255 other a) (le-leb 255 span b))

-- how far the places are without sharing
pub record Spans (t : TailTree) (hit miss to_hit to_miss : ℕ) : Type 0 where
  pub hit_kept : height t hit ≤ reach t hit
  pub miss_kept : height t miss ≤ reach t miss
  pub hit_far : len t ≤ to_hit + height t hit
  pub miss_far : len t ≤ to_miss + height t miss

pub first_far : (t : TailTree) (hit miss to_hit to_miss : ℕ) → Spans t hit miss to_hit to_miss → is_first_far hit miss t ≡ true → is_far to_hit to_miss ≡ true
first_far t hit miss to_hit to_miss s h = elim (or_cases _ _ h) [
  | inl e ↦ (let f = ltb-true 255 (len t - reach t hit) e in far_more to_hit to_miss (omega arith))
  | inr e ↦ (
      let p = and_parts _ _ e in
      let f = ltb-true 255 (len t - reach t miss) p.0 in
      let g = ltb-true 255 (len t + 1 - reach t hit) p.1 in
      far_beside to_hit to_miss (omega arith) (omega arith))
]

pub second_far : (t : TailTree) (hit miss to_hit to_miss : ℕ) → Spans t hit miss to_hit to_miss → hit < length t.reaches → reach t hit ≤ len t → (b : Bool) → is_first_far hit miss t ≡ b → is_too_far miss (len (with_needed b hit t)) (with_needed b hit t) ≡ true → is_far to_miss to_hit ≡ true
second_far t hit miss to_hit to_miss s inside small true first h =
    let f = ltb-true 255 (len (with_island hit t) - reach (with_island hit t) miss) h in
    let l = len-island hit t in
    let g = reach_grows t hit miss inside small in
    elim (or_cases _ _ first) [
      | inl e ↦ (let n = ltb-true 255 (len t - reach t hit) e in far_beside to_miss to_hit (omega arith) (omega arith))
      | inr e ↦ (
          let p = and_parts _ _ e in
          let n = ltb-true 255 (len t - reach t miss) p.0 in
          far_more to_miss to_hit (omega arith))
    ]
second_far t hit miss to_hit to_miss s inside small false first h =
    let f = ltb-true 255 (len t - reach t miss) h in far_more to_miss to_hit (omega arith)
