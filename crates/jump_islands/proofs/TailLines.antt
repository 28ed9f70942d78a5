-- What each instruction of a source program adds to a tail.
use Rattle.std.proofs.Common.{◌≡◌, ℕ, zero, suc, ◌+◌, ◌-◌, ◌<◌, ◌≤◌, Bool, true, false, List, [], ◌∷◌, length, take, get_or, Option, Some, refl, sym, ap, ◌∙◌, arith, subst}
use Rattle.std.proofs.lemmas.List.Sums.{sum_by-cons}
use Rattle.std.specs.List.{slice_get}
use Rattle.bpf_code.specs.declared.instruction.Ins.{Ins}
use Rattle.bpf_code.specs.declared.operation.Op.{Op}
use Rattle.bpf_code.specs.declared.operation.Op.TheVariants.{Jump, Branch}
use Rattle.bpf_code.specs.declared.operation.Test.{Test}
use Rattle.bpf_code.specs.declared.operation.Operand.{Operand}
use Rattle.bpf_code.specs.Table.{op_of, code_of}
use Rattle.bpf_code.proofs.OneTable.{row_of_code}
use Rattle.jump_islands.specs.PlainLength.{is_far, count, span, size_of, sizes_of}
use Rattle.jump_islands.specs.Source.{is_plain_op, jump_over}
use Rattle.jump_islands.specs.Tails.{TailTree, len, height, reach, jump_to, branch_to, with_ins, with_place, with_needed, is_too_far, is_first_far, with_first, with_islands, with_branch}
use Rattle.jump_islands.proofs.ListPlaces.{slice_get-seam}
use Rattle.jump_islands.proofs.TailFacts.{LeadsTo, PutAt, Holds, IsTail, put_extends, reached_on, reached_above, reached_below}
use Rattle.jump_islands.proofs.TailSteps.{island_holds, put_holds, put_top, put_after, len-put}
use Rattle.jump_islands.proofs.NearPlaces.{count-le, len-needed, Spans, first_far, second_far}

-- ---- the length

-- what is added is no longer than without sharing
short_on : (W : Type 0) (source : List Ins) (t m : TailTree) (ins x : Ins) → IsTail W source t → Holds W source m → m.heights ≡ t.heights → len m + 1 ≤ size_of (op_of ins.code) ins (sizes_of source) + len t → (d i : ℕ) → i ≡ length source + 1 - d → len (with_place (with_ins x m)) ≤ span d (sizes_of (ins ∷ source)) + height (with_place (with_ins x m)) i
short_on W source t m ins x tail h same size zero i e =
    let f : i ≡ length source + 1 = omega arith in
    let top : height (with_place (with_ins x m)) i ≡ len m + 1 = rw f (put_top W source m h x) in
    omega (arith, len-put x m)
short_on W source t m ins x tail h same size (suc d) i e =
    let f : i ≡ length source - d = omega arith in
    let below : height (with_place (with_ins x m)) i ≡ height m i = put_after W source m h x i (omega arith) in
    let back : height m i ≡ height t (length source - d) = ap (λ (hs : List ℕ). get_or hs i 0) same ∙ ap (height t) f in
    let more : span (suc d) (sizes_of (ins ∷ source)) ≡ size_of (op_of ins.code) ins (sizes_of source) + span d (sizes_of source) = sum_by-cons (λ (size : ℕ). size) _ (take d (sizes_of source)) in
    let s = tail.short d in
    omega (arith, len-put x m)

tail_with : (W : Type 0) (source : List Ins) (t m : TailTree) (ins x : Ins) → IsTail W source t → Holds W source m → m.heights ≡ t.heights → len m + 1 ≤ size_of (op_of ins.code) ins (sizes_of source) + len t → PutAt (with_place (with_ins x m)) (op_of ins.code) ins (length source) (len m) → IsTail W (ins ∷ source) (with_place (with_ins x m))
tail_with W source t m ins x tail h same size put = record {
  holds = put_holds W source m h ins x (record { at = len m; above = put_top W source m h x; is = put });
  top = (let e : length (ins ∷ source) ≡ length source + 1 = omega arith in rw e (put_top W source m h x)) ∙ sym (len-put x m);
  short = λ d. short_on W source t m ins x tail h same size d (length (ins ∷ source) - d) (omega arith);
}

-- ---- an instruction that is no jump

plain_put : (t : TailTree) (o : Option Op) (ins : Ins) (i at : ℕ) → is_plain_op o ≡ true → (slice_get t.program at ≡ Some ins) × (height t i ≡ at) → PutAt t o ins i at
plain_put t (Some Jump) ins i at plain p = cc
plain_put t (Some (Branch test operand)) ins i at plain p = cc
plain_put t _ ins i at plain p = p

size_some : (o : Option Op) (ins : Ins) (later : List ℕ) → 1 ≤ size_of o ins later
size_some (Some (Branch test operand)) ins later = omega arith
size_some _ ins later = omega arith

pub plain_tail : (W : Type 0) (source : List Ins) (t : TailTree) (ins : Ins) → IsTail W source t → is_plain_op (op_of ins.code) ≡ true → IsTail W (ins ∷ source) (with_place (with_ins ins t))
plain_tail W source t ins tail plain =
    let bounded = put_after W source t tail.holds ins (length source) (omega arith) ∙ tail.top in
    let size = size_some (op_of ins.code) ins (sizes_of source) in
    let put = plain_put (with_place (with_ins ins t)) (op_of ins.code) ins (length source) (len t) plain (slice_get-seam t.program [] ins, bounded) in
    tail_with W source t t ins ins tail tail.holds refl (omega arith) put

-- ---- a jump

pub jump_tail : (W : Type 0) (source : List Ins) (t : TailTree) (k : ℕ) → IsTail W source t → IsTail W (jump_over k ∷ source) (with_place (with_ins (jump_to (length source - k) t) t))
jump_tail W source t k tail =
    let x = jump_to (length source - k) t in
    let small = tail.holds.below (length source - k) (omega arith) in
    let bounded = put_after W source t tail.holds x (length source - k) (omega arith) in
    let size = size_some (op_of 5) (jump_over k) (sizes_of source) in
    tail_with W source t t (jump_over k) x tail tail.holds refl (omega arith) (len t - height t (length source - k), slice_get-seam t.program [] x, omega arith)

-- ---- a conditional jump

needed_holds : (W : Type 0) (source : List Ins) (t : TailTree) (place : ℕ) (needed : Bool) → Holds W source t → place ≤ length source → (W → 0 < place) → Holds W source (with_needed needed place t)
needed_holds W source t place true h inside well = island_holds W source t h place inside well
needed_holds W source t place false h inside well = h

needed_heights : (t : TailTree) (place : ℕ) (needed : Bool) → (with_needed needed place t).heights ≡ t.heights
needed_heights t place true = refl
needed_heights t place false = refl

branch_size : (o : Option Op) (test : Test) (operand : Operand) (ins : Ins) (later : List ℕ) → o ≡ Some (Branch test operand) → size_of o ins later ≡ 1 + count (is_far (span ins.jt later) (span ins.jf later)) + count (is_far (span ins.jf later) (span ins.jt later))
branch_size o test operand ins later e = rw e refl

islands_few : (t : TailTree) (hit miss to_hit to_miss : ℕ) → Spans t hit miss to_hit to_miss → hit < length t.reaches → reach t hit ≤ len t → len (with_islands hit miss t) ≤ len t + count (is_far to_hit to_miss) + count (is_far to_miss to_hit)
islands_few t hit miss to_hit to_miss s inside small =
    let u = with_first hit miss t in
    let first = len-needed (is_first_far hit miss t) hit t in
    let second = len-needed (is_too_far miss (len u) u) miss u in
    let a = count-le (is_first_far hit miss t) (is_far to_hit to_miss) (first_far t hit miss to_hit to_miss s) in
    let b = count-le (is_too_far miss (len u) u) (is_far to_miss to_hit) (second_far t hit miss to_hit to_miss s inside small (is_first_far hit miss t) refl) in
    omega arith

pub branch_tail : (W : Type 0) (source : List Ins) (t : TailTree) (test : Test) (operand : Operand) (k jt jf : ℕ) → IsTail W source t → (W → 0 < length source - jt) → (W → 0 < length source - jf) → IsTail W (record { code = code_of (Branch test operand); jt = jt; jf = jf; k = k } ∷ source) (with_place (with_branch test operand k (length source - jt) (length source - jf) (with_islands (length source - jt) (length source - jf) t)))
branch_tail W source t test operand k jt jf tail hit_well miss_well =
    let row = sym (row_of_code (Branch test operand)) in
    tail_with W source t m ins x tail h heights size (subst (λ (o : Option Op). PutAt u o ins (length source) (len m)) row put)
  where
    hit : ℕ
    hit = length source - jt

    miss : ℕ
    miss = length source - jf

    hit_in : hit ≤ length source
    hit_in = omega arith

    miss_in : miss ≤ length source
    miss_in = omega arith

    first : TailTree
    first = with_first hit miss t

    m : TailTree
    m = with_islands hit miss t

    first_h : Holds W source first
    first_h = needed_holds W source t hit (is_first_far hit miss t) tail.holds hit_in hit_well

    h : Holds W source m
    h = needed_holds W source first miss (is_too_far miss (len first) first) first_h miss_in miss_well

    heights : m.heights ≡ t.heights
    heights = needed_heights first miss (is_too_far miss (len first) first) ∙ needed_heights t hit (is_first_far hit miss t)

    ins : Ins
    ins = record { code = code_of (Branch test operand); jt = jt; jf = jf; k = k }

    x : Ins
    x = branch_to test operand k hit miss m

    u : TailTree
    u = with_place (with_ins x m)

    spans : Spans t hit miss (span jt (sizes_of source)) (span jf (sizes_of source))
    spans = record {
      hit_kept = reached_above t hit (reach t hit) (tail.holds.reaches hit hit_in);
      miss_kept = reached_above t miss (reach t miss) (tail.holds.reaches miss miss_in);
      hit_far = tail.short jt;
      miss_far = tail.short jf;
    }

    size : len m + 1 ≤ size_of (op_of ins.code) ins (sizes_of source) + len t
    size =
        let few = islands_few t hit miss (span jt (sizes_of source)) (span jf (sizes_of source)) spans (omega (arith, tail.holds.reached)) (reached_below t hit (reach t hit) (tail.holds.below hit hit_in) (tail.holds.reaches hit hit_in)) in
        let e = branch_size (op_of ins.code) test operand ins (sizes_of source) (row_of_code (Branch test operand)) in
        omega arith

    leads : (i : ℕ) → i ≤ length source → LeadsTo u i (len m) (len m - reach m i)
    leads i inside =
        let small = reached_below m i (reach m i) (h.below i inside) (h.reaches i inside) in
        (reach m i, reached_on m u (put_extends m x) i (reach m i) (omega (arith, h.long)) (h.reaches i inside), omega arith)

    put : PutAt u (Some (Branch test operand)) ins (length source) (len m)
    put = (len m - reach m hit, len m - reach m miss, slice_get-seam m.program [] x, leads hit hit_in, leads miss miss_in)
