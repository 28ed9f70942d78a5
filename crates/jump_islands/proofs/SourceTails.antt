-- The instructions of a source program, from the last one on.
use Rattle.std.proofs.Common.{◌≡◌, ℕ, ◌+◌, ◌-◌, ◌<◌, ◌≤◌, true, List, [], ◌∷◌, ◌++◌, length, Some, get_or, take, drop, map, reverse, inl, refl, sym, ap, ◌∙◌, arith, subst, add-one}
use Rattle.std.proofs.lemmas.List.{length-append, map-append, reverse-append, take-append-drop}
use Rattle.std.proofs.lemmas.List.Sums.{sum_by-take-le, sum_by-cons}
use Rattle.std.proofs.Math.ListN.{length-reverse}
use Rattle.std.proofs.Math.Seq.{take-suc, take-length}
use Rattle.std.specs.List.{slice_get}
use Rattle.bpf_code.specs.declared.instruction.Ins.{Ins}
use Rattle.bpf_code.specs.declared.operation.Op.TheVariants.{Branch as BranchOp}
use Rattle.bpf_code.specs.declared.operation.Test.{Test}
use Rattle.bpf_code.specs.declared.operation.Operand.{Operand}
use Rattle.bpf_code.specs.Program.{IsFine}
use Rattle.bpf_code.specs.Steps.{start}
use Rattle.bpf_code.specs.Table.{op_of}
use Rattle.bpf_code.proofs.OneTable.{row_of_code}
use Rattle.jump_islands.specs.declared.error.LowerError.{LowerError}
use Rattle.jump_islands.specs.declared.error.LowerError.TheVariants.{TooMany, NoMemory}
use Rattle.jump_islands.specs.declared.source_ins.SourceIns.{SourceIns}
use Rattle.jump_islands.specs.declared.source_ins.SourceIns.TheVariants.{Plain, Branch, Jump}
use Rattle.jump_islands.specs.Lowering.{IsTarget, IsTargetRefusal}
use Rattle.jump_islands.specs.PlainLength.{size_of, sizes_of, plain_length}
use Rattle.jump_islands.specs.Source.{jump_over, branch_over, AreWellMade}
use Rattle.jump_islands.specs.SourceItems.{as_ins, source_of, is_plain_source, are_plain_sources}
use Rattle.jump_islands.specs.Tails.{TailTree, len, height, reach, jump_to, with_ins, with_place, with_islands, with_branch, with_source, IsPlace, ArePlaces}
use Rattle.jump_islands.proofs.ListPlaces.{slice_get-seam, all_at}
use Rattle.jump_islands.proofs.TailFacts.{IsTail, reached_below}
use Rattle.jump_islands.proofs.TailLines.{plain_tail, jump_tail, branch_tail}
use Rattle.jump_islands.proofs.SourceRuns.{Lowers, tied_start, ends_on, only_on}
use Rattle.jump_islands.proofs.SourcePaths.{well_formed}

-- ---- the source program, cut

joined : (xs ys : List SourceIns) → source_of (xs ++ ys) ≡ source_of ys ++ source_of xs
joined xs ys = ap (map as_ins) (reverse-append xs ys) ∙ map-append as_ins (reverse ys) (reverse xs)

-- one more instruction
more : (instructions : List SourceIns) (n : ℕ) (d : SourceIns) → n < length instructions → source_of (take (n + 1) instructions) ≡ as_ins (get_or instructions n d) ∷ source_of (take n instructions)
more instructions n d inside =
    ap (λ (i : ℕ). source_of (take i instructions)) (add-one n) ∙ ap source_of (take-suc instructions n d inside) ∙ joined (take n instructions) (get_or instructions n d ∷ [])

-- those that are left stand in front of those that are done
left : (instructions : List SourceIns) (n : ℕ) → source_of instructions ≡ source_of (drop n instructions) ++ source_of (take n instructions)
left instructions n = ap source_of (sym (take-append-drop n instructions)) ∙ joined (take n instructions) (drop n instructions)

-- ---- one more instruction

-- the targets of a well made program are inside
inside : (source front done : List Ins) (test : Test) (operand : Operand) (k hit miss : ℕ) → source ≡ front ++ branch_over test operand k hit miss ∷ done → AreWellMade source → (0 < length done - hit) × (0 < length done - miss)
inside source front done test operand k hit miss e well =
    let ins : Ins = branch_over test operand k hit miss in
    let size : length source ≡ length front + (length done + 1) = ap length e ∙ length-append front (ins ∷ done) ∙ omega arith in
    let at : slice_get source (length front) ≡ Some ins = ap (λ (code : List Ins). slice_get code (length front)) e ∙ slice_get-seam front done ins in
    let fine : IsFine (length source) (length front) (BranchOp test operand) ins = rw (at, row_of_code (BranchOp test operand)) at (well.fine (length front) (omega arith)) in
    let jump : (length front + 1 + hit < length source) × (length front + 1 + miss < length source) = fine.jump in
    let a = jump.0 in
    let b = jump.1 in
    (omega arith, omega arith)

-- the places are those of the tail
at_places : (W : Type 0) (done : List Ins) (t : TailTree) (P : ℕ → Type 0) → IsTail W done t → P (length done) → P (length t.heights - 1)
at_places W done t P tail p =
    let e : length done ≡ length t.heights - 1 = omega (arith, tail.holds.long) in subst P e p

ins_tail : (source front done : List Ins) (ins : SourceIns) (t : TailTree) → IsTail (AreWellMade source) done t → source ≡ front ++ as_ins ins ∷ done → is_plain_source ins ≡ true → IsTail (AreWellMade source) (as_ins ins ∷ done) (with_source ins t)
ins_tail source front done (Plain ins) t tail e plain = plain_tail (AreWellMade source) done t ins tail plain
ins_tail source front done (Branch test operand k hit miss) t tail e plain =
    at_places (AreWellMade source) done t (λ (n : ℕ). IsTail (AreWellMade source) (branch_over test operand k hit miss ∷ done) (with_place (with_branch test operand k (n - hit) (n - miss) (with_islands (n - hit) (n - miss) t)))) tail (branch_tail (AreWellMade source) done t test operand k hit miss tail (λ well. (inside source front done test operand k hit miss e well).0) (λ well. (inside source front done test operand k hit miss e well).1))
ins_tail source front done (Jump over) t tail e plain =
    at_places (AreWellMade source) done t (λ (n : ℕ). IsTail (AreWellMade source) (jump_over over ∷ done) (with_place (with_ins (jump_to (n - over) t) t))) tail (jump_tail (AreWellMade source) done t over tail)

-- ---- a tail of some instructions

pub record Done (instructions : List SourceIns) (n : ℕ) (t : TailTree) : Type 0 where
  pub tail : IsTail (AreWellMade (source_of instructions)) (source_of (take n instructions)) t
  pub few : len t ≤ 4096

pub done_tail : (instructions : List SourceIns) (n : ℕ) (t : TailTree) (d : SourceIns) → Done instructions n t → n < length instructions → are_plain_sources instructions ≡ true → IsTail (AreWellMade (source_of instructions)) (source_of (take (n + 1) instructions)) (with_source (get_or instructions n d) t)
done_tail instructions n t d h inside plain =
    let e = more instructions n d inside in
    rw e (ins_tail (source_of instructions) (source_of (drop (n + 1) instructions)) (source_of (take n instructions)) (get_or instructions n d) t h.tail (left instructions (n + 1) ∙ ap (λ (code : List Ins). source_of (drop (n + 1) instructions) ++ code) e) (all_at is_plain_source instructions n d plain inside))

pub done_places : (instructions : List SourceIns) (n : ℕ) (t : TailTree) → Done instructions n t → ArePlaces t
done_places instructions n t h = record { each = λ over. place_ok (length t.heights - 1 - over) (omega (arith, h.tail.holds.long)) }
  where
    place_ok : (i : ℕ) → i ≤ length (source_of (take n instructions)) → IsPlace t i
    place_ok i small = record {
      within = omega (arith, h.tail.holds.long);
      reached = omega (arith, h.tail.holds.reached);
      bounded = h.tail.holds.below i small;
      kept = reached_below t i (reach t i) (h.tail.holds.below i small) (h.tail.holds.reaches i small);
    }

-- ---- at the end

-- no tail is longer than without sharing
plain_from : (W : Type 0) (source : List Ins) (t : TailTree) → IsTail W source t → len t ≤ plain_length source
plain_from W source t tail =
    let s = tail.short (length source) in
    let e : length source - length source ≡ 0 = omega arith in
    let z : height t (length source - length source) ≡ 0 = rw e tail.holds.last in
    omega (arith, sum_by-take-le (λ (size : ℕ). size) (sizes_of source) (length source))

pub lowered : (source : List Ins) (instructions : List SourceIns) (n : ℕ) (t : TailTree) → n ≡ length instructions → source_of instructions ≡ source → Done instructions n t → IsTarget source (reverse t.program)
lowered source instructions n t e same h =
    let all : source_of (take n instructions) ≡ source = ap (λ (i : ℕ). source_of (take i instructions)) e ∙ ap source_of (take-length instructions) ∙ same in
    let tail : IsTail (AreWellMade source) source t = subst (λ (code : List Ins). IsTail (AreWellMade code) source t) same (subst (λ (code : List Ins). IsTail (AreWellMade (source_of instructions)) code t) all h.tail) in
    let low : Lowers source t = record { last = tail.holds.last; lowered = tail.holds.lowered; top = tail.top } in
    let tied = tied_start source t low in
    record {
      ends = λ image v n ends. ends_on source t image v n start 0 low (inl tied) ends;
      only = λ image v n ends. only_on source t image v n start 0 low (inl tied) ends;
      accepted = λ well. well_formed source t tail low h.few well;
      few = omega (arith, h.few, length-reverse t.program);
      short = omega (arith, length-reverse t.program, plain_from (AreWellMade source) source t tail);
    }

-- the last instructions are no longer than all
plain_more : (front done : List Ins) → plain_length done ≤ plain_length (front ++ done)
plain_more [] done = omega arith
plain_more (ins ∷ front) done =
    omega (arith, plain_more front done, sum_by-cons (λ (size : ℕ). size) (size_of (op_of ins.code) ins (sizes_of (front ++ done))) (sizes_of (front ++ done)))

pub refused : (source : List Ins) (instructions : List SourceIns) (n : ℕ) (t : TailTree) (error : LowerError) → source_of instructions ≡ source → IsTail (AreWellMade (source_of instructions)) (source_of (take n instructions)) t → (error ≡ TooMany → 4096 < len t) → IsTargetRefusal source error
refused source instructions n t TooMany same tail many =
    let a = plain_from (AreWellMade (source_of instructions)) (source_of (take n instructions)) t tail in
    let b = plain_more (source_of (drop n instructions)) (source_of (take n instructions)) in
    let c : source ≡ source_of (drop n instructions) ++ source_of (take n instructions) = sym same ∙ left instructions n in
    let m = many refl in
    rw c (omega arith)
refused source instructions n t NoMemory same tail many = tt
