-- The piece that compares an argument's number with an integer is so short that each target in it is near: of its jumps
-- none but the two to the exits may need an island.
use Rattle.std.proofs.Common.{◌≡◌, ℕ, zero, suc, ◌+◌, ◌-◌, ◌*◌, ◌/◌, ◌%◌, ◌^◌, ◌≤◌, Bool, true, false, List, [], ◌∷◌, ◌++◌, length, refl, sym, ap, arith, subst}
use Rattle.std.specs.Prelude.{take, if◌then◌else◌}
use Rattle.std.specs.Int.{byte_at}
use Rattle.std.proofs.lemmas.List.{length-append}
use Rattle.std.proofs.lemmas.List.Sums.{sum_by-cons}
use Rattle.bpf_code.specs.declared.instruction.Ins.{Ins}
use Rattle.bpf_code.specs.declared.operation.Test.{Test}
use Rattle.bpf_code.specs.declared.operation.Test.TheVariants.{Equal, Above, AtLeast, SharesBit}
use Rattle.bpf_code.specs.declared.operation.Width.{Width}
use Rattle.bpf_code.specs.declared.operation.Width.TheVariants.{Word, Half, Byte}
use Rattle.bpf_code.specs.Table.{op_of}
use Rattle.jump_islands.specs.PlainLength.{is_far, count, span, size_of, sizes_of}
use Rattle.jump_islands.specs.Source.{jump_over}
use Rattle.message_value.specs.declared.order.Order.{Order}
use Rattle.message_value.specs.declared.order.Order.TheVariants.{Little, Big}
use Rattle.rule_compile.specs.Code.{image_word, load_indexed, index_from_a, branch}
use Rattle.summary.specs.Layout.{order_place, argument_place}
use Rattle.filter.specs.declared.integer.Integer.{Integer}
use Rattle.filter.specs.declared.integer.Integer.TheVariants.{Natural, Negative}
use Rattle.filter.specs.declared.test.Equality.{Equality}
use Rattle.filter.specs.declared.test.Equality.TheVariants as equalities
use Rattle.filter.specs.declared.test.NumberRelation.{NumberRelation}
use Rattle.filter.specs.declared.test.NumberRelation.TheVariants as numbers
use Rattle.filter.specs.Weights.{arg_weight}
use Rattle.filter_compile.specs.ArgCode.{rung_code, ladder, wide, bits_of, is_inside, outside, way, sign_step, sign_ways, top_at, signs, Sized, littles, bigs, code_of, dispatch, unsigned_types, signed_types, typed, fails_jump, jumps, near_exits, compared, arg_number}
use Rattle.filter_compile.specs.Entered.{Entered}
use Rattle.filter_compile.specs.Pieces.{over, fork, word_test, indexed_test, holds_next, fails_next}
use Rattle.filter_compile.specs.TestCode.{exits_for, comparison_of, equality_of}
use Rattle.filter_compile.specs.declared.integer_type.IntegerType.{IntegerType}
use Rattle.filter_compile.specs.declared.exits.Exits.{Exits}
use Rattle.rule_compile.proofs.Lengths.{total, total_cons, branch_total}
use Rattle.filter_compile.proofs.TypeIntegers.{less_false}

-- how many instructions a digit takes, and a sign
abbrev pub steps : Test → ℕ
steps Equal = 2
steps SharesBit = 2
steps _ = 4

abbrev pub sign_steps : Test → ℕ
sign_steps Equal = 0
sign_steps SharesBit = 0
sign_steps _ = 2

few_steps : (test : Test) → steps test ≤ 4
few_steps Equal = omega arith
few_steps _ = omega arith

few_signs : (test : Test) → sign_steps test ≤ 2
few_signs Equal = omega arith
few_signs _ = omega arith

-- how many the higher digits take
abbrev rungs : ℕ → ℕ → ℕ
rungs zero s = 0
rungs (suc j) s = s + rungs j s

few_rungs : (j s : ℕ) → s ≤ 4 → rungs j s ≤ 4 * j
few_rungs zero s le = omega arith
few_rungs (suc j) s le = let h = few_rungs j s le in omega (arith, h, le)

-- what a jump goes over
span_zero : (sizes : List ℕ) → span 0 sizes ≡ 0
span_zero [] = refl
span_zero (size ∷ sizes) = refl

span_front : (front rest : List Ins) (hit : ℕ) → hit ≤ length front → span hit (sizes_of (front ++ rest)) + total rest ≤ total (front ++ rest)
span_front [] rest zero le = omega (arith, span_zero (sizes_of rest))
span_front [] rest (suc hit) le = absurd (omega (arith, le))
span_front (ins ∷ more) rest zero le =
    omega (arith, span_zero (sizes_of (more ++ rest)), span_front more rest zero (omega arith), total_cons ins (more ++ rest))
span_front (ins ∷ more) rest (suc hit) le =
    let size = size_of (op_of ins.code) ins (sizes_of (more ++ rest)) in
    let e : span (suc hit) (size ∷ sizes_of (more ++ rest)) ≡ size + span hit (sizes_of (more ++ rest)) = sum_by-cons (λ size. size) size (take hit (sizes_of (more ++ rest))) in
    omega (arith, e, span_front more rest hit (omega (arith, le)), total_cons ins (more ++ rest))

near_count : (a b : ℕ) → a ≤ 255 → b ≤ 255 → count (is_far a b) ≡ 0
near_count a b first second =
    let p = (less_false 255 a).1 first in
    let q = (less_false 255 b).1 second in
    rw (p, q) refl

-- a place in front of the rest
over_near : (code rest : List Ins) (place : ℕ) → length rest ≤ place → over code place ≤ length code - length rest
unfolding over
over_near code rest place fine = omega (arith, fine)

-- A code in front of the rest, longer by at most n instructions, islands among them.
record Near (rest code : List Ins) (n : ℕ) : Type 0 where
  front : List Ins
  is : code ≡ front ++ rest
  size : total code ≤ n + total rest

module _ (rest : List Ins) where
  -- a place in front of the rest
  abbrev Fine : ℕ → Type 0
  Fine entry = length rest ≤ entry

  abbrev FineExits : Exits → Type 0
  FineExits exits = Fine exits.holds × Fine exits.fails

  at_most : (code : List Ins) (a b : ℕ) → Near rest code a → a ≤ b → Near rest code b
  at_most code a b near le = let size = near.size in record { front = near.front; is = near.is; size = omega (arith, size, le) }

  long : (code : List Ins) (n : ℕ) → Near rest code n → Fine (length code)
  long code n near = let is = near.is in omega (arith, ap length is, length-append near.front rest)

  span_near : (code : List Ins) (n hit : ℕ) → Near rest code n → hit ≤ length code - length rest → span hit (sizes_of code) ≤ n
  span_near code n hit near le =
      let is = near.is in
      let size = near.size in
      let h : span hit (sizes_of code) + total rest ≤ total code = subst (λ (c : List Ins). span hit (sizes_of c) + total rest ≤ total c) (sym is) (span_front near.front rest hit (omega (arith, ap length is, length-append near.front rest, le))) in
      omega (arith, h, size)

  plain_near : (ins : Ins) (code : List Ins) (n : ℕ) → Near rest code n → size_of (op_of ins.code) ins (sizes_of code) ≡ 1 → Near rest (ins ∷ code) (n + 1)
  plain_near ins code n near one = let size = near.size in record {
    front = ins ∷ near.front;
    is = ap (λ (c : List Ins). ins ∷ c) near.is;
    size = omega (arith, total_cons ins code, one, size);
  }

  fork_near : (test : Test) (k : ℕ) (exits : Exits) (code : List Ins) (n : ℕ) → FineExits exits → Near rest code n → n ≤ 255 → Near rest (fork test k exits code) (n + 1)
  fork_near test k exits code n fine near small =
      let size = near.size in
      let hit = over code exits.holds in
      let miss = over code exits.fails in
      let a = span_near code n hit near (over_near code rest exits.holds fine.0) in
      let b = span_near code n miss near (over_near code rest exits.fails fine.1) in
      let p : span hit (sizes_of code) ≤ 255 = omega (arith, a, small) in
      let q : span miss (sizes_of code) ≤ 255 = omega (arith, b, small) in record {
        front = branch test k hit miss ∷ near.front;
        is = ap (λ (c : List Ins). branch test k hit miss ∷ c) near.is;
        size = omega (arith, branch_total test k hit miss code, near_count _ _ p q, near_count _ _ q p, size);
      }

  word_near : (at : ℕ) (test : Test) (k : ℕ) (exits : Exits) (code : List Ins) (n : ℕ) → FineExits exits → Near rest code n → n ≤ 255 → Near rest (word_test at test k exits code) (n + 2)
  word_near at test k exits code n fine near small =
      at_most (word_test at test k exits code) (n + 1 + 1) (n + 2) (plain_near (image_word at) (fork test k exits code) (n + 1) (fork_near test k exits code n fine near small) refl) (omega arith)

  indexed_near : (width : Width) (at : ℕ) (test : Test) (k : ℕ) (exits : Exits) (code : List Ins) (n : ℕ) → FineExits exits → Near rest code n → n ≤ 255 → Near rest (indexed_test width at test k exits code) (n + 2)
  indexed_near width at test k exits code n fine near small =
      at_most (indexed_test width at test k exits code) (n + 1 + 1) (n + 2) (plain_near (load_indexed width at) (fork test k exits code) (n + 1) (fork_near test k exits code n fine near small) (one width)) (omega arith)
    where
      one : (width : Width) → size_of (op_of (load_indexed width at).code) (load_indexed width at) (sizes_of (fork test k exits code)) ≡ 1
      one Byte = refl
      one Half = refl
      one Word = refl

  -- ---- digits

  rung_near : (test : Test) (width : Width) (at key : ℕ) (exits : Exits) (code : List Ins) (n : ℕ) → FineExits exits → Near rest code n → n ≤ 250 → Near rest (rung_code test width at key exits code) (n + steps test)
  rung_near Equal width at key exits code n fine near small =
      indexed_near width at Equal key (holds_next exits code) code n (long code n near, fine.1) near (omega (arith, small))
  rung_near SharesBit width at key exits code n fine near small =
      indexed_near width at SharesBit key (fails_next exits code) code n (fine.0, long code n near) near (omega (arith, small))
  rung_near test width at key exits code n fine near small =
      let same = indexed_test width at Equal key (holds_next exits code) code in
      let first = indexed_near width at Equal key (holds_next exits code) code n (long code n near, fine.1) near (omega (arith, small)) in
      at_most (rung_code test width at key exits code) (n + 2 + 2) (n + 4) (indexed_near width at Above key (fails_next exits same) same (n + 2) (fine.0, long same (n + 2) first) first (omega (arith, small))) (omega arith)

  ladder_near : (test : Test) (bits j : ℕ) (exits : Exits) (code : List Ins) (n : ℕ) → FineExits exits → Near rest code n → n + 4 * j ≤ 240 → Near rest (ladder test bits j exits code) (n + 2 + rungs j (steps test))
  ladder_near test bits zero exits code n fine near small =
      at_most (ladder test bits 0 exits code) (n + 2) (n + 2 + rungs 0 (steps test)) (indexed_near Byte 0 test (byte_at 0 bits) exits code n fine near (omega (arith, small))) (omega arith)
  ladder_near test bits (suc j) exits code n fine near small =
      let lower = ladder_near test bits j exits code n fine near (omega (arith, small)) in
      let few = few_rungs j (steps test) (few_steps test) in
      at_most (ladder test bits (suc j) exits code) (n + 2 + rungs j (steps test) + steps test) (n + 2 + rungs (suc j) (steps test))
      (rung_near test Byte (suc j) (byte_at (suc j) bits) exits (ladder test bits j exits code) (n + 2 + rungs j (steps test)) fine lower (omega (arith, small, few))) (omega arith)

  -- ---- the signs, and the types

  fine_ways : (value : Integer) (exits : Exits) (entry : ℕ) → FineExits exits → Fine entry → FineExits (sign_ways value exits entry)
  fine_ways (Natural v) exits entry fine here = (fine.1, here)
  fine_ways (Negative v) exits entry fine here = (here, fine.0)

  sign_near : (test : Test) (value : Integer) (at : ℕ) (exits : Exits) (entry : ℕ) (code : List Ins) (n : ℕ) → FineExits exits → Fine entry → Near rest code n → n ≤ 250 → Near rest (sign_step test value at exits entry code).code (n + sign_steps test) × Fine (sign_step test value at exits entry code).entry
  sign_near Equal value at exits entry code n fine here near small = (at_most code n (n + 0) near (omega arith), here)
  sign_near SharesBit value at exits entry code n fine here near small = (at_most code n (n + 0) near (omega arith), here)
  sign_near _ value at exits entry code n fine here near small =
      let all = indexed_near Byte at AtLeast 128 (sign_ways value exits entry) code n (fine_ways value exits entry fine here) near (omega (arith, small)) in (all, long _ (n + 2) all)

  fine_if : (b : Bool) (x y : ℕ) → Fine x → Fine y → Fine (if b then x else y)
  fine_if true x y p q = p
  fine_if false x y p q = q

  fine_outside : (test : Test) (value : Integer) (exits : Exits) → FineExits exits → Fine (outside test value exits)
  fine_outside Equal value exits fine = fine.1
  fine_outside _ (Natural v) exits fine = fine.1
  fine_outside _ (Negative v) exits fine = fine.0

  fine_way : (test : Test) (code : ℕ) (value : Integer) (exits : Exits) (entry : ℕ) → FineExits exits → Fine entry → Fine (way test code value exits entry)
  fine_way SharesBit code (Natural v) exits entry fine here = here
  fine_way SharesBit code (Negative v) exits entry fine here = fine.1
  fine_way test code value exits entry fine here = fine_if (is_inside code value) entry (outside test value exits) here (fine_outside test value exits fine)

  abbrev FineTypes : List (IntegerType × ℕ) → Type 0
  FineTypes [] = Unit {0}
  FineTypes (t ∷ ts) = Fine t.1 × FineTypes ts

  dispatch_near : (at : ℕ) (test : Test) (value : Integer) (exits : Exits) (ts : List (IntegerType × ℕ)) (other : Entered) (n : ℕ) → FineExits exits → FineTypes ts → Fine other.entry → Near rest other.code n → n + 2 * length ts ≤ 250 → Near rest (dispatch at test value exits ts other).code (n + 2 * length ts) × Fine (dispatch at test value exits ts other).entry
  dispatch_near at test value exits [] other n fine types here near small = (at_most other.code n (n + 2 * 0) near (omega arith), here)
  dispatch_near at test value exits (t ∷ ts) other n fine types here near small =
      let later = dispatch_near at test value exits ts other n fine types.1 here near (omega (arith, small)) in
      let next = dispatch at test value exits ts other in
      let ways : Exits = record { holds = way test (code_of t.0) value exits t.1; fails = next.entry } in
      let all = word_near (argument_place at) Equal (code_of t.0) ways next.code (n + 2 * length ts) (fine_way test (code_of t.0) value exits t.1 fine types.0, later.1) later.0 (omega (arith, small)) in
      (at_most _ (n + 2 * length ts + 2) (n + 2 * suc (length ts)) all (omega arith), long _ _ all)

  record FineSizes (s : Sized) : Type 0 where
    one : Fine s.sizes.one
    two : Fine s.sizes.two
    four : Fine s.sizes.four
    eight : Fine s.sizes.eight

  typed_near : (at : ℕ) (test : Test) (value : Integer) (order : Order) (exits : Exits) (other : ℕ) (s : Sized) (n : ℕ) → FineExits exits → Fine other → FineSizes s → Near rest s.code n → n ≤ 200 → Near rest (typed at test value order exits other s).code (n + 3 * sign_steps test + 16) × Fine (typed at test value order exits other s).entry
  typed_near at test value order exits other s n fine here sizes near small =
      let g = sign_steps test in
      let few = few_signs test in
      let two = sign_step test value (top_at order 2) exits s.sizes.two s.code in
      let four = sign_step test value (top_at order 4) exits s.sizes.four two.code in
      let eight = sign_step test value (top_at order 8) exits s.sizes.eight four.code in
      let a = sign_near test value (top_at order 2) exits s.sizes.two s.code n fine sizes.two near (omega (arith, small)) in
      let b = sign_near test value (top_at order 4) exits s.sizes.four two.code (n + g) fine sizes.four a.0 (omega (arith, small, few)) in
      let c = sign_near test value (top_at order 8) exits s.sizes.eight four.code (n + g + g) fine sizes.eight b.0 (omega (arith, small, few)) in
      let signed = signs test value order exits s in
      let d = dispatch_near at test value exits (signed_types signed.sizes) (record { code = signed.code; entry = other }) (n + g + g + g) fine (a.1, (b.1, (c.1, tt))) here c.0 (omega (arith, small, few)) in
      let later = dispatch at test value exits (signed_types signed.sizes) (record { code = signed.code; entry = other }) in
      let e = dispatch_near at test value exits (unsigned_types s.sizes) later (n + g + g + g + 6) fine (sizes.one, (sizes.four, (sizes.two, (sizes.four, (sizes.eight, tt))))) d.1 d.0 (omega (arith, small, few)) in
      (at_most _ (n + g + g + g + 6 + 10) (n + 3 * g + 16) e.0 (omega arith), e.1)

  -- ---- the whole

  littles_near : (test : Test) (bits : ℕ) (exits : Exits) (code : List Ins) (n : ℕ) → FineExits exits → Near rest code n → n ≤ 10 → Near rest (littles test bits exits code).code (n + 2 + 7 * steps test) × FineSizes (littles test bits exits code)
  littles_near test bits exits code n fine near small =
      let one = ladder_near test bits 0 exits code n fine near (omega (arith, small)) in
      let two = ladder_near test bits 1 exits code n fine near (omega (arith, small)) in
      let four = ladder_near test bits 3 exits code n fine near (omega (arith, small)) in
      let eight = ladder_near test bits 7 exits code n fine near (omega (arith, small)) in
      let s = steps test in
      let e : rungs 7 s ≡ s + (s + (s + (s + (s + (s + (s + 0)))))) = refl in
      (at_most (ladder test bits 7 exits code) (n + 2 + rungs 7 s) (n + 2 + 7 * s) eight (omega (arith, e)), record { one = long _ _ one; two = long _ _ two; four = long _ _ four; eight = long _ _ eight })

  bigs_near : (test : Test) (bits : ℕ) (exits : Exits) (one : ℕ) (code : List Ins) (n : ℕ) → FineExits exits → Fine one → Near rest code n → n ≤ 150 → Near rest (bigs test bits exits one code).code (n + steps test + 6) × FineSizes (bigs test bits exits one code)
  bigs_near test bits exits one code n fine here near small =
      let few = few_steps test in
      let low = indexed_test Word 4 test (bits % 2 ^ 32) exits code in
      let first = indexed_near Word 4 test (bits % 2 ^ 32) exits code n fine near (omega (arith, small)) in
      let eight = wide test bits exits code in
      let a = rung_near test Word 0 (bits / 2 ^ 32) exits low (n + 2) fine first (omega (arith, small)) in
      let four = indexed_test Word 0 test (bits % 2 ^ 32) exits eight in
      let b = indexed_near Word 0 test (bits % 2 ^ 32) exits eight (n + 2 + steps test) fine a (omega (arith, small, few)) in
      let two = indexed_test Half 0 test (bits % 2 ^ 16) exits four in
      let c = indexed_near Half 0 test (bits % 2 ^ 16) exits four (n + 2 + steps test + 2) fine b (omega (arith, small, few)) in
      (at_most two (n + 2 + steps test + 2 + 2) (n + steps test + 6) c (omega arith), record { one = here; two = long two _ c; four = long four _ b; eight = long eight _ a })

  jumps_near : (exits : Exits) → Near rest (jumps exits rest) 2
  jumps_near exits =
      let none : Near rest rest 0 = record { front = []; is = refl; size = omega arith } in
      let one = plain_near (jump_over (over rest exits.fails)) rest 0 none refl in
      at_most (jumps exits rest) (0 + 1 + 1) 2 (plain_near (jump_over (over (fails_jump exits rest) exits.holds)) (fails_jump exits rest) (0 + 1) one refl) (omega arith)

  fine_for : (equality : Equality) (exits : Exits) → FineExits exits → FineExits (exits_for equality exits)
  fine_for equalities.Equal exits fine = fine
  fine_for equalities.Unequal exits fine = (fine.1, fine.0)

  piece_near : (at : ℕ) (relation : NumberRelation) (value : Integer) (exits : Exits) → Near rest (arg_number at relation value exits rest) (46 + 8 * steps (comparison_of relation) + 6 * sign_steps (comparison_of relation))
  piece_near at relation value exits =
      let test = comparison_of relation in
      let s = steps test in
      let g = sign_steps test in
      let few = few_steps test in
      let fewer = few_signs test in
      let base = jumps exits rest in
      let near = near_exits exits rest in
      let chosen = exits_for (equality_of relation) near in
      let from = jumps_near exits in
      let both : FineExits near = (omega arith, omega arith) in
      let fine = fine_for (equality_of relation) near both in
      let bits = bits_of value in
      let plain = littles test bits chosen base in
      let a = littles_near test bits chosen base 2 fine from (omega arith) in
      let little = typed at test value Little chosen near.fails plain in
      let b = typed_near at test value Little chosen near.fails plain (2 + 2 + 7 * s) fine both.1 a.1 a.0 (omega (arith, few)) in
      let n : ℕ = 2 + 2 + 7 * s + 3 * g + 16 in
      let words = bigs test bits chosen plain.sizes.one little.code in
      let c = bigs_near test bits chosen plain.sizes.one little.code n fine a.1.one b.0 (omega (arith, few, fewer)) in
      let big = typed at test value Big chosen near.fails words in
      let d = typed_near at test value Big chosen near.fails words (n + s + 6) fine both.1 c.1 c.0 (omega (arith, few, fewer)) in
      let m : ℕ = n + s + 6 + 3 * g + 16 in
      let inner = compared at test value chosen near.fails base in
      let e = word_near order_place Equal 108 (record { holds = little.entry; fails = big.entry }) big.code m (b.1, d.1) d.0 (omega (arith, few, fewer)) in
      let f = plain_near index_from_a inner (m + 2) e refl in
      at_most _ (m + 2 + 1 + 1) (46 + 8 * s + 6 * g) (plain_near (image_word (argument_place at + 4)) (index_from_a ∷ inner) (m + 2 + 1) f refl) (omega arith)

weighs : (relation : NumberRelation) → 46 + 8 * steps (comparison_of relation) + 6 * sign_steps (comparison_of relation) ≤ arg_weight relation
weighs numbers.Equal = omega arith
weighs _ = omega arith

pub arg_number_total : (at : ℕ) (relation : NumberRelation) (value : Integer) (exits : Exits) (rest : List Ins) → total (arg_number at relation value exits rest) ≤ arg_weight relation + total rest
arg_number_total at relation value exits rest = let near = piece_near rest at relation value exits in let size = near.size in omega (arith, size, weighs relation)
