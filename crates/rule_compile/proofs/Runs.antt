-- What a run does doesn't depend on what stands before the place that it is at. Hence runs from a program's
-- first instruction on, one instruction at a time.
use Rattle.std.proofs.Common.{◌≡◌, ℕ, zero, suc, ◌+◌, ◌-◌, true, false, List, [], ◌∷◌, ◌++◌, length, Option, Some, None, refl, sym, ap, ◌∙◌, arith, subst}
use Rattle.std.proofs.lemmas.List.{length-append}
use Rattle.std.specs.Option.{IsSomeAnd, option_map, option_and_then}
use Rattle.std.specs.List.{slice_get}
use Rattle.bpf_code.specs.declared.instruction.Ins.{Ins}
use Rattle.bpf_code.specs.declared.operation.Op.{Op}
use Rattle.bpf_code.specs.declared.operation.Op.TheVariants.{LoadIndexed, Branch}
use Rattle.bpf_code.specs.declared.operation.Width.{Width}
use Rattle.bpf_code.specs.declared.operation.Operand.TheVariants.{Constant}
use Rattle.bpf_code.specs.declared.operation.Test.{Test}
use Rattle.bpf_code.specs.Table.{op_of}
use Rattle.bpf_code.proofs.OneTable.{row_of_code}
use Rattle.bpf_code.specs.Loads.{load, load_word}
use Rattle.bpf_code.specs.Effects.{Effect, SetA, SetX, SetWord, Skip, Finish, passes, effect_of}
use Rattle.bpf_code.specs.Steps.{State, with_word, after, step_at, Arrives, EndsFrom}
use Rattle.rule_compile.specs.Code.{image_word, load_indexed, index_from_a, returns, branch, want, settle}
use Rattle.rule_compile.proofs.Pieces.{RunsTo, Guarded}

-- ---- after a front

slice_get-exit : (front more : List Ins) (p : ℕ) → slice_get (front ++ more) (length front + p) ≡ slice_get more p
slice_get-exit [] more p = let e : 0 + p ≡ p = omega arith in ap (slice_get more) e
slice_get-exit (ins ∷ front) more p =
    let e : suc (length front) + p ≡ suc (length front + p) = omega arith in
    ap (slice_get (ins ∷ (front ++ more))) e ∙ slice_get-exit front more p

-- a configuration
abbrev pub state : ℕ → ℕ → ℕ → (ℕ → Option ℕ) → State
state p a x words = record { place = p; a = a; x = x; words = words }

-- what ends within n steps does so after the front
abbrev Later : List Ins → List Ins → List ℕ → ℕ → ℕ → Type 0
Later front more image v n =
    (p q a x : ℕ) (words : ℕ → Option ℕ) → q ≡ length front + p → EndsFrom more image v n (state p a x words)
    → EndsFrom (front ++ more) image v n (state q a x words)

arrives_after : (front more : List Ins) (image : List ℕ) (v n p a x : ℕ) (words : ℕ → Option ℕ) (k : ℕ) (effect : Effect) → Later front more image v n → Arrives (after (state p a x words) k effect) v n (EndsFrom more image v n) → Arrives (after (state (length front + p) a x words) k effect) v n (EndsFrom (front ++ more) image v n)
arrives_after front more image v n p a x words k (SetA w) later h =
    later (p + 1) (length front + p + 1) w x words (omega arith) h
arrives_after front more image v n p a x words k (SetX w) later h =
    later (p + 1) (length front + p + 1) a w words (omega arith) h
arrives_after front more image v n p a x words k (SetWord w) later h =
    later (p + 1) (length front + p + 1) a x (with_word words k w) (omega arith) h
arrives_after front more image v n p a x words k (Skip d) later h =
    later (p + 1 + d) (length front + p + 1 + d) a x words (omega arith) h
arrives_after front more image v n p a x words k (Finish w) later h = h

effect_after : (front more : List Ins) (image : List ℕ) (v n p a x : ℕ) (words : ℕ → Option ℕ) (k : ℕ) (o : Option Effect) → Later front more image v n → IsSomeAnd (option_map (after (state p a x words) k) o) (λ next. Arrives next v n (EndsFrom more image v n)) → IsSomeAnd (option_map (after (state (length front + p) a x words) k) o) (λ next. Arrives next v n (EndsFrom (front ++ more) image v n))
effect_after front more image v n p a x words k None later h = absurd h
effect_after front more image v n p a x words k (Some effect) later h =
    arrives_after front more image v n p a x words k effect later h

op_after : (front more : List Ins) (image : List ℕ) (v n p a x : ℕ) (words : ℕ → Option ℕ) (ins : Ins) (o : Option Op) → Later front more image v n → IsSomeAnd (option_and_then (λ op. option_map (after (state p a x words) ins.k) (effect_of op ins image a x (words ins.k))) o) (λ next. Arrives next v n (EndsFrom more image v n)) → IsSomeAnd (option_and_then (λ op. option_map (after (state (length front + p) a x words) ins.k) (effect_of op ins image a x (words ins.k))) o) (λ next. Arrives next v n (EndsFrom (front ++ more) image v n))
op_after front more image v n p a x words ins None later h = absurd h
op_after front more image v n p a x words ins (Some op) later h =
    effect_after front more image v n p a x words ins.k (effect_of op ins image a x (words ins.k)) later h

ins_after : (front more : List Ins) (image : List ℕ) (v n p a x : ℕ) (words : ℕ → Option ℕ) (o : Option Ins) → Later front more image v n → IsSomeAnd (option_and_then (λ ins. step_at ins image (state p a x words)) o) (λ next. Arrives next v n (EndsFrom more image v n)) → IsSomeAnd (option_and_then (λ ins. step_at ins image (state (length front + p) a x words)) o) (λ next. Arrives next v n (EndsFrom (front ++ more) image v n))
ins_after front more image v n p a x words None later h = absurd h
ins_after front more image v n p a x words (Some ins) later h =
    op_after front more image v n p a x words ins (op_of ins.code) later h

-- a run of the instructions after a front is one of the whole
ends_after : (front more : List Ins) (image : List ℕ) (v n : ℕ) → Later front more image v n
ends_after front more image v zero p q a x words e h = absurd h
ends_after front more image v (suc n) p q a x words e h =
    rw (e, slice_get-exit front more p) (ins_after front more image v n p a x words (slice_get more p) (ends_after front more image v n) h)

-- ---- one instruction

-- from the place after a front on
pub runs_after : (front more : List Ins) (image : List ℕ) (a x v d : ℕ) → length front ≡ d → RunsTo more image a x v → (n : ℕ) × EndsFrom (front ++ more) image v n (state d a x (λ k. None))
runs_after front more image a x v d is run =
    (run.0, ends_after front more image v run.0 0 d a x (λ k. None) (omega arith) run.1)

-- a load of the image's word
pub runs_image_word : (rest : List Ins) (image : List ℕ) (at w a x v : ℕ) → load_word image at ≡ Some w → RunsTo rest image w x v → RunsTo (image_word at ∷ rest) image a x v
runs_image_word rest image at w a x v is run =
    let later = runs_after (image_word at ∷ []) rest image w x v 1 refl run in
    (suc later.0, rw is later.1)

-- a load at an offset from X
pub runs_indexed : (rest : List Ins) (image : List ℕ) (width : Width) (k w a x v : ℕ) → load width image (x + k) ≡ Some w → RunsTo rest image w x v → RunsTo (load_indexed width k ∷ rest) image a x v
runs_indexed rest image width k w a x v is run =
    let later = runs_after (load_indexed width k ∷ []) rest image w x v 1 refl run in
    (suc later.0, rw (row_of_code (LoadIndexed width), is) later.1)

pub runs_index_from_a : (rest : List Ins) (image : List ℕ) (a x v : ℕ) → RunsTo rest image a a v → RunsTo (index_from_a ∷ rest) image a x v
runs_index_from_a rest image a x v run =
    let later = runs_after (index_from_a ∷ []) rest image a a v 1 refl run in (suc later.0, later.1)

-- an end
pub runs_returns : (rest : List Ins) (image : List ℕ) (a x v : ℕ) → RunsTo (returns v ∷ rest) image a x v
runs_returns rest image a x v = (1, (refl, refl))

-- A branch goes over the instructions of its first distance where the comparison holds, and over those of its second
-- where it doesn't.
pub runs_hit : (front exit : List Ins) (image : List ℕ) (test : Test) (k hit miss a x v : ℕ) → passes test a k ≡ true → length front ≡ hit → RunsTo exit image a x v → RunsTo (branch test k hit miss ∷ (front ++ exit)) image a x v
runs_hit front exit image test k hit miss a x v holds is run =
    let later = runs_after (branch test k hit miss ∷ front) exit image a x v (1 + hit) (omega arith) run in
    (suc later.0, rw (row_of_code (Branch test Constant), holds) later.1)

pub runs_miss : (front exit : List Ins) (image : List ℕ) (test : Test) (k hit miss a x v : ℕ) → passes test a k ≡ false → length front ≡ miss → RunsTo exit image a x v → RunsTo (branch test k hit miss ∷ (front ++ exit)) image a x v
runs_miss front exit image test k hit miss a x v fails is run =
    let later = runs_after (branch test k hit miss ∷ front) exit image a x v (1 + miss) (omega arith) run in
    (suc later.0, rw (row_of_code (Branch test Constant), fails) later.1)

-- ---- tests that end the run, and jumps past the piece

-- on to the next instruction where the comparison holds
pub runs_want : (rest : List Ins) (image : List ℕ) (test : Test) (k a x v : ℕ) → passes test a k ≡ true → RunsTo rest image a x v → RunsTo (want test k rest) image a x v
runs_want rest image test k a x v holds run =
    runs_hit [] rest image test k 0 (length rest - 1) a x v holds refl run

-- no match where it doesn't
pub stops_want : (rest : List Ins) (image : List ℕ) (test : Test) (k a x : ℕ) → Guarded rest → passes test a k ≡ false → RunsTo (want test k rest) image a x 0
stops_want rest image test k a x (front, is) fails =
    let e : length front ≡ length rest - 1 = omega (arith, ap length is, length-append front (returns 0 ∷ [])) in
    let run = runs_miss front (returns 0 ∷ []) image test k 0 (length rest - 1) a x 0 fails e (runs_returns [] image a x 0) in
    subst (λ (code : List Ins). RunsTo (branch test k 0 (length rest - 1) ∷ code) image a x 0) (sym is) run

-- a jump to the instructions after the piece where the test holds
pub runs_settle : (middle exit rest : List Ins) (image : List ℕ) (test : Test) (k a x v : ℕ) → rest ≡ middle ++ exit → passes test a k ≡ true → RunsTo exit image a x v → RunsTo (settle test k exit rest) image a x v
runs_settle middle exit rest image test k a x v is holds run =
    let e : length middle ≡ length rest - length exit = omega (arith, ap length is, length-append middle exit) in
    let on = runs_hit middle exit image test k (length rest - length exit) 0 a x v holds e run in
    subst (λ (code : List Ins). RunsTo (branch test k (length rest - length exit) 0 ∷ code) image a x v) (sym is) on

-- and on to the rest where it doesn't
pub stays_settle : (exit rest : List Ins) (image : List ℕ) (test : Test) (k a x v : ℕ) → passes test a k ≡ false → RunsTo rest image a x v → RunsTo (settle test k exit rest) image a x v
stays_settle exit rest image test k a x v fails run =
    runs_miss [] rest image test k (length rest - length exit) 0 a x v fails refl run
