-- How long instructions are with their islands, and what the parts of a path weigh.
use Rattle.std.proofs.Common.{◌≡◌, ℕ, ◌+◌, ◌*◌, ◌≤◌, Bool, true, false, List, [], ◌∷◌, length, refl, arith}
use Rattle.std.specs.Prelude.{◌==◌, if◌then◌else◌}
use Rattle.std.proofs.Math.Nat.{mul-suc}
use Rattle.std.proofs.lemmas.Bool.Decides.{nat_tests}
use Rattle.std.proofs.lemmas.List.Sums.{sum_by-cons}
use Rattle.bpf_code.specs.declared.instruction.Ins.{Ins}
use Rattle.bpf_code.specs.declared.operation.Test.{Test}
use Rattle.bpf_code.specs.declared.operation.Test.TheVariants.{Equal}
use Rattle.bpf_code.specs.Table.{op_of}
use Rattle.jump_islands.specs.PlainLength.{is_far, count, span, size_of, sizes_of, plain_length}
use Rattle.match_rule.specs.RuleTree.{slashes}
use Rattle.rule_compile.specs.Code.{image_word, index_from_a, branch}
use Rattle.rule_compile.specs.Folders.{with_front, parts_of}
use Rattle.rule_compile.specs.RuleCode.{verdicts}

-- the length, which no tactic computes
pub total : List Ins → ℕ
total code = plain_length code

pub total_is : (code : List Ins) → total code ≡ plain_length code
unfolding total
total_is code = refl

pub total_cons : (ins : Ins) (rest : List Ins) → total (ins ∷ rest) ≡ size_of (op_of ins.code) ins (sizes_of rest) + total rest
unfolding total
total_cons ins rest = sum_by-cons (λ size. size) (size_of (op_of ins.code) ins (sizes_of rest)) (sizes_of rest)

pub verdicts_total : total verdicts ≡ 2
unfolding total
verdicts_total = refl

pub branch_total : (test : Test) (k hit miss : ℕ) (rest : List Ins) → total (branch test k hit miss ∷ rest) ≡ 1 + count (is_far (span hit (sizes_of rest)) (span miss (sizes_of rest))) + count (is_far (span miss (sizes_of rest)) (span hit (sizes_of rest))) + total rest
branch_total Equal k hit miss rest = total_cons (branch Equal k hit miss) rest
branch_total test k hit miss rest = total_cons (branch test k hit miss) rest

-- of two targets one of which is the next instruction at most the other is far
pub one_far : (a : ℕ) → count (is_far 0 a) + count (is_far a 0) ≤ 1
one_far a = grind (arith, nat_tests)

-- a load of a word into X
pub index_total : (at : ℕ) (rest : List Ins) → total (image_word at ∷ index_from_a ∷ rest) ≡ 2 + total rest
index_total at rest = omega (arith, total_cons (image_word at) (index_from_a ∷ rest), total_cons index_from_a rest)

pub choice_total : (b : Bool) (n : ℕ) (hit miss : List Ins) → total hit ≤ n → total miss ≤ n → total (if b then hit else miss) ≤ n
choice_total true n hit miss h m = h
choice_total false n hit miss h m = m

-- ---- paths

-- what the parts of a path weigh: their bytes, and so much for each
abbrev pub weight_of_parts : ℕ → List (List ℕ) → ℕ
weight_of_parts each [] = 0
weight_of_parts each (part ∷ parts) = length part + each + weight_of_parts each parts

front_weight : (each b : ℕ) (parts : List (List ℕ)) (n : ℕ) → weight_of_parts each parts ≤ n + each → weight_of_parts each (with_front b parts) ≤ n + each + 1
front_weight each b [] n h = omega arith
front_weight each b (part ∷ more) n h = omega arith

slashes_cons : (b : ℕ) (bs : List ℕ) → slashes (b ∷ bs) ≡ (if b == 47 then 1 else 0) + slashes bs
slashes_cons b bs = sum_by-cons (λ byte. if byte == 47 then 1 else 0) b bs

pub parts_weight : (each : ℕ) (value : List ℕ) → weight_of_parts each (parts_of value) ≤ length value + each * slashes value + each
parts_weight each [] = omega arith
parts_weight each (b ∷ bs) = rw (slashes_cons b bs) (go (b == 47) (parts_weight each bs))
  where
    go : (slash : Bool) → weight_of_parts each (parts_of bs) ≤ length bs + each * slashes bs + each → weight_of_parts each (if slash then (b ∷ []) ∷ parts_of bs else with_front b (parts_of bs)) ≤ length (b ∷ bs) + each * ((if slash then 1 else 0) + slashes bs) + each
    go true h = omega (arith, h, mul-suc each (slashes bs))
    go false h = omega (arith, front_weight each b (parts_of bs) (length bs + each * slashes bs) h)
