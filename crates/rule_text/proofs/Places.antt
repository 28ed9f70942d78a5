-- What stands at the places that are left, one after the other.
use Rattle.std.proofs.Common.{◌≡◌, ℕ, suc, ◌+◌, ◌-◌, ◌<◌, List, ◌++◌, refl, sym, ap, ◌∙◌, arith}
use Rattle.std.proofs.lemmas.List.{append_assoc}
use Rattle.match_rule.specs.RuleTree.{RuleTree}
use Rattle.rule_text.specs.RuleTexts.{parts_at, parts_from}

one_more : (rule : RuleTree) (place left : ℕ) → parts_from rule place (suc left) ≡ parts_at place rule ++ parts_from rule (suc place) left
one_more rule place left = refl

pub next_place : (rule : RuleTree) (written longer all : List ℕ) (place : ℕ) → place < 71 → written ++ parts_from rule place (71 - place) ≡ all → longer ≡ written ++ parts_at place rule → longer ++ parts_from rule (place + 1) (71 - (place + 1)) ≡ all
next_place rule written longer all place less is more =
    let left : 71 - place ≡ suc (71 - (place + 1)) = omega (arith, less) in
    let next : suc place ≡ place + 1 = omega arith in
    ap (λ (x : List ℕ). x ++ parts_from rule (place + 1) (71 - (place + 1))) more
    ∙ append_assoc written (parts_at place rule) (parts_from rule (place + 1) (71 - (place + 1)))
    ∙ ap (λ (x : List ℕ). written ++ x) (ap (λ (p : ℕ). parts_at place rule ++ parts_from rule p (71 - (place + 1))) (sym next) ∙ sym (one_more rule place (71 - (place + 1))) ∙ ap (parts_from rule place) (sym left))
    ∙ is
