-- A written rule is empty, or begins with the comma of its first part.
use Rattle.std.proofs.Common.{◌≡◌, ◌⊎◌, ℕ, zero, suc, inl, inr, List, [], ◌∷◌, ◌++◌, drop, codes, Bool, true, false, ◌==◌, refl, sym, ap, ◌∙◌, if◌then◌else◌}
use Rattle.std.specs.List.{flat_map}
use Rattle.match_rule.specs.declared.condition.Condition.{Condition}
use Rattle.match_rule.specs.Condition.{key_of}
use Rattle.match_rule.specs.RuleTree.{RuleTree}
use Rattle.rule_text.specs.RuleTexts.{condition_text, place_of, part_at, eavesdrop_at, parts_at, parts_from}

abbrev pub Begins : List ℕ → Type 0
Begins xs = (xs ≡ []) ⊎ ((rest : List ℕ) × (xs ≡ 44 ∷ rest))

after : (xs ys : List ℕ) → Begins xs → Begins ys → Begins (xs ++ ys)
after xs ys (inl none) (inl none_more) = inl (ap (λ (x : List ℕ). x ++ ys) none ∙ none_more)
after xs ys (inl none) (inr (rest, is)) = inr (rest, ap (λ (x : List ℕ). x ++ ys) none ∙ is)
after xs ys (inr (rest, is)) other = inr (rest ++ ys, ap (λ (x : List ℕ). x ++ ys) is)

chosen : (b : Bool) (xs : List ℕ) → Begins xs → Begins (if b then xs else [])
chosen true xs is = is
chosen false xs is = inl refl

part : (place : ℕ) (c : Condition) → Begins (part_at place c)
part place c = chosen (place_of (key_of c) == place) (codes "," ++ condition_text c) (inr (condition_text c, refl))

each : (place : ℕ) (conditions : List Condition) → Begins (flat_map (part_at place) conditions)
each place [] = inl refl
each place (c ∷ more) = after (part_at place c) (flat_map (part_at place) more) (part place c) (each place more)

eavesdropping : (place : ℕ) (rule : RuleTree) → Begins (eavesdrop_at place rule)
eavesdropping place rule = chosen (place == 6) (if rule.eavesdrops then codes ",eavesdrop='true'" else []) (chosen rule.eavesdrops (codes ",eavesdrop='true'") (inr (codes "eavesdrop='true'", refl)))

pub from : (rule : RuleTree) (place left : ℕ) → Begins (parts_from rule place left)
from rule place zero = inl refl
from rule place (suc left) = after (parts_at place rule) (parts_from rule (suc place) left) (after (flat_map (part_at place) rule.conditions) (eavesdrop_at place rule) (each place rule.conditions) (eavesdropping place rule)) (from rule (suc place) left)

-- what doesn't begin with a comma is what stands after the first one
pub without_comma : (text all : List ℕ) → Begins all → text ≡ all → ((rest : List ℕ) → text ≡ 44 ∷ rest → ⊥) → text ≡ drop 1 all
without_comma text all (inl none) is never = is ∙ none ∙ sym (ap (λ (x : List ℕ). drop 1 x) none)
without_comma text all (inr (rest, begins)) is never = absurd (never rest (is ∙ begins))
