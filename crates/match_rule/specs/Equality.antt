-- Inner: that the tests of equality are equivalences. It stands here since `impl Eq` cites it, which takes nothing from
-- proofs/.
use Rattle.std.specs.Prelude.{◌≡◌, List, unwrap_or}
use Rattle.std.specs.Bool.{Decides, one_answer}
use Rattle.std.specs.Cmp.{IsPartialEquivalence, IsEquivalence, booleans_Decides, decided, equiv, partial_equiv_from_equiv}
use Rattle.std.proofs.Common.{ℕ, refl, sym, ap, ◌∙◌}
use Rattle.std.proofs.lemmas.Bool.Decides.{Decides-and}
use Rattle.std.proofs.lemmas.Slice.Eq.{bytes_eq-Decides}
use Rattle.match_key.specs.declared.key.Key.{Key}
use Rattle.match_key.specs.declared.key.Key.TheVariants as keys
use Rattle.match_key.specs.declared.kind_name.KindName.TheVariants.{Signal}
use Rattle.match_rule.specs.declared.condition.Condition.{Condition}
use Rattle.match_rule.specs.declared.condition.Condition.TheVariants.{Kind, Sender, Compares}
use Rattle.match_key.specs.Kinds.{kind_named}
use Rattle.match_key.proofs.KeyEquality.{keys_decide}
use Rattle.match_key.proofs.SameSets.{in_decides}
use Rattle.match_rule.specs.Condition.{key_of, value_of, condition_eq}
use Rattle.match_rule.specs.RuleTree.{RuleTree, rule_eq, AreSame}

-- the condition of a key and a value, allowed or not; for `eavesdrop`, which asks for nothing, any condition
condition_of : Key → List ℕ → Condition
condition_of keys.Kind value = Kind (unwrap_or (kind_named value) Signal)
condition_of keys.Sender value = Sender value
condition_of (keys.Compares source relation) value = Compares source relation value
condition_of keys.Eavesdrop value = Kind Signal

condition_of-parts : (c : Condition) → condition_of (key_of c) (value_of c) ≡ c
unfolding condition_of
condition_of-parts (Kind Signal) = refl
condition_of-parts _ = refl

-- conditions that test as equal are one
pub condition_decides : (a b : Condition) → Decides (condition_eq a b) (a ≡ b)
condition_decides a b =
    let keys_and_values = Decides-and _ _ (keys_decide (key_of a) (key_of b)) (bytes_eq-Decides (value_of a) (value_of b)) in (
      λ e.
          let h = keys_and_values.0 e in
          sym (condition_of-parts a) ∙ ap (λ k. condition_of k (value_of a)) h.0
          ∙ ap (condition_of (key_of b)) h.1 ∙ condition_of-parts b,
      λ e. keys_and_values.1 (ap key_of e, ap value_of e),
    )

pub conditions_equiv : IsEquivalence condition_eq
conditions_equiv = decided condition_eq condition_decides

pub conditions_partial : IsPartialEquivalence condition_eq
conditions_partial = partial_equiv_from_equiv conditions_equiv

-- rules that test as equal are the same set of conditions with the same eavesdropping
pub rule_decides : (a b : RuleTree) → Decides (rule_eq a b) (AreSame a b)
rule_decides a b =
    let within = in_decides condition_eq condition_decides a.conditions b.conditions in
    let without = in_decides condition_eq condition_decides b.conditions a.conditions in
    let same = Decides-and _ _ (Decides-and _ _ within without) (booleans_Decides a.eavesdrops b.eavesdrops) in
    (λ e. let s = same.0 e in record { within = s.0.0; without = s.0.1; eavesdrop = s.1 }, λ (s : AreSame a b). same.1 ((s.within, s.without), s.eavesdrop))

flip_same : (a b : RuleTree) → AreSame a b → AreSame b a
flip_same a b s = record { within = s.without; without = s.within; eavesdrop = sym s.eavesdrop }

chain_same : (a b c : RuleTree) → AreSame a b → AreSame b c → AreSame a c
chain_same a b c s t = record { within = λ x h. t.within x (s.within x h); without = λ x h. s.without x (t.without x h); eavesdrop = s.eavesdrop ∙ t.eavesdrop }

pub rules_partial : IsPartialEquivalence rule_eq
rules_partial = record {
  symm = λ a b. one_answer (rule_eq a b) (rule_eq b a) (rule_decides a b) (λ e. flip_same b a ((rule_decides b a).0 e), λ s. (rule_decides b a).1 (flip_same a b s));
  trans = λ a b c e f. (rule_decides a c).1 (chain_same a b c ((rule_decides a b).0 e) ((rule_decides b c).0 f));
}

pub rules_equiv : IsEquivalence rule_eq
rules_equiv = equiv rules_partial (λ a. (rule_decides a a).1 (record { within = λ c h. h; without = λ c h. h; eavesdrop = refl }))
