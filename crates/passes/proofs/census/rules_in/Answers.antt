use Rattle.std.proofs.Common.{◌≡◌, List, [], ◌∷◌, ◌++◌, Some, None, sym, ap, ◌∙◌, subst, rules}
use Rattle.std.proofs.lemmas.List.{append-nil, append_assoc}
use Rattle.std.specs.Prelude.{find}
use Rattle.entry_table.specs.CompiledRule.{CompiledRule}
use Rattle.entry_table.specs.Entries.{is_rule_after}
use Rattle.passes.specs.Census.{AreRulesOf}
use Rattle.passes.proofs.RuleOrder.{fewer_left, found_rule}
use Rattle.passes.proofs.census.rules_in.Goals as goal

pub rules-smaller : goal.rules-smaller
rules-smaller g c =
    let entries = c.args.state.now.registrations.entries in
    let e : find (is_rule_after c.args.connection c.rules.last) entries ≡ Some c.in-Some.entry.now = search rules in
    fewer_left c.args.connection c.rules.last c.in-Some.entry.now entries e

pub push_rule-requires : goal.push_rule-requires
push_rule-requires g c =
    let entries = c.args.state.now.registrations.entries in
    let e : find (is_rule_after c.args.connection c.rules.last) entries ≡ Some c.in-Some.entry.now = search rules in
    found_rule c.args.connection c.rules.last entries c.in-Some.entry.now e

pub rules-preserved : goal.rules-preserved
rules-preserved g c = λ rest h.
    let entries = c.args.state.now.registrations.entries in
    let e : find (is_rule_after c.args.connection c.rules.last) entries ≡ Some c.in-Some.entry.now = search rules in
    let p = c.in_ok-push_rule.ensures in
    subst (λ (l : List CompiledRule). AreRulesOf c.args.connection entries l)
    (sym (ap (λ (l : List CompiledRule). l ++ rest) p.2 ∙ append_assoc c.rules.rules.items (p.0 ∷ []) rest))
    (c.rules.invariant (p.0 ∷ rest) (c.in-Some.entry.now, e, p.1, h))

pub returns : goal.returns
returns g c =
    let entries = c.args.state.now.registrations.entries in
    let e : find (is_rule_after c.args.connection c.rules.last) entries ≡ None = search rules in
    subst (λ (l : List CompiledRule). AreRulesOf c.args.connection entries l) (append-nil c.rules.rules.items) (c.rules.invariant [] e)
