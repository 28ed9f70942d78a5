use Rattle.std.proofs.Common.{ℕ, ◌≡◌, Bool, List, length, subst, arith, rules}
use Rattle.std.specs.Prelude.{MatchBool}
use Rattle.match_rule.specs.RuleTree.{RuleTree}
use Rattle.monitors.specs.Wanting.{Wants, WantsNot}
use Rattle.monitors.proofs.Answered.{wants_by_rules}
use Rattle.monitors.proofs.monitor.Monitor.wants.Goals as goal

pub returns : goal.returns
returns g c = λ m valid.
    let answers : List ℕ → Bool → Type 0 = g.O.Owners.answers c.args.owners.now in
    let unites : List ℕ → List ℕ → Bool → Type 0 = g.O.Owners.unites c.args.owners.now in
    let same : c.as_slice-rules.result.now ≡ c.args.self.now.rules = search rules in
    let some : length c.as_slice-rules.result.now ≡ 0 → ⊥ = λ e. first_of (grind arith, cc) in
    subst (λ (rules : List RuleTree). MatchBool c.any_holds_of.result (Wants answers unites m rules) (WantsNot answers unites m rules)) same
    (wants_by_rules answers unites m c.as_slice-rules.result.now c.any_holds_of.result some (c.any_holds_of.ensures m valid))
