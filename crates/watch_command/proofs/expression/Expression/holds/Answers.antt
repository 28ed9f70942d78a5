use Rattle.std.proofs.Common.{ℕ, List, subst, rules}
use Rattle.std.specs.Prelude.{string_bytes}
use Rattle.bpf_code.specs.Steps.{Ends}
use Rattle.filter.specs.Filters.{tree_of}
use Rattle.watch_command.proofs.Expressions.{accepted}
use Rattle.watch_command.proofs.expression.Expression.holds.Goals as goal

pub returns : goal.returns
returns c = λ m owners valid.
    let ends = subst (λ (image : List ℕ). Ends c.self.inside.program image c.run.result.verdict c.run.result.steps) (c.new-image.ensures m valid) c.run.ensures.ends in
    rw (← c.self.view_is)
    (accepted (string_bytes c.self.inside.text) (tree_of c.self.inside.filter) c.self.inside.program c.self.invariant owners c.args.view.now m c.empty-owned.result c.run.result.verdict c.run.result.steps _ valid c.empty-owned.ensures.set ends (search rules) c.one_reading.ensures)
