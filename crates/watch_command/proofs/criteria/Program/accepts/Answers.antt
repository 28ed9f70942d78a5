use Rattle.std.proofs.Common.{ℕ, List, subst, rules}
use Rattle.bpf_code.specs.Steps.{Ends}
use Rattle.watch_command.proofs.criteria.Program.accepts.Goals as goal

pub returns : goal.returns
returns c = λ m valid. record {
  slots = c.empty-owned.result;
  none = c.empty-owned.ensures.none;
  verdict = c.run.result.verdict;
  steps = c.run.result.steps;
  ends = subst (λ (image : List ℕ). Ends c.args.self.now.code image c.run.result.verdict c.run.result.steps) (c.new-image.ensures m valid) c.run.ensures.ends;
  accepted_is = search rules;
}
