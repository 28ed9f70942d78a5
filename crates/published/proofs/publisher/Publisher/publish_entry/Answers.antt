use Rattle.std.proofs.Common.{List, ap, ◌∙◌, subst, sym}
use mathlib.Core.List.{IsPrefix}
use Rattle.program_table.specs.declared.command.Command.{Command}
use Rattle.published.proofs.publisher.Publisher.publish_entry.Goals as goal

pub replace_with-written-requires : goal.replace_with-written-requires
replace_with-written-requires g c = (
  c.self.invariant.0 (ap (λ p. p.has_ended) c.self.view_is ∙ c.requires.not_ended),
  subst (λ (l : List (Command g.row.M.Denot)). IsPrefix l c.args.entry) (sym (ap (λ p. p.history) c.self.view_is)) c.requires.begins,
)

pub invariant_of-self : goal.invariant_of-self
invariant_of-self g c = (λ e. c.in-Ok.ensures.0.1, c.in-Ok.ensures.1 c.self.invariant.1)

pub invariant_of-self-in-Err : goal.invariant_of-self-in-Err
invariant_of-self-in-Err g c = (λ e. absurd cc, c.in-Err.ensures.1 c.self.invariant.1)
