use Rattle.std.proofs.Common.{List, sym, ◌∙◌, subst}
use mathlib.Core.List.{IsPrefix}
use Rattle.program_table.specs.declared.command.Command.{Command}
use Rattle.published.proofs.Fronts.{prefix_self}
use Rattle.published.proofs.publisher.write_blank.Goals as goal

pub write-writer-requires-clause-begins : goal.write-writer-requires-clause-begins
write-writer-requires-clause-begins g c =
    let now = c.args.writer.desk.shown.value in
    subst (λ (l : List (Command g.row.M.Denot)). IsPrefix now l) (sym (c.blank-entry.ensures ∙ c.front.ensures.copy ∙ c.published.ensures)) (prefix_self now)
