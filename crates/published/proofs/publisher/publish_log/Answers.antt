use Rattle.std.proofs.Common.{List, sym, subst}
use mathlib.Core.List.{IsPrefix}
use Rattle.program_table.specs.declared.command.Command.{Command}
use Rattle.published.proofs.Views.{shows}
use Rattle.published.proofs.publisher.publish_log.Goals as goal

pub publish_as-requires : goal.publish_as-requires
publish_as-requires g c next is =
    let now = c.args.writer.desk.shown.value in
    shows _ _ now next (subst (λ (l : List (Command g.row.M.Denot)). IsPrefix now l) (sym is) c.requires)
