use Rattle.std.proofs.Common.{List, sym, ◌∙◌, ◌≡◌, subst}
use Rattle.std.specs.Prelude.{IfSome}
use mathlib.Core.List.{IsPrefix}
use Rattle.left_right.specs.Sides.{view}
use Rattle.program_table.specs.declared.command.Command.{Command}
use Rattle.published.proofs.Fronts.{prefix_self}
use Rattle.published.proofs.Views.{shows}
use Rattle.published.proofs.history_reader.HistoryReader.enter.Goals as goal
use Rattle.published.proofs.history_reader.HistoryReader.enter.Goals.{then-self+else-len, else-self}

pub enter_as-requires : goal.enter_as-requires
enter_as-requires g c x = shows _ _ x x (prefix_self x)

pub returns-after-self-clause-guard : goal.returns-after-self-clause-guard
returns-after-self-clause-guard g c =
    elim c.if-self.branch [
      | then-self+else-len w ↦ subst (λ (l : List (Command g.row.M.Denot)). IsPrefix l c.front-front.result) c.self.view_is w.begins.ensures
      | else-self w ↦
          let at : view c.in_ok-take.field-0.place ≡ c.self.inside.front = subst (λ o. IfSome o (λ r. view r.place ≡ c.self.inside.front)) (sym c.in_ok-take.ensures.value) (c.self.invariant w.if-self.false) in
          subst (λ (l : List (Command g.row.M.Denot)). IsPrefix c.args.self.now l) (sym (c.front-front.ensures.copy ∙ c.get.ensures))
          (subst (λ (l : List (Command g.row.M.Denot)). IsPrefix l c.in-Ok.reading.part.value) (at ∙ c.self.view_is) c.in-Ok.ensures.1.0)
    ]
