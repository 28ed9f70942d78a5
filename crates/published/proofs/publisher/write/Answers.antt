use Rattle.std.proofs.Common.{◌≡◌, List, [], ◌∷◌, ◌++◌, fold, sym, ap, ◌∙◌, subst, Result, Ok, Err}
use Rattle.std.specs.Prelude.{MatchResult}
use mathlib.Core.List.{IsPrefix}
use Rattle.left_right.specs.Sides.{view}
use Rattle.program_table.specs.declared.command.Command.{Command}
use Rattle.published.proofs.publisher.write.Goals as goal

matched : {X E : Type 0} (r : Result X E) (P P' : X → Type 0) (Q Q' : E → Type 0) → ((x : X) → P x → P' x) → ((e : E) → Q e → Q' e) → MatchResult r P Q → MatchResult r P' Q'
matched (Ok x) P P' Q Q' f g m = f x m
matched (Err e) P P' Q Q' f g m = g e m

pub publish_log-requires : goal.publish_log-requires
publish_log-requires g c =
    let now = c.append.new.self.desk.shown.value in
    let at : now ≡ c.args.writer.desk.shown.value = ap (λ d. d.shown.value) c.in-Ok.ensures.desk in
    let log = c.in-Ok.ensures.pending ∙ ap (λ (l : List (List (Command g.row.M.Denot))). l ++ c.args.entry ∷ []) c.requires.pending in
    subst (λ (l : List (List (Command g.row.M.Denot))). IsPrefix now (fold (λ (before after : List (Command g.row.M.Denot)). after) now l)) (sym log)
    (subst (λ (l : List (Command g.row.M.Denot)). IsPrefix l c.args.entry) (sym at) c.requires.begins)

pub returns-clause-values : goal.returns-clause-values
returns-clause-values g c =
    let now = c.append.new.self.desk.shown.value in
    let at : now ≡ c.args.writer.desk.shown.value = ap (λ d. d.shown.value) c.in-Ok.ensures.desk in
    let log = c.in-Ok.ensures.pending ∙ ap (λ (l : List (List (Command g.row.M.Denot))). l ++ c.args.entry ∷ []) c.requires.pending in
    matched c.publish_log.result.1 _ _ _ _
    (λ x p. (p.0 ∙ ap (λ (l : List (List (Command g.row.M.Denot))). fold (λ (before after : List (Command g.row.M.Denot)). after) now l) log, p.1))
    (λ e q. q ∙ at)
    c.publish_log.ensures.values

pub returns-clause-view : goal.returns-clause-view
returns-clause-view g c h = c.publish_log.ensures.view (subst (λ d. view d.place ≡ d.shown.value) (sym c.in-Ok.ensures.desk) h)
