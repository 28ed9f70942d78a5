use Rattle.std.proofs.Common.{◌≡◌, ◌++◌, ◌∷◌, [], List, ap, sym, ◌∙◌, subst}
use mathlib.Core.List.{IsPrefix}
use Rattle.published.proofs.Fronts.{prefix_trans}
use Rattle.program_table.specs.declared.command.Command.{Command}
use Rattle.program_table.specs.declared.command.Reply.{Reply}
use Rattle.published.specs.Publication.{Publication}
use Rattle.passes.specs.Calls.{IsDone}
use Rattle.passes.specs.Passes.{PassState}
use Rattle.passes.proofs.laws.accepted_is_in_force.Goals as goal

-- what was seen begins with the command and all before it, and so does what comes later
later_too : {M : Type 0} (past seen learned last : List (Command M)) → past ≡ seen → IsPrefix seen learned → IsPrefix learned last → IsPrefix past last
later_too {M = M} past seen learned last is learns goes_on =
    subst (λ (l : List (Command M)). IsPrefix l last) (sym is) (prefix_trans seen learned last learns goes_on)

seen_then : {M : Type 0} (v : PassState M) (before : Publication M) (command : Command M) (reply : Reply) (w : PassState M) (next : Publication M) → IsDone v before command reply w next → w.seen ≡ next.history
seen_then {M = M} v before command reply w next done = ap (λ (p : PassState M). p.seen) done.same

pub returns-clause-asked : goal.returns-clause-asked
returns-clause-asked g c v w u x before next later after command other reply answer done learned asks =
    later_too (before.history ++ command ∷ []) w.seen u.seen later.history (sym (seen_then v before command reply w next done ∙ done.published)) learned asks.begins

pub returns-clause-routed : goal.returns-clause-routed
returns-clause-routed g c v w u x before next command reply standing source bytes recipients refused done learned routes =
    later_too (before.history ++ command ∷ []) w.seen u.seen x.seen (sym (seen_then v before command reply w next done ∙ done.published)) learned routes.sends.begins
