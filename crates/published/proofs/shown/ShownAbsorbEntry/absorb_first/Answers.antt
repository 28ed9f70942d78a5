-- published/proofs/shown/ShownAbsorbEntry/absorb_first/Answers.antt
use Rattle.std.proofs.Common.{◌≡◌, ◌+◌, true, [], ◌∷◌, ◌++◌, length, Option, Some, sym, ◌∙◌, subst, arith}
use Rattle.program_table.specs.declared.command.Command.{Command}
use Rattle.program_table.specs.Does.{is_accepted}
use Rattle.published.specs.Steps.{EndsWith}
use Rattle.published.proofs.Entries.{next_one, after_next, last_accepted}
use Rattle.published.proofs.Histories.{next-accepted}
use Rattle.published.proofs.shown.ShownAbsorbEntry.absorb_first.Goals as goal

pub perform-requires : goal.perform-requires
perform-requires g c =
    let command : Command g.row.M.Denot = c.in-Some.command in
    let ends : EndsWith c.entry.inside.front (Some command) = subst (λ (o : Option (Command g.row.M.Denot)). EndsWith c.entry.inside.front o) c.in-Some.is c.entry.invariant in
    let len : length c.self.inside.front + 1 ≡ length c.entry.inside.front = omega arith in
    let next : c.self.inside.front ++ command ∷ [] ≡ c.entry.inside.front = next_one c.self.inside.front c.entry.inside.front ends.0 command ends.1 len c.begins.ensures in
    last_accepted c.self.inside.front c.entry.inside.front command c.self.inside.state next c.len-else-len-2.ensures.history c.self.invariant

pub invariant_of-self-2 : goal.invariant_of-self-2
invariant_of-self-2 g c =
    let command : Command g.row.M.Denot = c.in-Some.command in
    let ends : EndsWith c.entry.inside.front (Some command) = subst (λ (o : Option (Command g.row.M.Denot)). EndsWith c.entry.inside.front o) c.in-Some.is c.entry.invariant in
    let len : length c.self.inside.front + 1 ≡ length c.entry.inside.front = omega arith in
    let next = next_one c.self.inside.front c.entry.inside.front ends.0 command ends.1 len c.begins.ensures in
    let accepted : is_accepted c.self.inside.state command ≡ true = last_accepted c.self.inside.front c.entry.inside.front command c.self.inside.state next c.len-else-len-2.ensures.history c.self.invariant in
    let led = c.in_ok-perform.ensures.done ∙ sym (next-accepted c.self.inside.state command accepted) in
    rw c.again.ensures.copy (after_next c.self.inside.front c.entry.inside.front command c.self.inside.state c.perform.new.self next c.self.invariant led)
