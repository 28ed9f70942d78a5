use Rattle.std.proofs.Common.{Ok, ◌∷◌, ◌++◌, ℕ, List, map, sym, subst, ◌∙◌}
use Rattle.signature.specs.Name.{bus_name}
use Rattle.unique_name.specs.UniqueNames.{unique_name}
use Rattle.router.specs.History.{after}
use Rattle.router.specs.Names.{AreNames}
use Rattle.peers.specs.Queries.{AreAllNames}
use Rattle.peers.proofs.Lists.{answers_found, answers_none, all_told}
use Rattle.peers.proofs.peer.Peer.list_names.Goals as goal

pub returns-in-Ok-clause-row : goal.returns-in-Ok-clause-row
returns-in-Ok-clause-row g c =
    let s = after c.all_names.new.self.pass.seen in
    let numbers = c.as_slice.result.now in
    let owned = c.as_slice-in-Ok.result.now in
    let A : List (List ℕ) → Type 0 = AreNames s.registrations.claims in
    answers_found g.M.Mailbox.outbox_of c.deref_mut-control.result.now.history AreAllNames c.args.request (Ok ((bus_name ∷ map unique_name numbers) ++ owned)) c.args.self.now c.all_names.new.self c.answer_names.new.self c.answer_names.result c.all_names.ensures.same c.all_names.ensures.later
    (all_told s numbers owned (c.as_slice.ensures.value ∙ c.in-Ok.ensures.found.0) (subst A (sym c.as_slice-in-Ok.ensures.value) c.in-Ok.ensures.found.1)) c.in-Ok.ensures.seen c.answer_names.ensures.row

pub returns-clause-row : goal.returns-clause-row
returns-clause-row g c =
    answers_none g.M.Mailbox.outbox_of c.deref_mut-control.result.now.history AreAllNames c.args.request c.in-Err.why c.args.self.now c.all_names.new.self c.refuse_placed.new.self c.refuse_placed.result c.all_names.ensures.same c.all_names.ensures.later c.in-Err.ensures.found c.in-Err.ensures.seen c.refuse_placed.ensures.answer
