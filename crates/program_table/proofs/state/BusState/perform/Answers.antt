use Rattle.std.proofs.Common.{◌≡◌, ℕ, ◌+◌, true, Some, sym, ap, ◌∙◌}
use Rattle.std.specs.Prelude.{nat_le}
use Rattle.owners.specs.Registry.{least_of}
use Rattle.program_table.specs.declared.command.Command.TheVariants.{Request}
use Rattle.program_table.specs.declared.capacity.Capacity.{Capacity}
use Rattle.program_table.specs.Connections.{is_connected, without_connection}
use Rattle.program_table.specs.ConnectionList.{ConnectionList}
use Rattle.program_table.specs.Registrations.{Registrations, without_entry, with_request, without_claim}
use Rattle.program_table.specs.State.{State}
use Rattle.program_table.specs.Capacities.{claim_within}
use Rattle.program_table.specs.Refusals.{◌>>=◌}
use Rattle.program_table.specs.Answers.{oldest_with, request_answer}
use Rattle.program_table.specs.Does.{max_commands, is_accepted, with_registrations, close_state, effect}
use Rattle.program_table.proofs.Counting.{counts_connected, counts_closed, counts_limited}
use Rattle.program_table.proofs.OfConnections.{connected_theirs, closed_theirs, removed_theirs, requested_theirs, released_theirs, accepted_there}
use Rattle.program_table.proofs.state.BusState.perform.Goals as goal

abbrev state_of : {M : Type 0} → ℕ → Capacity → ConnectionList M → Registrations → State M
state_of commands most list r = record { commands = commands; capacity = most; connections = list.connections; last_connection = list.last; registrations = r }

pub invariant_of-self : goal.invariant_of-self
invariant_of-self g c = (counts_limited c.self.inside.commands c.self.inside.connections c.self.invariant.0, c.self.invariant.1)

pub invariant_of-self-in-Connect : goal.invariant_of-self-in-Connect
invariant_of-self-in-Connect g c = rw c.push.ensures (
  counts_connected c.self-in-Connect.inside.commands c.self-in-Connect.inside.connections c.in_ok-mailbox-in-Connect.mailbox c.self-in-Connect.invariant.0,
  connected_theirs c.self-in-Connect.inside.connections.connections _ c.self-in-Connect.inside.registrations c.self-in-Connect.invariant.1,
)

pub invariant_of-self-in-Close : goal.invariant_of-self-in-Close
invariant_of-self-in-Close g c = rw (c.remove.ensures, c.close.ensures) (
  counts_closed c.in-Close.connection c.self-in-Close.inside.commands c.self-in-Close.inside.connections c.self-in-Close.invariant.0,
  closed_theirs c.in-Close.connection c.self-in-Close.inside.connections.connections c.self-in-Close.inside.registrations c.self-in-Close.invariant.1,
)

pub invariant_of-self-in-RemoveRule : goal.invariant_of-self-in-RemoveRule
invariant_of-self-in-RemoveRule g c = rw c.remove_rule.ensures (
  c.self-in-RemoveRule.invariant.0,
  removed_theirs c.in-RemoveRule.connection (oldest_with c.in-RemoveRule.connection c.in-RemoveRule.rule c.self-in-RemoveRule.inside.registrations.entries) c.self-in-RemoveRule.inside.connections.connections c.self-in-RemoveRule.inside.registrations c.self-in-RemoveRule.invariant.1,
)

pub invariant_of-self-in-Detach : goal.invariant_of-self-in-Detach
invariant_of-self-in-Detach g c = rw c.remove_entry.ensures (
  c.self-in-Detach.invariant.0,
  removed_theirs c.in-Detach.connection (Some c.in-Detach.id) c.self-in-Detach.inside.connections.connections c.self-in-Detach.inside.registrations c.self-in-Detach.invariant.1,
)

pub invariant_of-self-in-Request : goal.invariant_of-self-in-Request
invariant_of-self-in-Request g c =
    let number = c.in-Request.connection in
    let accepted : is_accepted c.args.self.now (Request number c.in-Request.name c.in-Request.flags) ≡ true = sym (ap (is_accepted c.args.self.now) c.in-Request.is) ∙ c.requires in
    let there : is_connected number c.args.self.now.connections ≡ true = accepted_there (nat_le max_commands c.args.self.now.commands) number c.args.self.now (claim_within c.args.self.now.capacity c.in-Request.name number c.in-Request.flags c.args.self.now.registrations >>= (λ within. request_answer c.in-Request.name number c.in-Request.flags c.args.self.now.registrations)) accepted in
    let here : is_connected number c.self-in-Request.inside.connections.connections ≡ true = ap (λ (s : State _). is_connected number s.connections) c.self-in-Request.view_is ∙ there in
    rw c.request.ensures (
      c.self-in-Request.invariant.0,
      requested_theirs c.in-Request.name number c.in-Request.flags c.self-in-Request.inside.connections.connections c.self-in-Request.inside.registrations here c.self-in-Request.invariant.1,
    )

pub invariant_of-self-in-Release : goal.invariant_of-self-in-Release
invariant_of-self-in-Release g c = rw c.release.ensures (
  c.self-in-Release.invariant.0,
  released_theirs c.in-Release.connection (Some c.in-Release.name) c.self-in-Release.inside.connections.connections c.self-in-Release.inside.registrations c.self-in-Release.invariant.1,
)

pub invariant_of-self-in-DropOne : goal.invariant_of-self-in-DropOne
invariant_of-self-in-DropOne g c = rw c.drop_one.ensures (
  c.self-in-DropOne.invariant.0,
  released_theirs c.in-DropOne.connection (least_of c.in-DropOne.connection c.self-in-DropOne.inside.registrations.claims) c.self-in-DropOne.inside.connections.connections c.self-in-DropOne.inside.registrations c.self-in-DropOne.invariant.1,
)

pub returns-in-Detach-clause-done : goal.returns-in-Detach-clause-done
returns-in-Detach-clause-done g c =
    c.count-in-Detach.ensures
    ∙ ap (λ (r : Registrations). with_registrations c.in-Detach.connection (state_of c.self-in-Detach.inside.commands c.self-in-Detach.inside.capacity c.self-in-Detach.inside.connections r) r) c.remove_entry.ensures
    ∙ ap (λ (s : State _). with_registrations c.in-Detach.connection s (without_entry c.in-Detach.connection (Some c.in-Detach.id) s.registrations)) c.self-in-Detach.view_is
    ∙ ap (effect c.args.self.now) (sym c.in-Detach.is)

pub returns-in-Request-clause-done : goal.returns-in-Request-clause-done
returns-in-Request-clause-done g c =
    c.count-in-Request.ensures
    ∙ ap (λ (r : Registrations). with_registrations c.in-Request.connection (state_of c.self-in-Request.inside.commands c.self-in-Request.inside.capacity c.self-in-Request.inside.connections r) r) c.request.ensures
    ∙ ap (λ (s : State _). with_registrations c.in-Request.connection s (with_request c.in-Request.name c.in-Request.connection c.in-Request.flags s.registrations)) c.self-in-Request.view_is
    ∙ ap (effect c.args.self.now) (sym c.in-Request.is)

pub returns-in-Release-clause-done : goal.returns-in-Release-clause-done
returns-in-Release-clause-done g c =
    c.count-in-Release.ensures
    ∙ ap (λ (r : Registrations). with_registrations c.in-Release.connection (state_of c.self-in-Release.inside.commands c.self-in-Release.inside.capacity c.self-in-Release.inside.connections r) r) c.release.ensures
    ∙ ap (λ (s : State _). with_registrations c.in-Release.connection s (without_claim c.in-Release.connection (Some c.in-Release.name) s.registrations)) c.self-in-Release.view_is
    ∙ ap (effect c.args.self.now) (sym c.in-Release.is)

pub returns-in-Close-clause-done : goal.returns-in-Close-clause-done
returns-in-Close-clause-done g c =
    ap (λ (l : ConnectionList _). state_of (c.self-in-Close.inside.commands + 1) c.self-in-Close.inside.capacity l c.close.new.self) c.remove.ensures
    ∙ ap (λ (r : Registrations). state_of (c.self-in-Close.inside.commands + 1) c.self-in-Close.inside.capacity (record c.self-in-Close.inside.connections { connections = without_connection c.in-Close.connection c.self-in-Close.inside.connections.connections }) r) c.close.ensures
    ∙ ap (close_state c.in-Close.connection) c.self-in-Close.view_is
    ∙ ap (effect c.args.self.now) (sym c.in-Close.is)
