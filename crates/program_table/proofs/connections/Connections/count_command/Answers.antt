use Rattle.std.proofs.Common.{◌≡◌, ◌∙◌, ap, arith, List}
use Rattle.program_table.specs.declared.connection.Connection.{Connection}
use Rattle.program_table.specs.Connections.{commands_of, is_connected, with_command}
use Rattle.program_table.specs.Places.{IsPlaceOf, HaveOtherNumbers}
use Rattle.program_table.specs.ConnectionList.{ConnectionList}
use Rattle.program_table.proofs.Places.{commands_here, counted_list, counted_at, not_connected}
use Rattle.program_table.proofs.connections.Connections.count_command.Goals as goal

pub overflow_add-index_mut : goal.overflow_add-index_mut
overflow_add-index_mut g c =
    let there : IsPlaceOf c.args.number c.self.inside.list.items c.in-Some.place = rw (← c.as_slice.ensures.value) c.in-Some.ensures in
    let here : c.index_mut.result.now.commands ≡ commands_of c.args.number c.self.inside.list.items =
    ap (λ (x : Connection _). x.commands) c.index_mut.ensures.value ∙ commands_here c.args.number c.in-Some.place c.self.inside.list.items _ there in
    let same : commands_of c.args.number c.self.inside.list.items ≡ commands_of c.args.number c.args.self.now.connections =
    ap (λ (r : ConnectionList _). commands_of c.args.number r.connections) c.self.view_is in
    omega (arith, here, same, c.requires.fits)

pub invariant_of-self : goal.invariant_of-self
invariant_of-self g c = (counted_list c.args.number c.in-Some.place c.self.inside.last c.self.inside.list.items c.index_mut.result.now c.index_mut.ensures.value c.self.invariant.0, c.self.invariant.1)

pub returns-in-Some : goal.returns-in-Some
returns-in-Some g c =
    let there : IsPlaceOf c.args.number c.self.inside.list.items c.in-Some.place = rw (← c.as_slice.ensures.value) c.in-Some.ensures in
    ap (λ (cs : List (Connection _)). let r : ConnectionList _ = record { connections = cs; last = c.self.inside.last } in r) (counted_at c.args.number c.in-Some.place c.self.inside.list.items c.index_mut.result.now there c.index_mut.ensures.value)
    ∙ ap (λ (r : ConnectionList _). let s : ConnectionList _ = record { connections = with_command c.args.number r.connections; last = r.last } in s) c.self.view_is

pub returns-in-None : goal.returns-in-None
returns-in-None g c =
    let others : HaveOtherNumbers c.args.number c.self.inside.list.items = rw (← c.as_slice.ensures.value) c.in-None.ensures in
    absurd (not_connected c.args.number c.self.inside.list.items others (ap (λ (r : ConnectionList _). is_connected c.args.number r.connections) c.self.view_is ∙ c.requires.there))
