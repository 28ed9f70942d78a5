use Rattle.std.proofs.Common.{◌≡◌, ◌∙◌, ap, sym, arith, List}
use Rattle.program_table.specs.declared.connection.Connection.{Connection}
use Rattle.program_table.specs.Connections.{without_connection}
use Rattle.program_table.specs.Places.{IsPlaceOf, HaveOtherNumbers}
use Rattle.program_table.specs.ConnectionList.{ConnectionList}
use Rattle.program_table.proofs.Places.{removed_here, without_list, without-differ}
use Rattle.program_table.proofs.connections.Connections.remove.Goals as goal

pub invariant_of-self : goal.invariant_of-self
invariant_of-self g c =
    let there : IsPlaceOf c.args.number c.self.inside.list.items c.in-Some.place = rw (← c.as_slice.ensures.value) c.in-Some.ensures in
    let same : c.remove.new.self.items ≡ without_connection c.args.number c.self.inside.list.items = c.remove.ensures.items ∙ sym (removed_here c.args.number c.in-Some.place c.self.inside.list.items there) in
    (rw same (without_list c.args.number c.self.inside.last c.self.inside.list.items c.self.invariant.0), omega (arith, c.remove.ensures.capacity, c.self.invariant.1))

pub returns-in-Some : goal.returns-in-Some
returns-in-Some g c =
    let there : IsPlaceOf c.args.number c.self.inside.list.items c.in-Some.place = rw (← c.as_slice.ensures.value) c.in-Some.ensures in
    let same : c.remove.new.self.items ≡ without_connection c.args.number c.self.inside.list.items = c.remove.ensures.items ∙ sym (removed_here c.args.number c.in-Some.place c.self.inside.list.items there) in
    ap (λ (cs : List (Connection _)). let r : ConnectionList _ = record { connections = cs; last = c.self.inside.last } in r) same
    ∙ ap (λ (r : ConnectionList _). let s : ConnectionList _ = record { connections = without_connection c.args.number r.connections; last = r.last } in s) c.self.view_is

pub returns-in-None : goal.returns-in-None
returns-in-None g c =
    let others : HaveOtherNumbers c.args.number c.self.inside.list.items = rw (← c.as_slice.ensures.value) c.in-None.ensures in
    sym c.self.view_is
    ∙ ap (λ (cs : List (Connection _)). let r : ConnectionList _ = record { connections = cs; last = c.self.inside.last } in r) (sym (without-differ c.args.number c.self.inside.list.items others))
    ∙ ap (λ (r : ConnectionList _). let s : ConnectionList _ = record { connections = without_connection c.args.number r.connections; last = r.last } in s) c.self.view_is
