use Rattle.std.proofs.Common.{◌∷◌, [], ◌++◌, refl, sym, ap, ◌∙◌}
use Rattle.program_table.specs.declared.connection.Connection.{Connection}
use Rattle.program_table.specs.Connections.{numbers_of}
use Rattle.fan_out.proofs.Places.{number_at, number_pushed}
use Rattle.fan_out.proofs.Rows.{number_skipped}
use Rattle.fan_out.proofs.marks.Marks.list_place.Goals as goal

pub returns-then-not-has-clause-listed : goal.returns-then-not-has-clause-listed
returns-then-not-has-clause-listed g c = number_skipped c.args.numbers.now.items (numbers_of c.args.connections.now) c.args.self.now.places c.args.place c.if-not-has.ensures

pub returns-clause-listed : goal.returns-clause-listed
returns-clause-listed g c =
    let here = number_at c.args.connections.now c.args.place c.index-connections-place.result c.if-place-connections.false c.index-connections-place.is in
    number_pushed c.args.numbers.now.items c.push.new.self.items (numbers_of c.args.connections.now) _ c.args.self.now.places c.args.place c.index-connections-place.result.number here c.if-not-has.ensures (c.push.ensures.items ∙ ap (λ (x : Connection _). c.args.numbers.now.items ++ x.number ∷ []) (sym c.index-connections-place.is)) refl
