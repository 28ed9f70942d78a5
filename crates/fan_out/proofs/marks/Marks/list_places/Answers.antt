use Rattle.std.proofs.Common.{◌++◌, ◌∙◌, ℕ, List, length, sym, ap, arith}
use Rattle.std.proofs.lemmas.List.{append-nil}
use Rattle.program_table.specs.Connections.{numbers_of}
use Rattle.fan_out.proofs.Rows.{first_places, last_places}
use Rattle.fan_out.proofs.marks.Marks.list_places.Goals as goal

pub loop-place-init : goal.loop-place-init
loop-place-init g c =
    let marks = c.args.self.now in
    record {
      few = omega (arith, ap length c.requires.none);
      listed = rw c.requires.none (first_places marks.places marks.low marks.high marks.low (numbers_of c.args.connections.now) marks.size marks.within marks.bottom (omega arith));
    }

pub returns : goal.returns
returns g c =
    let marks = c.args.self.now in
    let none = last_places marks.places marks.low marks.high c.loop-place.place (numbers_of c.args.connections.now) marks.size marks.within c.loop-place-test.false in
    sym (append-nil c.loop-place.numbers.items) ∙ sym (ap (λ (xs : List ℕ). c.loop-place.numbers.items ++ xs) none) ∙ c.loop-place.invariant.listed
