use Rattle.std.proofs.Common.{◌≤◌, ◌*◌, ◌/◌, ◌++◌, ◌∙◌, ℕ, List, length, sym, ap, arith}
use Rattle.std.proofs.lemmas.List.{append-nil}
use Rattle.program_table.specs.Connections.{numbers_of}
use Rattle.fan_out.proofs.Rows.{first_places, last_places}
use Rattle.fan_out.proofs.marks.Marks.list_rows.Goals as goal

pub loop-row-init : goal.loop-row-init
loop-row-init g c =
    let marks = c.args.self.now in
    record {
      few = omega (arith, ap length c.requires.none);
      listed = rw c.requires.none (first_places marks.places marks.low marks.high (16 * (marks.low / 16)) (numbers_of c.args.connections.now) marks.size marks.within marks.bottom (omega arith));
    }

pub returns : goal.returns
returns g c =
    let marks = c.args.self.now in
    let past : marks.high ≤ 16 * c.loop-row.row = omega (arith, c.loop-row-test.false) in
    let none = last_places marks.places marks.low marks.high (16 * c.loop-row.row) (numbers_of c.args.connections.now) marks.size marks.within past in
    sym (append-nil c.loop-row.numbers.items) ∙ sym (ap (λ (xs : List ℕ). c.loop-row.numbers.items ++ xs) none) ∙ c.loop-row.invariant.listed
