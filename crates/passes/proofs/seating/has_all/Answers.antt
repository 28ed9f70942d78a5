use Rattle.std.proofs.Common.{◌≡◌, true, sym, ◌∙◌, rules}
use Rattle.passes.proofs.Seats.{next_has}
use Rattle.passes.proofs.seating.has_all.Goals as goal

pub loop-number-preserved : goal.loop-number-preserved
loop-number-preserved g c =
    let e : c.has.result ≡ true = search rules in
    next_has c.args.numbers.now c.loop-number.number-index 0 c.args.sender.now.recipient_seats c.loop-number-test.true c.loop-number.invariant (sym c.has.ensures ∙ e)
