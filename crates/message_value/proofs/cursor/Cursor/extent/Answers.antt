use Rattle.std.proofs.Common.{length, ap, arith}
use Rattle.message_value.specs.Reading.{At}
use Rattle.message_value.proofs.ReadShorter.{item_fits}
use Rattle.message_value.proofs.cursor.Cursor.extent.Goals as goal

pub new-requires : goal.new-requires
new-requires c =
    let fits = item_fits c.in_ok-len.len c.align.new.self (c.in_ok-elements.elements.now, c.item.new.self) c.in_ok-elements.ensures.read in
    let viewed = ap (λ (at : At). length at.rest) c.self.view_is in
    omega (arith, fits, viewed, c.self.invariant.0, c.in_ok-elements.ensures.len)
