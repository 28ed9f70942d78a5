use Rattle.std.proofs.Common.{arith}
use Rattle.std.proofs.lemmas.Bool.Decides.{nat_tests}
use Rattle.std.specs.Prelude.{◌≡◌, ◌==◌, not, true}
use Rattle.bus_messages.proofs.PreparedMessages.{replied_asked}
use Rattle.bus_messages.proofs.sent.text_reply.Goals as goal

pub returns : goal.returns
returns c =
    let above : not (c.args.reply_to == 0) ≡ true = grind (arith, nat_tests) in
    replied_asked c.args.serial c.args.reply_to c.to_le_bytes.result c.args.to.now c.args.text.now c.in_ok-bytes.bytes.items above c.ranges.reply_to.fits c.to_le_bytes.ensures c.in_ok-bytes.ensures
