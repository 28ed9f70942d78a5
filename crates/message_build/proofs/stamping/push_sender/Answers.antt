use Rattle.std.proofs.Common.{refl}
use Rattle.message_build.specs.Stamped.{sender_field}
use Rattle.message_build.proofs.Appended.{pushed_field}
use Rattle.message_build.proofs.stamping.push_sender.Goals as goal

pub returns : goal.returns
returns c =
    pushed_field c.push_string.result c.args.order c.args.bytes.now.items c.align.new.bytes.items c.extend_from_slice.new.self.items c.push_string.new.bytes.items (sender_field c.args.sender.now) 7 115 c.in_ok-align.ensures c.in_ok-extend_from_slice.ensures.items refl refl (rw c.as_bytes.ensures.value at c.push_string.ensures)
