use Rattle.captures.specs.declared.packets.Format.TheVariants as formats
use Rattle.captures.proofs.StepsWithin.{answer_within}
use Rattle.captures.proofs.packets.Packets.next.Goals as goal

pub returns-in-Unread-clause-within : goal.returns-in-Unread-clause-within
returns-in-Unread-clause-within c = answer_within formats.Unread _ _ c.args.bytes.now c.begin.result c.begin.ensures

pub returns-in-Pcapng-clause-within : goal.returns-in-Pcapng-clause-within
returns-in-Pcapng-clause-within c = answer_within (formats.Pcapng c.in-Pcapng.order) _ _ c.args.bytes.now c.take_block.result c.take_block.ensures
