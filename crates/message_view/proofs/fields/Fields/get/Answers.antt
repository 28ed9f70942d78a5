use Rattle.message_view.proofs.Kept.{slot_shown}
use Rattle.message_view.proofs.KeptExtents.{slot_lies}
use Rattle.message_view.proofs.fields.Fields.get.Goals as goal

pub returns-clause-value : goal.returns-clause-value
returns-clause-value c = slot_shown c.args.self.now.slots _ _ c.slot.ensures

pub returns-clause-extent : goal.returns-clause-extent
returns-clause-extent c = slot_lies c.args.self.now.slots _ _ c.slot.ensures
