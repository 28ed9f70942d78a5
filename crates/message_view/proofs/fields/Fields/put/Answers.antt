use Rattle.message_view.proofs.Kept.{slot_written}
use Rattle.message_view.proofs.KeptExtents.{slot_lies_written}
use Rattle.message_view.proofs.fields.Fields.put.Goals as goal

pub returns-clause-shows : goal.returns-clause-shows
returns-clause-shows c = slot_written c.args.self.now.slots _ _ c.args.content c.slot.ensures

pub returns-clause-lie : goal.returns-clause-lie
returns-clause-lie c = slot_lies_written c.args.self.now.slots _ _ c.args.content c.slot.ensures
