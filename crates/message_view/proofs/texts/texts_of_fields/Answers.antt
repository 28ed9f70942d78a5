use Rattle.message_view.proofs.FieldTexts.{fields_sliced}
use Rattle.message_view.proofs.texts.texts_of_fields.Goals as goal

pub returns : goal.returns
returns c = fields_sliced
