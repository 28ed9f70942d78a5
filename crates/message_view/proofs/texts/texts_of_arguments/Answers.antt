use Rattle.message_view.proofs.ArgumentPlaces.{arguments_lie}
use Rattle.message_view.proofs.texts.texts_of_arguments.Goals as goal

pub returns : goal.returns
returns c = arguments_lie
