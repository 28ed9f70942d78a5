use Rattle.message_view.proofs.OneMessage.{one_message}
use Rattle.message_view.proofs.view.one_message.Goals as goal

pub returns : goal.returns
returns c = one_message
