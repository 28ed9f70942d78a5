use Rattle.message_build.proofs.OneAnswer.{valid_at_its_size}
use Rattle.message_build.proofs.finishing.valid_at_its_size.Goals as goal

pub returns : goal.returns
returns c = valid_at_its_size
