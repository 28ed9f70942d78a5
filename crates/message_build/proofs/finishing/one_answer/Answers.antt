use Rattle.message_build.proofs.OneAnswer.{one_answer}
use Rattle.message_build.proofs.finishing.one_answer.Goals as goal

pub returns : goal.returns
returns c = one_answer
