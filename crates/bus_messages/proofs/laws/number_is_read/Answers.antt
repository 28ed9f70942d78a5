use Rattle.bus_messages.proofs.NumberArguments.{number_is}
use Rattle.bus_messages.proofs.laws.number_is_read.Goals as goal

pub returns : goal.returns
returns c = λ bytes m types n values valid typed valued. number_is bytes m types n values valid typed valued
