use Rattle.passes.proofs.HeardAlike.{heard_by_the_same}
use Rattle.passes.proofs.laws.bus_is_heard_by_the_same.Goals as goal

pub returns : goal.returns
returns g c s connection call m numbers heard = heard_by_the_same s connection call m numbers heard
