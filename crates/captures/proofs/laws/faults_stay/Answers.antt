use Rattle.captures.proofs.FileContents.{fault_stays}
use Rattle.captures.proofs.laws.faults_stay.Goals as goal

pub returns : goal.returns
returns c = fault_stays
