use Rattle.frames.proofs.FaultStays.{faults_stay_lem}
use Rattle.frames.proofs.laws.faults_stay.Goals as goal

pub returns : goal.returns
returns c = faults_stay_lem
