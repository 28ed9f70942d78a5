use Rattle.captures.proofs.FileContents.{calls_first}
use Rattle.captures.proofs.laws.given_come_first.Goals as goal

pub returns : goal.returns
returns c = calls_first
