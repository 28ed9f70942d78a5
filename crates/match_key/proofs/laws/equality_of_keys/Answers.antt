use Rattle.match_key.proofs.KeyEquality.{keys_decide}
use Rattle.match_key.proofs.laws.equality_of_keys.Goals as goal

pub returns : goal.returns
returns c = keys_decide
