use Rattle.std.proofs.Common.{◌≡◌, take, map}
use Rattle.unique_name.specs.UniqueNames.{unique_name}
use Rattle.peers.specs.LentTexts.{lent_texts}
use Rattle.peers.proofs.queries.texts_of.Given as goal

abbrev pub invariant-loop-owner : goal.invariant-loop-owner
invariant-loop-owner l = lent_texts l.texts.items ≡ map unique_name (take l.owner-index l.unique)
