use Rattle.std.proofs.Common.{◌≡◌, ◌++◌, ◌∷◌, take, map}
use Rattle.signature.specs.Name.{bus_name}
use Rattle.unique_name.specs.UniqueNames.{unique_name}
use Rattle.peers.specs.LentTexts.{lent_texts}
use Rattle.peers.proofs.queries.all_name_texts.Given as goal

abbrev pub invariant-loop-name : goal.invariant-loop-name
invariant-loop-name l = lent_texts l.texts.items ≡ (bus_name ∷ map unique_name l.unique) ++ take l.name-index l.names
