use Rattle.signature.proofs.TreesOfTexts.{types_of-SigText, trees_spelled}
use Rattle.signature.proofs.reading.trees_of_text.Goals as goal

pub returns : goal.returns
returns c = λ types text. (trees_spelled types text, types_of-SigText types text)
