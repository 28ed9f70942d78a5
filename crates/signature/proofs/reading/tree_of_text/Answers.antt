use Rattle.signature.proofs.TreesOfTexts.{type_of-TypeText, tree_spelled}
use Rattle.signature.proofs.reading.tree_of_text.Goals as goal

pub returns : goal.returns
returns c = λ type text. (tree_spelled type text, λ is. type_of-TypeText type text is.0 is.1)
