use Rattle.filter.proofs.Spelled.{found_of, only_of}
use Rattle.filter.proofs.filter.Filter.read.Goals as goal

pub returns-clause-found : goal.returns-clause-found
returns-clause-found c = found_of c.args.text.now c.read_text.result c.read_text.ensures

pub returns-clause-only : goal.returns-clause-only
returns-clause-only c = λ filter is. only_of c.args.text.now c.read_text.result filter c.read_text.ensures is
