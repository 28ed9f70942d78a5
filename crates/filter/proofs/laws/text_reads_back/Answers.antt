use Rattle.filter.proofs.ReadBack.{text_reads_back}
use Rattle.filter.proofs.laws.text_reads_back.Goals as goal

pub returns : goal.returns
returns c = text_reads_back
