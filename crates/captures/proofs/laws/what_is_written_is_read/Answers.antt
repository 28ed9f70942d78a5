use Rattle.captures.proofs.WrittenFiles.{file_read}
use Rattle.captures.proofs.laws.what_is_written_is_read.Goals as goal

pub returns : goal.returns
returns c = file_read
