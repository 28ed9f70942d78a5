use Rattle.std.proofs.Common.{ap, ◌∙◌}
use Rattle.world_text.specs.Reads.{texts}
use Rattle.world_text.proofs.ListLines.{same_fault}
use Rattle.world_text.proofs.list.read_list.Goals as goal

pub returns-clause-fault : goal.returns-clause-fault
returns-clause-fault c = same_fault _ _ c.read_lines.result (ap texts c.as_slice.ensures.value ∙ c.in_ok-lines.ensures) c.read_lines.ensures.fault
