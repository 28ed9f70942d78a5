use Rattle.bpf_code.proofs.OneTable.{one_row}
use Rattle.bpf_code.proofs.laws.a_row_has_one_code.Goals as goal

pub returns : goal.returns
returns c = λ code op. one_row code op
