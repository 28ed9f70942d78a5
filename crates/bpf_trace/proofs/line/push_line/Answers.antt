use Rattle.std.proofs.Common.{sym, append-nil}
use Rattle.bpf_trace.proofs.line.push_line.Goals as goal

pub returns-in-None : goal.returns-in-None
returns-in-None c = rw (c.instruction_at-ins.ensures, ← c.in-None.ensures) (sym (append-nil _))
