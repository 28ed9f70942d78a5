use Rattle.std.proofs.Common.{◌≡◌, ◌+◌, ◌-◌, length, take, drop, arith}
use Rattle.std.proofs.lemmas.Grind.{common_steps}
use Rattle.bpf_text.proofs.Lines.{line_ends, line_last}
use Rattle.bpf_text.proofs.assembler.split_line.Goals as goal

pub returns-in-Some-clause-lines : goal.returns-in-Some-clause-lines
returns-in-Some-clause-lines c =
    let rest : take (length c.args.bytes.now - (c.in-Some.end + 1)) (drop (c.in-Some.end + 1) c.args.bytes.now) ≡ drop (c.in-Some.end + 1) c.args.bytes.now = grind (arith, common_steps) in
    rw rest (line_ends c.args.bytes.now c.in-Some.end c.in-Some.ensures)

pub returns-in-None-clause-lines : goal.returns-in-None-clause-lines
returns-in-None-clause-lines c = line_last c.args.bytes.now c.in-None.ensures
