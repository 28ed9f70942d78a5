use Rattle.std.proofs.Common.{length, sym, ◌∙◌, arith}
use Rattle.std.specs.Prelude.{◌≤◌}
use Rattle.std.proofs.lemmas.Grind.{common_steps}
use Rattle.auth.proofs.LineEnds.{ends_here, goes_on, line_there}
use Rattle.auth.proofs.line.add.Goals as goal

pub returns-then-ends-clause-state : goal.returns-then-ends-clause-state
returns-then-ends-clause-state c =
    let test = sym (rw c.as_slice.ensures.value at c.is_line_end-ends.ensures) ∙ c.if-ends.true in
    let there : 1 ≤ length c.loop-i.line.items = line_there c.loop-i.line.items _ test in
    (ends_here c.loop-i.line.items c.push.new.self.items _ c.loop-i.invariant.open_line c.push.ensures.items test, omega arith, omega arith)

pub returns-then-len-eq-MAX_LINE_LEN-clause-state : goal.returns-then-len-eq-MAX_LINE_LEN-clause-state
returns-then-len-eq-MAX_LINE_LEN-clause-state c =
    let test = sym (rw c.as_slice.ensures.value at c.is_line_end-ends.ensures) ∙ c.if-ends.false in
    (goes_on c.loop-i.line.items c.push.new.self.items _ c.loop-i.invariant.open_line c.push.ensures.items test, omega arith)

pub loop-i-preserved : goal.loop-i-preserved
loop-i-preserved c =
    let test = sym (rw c.as_slice.ensures.value at c.is_line_end-ends.ensures) ∙ c.if-ends.false in
    record {
      line_is = grind (arith, common_steps);
      open_line = goes_on c.loop-i.line.items c.push.new.self.items _ c.loop-i.invariant.open_line c.push.ensures.items test;
      room = omega arith;
    }
