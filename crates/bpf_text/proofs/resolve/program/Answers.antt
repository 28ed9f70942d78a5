use Rattle.std.proofs.Common.{◌≡◌, length, sym, ◌∙◌, inr, arith}
use Rattle.bpf_text.proofs.Programs.{line_kept, line_grown, front_none, lines_over, line_again}
use Rattle.bpf_text.proofs.resolve.program.Goals as goal
use Rattle.bpf_text.proofs.resolve.program.Goals.{in-Some+in_ok-ins+in_ok-push, in_default}

pub loop-index-preserved : goal.loop-index-preserved
loop-index-preserved c = elim c.match-noted.branch [
  | in-Some+in_ok-ins+in_ok-push w ↦
      let place : w.len.result ≡ length c.loop-index.program.items = omega (arith, w.len.ensures, c.loop-index.program.ok) in
      rw w.program-is
      (line_grown _ _ _ _ _ _ _ _ _ _ _ w.in_ok-ins.ins c.deref-noted-items.ensures.value c.loop-index-test.true c.if-noted.false w.in-Some.is place
      (sym w.resolve_row.ensures ∙ w.in_ok-ins.was) w.in_ok-push.ensures.items c.loop-index.invariant)
  | in_default w ↦ rw w.program-is
      (line_kept _ _ _ _ _ _ _ _ c.deref-noted-items.ensures.value c.loop-index-test.true c.if-noted.false w.in_default.is c.loop-index.invariant)
]

pub loop-index-init : goal.loop-index-init
loop-index-init c = rw c.new-program.ensures.items (front_none _)

pub returns-clause-found : goal.returns-clause-found
returns-clause-found c = lines_over _ _ _ _ _ _ _ c.deref-noted-items.ensures.value c.loop-index-test.false c.loop-index.invariant

pub returns-then-noted-clause-fault : goal.returns-then-noted-clause-fault
returns-then-noted-clause-fault c =
    inr (line_again _ _ _ _ _ _ _ _ c.deref-noted-items.ensures.value c.loop-index-test.true c.if-noted.true c.loop-index.invariant)
