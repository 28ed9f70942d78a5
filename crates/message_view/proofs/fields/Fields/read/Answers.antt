use Rattle.std.proofs.Common.{sym, refl, arith}
use Rattle.std.proofs.lemmas.Result.{err_from_is_err_and}
use Rattle.message_view.proofs.Loop.{at_start, goes_on, stops, at_end, extents_end}
use Rattle.message_view.proofs.fields.Fields.read.Goals as goal

pub loop-cursor-init : goal.loop-cursor-init
loop-cursor-init c = rw c.new-cursor.ensures (at_start c.args.order _ _ c.requires.none.0 c.requires.none.1 (λ i. omega (arith, c.type_inv.bytes i)))

pub loop-cursor-smaller : goal.loop-cursor-smaller
loop-cursor-smaller c =
    let so_far = c.loop-cursor.invariant in
    (goes_on _ _ _ _ _ _ _ so_far (sym c.loop-cursor-test.ensures) (c.in_ok-read_next.ensures c.args.place so_far.front so_far.is)).1

pub loop-cursor-preserved : goal.loop-cursor-preserved
loop-cursor-preserved c =
    let so_far = c.loop-cursor.invariant in
    (goes_on _ _ _ _ _ _ _ so_far (sym c.loop-cursor-test.ensures) (c.in_ok-read_next.ensures c.args.place so_far.front so_far.is)).0

pub returns-in_err-read_next : goal.returns-in_err-read_next
returns-in_err-read_next c =
    let p = err_from_is_err_and c.from_residual.result c.from_residual.ensures.1 in
    let so_far = c.loop-cursor.invariant in
    record {
      read = rw (stops _ _ _ _ _ _ so_far (sym c.loop-cursor-test.ensures) (c.in_err-read_next.ensures c.args.place so_far.front so_far.is), p.1, p.2) refl;
      lie = λ front is. rw p.1 tt;
    }

pub returns-clause-read : goal.returns-clause-read
returns-clause-read c = at_end _ _ _ _ _ c.loop-cursor.invariant (sym c.loop-cursor-test.ensures)

pub returns-clause-lie : goal.returns-clause-lie
returns-clause-lie c = λ front is. extents_end _ _ _ _ _ front c.loop-cursor.invariant (sym c.loop-cursor-test.ensures) is
