use Rattle.std.proofs.Common.{sym, arith}
use Rattle.message_view.proofs.Loop.{at_start, goes_on, next_read, extents_end, shows_end}
use Rattle.message_view.proofs.fields.Fields.read_valid.Goals as goal

pub loop-cursor-init : goal.loop-cursor-init
loop-cursor-init c = rw c.new-cursor.ensures (at_start c.args.order _ _ c.requires.none.0 c.requires.none.1 (λ i. omega (arith, c.type_inv.bytes i)))

pub add_valid-requires : goal.add_valid-requires
add_valid-requires c =
    let so_far = c.loop-cursor.invariant in
    (so_far.front, next_read _ _ _ _ _ _ so_far (sym c.loop-cursor-test.ensures) c.requires.valid.1)

pub loop-cursor-smaller : goal.loop-cursor-smaller
loop-cursor-smaller c =
    let so_far = c.loop-cursor.invariant in
    let read = next_read _ _ _ _ _ _ so_far (sym c.loop-cursor-test.ensures) c.requires.valid.1 in
    (goes_on _ _ _ _ _ _ _ so_far (sym c.loop-cursor-test.ensures) (c.add_valid.ensures c.args.place so_far.front so_far.is read)).1

pub loop-cursor-preserved : goal.loop-cursor-preserved
loop-cursor-preserved c =
    let so_far = c.loop-cursor.invariant in
    let read = next_read _ _ _ _ _ _ so_far (sym c.loop-cursor-test.ensures) c.requires.valid.1 in
    (goes_on _ _ _ _ _ _ _ so_far (sym c.loop-cursor-test.ensures) (c.add_valid.ensures c.args.place so_far.front so_far.is read)).0

pub returns-clause-read : goal.returns-clause-read
returns-clause-read c = λ front is. shows_end _ _ _ _ _ front c.loop-cursor.invariant (sym c.loop-cursor-test.ensures) is

pub returns-clause-lie : goal.returns-clause-lie
returns-clause-lie c = λ front is. extents_end _ _ _ _ _ front c.loop-cursor.invariant (sym c.loop-cursor-test.ensures) is
