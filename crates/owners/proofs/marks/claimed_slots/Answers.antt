use Rattle.std.proofs.Common.{get_or, arith}
use Rattle.summary.specs.Sets.{has_slot}
use Rattle.owners.specs.declared.claim.SlotClaim.{SlotClaim}
use Rattle.owners.proofs.MarkedSlots.{rest_at, marked_more, slots_rest}
use Rattle.owners.proofs.marks.claimed_slots.Goals as goal

pub insert-requires : goal.insert-requires
insert-requires c =
    let cs = c.args.claims.now in
    let i = c.loop-claim.claim-index in
    let zero : SlotClaim = record { connection = 0; flags = 0; slot = 0 } in
    let x = get_or cs i zero in
    let e = rest_at cs i zero (omega arith) in
    (slots_rest cs i x e c.loop-claim.invariant.slots).0

pub loop-claim-preserved : goal.loop-claim-preserved
loop-claim-preserved c =
    let cs = c.args.claims.now in
    let i = c.loop-claim.claim-index in
    let zero : SlotClaim = record { connection = 0; flags = 0; slot = 0 } in
    let x = get_or cs i zero in
    let e = rest_at cs i zero (omega arith) in
    record {
      slots = (slots_rest cs i x e c.loop-claim.invariant.slots).1;
      marked = λ slot. marked_more cs i x slot (has_slot c.loop-claim.claimed slot) (has_slot c.insert.new.self slot) e (c.insert.ensures.inserted slot) (c.loop-claim.invariant.marked slot);
    }
