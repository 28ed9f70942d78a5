use Rattle.std.specs.Prelude.{not, get_or}
use Rattle.std.proofs.Common.{sym, ap, ◌∙◌, arith}
use Rattle.summary.specs.Sets.{has_slot}
use Rattle.owners.specs.declared.claim.SlotClaim.{SlotClaim}
use Rattle.owners.proofs.MarkedSlots.{rest_at, owned_more, slots_rest}
use Rattle.owners.proofs.marks.owned_slots.Goals as goal

pub add_owned-requires : goal.add_owned-requires
add_owned-requires c =
    let cs = c.args.claims.now in
    let i = c.loop-claim.claim-index in
    let zero : SlotClaim = record { connection = 0; flags = 0; slot = 0 } in
    let x = get_or cs i zero in
    let e = rest_at cs i zero (omega arith) in
    record { inside = (slots_rest cs i x e c.loop-claim.invariant.slots).0; set = c.loop-claim.invariant.set }

pub insert-requires : goal.insert-requires
insert-requires c =
    let cs = c.args.claims.now in
    let i = c.loop-claim.claim-index in
    let zero : SlotClaim = record { connection = 0; flags = 0; slot = 0 } in
    let x = get_or cs i zero in
    let e = rest_at cs i zero (omega arith) in
    (slots_rest cs i x e c.loop-claim.invariant.slots).0

pub loop-claim-preserved : goal.loop-claim-preserved
loop-claim-preserved c =
    let cs = c.args.claims.now in
    let i = c.loop-claim.claim-index in
    let zero : SlotClaim = record { connection = 0; flags = 0; slot = 0 } in
    let x = get_or cs i zero in
    let seen = c.loop-claim.seen in
    let first = not c.contains-is_first.result in
    let e = rest_at cs i zero (omega arith) in
    record {
      slots = (slots_rest cs i x e c.loop-claim.invariant.slots).1;
      set = c.add_owned.ensures.set;
      owned = λ slot. owned_more cs i c.args.connection x slot (has_slot seen slot) (has_slot c.loop-claim.owned slot) first (has_slot c.add_owned.new.owned slot) (has_slot c.insert.new.self slot) e (c.add_owned.ensures.slots slot) (c.insert.ensures.inserted slot) (λ q. ap not (c.contains-is_first.ensures ∙ ap (has_slot seen) (sym q))) (c.loop-claim.invariant.owned slot);
    }
