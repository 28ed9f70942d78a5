use Rattle.std.proofs.Common.{◌≡◌, ◌+◌, ◌-◌, ◌∙◌, ◌++◌, ◌∷◌, [], ap, length, length-drop, arith}
use Rattle.dbusfan_tool.proofs.Taken.{takes_message, takes_other, takes_skip, takes_none, takes_fault}
use Rattle.dbusfan_tool.proofs.capturing.take_packets.Goals as goal

pub loop-packet-preserved-in-Ok-Message : goal.loop-packet-preserved-in-Ok-Message
loop-packet-preserved-in-Ok-Message c =
    let gives = rw c.in-Ok-Message.field-0-is at c.in-Ok-Message.ensures.gives in
    let within = rw c.in-Ok-Message.field-0-is at c.in-Ok-Message.ensures.within in
    let left : length c.after-rest.result.now ≡ length c.args.bytes.now - c.loop-packet.taken = ap length c.after-rest.ensures ∙ length-drop c.loop-packet.taken c.args.bytes.now in (
      λ judge words each came written found passed serves tally at.
          let so = c.loop-packet.invariant.0 judge words each came written found passed serves tally at in (
            so.0 ++ c.in_ok-finding-in-Ok-Message.finding ∷ [],
            so.1,
            c.in_ok-take-in-Ok-Message.ensures words each written so.0 so.1 so.2,
            takes_message judge came so.0 so.1 c.loop-packet.packets c.next.new.self c.args.bytes.now c.after-rest.result.now c.loop-packet.taken so.3 c.after-rest.ensures c.in-Ok-Message.packet c.in_ok-finding-in-Ok-Message.finding gives (c.in_ok-finding-in-Ok-Message.ensures judge serves),
          ),
      omega (arith, left, within.3, c.loop-packet.invariant.1),
    )

pub loop-packet-preserved-in-Ok-Other : goal.loop-packet-preserved-in-Ok-Other
loop-packet-preserved-in-Ok-Other c =
    let gives = rw c.in-Ok-Other.field-0-is at c.in-Ok-Other.ensures.gives in
    let within = rw c.in-Ok-Other.field-0-is at c.in-Ok-Other.ensures.within in
    let left : length c.after-rest.result.now ≡ length c.args.bytes.now - c.loop-packet.taken = ap length c.after-rest.ensures ∙ length-drop c.loop-packet.taken c.args.bytes.now in (
      λ judge words each came written found passed serves tally at.
          let so = c.loop-packet.invariant.0 judge words each came written found passed serves tally at in (
            so.0,
            so.1 + 1,
            c.in_ok-pass_over-in-Ok-Other.ensures words each written so.0 so.1 so.2,
            takes_other judge came so.0 so.1 c.loop-packet.packets c.next.new.self c.args.bytes.now c.after-rest.result.now c.loop-packet.taken so.3 c.after-rest.ensures c.in-Ok-Other.len _ gives,
          ),
      omega (arith, left, within.0, within.1, c.loop-packet.invariant.1),
    )

pub loop-packet-preserved : goal.loop-packet-preserved
loop-packet-preserved c =
    let gives = rw c.in-Ok-Skip.field-0-is at c.in-Ok-Skip.ensures.gives in
    let within = rw c.in-Ok-Skip.field-0-is at c.in-Ok-Skip.ensures.within in
    let left : length c.after-rest.result.now ≡ length c.args.bytes.now - c.loop-packet.taken = ap length c.after-rest.ensures ∙ length-drop c.loop-packet.taken c.args.bytes.now in (
      λ judge words each came written found passed serves tally at.
          let so = c.loop-packet.invariant.0 judge words each came written found passed serves tally at in
          (so.0, so.1, so.2, takes_skip judge came so.0 so.1 c.loop-packet.packets c.next.new.self c.args.bytes.now c.after-rest.result.now c.loop-packet.taken so.3 c.after-rest.ensures c.in-Ok-Skip.len gives),
      omega (arith, left, within.0, within.1, c.loop-packet.invariant.1),
    )

pub returns-in-Ok-More-clause-takes : goal.returns-in-Ok-More-clause-takes
returns-in-Ok-More-clause-takes c judge words each came written found passed serves tally at =
    let gives = rw c.in-Ok-More.field-0-is at c.in-Ok-More.ensures.gives in
    let so = c.loop-packet.invariant.0 judge words each came written found passed serves tally at in
    let waits = takes_none judge came so.0 so.1 c.loop-packet.packets c.next.new.self c.args.bytes.now c.after-rest.result.now c.loop-packet.taken so.3 c.after-rest.ensures c.in-Ok-More.field-0-0 gives in
    (so.0, so.1, so.2, c.loop-packet.invariant.1, waits.0, waits.1)

pub returns-in-Err-clause-takes : goal.returns-in-Err-clause-takes
returns-in-Err-clause-takes c judge words each came written found passed serves tally at =
    let gives = rw c.in-Err.fault-is at c.in-Err.ensures.gives in
    let so = c.loop-packet.invariant.0 judge words each came written found passed serves tally at in
    (so.0, so.1, so.2, takes_fault judge came so.0 so.1 c.loop-packet.packets c.next.new.self c.args.bytes.now c.after-rest.result.now c.loop-packet.taken so.3 c.after-rest.ensures c.in-Err.fault gives.0)
