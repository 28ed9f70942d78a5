use Rattle.std.proofs.Common.{ℕ, List, sym, subst}
use Rattle.message_view.specs.Valid.{Valid}
use Rattle.dbusfan_tool.proofs.capturing.finding_of.Goals as goal

pub returns-in_ok-judgement-in-Ok : goal.returns-in_ok-judgement-in-Ok
returns-in_ok-judgement-in-Ok c = λ judge serves.
    let found = c.in-Ok.ensures.found in
    let valid = subst (λ (bytes : List ℕ). Valid bytes found.1.0) (sym found.0) found.1.1 in
    let is = rw found.0 at (c.in_ok-judgement-in-Ok.ensures judge found.1.0 serves valid) in
    (c.if-packet.false, rw c.message.ensures at is)

pub returns-in-Err : goal.returns-in-Err
returns-in-Err c = λ judge serves. (c.if-packet.false, rw c.message.ensures at c.in-Err.ensures.fault)
