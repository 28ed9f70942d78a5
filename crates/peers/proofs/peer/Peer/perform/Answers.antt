use Rattle.std.proofs.Common.{sym, subst}
use Rattle.std.specs.Prelude.{vec_len}
use Rattle.entry_table.specs.AttachedProgram.{AskedTexts}
use Rattle.bus_messages.specs.declared.call.Call.{Call}
use Rattle.peers.specs.Attachments.{AttachesProgram}
use Rattle.peers.specs.Table.{Performs}
use Rattle.peers.proofs.peer.Peer.perform.Goals as goal

pub returns-in-Attach-clause-row : goal.returns-in-Attach-clause-row
returns-in-Attach-clause-row g c =
    let shares = c.args.context.now.shares in
    let P : AskedTexts → Type 0 = λ asked. AttachesProgram shares c.args.request c.in-Attach.edition (vec_len c.in-Attach.program) c.in-Attach.program.items asked c.args.self.now c.attach.result c.attach.new.self in
    let Q : Call → Type 0 = λ call. Performs g.M.Mailbox.outbox_of shares c.args.request call c.args.self.now c.attach.result c.attach.new.self in
    subst Q (sym c.in-Attach.is) (subst P c.none.ensures c.attach.ensures.row)
