use Rattle.std.proofs.Common.{ℕ, Result, inl, ap, subst, ◌∙◌}
use Rattle.router.specs.BusError.{BusError}
use Rattle.router.specs.Reply.{Reply}
use Rattle.router.specs.Passes.{PassState}
use Rattle.router.specs.Calls.{Once}
use Rattle.router.specs.Readings.{Attaches}
use Rattle.peers.specs.HeldLists.{holdings_of}
use Rattle.peers.specs.Holdings.{HoldingsState, after_attach}
use Rattle.peers.specs.PeerState.{PeerState}
use Rattle.peers.specs.Rows.{NumbersEntry}
use Rattle.peers.specs.Shares.{WithinShare, WithinMemory, WithinAll, program_limit}
use Rattle.peers.proofs.Rows.{numbered}
use Rattle.peers.proofs.Sharing.{within_share}
use Rattle.peers.proofs.peer.Peer.attach.Goals as goal

pub returns-clause-row : goal.returns-clause-row
returns-clause-row g c =
    let P : PassState g.row.M.Denot → Result Reply BusError → PassState g.row.M.Denot → Type 0 = λ p asked pass. Once (λ before next. Attaches c.args.edition c.args.program.items c.args.asked p before asked pass next) in
    let v : PeerState g.row.M.Denot = c.args.self.now in
    let len = c.len-len.ensures in
    let change : ℕ → Result Reply BusError → HoldingsState → HoldingsState = after_attach in
    let W : ℕ → Type 0 = λ n. WithinShare (program_limit c.args.context.now.shares n v.holdings) c.args.request (WithinMemory c.args.request (WithinAll c.args.request (NumbersEntry c.args.request (P v.pass) (change n) v c.answer_entry.result c.answer_entry.new.self) v c.answer_entry.result c.answer_entry.new.self) v c.answer_entry.result c.answer_entry.new.self) v c.answer_entry.result c.answer_entry.new.self in
    subst W len (within_share (program_limit c.args.context.now.shares c.len-len.result) c.args.request _ _ v c.answer_entry.new.self c.answer_entry.result c.self.view_is c.in_default.ensures.within
    (inl (inl (numbered c.args.request P (change c.len-len.result) _ v c.answer_entry.new.self c.attach-attached.result c.attach-attached.new.pass (holdings_of c.note_attach.new.self) c.answer_entry.result c.self.view_is c.attach-attached.ensures.answer
    (c.note_attach.ensures ∙ ap (change c.len-len.result c.attach-attached.result) c.admit_program.ensures.same) c.answer_entry.ensures.row))))
