use Rattle.std.proofs.Common.{Result, false}
use Rattle.router.specs.BusError.{BusError}
use Rattle.router.specs.Command.TheVariants.{Detach}
use Rattle.router.specs.Reply.{Reply}
use Rattle.router.specs.Passes.{PassState}
use Rattle.router.specs.Calls.{Once, Answers}
use Rattle.peers.specs.Holdings.{after_detach}
use Rattle.peers.specs.HeldLists.{holdings_of}
use Rattle.peers.proofs.Rows.{confirmed}
use Rattle.peers.proofs.peer.Peer.detach.Goals as goal

pub returns-clause-row : goal.returns-clause-row
returns-clause-row g c =
    let P : PassState g.row.M.Denot → Result Reply BusError → PassState g.row.M.Denot → Type 0 = λ p asked pass. Once (λ before next. Answers false p before (Detach p.connection c.args.id) asked pass next) in
    confirmed c.args.request P (after_detach c.args.id) _ c.args.self.now c.confirm.new.self c.detach-detached.result c.detach-detached.new.pass (holdings_of c.note_detach.new.self) c.confirm.result c.self.view_is c.detach-detached.ensures.answer c.note_detach.ensures c.confirm.ensures.row
