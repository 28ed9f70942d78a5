use Rattle.std.proofs.Common.{Result}
use Rattle.router.specs.BusError.{BusError}
use Rattle.router.specs.Reply.{Reply}
use Rattle.router.specs.Passes.{PassState}
use Rattle.router.specs.Calls.{Once}
use Rattle.router.specs.Readings.{RemovesMatch}
use Rattle.peers.specs.Holdings.{after_remove}
use Rattle.peers.specs.HeldLists.{holdings_of}
use Rattle.peers.proofs.Rows.{confirmed}
use Rattle.peers.proofs.peer.Peer.remove_match.Goals as goal

pub returns-clause-row : goal.returns-clause-row
returns-clause-row g c =
    let P : PassState g.row.M.Denot → Result Reply BusError → PassState g.row.M.Denot → Type 0 = λ p asked pass. Once (λ before next. RemovesMatch c.args.text.now p before asked pass next) in
    confirmed c.args.request P after_remove _ c.args.self.now c.confirm.new.self c.remove_match-removed.result c.remove_match-removed.new.pass (holdings_of c.note_remove.new.self) c.confirm.result c.self.view_is c.remove_match-removed.ensures.answer c.note_remove.ensures c.confirm.ensures.row
