use Rattle.std.proofs.Common.{Result, sym, ◌∙◌}
use Rattle.router.specs.BusError.{BusError}
use Rattle.router.specs.Reply.{Reply}
use Rattle.router.specs.Passes.{PassState}
use Rattle.router.specs.Calls.{Once}
use Rattle.router.specs.Readings.{AddsMatch}
use Rattle.peers.specs.Holdings.{after_add}
use Rattle.peers.specs.HeldLists.{holdings_of}
use Rattle.peers.specs.PeerState.{PeerState}
use Rattle.peers.specs.Shares.{rule_limit}
use Rattle.peers.proofs.Rows.{confirmed}
use Rattle.peers.proofs.Sharing.{within_share}
use Rattle.peers.proofs.peer.Peer.add_match.Goals as goal

pub returns-clause-row : goal.returns-clause-row
returns-clause-row g c =
    let P : PassState g.row.M.Denot → Result Reply BusError → PassState g.row.M.Denot → Type 0 = λ p asked pass. Once (λ before next. AddsMatch c.args.text.now p before asked pass next) in
    let v : PeerState g.row.M.Denot = c.args.self.now in
    within_share (rule_limit c.args.context.now.shares) c.args.request _ _ v c.confirm.new.self c.confirm.result c.self.view_is (sym c.rule_limit.ensures.limit ∙ c.in_default.is)
    (confirmed c.args.request P after_add _ v c.confirm.new.self c.add_match-added.result c.add_match-added.new.pass (holdings_of c.note_add.new.self) c.confirm.result c.self.view_is c.add_match-added.ensures.answer c.note_add.ensures c.confirm.ensures.row)
