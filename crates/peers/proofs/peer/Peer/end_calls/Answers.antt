use Rattle.std.proofs.Common.{◌≡◌, ◌∙◌, ap, arith}
use Rattle.router.specs.OpenCalls.{shard_count}
use Rattle.peers.specs.PeerState.{PeerState}
use Rattle.peers.proofs.Calling.{all_ended, ends_more}
use Rattle.peers.proofs.peer.Peer.end_calls.Goals as goal

pub loop-shard-preserved : goal.loop-shard-preserved
loop-shard-preserved g c =
    let told = c.end_calls_to-told in
    ends_more g.M.Mailbox.outbox_of c.connection-number.result c.loop-shard.shard _ _ c.args.self.now _ told.new.self c.loop-shard.answered told.result c.and-answered.result c.loop-shard.invariant told.ensures c.and-answered.ensures

pub returns : goal.returns
returns g c =
    let number : c.connection-number.result ≡ c.args.self.now.pass.connection = c.connection-number.ensures ∙ ap (λ (v : PeerState g.row.M.Denot). v.pass.connection) c.self.view_is in
    let all : c.loop-shard.shard ≡ shard_count = omega (arith, c.loop-shard-test.false, c.loop-shard.auto.shard-end) in
    all_ended g.M.Mailbox.outbox_of c.connection-number.result c.loop-shard.shard c.args.self.now c.loop-shard.self c.loop-shard.answered number all c.loop-shard.invariant
