use Rattle.std.proofs.Common.{◌≡◌, rules}
use Rattle.jump_islands.specs.Tails.{with_islands}
use Rattle.jump_islands.proofs.NearPlaces.{both_near}
use Rattle.jump_islands.proofs.tail.Tail.add_branch.Goals as goal

pub distance-jt-requires-clause-near : goal.distance-jt-requires-clause-near
distance-jt-requires-clause-near c =
    let e : c.add_island-2.new.self ≡ with_islands c.args.yes c.args.no c.args.self.now = search rules in
    rw e (both_near c.args.yes c.args.no c.args.self.now c.requires.yes c.requires.no).0

pub distance-jf-requires-clause-near : goal.distance-jf-requires-clause-near
distance-jf-requires-clause-near c =
    let e : c.add_island-2.new.self ≡ with_islands c.args.yes c.args.no c.args.self.now = search rules in
    rw e (both_near c.args.yes c.args.no c.args.self.now c.requires.yes c.requires.no).1
