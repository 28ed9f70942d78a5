use Rattle.std.proofs.Common.{arith}
use Rattle.dbusfan_tool.proofs.NearestKept.{put_and_kept}
use Rattle.dbusfan_tool.proofs.nearest.put_near.Goals as goal

pub insert-requires : goal.insert-requires
insert-requires c = omega (arith, c.place_of-place.ensures.few, c.deref.ensures.len)

pub returns : goal.returns
returns c =
    let place = rw (c.misses.ensures, c.deref.ensures.value) at c.place_of-place.ensures.value in
    put_and_kept c.args.count c.place_of-place.result c.args.miss c.args.nearest.now.items _ _ place c.in_ok-insert.ensures.items c.truncate.ensures.items
