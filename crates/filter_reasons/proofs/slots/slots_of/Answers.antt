use Rattle.std.proofs.Common.{length}
use Rattle.filter.specs.FilterTree.{FilterTree}
use Rattle.filter.specs.Filters.{tree_of}
use Rattle.filter_reasons.proofs.FilterSlots.{agree_first, counted}
use Rattle.filter_reasons.proofs.slots.slots_of.Goals as goal

pub returns-clause-owned : goal.returns-clause-owned
returns-clause-owned c =
    let tree : FilterTree = tree_of c.args.filter.now in
    let names = counted c.as_slice-count.result.now c.in_ok-names.names tree c.as_slice-count.ensures c.in_ok-names.ensures.value in
    rw c.if-not-owns.false (c.first_slots.ensures.set, agree_first tree c.first_slots.result (length c.as_slice-count.result.now) names c.first_slots.ensures.first)
