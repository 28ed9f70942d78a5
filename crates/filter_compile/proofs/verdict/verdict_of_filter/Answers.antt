use Rattle.std.proofs.Math.Nat.{le_trans}
use Rattle.filter.specs.FilterTree.{FilterTree}
use Rattle.filter.specs.Filters.{tree_of}
use Rattle.filter_compile.proofs.verdict.verdict_of_filter.Goals as goal

pub returns-clause-decided : goal.returns-clause-decided
returns-clause-decided c =
    let f : FilterTree = tree_of c.in_ok-filter.filter in
    let h = c.outcome_on.ensures in
    record {
      filter = f;
      reads = c.in_ok-filter.ensures.found;
      message = h.message;
      valid = h.valid;
      within = le_trans h.within h.accepted.few;
      decides = λ owned set agree. c.in_ok-program.ensures.compiled c.args.view.now h.message c.args.owned.now owned _ _ h.valid set agree h.ends;
    }
