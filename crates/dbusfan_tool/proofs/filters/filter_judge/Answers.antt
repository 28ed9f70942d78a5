use Rattle.filter.specs.Filters.{tree_of}
use Rattle.dbusfan_tool.proofs.FilterCompiled.{of_read_fault, of_refusal, not_compiled}
use Rattle.dbusfan_tool.proofs.filters.filter_judge.Goals as goal

pub returns-in_err-filter-clause-fault : goal.returns-in_err-filter-clause-fault
returns-in_err-filter-clause-fault c =
    not_compiled _ _ _ c.from_residual.ensures.1 (of_read_fault _ c.in_err-filter.field-0.0 c.in_err-filter.ensures.exact)

pub returns-in_err-program-clause-fault : goal.returns-in_err-program-clause-fault
returns-in_err-program-clause-fault c =
    let refusal = c.in_err-program.ensures.refused in
    not_compiled _ _ _ (rw refusal.2 at c.from_residual-in_err-program.ensures.1) (of_refusal _ _ c.in_ok-filter.ensures.found refusal.0 refusal.1)

pub returns-in_err-slots-clause-fault : goal.returns-in_err-slots-clause-fault
returns-in_err-slots-clause-fault c =
    let refusal = c.in_err-slots.ensures.refused in
    not_compiled _ _ _ (rw refusal.2 at c.from_residual-in_err-slots.ensures.1) (of_refusal _ _ c.in_ok-filter.ensures.found refusal.0 refusal.1)

pub returns-clause-found : goal.returns-clause-found
returns-clause-found c =
    let owned = c.in_ok-slots.ensures.owned in
    (tree_of c.in_ok-filter.filter, c.in_ok-filter.ensures.found, c.of_filter.ensures c.in_ok-program.ensures.compiled owned.0 owned.1)
