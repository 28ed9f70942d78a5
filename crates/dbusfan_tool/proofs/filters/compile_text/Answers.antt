use Rattle.dbusfan_tool.proofs.FilterCompiled.{of_read_fault, of_refusal, of_no_program, of_print_fault, fails, of_text}
use Rattle.dbusfan_tool.proofs.filters.compile_text.Goals as goal

pub returns-in_err-filter-clause-fault : goal.returns-in_err-filter-clause-fault
returns-in_err-filter-clause-fault c =
    fails _ _ _ c.from_residual.ensures.1 (of_no_program _ _ (of_read_fault _ c.in_err-filter.field-0.0 c.in_err-filter.ensures.exact))

pub returns-in_err-program-clause-fault : goal.returns-in_err-program-clause-fault
returns-in_err-program-clause-fault c =
    let refusal = c.in_err-program.ensures.refused in
    fails _ _ _ (rw refusal.2 at c.from_residual-in_err-program.ensures.1) (of_no_program _ _ (of_refusal _ _ c.in_ok-filter.ensures.found refusal.0 refusal.1))

pub returns-in_err-text-clause-fault : goal.returns-in_err-text-clause-fault
returns-in_err-text-clause-fault c =
    let fault = rw c.code.ensures.value at c.in_err-text.ensures.fault in
    fails _ _ _ c.from_residual-in_err-text.ensures.1 (of_print_fault _ _ c.in_err-text.field-0.0 c.code.ensures.well_formed fault)

pub returns-clause-found : goal.returns-clause-found
returns-clause-found c =
    let source = rw c.code.ensures.value at c.in_ok-text.ensures.source in
    of_text _ _ _ _ c.in_ok-filter.ensures.found source c.code.ensures.well_formed c.in_ok-program.ensures.compiled
