use Rattle.dbusfan_tool.proofs.Compiled.{of_no_program, of_print_fault, fails, of_text}
use Rattle.dbusfan_tool.proofs.compiling.compile_text.Goals as goal

pub returns-in_err-program-clause-fault : goal.returns-in_err-program-clause-fault
returns-in_err-program-clause-fault c = fails _ _ _ c.from_residual.ensures.1 (of_no_program _ _ c.in_err-program.ensures.fault)

pub returns-in_err-text-clause-fault : goal.returns-in_err-text-clause-fault
returns-in_err-text-clause-fault c =
    let fault = rw c.code.ensures.value at c.in_err-text.ensures.fault in
    fails _ _ _ c.from_residual-in_err-text.ensures.1 (of_print_fault _ _ c.in_err-text.field-0.0 c.code.ensures.well_formed fault)

pub returns-clause-found : goal.returns-clause-found
returns-clause-found c =
    let source = rw c.code.ensures.value at c.in_ok-text.ensures.source in
    let found = c.in_ok-program.ensures.found in
    of_text _ found.0 _ _ found.1 source c.code.ensures.well_formed found.2
