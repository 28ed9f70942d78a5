use Rattle.dbusfan_tool.specs.Program.{assembled}
use Rattle.dbusfan_tool.proofs.Programs.{of_file_fault, of_text_fault, fails}
use Rattle.dbusfan_tool.proofs.program.read.Goals as goal

pub returns-in_err-text-clause-fault : goal.returns-in_err-text-clause-fault
returns-in_err-text-clause-fault g c =
    fails _ _ _ c.from_residual.ensures.1 (of_file_fault _ c.in_err-text.field-0.0 c.in_err-text.ensures)

pub returns-in_err-program-clause-fault : goal.returns-in_err-program-clause-fault
returns-in_err-program-clause-fault g c =
    let fault = rw c.deref.ensures.value at c.in_err-program.ensures.fault in
    fails _ _ _ c.from_residual-in_err-program.ensures.1 (of_text_fault _ c.in_ok-text.text.items c.in_err-program.field-0.0 c.in_ok-text.ensures fault)

pub returns-clause-found : goal.returns-clause-found
returns-clause-found g c =
    let source = rw c.deref.ensures.value at c.in_ok-program.ensures.found in
    assembled c.in_ok-text.ensures source
