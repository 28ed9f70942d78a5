use Rattle.command_line.specs.Files.{Content}
use Rattle.dbusfan_tool.specs.FirstBytes.{FailsToRead}
use Rattle.dbusfan_tool.proofs.StepFaults.{handed_on}
use Rattle.dbusfan_tool.proofs.Opened.{not_opened, fails_to_read}
use Rattle.dbusfan_tool.proofs.file_judging.begin.Goals as goal

pub returns-in_err-open-clause-fault : goal.returns-in_err-open-clause-fault
returns-in_err-open-clause-fault g c =
    let gave : Content → Type 0 = λ content. g.F.Files.gives c.args.files.now c.args.file.now content c.open.new.self in
    handed_on (FailsToRead gave) _ _ c.from_residual.ensures.1 (fails_to_read gave c.in_err-open.field-0.0 (not_opened gave c.in_err-open.field-0.0 c.in_err-open.ensures))

pub returns-in_err-beginning-clause-fault : goal.returns-in_err-beginning-clause-fault
returns-in_err-beginning-clause-fault g c =
    let gave : Content → Type 0 = λ content. g.F.Files.gives c.args.files.now c.args.file.now content c.read.new.files in
    handed_on (FailsToRead gave) _ _ c.from_residual-in_err-beginning.ensures.1 (fails_to_read gave c.in_err-beginning.field-0.0 (c.in_err-beginning.ensures _ _ c.in_ok-open.ensures))

pub returns-clause-found : goal.returns-clause-found
returns-clause-found g c =
    let begun = c.in_ok-beginning.ensures _ _ c.in_ok-open.ensures in
    (begun.0, λ _. begun.1)
