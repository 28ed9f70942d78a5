use Rattle.std.proofs.Common.{[], inl, inr, refl, ap}
use Rattle.command_line.specs.CommandRow.{to_run}
use Rattle.command_line.specs.Files.{MadeReads}
use Rattle.command_line.specs.Output.{none}
use Rattle.dbusfan_tool.specs.Answer.{Said, failing}
use Rattle.dbusfan_tool.specs.FileJudgements.{SaysOfFile}
use Rattle.dbusfan_tool.specs.Judges.{by_program}
use Rattle.dbusfan_tool.specs.Tool.{Tool, no_program}
use Rattle.dbusfan_tool.proofs.FileSaid.{ran_after}
use Rattle.dbusfan_tool.proofs.Saying.{says_too}
use Rattle.dbusfan_tool.proofs.running.answer.Goals as goal

pub returns-in-Ok : goal.returns-in-Ok
returns-in-Ok g c =
    let program = c.in-Ok.ensures.found in
    let judge = by_program c.in-Ok.program c.args.edition c.args.trace in
    let said = c.answer.ensures judge c.of_program-program_judge.ensures in
    let file_says : Said → Type 0 = SaysOfFile (λ next. g.F.Files.gives c.verified_file.new.files c.args.file.now next c.answer.new.files) judge c.args.each in
    let row_says : Said → Type 0 = Tool (MadeReads g.F.Files.gives c.args.files.now c.answer.new.files) (to_run c.args.program.now c.args.file.now c.args.edition c.args.each c.args.trace) in (
      said.0,
      said.1,
      says_too file_says row_says said.0 c.answer.result
          (λ said says. ran_after g.F.Files.gives c.args.files.now c.verified_file.new.files c.answer.new.files c.args.program.now c.args.file.now c.args.edition c.args.each c.args.trace c.in-Ok.program said program.0 program.1 says) said.2,
    )

pub returns-in-Err : goal.returns-in-Err
returns-in-Err g c =
    ([], none, elim c.in-Err.ensures.fault [ inl fails ↦ inl (no_program fails) | inr short ↦ inr (refl, ap failing short) ])
