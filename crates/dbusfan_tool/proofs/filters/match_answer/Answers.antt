use Rattle.std.proofs.Common.{ℕ, List, [], Option, inl, inr, refl, ap, subst}
use Rattle.command_line.specs.CommandRow.{to_match_filter}
use Rattle.command_line.specs.Files.{MadeReads}
use Rattle.command_line.specs.Output.{none}
use Rattle.dbusfan_tool.specs.Answer.{Said, failing}
use Rattle.dbusfan_tool.specs.FileJudgements.{SaysOfFile}
use Rattle.dbusfan_tool.specs.Judges.{by_filter}
use Rattle.dbusfan_tool.specs.Serving.{Serves}
use Rattle.dbusfan_tool.specs.Tool.{Tool, front_of, no_filter, filtered}
use Rattle.dbusfan_tool.proofs.Saying.{says_too}
use Rattle.dbusfan_tool.proofs.filters.match_answer.Goals as goal

pub returns-in-Ok : goal.returns-in-Ok
returns-in-Ok g c =
    let filter = c.in-Ok.ensures.found in
    let serves = subst (λ (front : Option (List ℕ)). Serves (by_filter filter.0 c.args.owns front) c.in-Ok.judge) c.front_of.ensures filter.2 in
    let judge = by_filter filter.0 c.args.owns (front_of c.args.why c.args.each) in
    let said = c.answer.ensures judge serves in
    let file_says : Said → Type 0 = SaysOfFile (λ content. g.F.Files.gives c.args.files.now c.args.file.now content c.answer.new.files) judge c.args.each in
    let row_says : Said → Type 0 = Tool (MadeReads g.F.Files.gives c.args.files.now c.answer.new.files) (to_match_filter c.args.expression.now c.args.file.now c.args.owns c.args.each c.args.why) in
    (said.0, said.1, says_too file_says row_says said.0 c.answer.result (λ said says. filtered filter.1 says) said.2)

pub returns-in-Err : goal.returns-in-Err
returns-in-Err g c =
    ([], none, elim c.in-Err.ensures.fault [ inl is ↦ inl (no_filter is refl) | inr short ↦ inr (refl, ap failing short) ])
