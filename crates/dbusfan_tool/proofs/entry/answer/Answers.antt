use Rattle.std.proofs.Common.{[], inl, inr, refl}
use Rattle.command_line.specs.CommandRow.{to_asm, to_check, to_compile, to_compile_filter}
use Rattle.command_line.specs.Files.{MadeReads}
use Rattle.command_line.specs.Output.{none}
use Rattle.dbusfan_tool.proofs.Saying.{says_of_row}
use Rattle.dbusfan_tool.proofs.entry.answer.Goals as goal

pub returns-in-Some-Asm-clause-row : goal.returns-in-Some-Asm-clause-row
returns-in-Some-Asm-clause-row g c asked row =
    let e = rw c.in-Some-Asm.field-0-is at (c.in-Some-Asm.ensures.only asked row) in
    ([], none, says_of_row (MadeReads g.F.Files.gives c.args.files.now c.answer-in-Some-Asm.new.files) (to_asm c.in-Some-Asm.file.now) asked c.answer-in-Some-Asm.result e c.answer-in-Some-Asm.ensures)

pub returns-in-Some-Check-clause-row : goal.returns-in-Some-Check-clause-row
returns-in-Some-Check-clause-row g c asked row =
    let e = rw c.in-Some-Check.field-0-is at (c.in-Some-Check.ensures.only asked row) in
    ([], none, says_of_row (MadeReads g.F.Files.gives c.args.files.now c.answer-in-Some-Check.new.files) (to_check c.in-Some-Check.file.now) asked c.answer-in-Some-Check.result e c.answer-in-Some-Check.ensures)

pub returns-in-Some-Compile-clause-row : goal.returns-in-Some-Compile-clause-row
returns-in-Some-Compile-clause-row g c asked row =
    let e = rw c.in-Some-Compile.field-0-is at (c.in-Some-Compile.ensures.only asked row) in (
      [],
      none,
      says_of_row (MadeReads g.F.Files.gives c.args.files.now c.args.files.now) (to_compile c.in-Some-Compile.rule.now) asked c.answer-in-Some-Compile.result e
          (elim c.answer-in-Some-Compile.ensures [ inl said ↦ inl (said.0, said.1, refl, said.2) | inr short ↦ inr short ]),
    )

pub returns-in-Some-CompileFilter-clause-row : goal.returns-in-Some-CompileFilter-clause-row
returns-in-Some-CompileFilter-clause-row g c asked row =
    let e = rw c.in-Some-CompileFilter.field-0-is at (c.in-Some-CompileFilter.ensures.only asked row) in (
      [],
      none,
      says_of_row (MadeReads g.F.Files.gives c.args.files.now c.args.files.now) (to_compile_filter c.in-Some-CompileFilter.filter.now) asked c.compile_answer.result e
          (elim c.compile_answer.ensures [ inl said ↦ inl (said.0, said.1, refl, said.2) | inr short ↦ inr short ]),
    )
