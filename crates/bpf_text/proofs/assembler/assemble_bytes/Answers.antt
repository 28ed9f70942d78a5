use Rattle.std.proofs.Common.{◌≡◌, List, sym, ap, ◌∙◌}
use Rattle.std.proofs.lemmas.Result.{IfOk-weaker, IfErr-weaker}
use Rattle.bpf_text.specs.Source.{lines_of, Line, AreLines}
use Rattle.bpf_text.specs.Sketches.{sketch_of, program_in}
use Rattle.bpf_text.specs.Views.{sketch_view}
use Rattle.bpf_text.proofs.Lines.{read_none, read_more, read_all}
use Rattle.bpf_text.proofs.Faults.{text_fault}
use Rattle.bpf_text.proofs.SketchedPrograms.{program_sketched}
use Rattle.bpf_text.proofs.assembler.assemble_bytes.Goals as goal

pub lines-init : goal.lines-init
lines-init c = rw (c.new.ensures, c.new-2.ensures.items) (read_none c.args.text.now)

pub returns-in_default-clause-found : goal.returns-in_default-clause-found
returns-in_default-clause-found c =
    let found = c.in_ok-add_line.ensures.found in
    let split = rw c.in_default.is at c.split_line.ensures.lines in
    let all : (lines : List Line) × AreLines (lines_of c.args.text.now) lines × (sketch_view c.add_line.new.draft ≡ sketch_of lines) =
    read_all c.args.text.now c.lines.rest.now c.split_line.result.0.now c.lines.number (sketch_view c.lines.draft) (sketch_view c.add_line.new.draft) found.0 c.lines.invariant split found.1 found.2 in
    IfOk-weaker c.program.result _ _ (λ program is. (all.0, all.1, program_sketched all.0 ∙ ap program_in (sym all.2) ∙ is)) c.program.ensures.found

pub returns-in_default-clause-fault : goal.returns-in_default-clause-fault
returns-in_default-clause-fault c =
    let found = c.in_ok-add_line.ensures.found in
    let split = rw c.in_default.is at c.split_line.ensures.lines in
    let all : (lines : List Line) × AreLines (lines_of c.args.text.now) lines × (sketch_view c.add_line.new.draft ≡ sketch_of lines) =
    read_all c.args.text.now c.lines.rest.now c.split_line.result.0.now c.lines.number (sketch_view c.lines.draft) (sketch_view c.add_line.new.draft) found.0 c.lines.invariant split found.1 found.2 in
    IfErr-weaker c.program.result _ _ (λ e is. text_fault c.args.text.now all.0 (sketch_view c.add_line.new.draft) e all.1 all.2 is) c.program.ensures.fault

pub lines-preserved : goal.lines-preserved
lines-preserved c =
    let found = c.in_ok-add_line.ensures.found in
    let split = rw c.in-Some.is at c.split_line.ensures.lines in
    let shorter = rw c.in-Some.is at c.split_line.ensures.shorter in
    read_more c.args.text.now c.lines.rest.now c.in-Some.next.now c.split_line.result.0.now c.lines.number (sketch_view c.lines.draft) (sketch_view c.add_line.new.draft) found.0 c.lines.invariant split shorter found.1 found.2
