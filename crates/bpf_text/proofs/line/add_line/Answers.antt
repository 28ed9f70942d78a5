use Rattle.std.proofs.Common.{◌≡◌, ◌+◌, Option, refl, sym, map, inr, arith}
use Rattle.std.specs.Option.{option_map}
use Rattle.bpf_text.specs.Source.{count_row}
use Rattle.bpf_text.specs.Rows.{LabelIns}
use Rattle.bpf_text.specs.Views.{noted_view, row_view, sketch_view}
use Rattle.bpf_text.proofs.Labels.{line_found, line_none, mapped_push, counted, not_counted}
use Rattle.bpf_text.proofs.line.add_line.Goals as goal

pub returns-in_default-clause-fault : goal.returns-in_default-clause-fault
returns-in_default-clause-fault c =
    inr (refl, line_none c.args.bytes.now c.in_ok-again.rest.now c.args.draft.now.count _ _ _ c.in_ok-again.ensures.found (sym c.in_default.ensures))

pub returns-then-is_some-clause-found : goal.returns-then-is_some-clause-found
returns-then-is_some-clause-found c =
    let row : Option LabelIns = option_map row_view c.in-Some.row in
    let one : count_row row ≡ 1 = counted c.in-Some.row c.is_some.result c.is_some.ensures c.if-is_some.true in
    line_found c.args.bytes.now c.in_ok-again.rest.now (sketch_view c.args.draft.now) c.take_labels.new.labels c.in_ok-again.again row
    c.in_ok-again.ensures.found (sym c.in-Some.ensures) (map noted_view c.push.new.self.items) (c.args.draft.now.count + 1)
    (mapped_push noted_view c.args.draft.now.lines.items c.push.new.self.items _ c.in_ok-push.ensures.items)
    (omega (arith, one))

pub returns-else-is_some-clause-found : goal.returns-else-is_some-clause-found
returns-else-is_some-clause-found c =
    let row : Option LabelIns = option_map row_view c.in-Some.row in
    let none : count_row row ≡ 0 = not_counted c.in-Some.row c.is_some.result c.is_some.ensures c.if-is_some.false in
    line_found c.args.bytes.now c.in_ok-again.rest.now (sketch_view c.args.draft.now) c.take_labels.new.labels c.in_ok-again.again row
    c.in_ok-again.ensures.found (sym c.in-Some.ensures) (map noted_view c.push.new.self.items) c.args.draft.now.count
    (mapped_push noted_view c.args.draft.now.lines.items c.push.new.self.items _ c.in_ok-push.ensures.items)
    (omega (arith, none))
