use Rattle.std.proofs.Common.{refl}
use Rattle.std.proofs.lemmas.Result.{err_from_is_err_and}
use Rattle.message_view.proofs.Framed.{cursor_is, body_within, body_fails, body_passes}
use Rattle.message_view.proofs.view.sections_of_frame.Goals as goal

pub returns-in_err-split_sections : goal.returns-in_err-split_sections
returns-in_err-split_sections c =
    let p = err_from_is_err_and c.from_residual.result c.from_residual.ensures.1 in
    rw (p.1, p.2) c.in_err-split_sections.ensures

pub overflow_sub-place : goal.overflow_sub-place
overflow_sub-place c = body_within c.args.bytes.now _ c.in_ok-split_sections.ensures.body

pub returns-in_err-check_body : goal.returns-in_err-check_body
returns-in_err-check_body c =
    let p = err_from_is_err_and c.from_residual-in_err-check_body.result c.from_residual-in_err-check_body.ensures.1 in
    let header = c.in_ok-split_sections.ensures in
    let place = cursor_is c.args.bytes.now _ _ c.new.result c.requires.whole header.body refl c.new.ensures in
    rw (p.1, p.2) (body_fails c.args.fixed.now c.split_sections.new.found c.args.bytes.now c.new.result _ c.requires.fixed.1 header place (c.in_err-check_body.ensures _ header.typed))

pub returns : goal.returns
returns c =
    let header = c.in_ok-split_sections.ensures in
    let place = cursor_is c.args.bytes.now _ _ c.new.result c.requires.whole header.body refl c.new.ensures in
    let arguments = c.in_ok-check_body.ensures _ header.typed in
    (header.front, arguments.0, body_passes c.args.fixed.now c.split_sections.new.found c.args.bytes.now c.new.result arguments.0 c.requires.fixed.1 header place arguments.1, header.shows, header.typed, header.body, header.lie)
