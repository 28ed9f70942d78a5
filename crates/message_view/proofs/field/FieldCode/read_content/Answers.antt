use Rattle.std.proofs.Common.{sym, ◌∙◌}
use Rattle.std.proofs.lemmas.Result.{err_from_is_err_and}
use Rattle.message_view.proofs.FieldContents.{content_is, content_ends}
use Rattle.message_view.proofs.field.FieldCode.read_content.Goals as goal

pub returns-in_err-content-clause-read : goal.returns-in_err-content-clause-read
returns-in_err-content-clause-read c =
    let p = err_from_is_err_and c.from_residual-in_err-content.result c.from_residual-in_err-content.ensures.1 in
    let type = c.in_ok-value_type.ensures in
    rw (p.1, p.2) (content_is c.args.order c.args.self c.field_type-field_type.result c.args.cursor.now _ type.0 _ c.field_type-field_type.ensures type.3 (sym (c.is.ensures type.0 type.1) ∙ c.if-not-is.false) c.in_err-content.ensures.read)

pub returns-in-Some-clause-read : goal.returns-in-Some-clause-read
returns-in-Some-clause-read c =
    let type = c.in_ok-value_type.ensures in
    content_is c.args.order c.args.self c.field_type-field_type.result c.args.cursor.now _ type.0 _ c.field_type-field_type.ensures type.3 (sym (c.is.ensures type.0 type.1) ∙ c.if-not-is.false) c.in_ok-content.ensures.read
    ∙ content_ends c.args.self _ _ _ c.in-Some.ensures

pub returns-in-None-clause-read : goal.returns-in-None-clause-read
returns-in-None-clause-read c =
    let type = c.in_ok-value_type.ensures in
    content_is c.args.order c.args.self c.field_type-field_type.result c.args.cursor.now _ type.0 _ c.field_type-field_type.ensures type.3 (sym (c.is.ensures type.0 type.1) ∙ c.if-not-is.false) c.in_ok-content.ensures.read
    ∙ content_ends c.args.self _ _ _ c.in-None.ensures
