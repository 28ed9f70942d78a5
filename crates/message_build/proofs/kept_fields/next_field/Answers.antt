use Rattle.std.proofs.Common.{◌∙◌}
use Rattle.message_build.proofs.BegunFields.{begun_shorter, went, went_fits, went_between, went_none}
use Rattle.message_build.proofs.kept_fields.next_field.Goals as goal

pub returns-in_err-bytes-in-Ok-clause-found : goal.returns-in_err-bytes-in-Ok-clause-found
returns-in_err-bytes-in-Ok-clause-found c = λ field more l.
    let w = went c.args.order c.args.array.now c.args.cursor.now field more c.in-Ok.begun c.skip_field.new.cursor l c.in-Ok.ensures in
    let fits = went_fits _ _ _ _ _ _ _ c.place.result w c.place.ensures in
    absurd (c.in_err-bytes-in-Ok.ensures.found fits.0 fits.1)

pub returns-in_err-bytes-in-Ok-clause-tail : goal.returns-in_err-bytes-in-Ok-clause-tail
returns-in_err-bytes-in-Ok-clause-tail c = λ field more l.
    let w = went c.args.order c.args.array.now c.args.cursor.now field more c.in-Ok.begun c.skip_field.new.cursor l c.in-Ok.ensures in
    w.tail

pub returns-in_ok-bytes-in-Ok-clause-shorter : goal.returns-in_ok-bytes-in-Ok-clause-shorter
returns-in_ok-bytes-in-Ok-clause-shorter c = begun_shorter c.args.order c.args.cursor.now (c.in-Ok.begun, c.skip_field.new.cursor) c.in-Ok.ensures

pub returns-in_ok-bytes-in-Ok-clause-found : goal.returns-in_ok-bytes-in-Ok-clause-found
returns-in_ok-bytes-in-Ok-clause-found c = λ field more l.
    let w = went c.args.order c.args.array.now c.args.cursor.now field more c.in-Ok.begun c.skip_field.new.cursor l c.in-Ok.ensures in
    let fits = went_fits _ _ _ _ _ _ _ c.place.result w c.place.ensures in
    (w.code, c.in_ok-bytes-in-Ok.ensures.found fits.0 fits.1 ∙ went_between _ _ _ _ _ _ _ c.place.result w c.place.ensures)

pub returns-in_ok-bytes-in-Ok-clause-tail : goal.returns-in_ok-bytes-in-Ok-clause-tail
returns-in_ok-bytes-in-Ok-clause-tail c = λ field more l.
    let w = went c.args.order c.args.array.now c.args.cursor.now field more c.in-Ok.begun c.skip_field.new.cursor l c.in-Ok.ensures in
    w.tail

pub returns-in-Err-clause-found : goal.returns-in-Err-clause-found
returns-in-Err-clause-found c = λ field more l. went_none c.args.order c.args.array.now c.args.cursor.now field more c.in-Err.field-0 l c.in-Err.ensures

pub returns-in-Err-clause-tail : goal.returns-in-Err-clause-tail
returns-in-Err-clause-tail c = λ field more l. absurd (went_none c.args.order c.args.array.now c.args.cursor.now field more c.in-Err.field-0 l c.in-Err.ensures)
