use Rattle.std.proofs.lemmas.Result.{err_from_is_err_and}
use Rattle.message_view.proofs.Kept.{no_code, no_content}
use Rattle.message_view.proofs.KeptExtents.{front_next, front_passed}
use Rattle.message_view.proofs.fields.Fields.read_next.Goals as goal

pub returns-in_err-byte : goal.returns-in_err-byte
returns-in_err-byte c = λ start front is.
    let p = err_from_is_err_and c.from_residual.result c.from_residual.ensures.1 in
    rw (p.1, p.2) (no_code c.args.order front c.args.cursor.now _ (c.in_err-byte.ensures front is.shows))

pub returns-in_default : goal.returns-in_default
returns-in_default c = λ start front is. front_passed c.args.order start front c.args.self.now c.args.cursor.now _ _ _ c.skip_content.result is c.in_default.ensures (c.in_ok-byte.ensures front is.shows) c.skip_content.ensures

pub returns-in_err-content : goal.returns-in_err-content
returns-in_err-content c = λ start front is.
    let p = err_from_is_err_and c.from_residual-in_err-content.result c.from_residual-in_err-content.ensures.1 in
    rw (p.1, p.2) (no_content c.args.order front c.args.cursor.now _ _ _ _ c.in-Some.ensures (c.in_ok-byte.ensures front is.shows) c.in_err-content.ensures.read)

pub returns : goal.returns
returns c = λ start front is. front_next c.args.order start front c.args.self.now _ c.args.cursor.now _ _ _ _ _ is c.put.ensures.shows c.put.ensures.lie c.in_ok-content.ensures.lies c.in-Some.ensures (c.in_ok-byte.ensures front is.shows) c.in_ok-content.ensures.read
