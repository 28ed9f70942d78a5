use Rattle.std.proofs.Common.{◌∙◌, arith}
use Rattle.std.proofs.lemmas.Result.{err_from_is_err_and}
use Rattle.message_view.proofs.Views.{fixed_fault, fixed_short, len_is, whole_short, whole_long, whole_framed, kept_first}
use Rattle.message_view.proofs.view.View.read_exactly.Goals as goal

pub returns-in_err-fixed : goal.returns-in_err-fixed
returns-in_err-fixed c =
    let p = err_from_is_err_and c.from_residual.result c.from_residual.ensures.1 in
    rw (p.1, p.2) (fixed_fault c.args.bytes.now _ c.in_err-fixed.ensures)

pub returns-in_default : goal.returns-in_default
returns-in_default c = fixed_short c.args.bytes.now (rw c.in_default.is at c.in_ok-fixed.ensures)

pub returns-then-bytes-len : goal.returns-then-bytes-len
returns-then-bytes-len c =
    let fixed = rw c.in-Some.is at c.in_ok-fixed.ensures in
    let len = len_is c.in-Some.fixed c.args.bytes.now _ fixed.1 c.whole_len-len.ensures in
    whole_short c.args.bytes.now fixed.0 (omega arith)

pub returns-then-bytes-len-2 : goal.returns-then-bytes-len-2
returns-then-bytes-len-2 c =
    let fixed = rw c.in-Some.is at c.in_ok-fixed.ensures in
    let len = len_is c.in-Some.fixed c.args.bytes.now _ fixed.1 c.whole_len-len.ensures in
    whole_long c.args.bytes.now fixed.0 (omega arith)

pub returns-in_err-sections_of_frame : goal.returns-in_err-sections_of_frame
returns-in_err-sections_of_frame c =
    let p = err_from_is_err_and c.from_residual-in_err-sections_of_frame.result c.from_residual-in_err-sections_of_frame.ensures.1 in
    let fixed = rw c.in-Some.is at c.in_ok-fixed.ensures in
    let len = len_is c.in-Some.fixed c.args.bytes.now _ fixed.1 c.whole_len-len.ensures in
    rw (p.1, p.2) (whole_framed c.args.bytes.now _ fixed.0 len c.if-bytes-len.false c.if-bytes-len-2.false ∙ c.in_err-sections_of_frame.ensures)

pub of_sections-requires : goal.of_sections-requires
of_sections-requires c =
    let fixed = rw c.in-Some.is at c.in_ok-fixed.ensures in
    let len = len_is c.in-Some.fixed c.args.bytes.now _ fixed.1 c.whole_len-len.ensures in
    let same = whole_framed c.args.bytes.now _ fixed.0 len c.if-bytes-len.false c.if-bytes-len-2.false in
    kept_first c.in-Some.fixed c.sections_of_frame.new.found c.args.bytes.now _ fixed.1 same c.in_ok-sections_of_frame.ensures

pub returns : goal.returns
returns c =
    let fixed = rw c.in-Some.is at c.in_ok-fixed.ensures in
    let len = len_is c.in-Some.fixed c.args.bytes.now _ fixed.1 c.whole_len-len.ensures in
    let same = whole_framed c.args.bytes.now _ fixed.0 len c.if-bytes-len.false c.if-bytes-len-2.false in
    (c.of_sections.ensures, (_, same ∙ c.in_ok-sections_of_frame.ensures.2))
