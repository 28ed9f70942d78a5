use Rattle.std.proofs.Common.{◌≡◌, ◌*◌, ◌/◌, length, ◌∙◌, sym, arith}
use Rattle.std.proofs.lemmas.Bool.{eqb-true}
use Rattle.bpf_code.proofs.Groups.{joined}
use Rattle.bpf_code.proofs.byte_form.decode.Goals as goal

pub loop-group-init : goal.loop-group-init
loop-group-init c =
    let none : length c.as_chunks.result.1.now ≡ 0 = eqb-true _ _ (sym c.is_empty.ensures ∙ c.if-not-is_empty.false) in
    let whole : length c.args.bytes.now ≡ length c.args.bytes.now / 8 * 8 = omega (arith, none, c.as_chunks.ensures.back_len) in
    rw (c.in_ok-program.ensures.items, c.as_chunks.ensures.front) (joined (length c.args.bytes.now / 8) c.args.bytes.now whole)
