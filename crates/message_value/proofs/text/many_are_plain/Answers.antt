use Rattle.std.proofs.Common.{◌≡◌, ◌+◌, ◌-◌, ◌*◌, ◌∙◌, length, take, drop, refl, ap, ap₂, sym, arith}
use Rattle.std.specs.Prelude.{◌&&◌}
use Rattle.std.specs.List.{list_all}
use Rattle.std.proofs.lemmas.List.{take_rest}
use Rattle.message_value.specs.Forms.{is_plain}
use Rattle.message_value.proofs.PlainParts.{all-overlap, all-more}
use Rattle.message_value.proofs.text.many_are_plain.Goals as goal

pub loop-i-init : goal.loop-i-init
loop-i-init c = refl

pub loop-i-preserved : goal.loop-i-preserved
loop-i-preserved c =
    let seen = 16 * c.loop-i.i in
    let sixteen : 16 * c.loop-i.i + 16 - 16 * c.loop-i.i ≡ 16 = omega arith in
    ap₂ (λ p q. p && q) c.loop-i.invariant (c.each_is_plain-plain.ensures ∙ ap (λ n. list_all is_plain (take n (drop seen c.args.bytes.now))) sixteen)
    ∙ sym (all-more is_plain c.args.bytes.now seen 16)
    ∙ ap (λ n. list_all is_plain (take n c.args.bytes.now)) (omega arith)

pub returns : goal.returns
returns c =
    let last = length c.args.bytes.now - 16 in
    ap₂ (λ p q. p && q) c.loop-i.invariant (c.each_is_plain.ensures ∙ ap (list_all is_plain) (take_rest c.args.bytes.now last))
    ∙ all-overlap is_plain c.args.bytes.now (16 * c.loop-i.i) last (omega arith)
