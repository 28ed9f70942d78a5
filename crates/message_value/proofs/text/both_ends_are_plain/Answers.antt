use Rattle.std.proofs.Common.{◌-◌, ◌∙◌, length, ap, ap₂, arith}
use Rattle.std.specs.Prelude.{◌&&◌}
use Rattle.std.specs.List.{list_all}
use Rattle.std.proofs.lemmas.List.{take_rest}
use Rattle.message_value.specs.Forms.{is_plain}
use Rattle.message_value.proofs.PlainParts.{all-overlap}
use Rattle.message_value.proofs.text.both_ends_are_plain.Goals as goal

pub returns : goal.returns
returns c =
    let last = length c.args.bytes.now - c.args.few in
    ap₂ (λ p q. p && q) c.each_is_plain.ensures (c.each_is_plain-2.ensures ∙ ap (list_all is_plain) (take_rest c.args.bytes.now last))
    ∙ all-overlap is_plain c.args.bytes.now c.args.few last (omega arith)
