use Rattle.std.proofs.Common.{◌≡◌, true, arith}
use Rattle.std.specs.Prelude.{◌==◌, slice_index}
use Rattle.std.proofs.lemmas.Bool.{eq-eqb}
use Rattle.std.proofs.lemmas.Grind.{common_steps}
use Rattle.message_value.proofs.SignatureRead.{one_read, signature_ok}
use Rattle.message_value.proofs.cursor.Cursor.signature.Goals as goal

pub returns : goal.returns
returns c =
    let found = one_read _ c.in_ok-value_type.value_type c.read.result c.in_ok-value_type.ensures.ok_part c.read.ensures.found in
    let end : (slice_index c.in_ok-item.item.now c.from-len.result == 0) ≡ true = eq-eqb _ _ c.if-item-len-ne0.false in
    (found.0, found.1, found.2, signature_ok c.args.self.now c.byte.new.self c.item.new.self c.from-len.result c.in_ok-item.item.now found.0 (grind (arith, common_steps)) c.in_ok-item.ensures.read found.3 end)
