use Rattle.message_value.proofs.SignatureTexts.{types_utf8, types_some}
use Rattle.message_value.proofs.text.signature_text.Goals as goal

pub from_utf8_unchecked-requires : goal.from_utf8_unchecked-requires
from_utf8_unchecked-requires c =
    let found = c.in-Ok.ensures.found in
    types_utf8 found.1.0 c.args.bytes.now found.1.1

pub returns-in-Ok : goal.returns-in-Ok
returns-in-Ok c =
    let found = c.in-Ok.ensures.found in
    (types_some found.1.0 c.args.bytes.now found.1.1, c.from_utf8_unchecked.ensures)
