use Rattle.std.proofs.Common.{sym, refl, slice_index}
use Rattle.message_view.specs.declared.fixed.Fixed.{Fixed}
use Rattle.message_view.proofs.FixedFound.{fixed_found}
use Rattle.message_view.proofs.fixed.Fixed.read.Goals as goal

pub returns : goal.returns
returns c =
    let fixed : Fixed = record {
      order = c.in-Some.order;
      kind = c.in-Some-of.kind;
      flags = slice_index c.args.bytes.now 2;
      body_len = c.word.result;
      serial = c.word-serial.result;
      fields_len = c.word-2.result;
    } in
    fixed_found c.args.bytes.now fixed c.if-bytes-lt-FIXED_LEN.false (sym c.in-Some.ensures) (sym c.in-Some-of.ensures) refl c.if-bytes-ne-VERSION.false
    c.word.ensures c.word-serial.ensures c.if-serial-eq0.false c.word-2.ensures c.if-fixed-gt-MAX_ARRAY_LEN.false (rw c.whole_len.ensures at c.if-whole_len-gt-MAX_MESSAGE_LEN.false)
