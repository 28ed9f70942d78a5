use Rattle.std.proofs.Common.{◌+◌, ◌<◌, ◌≤◌, length, Ok, Err, arith}
use Rattle.std.proofs.lemmas.Result.{err_from_is_err_and}
use Rattle.message_view.specs.Valid.{max_message_len}
use Rattle.message_build.specs.Stamped.{with_sender}
use Rattle.message_build.proofs.StampedMessages.{is_read, fields_there, headed, refused, stamped_valid, message_too_large}
use Rattle.message_build.proofs.stamping.stamp.Goals as goal

pub stamped_header-requires-clause-valid : goal.stamped_header-requires-clause-valid
stamped_header-requires-clause-valid c =
    let spells = c.raw.ensures.spells in
    let there = fields_there c.args.view.now spells.0 c.order-order.result c.array_of-array.result.now c.raw.result.now spells.1 (c.order-order.ensures spells.0 spells.1) c.raw.ensures.value (c.array_of-array.ensures.array spells.0) in
    (spells.0.fields, there.are, there.is)

pub returns-in_err-bytes : goal.returns-in_err-bytes
returns-in_err-bytes c =
    let p = err_from_is_err_and c.from_residual-in_err-bytes.result c.from_residual-in_err-bytes.ensures.1 in
    record {
      stamps = λ m v.
          let read = is_read c.args.view.now m c.args.sender.now c.order-order.result _ _ _ c.new-header.result c.body-body.result.now v c.requires (c.order-order.ensures m v) (c.kind.ensures m v) (c.flags.ensures m v) (c.serial.ensures m v) c.new-header.ensures (c.body-body.ensures m v) in
          let heads = headed _ _ _ _ _ _ c.array_of-array.result.now c.raw.result.now (Err c.in_err-bytes.field-0.0) read c.raw.ensures.value (c.array_of-array.ensures.array m) c.in_err-bytes.ensures.heads in
          rw (p.1, p.2) (refused c.in_err-bytes.field-0.0 _ _ _ _ _ _ read heads);
      valid = rw p.1 tt;
    }

pub returns-then-body-len : goal.returns-then-body-len
returns-then-body-len c = record {
  stamps = λ m v.
      let read = is_read c.args.view.now m c.args.sender.now c.order-order.result _ _ _ c.new-header.result c.body-body.result.now v c.requires (c.order-order.ensures m v) (c.kind.ensures m v) (c.flags.ensures m v) (c.serial.ensures m v) c.new-header.ensures (c.body-body.ensures m v) in
      let heads = headed _ _ _ _ _ _ c.array_of-array.result.now c.raw.result.now (Ok c.in_ok-bytes.bytes.items) read c.raw.ensures.value (c.array_of-array.ensures.array m) c.in_ok-bytes.ensures.heads in
      let text_said = c.len.ensures in
      let long : max_message_len < length c.in_ok-bytes.bytes.items + length c.body-body.result.now = omega (arith, text_said, c.if-body-len.true) in
      message_too_large _ _ _ _ _ _ c.in_ok-bytes.bytes.items read heads.1 long;
  valid = tt;
}

pub returns-clause-stamps : goal.returns-clause-stamps
returns-clause-stamps c = λ m v.
    let read = is_read c.args.view.now m c.args.sender.now c.order-order.result _ _ _ c.new-header.result c.body-body.result.now v c.requires (c.order-order.ensures m v) (c.kind.ensures m v) (c.flags.ensures m v) (c.serial.ensures m v) c.new-header.ensures (c.body-body.ensures m v) in
    let heads = headed _ _ _ _ _ _ c.array_of-array.result.now c.raw.result.now (Ok c.in_ok-bytes.bytes.items) read c.raw.ensures.value (c.array_of-array.ensures.array m) c.in_ok-bytes.ensures.heads in
    let text_said = c.len.ensures in
    let bound = c.in_ok-bytes.ensures.bound in
    let fits : length c.in_ok-bytes.bytes.items + length c.body-body.result.now ≤ max_message_len = omega (arith, text_said, bound, c.if-body-len.false) in
    stamped_valid _ _ _ _ _ _ c.in_ok-bytes.bytes.items _ read heads.1 heads.0 fits c.in_ok-extend_from_slice.ensures.items

pub returns-clause-valid : goal.returns-clause-valid
returns-clause-valid c =
    let spells = c.raw.ensures.spells in
    (with_sender spells.0 c.args.sender.now, returns-clause-stamps c spells.0 spells.1)
