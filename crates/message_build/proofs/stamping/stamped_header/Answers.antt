use Rattle.std.proofs.Common.{◌≡◌, ℕ, ◌-◌, ◌++◌, length, take, drop, ap, ◌∙◌, arith}
use Rattle.message_value.specs.Order.{word_bytes}
use Rattle.message_build.specs.StampedFields.{stamped_fields}
use Rattle.message_build.proofs.StampedMessages.{Headed, fields_len_is, header_written}
use Rattle.message_build.proofs.stamping.stamped_header.Goals as goal

pub returns-then-fields_len-gt-MAX_ARRAY_LEN-clause-heads : goal.returns-then-fields_len-gt-MAX_ARRAY_LEN-clause-heads
returns-then-fields_len-gt-MAX_ARRAY_LEN-clause-heads c = λ fields are is.
    let w : Headed c.args.order c.args.header.now c.args.body_len fields c.args.sender.now c.args.bytes.items c.push_fixed.new.bytes.items c.push_kept_of.new.bytes.items c.push_sender.new.bytes.items = record { none = c.requires.empty; fixed = c.in_ok-push_fixed.ensures; kept = c.in_ok-push_kept_of.ensures.kept fields are is; named = c.in_ok-push_sender.ensures } in
    let len = fields_len_is _ _ _ _ _ _ _ _ _ w in
    let all : length c.push_sender.new.bytes.items - 16 ≡ length (stamped_fields c.args.order fields c.args.sender.now) = len in
    let text_said = c.len-fields_len.ensures in
    omega (arith, all, text_said)

pub returns-clause-heads : goal.returns-clause-heads
returns-clause-heads c = λ fields are is.
    let w : Headed c.args.order c.args.header.now c.args.body_len fields c.args.sender.now c.args.bytes.items c.push_fixed.new.bytes.items c.push_kept_of.new.bytes.items c.push_sender.new.bytes.items = record { none = c.requires.empty; fixed = c.in_ok-push_fixed.ensures; kept = c.in_ok-push_kept_of.ensures.kept fields are is; named = c.in_ok-push_sender.ensures } in
    let len = fields_len_is _ _ _ _ _ _ _ _ _ w in
    let all : length c.push_sender.new.bytes.items - 16 ≡ length (stamped_fields c.args.order fields c.args.sender.now) = len in
    let text_said : c.len-fields_len.result ≡ length c.push_sender.new.bytes.items = omega (arith, c.len-fields_len.ensures) in
    (omega (arith, all, text_said), header_written _ _ _ _ _ _ _ _ _ c.set_word.new.bytes.items c.align.new.bytes.items w (c.set_word.ensures ∙ ap (λ (k : ℕ). take 12 c.push_sender.new.bytes.items ++ (word_bytes c.args.order (k - 16) ++ drop 16 c.push_sender.new.bytes.items)) text_said) c.in_ok-align.ensures)
