use Rattle.std.proofs.Common.{rules, Some, None, refl, sym, ap, ◌∙◌}
use Rattle.std.specs.Prelude.{string_bytes}
use Rattle.std.specs.Option.{option_copied_mut}
use Rattle.traffic.proofs.Counted.{message_counted}
use Rattle.traffic.proofs.sender_table.SenderTable.take_as.Goals as goal

pub returns-in-Some : goal.returns-in-Some
returns-in-Some c =
    rw (← c.self.view_is)
    (message_counted c.args.name.now c.args.name.now c.args.len c.self.inside.rows (c.get_mut.follows.lender c.with_message.result) (Some c.in-Some.messages.now) c.with_message.result
    refl (sym c.get_mut.ensures.value ∙ ap option_copied_mut c.in-Some.is) c.with_message.ensures ((c.get_mut.follows.holds c.with_message.result).3 (search rules)))

pub returns : goal.returns
returns c =
    rw (← c.self.view_is)
    (message_counted c.args.name.now (string_bytes c.in_ok-from_str.field-0) c.args.len c.self.inside.rows c.insert.new.self None c.with_message-one.result
    c.in_ok-from_str.ensures.ok (sym c.get_mut.ensures.value ∙ ap option_copied_mut c.in_default.is) c.with_message-one.ensures (rw c.get_mut.follows.holds-at-none at c.in_ok-insert.ensures.updates))
