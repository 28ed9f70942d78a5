use Rattle.message_build.proofs.FieldList.{hold_more}
use Rattle.message_build.proofs.header.Header.fields.Goals as goal

pub returns-clause-hold : goal.returns-clause-hold
returns-clause-hold c =
    hold_more c.path_field.result _ c.path_field.ensures.holds
    (hold_more c.interface_field.result _ c.interface_field.ensures.holds
    (hold_more c.member_field.result _ c.member_field.ensures.holds
    (hold_more c.error_name_field.result _ c.error_name_field.ensures.holds
    (hold_more c.reply_serial_field.result _ c.reply_serial_field.ensures.holds
    (hold_more c.destination_field.result _ c.destination_field.ensures.holds
    (hold_more c.sender_field.result _ c.sender_field.ensures.holds c.signature_field.ensures.holds))))))
