use Rattle.message_view.proofs.Views.{known_first}
use Rattle.message_view.proofs.view.View.of_message.Goals as goal

pub of_sections-requires : goal.of_sections-requires
of_sections-requires c =
    let fixed = rw c.in-Ok-Some.field-0-is at c.in-Ok-Some.ensures in
    known_first c.in-Ok-Some.fixed c.valid_sections.new.found c.args.bytes.now c.requires.0 c.requires.1 fixed.1 c.valid_sections.ensures
