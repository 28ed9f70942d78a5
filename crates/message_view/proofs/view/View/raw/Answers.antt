use Rattle.std.proofs.Common.{List, subst}
use Rattle.message_view.specs.Message.{Message}
use Rattle.message_view.specs.Valid.{Valid}
use Rattle.message_view.proofs.OneMessage.{reads_valid}
use Rattle.message_view.proofs.view.View.raw.Goals as goal

pub returns-clause-spells : goal.returns-clause-spells
returns-clause-spells c =
    let m : Message = c.self.invariant.message in
    let valid : Valid c.self.inside.bytes.now m = reads_valid c.self.inside.bytes.now m c.are_bytes.ensures c.self.invariant.read in
    (m, subst (λ (bytes : List _). Valid bytes m) c.self.view_is valid)
