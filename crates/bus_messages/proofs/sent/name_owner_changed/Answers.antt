use Rattle.std.proofs.Common.{List, ℕ, subst, sym}
use Rattle.std.specs.Prelude.{None, codes, [], ◌∷◌}
use Rattle.message_build.specs.Building.{AreAsked}
use Rattle.bus_messages.specs.Sent.{signal_asked}
use Rattle.bus_messages.proofs.PreparedMessages.{changed_asked}
use Rattle.bus_messages.proofs.sent.name_owner_changed.Goals as goal

pub returns-in-Some : goal.returns-in-Some
returns-in-Some c =
    let asked = signal_asked c.args.serial None (codes "NameOwnerChanged") (c.args.name.now ∷ c.args.old.now ∷ c.args.new.now ∷ []) in
    subst (λ (l : List ℕ). AreAsked asked l) (sym c.in_ok-from_vec.ensures.ok) (changed_asked c.args.serial c.args.name.now c.args.old.now c.args.new.now c.in-Some.bytes.items c.in-Some.ensures)
