use Rattle.std.proofs.Common.{List, ℕ, refl, subst, sym, arith}
use Rattle.std.specs.Prelude.{Some, codes, [], ◌∷◌}
use Rattle.message_build.specs.Building.{AreAsked}
use Rattle.bus_messages.specs.Sent.{signal_asked}
use Rattle.bus_messages.proofs.PreparedMessages.{told_asked}
use Rattle.bus_messages.proofs.sent.name_acquired.Goals as goal

pub returns-in-Some : goal.returns-in-Some
returns-in-Some c =
    let asked = signal_asked c.args.serial (Some c.args.to.now) (codes "NameAcquired") (c.args.name.now ∷ []) in
    subst (λ (l : List ℕ). AreAsked asked l) (sym c.in_ok-from_vec.ensures.ok) (told_asked c.args.serial c.args.to.now (codes "NameAcquired") c.args.name.now c.in-Some.bytes.items refl (omega arith) c.in-Some.ensures)
