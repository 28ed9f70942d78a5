use Rattle.std.proofs.Common.{Option, Some, sym, subst}
use Rattle.outbox.specs.Released.{Events}
use Rattle.routing.specs.Settled.{GoesOn}
use Rattle.routing.proofs.events.begin_first.Goals as goal

pub returns-clause-on : goal.returns-clause-on
returns-clause-on c =
    let P : Option Events → Type 0 = λ o. GoesOn o (Some c.begin.new.self) in
    subst P (sym c.requires.none) tt
