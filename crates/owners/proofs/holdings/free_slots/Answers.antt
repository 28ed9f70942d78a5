use Rattle.std.proofs.Common.{◌≡◌, ℕ, ap, ◌∙◌, arith, replicate}
use Rattle.std.specs.Prelude.{Option, None}
use Rattle.owners.specs.declared.holding.Holding.{Holding}
use Rattle.owners.proofs.holdings.free_slots.Goals as goal

abbrev free : Option Holding
free = None

pub returns : goal.returns
returns c =
    let all : c.loop-place._place ≡ 1024 = omega arith in
    c.loop-place.invariant ∙ ap (λ (n : ℕ). replicate n free) all
