use Rattle.std.proofs.Common.{subst}
use Rattle.owners.specs.Registry.{IsRegistry}
use Rattle.owners.proofs.Settled.{kept_is_registry}
use Rattle.owners.proofs.claims.Claims.len.Goals as goal

pub returns-clause-registry : goal.returns-clause-registry
returns-clause-registry c = subst IsRegistry c.self.view_is (kept_is_registry c.self.inside.claims c.self.inside.slots c.self.invariant)
