use Rattle.std.proofs.Common.{ap, subst, ◌∙◌, map}
use Rattle.std.specs.Prelude.{filter}
use Rattle.owners.specs.Registry.{Registry, IsRegistry, least, least_of}
use Rattle.owners.specs.Kept.{is_by, claim_name}
use Rattle.owners.proofs.Settled.{kept_is_registry}
use Rattle.owners.proofs.Questions.{least_shown}
use Rattle.owners.proofs.claims.Claims.least_of.Goals as goal

pub returns-clause-name : goal.returns-clause-name
returns-clause-name c =
    let cs = c.self.inside.claims in
    let ss = c.self.inside.slots in
    let connection = c.args.connection in
    c.least_of.ensures
    ∙ ap (λ l. least (map (claim_name c.as_slice-2.result.now) (filter (is_by connection) l))) c.as_slice.ensures.value
    ∙ ap (λ l. least (map (claim_name l) (filter (is_by connection) cs))) c.as_slice-2.ensures.value
    ∙ least_shown cs ss connection
    ∙ ap (λ (r : Registry). least_of connection r.claims) c.self.view_is

pub returns-clause-registry : goal.returns-clause-registry
returns-clause-registry c = subst IsRegistry c.self.view_is (kept_is_registry c.self.inside.claims c.self.inside.slots c.self.invariant)
