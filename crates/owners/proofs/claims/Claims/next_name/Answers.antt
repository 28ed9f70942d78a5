use Rattle.std.proofs.Common.{Bor, ℕ, List, ap, subst, ◌∙◌, map}
use Rattle.std.specs.Prelude.{Option, filter, option_map}
use Rattle.owners.specs.Registry.{Registry, IsRegistry, least, next_name}
use Rattle.owners.specs.Kept.{is_named_after, claim_name}
use Rattle.owners.proofs.Settled.{kept_is_registry}
use Rattle.owners.proofs.Questions.{next_shown}
use Rattle.owners.proofs.claims.Claims.next_name.Goals as goal

pub returns-clause-name : goal.returns-clause-name
returns-clause-name c =
    let cs = c.self.inside.claims in
    let ss = c.self.inside.slots in
    let other = option_map (λ (n : Bor (List ℕ)). n.now) c.args.after in
    c.least_after.ensures
    ∙ ap (λ (o : Option (List ℕ)). least (map (claim_name c.as_slice-2.result.now) (filter (is_named_after o c.as_slice-2.result.now) c.as_slice.result.now))) c.copy_of-other.ensures
    ∙ ap (λ l. least (map (claim_name c.as_slice-2.result.now) (filter (is_named_after other c.as_slice-2.result.now) l))) c.as_slice.ensures.value
    ∙ ap (λ l. least (map (claim_name l) (filter (is_named_after other l) cs))) c.as_slice-2.ensures.value
    ∙ next_shown cs ss other
    ∙ ap (λ (r : Registry). next_name other r.claims) c.self.view_is

pub returns-clause-registry : goal.returns-clause-registry
returns-clause-registry c = subst IsRegistry c.self.view_is (kept_is_registry c.self.inside.claims c.self.inside.slots c.self.invariant)
