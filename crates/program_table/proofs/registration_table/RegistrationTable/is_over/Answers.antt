use Rattle.std.proofs.Common.{◌≡◌, ◌≤◌, length, subst, arith}
use Rattle.std.specs.Prelude.{IfSome}
use Rattle.owners.specs.Queues.{after_requesting}
use Rattle.program_table.specs.SlotNames.{slot_next}
use Rattle.program_table.specs.Registrations.{Registrations}
use Rattle.program_table.specs.Capacities.{is_over}
use Rattle.program_table.proofs.Within.{over_kept}
use Rattle.program_table.proofs.registration_table.RegistrationTable.is_over.Goals as goal

pub returns-then-len-most : goal.returns-then-len-most
returns-then-len-most c =
    let most = c.args.most.now.claims in
    let full : most ≤ length c.self.inside.names.claims = omega (arith, c.len.ensures.len, c.if-len-most.true) in
    subst (λ (r : Registrations). IfSome (slot_next c.args.name.now r.slots) (λ _. c.request_adds.result ≡ is_over most (length r.claims) (length (after_requesting c.args.name.now c.args.connection c.args.flags r.claims))))
    c.self.view_is
    (over_kept most c.args.name.now c.args.connection c.args.flags c.self.inside.names c.self.inside.entries c.request_adds.result c.self.invariant full c.request_adds.ensures.adds)
