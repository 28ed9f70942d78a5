use Rattle.std.proofs.Common.{rules, Some, None, refl, sym, subst, ap, ◌∙◌}
use Rattle.std.specs.Prelude.{string_bytes}
use Rattle.std.specs.Option.{option_copied_mut}
use Rattle.traffic.specs.Methods.{Counts}
use Rattle.traffic.specs.declared.methods.MethodCounts.{MethodCounts}
use Rattle.traffic.proofs.Counted.{call_counted}
use Rattle.traffic.proofs.method_table.MethodTable.take_as.Goals as goal

pub returns-in-Some : goal.returns-in-Some
returns-in-Some c =
    rw (← c.self.view_is)
    (call_counted c.args.name.now c.args.name.now c.args.outcome c.self.inside.rows (c.get_mut.follows.lender c.take.new.self) (Some c.in-Some.row.now) c.take.new.self
    refl (sym c.get_mut.ensures.value ∙ ap option_copied_mut c.in-Some.is) c.in_ok-take.ensures ((c.get_mut.follows.holds c.take.new.self).3 (search rules)))

pub returns : goal.returns
returns c =
    rw (← c.self.view_is)
    (call_counted c.args.name.now (string_bytes c.in_ok-from_str.field-0) c.args.outcome c.self.inside.rows c.insert.new.self None c.take-2.new.self
    c.in_ok-from_str.ensures.ok (sym c.get_mut.ensures.value ∙ ap option_copied_mut c.in_default.is) (subst (λ (row : MethodCounts). Counts c.args.outcome row c.take-2.new.self) c.new-row.ensures c.in_ok-take-2.ensures) (rw c.get_mut.follows.holds-at-none at c.in_ok-insert.ensures.updates))
