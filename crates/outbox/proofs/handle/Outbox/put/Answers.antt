use Rattle.std.proofs.Common.{rules, sym, subst, ap}
use Rattle.outbox.specs.declared.rule.SeatView.{SeatView}
use Rattle.outbox.specs.Seated.{Seated}
use Rattle.outbox.specs.Views.{Follows}
use Rattle.outbox.proofs.Words.{reads}
use Rattle.outbox.proofs.Steps.{puts}
use Rattle.outbox.proofs.handle.Outbox.put.Goals as goal

pub load-requires : goal.load-requires
load-requires g c = (search rules, search rules, reads _ _ _)

pub push_as-put-requires-clause-rule : goal.push_as-put-requires-clause-rule
push_as-put-requires-clause-rule g c = λ n.
    let may : SeatView → Type 0 = λ v. Follows v.put c.args.item.mark in
    puts n _ _ _ (subst may (sym (ap (λ (s : Seated). s.view) c.seat.view_is)) c.requires.follows) c.requires.unplaced
