use Rattle.std.proofs.Common.{◌≡◌, true, sym, ◌∙◌, ap, arith}
use Rattle.program_table.specs.Does.{is_accepted}
use Rattle.program_table.specs.History.{after}
use Rattle.published.proofs.Adding.{adds_moves}
use Rattle.published.proofs.Histories.{accepted_room}
use Rattle.published.proofs.history.HistoryPrefix.add.Goals as goal

pub compare_exchange-found-requires : goal.compare_exchange-found-requires
compare_exchange-found-requires g c =
    let h = c.book.invariant in
    let offer = c.plain-offer.ensures in
    let pen = c.no_pen-pen.ensures in
    let may : is_accepted (after c.self.inside.seen.log) c.args.command.now ≡ true = rw c.self.view_is c.requires in (
      ap (λ w. w.tracked) h,
      c.self.invariant.1 ∙ sym (ap (λ w. w.book) h),
      pen.0 ∙ (c.self.invariant.1 ∙ sym (ap (λ w. w.book) h)),
      offer.0,
      rw (ap (λ w. w.key) h, pen.1, offer.1, offer.3) (adds_moves c.self.inside.seen.log c.args.command.now c.self.inside.count (sym c.self.invariant.0) may),
    )

pub overflow_add-count : goal.overflow_add-count
overflow_add-count g c =
    let may : is_accepted (after c.self.inside.seen.log) c.args.command.now ≡ true = rw c.self.view_is c.requires in
    let room = accepted_room c.self.inside.seen.log c.args.command.now c.self.invariant.2 may in
    omega (arith, room, c.self.invariant.0)

pub overflow_add-self : goal.overflow_add-self
overflow_add-self g c =
    let may : is_accepted (after c.self.inside.seen.log) c.args.command.now ≡ true = rw c.self.view_is c.requires in
    let room = accepted_room c.self.inside.seen.log c.args.command.now c.self.invariant.2 may in
    omega (arith, room, c.self.invariant.0)
