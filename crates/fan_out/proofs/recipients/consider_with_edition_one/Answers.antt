use Rattle.std.proofs.Common.{◌∙◌, inr, List, length, ap, arith}
use Rattle.entry_table.specs.declared.entry.Entry.{Entry}
use Rattle.fan_out.proofs.Places.{contains_later}
use Rattle.fan_out.proofs.Marking.{marks_more, considers_few}
use Rattle.fan_out.proofs.recipients.consider_with_edition_one.Goals as goal

pub ask-requires-clause-image : goal.ask-requires-clause-image
ask-requires-clause-image g c = rw c.requires.edition (record { same = c.fill.ensures })

pub loop-entry-init : goal.loop-entry-init
loop-entry-init g c = record {
  view = c.ask.ensures.view;
  owned = c.ask.ensures.owned;
  noted = c.ask.ensures.noted;
  few = omega (arith, c.ask.ensures.asked.one_run);
  rest = λ e there. contains_later c.args.first.now e c.args.others.now there;
  marked = λ all so_far. marks_more c.args.state.now c.args.piece.part c.args.piece.of c.args.programs.view.now c.args.programs.owned.now all c.args.others.now c.args.first.now c.args.marks.now.places c.ask.new.marks.places c.args.programs.cost.runs c.ask.new.programs.cost.runs so_far (inr c.ask.ensures.asked);
}

pub loop-entry-preserved : goal.loop-entry-preserved
loop-entry-preserved g c =
    let before = c.loop-entry.invariant in
    let considered = rw (before.view, before.owned) at c.consider_over_both.ensures.considered in
    record {
      view = c.consider_over_both.ensures.view ∙ before.view;
      owned = c.consider_over_both.ensures.owned ∙ before.owned;
      noted = c.consider_over_both.ensures.noted;
      few = omega (arith, before.few, ap (λ (es : List Entry). length es) c.in-Some.ensures.steps, considers_few c.args.state.now c.args.piece.part c.args.piece.of c.args.programs.view.now c.args.programs.owned.now c.in-Some.entry.now c.loop-entry.marks.places c.consider_over_both.new.marks.places c.loop-entry.programs.cost.runs c.consider_over_both.new.programs.cost.runs considered);
      rest = λ e there. before.rest e (rw c.in-Some.ensures.steps (contains_later c.in-Some.entry.now e c.next.new.self there));
      marked = λ all so_far. marks_more c.args.state.now c.args.piece.part c.args.piece.of c.args.programs.view.now c.args.programs.owned.now all c.next.new.self c.in-Some.entry.now c.loop-entry.marks.places c.consider_over_both.new.marks.places c.loop-entry.programs.cost.runs c.consider_over_both.new.programs.cost.runs (rw c.in-Some.ensures.steps at before.marked all so_far) considered;
    }

pub returns : goal.returns
returns g c = record { marked = λ all so_far. rw c.cost.ensures (rw c.in_default.ensures.steps.0 at c.loop-entry.invariant.marked all so_far) }
