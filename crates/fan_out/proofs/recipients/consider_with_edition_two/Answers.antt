use Rattle.std.proofs.Common.{◌∙◌, List, length, refl, sym, ap, arith}
use Rattle.entry_table.specs.declared.entry.Entry.{Entry}
use Rattle.fan_out.specs.Marking.{AreMarkedSoFar}
use Rattle.fan_out.proofs.Places.{contains_later}
use Rattle.fan_out.proofs.Marking.{marks_more, considers_few}
use Rattle.fan_out.proofs.recipients.consider_with_edition_two.Goals as goal

pub entries-init : goal.entries-init
entries-init g c = record {
  view = refl;
  owned = refl;
  noted = c.requires.noted;
  few = omega arith;
  rest = λ e there. there;
  marked = λ all so_far. so_far;
}

pub consider_over_edition_two-requires-clause-edition_two : goal.consider_over_edition_two-requires-clause-edition_two
consider_over_edition_two-requires-clause-edition_two g c = rw (c.entries.invariant.view, c.entries.invariant.owned) (record { same = c.fill.ensures })

pub consider_with_edition_one-requires-clause-edition_two : goal.consider_with_edition_one-requires-clause-edition_two
consider_with_edition_one-requires-clause-edition_two g c =
    rw (c.consider_over_edition_two.ensures.view, c.consider_over_edition_two.ensures.owned, c.entries.invariant.view, c.entries.invariant.owned) (record { same = c.fill.ensures })

pub returns-then-consider_over_edition_two : goal.returns-then-consider_over_edition_two
returns-then-consider_over_edition_two g c =
    let before = c.entries.invariant in
    let reads = rw c.if-consider_over_edition_two.true at c.consider_over_edition_two.ensures.considered in
    record { marked = λ all so_far. rw (sym before.view, sym before.owned, sym c.consider_over_edition_two.ensures.view, sym c.consider_over_edition_two.ensures.owned) (c.consider_with_edition_one.ensures.marked all (rw (c.consider_over_edition_two.ensures.view, c.consider_over_edition_two.ensures.owned, before.view, before.owned, reads.needs.passed.kept, reads.needs.passed.none_run) (before.marked all so_far))) }

pub entries-preserved : goal.entries-preserved
entries-preserved g c =
    let before = c.entries.invariant in
    let considered = rw (c.if-consider_over_edition_two.false, before.view, before.owned) at c.consider_over_edition_two.ensures.considered in
    record {
      view = c.consider_over_edition_two.ensures.view ∙ before.view;
      owned = c.consider_over_edition_two.ensures.owned ∙ before.owned;
      noted = c.consider_over_edition_two.ensures.noted;
      few = omega (arith, before.few, ap (λ (es : List Entry). length es) c.in-Some.ensures.steps, considers_few c.args.state.now c.args.piece.part c.args.piece.of c.args.programs.view.now c.args.programs.owned.now c.entries.entry.now c.entries.marks.places c.consider_over_edition_two.new.marks.places c.entries.programs.cost.runs c.consider_over_edition_two.new.programs.cost.runs considered);
      rest = λ e there. before.rest e (contains_later c.entries.entry.now e c.entries.others (rw c.in-Some.ensures.steps there));
      marked = λ all so_far.
          let later : AreMarkedSoFar c.args.state.now c.args.piece.part c.args.piece.of c.args.programs.view.now c.args.programs.owned.now all c.entries.others c.consider_over_edition_two.new.marks.places c.consider_over_edition_two.new.programs.cost.runs = marks_more c.args.state.now c.args.piece.part c.args.piece.of c.args.programs.view.now c.args.programs.owned.now all c.entries.others c.entries.entry.now c.entries.marks.places c.consider_over_edition_two.new.marks.places c.entries.programs.cost.runs c.consider_over_edition_two.new.programs.cost.runs (before.marked all so_far) considered in
          rw c.in-Some.ensures.steps at later;
    }

pub returns-in-None : goal.returns-in-None
returns-in-None g c =
    let before = c.entries.invariant in
    let considered = rw (c.if-consider_over_edition_two.false, before.view, before.owned) at c.consider_over_edition_two.ensures.considered in
    record {
      marked = λ all so_far.
          let later : AreMarkedSoFar c.args.state.now c.args.piece.part c.args.piece.of c.args.programs.view.now c.args.programs.owned.now all c.entries.others c.consider_over_edition_two.new.marks.places c.consider_over_edition_two.new.programs.cost.runs = marks_more c.args.state.now c.args.piece.part c.args.piece.of c.args.programs.view.now c.args.programs.owned.now all c.entries.others c.entries.entry.now c.entries.marks.places c.consider_over_edition_two.new.marks.places c.entries.programs.cost.runs c.consider_over_edition_two.new.programs.cost.runs (before.marked all so_far) considered in
          rw c.cost.ensures (rw c.in-None.ensures.steps.0 at later);
    }
