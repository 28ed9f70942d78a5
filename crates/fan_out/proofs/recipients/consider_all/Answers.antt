use Rattle.std.proofs.Common.{◌∷◌, ◌∙◌, Bool, List, refl, sym, ap, arith}
use Rattle.std.specs.Prelude.{slice_get}
use Rattle.fan_out.specs.Marking.{AreMarkedSoFar}
use Rattle.fan_out.proofs.Places.{none_marked}
use Rattle.fan_out.proofs.Marking.{marks_begin, marks_more}
use Rattle.fan_out.proofs.recipients.consider_all.Goals as goal

pub entries-init : goal.entries-init
entries-init g c = record {
  view = refl;
  owned = refl;
  noted = λ k n stands marked. absurd (none_marked 4096 k (sym (ap (λ (ms : List Bool). slice_get ms k) c.requires.none_marked) ∙ marked));
  so_far = marks_begin c.args.state.now c.args.piece.part c.args.piece.of c.args.programs.view.now c.args.programs.owned.now (c.args.first.now ∷ c.args.others.now) 4096 c.args.programs.cost.runs c.args.marks.now.places c.requires.none_marked c.requires.none_run;
}

pub consider_with_edition_two-requires-clause-few : goal.consider_with_edition_two-requires-clause-few
consider_with_edition_two-requires-clause-few g c =
    let needs = rw c.if-consider.true at c.consider.ensures.considered in
    omega (arith, c.requires.few, c.entries.invariant.so_far.few, needs.passed.none_run)

pub consider_with_edition_two-requires-clause-connected : goal.consider_with_edition_two-requires-clause-connected
consider_with_edition_two-requires-clause-connected g c = λ e there. c.requires.connected e (c.entries.invariant.so_far.rest e there)

pub returns-then-consider : goal.returns-then-consider
returns-then-consider g c =
    let before = c.entries.invariant in
    let needs = rw c.if-consider.true at c.consider.ensures.considered in
    record { marked = rw (sym before.view, sym before.owned, sym c.consider.ensures.view, sym c.consider.ensures.owned) (c.consider_with_edition_two.ensures.marked (c.args.first.now ∷ c.args.others.now) (rw (c.consider.ensures.view, c.consider.ensures.owned, before.view, before.owned, needs.passed.kept, needs.passed.none_run) before.so_far)) }

pub entries-preserved : goal.entries-preserved
entries-preserved g c =
    let before = c.entries.invariant in
    let considered = rw (c.if-consider.false, before.view, before.owned) at c.consider.ensures.considered in
    let so_far : AreMarkedSoFar c.args.state.now c.args.piece.part c.args.piece.of c.args.programs.view.now c.args.programs.owned.now (c.args.first.now ∷ c.args.others.now) c.entries.others c.consider.new.marks.places c.consider.new.programs.cost.runs =
    marks_more c.args.state.now c.args.piece.part c.args.piece.of c.args.programs.view.now c.args.programs.owned.now (c.args.first.now ∷ c.args.others.now) c.entries.others c.entries.entry.now c.entries.marks.places c.consider.new.marks.places c.entries.programs.cost.runs c.consider.new.programs.cost.runs before.so_far considered in
    record {
      view = c.consider.ensures.view ∙ before.view;
      owned = c.consider.ensures.owned ∙ before.owned;
      noted = c.consider.ensures.noted;
      so_far = rw c.in-Some.ensures.steps at so_far;
    }

pub returns-in-None : goal.returns-in-None
returns-in-None g c =
    let before = c.entries.invariant in
    let considered = rw (c.if-consider.false, before.view, before.owned) at c.consider.ensures.considered in
    let so_far : AreMarkedSoFar c.args.state.now c.args.piece.part c.args.piece.of c.args.programs.view.now c.args.programs.owned.now (c.args.first.now ∷ c.args.others.now) c.entries.others c.consider.new.marks.places c.consider.new.programs.cost.runs =
    marks_more c.args.state.now c.args.piece.part c.args.piece.of c.args.programs.view.now c.args.programs.owned.now (c.args.first.now ∷ c.args.others.now) c.entries.others c.entries.entry.now c.entries.marks.places c.consider.new.marks.places c.entries.programs.cost.runs c.consider.new.programs.cost.runs before.so_far considered in
    record { marked = rw c.cost.ensures (rw c.in-None.ensures.steps.0 at so_far) }
