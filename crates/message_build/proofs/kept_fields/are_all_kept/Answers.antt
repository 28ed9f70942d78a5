use Rattle.std.proofs.Common.{length, sym, ap, subst, ◌∙◌, ◌<◌}
use Rattle.std.specs.List.{list_all}
use Rattle.message_value.specs.Reading.{At}
use Rattle.message_build.specs.Stamped.{is_kept}
use Rattle.message_build.specs.StampedFields.{is_kept_code}
use Rattle.message_build.proofs.AllKept.{Rest, at_start, turn, at_end}
use Rattle.message_build.proofs.kept_fields.are_all_kept.Goals as goal

pub loop-cursor-init : goal.loop-cursor-init
loop-cursor-init c = λ fields are is. rw c.new-cursor.ensures (at_start c.args.order _ _ fields are is)

pub skip_field-code-requires : goal.skip_field-code-requires
skip_field-code-requires c =
    let v = c.requires.valid in
    let t = turn _ _ _ (c.loop-cursor.invariant v.0 v.1 v.2) (sym c.loop-cursor-test.ensures) in
    ((t.field, t.tail), t.read)

pub loop-cursor-smaller : goal.loop-cursor-smaller
loop-cursor-smaller c =
    let v = c.requires.valid in
    let t = turn _ _ _ (c.loop-cursor.invariant v.0 v.1 v.2) (sym c.loop-cursor-test.ensures) in
    let s = c.skip_field-code.ensures t.field t.tail t.read in
    subst (λ (a : At). length a.rest < length c.loop-cursor.cursor.rest) (sym s.1) t.shorter

pub loop-cursor-preserved : goal.loop-cursor-preserved
loop-cursor-preserved c = λ fields are is.
    let t = turn _ _ _ (c.loop-cursor.invariant fields are is) (sym c.loop-cursor-test.ensures) in
    let s = c.skip_field-code.ensures t.field t.tail t.read in
    subst (λ (a : At). Rest c.args.order a (list_all is_kept fields)) (sym s.1) (t.kept (ap is_kept_code (sym s.0) ∙ sym c.is_kept.ensures ∙ c.if-not-is_kept.false))

pub returns-then-not-is_kept : goal.returns-then-not-is_kept
returns-then-not-is_kept c = λ fields are is.
    let t = turn _ _ _ (c.loop-cursor.invariant fields are is) (sym c.loop-cursor-test.ensures) in
    let s = c.skip_field-code.ensures t.field t.tail t.read in
    t.other (ap is_kept_code (sym s.0) ∙ sym c.is_kept.ensures ∙ c.if-not-is_kept.true)

pub returns : goal.returns
returns c = λ fields are is. at_end _ _ _ (c.loop-cursor.invariant fields are is) (sym c.loop-cursor-test.ensures)
