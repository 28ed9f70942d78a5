use Rattle.message_build.proofs.Appended.{front_kept}
use Rattle.message_build.proofs.KeptLoop.{goes_on, at_end}
use Rattle.message_build.proofs.kept_fields.push_kept.Goals as goal

pub loop-found-preserved : goal.loop-found-preserved
loop-found-preserved c =
    let front = c.loop-found.invariant.0 in (
      front_kept _ _ _ _ front c.in_ok-push_found.ensures,
      λ fields are is. goes_on _ _ c.loop-found.cursor c.next_field.new.cursor _ _ _ c.in-Some.found (c.loop-found.invariant.1 fields are is) c.in-Some.ensures.shorter (record { found = c.in-Some.ensures.found; tail = c.in-Some.ensures.tail }) c.in_ok-push_found.ensures,
    )

pub returns-clause-kept : goal.returns-clause-kept
returns-clause-kept c = λ fields are is. at_end _ _ c.loop-found.cursor c.next_field.new.cursor _ _ (c.loop-found.invariant.1 fields are is) (record { found = c.in_default.ensures.found; tail = c.in_default.ensures.tail })
