use Rattle.std.proofs.Common.{[], ◌∷◌, ◌++◌, take, sym, ap, subst, ◌∙◌}
use Rattle.std.proofs.lemmas.List.{take_more}
use Rattle.world.specs.IsWorld.{AreDone}
use Rattle.world.proofs.Doing.{done_more}
use Rattle.world.proofs.world.World.run.Goals as goal

pub loop-place-preserved : goal.loop-place-preserved
loop-place-preserved c =
    let events = c.args.events.now in
    let place = c.loop-place.place in
    let event = c.index-events-place.result in
    subst (λ done. AreDone done c.args.self.now c.add.new.self c.args.answers.now.items c.add.new.answers.items)
    (sym (take_more events place event c.loop-place-test.true ∙ ap (λ last. take place events ++ last ∷ []) (sym c.index-events-place.is)))
    (done_more (take place events) (event ∷ []) c.args.self.now c.loop-place.self c.add.new.self c.args.answers.now.items c.loop-place.answers.items c.add.new.answers.items c.loop-place.invariant c.in-Ok.ensures.done)
