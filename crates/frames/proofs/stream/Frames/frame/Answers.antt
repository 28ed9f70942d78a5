use Rattle.std.proofs.Common.{ap, sym, ◌∙◌}
use Rattle.frames.specs.Stream.{Cutting}
use Rattle.frames.proofs.Fronts.{frame_is, frame_first, fault_inside, frame_unfinished}
use Rattle.frames.proofs.stream.Frames.frame.Goals as goal

pub returns-in-None-clause-frame : goal.returns-in-None-clause-frame
returns-in-None-clause-frame c =
    frame_is c.args.self.now.unread c.as_slice.result.now c.args.self.now.fault c.frame_of.result
    (c.as_slice.ensures ∙ ap (λ (x : Cutting). x.unread) c.self.view_is)
    (ap (λ (x : Cutting). x.fault) (sym c.self.view_is) ∙ c.in-None.is)
    c.frame_of.ensures.frame

pub returns-in-None-clause-first : goal.returns-in-None-clause-first
returns-in-None-clause-first c =
    frame_first c.args.self.now.unread c.as_slice.result.now c.frame_of.result
    (c.as_slice.ensures ∙ ap (λ (x : Cutting). x.unread) c.self.view_is)
    c.frame_of.ensures.frame

pub returns-in-None-clause-inside : goal.returns-in-None-clause-inside
returns-in-None-clause-inside c =
    fault_inside c.args.self.now.unread c.as_slice.result.now c.frame_of.result
    (c.as_slice.ensures ∙ ap (λ (x : Cutting). x.unread) c.self.view_is)
    c.frame_of.ensures.frame

pub returns-in-None-clause-unfinished : goal.returns-in-None-clause-unfinished
returns-in-None-clause-unfinished c =
    frame_unfinished c.args.self.now.unread c.as_slice.result.now c.args.self.now.fault c.frame_of.result
    (c.as_slice.ensures ∙ ap (λ (x : Cutting). x.unread) c.self.view_is)
    (ap (λ (x : Cutting). x.fault) (sym c.self.view_is) ∙ c.in-None.is)
    c.frame_of.ensures.unfinished
