use Rattle.std.proofs.Common.{Ok, Err, inl, inr, refl, ap}
use Rattle.dbusfan_tool.specs.Answer.{saying, failing}
use Rattle.dbusfan_tool.proofs.assembling.answer.Goals as goal

pub returns-in-Ok : goal.returns-in-Ok
returns-in-Ok g c = let found = c.in-Ok.ensures.found in inl (Ok found.0, found.1, ap saying found.2)

pub returns-in-Err : goal.returns-in-Err
returns-in-Err g c =
    elim c.in-Err.ensures.fault [ inl none ↦ inl (Err _, none, refl) | inr short ↦ inr (ap failing short) ]
