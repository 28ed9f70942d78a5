use Rattle.std.proofs.Common.{inl}
use Rattle.dbusfan_tool.proofs.Programs.{count_fails, counts}
use Rattle.dbusfan_tool.proofs.checking.count_of_file.Goals as goal

pub returns-in_err-verified : goal.returns-in_err-verified
returns-in_err-verified g c = count_fails _ _ _ c.from_residual.ensures.1 c.in_err-verified.ensures.fault

pub returns : goal.returns
returns g c = inl (counts _ _ _ c.code.ensures.value c.in_ok-verified.ensures.found.0 c.in_ok-verified.ensures.found.1)
