use Rattle.std.proofs.Common.{inl, refl}
use Rattle.dbusfan_tool.specs.Program.{refused}
use Rattle.dbusfan_tool.proofs.Programs.{check_fails, check_accepts}
use Rattle.dbusfan_tool.proofs.program.verified_file.Goals as goal

pub returns-in_err-program-clause-fault : goal.returns-in_err-program-clause-fault
returns-in_err-program-clause-fault g c = check_fails _ _ _ c.from_residual.ensures.1 c.in_err-program.ensures.fault

pub returns-in-Ok-clause-found : goal.returns-in-Ok-clause-found
returns-in-Ok-clause-found g c =
    check_accepts _ _ _ c.in_ok-program.ensures.found (c.in-Ok.ensures.accepted.0 refl) c.in-Ok.ensures.same

pub returns-clause-fault : goal.returns-clause-fault
returns-clause-fault g c = inl (refused c.in_ok-program.ensures.found c.in-Err.ensures.fault)
