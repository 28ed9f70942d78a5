use Rattle.dbusfan_tool.proofs.assembling.assemble_file.Goals as goal

pub returns-clause-found : goal.returns-clause-found
returns-clause-found g c = (_, c.in_ok-program.ensures.found, rw c.deref.ensures.value at c.in_ok-text.ensures)
