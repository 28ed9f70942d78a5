use Rattle.std.proofs.Common.{sym, ◌∙◌}
use Rattle.std.specs.Prelude.{string_bytes}
use Rattle.command_line.specs.Output.{more}
use Rattle.dbusfan_tool.proofs.Tallied.{some_bytes}
use Rattle.dbusfan_tool.proofs.tally.Tally.put_lines.Goals as goal

pub returns-clause-put : goal.returns-clause-put
returns-clause-put g c before written puts =
    let some = some_bytes _ (string_bytes c.args.self.now.lines) c.args.self.now.lines.bytes.ok.0 (sym c.is_empty.ensures ∙ c.if-is_empty.false) in
    let put = rw c.as_bytes.ensures.value at c.put.ensures in
    more puts some put
