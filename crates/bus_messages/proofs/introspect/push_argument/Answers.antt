use Rattle.std.proofs.Common.{subst, sym}
use Rattle.std.specs.Str.{IsUtf8}
use Rattle.bus_messages.proofs.Introspecting.{type_utf8}
use Rattle.bus_messages.proofs.introspect.push_argument.Goals as goal

pub returns-in-Err : goal.returns-in-Err
returns-in-Err c = let spelled = c.as_bytes.ensures.spelled in absurd (c.in-Err.ensures.cases.0 (subst IsUtf8 (sym c.as_bytes.ensures.text) (type_utf8 spelled.0 c.args.one.now spelled.1)))
