use Rattle.std.proofs.Common.{sym, ap, ◌∙◌}
use Rattle.match_rule.specs.Bytes.{ends_with}
use Rattle.match_rule.proofs.Namespaces.{ends_with-last}
use Rattle.filter_compile.proofs.nested.ends_with_slash.Goals as goal

pub returns-in-Some : goal.returns-in-Some
returns-in-Some c = sym (ap (ends_with 47) c.in-Some.ensures.cases.0 ∙ ends_with-last 47 c.in-Some.field-0-1.now c.in-Some.last.now)
