use Rattle.std.proofs.Common.{sym, ◌∙◌}
use Rattle.match_rule.proofs.Namespaces.{folder_of}
use Rattle.rule_reasons.proofs.namespace.is_folder_of.Goals as goal

pub returns-then-ends_with_slash : goal.returns-then-ends_with_slash
returns-then-ends_with_slash c =
    folder_of c.args.folder.now c.args.path.now c.starts_with.result
    (rw (c.as_bytes.ensures.value, c.as_bytes-then-ends_with_slash.ensures.value) at c.starts_with.ensures.value)
    (sym c.ends_with_slash.ensures ∙ c.if-ends_with_slash.true)
