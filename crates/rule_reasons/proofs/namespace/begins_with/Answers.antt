use Rattle.std.proofs.lemmas.Bool.Decides.{Decides-eqb}
use Rattle.std.proofs.lemmas.Slice.Eq.{strip_prefix_is}
use Rattle.std.specs.Prelude.{None, Some}
use Rattle.match_rule.proofs.Namespaces.{no_front, front_goes_on}
use Rattle.rule_reasons.proofs.namespace.begins_with.Goals as goal

pub returns-in-None : goal.returns-in-None
returns-in-None c =
    no_front c.args.text.now c.args.front.now c.args.byte
    (rw (c.as_bytes.ensures.value, c.as_bytes-2.ensures.value) at (strip_prefix_is Decides-eqb c.as_bytes.result.now c.as_bytes-2.result.now None c.in-None.ensures.cases))

pub returns-in-Some-split_first : goal.returns-in-Some-split_first
returns-in-Some-split_first c =
    front_goes_on c.args.text.now c.args.front.now c.in-Some.rest.now c.in-Some-split_first.field-0-1.now c.in-Some-split_first.first.now c.args.byte
    (rw (c.as_bytes.ensures.value, c.as_bytes-2.ensures.value) at (strip_prefix_is Decides-eqb c.as_bytes.result.now c.as_bytes-2.result.now (Some c.in-Some.rest) c.in-Some.ensures.cases))
    c.in-Some-split_first.ensures.cases.0
