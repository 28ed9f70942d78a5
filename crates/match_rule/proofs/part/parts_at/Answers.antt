use Rattle.std.proofs.Common.{sym, arith}
use Rattle.std.proofs.lemmas.Bool.{eqb-true}
use Rattle.std.proofs.lemmas.List.{nil_from_length}
use Rattle.match_rule.specs.Gathering.{tree_at}
use Rattle.match_rule.proofs.Steps.{gives_err}
use Rattle.match_rule.proofs.Turns.{blanks_len}
use Rattle.match_rule.proofs.PartReads.{part_len}
use Rattle.match_rule.proofs.KeptParts.{first_turn, next_turn, fault_turn, last_turn}
use Rattle.match_rule.proofs.part.parts_at.Goals as goal

pub loop-rest-init : goal.loop-rest-init
loop-rest-init c = rw (c.new-parts.ensures.conditions, c.new-parts.ensures.eavesdrop, c.after_blanks-rest.ensures) (first_turn c.args.text.now)

pub loop-rest-preserved : goal.loop-rest-preserved
loop-rest-preserved c = rw (c.in_ok-add.ensures.conditions, c.in_ok-add.ensures.eavesdrop, c.after_blanks-rest-in-loop-rest.ensures) (next_turn c.loop-rest.parts.conditions.items c.loop-rest.parts.eavesdrop c.loop-rest.rest.now c.args.text.now c.in_ok-term.term c.in_ok-term.tail.now c.loop-rest.invariant c.in_ok-term.ensures)

pub loop-rest-smaller : goal.loop-rest-smaller
loop-rest-smaller c =
    let shorter = part_len _ c.loop-rest.rest.now c.in_ok-term.term c.in_ok-term.tail.now c.in_ok-term.ensures in
    let blanks = blanks_len c.in_ok-term.tail.now in
    rw c.after_blanks-rest-in-loop-rest.ensures (omega arith)

pub returns-in_err-term : goal.returns-in_err-term
returns-in_err-term c =
    gives_err _ c.from_residual.result (tree_at c.args.text.now) c.in_err-term.field-0.0 c.from_residual.ensures.1
    (λ other. fault_turn c.loop-rest.parts.conditions.items c.loop-rest.parts.eavesdrop c.loop-rest.rest.now c.args.text.now c.in_err-term.field-0.0 c.loop-rest.invariant (sym c.loop-rest-test.ensures) (c.in_err-term.ensures other))

pub returns : goal.returns
returns c = last_turn c.loop-rest.parts.conditions.items c.loop-rest.parts.eavesdrop c.loop-rest.rest.now c.args.text.now c.loop-rest.invariant (nil_from_length c.loop-rest.rest.now (eqb-true _ 0 (sym c.loop-rest-test.ensures)))
