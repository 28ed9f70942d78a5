use Rattle.std.proofs.Common.{ℕ, sym, ◌∙◌, length}
use Rattle.filter.specs.declared.reader.Reader.{Reader}
use Rattle.filter.specs.Filters.{tree_of}
use Rattle.filter.specs.Readers.{state_of}
use Rattle.filter.proofs.Errors.{finds_err, found_err}
use Rattle.filter.proofs.PastTurns.{past_turn, bad_turn}
use Rattle.filter.proofs.reading.read_bytes.Goals as goal

pub returns-in_err-next : goal.returns-in_err-next
returns-in_err-next c =
    let text = c.args.text.now in
    finds_err tree_of c.from_residual.result _ c.in_err-next.field-0.0 c.from_residual.ensures.1 (λ fault same.
    sym c.loop-place.invariant.0 ∙ bad_turn (state_of c.loop-place.reader) (length text) c.loop-place.place fault text c.loop-place-test.true (found_err (λ (x : Reader × ℕ). (state_of x.0, x.1)) _ c.in_err-next.field-0.0 fault c.in_err-next.ensures.value same))

pub loop-place-preserved : goal.loop-place-preserved
loop-place-preserved c =
    let text = c.args.text.now in (
      sym (past_turn (state_of c.loop-place.reader) (state_of c.in_ok-next.next) (length text) c.loop-place.place c.in_ok-next.after text c.loop-place-test.true c.in_ok-next.ensures.farther c.in_ok-next.ensures.within c.in_ok-next.ensures.value) ∙ c.loop-place.invariant.0,
      c.in_ok-next.ensures.within,
    )
