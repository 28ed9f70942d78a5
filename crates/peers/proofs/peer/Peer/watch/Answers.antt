use Rattle.std.proofs.Common.{◌≡◌, ap, ◌∙◌, inr}
use Rattle.std.specs.Prelude.{Result, Ok, Err, IsErrAnd}
use Rattle.peers.specs.declared.error.AnswerError.{AnswerError}
use Rattle.peers.proofs.peer.Peer.watch.Goals as goal

its_error : (r : Result (Unit {0}) AnswerError) (error : AnswerError) → IsErrAnd r (λ e. e ≡ error) → r ≡ Err error
its_error (Ok done) error is = absurd is
its_error (Err e) error is = ap (λ (x : AnswerError). Err x) is

pub returns-in_err-go_under-clause-row : goal.returns-in_err-go_under-clause-row
returns-in_err-go_under-clause-row g c =
    let refused = its_error c.from_residual-in_err-go_under.result c.in_err-go_under.field-0.0 c.from_residual-in_err-go_under.ensures.1 ∙ ap (λ (x : AnswerError). Err x) c.in_err-go_under.ensures.error in
    (_, c.answer.new.self, c.in_ok-answer.ensures.answer, (c.go_under.result, c.go_under.ensures.gone, inr refused))
