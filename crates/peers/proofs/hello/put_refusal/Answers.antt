use Rattle.std.proofs.Common.{◌≡◌, ℕ, None, Err, inr, refl, sym, ap, subst, ◌∙◌}
use Rattle.outbox.specs.Items.{Item}
use Rattle.bus_messages.specs.Sent.{error_asked}
use Rattle.bus_messages.specs.declared.error_name.ErrorName.TheVariants.{NoMemory}
use Rattle.peers.specs.declared.error.AnswerError.TheVariants as errors
use Rattle.peers.specs.Answers.{IsEither, TurnsAwayIf}
use Rattle.peers.proofs.Putting.{turned_away, not_false}
use Rattle.peers.proofs.hello.put_refusal.Goals as goal

pub returns-in-Ok-clause-answer : goal.returns-in-Ok-clause-answer
returns-in-Ok-clause-answer g c =
    let built : ℕ → Type 0 = λ serial. IsEither (error_asked serial None c.args.request.serial c.args.name) (error_asked serial None c.args.request.serial NoMemory) c.in-Ok.message.bytes in
    let bytes : c.in-Ok.message.bytes ≡ c.in_ok-bytes.bytes = ap (λ (item : Item). item.bytes) c.in-Ok.ensures in
    let first : c.take-serial.result ≡ 1 = c.take-serial.ensures.next ∙ c.new.ensures in
    turned_away c.args.request c.args.name c.in-Ok.message c.args.own.now c.put.new.self c.put.result (not_false _ c.if-not-request.false) (ap (λ (item : Item). item.mark) c.in-Ok.ensures)
    (subst built first (subst (IsEither _ _) (sym bytes) c.in_ok-bytes.ensures.built)) c.put.ensures.put

pub returns-in-Err-clause-answer : goal.returns-in-Err-clause-answer
returns-in-Err-clause-answer g c = subst (λ b. TurnsAwayIf b c.args.request c.args.name c.args.own.now (Err errors.NoMemory) c.args.own.now) (sym (not_false _ c.if-not-request.false)) (inr refl, refl)
