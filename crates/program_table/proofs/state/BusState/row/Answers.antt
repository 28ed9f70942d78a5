use Rattle.std.proofs.Common.{◌≡◌, ℕ, List, ◌∙◌, ap, sym, refl}
use Rattle.std.specs.Prelude.{Ok, Err}
use Rattle.program_table.specs.declared.command.Command.TheVariants.{Request}
use Rattle.program_table.specs.declared.refusal.Refusal.{Refusal}
use Rattle.program_table.specs.State.{State}
use Rattle.program_table.specs.Capacities.{claim_within}
use Rattle.program_table.specs.Answers.{request_answer}
use Rattle.program_table.specs.Does.{refuse_unconnected, row}
use Rattle.program_table.proofs.Within.{handed_on}
use Rattle.program_table.proofs.state.BusState.row.Goals as goal

module _ {M : Type 0} where
  row_request : (s : State M) (c : ℕ) (name : List ℕ) (flags : ℕ) → refuse_unconnected c s ≡ Ok tt → claim_within s.capacity name c flags s.registrations ≡ Ok tt
      → row s (Request c name flags) ≡ request_answer name c flags s.registrations
  row_request s c name flags e f = rw e (rw f refl)

  row_beyond : (s : State M) (c : ℕ) (name : List ℕ) (flags : ℕ) (why : Refusal) → refuse_unconnected c s ≡ Ok tt → claim_within s.capacity name c flags s.registrations ≡ Err why
      → row s (Request c name flags) ≡ Err why
  row_beyond s c name flags why e f = rw e (rw f refl)

pub returns-in_err-claim_within-in-Request : goal.returns-in_err-claim_within-in-Request
returns-in_err-claim_within-in-Request g c =
    let said = c.claim_within.ensures ∙ ap (λ (s : State _). claim_within s.capacity c.in-Request.name c.in-Request.connection c.in-Request.flags s.registrations) c.self.view_is in
    handed_on c.from_residual-in_err-claim_within-in-Request.result _ c.in_err-claim_within-in-Request.field-0.0 c.from_residual-in_err-claim_within-in-Request.ensures.1
    (ap (row c.args.self.now) c.in-Request.is
    ∙ row_beyond c.args.self.now c.in-Request.connection c.in-Request.name c.in-Request.flags c.in_err-claim_within-in-Request.field-0.0
    (sym c.refuse_unconnected-in-Request.ensures ∙ c.in_ok-refuse_unconnected-in-Request.was) (sym said ∙ c.in_err-claim_within-in-Request.was))

pub returns-in_ok-claim_within-in-Request : goal.returns-in_ok-claim_within-in-Request
returns-in_ok-claim_within-in-Request g c =
    let said = c.claim_within.ensures ∙ ap (λ (s : State _). claim_within s.capacity c.in-Request.name c.in-Request.connection c.in-Request.flags s.registrations) c.self.view_is in
    c.request_answer.ensures
    ∙ ap (λ (s : State _). request_answer c.in-Request.name c.in-Request.connection c.in-Request.flags s.registrations) c.self.view_is
    ∙ sym (row_request c.args.self.now c.in-Request.connection c.in-Request.name c.in-Request.flags (sym c.refuse_unconnected-in-Request.ensures ∙ c.in_ok-refuse_unconnected-in-Request.was)
    (sym said ∙ c.in_ok-claim_within-in-Request.was))
    ∙ ap (row c.args.self.now) (sym c.in-Request.is)
