-- What the Close of a pass comes to.
use Rattle.std.proofs.Common.{◌≡◌, ◌||◌, inl, inr, Bool, true, false, List, ap, ◌∙◌, refl, sym, subst, ℕ}
use Rattle.std.specs.Prelude.{Result, Ok, Err, not, nat_le, if◌then◌else◌}
use Rattle.program_table.specs.declared.command.Command.{Command}
use Rattle.program_table.specs.declared.command.Command.TheVariants.{Close}
use Rattle.program_table.specs.declared.command.Reply.{Reply}
use Rattle.program_table.specs.declared.command.Reply.TheVariants.{Refused, Done}
use Rattle.program_table.specs.declared.refusal.Refusal.{Refusal}
use Rattle.program_table.specs.declared.refusal.Refusal.TheVariants as refusals
use Rattle.program_table.specs.Refusals.{◌>>=◌, refuse_if}
use Rattle.program_table.specs.Connections.{is_connected}
use Rattle.program_table.specs.Does.{reply_to, reply_of, max_commands}
use Rattle.program_table.specs.History.{after}
use Rattle.program_table.specs.State.{State}
use Rattle.published.specs.Publication.{Publication}
use Rattle.passes.specs.declared.error.BusError.{BusError}
use Rattle.passes.specs.Errors.{error_of, shuts_out}
use Rattle.passes.specs.Passes.{PassState}
use Rattle.passes.specs.Calls.{Answers, IsStopped, shut_out}

two_replies : (full gone : Bool) (refusal : Refusal) → reply_of (if full then Err refusals.Closed else (refuse_if gone refusals.Closed >>= (λ there. Ok Done))) ≡ Refused refusal → refusal ≡ refusals.Closed
two_replies true gone refusal e = cc
two_replies false true refusal e = cc
two_replies false false refusal e = absurd (cc)

module _ {M : Type 0} where
  -- a Close that is refused is Closed
  close_refused : (s : State M) (n : ℕ) (refusal : Refusal) → reply_to s (Close n) ≡ Refused refusal → refusal ≡ refusals.Closed
  close_refused s n refusal e = two_replies (nat_le max_commands s.commands) (not (is_connected n s.connections)) refusal e

  -- a pass that is stopped after it was shut out is shut out
  pub stopped_out : (v w : PassState M) (before next : Publication M) → IsStopped (shut_out v) before w next → w.is_shut_out ≡ true
  stopped_out v w before next h = ap (λ (p : PassState M). p.is_shut_out) h.same

  -- a pass that couldn't close its connection is shut out
  pub close_shuts_out : (v w : PassState M) (before next : Publication M) (n : ℕ) (error : BusError) → Answers false v before (Close n) (Err error) w next → w.is_shut_out ≡ true
  close_shuts_out v w before next n error (inl h) =
      let closed : error_of h.0.refusal ≡ error_of refusals.Closed = ap error_of (close_refused (after before.history) n h.0.refusal h.0.replies) in
      ap (λ (p : PassState M). p.is_shut_out) h.0.seen ∙ ap (λ (e : BusError). shuts_out e || v.is_shut_out) (h.0.error_is ∙ closed)
  close_shuts_out v w before next n error (inr h) = stopped_out v w before next h.0

  -- a pass that has closed its connection notes it
  pub close_noted : (v u w : PassState M) (before next : Publication M) (command : Command M) (reply : Reply) → Answers false v before command (Ok reply) u next → w ≡ record u { is_closed = true } → Answers true v before command (Ok reply) w next
  close_noted v u w before next command reply h is =
      let A : PassState M → Type 0 = λ p. Answers true v before command (Ok reply) p next in
      let noted : A (record u { is_closed = true }) = (
        record {
          begins = h.0.begins;
          accepted = h.0.accepted;
          replies = h.0.replies;
          published = h.0.published;
          same = ap (λ (p : PassState M). let q : PassState M = record p { is_closed = true } in q) h.0.same;
          own = h.0.own;
          all = h.0.all;
        },
        h.1,
        refl,
      ) in
      subst A (sym is) noted
