-- What a pass that was admitted may do.
use Rattle.std.proofs.Common.{◌≡◌, ℕ, inl, inr, Bool, false, List, [], ◌∷◌, ◌++◌, refl, sym, ap, ◌∙◌, subst, arith, append_assoc}
use Rattle.std.specs.Prelude.{Result, Ok, Err, IsErrAnd}
use mathlib.Core.List.{IsPrefix}
use Rattle.program_table.specs.declared.command.Command.{Command}
use Rattle.program_table.specs.declared.command.Reply.{Reply}
use Rattle.program_table.specs.History.{own_commands, IsHistory}
use Rattle.published.specs.Publication.{Publication}
use Rattle.passes.specs.declared.error.BusError.{BusError}
use Rattle.passes.specs.Passes.{PassState, HasTaken}
use Rattle.passes.specs.Calls.{IsShutOut, unconnected, closed, ended, others, fewer, Answers}
use Rattle.passes.specs.Admission.{IsAdmitted}
use Rattle.passes.specs.Readiness.{Admits, IsReady}
use Rattle.passes.proofs.Owned.{own_same}
use Rattle.passes.proofs.Done.{counted}
use Rattle.passes.proofs.Commands.{IsTold, IsCounted}

module _ {M : Type 0} where
  pub told_self : (v : PassState M) (before : Publication M) → IsReady v before → IsTold v v before.history before
  told_self v before h = record {
    told_is = refl;
    begins = h.admitted.begins;
    same = ap (λ (l : List (Command M)). let p : PassState M = record v { seen = l } in p) h.seen;
  }

  pub counted_self : (v : PassState M) (before : Publication M) → IsReady v before → IsCounted v before v.connection v.took
  counted_self v before h = record {
    legal = h.legal;
    taken = h.taken;
    at = refl;
    there = h.admitted.connected;
    was = refl;
    counts = h.admitted.counts;
  }

  pub counted_at : (v : PassState M) (before : Publication M) (connection : ℕ) → connection ≡ v.connection → IsReady v before → IsCounted v before connection v.took
  counted_at v before connection at h = subst (λ (n : ℕ). IsCounted v before n v.took) (sym at) (counted_self v before h)

  -- of the connection's commands no more are published than the pass had seen
  own_seen : (v : PassState M) (before : Publication M) → HasTaken v → IsHistory before.history → IsAdmitted v before
      → own_commands v.connection before.history ≡ own_commands v.connection v.seen
  own_seen v before taken legal a =
      let n = counted v.connection v.took before.history legal (taken.some a.connected) a.counts in
      let low = taken.own in
      own_same v.seen before.history v.connection a.begins (omega (arith, n, low))

  prefix_on : (xs ys zs : List (Command M)) → IsPrefix xs ys → IsPrefix ys zs → IsPrefix xs zs
  prefix_on xs ys zs p q =
      let e : xs ++ (p.0 ++ q.0) ≡ zs = sym (append_assoc xs p.0 q.0) ∙ ap (λ (l : List (Command M)). l ++ q.0) p.1 ∙ q.1 in (p.0 ++ q.0, e)

  told_history : PassState M → Publication M → PassState M
  told_history v before = record v { seen = before.history }

  shut_out : (v : PassState M) (before : Publication M) → IsShutOut (told_history v before) before → IsShutOut v before
  unfolding told_history
  shut_out v before (unconnected e) = unconnected e
  shut_out v before (closed e) = closed e
  shut_out v before (ended e) = ended e
  shut_out v before (others e) = others e
  shut_out v before (fewer e) = absurd (omega (arith, e))

  answers : (v w : PassState M) (before next : Publication M) (command : Command M) (result : Result Reply BusError) → HasTaken v → IsHistory before.history → IsAdmitted v before
      → Answers false (told_history v before) before command result w next → Answers false v before command result w next
  unfolding told_history
  answers v w before next command (Ok reply) taken legal a h =
      let same : own_commands w.connection before.history ≡ own_commands w.connection v.seen =
      subst (λ (n : ℕ). own_commands n before.history ≡ own_commands n v.seen) (sym h.1) (own_seen v before taken legal a) in (
        record {
          begins = a.begins;
          accepted = h.0.accepted;
          replies = h.0.replies;
          published = h.0.published;
          same = h.0.same;
          own = h.0.own ∙ ap (λ (l : List (Command M)). l ++ command ∷ []) same;
          all = h.0.all;
        },
        h.1,
        h.2,
      )
  answers v w before next command (Err error) taken legal a (inl h) = inl (
    record {
      begins = a.begins;
      refusal = h.0.refusal;
      replies = h.0.replies;
      error_is = h.0.error_is;
      published = h.0.published;
      seen = h.0.seen;
    },
    record { own = h.1.own ∙ own_seen v before taken legal a; all = h.1.all },
  )
  answers v w before next command (Err error) taken legal a (inr h) = inr (
    record { begins = prefix_on v.seen before.history w.seen a.begins h.0.begins; same = h.0.same; published = h.0.published },
    elim h.1 [ inl k ↦ inl (k.0, shut_out v before k.1) | inr k ↦ inr k ],
  )

  -- what it asks for is answered as if the pass that was admitted had asked
  pub answers_admitted : (v u w : PassState M) (before next : Publication M) (command : Command M) (result : Result Reply BusError) → HasTaken v → IsHistory before.history
      → IsAdmitted v before → u ≡ record v { seen = before.history } → Answers false u before command result w next → Answers false v before command result w next
  unfolding told_history
  answers_admitted v u w before next command result taken legal a is h =
      answers v w before next command result taken legal a (subst (λ (p : PassState M). Answers false p before command result w next) is h)

  -- a pass that isn't admitted is Closed
  pub not_admitted : (v w : PassState M) (before : Publication M) (closes : Bool) (command : Command M) (error : BusError) → Admits v before (Err error) w → Answers closes v before command (Err error) w before
  not_admitted v w before closes command error (is, stopped, why) = inr (stopped, inl (is, why))

  -- what a call is answered is handed on
  pub handed_on : (closes : Bool) (v w : PassState M) (before next : Publication M) (command : Command M) (result : Result Reply BusError) (error : BusError) → IsErrAnd result (λ e. e ≡ error) → Answers closes v before command (Err error) w next
      → Answers closes v before command result w next
  handed_on closes v w before next command (Ok reply) error is h = absurd is
  handed_on closes v w before next command (Err e) error is h =
      let P : BusError → Type 0 = λ x. Answers closes v before command (Err x) w next in
      subst P (sym is) h
