-- What adding a rule comes to.
use Rattle.std.proofs.Common.{◌≡◌, ◌||◌, ℕ, inl, inr, Bool, false, [], ◌∷◌, ◌++◌, refl, sym, ap, ◌∙◌, subst}
use Rattle.std.specs.Prelude.{Result, Ok, Err, IfOk, if◌then◌else◌}
use Rattle.match_rule.specs.RuleTree.{RuleTree}
use Rattle.entry_table.specs.CompiledRule.{CompiledRule, IsFit}
use Rattle.program_table.specs.declared.command.Command.{Command}
use Rattle.program_table.specs.declared.command.Command.TheVariants.{AddRule}
use Rattle.program_table.specs.declared.command.Reply.{Reply}
use Rattle.program_table.specs.declared.command.Reply.TheVariants.{Refused}
use Rattle.program_table.specs.Does.{is_accepted, reply_to}
use Rattle.program_table.specs.History.{after, IsHistory}
use Rattle.program_table.specs.RuleSlots.{add_of}
use Rattle.published.specs.Publication.{Publication, with_next}
use Rattle.published.proofs.Refused.{refused}
use Rattle.passes.specs.declared.error.BusError.{BusError}
use Rattle.passes.specs.Passes.{PassState, HasTaken}
use Rattle.passes.specs.Calls.{IsStopped, Answers, after_error}
use Rattle.passes.specs.Errors.{shuts_out}
use Rattle.passes.specs.Admission.{IsAdmitted}
use Rattle.passes.specs.Readings.{compiled_in, AddsRule}
use Rattle.passes.specs.Compiling.{Compiles}
use Rattle.passes.proofs.Commands.{IsTold, IsCounted, turned_down}
use Rattle.passes.proofs.Admitted.{answers_admitted}

where_ok : (result : Result Reply BusError) (P : Type 0) → P → IfOk result (λ _. P)
where_ok (Ok reply) P h = h
where_ok (Err error) P h = tt

module _ {M : Type 0} where
  -- the compiled rule was to be published
  pub added : (v u w : PassState M) (before next : Publication M) (connection : ℕ) (rule : RuleTree) (compile_for : CompiledRule) (result : Result Reply BusError) → HasTaken v
      → IsHistory before.history → IsAdmitted v before → u ≡ record v { seen = before.history } → connection ≡ u.connection
      → compile_for ≡ compiled_in (after before.history) rule compile_for.program → IsFit compile_for → Answers false u before (AddRule connection compile_for) result w next
      → AddsRule rule v before result w next
  added v u w before next connection rule compile_for result taken legal a is at same fit h =
      let s = after before.history in
      let P = compiled_in s rule compile_for.program in
      let here : connection ≡ v.connection = at ∙ ap (λ (p : PassState M). p.connection) is in
      let e : AddRule connection compile_for ≡ AddRule v.connection P =
      ap (λ (n : ℕ). let x : Command M = AddRule n compile_for in x) here ∙ ap (λ (r : CompiledRule). let x : Command M = AddRule v.connection r in x) same in
      let k : Answers false u before (AddRule v.connection P) result w next = subst (λ (x : Command M). Answers false u before x result w next) e h in
      inl (compile_for.program, answers_admitted v u w before next (AddRule v.connection P) result taken legal a is k, where_ok result (IsFit P) (subst (λ (r : CompiledRule). IsFit r) same fit))

  stopped : (v : PassState M) (before : Publication M) (error : BusError) → shuts_out error ≡ false → IsAdmitted v before → IsStopped v before (after_error error (record v { seen = before.history })) before
  stopped v before error goes_on a = record {
    begins = a.begins;
    same = ap (λ (b : Bool). let p : PassState M = record v { seen = before.history; is_shut_out = b || v.is_shut_out } in p) goes_on;
    published = refl;
  }

  turned : (v : PassState M) (before : Publication M) (rule : RuleTree) (error : BusError) → HasTaken v → IsHistory before.history → IsAdmitted v before
      → Compiles (after before.history) v.connection rule (Err error) → AddsRule rule v before (Err error) (after_error error (record v { seen = before.history })) before
  turned v before rule error taken legal a (inl k) =
      let l = before.history in
      let x = add_of (after l) v.connection rule [] in
      let w : PassState M = record v { seen = l } in
      let told_history : IsTold v w l before = record { told_is = refl; begins = a.begins; same = refl } in
      let count : IsCounted v before v.connection v.took = record {
        legal = legal;
        taken = taken;
        at = refl;
        there = a.connected;
        was = refl;
        counts = a.counts;
      } in
      let said : reply_to (after l) x ≡ Refused k.refusal = k.replies [] in
      let off : is_accepted (after l) x ≡ false = refused (after l) x k.refusal said in
      let more : l ≡ with_next l x = ap (λ (b : Bool). if b then l ++ x ∷ [] else l) (sym off) in
      inl ([], inl (turned_down v w (after_error error w) l before before v.connection v.took x k.refusal error told_history count said more k.error_is refl), tt)
  turned v before rule error taken legal a (inr (inl k)) = inr (inl (record {
    weight = k.weight;
    answers = ap (λ (e : BusError). let r : Result Reply BusError = Err e in r) k.error_is;
    admitted = a;
    fits = k.fits;
    stopped = stopped v before error (ap shuts_out k.error_is) a;
  }))
  turned v before rule error taken legal a (inr (inr k)) = inr (inr (record {
    answers = ap (λ (e : BusError). let r : Result Reply BusError = Err e in r) k;
    admitted = a;
    stopped = stopped v before error (ap shuts_out k) a;
    goes_on = a.not_ended;
  }))

  -- it wasn't compiled
  pub not_compiled : (v u w : PassState M) (before : Publication M) (connection : ℕ) (rule : RuleTree) (error : BusError) (result : Result Reply BusError) → HasTaken v
      → IsHistory before.history → IsAdmitted v before → u ≡ record v { seen = before.history } → connection ≡ u.connection → result ≡ Err error
      → Compiles (after before.history) connection rule (Err error) → w ≡ after_error error u → AddsRule rule v before result w before
  not_compiled v u w before connection rule error result taken legal a is at gives h to =
      let here : connection ≡ v.connection = at ∙ ap (λ (p : PassState M). p.connection) is in
      let k = turned v before rule error taken legal a (subst (λ (n : ℕ). Compiles (after before.history) n rule (Err error)) here h) in
      let noted : w ≡ after_error error (record v { seen = before.history }) = to ∙ ap (after_error error) is in
      subst (λ (r : Result Reply BusError). AddsRule rule v before r w before) (sym gives) (subst (λ (p : PassState M). AddsRule rule v before (Err error) p before) (sym noted) k)
