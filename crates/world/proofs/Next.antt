-- One event: the world after it, and its answer, are what the definitions say.
use Rattle.std.proofs.Common.{◌≡◌, ◌≢◌, ℕ, ◌+◌, ◌⊎◌, inl, inr, ⊎_elim, false, IsSomeAnd, List, [], ◌∷◌, ◌++◌, length, Option, Some, None, refl, sym, ap, subst, ◌∙◌, eq-eqb, ne_eqb, ◌==◌}
use Rattle.std.proofs.lemmas.Bool.{cases_eq, and_left, cond-true, cond-false}
use Rattle.message_view.specs.Message.{Message}
use Rattle.program_table.specs.State.{State}
use Rattle.program_table.specs.Recipients.{AreRecipients}
use Rattle.program_table.specs.Does.{reply_to, next_of}
use Rattle.world.specs.declared.event.Event.{Event}
use Rattle.world.specs.declared.event.Event.TheVariants.{Command, Begin, Piece, End}
use Rattle.world.specs.declared.answer.Answer.{Answer}
use Rattle.world.specs.declared.answer.Answer.TheVariants.{Reply, Fault, Ignored, Recipients}
use Rattle.world.specs.Histories.{commands_of, state_after}
use Rattle.world.specs.Jobs.{Begins, is_end_of, is_piece_of, is_free, IsClosed, AreRecipientsOf, AreRecipientsIn}
use Rattle.world.specs.Answers.{IsAnswered}
use Rattle.world.specs.OpenJobs.{OpenJob, job_of}
use Rattle.world.specs.Steps.{opened_job, with_part, SetsJob, SameJobs, LacksPart, HasPart, Step, IsNext}
use Rattle.world.specs.WorldState.{WorldState}
use Rattle.world.specs.IsWorld.{IsKept, IsWorld}
use Rattle.world.proofs.Growing.{length_end, state_end, state_stays, closed_end}
use Rattle.world.proofs.Keeping.{kept_end, free_kept, opened_end, ended_end, piece_end, piece_stays}

-- an event of another job ends none and asks for no part of this one
other_end : (job other : ℕ) → job ≢ other → is_end_of job (End other) ≡ false
other_end job other differ = ne_eqb other job (λ same. differ (sym same))

other_piece : (job other part asked : ℕ) → job ≢ other → is_piece_of job part (Piece other asked) ≡ false
other_piece job other part asked differ = and_left _ _ (ne_eqb other job (λ same. differ (sym same)))

-- a job that is set, or another
set_cases : (number : ℕ) (new : Option OpenJob) (before after : List (ℕ × OpenJob)) (P : ℕ → Option OpenJob → Type 0)
    → SetsJob number new before after → P number new → ((job : ℕ) → job ≢ number → P job (job_of job before)) → (job : ℕ) → P job (job_of job after)
set_cases number new before after P sets here there job =
    ⊎_elim
    (λ (same : job ≡ number). subst (λ (j : ℕ). P j (job_of j after)) (sym same) (subst (λ o. P number o) (sym (sets number ∙ cond-true (number == number) new (job_of number before) (eq-eqb number number refl))) here))
    (λ (differ : job ≡ number → ⊥). subst (λ o. P job o) (sym (sets job ∙ cond-false (job == number) new (job_of job before) (ne_eqb job number differ))) (there job differ))
    (cases_eq job number)

module _ (all : List Event) (before after : WorldState) (was : IsWorld all before) where
  -- the jobs after an event that concerns none
  jobs_stay : (e : Event) → SameJobs before.jobs after.jobs
      → ((job : ℕ) → is_end_of job e ≡ false) → ((job part : ℕ) → is_piece_of job part e ≡ false)
      → ((sender : Option ℕ) (m : Message) → ¬ (Begins sender m (Some e)))
      → (job : ℕ) → IsKept (all ++ e ∷ []) job (job_of job after.jobs)
  jobs_stay e same no_end no_piece no_begin job =
      subst (λ kept. IsKept (all ++ e ∷ []) job kept) (sym (same job))
      (kept_end all e job (job_of job before.jobs) (was.jobs job) (no_end job) (λ part small. no_piece job (part + 1)) (λ here. no_begin))

  -- the jobs after a job began
  jobs_begun : (sender : Option ℕ) (e : Event) (m : Message) (recipients : List ℕ)
      → Begins sender m (Some e) → AreRecipients before.state sender m recipients
      → ((job : ℕ) → is_end_of job e ≡ false) → ((job part : ℕ) → is_piece_of job part e ≡ false)
      → SetsJob before.events (Some (opened_job recipients)) before.jobs after.jobs
      → (job : ℕ) → IsKept (all ++ e ∷ []) job (job_of job after.jobs)
  jobs_begun sender e m recipients begun are no_end no_piece sets =
      set_cases (length all) (Some (opened_job recipients)) before.jobs after.jobs (λ job kept. IsKept (all ++ e ∷ []) job kept)
      (subst (λ (n : ℕ). SetsJob n (Some (opened_job recipients)) before.jobs after.jobs) was.count sets)
      (opened_end all sender e m recipients begun (subst (λ (s : State (Unit {0})). AreRecipients s sender m recipients) was.state are))
      (λ job differ. kept_end all e job (job_of job before.jobs) (was.jobs job) (no_end job) (λ part small. no_piece job (part + 1)) (λ here. absurd (differ here)))

  -- the jobs after a part was given
  jobs_given : (number part : ℕ) (numbers : List ℕ) → HasPart number part before.jobs after.jobs numbers
      → (job : ℕ) → IsKept (all ++ Piece number part ∷ []) job (job_of job after.jobs)
  jobs_given number part numbers has =
      set_cases number (Some (with_part part has.job)) before.jobs after.jobs (λ job kept. IsKept (all ++ Piece number part ∷ []) job kept) has.parts_done
      (piece_end all number part has.job (subst (λ kept. IsKept all number kept) has.found (was.jobs number)) has.free)
      (λ job differ. kept_end all (Piece number part) job (job_of job before.jobs) (was.jobs job) refl (λ q small. other_piece job number (q + 1) part differ) (λ here sender m begun. begun))

  -- the jobs after a Piece that was ignored
  jobs_ignored : (number part : ℕ) → LacksPart (job_of number before.jobs) part → SameJobs before.jobs after.jobs
      → (job : ℕ) → IsKept (all ++ Piece number part ∷ []) job (job_of job after.jobs)
  jobs_ignored number part lacks same job =
      subst (λ kept. IsKept (all ++ Piece number part ∷ []) job kept) (sym (same job))
      (⊎_elim
      (λ (here : job ≡ number). subst (λ (j : ℕ). IsKept (all ++ Piece number part ∷ []) j (job_of j before.jobs)) (sym here) (at_it (job_of number before.jobs) (was.jobs number) lacks))
      (λ (differ : job ≡ number → ⊥). kept_end all (Piece number part) job (job_of job before.jobs) (was.jobs job) refl (λ q small. other_piece job number (q + 1) part differ) (λ here sender m begun. begun))
      (cases_eq job number))
    where
      at_it : (kept : Option OpenJob) → IsKept all number kept → LacksPart kept part → IsKept (all ++ Piece number part ∷ []) number kept
      at_it None closed lacks = closed_piece closed
        where
          closed_piece : IsClosed all number → IsClosed (all ++ Piece number part ∷ []) number
          closed_piece closed = closed_end all (Piece number part) number closed (λ here sender m begun. begun)
      at_it (Some kept) open_job lacks = piece_stays all number part kept open_job lacks

  -- the jobs after an End
  jobs_ended : (number : ℕ) → SetsJob number None before.jobs after.jobs
      → (job : ℕ) → IsKept (all ++ End number ∷ []) job (job_of job after.jobs)
  jobs_ended number sets =
      set_cases number None before.jobs after.jobs (λ job kept. IsKept (all ++ End number ∷ []) job kept) sets
      (ended_end all number)
      (λ job differ. kept_end all (End number) job (job_of job before.jobs) (was.jobs job) (other_end job number differ) (λ q small. refl) (λ here sender m begun. begun))

  stays : (e : Event) → commands_of e ≡ [] → after.state ≡ before.state → after.state ≡ state_after (all ++ e ∷ [])
  stays e none same = same ∙ was.state ∙ sym (state_stays all e none)

  count_end : (e : Event) → after.events ≡ before.events + 1 → after.events ≡ length (all ++ e ∷ [])
  count_end e counted = counted ∙ ap (λ (n : ℕ). n + 1) was.count ∙ sym (length_end all e)

  state_next : (event : Event) (answer : Option Answer) → Step event before after answer → after.state ≡ state_after (all ++ event ∷ [])
  state_next (Command command) (Some (Reply reply)) step = step.0.leads ∙ ap (λ (s : State (Unit {0})). next_of s command) was.state ∙ sym (state_end all command)
  state_next (Command command) _ step = absurd step
  state_next (Begin sender bytes) answer step = stays (Begin sender bytes) refl step.1
  state_next (Piece job part) answer step = stays (Piece job part) refl step.1
  state_next (End job) answer step = stays (End job) refl step.1

  jobs_next : (event : Event) (answer : Option Answer) → Step event before after answer → (job : ℕ) → IsKept (all ++ event ∷ []) job (job_of job after.jobs)
  jobs_next (Command command) (Some (Reply reply)) step = jobs_stay (Command command) (λ job. ap (job_of job) step.1) (λ job. refl) (λ job part. refl) (λ sender m begun. begun)
  jobs_next (Command command) _ step = absurd step
  jobs_next (Begin sender bytes) None step =
      jobs_begun sender (Begin sender bytes) step.0.message step.0.recipients (refl, step.0.valid) step.0.are (λ job. refl) (λ job part. refl) step.0.jobs
  jobs_next (Begin sender bytes) (Some (Fault fault)) step = jobs_stay (Begin sender bytes) step.0.2 (λ job. refl) (λ job part. refl) (λ from m begun. step.0.0 m begun.1)
  jobs_next (Begin sender bytes) _ step = absurd step.0
  jobs_next (Piece job part) (Some (Recipients numbers)) step = jobs_given job part numbers.items step.0
  jobs_next (Piece job part) (Some Ignored) step = jobs_ignored job part step.0.0 step.0.1
  jobs_next (Piece job part) _ step = absurd step.0
  jobs_next (End job) (Some (Recipients numbers)) step = jobs_ended job step.0.1
  jobs_next (End job) (Some Ignored) step = jobs_ended job step.0.1
  jobs_next (End job) _ step = absurd step.0

  pub next_world : (event : Event) (answer : Option Answer) → IsNext event before after answer → IsWorld (all ++ event ∷ []) after
  next_world event answer next = record {
    count = count_end event next.counted;
    state = state_next event answer next.step;
    jobs = jobs_next event answer next.step;
  }

  -- the job of a number as it is kept
  kept_as : (job : ℕ) (kept : Option OpenJob) → job_of job before.jobs ≡ kept → IsKept all job kept
  kept_as job kept same = subst (λ o. IsKept all job o) same (was.jobs job)

  piece_answer : (job part : ℕ) (numbers : List ℕ) → HasPart job part before.jobs after.jobs numbers → AreRecipientsIn all job part numbers
  piece_answer job part numbers has =
      let kept : IsKept all job (Some has.job) = kept_as job (Some has.job) has.found in
      record {
        free = sym (free_kept all job part has.job kept) ∙ has.free;
        whole = has.job.recipients;
        recipients = kept.0;
        in_it = has.numbers_are;
      }

  piece_ignored : (job part : ℕ) (kept : Option OpenJob) → IsKept all job kept → LacksPart kept part → IsClosed all job ⊎ (is_free all job part ≡ false)
  piece_ignored job part None closed lacks = inl closed
  piece_ignored job part (Some kept) open_job lacks = inr (sym (free_kept all job part kept open_job) ∙ lacks)

  end_answer : (job : ℕ) (numbers : List ℕ) (kept : Option OpenJob) → IsKept all job kept → IsSomeAnd kept (λ (k : OpenJob). numbers ≡ k.recipients) → AreRecipientsOf all job numbers
  end_answer job numbers None closed same = absurd same
  end_answer job numbers (Some kept) open_job same = subst (λ found. AreRecipientsOf all job found) (sym same) open_job.0

  pub next_answer : (event : Event) (answer : Option Answer) → IsNext event before after answer → IsAnswered all event answer
  next_answer event answer next = of_step event answer next.step
    where
      of_step : (event : Event) (answer : Option Answer) → Step event before after answer → IsAnswered all event answer
      of_step (Command command) (Some (Reply reply)) step = record {
        replies = step.0.replies ∙ ap (λ (s : State (Unit {0})). reply_to s command) was.state;
        leads = state_end all command;
      }
      of_step (Command command) _ step = absurd step
      of_step (Begin sender bytes) None step = (step.0.message, step.0.valid)
      of_step (Begin sender bytes) (Some (Fault fault)) step = (step.0.0, step.0.1)
      of_step (Begin sender bytes) _ step = absurd step.0
      of_step (Piece job part) (Some (Recipients numbers)) step = piece_answer job part numbers.items step.0
      of_step (Piece job part) (Some Ignored) step = piece_ignored job part (job_of job before.jobs) (was.jobs job) step.0.0
      of_step (Piece job part) _ step = absurd step.0
      of_step (End job) (Some (Recipients numbers)) step = end_answer job numbers.items (job_of job before.jobs) (was.jobs job) step.0.0
      of_step (End job) (Some Ignored) step = kept_as job None step.0.0
      of_step (End job) _ step = absurd step.0
