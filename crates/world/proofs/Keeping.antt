-- What is kept of jobs is what the events so far say, from one event to the next.
use Rattle.std.proofs.Common.{◌≡◌, ℕ, ◌+◌, ◌-◌, ◌<◌, ◌≤◌, ⊎_elim, Bool, true, false, ◌||◌, ◌&&◌, not, nat_le, set, List, [], ◌∷◌, ◌++◌, length, replicate, Option, Some, None, slice_get, slice_index_or, refl, sym, ap, subst, ◌∙◌, arith, le-leb, leb-true, eq-eqb, ne_eqb, true≢false, le_of_eq}
use Rattle.std.specs.List.{list_any}
use Rattle.std.proofs.lemmas.Bool.{cases_eq, and_parts, and_from, and_right, or_right, not_from_false}
use Rattle.std.proofs.lemmas.List.{drop_all, take_at, length-replicate, get_or-replicate}
use Rattle.std.proofs.lemmas.Option.{slice_get-get_or, slice_get_within, get_or_from_slice_get}
use Rattle.message_view.specs.Message.{Message}
use Rattle.program_table.specs.Recipients.{AreRecipients}
use Rattle.world.specs.declared.event.Event.{Event}
use Rattle.world.specs.declared.event.Event.TheVariants.{Piece, End}
use Rattle.world.specs.Histories.{state_after}
use Rattle.world.specs.Jobs.{parts, events_since, Begins, is_end_of, is_piece_of, is_free, IsOpen, IsClosed, AreRecipientsOf}
use Rattle.world.specs.OpenJobs.{OpenJob}
use Rattle.world.specs.Steps.{opened_job, is_free_in, with_part}
use Rattle.world.specs.IsWorld.{IsKept}
use Rattle.world.proofs.Elements.{or_false, slice_get_end, slice_get-set_same, slice_get-set_other}
use Rattle.world.proofs.Growing.{within, length_end, open_cases, closed_end, recipients_end, asked_end}

-- after the event, a job that is open has these parts asked for
pub job_end : (all : List Event) (e : Event) (job : ℕ) (old new : OpenJob)
    → IsKept all job (Some old) → is_end_of job e ≡ false → new.recipients ≡ old.recipients
    → ((part : ℕ) (b : Bool) → part < parts → slice_get old.parts_done part ≡ Some b → slice_get new.parts_done part ≡ Some (b || is_piece_of job (part + 1) e))
    → IsKept (all ++ e ∷ []) job (Some new)
job_end all e job old new kept other same asked =
    let inside : job < length all = within all job kept.0.sender kept.0.message kept.0.is_open.begun in (
      subst (λ numbers. AreRecipientsOf (all ++ e ∷ []) job numbers) (sym same) (recipients_end all e job old.recipients kept.0 other),
      λ part small. asked part _ small (kept.1 part small) ∙ ap Some (sym (asked_end all e job (part + 1) inside)),
    )

-- an event that doesn't concern the job
pub kept_end : (all : List Event) (e : Event) (job : ℕ) (kept : Option OpenJob)
    → IsKept all job kept → is_end_of job e ≡ false
    → ((part : ℕ) → part < parts → is_piece_of job (part + 1) e ≡ false)
    → (job ≡ length all → (sender : Option ℕ) (m : Message) → ¬ (Begins sender m (Some e)))
    → IsKept (all ++ e ∷ []) job kept
kept_end all e job None was other no_piece no_begin = closed_end all e job was no_begin
kept_end all e job (Some kept) was other no_piece no_begin =
    job_end all e job kept kept was other refl (λ part b small parts_done. parts_done ∙ ap Some (sym (or_none b (is_piece_of job (part + 1) e) (no_piece part small))))
  where
    or_none : (b c : Bool) → c ≡ false → (b || c) ≡ b
    or_none true c none = refl
    or_none false c none = none

-- the same parts are free by what is kept and by the events
pub free_kept : (all : List Event) (job part : ℕ) (kept : OpenJob) → IsKept all job (Some kept) → is_free_in kept part ≡ is_free all job part
free_kept all job part kept was = under (nat_le 1 part && nat_le part parts) _ _ asked
  where
    under : (t x y : Bool) → (t ≡ true → x ≡ y) → (t && not x) ≡ (t && not y)
    under true x y same = ap not (same refl)
    under false x y same = refl

    asked : (nat_le 1 part && nat_le part parts) ≡ true → slice_index_or kept.parts_done (part - 1) false ≡ list_any (is_piece_of job part) (events_since job all)
    asked between =
        let ends : (nat_le 1 part ≡ true) × (nat_le part parts ≡ true) = and_parts _ _ between in
        let low : 1 ≤ part = leb-true 1 part ends.0 in
        let high : part ≤ parts = leb-true part parts ends.1 in
        let here : part - 1 + 1 ≡ part = omega arith in
        get_or_from_slice_get kept.parts_done (part - 1) _ false (was.1 (part - 1) (omega arith))
        ∙ ap (λ (n : ℕ). list_any (is_piece_of job n) (events_since job all)) here

-- a job whose recipients were found at its beginning
pub opened_end : (all : List Event) (sender : Option ℕ) (e : Event) (m : Message) (recipients : List ℕ)
    → Begins sender m (Some e) → AreRecipients (state_after all) sender m recipients
    → IsKept (all ++ e ∷ []) (length all) (Some (opened_job recipients))
opened_end all sender e m recipients begun are =
    let since : events_since (length all) (all ++ e ∷ []) ≡ [] = drop_all (length all + 1) (all ++ e ∷ []) (le_of_eq (length_end all e)) in (
      record {
        sender = sender;
        message = m;
        is_open = record {
          begun = subst (λ at. Begins sender m at) (sym (slice_get_end all e)) begun;
          not_ended = ap (list_any (is_end_of (length all))) since;
        };
        recipients = subst (λ before. AreRecipients (state_after before) sender m recipients) (sym (take_at all (e ∷ []) (length all) refl)) are;
      },
      λ part small. parts_done part small ∙ ap Some (sym (ap (list_any (is_piece_of (length all) (part + 1))) since)),
    )
  where
    parts_done : (part : ℕ) → part < parts → slice_get (replicate parts false) part ≡ Some false
    parts_done part small = slice_get-get_or (replicate parts false) part false (subst (λ n. part < n) (sym (length-replicate parts false)) small) ∙ ap Some (get_or-replicate parts part false false small)

-- a job that ends
pub ended_end : (all : List Event) (job : ℕ) → IsClosed (all ++ End job ∷ []) job
ended_end all job = λ sender m now.
    ⊎_elim (λ (old : IsOpen all job sender m × (is_end_of job (End job) ≡ false)). true≢false (sym (eq-eqb job job refl) ∙ old.1))
    (λ (new : (job ≡ length all) × Begins sender m (Some (End job))). new.1)
    (open_cases all (End job) job sender m now)

-- a part that was asked for just now
pub piece_end : (all : List Event) (job part : ℕ) (kept : OpenJob)
    → IsKept all job (Some kept) → is_free_in kept part ≡ true
    → IsKept (all ++ Piece job part ∷ []) job (Some (with_part part kept))
piece_end all job part kept was free =
    job_end all (Piece job part) job kept (with_part part kept) was refl refl (λ q b small parts_done.
    ⊎_elim (λ (here : q ≡ part - 1).
    subst (λ (i : ℕ). slice_get (set kept.parts_done (part - 1) true) i ≡ Some true) (sym here) (slice_get-set_same kept.parts_done (part - 1) true (subst (λ (i : ℕ). i < length kept.parts_done) here (slice_get_within kept.parts_done q b parts_done)))
    ∙ ap Some (sym (or_right b _ (asks q here))))
    (λ (other : q ≡ part - 1 → ⊥).
    slice_get-set_other kept.parts_done (part - 1) q true other ∙ parts_done ∙ ap Some (sym (asks_not q b other)))
    (cases_eq q (part - 1)))
  where
    low : 1 ≤ part
    low = leb-true 1 part (and_parts _ _ (and_parts _ _ free).0).0

    asks : (q : ℕ) → q ≡ part - 1 → is_piece_of job (q + 1) (Piece job part) ≡ true
    asks q here = and_from _ _ (eq-eqb job job refl) (eq-eqb part (q + 1) (omega (arith, low)))

    asks_not : (q : ℕ) (b : Bool) → (q ≡ part - 1 → ⊥) → (b || is_piece_of job (q + 1) (Piece job part)) ≡ b
    asks_not q b other = ap (λ c. b || c) (and_right _ _ (ne_eqb part (q + 1) (λ same. other (omega (arith, low))))) ∙ or_false b

-- a part that isn't free: nothing was asked for that wasn't before
pub piece_stays : (all : List Event) (job part : ℕ) (kept : OpenJob)
    → IsKept all job (Some kept) → is_free_in kept part ≡ false
    → IsKept (all ++ Piece job part ∷ []) job (Some kept)
piece_stays all job part kept was taken =
    job_end all (Piece job part) job kept kept was refl refl (λ q b small parts_done.
    parts_done ∙ ap Some (sym (stays q b small parts_done)))
  where
    stays : (q : ℕ) (b : Bool) → q < parts → slice_get kept.parts_done q ≡ Some b → (b || is_piece_of job (q + 1) (Piece job part)) ≡ b
    stays q true small parts_done = refl
    stays q false small parts_done = and_right _ _ (ne_eqb part (q + 1) (λ same. true≢false (sym (free q small parts_done same) ∙ taken)))
      where
        free : (q : ℕ) → q < parts → slice_get kept.parts_done q ≡ Some false → part ≡ q + 1 → is_free_in kept part ≡ true
        free q small parts_done same = and_from _ _ (and_from _ _ (le-leb 1 part (omega arith)) (le-leb part parts (omega arith))) (not_from_false _ (get_or_from_slice_get kept.parts_done (part - 1) false false (subst (λ (i : ℕ). slice_get kept.parts_done i ≡ Some false) (omega arith) parts_done)))
