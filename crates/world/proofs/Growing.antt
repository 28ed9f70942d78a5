-- One more event: which jobs are open then, with which recipients.
use Rattle.std.proofs.Common.{◌≡◌, ℕ, ◌+◌, ◌<◌, ◌≤◌, ◌⊎◌, inl, inr, ⊎_elim, false, ◌||◌, List, [], ◌∷◌, ◌++◌, length, Option, Some, slice_get, fold, append-nil, sym, ap, subst, ◌∙◌, arith}
use Rattle.std.specs.List.{list_any}
use Rattle.std.proofs.lemmas.Bool.{cases_lt, or_parts, or_from}
use Rattle.std.proofs.lemmas.List.{take-append-le, drop-append-le, flat_map_more, length_push}
use Rattle.std.proofs.lemmas.Option.{slice_get_past}
use Rattle.message_view.specs.Message.{Message}
use Rattle.program_table.specs.declared.command.Command.{Command as BusCommand}
use Rattle.program_table.specs.State.{opening}
use Rattle.program_table.specs.Does.{next_of}
use Rattle.program_table.specs.Recipients.{AreRecipients}
use Rattle.world.specs.declared.event.Event.{Event}
use Rattle.world.specs.declared.event.Event.TheVariants.{Command}
use Rattle.world.specs.Histories.{commands_of, commands_in, state_after}
use Rattle.world.specs.Jobs.{events_before, events_since, Begins, is_end_of, is_piece_of, IsOpen, IsClosed, AreRecipientsOf}
use Rattle.world.proofs.Elements.{slice_get-append_left, slice_get_end, list_any_end, fold_end}

-- what begins at a place stands there
pub within : (all : List Event) (job : ℕ) (sender : Option ℕ) (m : Message) → Begins sender m (slice_get all job) → job < length all
within all job sender m begun =
    ⊎_elim (λ (inside : job < length all). inside)
    (λ (past : length all ≤ job). absurd (subst (λ e. Begins sender m e) (slice_get_past all job past) begun))
    (cases_lt job (length all))

pub since_end : (all : List Event) (e : Event) (job : ℕ) → job < length all → events_since job (all ++ e ∷ []) ≡ events_since job all ++ e ∷ []
since_end all e job inside = drop-append-le (job + 1) all (e ∷ []) (omega arith)

pub before_end : (all : List Event) (e : Event) (job : ℕ) → job ≤ length all → events_before job (all ++ e ∷ []) ≡ events_before job all
before_end all e job inside = take-append-le job all (e ∷ []) inside

-- the state after one more event
pub commands_end : (all : List Event) (e : Event) → commands_in (all ++ e ∷ []) ≡ commands_in all ++ commands_of e
commands_end all e = sym (flat_map_more commands_of [] all e)

pub open_end : (all : List Event) (e : Event) (job : ℕ) (sender : Option ℕ) (m : Message) → IsOpen all job sender m → is_end_of job e ≡ false → IsOpen (all ++ e ∷ []) job sender m
open_end all e job sender m was other =
    let inside : job < length all = within all job sender m was.begun in
    record {
      begun = subst (λ at. Begins sender m at) (sym (slice_get-append_left all (e ∷ []) job inside)) was.begun;
      not_ended =
          ap (list_any (is_end_of job)) (since_end all e job inside)
          ∙ list_any_end (is_end_of job) (events_since job all) e
          ∙ or_from _ _ was.not_ended other;
    }

open_before : (all : List Event) (e : Event) (job : ℕ) (sender : Option ℕ) (m : Message) → IsOpen (all ++ e ∷ []) job sender m → job < length all → IsOpen all job sender m × (is_end_of job e ≡ false)
open_before all e job sender m now inside =
    let parts : (list_any (is_end_of job) (events_since job all) ≡ false) × (is_end_of job e ≡ false) =
    or_parts _ _ (sym (list_any_end (is_end_of job) (events_since job all) e) ∙ sym (ap (list_any (is_end_of job)) (since_end all e job inside)) ∙ now.not_ended) in (
      record {
        begun = subst (λ at. Begins sender m at) (slice_get-append_left all (e ∷ []) job inside) now.begun;
        not_ended = parts.0;
      },
      parts.1,
    )

pub length_end : (all : List Event) (e : Event) → length (all ++ e ∷ []) ≡ length all + 1
length_end all e = length_push all e

open_new : (all : List Event) (e : Event) (job : ℕ) (sender : Option ℕ) (m : Message) → IsOpen (all ++ e ∷ []) job sender m → length all ≤ job → (job ≡ length all) × Begins sender m (Some e)
open_new all e job sender m now past =
    let inside : job < length (all ++ e ∷ []) = within (all ++ e ∷ []) job sender m now.begun in
    let longer : length (all ++ e ∷ []) ≡ length all + 1 = length_end all e in
    let here : job ≡ length all = omega arith in
    (here, subst (λ at. Begins sender m at) (ap (slice_get (all ++ e ∷ [])) here ∙ slice_get_end all e) now.begun)

-- what is open was open before and didn't end, or began just now
pub open_cases : (all : List Event) (e : Event) (job : ℕ) (sender : Option ℕ) (m : Message) → IsOpen (all ++ e ∷ []) job sender m → (IsOpen all job sender m × (is_end_of job e ≡ false)) ⊎ ((job ≡ length all) × Begins sender m (Some e))
open_cases all e job sender m now =
    ⊎_elim (λ (inside : job < length all). inl (open_before all e job sender m now inside))
    (λ (past : length all ≤ job). inr (open_new all e job sender m now past))
    (cases_lt job (length all))

pub closed_end : (all : List Event) (e : Event) (job : ℕ) → IsClosed all job → (job ≡ length all → (sender : Option ℕ) (m : Message) → ¬ (Begins sender m (Some e))) → IsClosed (all ++ e ∷ []) job
closed_end all e job closed no_begin = λ sender m now.
    ⊎_elim (λ (old : IsOpen all job sender m × (is_end_of job e ≡ false)). closed sender m old.0)
    (λ (new : (job ≡ length all) × Begins sender m (Some e)). no_begin new.0 sender m new.1)
    (open_cases all e job sender m now)

pub recipients_end : (all : List Event) (e : Event) (job : ℕ) (numbers : List ℕ) → AreRecipientsOf all job numbers → is_end_of job e ≡ false → AreRecipientsOf (all ++ e ∷ []) job numbers
recipients_end all e job numbers were other =
    let inside : job < length all = within all job were.sender were.message were.is_open.begun in
    record {
      sender = were.sender;
      message = were.message;
      is_open = open_end all e job were.sender were.message were.is_open other;
      recipients = subst (λ before. AreRecipients (state_after before) were.sender were.message numbers) (sym (before_end all e job (omega arith))) were.recipients;
    }

-- whether a part was asked for, after one more event
pub asked_end : (all : List Event) (e : Event) (job part : ℕ) → job < length all → list_any (is_piece_of job part) (events_since job (all ++ e ∷ [])) ≡ (list_any (is_piece_of job part) (events_since job all) || is_piece_of job part e)
asked_end all e job part inside = ap (list_any (is_piece_of job part)) (since_end all e job inside) ∙ list_any_end (is_piece_of job part) (events_since job all) e

-- a command leads to the next state
pub state_end : (all : List Event) (command : BusCommand (Unit {0})) → state_after (all ++ Command command ∷ []) ≡ next_of (state_after all) command
state_end all command = ap (fold next_of opening) (commands_end all (Command command)) ∙ fold_end next_of opening (commands_in all) command

-- any other event leaves the state
pub state_stays : (all : List Event) (e : Event) → commands_of e ≡ [] → state_after (all ++ e ∷ []) ≡ state_after all
state_stays all e none = ap (fold next_of opening) (commands_end all e ∙ ap (λ more. commands_in all ++ more) none ∙ append-nil (commands_in all))
