-- Inner: what one event does to what is kept.
use Rattle.std.specs.Prelude.{◌≡◌, ℕ, ◌+◌, List, Option, Some, None, Err, IsSomeAnd, ◌-◌, ◌==◌, ◌&&◌, not, nat_le, Bool, true, false, replicate, slice_set, slice_index_or, if◌then◌else◌}
use Rattle.arrayvec.specs.ArrayVec.{ArrayVec}
use Rattle.message_view.specs.Message.{Message}
use Rattle.message_view.specs.Valid.{Valid}
use Rattle.message_view.specs.Reading.{message_at}
use Rattle.program_table.specs.declared.command.Command.{Command as BusCommand}
use Rattle.program_table.specs.Does.{Does}
use Rattle.program_table.specs.Recipients.{AreRecipients}
use Rattle.world.specs.declared.event.Event.{Event}
use Rattle.world.specs.declared.event.Event.TheVariants.{Command, Begin, Piece, End}
use Rattle.world.specs.declared.answer.Answer.{Answer}
use Rattle.world.specs.declared.answer.Answer.TheVariants.{Reply, Fault, Ignored, Recipients}
use Rattle.world.specs.OpenJobs.{OpenJob, job_of}
use Rattle.world.specs.WorldState.{WorldState}
use Rattle.world.specs.Jobs.{parts, in_part}

abbrev pub opened_job : List ℕ → OpenJob
opened_job recipients = record { recipients = recipients; parts_done = replicate parts false }

abbrev pub is_free_in : OpenJob → ℕ → Bool
is_free_in job part = nat_le 1 part && nat_le part parts && not (slice_index_or job.parts_done (part - 1) false)

abbrev pub with_part : ℕ → OpenJob → OpenJob
with_part part job = record { recipients = job.recipients; parts_done = slice_set job.parts_done (part - 1) true }

-- the job of a number is this one now, and the others are as they were
abbrev pub SetsJob : ℕ → Option OpenJob → List (ℕ × OpenJob) → List (ℕ × OpenJob) → Type 0
SetsJob number job before after = (n : ℕ) → job_of n after ≡ (if n == number then job else job_of n before)

-- each job is as it was
abbrev pub SameJobs : List (ℕ × OpenJob) → List (ℕ × OpenJob) → Type 0
SameJobs before after = (n : ℕ) → job_of n after ≡ job_of n before

-- no such job is open, or the part isn't free
abbrev pub LacksPart : Option OpenJob → ℕ → Type 0
LacksPart None part = Unit {0}
LacksPart (Some job) part = is_free_in job part ≡ false

-- the job is open and the part free; these are its recipients in it
pub record HasPart (number part : ℕ) (before after : List (ℕ × OpenJob)) (numbers : List ℕ) : Type 0 where
  pub job : OpenJob
  pub found : job_of number before ≡ Some job
  pub free : is_free_in job part ≡ true
  pub parts_done : SetsJob number (Some (with_part part job)) before after
  pub numbers_are : numbers ≡ in_part part job.recipients

-- what recipients are answered, where there are any to be told
abbrev pub recipients_answer : Option (ArrayVec ℕ) → Answer
recipients_answer None = Ignored
recipients_answer (Some numbers) = Recipients numbers

-- a job of the next number began
pub record BeginsJob (sender : Option ℕ) (bytes : List ℕ) (before after : WorldState) : Type 0 where
  pub message : Message
  pub valid : Valid bytes message
  pub recipients : List ℕ
  pub are : AreRecipients before.state sender message recipients
  pub jobs : SetsJob before.events (Some (opened_job recipients)) before.jobs after.jobs

-- what a Begin does to the jobs
abbrev pub BeginStep : Option ℕ → List ℕ → WorldState → WorldState → Option Answer → Type 0
BeginStep sender bytes before after None = BeginsJob sender bytes before after
BeginStep sender bytes before after (Some (Fault fault)) =
    ((m : Message) → ¬ (Valid bytes m)) × (message_at bytes ≡ Err fault) × SameJobs before.jobs after.jobs
BeginStep sender bytes before after (Some _) = ⊥

abbrev pub PieceStep : ℕ → ℕ → WorldState → WorldState → Option Answer → Type 0
PieceStep job part before after (Some (Recipients numbers)) = HasPart job part before.jobs after.jobs numbers.items
PieceStep job part before after (Some Ignored) = LacksPart (job_of job before.jobs) part × SameJobs before.jobs after.jobs
PieceStep job part before after _ = ⊥

abbrev pub EndStep : ℕ → WorldState → WorldState → Option Answer → Type 0
EndStep job before after (Some (Recipients numbers)) =
    IsSomeAnd (job_of job before.jobs) (λ (kept : OpenJob). numbers.items ≡ kept.recipients) × SetsJob job None before.jobs after.jobs
EndStep job before after (Some Ignored) = (job_of job before.jobs ≡ None) × SetsJob job None before.jobs after.jobs
EndStep job before after _ = ⊥

abbrev pub CommandStep : BusCommand (Unit {0}) → WorldState → WorldState → Option Answer → Type 0
CommandStep command before after (Some (Reply reply)) = Does before.state command reply after.state × (after.jobs ≡ before.jobs)
CommandStep command before after _ = ⊥

-- what an event does
abbrev pub Step : Event → WorldState → WorldState → Option Answer → Type 0
Step (Command command) before after answer = CommandStep command before after answer
Step (Begin sender bytes) before after answer = BeginStep sender bytes.items before after answer × (after.state ≡ before.state)
Step (Piece job part) before after answer = PieceStep job part before after answer × (after.state ≡ before.state)
Step (End job) before after answer = EndStep job before after answer × (after.state ≡ before.state)

-- what an event does, and that it is counted
pub record IsNext (event : Event) (before after : WorldState) (answer : Option Answer) : Type 0 where
  pub counted : after.events ≡ before.events + 1
  pub step : Step event before after answer
