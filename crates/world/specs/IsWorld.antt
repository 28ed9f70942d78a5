-- Which events a world is of, and what it is that events are done (own).
use Rattle.std.specs.Prelude.{◌≡◌, ℕ, ◌+◌, ◌<◌, List, ◌++◌, length, slice_get, Option, Some, None}
use Rattle.std.specs.List.{list_any}
use Rattle.world.specs.declared.event.Event.{Event}
use Rattle.world.specs.declared.answer.Answer.{Answer}
use Rattle.world.specs.Histories.{state_after}
use Rattle.world.specs.Jobs.{parts, events_since, is_piece_of, IsClosed, AreRecipientsOf}
use Rattle.world.specs.Answers.{AreAnswers}
use Rattle.world.specs.OpenJobs.{OpenJob, job_of}
use Rattle.world.specs.WorldState.{WorldState}

-- a job is kept exactly where it is open, with its recipients and which parts were asked for
abbrev pub IsKept : List Event → ℕ → Option OpenJob → Type 0
IsKept all job None = IsClosed all job
IsKept all job (Some kept) =
    AreRecipientsOf all job kept.recipients
    × ((part : ℕ) → part < parts → slice_get kept.parts_done part ≡ Some (list_any (is_piece_of job (part + 1)) (events_since job all)))

-- the world after all these events
pub record IsWorld (all : List Event) (w : WorldState) : Type 0 where
  pub count : w.events ≡ length all
  pub state : w.state ≡ state_after all
  pub jobs : (job : ℕ) → IsKept all job (job_of job w.jobs)

-- The events are done and their answers are added, whatever events were before.
pub record AreDone (events : List Event) (before after : WorldState) (old new : List Answer) : Type 0 where
  pub answers : List Answer
  pub added : new ≡ old ++ answers
  pub counted : after.events ≡ before.events + length events
  pub world : (all : List Event) → IsWorld all before → IsWorld (all ++ events) after
  pub answered : (all : List Event) → IsWorld all before → AreAnswers all events answers
