-- What events are answered (own). Each answer is stated by all events before.
use Rattle.std.specs.Prelude.{◌≡◌, ◌⊎◌, ℕ, false, List, [], ◌∷◌, ◌++◌, Option, Some, None, option_to_list, Err}
use Rattle.message_view.specs.Message.{Message}
use Rattle.message_view.specs.Valid.{Valid}
use Rattle.message_view.specs.Reading.{message_at}
use Rattle.program_table.specs.declared.command.Command.{Command as BusCommand}
use Rattle.program_table.specs.Does.{Does}
use Rattle.world.specs.declared.event.Event.{Event}
use Rattle.world.specs.declared.event.Event.TheVariants.{Command, Begin, Piece, End}
use Rattle.world.specs.declared.answer.Answer.{Answer}
use Rattle.world.specs.declared.answer.Answer.TheVariants.{Reply, Fault, Ignored, Recipients}
use Rattle.world.specs.Histories.{state_after}
use Rattle.world.specs.Jobs.{IsClosed, AreRecipientsOf, AreRecipientsIn, is_free}

-- A command is answered as the state before it says, and the state after it is the one that it leads to.
abbrev pub IsCommandAnswer : List Event → BusCommand (Unit {0}) → Option Answer → Type 0
IsCommandAnswer all command (Some (Reply reply)) = Does (state_after all) command reply (state_after (all ++ Command command ∷ []))
IsCommandAnswer all command _ = ⊥

-- A Begin is answered by the fault of its bytes, or nothing where they are a message.
abbrev pub IsBeginAnswer : List ℕ → Option Answer → Type 0
IsBeginAnswer bytes None = (m : Message) × Valid bytes m
IsBeginAnswer bytes (Some (Fault fault)) = ((m : Message) → ¬ (Valid bytes m)) × (message_at bytes ≡ Err fault)
IsBeginAnswer bytes (Some _) = ⊥

-- A Piece of an open job is answered by the recipients in the part, once.
abbrev pub IsPieceAnswer : List Event → ℕ → ℕ → Option Answer → Type 0
IsPieceAnswer all job part (Some (Recipients numbers)) = AreRecipientsIn all job part numbers.items
IsPieceAnswer all job part (Some Ignored) = IsClosed all job ⊎ (is_free all job part ≡ false)
IsPieceAnswer all job part _ = ⊥

-- An End of an open job is answered by all its recipients.
abbrev pub IsEndAnswer : List Event → ℕ → Option Answer → Type 0
IsEndAnswer all job (Some (Recipients numbers)) = AreRecipientsOf all job numbers.items
IsEndAnswer all job (Some Ignored) = IsClosed all job
IsEndAnswer all job _ = ⊥

-- what an event after all these is answered
abbrev pub IsAnswered : List Event → Event → Option Answer → Type 0
IsAnswered all (Command command) answer = IsCommandAnswer all command answer
IsAnswered all (Begin sender bytes) answer = IsBeginAnswer bytes.items answer
IsAnswered all (Piece job part) answer = IsPieceAnswer all job part answer
IsAnswered all (End job) answer = IsEndAnswer all job answer

-- the answers to events after others, each by all before it
abbrev pub AreAnswers : List Event → List Event → List Answer → Type 0
AreAnswers all [] answers = answers ≡ []
AreAnswers all (event ∷ events) answers =
    (answer : Option Answer) × (rest : List Answer) × (answers ≡ option_to_list answer ++ rest)
    × IsAnswered all event answer × AreAnswers (all ++ event ∷ []) events rest
