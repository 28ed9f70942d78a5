-- How much of the bus one client may have (own).
use Rattle.std.specs.Prelude.{ℕ, ◌≡◌, ◌⊎◌, ◌+◌, ◌||◌, nat_lt, nat_le, List, length, Option, Some, None, Result, Ok, Err, if◌then◌else◌}
use Rattle.bus_messages.specs.declared.error_name.ErrorName.TheVariants.{NoMemory}
use Rattle.bus_messages.specs.declared.exceeded.Exceeded.{Exceeded}
use Rattle.bus_messages.specs.declared.exceeded.Exceeded.TheVariants.{Rules, Instructions, Names, AllInstructions}
use Rattle.peers.specs.declared.error.AnswerError.{AnswerError}
use Rattle.peers.specs.declared.refused.Refused.{Refused}
use Rattle.peers.specs.declared.refused.Refused.TheVariants.{Error}
use Rattle.peers.specs.declared.request.Request.{Request}
use Rattle.peers.specs.declared.shares.Shares.{Shares}
use Rattle.peers.specs.Answers.{IsRefused}
use Rattle.peers.specs.Holdings.{HoldingsState, entries_of, instructions_of, is_held}
use Rattle.peers.specs.PeerState.{PeerState}
use Rattle.peers.specs.Refusals.{beyond}

-- the limit that one match rule more would go beyond
abbrev pub rule_limit : Shares → HoldingsState → Option Exceeded
rule_limit shares held = if nat_lt (entries_of held) shares.entries then None else Some Rules

-- the first that one program more would go beyond, of this many instructions
abbrev pub program_limit : Shares → ℕ → HoldingsState → Option Exceeded
program_limit shares len held =
    if nat_lt (entries_of held) shares.entries then (if nat_le (instructions_of held.programs + len) shares.instructions then None else Some Instructions) else Some Rules

-- the one that the name would go beyond, which takes nothing more if it was asked for already
abbrev pub name_limit : Shares → List ℕ → HoldingsState → Option Exceeded
name_limit shares name held = if is_held name held.names || nat_lt (length held.names) shares.names then None else Some Names

-- The client's share has room, or the call is refused with the limit that it would go beyond; or, though there is room, for
-- want of memory to note what the client has.
abbrev pub IsWithin : Option Exceeded → Result (Unit {0}) Refused → Type 0
IsWithin exceeded (Ok _) = exceeded ≡ None
IsWithin exceeded (Err why) = ((limit : Exceeded) × (exceeded ≡ Some limit) × (why ≡ beyond limit)) ⊎ ((exceeded ≡ None) × (why ≡ Error NoMemory))

-- The same of a program; or, though the client's share has room, all clients together have no room for its instructions.
abbrev pub IsAdmitted : Option Exceeded → Result (Unit {0}) Refused → Type 0
IsAdmitted exceeded (Ok _) = exceeded ≡ None
IsAdmitted exceeded (Err why) = IsWithin exceeded (Err why) ⊎ ((exceeded ≡ None) × (why ≡ beyond AllInstructions))

module _ {M : Type 0} where
  -- What a call does that may go beyond a limit of the client's share. If it does, nothing is asked of the bus.
  abbrev pub WithinShare : Option Exceeded → Request → Type 0 → PeerState M → Result (Unit {0}) AnswerError → PeerState M → Type 0
  WithinShare None request Does v result w = Does
  WithinShare (Some limit) request Does v result w = IsRefused request (beyond limit) v result w

  -- or the call is refused for want of memory to note what the client has, and nothing is asked of the bus
  abbrev pub WithinMemory : Request → Type 0 → PeerState M → Result (Unit {0}) AnswerError → PeerState M → Type 0
  WithinMemory request Does v result w = Does ⊎ IsRefused request (Error NoMemory) v result w

  -- or the call is refused since all clients together would have too many instructions, and nothing is asked of the bus
  abbrev pub WithinAll : Request → Type 0 → PeerState M → Result (Unit {0}) AnswerError → PeerState M → Type 0
  WithinAll request Does v result w = Does ⊎ IsRefused request (beyond AllInstructions) v result w
