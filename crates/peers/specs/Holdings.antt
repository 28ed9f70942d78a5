-- What a client has taken of the bus (own).
use Rattle.std.specs.Prelude.{ℕ, ◌+◌, ◌-◌, ◌==◌, Bool, not, List, [], ◌∷◌, ◌++◌, length, filter, Result, Ok, Err}
use Rattle.std.specs.Str.{bytes_eq}
use Rattle.std.specs.List.{list_any}
use Rattle.owners.specs.declared.answer.NameReply.{NameReply}
use Rattle.owners.specs.declared.answer.NameReply.TheVariants.{Exists}
use Rattle.router.specs.BusError.{BusError}
use Rattle.router.specs.Reply.{Reply}
use Rattle.router.specs.Reply.TheVariants.{Entry, Name}
use Rattle.peers.specs.declared.holdings.HeldProgram.{HeldProgram}

-- how many match rules it has; its attached programs, each with its entry's id and its length in instructions; and the
-- names that it asked for and hasn't released
pub record HoldingsState : Type 0 where
  pub rules : ℕ
  pub programs : List HeldProgram
  pub names : List (List ℕ)

abbrev pub nothing_held : HoldingsState
nothing_held = record { rules = 0; programs = []; names = [] }

-- the instructions of programs together
abbrev pub instructions_of : List HeldProgram → ℕ
instructions_of [] = 0
instructions_of (program ∷ others) = program.len + instructions_of others

-- match rules and programs together
abbrev pub entries_of : HoldingsState → ℕ
entries_of held = held.rules + length held.programs

-- the name was asked for, and not released
abbrev pub is_held : List ℕ → List (List ℕ) → Bool
is_held name names = list_any (λ (other : List ℕ). bytes_eq other name) names

abbrev pub with_rule : HoldingsState → HoldingsState
with_rule held = record held { rules = held.rules + 1 }

abbrev pub without_rule : HoldingsState → HoldingsState
without_rule held = record held { rules = held.rules - 1 }

-- a program of this length, by the id of its entry
abbrev pub with_program : ℕ → ℕ → HoldingsState → HoldingsState
with_program len id held = record held { programs = held.programs ++ record { id = id; len = len } ∷ [] }

abbrev pub without_program : ℕ → HoldingsState → HoldingsState
without_program id held = record held { programs = filter (λ (program : HeldProgram). not (program.id == id)) held.programs }

abbrev pub without_name : List ℕ → HoldingsState → HoldingsState
without_name name held = record held { names = filter (λ (other : List ℕ). not (bytes_eq other name)) held.names }

-- a name counts once, however often it is asked for
abbrev pub with_name : List ℕ → HoldingsState → HoldingsState
with_name name held = record (without_name name held) { names = (without_name name held).names ++ name ∷ [] }

-- after this answer to a RequestName the client owns the name or waits for it, or, where it exists and the client doesn't
-- wait, neither
abbrev pub after_reply : List ℕ → NameReply → HoldingsState → HoldingsState
after_reply name Exists held = without_name name held
after_reply name _ held = with_name name held

-- What the client has after the bus answered one of its calls. A refusal changes nothing.
abbrev pub after_add : Result Reply BusError → HoldingsState → HoldingsState
after_add (Ok _) held = with_rule held
after_add (Err _) held = held

abbrev pub after_remove : Result Reply BusError → HoldingsState → HoldingsState
after_remove (Ok _) held = without_rule held
after_remove (Err _) held = held

abbrev pub after_attach : ℕ → Result Reply BusError → HoldingsState → HoldingsState
after_attach len (Ok (Entry id)) held = with_program len id held
after_attach len _ held = held

abbrev pub after_detach : ℕ → Result Reply BusError → HoldingsState → HoldingsState
after_detach id (Ok _) held = without_program id held
after_detach id (Err _) held = held

abbrev pub after_request : List ℕ → Result Reply BusError → HoldingsState → HoldingsState
after_request name (Ok (Name named)) held = after_reply name named.answer held
after_request name _ held = held

-- A name that another connection took over counts until it is released.
abbrev pub after_release : List ℕ → Result Reply BusError → HoldingsState → HoldingsState
after_release name (Ok _) held = without_name name held
after_release name (Err _) held = held
