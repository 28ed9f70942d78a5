-- The errors of a bus (own).
use Rattle.std.specs.Prelude.{ℕ, Bool, true, false, ◌++◌, List, codes}
use Rattle.bpf_verify.specs.Numbers.{verify_error_text}
use Rattle.fan_out.specs.Errors.{fan_error_name}
use Rattle.match_key.specs.Errors.{name_of as rule_error_name}
use Rattle.program_table.specs.declared.refusal.Refusal.{Refusal}
use Rattle.program_table.specs.declared.refusal.Refusal.TheVariants as refusals
use Rattle.passes.specs.declared.error.BusError.{BusError}
use Rattle.passes.specs.declared.error.BusError.TheVariants as errors

-- The error of a command that the state refuses. A call never asks with a stale slot.
abbrev pub error_of : Refusal → BusError
error_of refusals.ConnectionsFull = errors.ConnectionsFull
error_of refusals.EntriesFull = errors.EntriesFull
error_of refusals.NamesFull = errors.NamesFull
error_of refusals.QueueFull = errors.QueueFull
error_of refusals.RuleNotFound = errors.RuleNotFound
error_of refusals.NoAttachment = errors.NoAttachment
error_of refusals.Closed = errors.Closed
error_of refusals.Stale = errors.Closed

-- whether the pass that is answered so can't call any more
abbrev pub shuts_out : BusError → Bool
shuts_out errors.Closed = true
shuts_out _ = false

abbrev pub bus_error_number : BusError → ℕ
bus_error_number errors.NoMemory = 1
bus_error_number errors.ConnectionsFull = 2
bus_error_number errors.EntriesFull = 3
bus_error_number errors.NamesFull = 4
bus_error_number errors.QueueFull = 5
bus_error_number errors.RuleNotFound = 6
bus_error_number errors.NoAttachment = 7
bus_error_number errors.Closed = 8
bus_error_number (errors.Rule fault) = 9
bus_error_number (errors.Program fault) = 10
bus_error_number errors.TooLong = 11
bus_error_number errors.Busy = 12
bus_error_number (errors.Fan fault) = 13
bus_error_number errors.Counts = 14

-- what is printed of an error: its name, and after it what is printed of the fault that it tells
abbrev pub bus_error_text : BusError → List ℕ
bus_error_text errors.NoMemory = codes "NoMemory"
bus_error_text errors.ConnectionsFull = codes "ConnectionsFull"
bus_error_text errors.EntriesFull = codes "EntriesFull"
bus_error_text errors.NamesFull = codes "NamesFull"
bus_error_text errors.QueueFull = codes "QueueFull"
bus_error_text errors.RuleNotFound = codes "RuleNotFound"
bus_error_text errors.NoAttachment = codes "NoAttachment"
bus_error_text errors.Closed = codes "Closed"
bus_error_text (errors.Rule fault) = codes "Rule " ++ rule_error_name fault
bus_error_text (errors.Program fault) = codes "Program " ++ verify_error_text fault
bus_error_text errors.TooLong = codes "TooLong"
bus_error_text errors.Busy = codes "Busy"
bus_error_text (errors.Fan fault) = codes "Fan " ++ fan_error_name fault
bus_error_text errors.Counts = codes "Counts"
