-- The calls that wait for their answers (own).
use Rattle.std.specs.Prelude.{◌==◌, ◌&&◌, ◌||◌, ℕ, Bool, true, false, nat_le, List, [], ◌∷◌, Option, Some, None, codes, string_bytes, if◌then◌else◌}
use Rattle.std.specs.Str.{bytes_eq}
use Rattle.std.specs.Map.{lookup, remove_entry}
use Rattle.traffic.specs.declared.call_log.CallId.{CallId}
use Rattle.traffic.specs.declared.call_log.OpenCall.{OpenCall}
use Rattle.traffic.specs.Roles.{CallText}

-- the calls that wait, with their ids, the newest first
abbrev pub Calls : Type 0
Calls = List (CallId × OpenCall)

-- two calls have the same caller and serial
abbrev pub same_id : CallId → CallId → Bool
same_id a b = bytes_eq (string_bytes a.caller) (string_bytes b.caller) && (a.serial == b.serial)

-- a call has this caller and this serial
abbrev pub is_id : CallText → CallId → Bool
is_id it id = bytes_eq it.caller (string_bytes id.caller) && (it.serial == id.serial)

abbrev pub bus_name : List ℕ
bus_name = codes "org.freedesktop.DBus"

-- a unique name begins with a colon (D-Bus Specification, "Bus names")
abbrev pub is_unique_name : List ℕ → Bool
is_unique_name [] = false
is_unique_name (byte ∷ later) = byte == 58

-- an answer comes from whom was called, or from the bus, which answers for it; who owns a well-known name isn't known
abbrev pub may_answer : List ℕ → List ℕ → Bool
may_answer callee sender = if is_unique_name callee || bytes_eq callee bus_name then bytes_eq sender callee || bytes_eq sender bus_name else true

abbrev pub if_answered : List ℕ → Option OpenCall → Option OpenCall
if_answered sender None = None
if_answered sender (Some call) = if may_answer (string_bytes call.callee) sender then Some call else None

-- the call that an answer is to, among those that wait: of the caller and the serial that the answer names
abbrev pub call_of_answer : CallText → Calls → Option OpenCall
call_of_answer answer calls = if_answered answer.callee (lookup (is_id answer) calls)

abbrev pub without_found : CallText → Calls → Option OpenCall → Calls
without_found answer calls None = calls
without_found answer calls (Some call) = remove_entry (is_id answer) calls

-- the calls that wait after an answer
abbrev pub without_answered : CallText → Calls → Calls
without_answered answer calls = without_found answer calls (call_of_answer answer calls)

-- a call that was made by a time
abbrev pub if_older : ℕ → Option (CallId × OpenCall) → Option (CallId × OpenCall)
if_older time None = None
if_older time (Some it) = if nat_le it.1.time time then Some it else None
