-- The errors that refused calls are answered with (D-Bus Specification, "Message Bus Messages"; three are own).
use Rattle.bpf_verify.specs.declared.error.VerifyError.{VerifyError}
use Rattle.bpf_verify.specs.declared.error.VerifyError.TheVariants as faults
use Rattle.bus_messages.specs.declared.error_name.ErrorName.{ErrorName}
use Rattle.bus_messages.specs.declared.error_name.ErrorName.TheVariants as names
use Rattle.bus_messages.specs.declared.exceeded.Exceeded.{Exceeded}
use Rattle.bus_messages.specs.declared.exceeded.Exceeded.TheVariants as limits
use Rattle.router.specs.BusError.{BusError}
use Rattle.router.specs.BusError.TheVariants as errors
use Rattle.peers.specs.declared.refused.Refused.{Refused}
use Rattle.peers.specs.declared.refused.Refused.TheVariants.{Error, Ended}

-- a call that would go beyond a limit
abbrev pub beyond : Exceeded → Refused
beyond limit = Error (names.LimitsExceeded limit)

-- the error that an Attach of a program is answered with
abbrev pub program_error : VerifyError → ErrorName
program_error faults.NoMemory = names.NoMemory
program_error fault = names.BadProgram fault

-- what becomes of a call that the bus refuses
abbrev pub refusal_of : BusError → Refused
refusal_of errors.NoMemory = Error names.NoMemory
refusal_of errors.ConnectionsFull = beyond limits.BusConnections
refusal_of errors.EntriesFull = beyond limits.BusEntries
refusal_of errors.NamesFull = beyond limits.BusNames
refusal_of errors.QueueFull = beyond limits.BusClaims
refusal_of errors.RuleNotFound = Error names.MatchRuleNotFound
refusal_of errors.NoAttachment = Error names.NoAttachment
refusal_of errors.Closed = Ended
refusal_of (errors.Rule fault) = Error (names.MatchRuleInvalid fault)
refusal_of (errors.Program fault) = Error (program_error fault)
refusal_of errors.TooLong = beyond limits.RuleLen
refusal_of errors.Busy = beyond limits.BusReaders
refusal_of (errors.Fan _) = beyond limits.BusWorkers
refusal_of errors.Counts = beyond limits.BusBroadcasts
