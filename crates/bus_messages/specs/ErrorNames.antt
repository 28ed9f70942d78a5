-- The names of the errors that the bus answers, and what they say (D-Bus Specification, "Message Bus Messages"; the sentences
-- are own).
use Rattle.std.specs.Prelude.{ℕ, Bool, true, false, List, codes, ◌++◌, Option, Some, None, cond}
use Rattle.match_key.specs.Errors as rules
use Rattle.std.specs.Fmt.{decimal}
use Rattle.bpf_verify.specs.Numbers.{verify_error_sentence, verify_error_place}
use Rattle.bus_messages.specs.declared.error_name.ErrorName.{ErrorName}
use Rattle.bus_messages.specs.declared.error_name.ErrorName.TheVariants.{AccessDenied, AdtAuditDataUnknown, Failed, InvalidArgs, LimitsExceeded, MatchRuleInvalid, MatchRuleNotFound, NameHasNoOwner, NoMemory, NoReply, ServiceUnknown, PropertyReadOnly, SelinuxSecurityContextUnknown, UnixProcessIdUnknown, UnknownInterface, UnknownMethod, UnknownProperty, BadProgram, BadEdition, NoAttachment}
use Rattle.bus_messages.specs.declared.exceeded.Exceeded.{Exceeded}
use Rattle.bus_messages.specs.declared.exceeded.Exceeded.TheVariants as limits

abbrev pub word_of : ErrorName → List ℕ
word_of AccessDenied = codes "AccessDenied"
word_of AdtAuditDataUnknown = codes "AdtAuditDataUnknown"
word_of Failed = codes "Failed"
word_of InvalidArgs = codes "InvalidArgs"
word_of (LimitsExceeded _) = codes "LimitsExceeded"
word_of (MatchRuleInvalid _) = codes "MatchRuleInvalid"
word_of MatchRuleNotFound = codes "MatchRuleNotFound"
word_of NameHasNoOwner = codes "NameHasNoOwner"
word_of NoMemory = codes "NoMemory"
word_of NoReply = codes "NoReply"
word_of ServiceUnknown = codes "ServiceUnknown"
word_of SelinuxSecurityContextUnknown = codes "SELinuxSecurityContextUnknown"
word_of UnixProcessIdUnknown = codes "UnixProcessIdUnknown"
word_of UnknownInterface = codes "UnknownInterface"
word_of UnknownMethod = codes "UnknownMethod"
word_of UnknownProperty = codes "UnknownProperty"
word_of PropertyReadOnly = codes "PropertyReadOnly"
word_of (BadProgram _) = codes "BadProgram"
word_of BadEdition = codes "BadEdition"
word_of NoAttachment = codes "NoAttachment"

-- the errors of the standard
abbrev pub standard_prefix : List ℕ
standard_prefix = codes "org.freedesktop.DBus.Error."

-- the errors of attachments, which are this bus's own
abbrev pub own_prefix : List ℕ
own_prefix = codes "org.example.ProgramBus1.Error."

abbrev pub prefix_of : ErrorName → List ℕ
prefix_of (BadProgram _) = own_prefix
prefix_of BadEdition = own_prefix
prefix_of NoAttachment = own_prefix
prefix_of _ = standard_prefix

abbrev pub full_name : ErrorName → List ℕ
full_name name = prefix_of name ++ word_of name

-- what there is too much of
abbrev pub limit_of : Exceeded → List ℕ
limit_of limits.Rules = codes "rules and programs of this connection (limit rules)"
limit_of limits.Instructions = codes "instructions of programs of this connection (limit instructions)"
limit_of limits.Names = codes "names of this connection (limit names)"
limit_of limits.Calls = codes "calls of this connection that wait for an answer (limit calls)"
limit_of limits.AllInstructions = codes "instructions of programs of all connections (limit all-instructions)"
limit_of limits.BusConnections = codes "connections of the bus (limit clients)"
limit_of limits.BusEntries = codes "rules and programs of the bus (limit all-rules)"
limit_of limits.BusNames = codes "names of the bus (limit all-names)"
limit_of limits.BusClaims = codes "owners of names of the bus, and those that wait (limit claims)"
limit_of limits.BusReaders = codes "readers of the bus at one time"
limit_of limits.BusWorkers = codes "workers of the bus"
limit_of limits.BusBroadcasts = codes "broadcasts of the bus"
limit_of limits.RuleLen = codes "instructions of the program of the rule"
limit_of limits.FilterWeight = codes "weight of the filter"
limit_of limits.MessageLen = codes "bytes of the message with its sender"

-- what was wrong
abbrev pub sentence_of : ErrorName → List ℕ
sentence_of AccessDenied = codes "only the user of the bus may do that, at the path of the bus"
sentence_of AdtAuditDataUnknown = codes "the bus knows no audit sessions"
sentence_of Failed = codes "Hello came before, or the bus has no answer"
sentence_of InvalidArgs = codes "these are not arguments of the method"
sentence_of (LimitsExceeded limit) = limit_of limit
sentence_of (MatchRuleInvalid fault) = rules.sentence_of fault
sentence_of MatchRuleNotFound = codes "this connection has no such rule"
sentence_of NameHasNoOwner = codes "nobody owns the name"
sentence_of NoMemory = codes "the bus has no memory for this"
sentence_of NoReply = codes "Message recipient disconnected from message bus without replying"
sentence_of ServiceUnknown = codes "nobody owns the name, and nothing is started here"
sentence_of SelinuxSecurityContextUnknown = codes "the bus knows no security contexts"
sentence_of UnixProcessIdUnknown = codes "the bus knows no processes"
sentence_of UnknownInterface = codes "the bus has no such interface"
sentence_of UnknownMethod = codes "the bus has no such method"
sentence_of UnknownProperty = codes "the interface has no such property"
sentence_of PropertyReadOnly = codes "no property of the bus can be set"
sentence_of (BadProgram fault) = verify_error_sentence fault
sentence_of BadEdition = codes "there is no such edition of a summary"
sentence_of NoAttachment = codes "this connection has no such program"

-- the place of the instruction that is at fault
abbrev pub place_of : ErrorName → Option ℕ
place_of (BadProgram fault) = verify_error_place fault
place_of _ = None

-- where it is, if anywhere
abbrev pub place_text : Option ℕ → List ℕ
place_text None = codes ""
place_text (Some place) = codes " at instruction " ++ decimal place

-- the error whose text is that of other buses, which programs show to people
abbrev pub is_said_alone : ErrorName → Bool
is_said_alone NoReply = true
is_said_alone _ = false

-- what an error says: its word, unless it is said without, what was wrong, and where
abbrev pub text_of : ErrorName → List ℕ
text_of name = cond (is_said_alone name) (sentence_of name) (word_of name ++ codes ": " ++ sentence_of name ++ place_text (place_of name))
