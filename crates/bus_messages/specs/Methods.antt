-- The methods of the bus (D-Bus Specification, "Message Bus Messages", "Standard Interfaces"; those of Debug.Stats are the
-- reference bus's).
use Rattle.std.specs.Prelude.{ℕ, Bool, true, List, [], ◌∷◌, codes, Option, Some, None, ◌&&◌, Result}
use Rattle.std.specs.List.{find}
use Rattle.std.specs.Str.{bytes_eq}
use Rattle.bus_messages.specs.declared.call.Call.{Call}
use Rattle.bus_messages.specs.declared.call.Call.TheVariants as calls
use Rattle.bus_messages.specs.declared.call.CallError.{CallError}
use Rattle.bus_messages.specs.declared.call.Method.{Method}
use Rattle.bus_messages.specs.declared.call.Method.TheVariants as names
use Rattle.bus_messages.specs.Arguments.{Given}
use Rattle.bus_messages.specs.Interfaces.{bus, peer, programs, introspectable, properties, monitoring, stats}
use Rattle.bus_messages.specs.Readings.{ReadsNothing, ReadsText, ReadsRequest, ReadsId, ReadsProgram, ReadsEdition, ReadsRules, ReadsProperty, ReadsInterface, RefusesToSet}

-- a method, what it is called, and the signatures of its arguments and of its answer
pub record MethodRow : Type 0 where
  pub method : Method
  pub interface : List ℕ
  pub member : List ℕ
  pub takes : List ℕ
  pub gives : List ℕ

abbrev pub row_of : Method → List ℕ → List ℕ → List ℕ → List ℕ → MethodRow
row_of method interface member takes gives = record { method = method; interface = interface; member = member; takes = takes; gives = gives }

-- every method of the bus
unfoldable pub methods : List MethodRow
methods =
    row_of names.Hello bus (codes "Hello") [] (codes "s")
    ∷ row_of names.AddMatch bus (codes "AddMatch") (codes "s") []
    ∷ row_of names.RemoveMatch bus (codes "RemoveMatch") (codes "s") []
    ∷ row_of names.RequestName bus (codes "RequestName") (codes "su") (codes "u")
    ∷ row_of names.ReleaseName bus (codes "ReleaseName") (codes "s") (codes "u")
    ∷ row_of names.GetNameOwner bus (codes "GetNameOwner") (codes "s") (codes "s")
    ∷ row_of names.NameHasOwner bus (codes "NameHasOwner") (codes "s") (codes "b")
    ∷ row_of names.ListNames bus (codes "ListNames") [] (codes "as")
    ∷ row_of names.Ping peer (codes "Ping") [] []
    ∷ row_of names.Attach programs (codes "Attach") (codes "a(qyyu)") (codes "u")
    ∷ row_of names.AttachEdition programs (codes "AttachEdition") (codes "ua(qyyu)") (codes "u")
    ∷ row_of names.AttachFilter programs (codes "AttachFilter") (codes "s") (codes "u")
    ∷ row_of names.Detach programs (codes "Detach") (codes "u") []
    ∷ row_of names.StartServiceByName bus (codes "StartServiceByName") (codes "su") (codes "u")
    ∷ row_of names.ListActivatableNames bus (codes "ListActivatableNames") [] (codes "as")
    ∷ row_of names.ListQueuedOwners bus (codes "ListQueuedOwners") (codes "s") (codes "as")
    ∷ row_of names.GetId bus (codes "GetId") [] (codes "s")
    ∷ row_of names.GetConnectionUnixUser bus (codes "GetConnectionUnixUser") (codes "s") (codes "u")
    ∷ row_of names.GetConnectionUnixProcessId bus (codes "GetConnectionUnixProcessID") (codes "s") (codes "u")
    ∷ row_of names.GetConnectionCredentials bus (codes "GetConnectionCredentials") (codes "s") (codes "a{sv}")
    ∷ row_of names.GetAdtAuditSessionData bus (codes "GetAdtAuditSessionData") (codes "s") (codes "ay")
    ∷ row_of names.GetConnectionSelinuxSecurityContext bus (codes "GetConnectionSELinuxSecurityContext") (codes "s") (codes "ay")
    ∷ row_of names.GetMachineId peer (codes "GetMachineId") [] (codes "s")
    ∷ row_of names.Introspect introspectable (codes "Introspect") [] (codes "s")
    ∷ row_of names.Get properties (codes "Get") (codes "ss") (codes "v")
    ∷ row_of names.GetAll properties (codes "GetAll") (codes "s") (codes "a{sv}")
    ∷ row_of names.Set properties (codes "Set") (codes "ssv") []
    ∷ row_of names.UpdateActivationEnvironment bus (codes "UpdateActivationEnvironment") (codes "a{ss}") []
    ∷ row_of names.ReloadConfig bus (codes "ReloadConfig") [] []
    ∷ row_of names.BecomeMonitor monitoring (codes "BecomeMonitor") (codes "asu") []
    ∷ row_of names.GetStats stats (codes "GetStats") [] (codes "a{sv}")
    ∷ row_of names.GetConnectionStats stats (codes "GetConnectionStats") (codes "s") (codes "a{sv}")
    ∷ row_of names.GetAllMatchRules stats (codes "GetAllMatchRules") [] (codes "a{sas}")
    ∷ []

-- what a call of each method is read as, whose body has the method's signature
abbrev pub Understands : Method → Given → Result Call CallError → Type 0
Understands names.Hello = ReadsNothing calls.Hello
Understands names.AddMatch = ReadsText calls.AddMatch
Understands names.RemoveMatch = ReadsText calls.RemoveMatch
Understands names.RequestName = ReadsRequest
Understands names.ReleaseName = ReadsText calls.ReleaseName
Understands names.GetNameOwner = ReadsText calls.GetNameOwner
Understands names.NameHasOwner = ReadsText calls.NameHasOwner
Understands names.ListNames = ReadsNothing calls.ListNames
Understands names.Ping = ReadsNothing calls.Ping
Understands names.Attach = ReadsProgram
Understands names.AttachEdition = ReadsEdition
Understands names.AttachFilter = ReadsText calls.AttachFilter
Understands names.Detach = ReadsId
Understands names.StartServiceByName = ReadsText calls.StartServiceByName
Understands names.ListActivatableNames = ReadsNothing calls.ListActivatableNames
Understands names.ListQueuedOwners = ReadsText calls.ListQueuedOwners
Understands names.GetId = ReadsNothing calls.GetId
Understands names.GetConnectionUnixUser = ReadsText calls.GetConnectionUnixUser
Understands names.GetConnectionUnixProcessId = ReadsText calls.GetConnectionUnixProcessId
Understands names.GetConnectionCredentials = ReadsText calls.GetConnectionCredentials
Understands names.GetAdtAuditSessionData = ReadsText calls.GetAdtAuditSessionData
Understands names.GetConnectionSelinuxSecurityContext = ReadsText calls.GetConnectionSelinuxSecurityContext
Understands names.GetMachineId = ReadsNothing calls.GetMachineId
Understands names.Introspect = ReadsNothing calls.Introspect
Understands names.Get = ReadsProperty
Understands names.GetAll = ReadsInterface
Understands names.Set = RefusesToSet
Understands names.UpdateActivationEnvironment = ReadsNothing calls.UpdateActivationEnvironment
Understands names.ReloadConfig = ReadsNothing calls.ReloadConfig
Understands names.BecomeMonitor = ReadsRules
Understands names.GetStats = ReadsNothing calls.GetStats
Understands names.GetConnectionStats = ReadsText calls.GetConnectionStats
Understands names.GetAllMatchRules = ReadsNothing calls.GetAllMatchRules

-- a call that names no interface may be of any
abbrev pub is_of : Option (List ℕ) → List ℕ → Bool
is_of None interface = true
is_of (Some named) interface = bytes_eq interface named

-- whether a call of this interface, if it names one, and of this member is a call of the method
abbrev pub is_called : Option (List ℕ) → List ℕ → MethodRow → Bool
is_called interface member row = bytes_eq row.member member && is_of interface row.interface

-- the method that a call is of: the first one that is called so
abbrev pub method_called : Option (List ℕ) → List ℕ → Option MethodRow
method_called interface member = find (is_called interface member) methods
