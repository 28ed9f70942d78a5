-- What the bus understands of a call (D-Bus Specification, "Message Bus Messages").
use Rattle.std.specs.Prelude.{◌≡◌, ◌≢◌, ◌⊎◌, ℕ, Bool, true, false, List, Option, Some, None, Result, Err, cond, if◌then◌else◌}
use Rattle.signature.specs.DataType.{spellings}
use Rattle.message_view.specs.Message.{Message, interface_of, member_of, path_of}
use Rattle.message_view.specs.Spelling.{message_bytes, arguments_of}
use Rattle.bus_messages.specs.declared.call.Call.{Call}
use Rattle.bus_messages.specs.declared.call.CallError.{CallError}
use Rattle.bus_messages.specs.declared.call.CallError.TheVariants.{UnknownMethod, UnknownInterface, AccessDenied, InvalidArgs}
use Rattle.bus_messages.specs.declared.call.Method.{Method}
use Rattle.bus_messages.specs.declared.call.Method.TheVariants as names
use Rattle.bus_messages.specs.Arguments.{Given}
use Rattle.bus_messages.specs.Interfaces.{is_interface, is_at_bus_path, is_bus_path}
use Rattle.bus_messages.specs.Methods.{MethodRow, Understands, method_called}

-- the method that sets the environment of services
abbrev pub is_environment : Method → Bool
is_environment names.UpdateActivationEnvironment = true
is_environment _ = false

-- the method that a message calls
abbrev pub row_called : Option (List ℕ) → Option (List ℕ) → Option MethodRow
row_called interface (Some member) = method_called interface member
row_called interface None = None

-- why a call of no method isn't understood: a call that names an interface has to name one of the bus
abbrev pub unknown_call : Option (List ℕ) → CallError
unknown_call (Some interface) = if is_interface interface then UnknownMethod else UnknownInterface
unknown_call None = UnknownMethod

-- at another path than the bus's own, an interface that isn't there, or a call of it that names none
abbrev pub unknown_elsewhere : Bool → Option (List ℕ) → Option CallError
unknown_elsewhere false named = None
unknown_elsewhere true None = Some UnknownMethod
unknown_elsewhere true (Some _) = Some UnknownInterface

-- why a method may not be called at another path than the bus's own, if it may not; the call names an interface or none
abbrev pub refusal_elsewhere : MethodRow → Option (List ℕ) → Option CallError
refusal_elsewhere row named = cond (is_environment row.method) (Some AccessDenied) (unknown_elsewhere (is_at_bus_path row.interface) named)

-- why it may not be called at this path, if it may not
abbrev pub refusal_at : Option (List ℕ) → MethodRow → Option (List ℕ) → Option CallError
refusal_at path row named = cond (is_bus_path path) None (refusal_elsewhere row named)

-- A call of a method: refused at its path; of another signature than the method's, `InvalidArgs`; else as the method's
-- arguments say.
abbrev pub ReadsRow : Option CallError → MethodRow → List ℕ → Given → Result Call CallError → Type 0
ReadsRow (Some error) row signature args_left read = read ≡ Err error
ReadsRow None row signature args_left read =
    ((signature ≡ row.takes) × Understands row.method args_left read) ⊎ ((signature ≢ row.takes) × (read ≡ Err InvalidArgs))

-- what a message is read as; of a method that isn't there, that its interface or the method isn't known
abbrev pub ReadsAs : Option (List ℕ) → Option (List ℕ) → Option MethodRow → List ℕ → Given → Result Call CallError → Type 0
ReadsAs interface path None signature args_left read = read ≡ Err (unknown_call interface)
ReadsAs interface path (Some row) signature args_left read = ReadsRow (refusal_at path row interface) row signature args_left read

-- the arguments of a message
abbrev pub given_by : Message → Given
given_by m = record { message = message_bytes m; order = m.order; left = arguments_of m }

-- what a message is read as, as a call of the bus
abbrev pub IsReadAs : Message → Result Call CallError → Type 0
IsReadAs m read = ReadsAs (interface_of m) (path_of m) (row_called (interface_of m) (member_of m)) (spellings m.types) (given_by m) read
