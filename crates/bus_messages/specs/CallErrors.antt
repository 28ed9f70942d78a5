-- The errors that calls are answered with which the bus can't read (D-Bus Specification, "Message Bus Messages"; BadEdition is
-- own).
use Rattle.bus_messages.specs.declared.call.CallError.{CallError}
use Rattle.bus_messages.specs.declared.call.CallError.TheVariants as errors
use Rattle.bus_messages.specs.declared.error_name.ErrorName.{ErrorName}
use Rattle.bus_messages.specs.declared.error_name.ErrorName.TheVariants as names

abbrev pub error_name_of : CallError → ErrorName
error_name_of errors.UnknownMethod = names.UnknownMethod
error_name_of errors.UnknownInterface = names.UnknownInterface
error_name_of errors.UnknownProperty = names.UnknownProperty
error_name_of errors.PropertyReadOnly = names.PropertyReadOnly
error_name_of errors.AccessDenied = names.AccessDenied
error_name_of errors.InvalidArgs = names.InvalidArgs
error_name_of errors.BadEdition = names.BadEdition
error_name_of errors.NoMemory = names.NoMemory
