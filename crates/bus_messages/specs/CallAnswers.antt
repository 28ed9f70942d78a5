-- Inner: what a call about the bus's properties is read as.
use Rattle.std.specs.Prelude.{ℕ, List, Result, Ok, Err, if◌then◌else◌}
use Rattle.bus_messages.specs.declared.call.Call.{Call}
use Rattle.bus_messages.specs.declared.call.Call.TheVariants.{GetAll, GetAllOfNone}
use Rattle.bus_messages.specs.declared.call.CallError.{CallError}
use Rattle.bus_messages.specs.declared.call.CallError.TheVariants.{UnknownInterface}
use Rattle.bus_messages.specs.Interfaces.{is_interface}
use Rattle.bus_messages.specs.Properties.{has_properties}

-- the properties of an interface
abbrev pub properties_of : List ℕ → Result Call CallError
properties_of interface = if has_properties interface then Ok GetAll else if is_interface interface then Ok GetAllOfNone else Err UnknownInterface
