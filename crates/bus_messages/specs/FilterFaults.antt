-- What is said of filters that aren't attached (own).
use Rattle.std.specs.Prelude.{ℕ, List, ◌++◌, codes}
use Rattle.filter.specs.Errors.{fault_text}
use Rattle.bus_messages.specs.ErrorNames.{own_prefix}
use Rattle.bus_messages.specs.declared.filter_fault.FilterFault.{FilterFault}
use Rattle.bus_messages.specs.declared.filter_fault.FilterFault.TheVariants.{Token, SenderName}

-- the error of such a filter
abbrev pub bad_filter_name : List ℕ
bad_filter_name = own_prefix ++ codes "BadFilter"

-- a filter that asks who owns a name
abbrev pub sender_name_text : List ℕ → List ℕ
sender_name_text name = codes "SenderName " ++ name

-- the fault of a text and its place, or the name that is asked for
abbrev pub filter_fault_text : FilterFault → List ℕ
filter_fault_text (Token at) = fault_text at
filter_fault_text (SenderName name) = sender_name_text name.now

-- what the error says
abbrev pub bad_filter_text : List ℕ → List ℕ
bad_filter_text fault = codes "BadFilter: " ++ fault
