-- Inner: the rows of the code's table, as those of the definitions.
use Rattle.bus_messages.specs.declared.call.MethodEntry.{MethodEntry}
use Rattle.bus_messages.specs.Methods.{MethodRow, row_of}

abbrev pub method_row_of : MethodEntry → MethodRow
method_row_of row = row_of row.method row.interface.now row.member.now row.takes.now row.gives.now
