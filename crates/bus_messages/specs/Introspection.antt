-- What Introspect answers (D-Bus Specification, "Introspection Data Format").
use Rattle.std.specs.Prelude.{ℕ, List, [], ◌++◌, codes, filter, Option, Some, None, if◌then◌else◌}
use Rattle.std.specs.List.{flat_map}
use Rattle.std.specs.Str.{bytes_eq}
use Rattle.signature.specs.DataType.{DataTypes, slices}
use Rattle.signature.specs.Trees.{types_of}
use Rattle.bus_messages.specs.declared.introspect.TheConstants.{HEAD, SIGNALS}
use Rattle.bus_messages.specs.Interfaces.{bus, interfaces}
use Rattle.bus_messages.specs.Methods.{MethodRow, methods}

-- the texts of the types of a signature
abbrev pub types_in : Option DataTypes → List (List ℕ)
types_in None = []
types_in (Some types) = slices types

-- the element of an argument
abbrev pub argument_text : List ℕ → List ℕ → List ℕ
argument_text before type = before ++ type ++ codes "\"/>\n"

-- those of the arguments of a signature
abbrev pub arguments_text : List ℕ → List ℕ → List ℕ
arguments_text before signature = flat_map (argument_text before) (types_in (types_of signature))

-- the element of a method
abbrev pub method_text : MethodRow → List ℕ
method_text row =
    codes "    <method name=\"" ++ row.member ++ codes "\">\n"
    ++ arguments_text (codes "      <arg direction=\"in\" type=\"") row.takes
    ++ arguments_text (codes "      <arg direction=\"out\" type=\"") row.gives
    ++ codes "    </method>\n"

-- those of the methods of an interface
abbrev pub methods_text : List ℕ → List MethodRow → List ℕ
methods_text interface rows = flat_map method_text (filter (λ row. bytes_eq row.interface interface) rows)

-- the bus's first interface has signals and properties
abbrev pub signals_text : List ℕ → List ℕ
signals_text interface = if bytes_eq interface bus then SIGNALS.now else []

-- the element of an interface
abbrev pub interface_text : List ℕ → List ℕ
interface_text interface = codes "  <interface name=\"" ++ interface ++ codes "\">\n" ++ methods_text interface methods ++ signals_text interface ++ codes "  </interface>\n"

-- the whole text
unfoldable pub introspection_text : List ℕ
introspection_text = HEAD.now ++ flat_map interface_text interfaces ++ codes "</node>\n"
