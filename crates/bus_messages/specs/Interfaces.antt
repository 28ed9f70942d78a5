-- The interfaces of the bus (D-Bus Specification, "Standard Interfaces"; Debug.Stats is the reference bus's, and the third one own).
use Rattle.std.specs.Prelude.{ℕ, Bool, false, ◌||◌, List, [], ◌∷◌, codes, Option, Some, None}
use Rattle.std.specs.List.{list_any}
use Rattle.std.specs.Str.{bytes_eq}

abbrev pub bus : List ℕ
bus = codes "org.freedesktop.DBus"

abbrev pub peer : List ℕ
peer = codes "org.freedesktop.DBus.Peer"

abbrev pub programs : List ℕ
programs = codes "org.example.ProgramBus1"

abbrev pub introspectable : List ℕ
introspectable = codes "org.freedesktop.DBus.Introspectable"

abbrev pub properties : List ℕ
properties = codes "org.freedesktop.DBus.Properties"

abbrev pub monitoring : List ℕ
monitoring = codes "org.freedesktop.DBus.Monitoring"

abbrev pub stats : List ℕ
stats = codes "org.freedesktop.DBus.Debug.Stats"

-- the interfaces of the bus, in the order in which they are described
abbrev pub interfaces : List (List ℕ)
interfaces = bus ∷ peer ∷ programs ∷ introspectable ∷ properties ∷ monitoring ∷ stats ∷ []

-- whether the bus has an interface
abbrev pub is_interface : List ℕ → Bool
is_interface name = list_any (λ interface. bytes_eq name interface) interfaces

-- the path at which the bus's own properties are, and what looks into it
abbrev pub is_bus_path : Option (List ℕ) → Bool
is_bus_path (Some path) = bytes_eq path (codes "/org/freedesktop/DBus")
is_bus_path None = false

-- the interfaces that the bus has at its own path alone
abbrev pub is_at_bus_path : List ℕ → Bool
is_at_bus_path interface = bytes_eq interface properties || (bytes_eq interface monitoring || bytes_eq interface stats)
