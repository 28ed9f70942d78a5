-- What GetAll is read as, by the interface that it names.
use Rattle.std.proofs.Common.{ℕ, ◌≡◌, ◌||◌, Bool, true, false, List, Some, refl}
use Rattle.std.specs.Prelude.{Ok, Err, codes, if◌then◌else◌}
use Rattle.std.specs.Str.{bytes_eq}
use Rattle.bus_messages.specs.declared.call.Call.TheVariants as calls
use Rattle.bus_messages.specs.declared.call.CallError.TheVariants.{UnknownInterface}
use Rattle.bus_messages.specs.Arguments.{Given, first_text}
use Rattle.bus_messages.specs.CallAnswers.{properties_of}
use Rattle.bus_messages.specs.Interfaces.{bus, is_interface}
use Rattle.bus_messages.specs.Properties.{has_properties}
use Rattle.bus_messages.specs.Readings.{ReadsInterface}

either : (a b r : Bool) → (a || b) ≡ true → (a || (b || r)) ≡ true
either true b r e = refl
either false true r e = refl
either false false r e = absurd cc

second : (a b : Bool) → b ≡ true → (a || b) ≡ true
second true b e = refl
second false b e = e

neither : (a b r : Bool) → (a || b) ≡ false → r ≡ false → (a || r) ≡ false
neither true b r e f = absurd cc
neither false b r e f = f

read_as : (interface : List ℕ) (args_left : Given) → first_text args_left ≡ Some interface → (has known : Bool) → has_properties interface ≡ has → is_interface interface ≡ known
    → ReadsInterface args_left (if has then Ok calls.GetAll else if known then Ok calls.GetAllOfNone else Err UnknownInterface)
read_as interface args_left first true known has is = (interface, first, either (bytes_eq interface (codes "")) (bytes_eq interface bus) _ has, has)
read_as interface args_left first false true has is = (interface, first, second (bytes_eq interface (codes "")) (is_interface interface) is, has)
read_as interface args_left first false false has is = (interface, first, neither (bytes_eq interface (codes "")) (bytes_eq interface bus) (is_interface interface) has is)

pub properties_read : (interface : List ℕ) (args_left : Given) → first_text args_left ≡ Some interface → ReadsInterface args_left (properties_of interface)
properties_read interface args_left first = read_as interface args_left first (has_properties interface) (is_interface interface) refl refl
