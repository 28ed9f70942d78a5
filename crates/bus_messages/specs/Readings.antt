-- What a call is read as, by the arguments that its method takes (D-Bus Specification, "Message Bus Messages"). Its body has the
-- method's signature.
use Rattle.std.specs.Prelude.{◌≡◌, ◌⊎◌, ◌||◌, ℕ, Bool, true, false, List, codes, map, Option, Some, None, Result, Ok, Err}
use Rattle.std.specs.Borrow.{Bor}
use Rattle.std.specs.Str.{bytes_eq}
use Rattle.summary.specs.declared.edition.Edition.TheVariants.{One}
use Rattle.bus_messages.specs.declared.call.Call.{Call}
use Rattle.bus_messages.specs.declared.call.Call.TheVariants as calls
use Rattle.bus_messages.specs.declared.call.CallError.{CallError}
use Rattle.bus_messages.specs.declared.call.CallError.TheVariants.{UnknownInterface, UnknownProperty, PropertyReadOnly, InvalidArgs, NoMemory}
use Rattle.bus_messages.specs.Arguments.{Given, later, first_text, first_number, first_program, first_texts, edition_of}
use Rattle.bus_messages.specs.Interfaces.{is_interface}
use Rattle.bus_messages.specs.Properties.{has_properties, property_of}
use Rattle.bus_messages.specs.declared.property.Property.{Property}

-- an argument that is read isn't where its type puts it
abbrev pub IsLack : Type 0 → CallError → Type 0
IsLack lacks error = (error ≡ InvalidArgs) × lacks

-- or memory for it was refused
abbrev pub IsLackOrNoMemory : Type 0 → CallError → Type 0
IsLackOrNoMemory lacks error = IsLack lacks error ⊎ (error ≡ NoMemory)

-- no argument is read
abbrev pub ReadsNothing : Call → Given → Result Call CallError → Type 0
ReadsNothing call args_left read = read ≡ Ok call

-- a text
abbrev pub ReadsText : (Bor (List ℕ) → Call) → Given → Result Call CallError → Type 0
ReadsText call args_left (Ok it) = (text : Bor (List ℕ)) × (it ≡ call text) × (first_text args_left ≡ Some text.now)
ReadsText call args_left (Err error) = IsLack (first_text args_left ≡ None) error

-- a name, and the flags of a request
abbrev pub ReadsRequest : Given → Result Call CallError → Type 0
ReadsRequest args_left (Ok (calls.RequestName name flags)) = (first_text args_left ≡ Some name.now) × (first_number (later args_left) ≡ Some flags)
ReadsRequest args_left (Ok _) = ⊥
ReadsRequest args_left (Err error) = IsLack ((first_text args_left ≡ None) ⊎ (first_number (later args_left) ≡ None)) error

-- an id
abbrev pub ReadsId : Given → Result Call CallError → Type 0
ReadsId args_left (Ok (calls.Detach id)) = first_number args_left ≡ Some id
ReadsId args_left (Ok _) = ⊥
ReadsId args_left (Err error) = IsLack (first_number args_left ≡ None) error

-- a program, which reads images of edition 1
abbrev pub ReadsProgram : Given → Result Call CallError → Type 0
ReadsProgram args_left (Ok (calls.Attach edition program)) = (edition ≡ One) × (first_program args_left ≡ Some program.items)
ReadsProgram args_left (Ok _) = ⊥
ReadsProgram args_left (Err error) = IsLackOrNoMemory (first_program args_left ≡ None) error

-- an edition, and a program
abbrev pub ReadsEdition : Given → Result Call CallError → Type 0
ReadsEdition args_left (Ok (calls.Attach edition program)) = (edition_of (first_number args_left) ≡ Ok edition) × (first_program (later args_left) ≡ Some program.items)
ReadsEdition args_left (Ok _) = ⊥
ReadsEdition args_left (Err error) = (edition_of (first_number args_left) ≡ Err error) ⊎ IsLackOrNoMemory (first_program (later args_left) ≡ None) error

-- rules, and flags
abbrev pub ReadsRules : Given → Result Call CallError → Type 0
ReadsRules args_left (Ok (calls.BecomeMonitor rules flags)) = (first_texts args_left ≡ Some (map (λ (rule : Bor (List ℕ)). rule.now) rules.items)) × (first_number (later args_left) ≡ Some flags)
ReadsRules args_left (Ok _) = ⊥
ReadsRules args_left (Err error) = IsLackOrNoMemory ((first_texts args_left ≡ None) ⊎ (first_number (later args_left) ≡ None)) error

-- an interface of the bus is named, or none, which stands for all (D-Bus Specification, "org.freedesktop.DBus.Properties")
abbrev pub is_named : List ℕ → Bool
is_named interface = bytes_eq interface (codes "") || is_interface interface

-- the first argument is a text that names an interface that the bus doesn't have
abbrev pub NamesNoInterface : Given → Type 0
NamesNoInterface args_left = (interface : List ℕ) × (first_text args_left ≡ Some interface) × (is_named interface ≡ false)

-- the first two arguments are texts that name an interface of the bus or all, and this property of it, or none that it has
abbrev pub NamesProperty : Option Property → Given → Type 0
NamesProperty property args_left =
    (interface : List ℕ) × (name : List ℕ) × (first_text args_left ≡ Some interface) × (first_text (later args_left) ≡ Some name) × (is_named interface ≡ true) × (property_of interface name ≡ property)

-- the first argument is a text that names an interface of the bus or all, and whether one with properties is among them
abbrev pub NamesInterface : Bool → Given → Type 0
NamesInterface properties args_left =
    (interface : List ℕ) × (first_text args_left ≡ Some interface) × (is_named interface ≡ true) × (has_properties interface ≡ properties)

-- why two texts name no property of the bus
abbrev pub NamesNone : Given → CallError → Type 0
NamesNone args_left UnknownInterface = NamesNoInterface args_left
NamesNone args_left UnknownProperty = NamesProperty None args_left
NamesNone args_left InvalidArgs = (first_text args_left ≡ None) ⊎ (first_text (later args_left) ≡ None)
NamesNone args_left _ = ⊥

-- a property
abbrev pub ReadsProperty : Given → Result Call CallError → Type 0
ReadsProperty args_left (Ok (calls.Get property)) = NamesProperty (Some property) args_left
ReadsProperty args_left (Ok _) = ⊥
ReadsProperty args_left (Err error) = NamesNone args_left error

-- an interface, of which all properties are asked for
abbrev pub ReadsInterface : Given → Result Call CallError → Type 0
ReadsInterface args_left (Ok calls.GetAll) = NamesInterface true args_left
ReadsInterface args_left (Ok calls.GetAllOfNone) = NamesInterface false args_left
ReadsInterface args_left (Ok _) = ⊥
ReadsInterface args_left (Err UnknownInterface) = NamesNoInterface args_left
ReadsInterface args_left (Err error) = IsLack (first_text args_left ≡ None) error

-- a property, of which none can be set
abbrev pub RefusesToSet : Given → Result Call CallError → Type 0
RefusesToSet args_left (Ok _) = ⊥
RefusesToSet args_left (Err PropertyReadOnly) = (property : Property) × NamesProperty (Some property) args_left
RefusesToSet args_left (Err error) = NamesNone args_left error
