-- The header's fields: their codes, types and contents (D-Bus Specification, "Header Fields").
use Rattle.std.specs.Prelude.{ℕ, Bool, true, false, not, List, [], ◌∷◌, Option, Some, None, is_some, ◌==◌, if◌then◌else◌}
use Rattle.std.specs.List.{list_all}
use Rattle.std.specs.Str.{bytes_eq}
use Rattle.signature.specs.Name.{is_interface, is_member, is_bus_name}
use Rattle.message_view.specs.Message.{Field, field_with}
use Rattle.message_view.specs.declared.kind.Kind.{Kind}
use Rattle.message_view.specs.declared.kind.Kind.TheVariants.{MethodCall, MethodReturn, Error, Signal, Other}
use Rattle.message_view.specs.declared.field.FieldCode.{FieldCode}
use Rattle.message_view.specs.declared.field.FieldCode.TheVariants.{Path, Interface, Member, ErrorName, ReplySerial, Destination, Sender, Signature, UnixFds}

abbrev pub kind_byte : Kind → ℕ
kind_byte MethodCall = 1
kind_byte MethodReturn = 2
kind_byte Error = 3
kind_byte Signal = 4
kind_byte (Other byte) = byte

-- 0 is no kind
abbrev pub kind_of : ℕ → Option Kind
kind_of byte =
    if byte == 0 then None
    else if byte == 1 then Some MethodCall
    else if byte == 2 then Some MethodReturn
    else if byte == 3 then Some Error
    else if byte == 4 then Some Signal
    else Some (Other byte)

-- The fields that have a meaning; of others nothing is known.
abbrev pub code_of : ℕ → Option FieldCode
code_of byte =
    if byte == 1 then Some Path
    else if byte == 2 then Some Interface
    else if byte == 3 then Some Member
    else if byte == 4 then Some ErrorName
    else if byte == 5 then Some ReplySerial
    else if byte == 6 then Some Destination
    else if byte == 7 then Some Sender
    else if byte == 8 then Some Signature
    else if byte == 9 then Some UnixFds
    else None

-- the basic code of a field's type: `o`, `s`, `u` or `g`
abbrev pub type_code : FieldCode → ℕ
type_code Path = 111
type_code Interface = 115
type_code Member = 115
type_code ErrorName = 115
type_code ReplySerial = 117
type_code Destination = 115
type_code Sender = 115
type_code Signature = 103
type_code UnixFds = 117

-- `/org/freedesktop/DBus/Local`
abbrev pub local_path : List ℕ
local_path = 47 ∷ 111 ∷ 114 ∷ 103 ∷ 47 ∷ 102 ∷ 114 ∷ 101 ∷ 101 ∷ 100 ∷ 101 ∷ 115 ∷ 107 ∷ 116 ∷ 111 ∷ 112 ∷ 47 ∷ 68 ∷ 66 ∷ 117 ∷ 115 ∷ 47 ∷ 76 ∷ 111 ∷ 99 ∷ 97 ∷ 108 ∷ []

-- `org.freedesktop.DBus.Local`
abbrev pub local_interface : List ℕ
local_interface = 111 ∷ 114 ∷ 103 ∷ 46 ∷ 102 ∷ 114 ∷ 101 ∷ 101 ∷ 100 ∷ 101 ∷ 115 ∷ 107 ∷ 116 ∷ 111 ∷ 112 ∷ 46 ∷ 68 ∷ 66 ∷ 117 ∷ 115 ∷ 46 ∷ 76 ∷ 111 ∷ 99 ∷ 97 ∷ 108 ∷ []

-- The text of a field that names something has the form of that name; an object path has it by its type.
abbrev pub is_named_well : FieldCode → List ℕ → Bool
is_named_well Path bytes = true
is_named_well Interface bytes = is_interface bytes
is_named_well Member bytes = is_member bytes
is_named_well ErrorName bytes = is_interface bytes
is_named_well ReplySerial bytes = true
is_named_well Destination bytes = is_bus_name bytes
is_named_well Sender bytes = is_bus_name bytes
is_named_well Signature bytes = true
is_named_well UnixFds bytes = true

-- a name that only a connection's own library may use
abbrev pub is_reserved : FieldCode → List ℕ → Bool
is_reserved Path bytes = bytes_eq bytes local_path
is_reserved Interface bytes = bytes_eq bytes local_interface
is_reserved _ bytes = false

-- a reply answers some serial, and no message carries file descriptors
abbrev pub is_number_allowed : FieldCode → ℕ → Bool
is_number_allowed ReplySerial n = not (n == 0)
is_number_allowed UnixFds n = n == 0
is_number_allowed _ n = true

-- the fields without which a message of a kind is none
abbrev pub required_codes : Kind → List ℕ
required_codes MethodCall = 1 ∷ 3 ∷ []
required_codes MethodReturn = 5 ∷ []
required_codes Error = 4 ∷ 5 ∷ []
required_codes Signal = 1 ∷ 2 ∷ 3 ∷ []
required_codes (Other byte) = []

abbrev pub has_required : Kind → List Field → Bool
has_required kind fields = list_all (λ code. is_some (field_with code fields)) (required_codes kind)
