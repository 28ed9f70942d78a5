-- Inner: the fields that a builder writes, and what they may hold.
use Rattle.std.specs.Prelude.{◌≡◌, ℕ, ◌+◌, ◌<◌, ◌≤◌, ◌^◌, ◌&&◌, ◌==◌, Bool, true, not, List, [], ◌∷◌, length, Option, Some, None, is_some, nat_lt}
use Rattle.std.specs.Borrow.{Bor}
use Rattle.std.specs.List.{list_all}
use Rattle.std.specs.Str.{bytes_eq}
use Rattle.signature.specs.DataType.{basic}
use Rattle.signature.specs.Name.{is_path, is_interface, is_member, is_bus_name}
use Rattle.signature.specs.Trees.{types_of}
use Rattle.message_value.specs.declared.order.Order.TheVariants.{Little}
use Rattle.message_value.specs.Value.{number, text}
use Rattle.message_value.specs.Fits.{max_array_len}
use Rattle.message_view.specs.Message.{Field}
use Rattle.message_view.specs.Spelling.{fixed_len, field_bytes}
use Rattle.message_view.specs.Header.{local_path, local_interface}
use Rattle.message_build.specs.declared.field.HeaderField.{HeaderField}
use Rattle.message_build.specs.declared.field.HeaderField.TheVariants.{Path, Interface, Member, ErrorName, ReplySerial, Destination, Sender, Signature}

-- the text, where there is one
abbrev pub text_said : Option (Bor (List ℕ)) → Option (List ℕ)
text_said (Some t) = Some t.now
text_said None = None

-- a field as the variant that it is
abbrev pub field_of : HeaderField → Field
field_of (Path t) = record { code = 1; type = basic 111; value = text t.now }
field_of (Interface t) = record { code = 2; type = basic 115; value = text t.now }
field_of (Member t) = record { code = 3; type = basic 115; value = text t.now }
field_of (ErrorName t) = record { code = 4; type = basic 115; value = text t.now }
field_of (ReplySerial n) = record { code = 5; type = basic 117; value = number n }
field_of (Destination t) = record { code = 6; type = basic 115; value = text t.now }
field_of (Sender t) = record { code = 7; type = basic 115; value = text t.now }
field_of (Signature t) = record { code = 8; type = basic 103; value = text t.now }

-- the fields that are there
abbrev pub fields_of : List (Option HeaderField) → List Field
fields_of [] = []
fields_of (None ∷ more) = fields_of more
fields_of (Some field ∷ more) = field_of field ∷ fields_of more

-- an interface, but not the one that only a connection's own library may use
abbrev pub is_open_interface : List ℕ → Bool
is_open_interface bytes = is_interface bytes && not (bytes_eq bytes local_interface)

-- an object path, but not the one that only a connection's own library may use; its length fits four bytes
abbrev pub is_open_path : List ℕ → Bool
is_open_path bytes = is_path bytes && not (bytes_eq bytes local_path) && nat_lt (length bytes) (2 ^ 32)

-- what a field may hold
abbrev pub is_allowed : HeaderField → Bool
is_allowed (Path t) = is_open_path t.now
is_allowed (Interface t) = is_open_interface t.now
is_allowed (Member t) = is_member t.now
is_allowed (ErrorName t) = is_interface t.now
is_allowed (ReplySerial n) = not (n == 0)
is_allowed (Destination t) = is_bus_name t.now
is_allowed (Sender t) = is_bus_name t.now
is_allowed (Signature t) = is_some (types_of t.now)

-- nothing, or a field that holds what it may
abbrev pub may_be : Option HeaderField → Bool
may_be None = true
may_be (Some field) = is_allowed field

abbrev pub are_allowed : List (Option HeaderField) → Bool
are_allowed fields = list_all may_be fields

-- the number of a field fits four bytes
abbrev pub Holds : HeaderField → Type 0
Holds (ReplySerial n) = n < 2 ^ 32
Holds _ = Unit {0}

abbrev pub HoldEach : List (Option HeaderField) → Type 0
HoldEach [] = Unit {0}
HoldEach (None ∷ more) = HoldEach more
HoldEach (Some field ∷ more) = Holds field × HoldEach more

-- the bytes of a field at a place, if there is one
abbrev pub bytes_at : ℕ → Option HeaderField → List ℕ
bytes_at place None = []
bytes_at place (Some field) = field_bytes Little place (field_of field)

-- where `len` bytes end that begin at a place, or that the fields would be too long
abbrev pub EndsWithin : Option ℕ → ℕ → ℕ → Type 0
EndsWithin (Some end) place len = (end ≡ place + len) × (end ≤ fixed_len + max_array_len)
EndsWithin None place len = fixed_len + max_array_len < place + len
