-- Addresses and their texts (D-Bus Specification, "Server Addresses").
use Rattle.std.specs.Prelude.{◌≡◌, ◌==◌, ◌<◌, ◌||◌, ◌++◌, ◌∷◌, ◌^◌, Bool, true, false, ℕ, List, [], length, codes}
use Rattle.std.specs.List.{list_any}
use Rattle.std.specs.Fmt.{decimal}
use Rattle.std.specs.Str.Parse.{IsNumeral, digits_value}
use Rattle.endpoints.specs.declared.address.Address.{Address}
use Rattle.endpoints.specs.declared.address.Address.TheVariants.{Tcp, Unix, Abstract, Folder, Runtime}
use Rattle.percent_encoding.specs.Percent.{percent_decode}
use Rattle.endpoints.specs.Escapes.{has_whole_escapes}

-- where a bus listens: a host and a port, a path, a name that stands in no folder, a socket of a new name in a folder, or the
-- socket `bus` in the user's folder of sockets
pub data Place : Type 0 where
  at_port : (host : List ℕ) (port : ℕ) → Place
  at_path : (path : List ℕ) → Place
  at_name : (name : List ℕ) → Place
  in_folder : (path : List ℕ) → Place
  in_runtime : Place

-- an address of the code as a place
abbrev pub place_of : Address → Place
place_of (Tcp host port) = at_port (percent_decode host.now) port
place_of (Unix path) = at_path (percent_decode path.now)
place_of (Abstract name) = at_name (percent_decode name.now)
place_of (Folder path) = in_folder (percent_decode path.now)
place_of Runtime = in_runtime

-- the value that says where it is, as it is spelled
abbrev pub value_text : Address → List ℕ
value_text (Tcp host port) = host.now
value_text (Unix path) = path.now
value_text (Abstract name) = name.now
value_text (Folder path) = path.now
value_text Runtime = []

-- `,`
abbrev pub comma : ℕ
comma = 44

-- `,` and `;` end a value, and `%` escapes a byte
abbrev pub is_special : ℕ → Bool
is_special byte = (byte == comma) || (byte == 59) || (byte == 37)

-- a value that stands for itself
abbrev pub IsPlain : List ℕ → Type 0
IsPlain value = (0 < length value) × (list_any is_special value ≡ false)

-- `,` and `;` end a value
abbrev pub ends_value : ℕ → Bool
ends_value byte = (byte == comma) || (byte == 59)

-- a value as it is spelled: some bytes up to its end, where two hexadecimal digits come after each `%`
abbrev pub IsValue : List ℕ → Type 0
IsValue value = (0 < length value) × (list_any ends_value value ≡ false) × (has_whole_escapes value ≡ true)

-- decimal digits that stand for a port
abbrev pub IsPort : List ℕ → ℕ → Type 0
IsPort digits port = IsNumeral 10 digits × (digits_value 10 digits < 2 ^ 16) × (port ≡ digits_value 10 digits)

-- `tcp:host=`
abbrev pub tcp_key : List ℕ
tcp_key = codes "tcp:host="

-- `port=`, which stands after the comma
abbrev pub port_key : List ℕ
port_key = codes "port="

-- `tcp:port=`
abbrev pub tcp_port_key : List ℕ
tcp_port_key = codes "tcp:port="

-- `host=`, which stands after the comma
abbrev pub host_key : List ℕ
host_key = codes "host="

-- `unix:path=`
abbrev pub unix_key : List ℕ
unix_key = codes "unix:path="

-- `unix:abstract=`
abbrev pub abstract_key : List ℕ
abstract_key = codes "unix:abstract="

-- `unix:dir=`
abbrev pub folder_key : List ℕ
folder_key = codes "unix:dir="

-- `unix:tmpdir=`, which means the same here
abbrev pub temporary_key : List ℕ
temporary_key = codes "unix:tmpdir="

-- `unix:runtime=yes`
abbrev pub runtime_text : List ℕ
runtime_text = codes "unix:runtime=yes"

-- the texts of a place
pub data Spells : Place → List ℕ → Type 0 where
  over_tcp : {host : List ℕ} {port : ℕ} (digits : List ℕ) → IsPlain host → IsPort digits port → Spells (at_port host port) (tcp_key ++ (host ++ comma ∷ (port_key ++ digits)))
  over_unix : {path : List ℕ} → IsPlain path → Spells (at_path path) (unix_key ++ path)
  over_tcp_escaped : {port : ℕ} (host digits : List ℕ) → IsValue host → IsPort digits port → Spells (at_port (percent_decode host) port) (tcp_key ++ (host ++ comma ∷ (port_key ++ digits)))
  over_tcp_turned : {port : ℕ} (host digits : List ℕ) → IsValue host → IsPort digits port → Spells (at_port (percent_decode host) port) (tcp_port_key ++ (digits ++ comma ∷ (host_key ++ host)))
  over_unix_escaped : (path : List ℕ) → IsValue path → Spells (at_path (percent_decode path)) (unix_key ++ path)
  over_name : (name : List ℕ) → IsValue name → Spells (at_name (percent_decode name)) (abstract_key ++ name)
  over_folder : (path : List ℕ) → IsValue path → Spells (in_folder (percent_decode path)) (folder_key ++ path)
  over_temporary : (path : List ℕ) → IsValue path → Spells (in_folder (percent_decode path)) (temporary_key ++ path)
  over_runtime : Spells in_runtime runtime_text

-- the text of an address, with the port in decimal digits
abbrev pub address_text : Address → List ℕ
address_text (Tcp host port) = tcp_key ++ host.now ++ codes ",port=" ++ decimal port
address_text (Unix path) = unix_key ++ path.now
address_text (Abstract name) = abstract_key ++ name.now
address_text (Folder path) = folder_key ++ path.now
address_text Runtime = runtime_text
