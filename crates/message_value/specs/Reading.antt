-- Reading values from left to right, with the first fault that is met (own; which bytes are values is in
-- Spelling.antt and Fits.antt).
use Rattle.std.specs.Prelude.{◌≡◌, ℕ, zero, suc, ◌+◌, not, List, [], ◌∷◌, length, take, drop, slice_index, Option, Some, None, Result, Ok, Err, nat_lt, ◌==◌, ◌&&◌, if◌then◌else◌}
use Rattle.std.specs.List.{list_all}
use Rattle.signature.specs.DataType.{DataType, DataTypes, basic, variant, array, dict, struct, no_types, one_more}
use Rattle.signature.specs.Alignment.{alignment_of}
use Rattle.signature.specs.Trees.{type_of}
use Rattle.message_value.specs.declared.order.Order.{Order}
use Rattle.message_value.specs.declared.error.MsgError.{MsgError}
use Rattle.message_value.specs.declared.error.MsgError.TheVariants as faults
use Rattle.message_value.specs.Order.{number_of, word_of}
use Rattle.message_value.specs.Value.{Value, Values, number, text, elements, entries, members, of_type, no_values, one_value, values_of, entries_of}
use Rattle.message_value.specs.Spelling.{padding, number_len, width_of, entry_alignment}
use Rattle.message_value.specs.Fits.{is_text_code, is_text_of, max_array_len}

infixl 10 ◌>>=◌
abbrev pub ◌>>=◌ : {A B : Type 0} → Result A MsgError → (A → Result B MsgError) → Result B MsgError
(Ok x) >>= f = f x
(Err fault) >>= f = Err fault

-- A place of the message, the bytes that follow there of the innermost array, or of the body where no array holds the
-- place, and the fault of an item that reaches past them.
pub record At : Type 0 where
  pub place : ℕ
  pub rest : List ℕ
  pub outside : MsgError

-- ---- items

-- an item of `len` bytes
unfoldable pub item_at : ℕ → At → Result (List ℕ × At) MsgError
item_at len at =
    if nat_lt (length at.rest) len then Err at.outside
    else Ok (take len at.rest, record { place = at.place + len; rest = drop len at.rest; outside = at.outside })

-- zeros up to a multiple
unfoldable pub aligned_at : ℕ → At → Result At MsgError
aligned_at alignment at = do
  skipped ← item_at (padding alignment at.place) at
  if list_all (λ byte. byte == 0) skipped.0 then Ok skipped.1 else Err faults.Padding

unfoldable pub byte_at : At → Result (ℕ × At) MsgError
byte_at at = do
  byte ← item_at 1 at
  Ok (slice_index byte.0 0, byte.1)

-- a number of four bytes
unfoldable pub word_at : Order → At → Result (ℕ × At) MsgError
word_at order at = do
  bytes ← item_at 4 at
  Ok (word_of order bytes.0, bytes.1)

-- ---- texts

-- the fault of a text of the wrong form
abbrev pub text_fault : ℕ → MsgError
text_fault code = if code == 111 then faults.BadName else if code == 103 then faults.BadSignature else faults.BadText

-- the text of an item: its form, and then its end
abbrev pub text_ended : ℕ → ℕ → List ℕ → At → Result (List ℕ × At) MsgError
text_ended code len bytes tail =
    if not (is_text_of code (take len bytes)) then Err (text_fault code)
    else if not (slice_index bytes len == 0) then Err faults.BadText
    else Ok (take len bytes, tail)

-- a text of `len` bytes with its zero byte, as one item
unfoldable pub text_at : ℕ → ℕ → At → Result (List ℕ × At) MsgError
text_at code len at = do
  bytes ← item_at (len + 1) at
  text_ended code len bytes.0 bytes.1

-- `s` and `o`, whose length is a number of four bytes
unfoldable pub long_text_at : Order → ℕ → At → Result (List ℕ × At) MsgError
long_text_at order code at = do
  len ← word_at order at
  text_at code len.0 len.1

-- `g`, whose length is a byte
unfoldable pub short_text_at : At → Result (List ℕ × At) MsgError
short_text_at at = do
  len ← byte_at at
  text_at 103 len.0 len.1

unfoldable pub text_value_at : Order → ℕ → At → Result (Value × At) MsgError
text_value_at order code at = do
  found ← if code == 103 then short_text_at at else long_text_at order code at
  Ok (text found.0, found.1)

-- the type of an item: one complete type, and then its end
abbrev pub value_typed : Option DataType → ℕ → At → Result (DataType × At) MsgError
value_typed None end tail = Err faults.BadSignature
value_typed (Some type) end tail = if end == 0 then Ok (type, tail) else Err faults.BadText

-- a variant's signature
unfoldable pub signature_at : At → Result (DataType × At) MsgError
signature_at at = do
  len ← byte_at at
  bytes ← item_at (len.0 + 1) len.1
  value_typed (type_of (take len.0 bytes.0)) (slice_index bytes.0 len.0) bytes.1

-- ---- numbers

-- the value of a number's bits; a boolean is 0 or 1
abbrev pub count_at : ℕ → ℕ → At → Result (Value × At) MsgError
count_at code bits tail = if code == 98 && nat_lt 1 bits then Err faults.BadBool else Ok (number bits, tail)

unfoldable pub number_value_at : Order → ℕ → At → Result (Value × At) MsgError
number_value_at order code at = do
  bytes ← item_at (number_len code) at
  count_at code (number_of order (width_of code) bytes.0) bytes.1

-- ---- arrays

-- the bytes of an array's elements, which begin at a place
abbrev pub inside : ℕ → List ℕ → At
inside place bytes = record { place = place; rest = bytes; outside = faults.ArrayLength }

abbrev pub within_limit : ℕ → At → Result At MsgError
within_limit len at = if nat_lt max_array_len len then Err faults.ArrayLength else Ok at

-- The elements of an array and what follows them: its length, the zeros before its elements, and its whole extent.
unfoldable pub extent_at : Order → ℕ → At → Result (At × At) MsgError
extent_at order alignment at = do
  len ← word_at order at
  tail ← within_limit len.0 len.1
  start ← aligned_at alignment tail
  bytes ← item_at len.0 start
  Ok (inside start.place bytes.0, bytes.1)

-- Items that are read one after the other, up to the end. Each has at least a byte, so that as many turns as there are
-- bytes are enough.
abbrev pub each_at : {X : Type 0} → (At → Result (X × At) MsgError) → ℕ → At → Result (List X) MsgError
each_at reader zero at = Ok []
each_at reader (suc turns) at =
    if length at.rest == 0 then Ok []
    else (reader at >>= λ first. each_at reader turns first.1 >>= λ more. Ok (first.0 ∷ more))

-- ---- values

-- what reads a value of a type
abbrev pub Reader : Type 0
Reader = DataType → At → Result (Value × At) MsgError

-- one member after the other
abbrev pub members_at : Reader → DataTypes → At → Result (Values × At) MsgError
members_at reader no_types at = Ok (no_values, at)
members_at reader (one_more t ts) at = do
  value ← reader t at
  more ← members_at reader ts value.1
  Ok (one_value value.0 more.0, more.1)

-- an entry of a dict
unfoldable pub entry_at : Reader → ℕ → DataType → At → Result ((Value × Value) × At) MsgError
entry_at reader k v at = do
  start ← aligned_at entry_alignment at
  key ← reader (basic k) start
  value ← reader v key.1
  Ok ((key.0, value.0), value.1)

unfoldable pub variant_at : Reader → At → Result (Value × At) MsgError
variant_at reader at = do
  type ← signature_at at
  value ← reader type.0 type.1
  Ok (of_type type.0 value.0, value.1)

unfoldable pub array_at : Reader → Order → DataType → At → Result (Value × At) MsgError
array_at reader order t at = do
  extent ← extent_at order (alignment_of t) at
  found ← each_at (reader t) (length extent.0.rest) extent.0
  Ok (elements (values_of found), extent.1)

unfoldable pub dict_at : Reader → Order → ℕ → DataType → At → Result (Value × At) MsgError
dict_at reader order k v at = do
  extent ← extent_at order entry_alignment at
  found ← each_at (entry_at reader k v) (length extent.0.rest) extent.0
  Ok (entries (entries_of found), extent.1)

unfoldable pub struct_at : Reader → DataType → DataTypes → At → Result (Value × At) MsgError
struct_at reader t ts at = do
  found ← members_at reader (one_more t ts) at
  Ok (members found.0, found.1)

-- A value after its padding. What reads the values inside it, one level deeper, is the fault Depth where no level is
-- left.
abbrev pub bare_at : Result Reader MsgError → Order → DataType → At → Result (Value × At) MsgError
bare_at deeper order (basic code) at = if is_text_code code then text_value_at order code at else number_value_at order code at
bare_at deeper order variant at = deeper >>= λ reader. variant_at reader at
bare_at deeper order (array t) at = deeper >>= λ reader. array_at reader order t at
bare_at deeper order (dict k v) at = deeper >>= λ reader. dict_at reader order k v at
bare_at deeper order (struct t ts) at = deeper >>= λ reader. struct_at reader t ts at

unfoldable pub value_by : Result Reader MsgError → Order → DataType → At → Result (Value × At) MsgError
value_by deeper order type at = aligned_at (alignment_of type) at >>= λ start. bare_at deeper order type start

-- a value of a type where this number of levels is left
abbrev pub value_at : ℕ → Order → DataType → At → Result (Value × At) MsgError
value_at zero order type at = value_by (Err faults.Depth) order type at
value_at (suc levels) order type at = value_by (Ok (value_at levels order)) order type at

-- reading gives something
abbrev pub IsRead : {Y : Type 0} → Result (Y × At) MsgError → Type 0
IsRead read = (found : _) × (read ≡ Ok found)
