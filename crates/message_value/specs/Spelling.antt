-- The bytes of values (D-Bus Specification, "Marshaling").
use Rattle.std.specs.Prelude.{ℕ, ◌+◌, ◌-◌, ◌%◌, ◌||◌, List, [], ◌∷◌, ◌++◌, length, ◌==◌, if◌then◌else◌, replicate}
use Rattle.std.specs.Int.{Width, w8, w16, w32, w64}
use Rattle.signature.specs.DataType.{DataType, DataTypes, basic, variant, array, dict, struct, one_more, spelling}
use Rattle.signature.specs.Alignment.{alignment_of}
use Rattle.message_value.specs.declared.order.Order.{Order}
use Rattle.message_value.specs.Order.{number_bytes, word_bytes}
use Rattle.message_value.specs.Value.{Value, Values, Entries, number, text, elements, entries, members, of_type, no_values, one_value, no_entries, one_entry}

-- how many bytes lie before the next multiple
abbrev pub padding : ℕ → ℕ → ℕ
padding alignment place = (alignment - place % alignment) % alignment

-- the next multiple
abbrev pub align_up : ℕ → ℕ → ℕ
align_up alignment place = place + padding alignment place

abbrev pub zeros : ℕ → List ℕ
zeros n = replicate n 0

-- the width of a number's type: y; n q; x t d; b i u h
abbrev pub width_of : ℕ → Width
width_of code =
    if code == 121 then w8
    else if code == 110 || code == 113 then w16
    else if code == 120 || code == 116 || code == 100 then w64
    else w32

-- how many bytes a number of a type has
abbrev pub number_len : ℕ → ℕ
number_len code =
    if code == 121 then 1
    else if code == 110 || code == 113 then 2
    else if code == 120 || code == 116 || code == 100 then 8
    else 4

-- a text of type `g` with its length in one byte, and one of another type with its length in four; then a zero byte
abbrev pub text_bytes : Order → ℕ → List ℕ → List ℕ
text_bytes order code bytes =
    if code == 103 then length bytes ∷ (bytes ++ 0 ∷ [])
    else word_bytes order (length bytes) ++ (bytes ++ 0 ∷ [])

-- a variant's signature, as a text of type `g`
abbrev pub signature_bytes : DataType → List ℕ
signature_bytes type = length (spelling type) ∷ (spelling type ++ 0 ∷ [])

-- bytes that stand at the next multiple, with the zeros before them
abbrev pub with_padding : ℕ → ℕ → (ℕ → List ℕ) → List ℕ
with_padding alignment place bytes = zeros (padding alignment place) ++ bytes (align_up alignment place)

-- bytes, and those that follow where they end
abbrev pub bytes_then : ℕ → List ℕ → (ℕ → List ℕ) → List ℕ
bytes_then place first rest = first ++ rest (place + length first)

-- where the elements of an array stand whose length stands at a place
abbrev pub elements_place : ℕ → ℕ → ℕ
elements_place alignment place = align_up alignment (place + 4)

-- An array: the length of its elements, the zeros before the first, which aren't counted, and the elements.
abbrev pub array_bytes : Order → ℕ → ℕ → List ℕ → List ℕ
array_bytes order alignment place bytes =
    word_bytes order (length bytes) ++ (zeros (padding alignment (place + 4)) ++ bytes)

-- the alignment of a dict entry
abbrev pub entry_alignment : ℕ
entry_alignment = 8

-- The bytes of a value at a place of the message that its type's alignment divides.
abbrev mutual
  pub bare_bytes : Order → ℕ → DataType → Value → List ℕ
  bare_bytes order place (basic code) (number bits) = number_bytes order (width_of code) bits
  bare_bytes order place (basic code) (text bytes) = text_bytes order code bytes
  bare_bytes order place variant (of_type type value) =
      bytes_then place (signature_bytes type) (λ tail. with_padding (alignment_of type) tail (λ start. bare_bytes order start type value))
  bare_bytes order place (array t) (elements vs) =
      array_bytes order (alignment_of t) place (elements_bytes order (elements_place (alignment_of t) place) t vs)
  bare_bytes order place (dict k v) (entries es) =
      array_bytes order entry_alignment place (entries_bytes order (elements_place entry_alignment place) k v es)
  bare_bytes order place (struct t ts) (members vs) = members_bytes order place (one_more t ts) vs
  bare_bytes order place _ _ = []

  -- one element after the other
  pub elements_bytes : Order → ℕ → DataType → Values → List ℕ
  elements_bytes order place t no_values = []
  elements_bytes order place t (one_value v vs) =
      bytes_then place (with_padding (alignment_of t) place (λ start. bare_bytes order start t v)) (λ tail. elements_bytes order tail t vs)

  -- one entry after the other: its key, and its value
  pub entries_bytes : Order → ℕ → ℕ → DataType → Entries → List ℕ
  entries_bytes order place k v no_entries = []
  entries_bytes order place k v (one_entry key value es) =
      bytes_then place
      (with_padding entry_alignment place (λ start.
      bytes_then start (with_padding (alignment_of (basic k)) start (λ at. bare_bytes order at (basic k) key)) (λ tail.
      with_padding (alignment_of v) tail (λ at. bare_bytes order at v value))))
      (λ tail. entries_bytes order tail k v es)

  -- one member after the other
  pub members_bytes : Order → ℕ → DataTypes → Values → List ℕ
  members_bytes order place (one_more t ts) (one_value v vs) =
      bytes_then place (with_padding (alignment_of t) place (λ start. bare_bytes order start t v)) (λ tail. members_bytes order tail ts vs)
  members_bytes order place _ _ = []

-- a value with the zeros before it
abbrev pub value_bytes : Order → ℕ → DataType → Value → List ℕ
value_bytes order place type value = with_padding (alignment_of type) place (λ start. bare_bytes order start type value)

-- a dict entry with the zeros before it
abbrev pub entry_bytes : Order → ℕ → ℕ → DataType → Value → Value → List ℕ
entry_bytes order place k v key value =
    with_padding entry_alignment place (λ start. bytes_then start (value_bytes order start (basic k) key) (λ tail. value_bytes order tail v value))
