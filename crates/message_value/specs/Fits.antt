-- Values that have a type (D-Bus Specification, "Marshaling", "Valid Signatures").
use Rattle.std.specs.Prelude.{◌≡◌, ℕ, suc, ◌+◌, ◌*◌, ◌^◌, ◌<◌, ◌≤◌, ◌||◌, Bool, true, false, not, ◌&&◌, List, length, is_some, ◌==◌, if◌then◌else◌}
use Rattle.std.specs.List.{list_any}
use Rattle.std.specs.Str.{is_utf8}
use Rattle.signature.specs.DataType.{DataType, DataTypes, basic, variant, array, dict, struct, no_types, one_more, spelling, TypeText}
use Rattle.signature.specs.Trees.{types_of}
use Rattle.signature.specs.Name.{is_path}
use Rattle.signature.specs.Alignment.{alignment_of}
use Rattle.message_value.specs.declared.order.Order.{Order}
use Rattle.message_value.specs.Value.{Value, Values, Entries, number, text, elements, entries, members, of_type, no_values, one_value, no_entries, one_entry}
use Rattle.message_value.specs.Spelling.{align_up, number_len, signature_bytes, elements_place, entry_alignment, elements_bytes, entries_bytes, value_bytes, entry_bytes}

-- s o g
abbrev pub is_text_code : ℕ → Bool
is_text_code code = code == 115 || code == 111 || code == 103

-- `s`: UTF-8 without a zero; `o`: an object path; `g`: a signature
abbrev pub is_text_of : ℕ → List ℕ → Bool
is_text_of code bytes =
    if code == 115 then is_utf8 bytes && not (list_any (λ byte. byte == 0) bytes)
    else if code == 111 then is_path bytes
    else if code == 103 then is_some (types_of bytes)
    else false

-- what a number is below: a boolean is 0 or 1
abbrev pub limit_of : ℕ → ℕ
limit_of code = if code == 98 then 2 else 2 ^ (8 * number_len code)

abbrev pub max_array_len : ℕ
max_array_len = 67108864

-- the deepest nesting of values
abbrev pub max_levels : ℕ
max_levels = 64

-- a variant's type
abbrev pub IsOneType : DataType → Type 0
IsOneType type = TypeText type (spelling type) × (length (spelling type) ≤ 255)

-- A value of a type at a place that the type's alignment divides, where `levels` levels are left: an array, a struct
-- and a variant take one, an entry of a dict takes none.
abbrev mutual
  pub BareFits : Order → ℕ → ℕ → DataType → Value → Type 0
  BareFits order levels place (basic code) (number bits) = (is_text_code code ≡ false) × (bits < limit_of code)
  BareFits order levels place (basic code) (text bytes) = (is_text_of code bytes ≡ true) × (length bytes < 2 ^ 32)
  BareFits order (suc levels) place variant (of_type type value) =
      IsOneType type × BareFits order levels (align_up (alignment_of type) (place + length (signature_bytes type))) type value
  BareFits order (suc levels) place (array t) (elements vs) =
      (length (elements_bytes order (elements_place (alignment_of t) place) t vs) ≤ max_array_len)
      × ElementsFit order levels (elements_place (alignment_of t) place) t vs
  BareFits order (suc levels) place (dict k v) (entries es) =
      (length (entries_bytes order (elements_place entry_alignment place) k v es) ≤ max_array_len)
      × EntriesFit order levels (elements_place entry_alignment place) k v es
  BareFits order (suc levels) place (struct t ts) (members vs) = MembersFit order levels place (one_more t ts) vs
  BareFits order levels place _ _ = ⊥

  pub ElementsFit : Order → ℕ → ℕ → DataType → Values → Type 0
  ElementsFit order levels place t no_values = Unit {0}
  ElementsFit order levels place t (one_value v vs) =
      BareFits order levels (align_up (alignment_of t) place) t v
      × ElementsFit order levels (place + length (value_bytes order place t v)) t vs

  pub EntriesFit : Order → ℕ → ℕ → ℕ → DataType → Entries → Type 0
  EntriesFit order levels place k v no_entries = Unit {0}
  EntriesFit order levels place k v (one_entry key value es) =
      let start = align_up entry_alignment place in
      BareFits order levels (align_up (alignment_of (basic k)) start) (basic k) key
      × BareFits order levels (align_up (alignment_of v) (start + length (value_bytes order start (basic k) key))) v value
      × EntriesFit order levels (place + length (entry_bytes order place k v key value)) k v es

  pub MembersFit : Order → ℕ → ℕ → DataTypes → Values → Type 0
  MembersFit order levels place no_types no_values = Unit {0}
  MembersFit order levels place (one_more t ts) (one_value v vs) =
      BareFits order levels (align_up (alignment_of t) place) t v
      × MembersFit order levels (place + length (value_bytes order place t v)) ts vs
  MembersFit order levels place _ _ = ⊥

-- a value of a type at any place
abbrev pub ValueFits : Order → ℕ → ℕ → DataType → Value → Type 0
ValueFits order levels place type value = BareFits order levels (align_up (alignment_of type) place) type value
