-- The types that a text spells, read from its end (own).
use Rattle.std.specs.Prelude.{ℕ, List, [], ◌∷◌, Option, Some, None, is_none, if◌then◌else◌}
use Rattle.signature.specs.declared.code.Code.{Code}
use Rattle.signature.specs.declared.code.Code.TheVariants as codes
use Rattle.signature.specs.Code.{code_of}
use Rattle.signature.specs.DataType.{DataType, DataTypes, basic, variant, array, dict, struct, no_types, one_more}
use Rattle.signature.specs.Reading.{fault_of}

-- What follows a place of a text: types, or the entry of an array and what follows it; after the types the text ends,
-- or the struct or the entry that they stand in.
mutual
  pub data Ahead : Type 0 where
    types_then : DataTypes → After → Ahead
    entry_then : (key : ℕ) (value : DataType) → Ahead → Ahead

  pub data After : Type 0 where
    text_end : After
    struct_end : Ahead → After
    entry_end : Ahead → After

-- one more type in front
abbrev pub with_type : DataType → Ahead → Option Ahead
with_type t (types_then ts past) = Some (types_then (one_more t ts) past)
with_type t (entry_then k v ahead) = None

-- an `a` in front
abbrev pub with_array : Ahead → Option Ahead
with_array (types_then (one_more t ts) past) = Some (types_then (one_more (array t) ts) past)
with_array (types_then no_types past) = None
with_array (entry_then k v ahead) = with_type (dict k v) ahead

-- a `(` in front
abbrev pub with_struct : Ahead → Option Ahead
with_struct (types_then (one_more t ts) (struct_end ahead)) = with_type (struct t ts) ahead
with_struct _ = None

-- a `{` in front
abbrev pub with_entry : Ahead → Option Ahead
with_entry (types_then (one_more (basic k) (one_more v no_types)) (entry_end ahead)) = Some (entry_then k v ahead)
with_entry _ = None

-- a byte of this code in front
abbrev pub with_code : Code → ℕ → Ahead → Option Ahead
with_code codes.Basic c ahead = with_type (basic c) ahead
with_code codes.Variant c ahead = with_type variant ahead
with_code codes.Array c ahead = with_array ahead
with_code codes.OpenStruct c ahead = with_struct ahead
with_code codes.CloseStruct c ahead = Some (types_then no_types (struct_end ahead))
with_code codes.OpenEntry c ahead = with_entry ahead
with_code codes.CloseEntry c ahead = Some (types_then no_types (entry_end ahead))
with_code codes.Unknown c ahead = None

abbrev pub and_then : Option Ahead → (Ahead → Option Ahead) → Option Ahead
and_then (Some ahead) f = f ahead
and_then None f = None

abbrev pub ahead_of : List ℕ → Option Ahead
ahead_of [] = Some (types_then no_types text_end)
ahead_of (c ∷ cs) = and_then (ahead_of cs) (with_code (code_of c) c)

abbrev pub whole : Option Ahead → Option DataTypes
whole (Some (types_then ts text_end)) = Some ts
whole _ = None

abbrev pub only_type : Option DataTypes → Option DataType
only_type (Some (one_more t no_types)) = Some t
only_type _ = None

-- the types of a text, where it is a signature
abbrev pub types_of : List ℕ → Option DataTypes
types_of text = if is_none (fault_of text) then whole (ahead_of text) else None

-- the type of a text, where it is a signature of one type
abbrev pub type_of : List ℕ → Option DataType
type_of text = only_type (types_of text)
