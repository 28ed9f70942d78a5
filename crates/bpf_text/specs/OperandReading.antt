-- Inner: the operands of an instruction, read from left to right.
use Rattle.std.specs.Prelude.{ℕ, ◌==◌, Bool, true, List, Option, Some, None, if◌then◌else◌, codes}
use Rattle.std.specs.Str.{bytes_eq}
use Rattle.bpf_text.specs.Lexis.{◌>>=◌, word_at, number_at, sign_at, is_over}
use Rattle.bpf_text.specs.Operands.{Targets, One, Both, Operands, Absent, Number, Length, Place, Indexed, Scratch, Header, Name, NumberTo, NameTo}

abbrev pub last_target : List ℕ → List ℕ → Option (List ℕ) → Option (Targets × List ℕ)
last_target first rest None = Some (One first, rest)
last_target first rest (Some after) = do
  second ← word_at after
  Some (Both first second.0, second.1)

-- one target or two
unfoldable pub targets_at : List ℕ → Option (Targets × List ℕ)
targets_at bytes = do
  first ← word_at bytes
  last_target first.0 first.1 (sign_at 44 first.1)

abbrev pub number_to : ℕ → List ℕ → Option (List ℕ) → Option (Operands × List ℕ)
number_to k rest None = Some (Number k, rest)
number_to k rest (Some after) = do
  targets ← targets_at after
  Some (NumberTo k targets.0, targets.1)

-- the word `len`
abbrev pub length_at : List ℕ → Option (Operands × List ℕ)
length_at bytes = do
  word ← word_at bytes
  if bytes_eq word.0 (codes "len") then Some (Length, word.1) else None

abbrev pub constant_by : List ℕ → Option (ℕ × List ℕ) → Option (Operands × List ℕ)
constant_by bytes None = length_at bytes
constant_by bytes (Some k) = number_to k.0 k.1 (sign_at 44 k.1)

-- the operands that begin with a #
unfoldable pub constant_at : List ℕ → Option (Operands × List ℕ)
constant_at bytes = constant_by bytes (number_at bytes)

-- x + k ]
unfoldable pub indexed_at : List ℕ → Option (Operands × List ℕ)
indexed_at bytes = do
  word ← word_at bytes
  plus ← sign_at 43 word.1
  k ← number_at plus
  rest ← sign_at 93 k.1
  if bytes_eq word.0 (codes "x") then Some (Indexed k.0, rest) else None

abbrev pub place_by : List ℕ → Option (ℕ × List ℕ) → Option (Operands × List ℕ)
place_by bytes None = indexed_at bytes
place_by bytes (Some k) = do
  rest ← sign_at 93 k.1
  Some (Place k.0, rest)

-- the operands that begin with a [
unfoldable pub place_at : List ℕ → Option (Operands × List ℕ)
place_at bytes = place_by bytes (number_at bytes)

-- [ k ]
unfoldable pub bracketed_at : List ℕ → Option (ℕ × List ℕ)
bracketed_at bytes = do
  open_bracket ← sign_at 91 bytes
  k ← number_at open_bracket
  rest ← sign_at 93 k.1
  Some (k.0, rest)

-- the operand 4 * ( [ k ] & 15 ), from after its 4 on
unfoldable pub header_at : List ℕ → Option (Operands × List ℕ)
header_at bytes = do
  star ← sign_at 42 bytes
  inside ← sign_at 40 star
  k ← bracketed_at inside
  ampersand ← sign_at 38 k.1
  mask ← number_at ampersand
  rest ← sign_at 41 mask.1
  if mask.0 == 15 then Some (Header k.0, rest) else None

abbrev pub name_to : List ℕ → List ℕ → Option (List ℕ) → Option (Operands × List ℕ)
name_to name rest None = Some (Name name, rest)
name_to name rest (Some after) = do
  targets ← targets_at after
  Some (NameTo name targets.0, targets.1)

abbrev pub scratch_or_name : List ℕ → List ℕ → Bool → Option (ℕ × List ℕ) → Option (Operands × List ℕ)
scratch_or_name name rest true (Some k) = Some (Scratch k.0, k.1)
scratch_or_name name rest _ _ = name_to name rest (sign_at 44 rest)

-- M and a bracketed number, or a name
unfoldable pub named_at : List ℕ → List ℕ → Option (Operands × List ℕ)
named_at name rest = scratch_or_name name rest (bytes_eq name (codes "M")) (bracketed_at rest)

abbrev pub by_word : Option (List ℕ × List ℕ) → Option (Operands × List ℕ)
by_word None = None
by_word (Some name) = named_at name.0 name.1

abbrev pub by_number : List ℕ → Option (ℕ × List ℕ) → Option (Operands × List ℕ)
by_number bytes None = by_word (word_at bytes)
by_number bytes (Some four) = if four.0 == 4 then header_at four.1 else None

abbrev pub by_bracket : List ℕ → Option (List ℕ) → Option (Operands × List ℕ)
by_bracket bytes None = by_number bytes (number_at bytes)
by_bracket bytes (Some rest) = place_at rest

abbrev pub by_sharp : List ℕ → Option (List ℕ) → Option (Operands × List ℕ)
by_sharp bytes None = by_bracket bytes (sign_at 91 bytes)
by_sharp bytes (Some rest) = constant_at rest

-- operands, and the bytes after them
unfoldable pub operands_at : List ℕ → Option (Operands × List ℕ)
operands_at bytes = by_sharp bytes (sign_at 35 bytes)

-- the operands that are all of the bytes but a comment
unfoldable pub operands_of : List ℕ → Option Operands
operands_of bytes =
    if is_over bytes then Some Absent else (do
      operands ← operands_at bytes
      if is_over operands.1 then Some operands.0 else None)
