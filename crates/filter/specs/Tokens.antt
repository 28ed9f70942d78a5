-- The tokens of filter expressions, each as long as it can be, with blanks between them (own).
use Rattle.std.specs.Prelude.{ℕ, zero, suc, ◌+◌, Bool, false, List, [], ◌∷◌, length, take, Option, Some, None, Result, Ok, Err, codes, ◌==◌, if◌then◌else◌}
use Rattle.std.specs.List.{prefix_len}
use Rattle.filter.specs.declared.error.Fault.{Fault}
use Rattle.filter.specs.declared.error.Fault.TheVariants.{BadByte, Unquoted, BadEscape}
use Rattle.filter.specs.declared.error.FaultAt.{FaultAt}
use Rattle.filter.specs.declared.token.Sign.{Sign}
use Rattle.filter.specs.declared.token.Sign.TheVariants.{Opens, Closes, Equal, Unequal, Less, AtMost, Greater, AtLeast, Ampersand}
use Rattle.filter.specs.declared.token.Token.{Token as Lent}
use Rattle.filter.specs.declared.token.Token.TheVariants as lent
use Rattle.filter.specs.Lexis.{is_blank, is_word_byte, is_quote, quoted_len, bad_escape}

-- a token; a text in quotes is the bytes between them, with their backslashes
pub data Lexeme : Type 0 where
  word : (bytes : List ℕ) → Lexeme
  quoted : (inside : List ℕ) → Lexeme
  sign : (sign : Sign) → Lexeme

-- a token without where its bytes lie in memory
abbrev pub lexeme_of : Lent → Lexeme
lexeme_of (lent.Word bytes) = word bytes.now
lexeme_of (lent.Quoted inside) = quoted inside.now
lexeme_of (lent.Sign s) = sign s

abbrev pub fault_at : Fault → ℕ → FaultAt
fault_at fault place = record { fault = fault; place = place }

abbrev pub begins_with : ℕ → List ℕ → Bool
begins_with byte [] = false
begins_with byte (b ∷ bs) = b == byte

-- one of two tokens: of two bytes where the second is this one, else of one byte
abbrev pub one_or_two : ℕ → Lexeme → Lexeme → List ℕ → Option (Lexeme × ℕ)
one_or_two second two one rest = if begins_with second rest then Some (two, 1) else Some (one, 0)

-- the sign that a byte begins, also one that stands for a word, and how many bytes it has after the first
abbrev pub sign_at : ℕ → List ℕ → Option (Lexeme × ℕ)
sign_at b rest =
    if b == 40 then Some (sign Opens, 0)
    else if b == 41 then Some (sign Closes, 0)
    else if b == 61 then one_or_two 61 (sign Equal) (sign Equal) rest
    else if b == 33 then one_or_two 61 (sign Unequal) (word (codes "not")) rest
    else if b == 60 then one_or_two 61 (sign AtMost) (sign Less) rest
    else if b == 62 then one_or_two 61 (sign AtLeast) (sign Greater) rest
    else if b == 38 then one_or_two 38 (word (codes "and")) (sign Ampersand) rest
    else if b == 124 then (if begins_with 124 rest then Some (word (codes "or"), 1) else None)
    else None

-- a text in quotes whose backslashes were looked at
abbrev pub with_escapes : List ℕ → Option ℕ → Result (Lexeme × ℕ) FaultAt
with_escapes inside (Some place) = Err (fault_at BadEscape place)
with_escapes inside None = Ok (quoted inside, suc (length inside))

-- the text in quotes of which n bytes stand before the quote that closes it
abbrev pub closed_at : ℕ → List ℕ → Option ℕ → Result (Lexeme × ℕ) FaultAt
closed_at place rest None = Err (fault_at Unquoted place)
closed_at place rest (Some n) = with_escapes (take n rest) (bad_escape None (place + 1) (take n rest))

abbrev pub or_bad_byte : ℕ → Option (Lexeme × ℕ) → Result (Lexeme × ℕ) FaultAt
or_bad_byte place None = Err (fault_at BadByte place)
or_bad_byte place (Some token) = Ok token

-- the token that begins with a byte at a place, and how many bytes it has after that one
abbrev pub token_at : ℕ → ℕ → List ℕ → Result (Lexeme × ℕ) FaultAt
token_at place b rest =
    if is_word_byte b then Ok (word (b ∷ take (prefix_len is_word_byte rest) rest), prefix_len is_word_byte rest)
    else if is_quote b then closed_at place rest (quoted_len b false 0 rest)
    else or_bad_byte place (sign_at b rest)

-- a token and its place, or the fault that ends the tokens
pub data Item : Type 0 where
  token : (place : ℕ) (lexeme : Lexeme) → Item
  bad : (fault : FaultAt) → Item

abbrev pub item_then : ℕ → Result (Lexeme × ℕ) FaultAt → (ℕ → List Item) → List Item
item_then place (Ok found) rest = token place found.0 ∷ rest found.1
item_then place (Err fault) rest = bad fault ∷ []

-- the tokens of bytes that begin at a place; n of them belong to the token in front
abbrev pub items_from : ℕ → ℕ → List ℕ → List Item
items_from more place [] = []
items_from (suc more) place (b ∷ bs) = items_from more (place + 1) bs
items_from zero place (b ∷ bs) =
    if is_blank b then items_from 0 (place + 1) bs
    else item_then place (token_at place b bs) (λ more. items_from more (place + 1) bs)
