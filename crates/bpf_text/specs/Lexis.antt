-- Tokens of the assembler's text: words, numbers and single characters, with blanks between them (own, in the manner
-- of Linux's `bpf_asm`).
use Rattle.std.specs.Prelude.{ℕ, ◌^◌, Bool, true, false, ◌&&◌, ◌||◌, not, List, length, drop, Option, Some, None, if◌then◌else◌, ◌==◌, nat_lt, option_and_then, slice_index}
use Rattle.std.specs.Int.{is_in_range}
use Rattle.std.specs.Char.{digit_value}
use Rattle.std.specs.Str.Parse.{digits_value}
use Rattle.std.specs.List.{prefix_len, take_while, list_all}

infixl 10 ◌>>=◌
abbrev pub ◌>>=◌ : {A B : Type 0} → Option A → (A → Option B) → Option B
o >>= f = option_and_then f o

-- space, tab and CR
abbrev pub is_blank : ℕ → Bool
is_blank b = b == 32 || b == 9 || b == 13

abbrev pub is_digit : ℕ → Bool
is_digit b = is_in_range 48 57 b

-- letters, digits and _
abbrev pub is_name_byte : ℕ → Bool
is_name_byte b = is_digit b || is_in_range 65 90 b || is_in_range 97 122 b || b == 95

-- the bytes without the blanks in front
unfoldable pub unblanked : List ℕ → List ℕ
unblanked bytes = drop (prefix_len is_blank bytes) bytes

-- the letters, digits and _ in front of bytes, and the bytes after them
unfoldable pub run_of : List ℕ → List ℕ
run_of bytes = take_while is_name_byte bytes

unfoldable pub after_run : List ℕ → List ℕ
after_run bytes = drop (prefix_len is_name_byte bytes) bytes

-- the number that digits of a base write, if it fits 32 bits
unfoldable pub number_in : ℕ → List ℕ → Option ℕ
number_in base digits =
    if not (length digits == 0) && list_all (λ d. nat_lt (digit_value d) base) digits && nat_lt (digits_value base digits) (2 ^ 32)
    then Some (digits_value base digits) else None

-- a number is decimal, or 0x with hexadecimal digits
abbrev pub number_of : List ℕ → Option ℕ
number_of run =
    if slice_index run 0 == 48 && slice_index run 1 == 120 then number_in 16 (drop 2 run) else number_in 10 run

-- The token that bytes begin with, after blanks, and the bytes after it. A word begins with a letter or _, a number
-- with a digit, and both go on as long as letters, digits and _ do.
unfoldable pub word_at : List ℕ → Option (List ℕ × List ℕ)
word_at bytes =
    if length (run_of (unblanked bytes)) == 0 || is_digit (slice_index (unblanked bytes) 0) then None
    else Some (run_of (unblanked bytes), after_run (unblanked bytes))

unfoldable pub number_at : List ℕ → Option (ℕ × List ℕ)
number_at bytes = do
  number ← number_of (run_of (unblanked bytes))
  Some (number, after_run (unblanked bytes))

unfoldable pub sign_at : ℕ → List ℕ → Option (List ℕ)
sign_at sign bytes =
    if not (length (unblanked bytes) == 0) && slice_index (unblanked bytes) 0 == sign then Some (drop 1 (unblanked bytes)) else None

-- nothing but blanks, and a comment from ; on, which is ASCII
unfoldable pub is_over : List ℕ → Bool
is_over bytes =
    if length (unblanked bytes) == 0 then true
    else (slice_index (unblanked bytes) 0 == 59 && list_all (λ b. nat_lt b 128) (unblanked bytes))

-- a blank stands first
abbrev pub begins_blank : List ℕ → Bool
begins_blank bytes = if length bytes == 0 then false else is_blank (slice_index bytes 0)
