-- The bytes of filter expressions, and texts in quotes (own).
use Rattle.std.specs.Prelude.{ℕ, ◌+◌, Bool, true, false, List, [], ◌∷◌, Option, Some, None, ◌||◌, ◌==◌, if◌then◌else◌}
use Rattle.signature.specs.Name.{is_digit, is_letter}

-- space, tab, CR, LF
abbrev pub is_blank : ℕ → Bool
is_blank b = b == 32 || b == 9 || b == 13 || b == 10

-- a letter, a digit, or one of _ . / : -
abbrev pub is_word_byte : ℕ → Bool
is_word_byte b = is_letter b || is_digit b || b == 46 || b == 47 || b == 58 || b == 45

abbrev pub is_quote : ℕ → Bool
is_quote b = b == 39 || b == 34

abbrev pub backslash : ℕ
backslash = 92

-- what a backslash in quotes may stand before
abbrev pub is_escaped : ℕ → Bool
is_escaped b = b == backslash || is_quote b

-- How many bytes stand before the quote that closes a text, beside those that were counted. A byte after a backslash closes
-- nothing.
abbrev pub quoted_len : ℕ → Bool → ℕ → List ℕ → Option ℕ
quoted_len quote after_backslash counted [] = None
quoted_len quote true counted (b ∷ bs) = quoted_len quote false (counted + 1) bs
quoted_len quote false counted (b ∷ bs) = if b == quote then Some counted else quoted_len quote (b == backslash) (counted + 1) bs

-- The first backslash that doesn't stand before one of the three, in bytes from a place on. Where the byte in front is a
-- backslash that counts, its place is known.
abbrev pub bad_escape : Option ℕ → ℕ → List ℕ → Option ℕ
bad_escape pending place [] = None
bad_escape (Some backslash_place) place (b ∷ bs) = if is_escaped b then bad_escape None (place + 1) bs else Some backslash_place
bad_escape None place (b ∷ bs) = bad_escape (if b == backslash then Some place else None) (place + 1) bs

-- the text that bytes in quotes spell: a byte after a backslash stands for itself
abbrev pub without_escapes : Bool → List ℕ → List ℕ
without_escapes after_backslash [] = []
without_escapes true (b ∷ bs) = b ∷ without_escapes false bs
without_escapes false (b ∷ bs) = if b == backslash then without_escapes true bs else b ∷ without_escapes false bs
