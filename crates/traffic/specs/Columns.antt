-- Columns of tables, and times as texts (own).
use Rattle.std.specs.Prelude.{ℕ, ◌+◌, ◌-◌, ◌/◌, ◌%◌, nat_lt, List, [], ◌∷◌, ◌++◌, length, replicate, codes, decimal, if◌then◌else◌}

-- a number of thousandths
abbrev pub thousandths : ℕ → List ℕ
thousandths n = decimal (n / 1000) ++ codes "." ++ (48 + n / 100 % 10) ∷ (48 + n / 10 % 10) ∷ (48 + n % 10) ∷ []

-- microseconds as milliseconds, and from a second on as seconds
abbrev pub microseconds_text : ℕ → List ℕ
microseconds_text n = if nat_lt n 1000000 then thousandths n ++ codes " ms" else thousandths (n / 1000) ++ codes " s"

-- a time in nanoseconds
abbrev pub time_text : ℕ → List ℕ
time_text time = microseconds_text (time / 1000)

-- a word at the right of a column of this width
abbrev pub right : ℕ → List ℕ → List ℕ
right width word = replicate (width - length word) 32 ++ word

-- the name of a row, and the end of its line
abbrev pub named_end : List ℕ → List ℕ
named_end name = codes "  " ++ name ++ codes "\n"
