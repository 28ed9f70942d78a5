-- What is counted of calls, for each method, and the table of it (own).
use Rattle.std.specs.Prelude.{◌≡◌, ◌-◌, ◌/◌, ◌==◌, ◌||◌, ℕ, Bool, nat_lt, List, ◌++◌, length, Option, Some, is_some, codes, decimal, String, string_bytes, if◌then◌else◌}
use Rattle.std.specs.List.{flat_map}
use Rattle.std.specs.List.Sorted.{IsPermutation, IsSorted}
use Rattle.std.specs.Map.{keys_of, lookup}
use Rattle.std.specs.Option.{unwrap_or}
use Rattle.std.specs.Str.{bytes_eq}
use Rattle.std.specs.String.{string_cmp}
use Rattle.std.proofs.Common.{Global}
use Rattle.traffic.specs.Columns.{right, time_text, named_end}
use Rattle.traffic.specs.Times.{TimesInClasses, at_rank}
use Rattle.traffic.specs.Methods.{no_calls, Counts}
use Rattle.traffic.specs.declared.methods.Outcome.{Outcome}
use Rattle.traffic.specs.declared.methods.MethodCounts.{MethodCounts}

-- methods, each with what is counted of it
abbrev pub MethodRows : Type 0
MethodRows = List (String Global × MethodCounts)

abbrev pub is_name : List ℕ → String Global → Bool
is_name name key = bytes_eq name (string_bytes key)

-- the row of a name
abbrev pub row_of : MethodRows → List ℕ → Option MethodCounts
row_of rows name = lookup (is_name name) rows

-- calls are counted by their method, but together where there is no row for it and no room for one more
abbrev pub counted_as : MethodRows → List ℕ → List ℕ
counted_as rows name = if is_some (row_of rows name) || nat_lt (length rows) 4096 then name else codes "(further methods)"

-- a call is counted in the row of a name, which begins with no calls, and in no other
pub record TakesCall (name : List ℕ) (outcome : Outcome) (before after : MethodRows) : Type 0 where
  pub row : MethodCounts
  pub counts : Counts outcome (unwrap_or (row_of before name) no_calls) row
  pub rows : (other : List ℕ) → row_of after other ≡ (if bytes_eq name other then Some row else row_of before other)

-- the same rows, in the order of their names
pub record IsInOrder (before after : MethodRows) : Type 0 where
  pub sorted : IsSorted string_cmp (keys_of after)
  pub same : IsPermutation before after

-- one of some times, or none
abbrev pub time_column : TimesInClasses → ℕ → List ℕ
time_column times time = if times.total == 0 then right 12 (codes "-") else right 12 (time_text time)

abbrev pub time_columns : TimesInClasses → List ℕ
time_columns times =
    time_column times (at_rank (times.total - times.total / 2) times.classes)
    ++ time_column times (at_rank (times.total - times.total / 100) times.classes)
    ++ time_column times (at_rank times.total times.classes)

abbrev pub count_columns : MethodCounts → List ℕ
count_columns row = right 7 (decimal row.calls) ++ right 7 (decimal row.errors) ++ right 11 (decimal row.unanswered)

-- the line of a method
abbrev pub method_line : List ℕ → MethodCounts → List ℕ
method_line name row = count_columns row ++ time_columns row.times ++ named_end name

-- a line for each method
abbrev pub method_lines : MethodRows → List ℕ
method_lines rows = flat_map (λ (row : String Global × MethodCounts). method_line (string_bytes row.0) row.1) rows

-- and before them the heads of the columns
abbrev pub method_report : MethodRows → List ℕ
method_report rows = codes "  calls errors unanswered      median        99th        most  method\n" ++ method_lines rows
