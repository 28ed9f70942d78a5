-- What is counted of messages, by sender and member, and the table of it (own).
use Rattle.std.specs.Prelude.{◌≡◌, ◌+◌, ◌-◌, ◌*◌, ◌/◌, ◌^◌, ◌==◌, ◌||◌, min, ℕ, nat_lt, List, ◌++◌, length, Option, Some, is_some, codes, decimal, String, string_bytes, IsSortedByKey, if◌then◌else◌}
use Rattle.std.specs.List.{flat_map}
use Rattle.std.specs.List.Sorted.{IsPermutation, IsSorted, IsStableByKey}
use Rattle.std.specs.Map.{keys_of, lookup}
use Rattle.std.specs.Ordering.{nat_cmp}
use Rattle.std.specs.Option.{unwrap_or}
use Rattle.std.specs.Str.{bytes_eq}
use Rattle.std.specs.String.{string_cmp}
use Rattle.std.proofs.Common.{Global}
use Rattle.traffic.specs.Columns.{right, thousandths, named_end}
use Rattle.traffic.specs.Methods.{one_more}
use Rattle.traffic.specs.Reports.{is_name}
use Rattle.traffic.specs.declared.sender_table.Messages.{Messages}

-- senders with members, each with what is counted of it
abbrev pub SenderRows : Type 0
SenderRows = List (String Global × Messages)

abbrev pub no_messages : Messages
no_messages = record { count = 0; bytes = 0 }

-- with one message more, of this length
abbrev pub with_message : ℕ → Messages → Messages
with_message len messages = record { count = one_more messages.count; bytes = min (messages.bytes + len) (2 ^ 64 - 1) }

abbrev pub messages_of : SenderRows → List ℕ → Option Messages
messages_of rows name = lookup (is_name name) rows

-- messages are counted by their sender and member, but together where there is no row for these and no room for one more
abbrev pub sender_counted_as : SenderRows → List ℕ → List ℕ
sender_counted_as rows name = if is_some (messages_of rows name) || nat_lt (length rows) 16384 then name else codes "(further senders and members)"

-- a message is counted in the row of a name, which begins with none, and in no other
abbrev pub TakesMessage : List ℕ → ℕ → SenderRows → SenderRows → Type 0
TakesMessage name len before after =
    (other : List ℕ) → messages_of after other ≡ (if bytes_eq name other then Some (with_message len (unwrap_or (messages_of before name) no_messages)) else messages_of before other)

-- the same rows, in the order of their names
pub record AreInOrder (before after : SenderRows) : Type 0 where
  pub sorted : IsSorted string_cmp (keys_of after)
  pub same : IsPermutation before after

-- how far messages are below the greatest count
abbrev pub rarity : Messages → ℕ
rarity messages = 2 ^ 64 - 1 - messages.count

-- the same rows, those with the most messages first, and those with as many in the order of their names
pub record AreByCount (before after : SenderRows) : Type 0 where
  pub named : SenderRows
  pub names : AreInOrder before named
  pub sorted : IsSortedByKey (λ (row : String Global × Messages). rarity row.1) nat_cmp after
  pub ties : IsStableByKey (λ (row : String Global × Messages). rarity row.1) nat_cmp named after
  pub same : IsPermutation named after

-- how many messages came in a second, over a time in microseconds
abbrev pub rate_column : ℕ → ℕ → List ℕ
rate_column count time = if time == 0 then right 14 (codes "-") else right 14 (thousandths (min (count * 1000000000) (2 ^ 64 - 1) / time))

-- the line of a sender and a member, over a time in nanoseconds
abbrev pub sender_line : ℕ → List ℕ → Messages → List ℕ
sender_line time name messages =
    right 10 (decimal messages.count) ++ right 14 (decimal messages.bytes) ++ rate_column messages.count (time / 1000) ++ named_end name

-- a line for each of them
abbrev pub sender_lines : ℕ → SenderRows → List ℕ
sender_lines time rows = flat_map (λ (row : String Global × Messages). sender_line time (string_bytes row.0) row.1) rows

-- and before them the heads of the columns
abbrev pub sender_report : ℕ → SenderRows → List ℕ
sender_report time rows = codes "  messages         bytes    per second  sender and member\n" ++ sender_lines time rows
