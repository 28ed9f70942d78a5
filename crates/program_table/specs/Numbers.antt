-- The numbers and names of refusals (own).
use Rattle.std.specs.Prelude.{ℕ, List, codes}
use Rattle.program_table.specs.declared.refusal.Refusal.{Refusal}
use Rattle.program_table.specs.declared.refusal.Refusal.TheVariants.{ConnectionsFull, EntriesFull, NamesFull, QueueFull, RuleNotFound, NoAttachment, Closed, Stale}

abbrev pub refusal_number : Refusal → ℕ
refusal_number ConnectionsFull = 1
refusal_number EntriesFull = 2
refusal_number NamesFull = 3
refusal_number QueueFull = 4
refusal_number RuleNotFound = 5
refusal_number NoAttachment = 6
refusal_number Closed = 7
refusal_number Stale = 8

abbrev pub refusal_name : Refusal → List ℕ
refusal_name ConnectionsFull = codes "ConnectionsFull"
refusal_name EntriesFull = codes "EntriesFull"
refusal_name NamesFull = codes "NamesFull"
refusal_name QueueFull = codes "QueueFull"
refusal_name RuleNotFound = codes "RuleNotFound"
refusal_name NoAttachment = codes "NoAttachment"
refusal_name Closed = codes "Closed"
refusal_name Stale = codes "Stale"
