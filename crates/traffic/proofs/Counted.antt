-- What is counted in the row of a name, after its value was put into the map.
use Rattle.std.proofs.Common.{◌≡◌, ℕ, List, Option, Some, sym, subst, ap, ◌∙◌, Global}
use Rattle.std.specs.Prelude.{String, string_bytes, if◌then◌else◌}
use Rattle.std.specs.HashMap.{HashMap, UpdatesBy, get_by_text}
use Rattle.std.specs.Option.{unwrap_or}
use Rattle.std.specs.Str.{bytes_eq}
use Rattle.std.specs.String.{string_eq}
use Rattle.std.proofs.lemmas.Map.Text.{hash_map_updates_text}
use Rattle.traffic.specs.Methods.{no_calls, Counts}
use Rattle.traffic.specs.Reports.{row_of, TakesCall}
use Rattle.traffic.specs.Senders.{no_messages, with_message, messages_of, TakesMessage}
use Rattle.traffic.specs.declared.methods.Outcome.{Outcome}
use Rattle.traffic.specs.declared.methods.MethodCounts.{MethodCounts}
use Rattle.traffic.specs.declared.sender_table.Messages.{Messages}

-- the rows after a value was put at a key that has the bytes of a name
put : {X S : Type 0} (name bytes : List ℕ) (before after : HashMap (String Global) X S) (value : X) → bytes ≡ name → UpdatesBy string_eq (λ k. bytes_eq bytes (string_bytes k)) before after (Some value) → (other : List ℕ) → get_by_text after other ≡ (if bytes_eq name other then Some value else get_by_text before other)
put {X = X} name bytes before after value named updates other =
    hash_map_updates_text bytes before after (Some value) updates other
    ∙ ap (λ (text : List ℕ). if bytes_eq text other then Some value else get_by_text before other) named

pub message_counted : {S : Type 0} (name bytes : List ℕ) (len : ℕ) (before after : HashMap (String Global) Messages S) (found : Option Messages) (value : Messages) → bytes ≡ name → messages_of before.entries name ≡ found → value ≡ with_message len (unwrap_or found no_messages) → UpdatesBy string_eq (λ k. bytes_eq bytes (string_bytes k)) before after (Some value) → TakesMessage name len before.entries after.entries
message_counted name bytes len before after found value named was is updates = λ (other : List ℕ).
    put name bytes before after value named updates other
    ∙ ap (λ (messages : Messages). if bytes_eq name other then Some messages else messages_of before.entries other)
    (is ∙ ap (λ (row : Option Messages). with_message len (unwrap_or row no_messages)) (sym was))

counts_from : (outcome : Outcome) (was found : Option MethodCounts) (row : MethodCounts) → was ≡ found → Counts outcome (unwrap_or found no_calls) row → Counts outcome (unwrap_or was no_calls) row
counts_from outcome was found row is counts = subst (λ (it : Option MethodCounts). Counts outcome (unwrap_or it no_calls) row) (sym is) counts

pub call_counted : {S : Type 0} (name bytes : List ℕ) (outcome : Outcome) (before after : HashMap (String Global) MethodCounts S) (found : Option MethodCounts) (row : MethodCounts) → bytes ≡ name → row_of before.entries name ≡ found → Counts outcome (unwrap_or found no_calls) row → UpdatesBy string_eq (λ k. bytes_eq bytes (string_bytes k)) before after (Some row) → TakesCall name outcome before.entries after.entries
call_counted name bytes outcome before after found row named was counts updates = record {
  row = row;
  counts = counts_from outcome (row_of before.entries name) found row was counts;
  rows = λ (other : List ℕ). put name bytes before after row named updates other;
}
