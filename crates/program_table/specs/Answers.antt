-- What a command of a connection that is there is answered, by what is registered (own).
use Rattle.std.specs.Prelude.{ℕ, ◌+◌, not, List, length, find, Option, Some, None, option_map, is_none, Result, Ok, nat_le, nat_lt, nat_eq, ◌==◌, ◌||◌}
use Rattle.std.specs.List.{list_any}
use Rattle.std.specs.Option.{option_eq}
use Rattle.match_rule.specs.RuleTree.{RuleTree, sender_name_of}
use Rattle.owners.specs.declared.answer.Change.{Change}
use Rattle.owners.specs.Queues.{Claim, first_claim, without, after_requesting, request_reply, release_reply}
use Rattle.owners.specs.Registry.{max_claims, change_between, least_of}
use Rattle.entry_table.specs.declared.entry.Entry.{Entry}
use Rattle.entry_table.specs.CompiledRule.{CompiledRule}
use Rattle.entry_table.specs.Entries.{max_id, has_rule, is_attachment}
use Rattle.program_table.specs.declared.command.Reply.{Reply}
use Rattle.program_table.specs.declared.command.Reply.TheVariants as replies
use Rattle.program_table.specs.declared.refusal.Refusal.{Refusal}
use Rattle.program_table.specs.declared.refusal.Refusal.TheVariants as refusals
use Rattle.program_table.specs.SlotNames.{slot_next}
use Rattle.program_table.specs.Registrations.{Registrations}
use Rattle.program_table.specs.Refusals.{◌>>=◌, refuse_if}

-- how many entries a bus has at most
abbrev pub max_entries : ℕ
max_entries = 65534

-- there is room for an entry, and an id
abbrev pub has_room : Registrations → Result (Unit {0}) Refusal
has_room r = refuse_if (nat_le max_entries (length r.entries) || r.last_entry == max_id) refusals.EntriesFull

-- the rule's slot is the one that the state gives to the name that it asks for as the sender
abbrev pub slot_fits : Option (List ℕ) → Option ℕ → List (Option (List ℕ)) → Result (Unit {0}) Refusal
slot_fits None slot slots = Ok tt
slot_fits (Some name) slot slots = do
  free ← refuse_if (is_none (slot_next name slots)) refusals.NamesFull
  refuse_if (not (option_eq nat_eq slot (slot_next name slots))) refusals.Stale

-- the slot for which a rule with this sender name is compiled: the one that the name has or gets
abbrev pub slot_asked : Option (List ℕ) → List (Option (List ℕ)) → Option ℕ
slot_asked None slots = None
slot_asked (Some name) slots = slot_next name slots

abbrev pub add_rule_answer : CompiledRule → Registrations → Result Reply Refusal
add_rule_answer compiled r = do
  room ← has_room r
  fits ← slot_fits (sender_name_of compiled.rule) compiled.slot r.slots
  Ok (replies.Entry (r.last_entry + 1))

abbrev pub attach_answer : Registrations → Result Reply Refusal
attach_answer r = do
  room ← has_room r
  Ok (replies.Entry (r.last_entry + 1))

-- the id of the connection's oldest entry with an equal rule
abbrev pub oldest_with : ℕ → RuleTree → List Entry → Option ℕ
oldest_with c rule entries = option_map (λ (e : Entry). e.id) (find (has_rule c rule) entries)

abbrev pub remove_rule_answer : ℕ → RuleTree → Registrations → Result Reply Refusal
remove_rule_answer c rule r = do
  found ← refuse_if (is_none (oldest_with c rule r.entries)) refusals.RuleNotFound
  Ok replies.Done

abbrev pub detach_answer : ℕ → ℕ → Registrations → Result Reply Refusal
detach_answer c id r = do
  found ← refuse_if (not (list_any (is_attachment c id) r.entries)) refusals.NoAttachment
  Ok replies.Done

abbrev pub request_answer : List ℕ → ℕ → ℕ → Registrations → Result Reply Refusal
request_answer name c flags r = do
  free ← refuse_if (is_none (slot_next name r.slots)) refusals.NamesFull
  few ← refuse_if (nat_lt max_claims (length (after_requesting name c flags r.claims))) refusals.QueueFull
  Ok (replies.Name (record {
    answer = request_reply (first_claim name r.claims) c flags;
    change = change_between name r.claims (after_requesting name c flags r.claims);
  }))

abbrev pub release_answer : List ℕ → ℕ → Registrations → Reply
release_answer name c r = replies.Name (record {
  answer = release_reply name c r.claims;
  change = change_between name r.claims (without name c r.claims);
})

-- what giving up a claim is answered
abbrev pub drop_reply : Option Change → Reply
drop_reply None = replies.Waiting
drop_reply (Some change) = replies.Changed change

abbrev pub drop_reply_at : Option (List ℕ) → ℕ → List Claim → Reply
drop_reply_at None c claims = replies.Nothing
drop_reply_at (Some name) c claims = drop_reply (change_between name claims (without name c claims))

abbrev pub drop_answer : ℕ → Registrations → Reply
drop_answer c r = drop_reply_at (least_of c r.claims) c r.claims
