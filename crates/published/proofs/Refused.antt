-- A reply is a refusal exactly where the command isn't accepted.
use Rattle.std.proofs.Common.{◌≡◌, ℕ, ◌+◌, Bool, true, false, not, List, Option, Some, None, length, refl, sym, ap, ◌∙◌}
use Rattle.std.specs.Prelude.{Result, Ok, Err, is_ok, is_none, nat_le, nat_lt, if◌then◌else◌}
use Rattle.std.specs.List.{list_any}
use Rattle.match_rule.specs.RuleTree.{sender_name_of}
use Rattle.owners.specs.declared.answer.Change.{Change}
use Rattle.owners.specs.Queues.{after_requesting, request_reply, first_claim, without, Claim}
use Rattle.owners.specs.Registry.{max_claims, least_of, change_between}
use Rattle.entry_table.specs.CompiledRule.{CompiledRule}
use Rattle.entry_table.specs.Entries.{is_attachment}
use Rattle.program_table.specs.declared.command.Command.{Command}
use Rattle.program_table.specs.declared.command.Command.TheVariants.{Limit, Connect, AddRule, RemoveRule, Attach, Detach, Request, Release, DropOne, Close}
use Rattle.program_table.specs.declared.command.Reply.{Reply}
use Rattle.program_table.specs.declared.command.Reply.TheVariants as replies
use Rattle.program_table.specs.declared.refusal.Refusal.{Refusal}
use Rattle.program_table.specs.declared.refusal.Refusal.TheVariants as refusals
use Rattle.program_table.specs.Connections.{are_full}
use Rattle.program_table.specs.SlotNames.{slot_next}
use Rattle.program_table.specs.Registrations.{Registrations}
use Rattle.program_table.specs.Refusals.{◌>>=◌, refuse_if}
use Rattle.program_table.specs.State.{State}
use Rattle.program_table.specs.Capacities.{entry_within, rule_within, claim_within}
use Rattle.program_table.specs.Answers.{oldest_with, has_room, slot_fits, add_rule_answer, remove_rule_answer, attach_answer, detach_answer, request_answer, drop_reply, drop_reply_at, drop_answer}
use Rattle.program_table.specs.Does.{max_commands, reply_of, refuse_unconnected, row, is_accepted, reply_to}

abbrev pub is_refused : Reply → Bool
is_refused (replies.Connected n) = false
is_refused (replies.Entry n) = false
is_refused replies.Done = false
is_refused (replies.Name open_named) = false
is_refused replies.Nothing = false
is_refused replies.Waiting = false
is_refused (replies.Changed change) = false
is_refused (replies.Refused refusal) = true

abbrev Tells : Result Reply Refusal → Type 0
Tells r = is_refused (reply_of r) ≡ not (is_ok r)

chained : {A : Type 0} (r : Result A Refusal) (f : A → Result Reply Refusal) → ((x : A) → Tells (f x)) → Tells (r >>= f)
chained (Ok x) f h = h x
chained (Err refusal) f h = refl

unless : (b : Bool) (refusal : Refusal) (r : Result Reply Refusal) → Tells r → Tells (if b then Err refusal else r)
unless true refusal r h = refl
unless false refusal r h = h

-- a test that may refuse, and then a reply that is no refusal
tested : {A : Type 0} (r : Result A Refusal) (reply : Reply) → is_refused reply ≡ false → Tells (r >>= λ done. Ok reply)
tested r reply h = chained r (λ done. Ok reply) (λ done. h)

add_rule_tells : (compiled : CompiledRule) (r : Registrations) → Tells (add_rule_answer compiled r)
add_rule_tells compiled r =
    let fits = slot_fits (sender_name_of compiled.rule) compiled.slot r.slots in
    chained (has_room r) (λ room. fits >>= λ done. Ok (replies.Entry (r.last_entry + 1))) (λ room. tested fits (replies.Entry (r.last_entry + 1)) refl)

request_tells : (name : List ℕ) (c flags : ℕ) (r : Registrations) → Tells (request_answer name c flags r)
request_tells name c flags r =
    let free = refuse_if (is_none (slot_next name r.slots)) refusals.NamesFull in
    let few = refuse_if (nat_lt max_claims (length (after_requesting name c flags r.claims))) refusals.QueueFull in
    let reply : Reply = replies.Name (record { answer = request_reply (first_claim name r.claims) c flags; change = change_between name r.claims (after_requesting name c flags r.claims) }) in
    chained free (λ done. few >>= λ done. Ok reply) (λ done. tested few reply refl)

dropped : (o : Option Change) → is_refused (drop_reply o) ≡ false
dropped None = refl
dropped (Some change) = refl

dropped_at : (o : Option (List ℕ)) (c : ℕ) (claims : List Claim) → is_refused (drop_reply_at o c claims) ≡ false
dropped_at None c claims = refl
dropped_at (Some name) c claims = dropped (change_between name claims (without name c claims))

refused_by : (r : Result Reply Refusal) → is_ok r ≡ false → (refusal : Refusal) × (reply_of r ≡ replies.Refused refusal)
refused_by (Ok reply) e = cc
refused_by (Err refusal) e = (refusal, refl)

module _ {M : Type 0} where
  row_tells : (s : State M) (c : Command M) → Tells (row s c)
  row_tells s (Limit most) = refl
  row_tells s (Connect m) = tested (refuse_if (are_full s.capacity.connections s.connections) refusals.ConnectionsFull) (replies.Connected (s.last_connection + 1)) refl
  row_tells s (AddRule c compiled) =
      let within = rule_within s.capacity (sender_name_of compiled.rule) s.registrations in
      chained (refuse_unconnected c s) (λ there. within >>= λ done. add_rule_answer compiled s.registrations)
      (λ there. chained within (λ done. add_rule_answer compiled s.registrations) (λ done. add_rule_tells compiled s.registrations))
  row_tells s (RemoveRule c rule) =
      let found = refuse_if (is_none (oldest_with c rule s.registrations.entries)) refusals.RuleNotFound in
      chained (refuse_unconnected c s) (λ there. remove_rule_answer c rule s.registrations) (λ there. tested found replies.Done refl)
  row_tells s (Attach c attachment) =
      let within = entry_within s.capacity s.registrations in
      chained (refuse_unconnected c s) (λ there. within >>= λ done. attach_answer s.registrations)
      (λ there. chained within (λ done. attach_answer s.registrations) (λ done. tested (has_room s.registrations) (replies.Entry (s.registrations.last_entry + 1)) refl))
  row_tells s (Detach c id) =
      let found = refuse_if (not (list_any (is_attachment c id) s.registrations.entries)) refusals.NoAttachment in
      chained (refuse_unconnected c s) (λ there. detach_answer c id s.registrations) (λ there. tested found replies.Done refl)
  row_tells s (Request c name flags) =
      let within = claim_within s.capacity name c flags s.registrations in
      chained (refuse_unconnected c s) (λ there. within >>= λ done. request_answer name c flags s.registrations)
      (λ there. chained within (λ done. request_answer name c flags s.registrations) (λ done. request_tells name c flags s.registrations))
  row_tells s (Release c name) = tested (refuse_unconnected c s) _ refl
  row_tells s (DropOne c) = tested (refuse_unconnected c s) (drop_answer c s.registrations) (dropped_at (least_of c s.registrations.claims) c s.registrations.claims)
  row_tells s (Close c) = tested (refuse_unconnected c s) replies.Done refl

  pub is_refused-reply : (s : State M) (c : Command M) → is_refused (reply_to s c) ≡ not (is_accepted s c)
  is_refused-reply s c = unless (nat_le max_commands s.commands) refusals.Closed (row s c) (row_tells s c)

  -- a command that isn't accepted has a refusal
  pub unaccepted : (s : State M) (c : Command M) → is_accepted s c ≡ false → (refusal : Refusal) × (reply_to s c ≡ replies.Refused refusal)
  unaccepted s c h = refused_by (if nat_le max_commands s.commands then Err refusals.Closed else row s c) h

  -- and one that has none is accepted
  pub accepted : (s : State M) (c : Command M) → ((refusal : Refusal) → reply_to s c ≡ replies.Refused refusal → ⊥) → is_accepted s c ≡ true
  accepted s c h = go (is_accepted s c) refl
    where
      go : (b : Bool) → is_accepted s c ≡ b → is_accepted s c ≡ true
      go true e = e
      go false e = let r = unaccepted s c e in absurd (h r.0 r.1)

  -- one that has a refusal isn't accepted
  pub refused : (s : State M) (c : Command M) (refusal : Refusal) → reply_to s c ≡ replies.Refused refusal → is_accepted s c ≡ false
  refused s c refusal e = turned (is_accepted s c) (sym (is_refused-reply s c) ∙ ap is_refused e)
    where
      turned : (b : Bool) → not b ≡ true → b ≡ false
      turned true h = cc
      turned false h = refl
