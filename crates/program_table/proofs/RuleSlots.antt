-- The slot for which a rule is compiled: its AddRule is refused for nothing else.
use Rattle.std.proofs.Common.{◌≡◌, ℕ, ◌+◌, Bool, true, false, List, Option, Some, None, refl, sym, ap, subst}
use Rattle.std.specs.Prelude.{Result, Ok, Err, IfOk, MatchResult, is_ok, is_none, not, nat_eq, nat_le, length, ◌==◌, ◌||◌, if◌then◌else◌}
use Rattle.std.specs.Option.{option_eq}
use Rattle.std.proofs.lemmas.Bool.{eq-eqb}
use Rattle.bpf_code.specs.declared.instruction.Ins.{Ins}
use Rattle.match_rule.specs.RuleTree.{RuleTree, sender_name_of}
use Rattle.rule_compile.specs.Compiled.{IsSlotOf}
use Rattle.entry_table.specs.Entries.{max_id}
use Rattle.program_table.specs.declared.command.Reply.{Reply}
use Rattle.program_table.specs.declared.command.Reply.TheVariants as replies
use Rattle.program_table.specs.declared.refusal.Refusal.{Refusal}
use Rattle.program_table.specs.declared.refusal.Refusal.TheVariants as refusals
use Rattle.program_table.specs.Connections.{is_connected}
use Rattle.program_table.specs.SlotNames.{slot_next}
use Rattle.program_table.specs.Refusals.{◌>>=◌, refuse_if}
use Rattle.program_table.specs.Capacities.{rule_within}
use Rattle.program_table.specs.Answers.{max_entries, slot_asked, slot_fits}
use Rattle.program_table.specs.State.{State}
use Rattle.program_table.specs.Does.{reply_of, answer_of, max_commands}
use Rattle.program_table.specs.RuleSlots.{IsRuleSlot, add_of}
use Rattle.program_table.specs.SlotSearch.{slot_for, rule_slot_of}

-- both are Ok, or both are refused for the same
abbrev Agree : {A : Type 0} → Result A Refusal → Result Reply Refusal → Type 0
Agree r other = MatchResult r (λ _. is_ok other ≡ true) (λ refusal. other ≡ Err refusal)

-- so they are where the same tests come first
agree_if : {A : Type 0} (b : Bool) (refusal : Refusal) (r : Result A Refusal) (other : Result Reply Refusal) → Agree r other
    → Agree (refuse_if b refusal >>= (λ _. r)) (refuse_if b refusal >>= (λ _. other))
agree_if true refusal r other h = refl
agree_if false refusal r other h = h

agree_after : {A : Type 0} (t : Result (Unit {0}) Refusal) (r : Result A Refusal) (other : Result Reply Refusal) → Agree r other → Agree (t >>= (λ _. r)) (t >>= (λ _. other))
agree_after (Ok x) r other h = h
agree_after (Err refusal) r other h = refl

agree_at : {A : Type 0} (b : Bool) (r : Result A Refusal) (other : Result Reply Refusal) → Agree r other
    → Agree (if b then Err refusals.Closed else r) (if b then Err refusals.Closed else other)
agree_at true r other h = refl
agree_at false r other h = h

agree_slots : (slot : Option ℕ) (n : ℕ)
    → Agree (let r : Result (Option ℕ) Refusal = refuse_if (is_none slot) refusals.NamesFull >>= (λ _. Ok slot) in r)
    ((refuse_if (is_none slot) refusals.NamesFull >>= (λ _. refuse_if (not (option_eq nat_eq slot slot)) refusals.Stale)) >>= (λ _. Ok (replies.Entry n)))
agree_slots None n = refl
agree_slots (Some k) n = ap (λ b. is_ok (refuse_if (not b) refusals.Stale >>= (λ _. let r : Result Reply Refusal = Ok (replies.Entry n) in r))) (eq-eqb k k refl)

agree_names : (name : Option (List ℕ)) (slots : List (Option (List ℕ))) (n : ℕ)
    → Agree (slot_for name slots) (slot_fits name (slot_asked name slots) slots >>= (λ _. Ok (replies.Entry n)))
agree_names None slots n = refl
agree_names (Some name) slots n = agree_slots (slot_next name slots) n

-- a slot that is found is the one that is asked for
asked_if : {A : Type 0} (b : Bool) (refusal : Refusal) (P : A → Type 0) (r : Result A Refusal) → IfOk r P → IfOk (refuse_if b refusal >>= (λ _. r)) P
asked_if true refusal P r h = tt
asked_if false refusal P r h = h

asked_after : {A : Type 0} (t : Result (Unit {0}) Refusal) (P : A → Type 0) (r : Result A Refusal) → IfOk r P → IfOk (t >>= (λ _. r)) P
asked_after (Ok x) P r h = h
asked_after (Err refusal) P r h = tt

asked_at : {A : Type 0} (b : Bool) (P : A → Type 0) (r : Result A Refusal) → IfOk r P → IfOk (if b then Err refusals.Closed else r) P
asked_at true P r h = tt
asked_at false P r h = h

asked : (name : Option (List ℕ)) (slots : List (Option (List ℕ))) → IfOk (slot_for name slots) (λ slot. slot ≡ slot_asked name slots)
asked None slots = refl
asked (Some name) slots = asked_if (is_none (slot_next name slots)) refusals.NamesFull (λ slot. slot ≡ slot_next name slots) (Ok (slot_next name slots)) refl

module _ {M : Type 0} where
  agrees : (s : State M) (c : ℕ) (rule : RuleTree) (program : List Ins) → Agree (rule_slot_of s c rule) (answer_of s (add_of s c rule program))
  agrees s c rule program =
      let r = s.registrations in
      agree_at (nat_le max_commands s.commands) _ _
      (agree_if (not (is_connected c s.connections)) refusals.Closed _ _
      (agree_after (rule_within s.capacity (sender_name_of rule) r) _ _
      (agree_if (nat_le max_entries (length r.entries) || r.last_entry == max_id) refusals.EntriesFull _ _
      (agree_names (sender_name_of rule) r.slots (r.last_entry + 1)))))

  asks : (s : State M) (c : ℕ) (rule : RuleTree) → IfOk (rule_slot_of s c rule) (λ slot. slot ≡ slot_asked (sender_name_of rule) s.registrations.slots)
  asks s c rule =
      let r = s.registrations in
      let P : Option ℕ → Type 0 = λ slot. slot ≡ slot_asked (sender_name_of rule) r.slots in
      asked_at (nat_le max_commands s.commands) P _
      (asked_if (not (is_connected c s.connections)) refusals.Closed P _
      (asked_after (rule_within s.capacity (sender_name_of rule) r) P _
      (asked_if (nat_le max_entries (length r.entries) || r.last_entry == max_id) refusals.EntriesFull P _ (asked (sender_name_of rule) r.slots))))

  cases : (s : State M) (c : ℕ) (rule : RuleTree) (result : Result (Option ℕ) Refusal)
      → ((program : List Ins) → Agree result (answer_of s (add_of s c rule program)))
      → IfOk result (λ slot. slot ≡ slot_asked (sender_name_of rule) s.registrations.slots) → IfOk result (λ slot. IsSlotOf slot rule) → IsRuleSlot s c rule result
  cases s c rule (Ok slot) same at fit = (at, fit, same)
  cases s c rule (Err refusal) same at fit = λ program. ap reply_of (same program)

  -- what the code finds is the rule's slot
  pub is_rule_slot : (s : State M) (c : ℕ) (rule : RuleTree) (result : Result (Option ℕ) Refusal) → result ≡ rule_slot_of s c rule → IfOk result (λ slot. IsSlotOf slot rule)
      → IsRuleSlot s c rule result
  is_rule_slot s c rule result is fit =
      cases s c rule result (λ program. subst (λ (r : Result (Option ℕ) Refusal). Agree r (answer_of s (add_of s c rule program))) (sym is) (agrees s c rule program))
      (subst (λ (r : Result (Option ℕ) Refusal). IfOk r (λ slot. slot ≡ slot_asked (sender_name_of rule) s.registrations.slots)) (sym is) (asks s c rule)) fit
