-- The steps on kept claims and slots are those on names.
use Rattle.std.specs.Prelude.{◌≡◌, ◌≤◌, ◌+◌, ◌-◌, ℕ, Bool, true, false, not, List, [], ◌∷◌, ◌++◌, Option, Some, None, Result, Ok, Err, map, find, filter, length, option_map, slice_get, is_none, is_some, is_ok, nat_lt, unwrap_or, ◌&&◌, ◌==◌, ◌⊎◌, if◌then◌else◌}
use Rattle.std.specs.List.{list_any}
use Rattle.std.proofs.Common.{refl, sym, ap, subst, ◌∙◌, arith, inl, inr}
use Rattle.std.proofs.lemmas.Bool.{eqb-true}
use Rattle.owners.specs.declared.holding.Holding.{Holding}
use Rattle.owners.specs.declared.claim.SlotClaim.{SlotClaim}
use Rattle.owners.specs.declared.step.Step.{Step}
use Rattle.owners.specs.declared.step.Step.TheVariants as steps
use Rattle.owners.specs.declared.error.ClaimError.{ClaimError}
use Rattle.owners.specs.declared.error.ClaimError.TheVariants.{NamesFull, QueueFull}
use Rattle.owners.specs.declared.answer.Named.{Named}
use Rattle.owners.specs.declared.answer.NameReply.{NameReply}
use Rattle.owners.specs.declared.answer.NameReply.TheVariants.{Released, NonExistent, NotOwner}
use Rattle.owners.specs.Queues.{Claim, is_on, is_of, is_claim, owner_of, after_requesting, request_reply, release_reply, first_claim, without, has_claim}
use Rattle.owners.specs.Registry.{Registry, settle_slots, slot_of, slot_next, with_rules, put_at, rules_of, rules_at, is_unused, max_claims, request_answer, after_request, release_answer, after_release, after_drop_all, after_slot_for, after_slot_free, change_of, change_between}
use Rattle.owners.specs.Kept.{name_at, named_claim, registry, is_name, is_on_slot, is_by, is_slot_claim, slot_without, slot_with_flags, without_owner, step_done, is_over, reply_of, change_for, slot_owner, slot_release_answer, are_slots, AreUsed, IsKept, AreLetGo}
use Rattle.owners.specs.Plan.{IsPlan, claim_at}
use Rattle.owners.specs.declared.plan.Plan.{Plan}
use Rattle.owners.proofs.Lists.{Each, Each-weaker, Each-always, Each-filter, Each-append, Each-map, all-from_Each, filter-map, find-map, any-map, length-map, length-filter-le, without_none, slice_get-set_same}
use Rattle.owners.proofs.Placed.{Tells, tells_own, known_tells, no_slot_number, next_tells, HeldAt, each_held, on_agrees, claim_agrees, held_slots, read_held}
use Rattle.owners.proofs.HeldSlots.{placed_still, each_held_still, shown_still}
use Rattle.owners.proofs.Requested.{step_for, step_shown, step_fits, without_shown}
use Rattle.owners.proofs.OwnerChanges.{request_changes}
use Rattle.owners.proofs.UsedSlots.{used_after}
use Rattle.owners.proofs.Settled.{slots_fit, let_go_is_kept, let_go_registry, none_let_go}

-- ---- a request

flagged_held : (slots : List (Option Holding)) (flags : ℕ) (c : SlotClaim) (b : Bool) → HeldAt slots c → HeldAt slots (if b then record c { flags = flags } else c)
flagged_held slots flags c true h = h
flagged_held slots flags c false h = h

left_held : (slots : List (Option Holding)) (slot : ℕ) (claims : List SlotClaim) (leaving : Option ℕ) → Each (HeldAt slots) claims → Each (HeldAt slots) (without_owner leaving slot claims)
left_held slots slot claims None e = e
left_held slots slot claims (Some owner) e = Each-filter (HeldAt slots) (λ (c : SlotClaim). not (is_slot_claim slot owner c)) claims e

put_held : (slots : List (Option Holding)) (claim : SlotClaim) (claims : List SlotClaim) (waits : Bool) → HeldAt slots claim → Each (HeldAt slots) claims → Each (HeldAt slots) (if waits then slot_with_flags claim.slot claim.connection claim.flags claims else claims ++ claim ∷ [])
put_held slots claim claims true h e =
    Each-map (HeldAt slots) (λ (c : SlotClaim). if is_slot_claim claim.slot claim.connection c then record c { flags = claim.flags } else c) claims
    (Each-weaker (HeldAt slots) (λ (c : SlotClaim). HeldAt slots (if is_slot_claim claim.slot claim.connection c then record c { flags = claim.flags } else c)) (λ (c : SlotClaim) (k : HeldAt slots c). flagged_held slots claim.flags c (is_slot_claim claim.slot claim.connection c) k) claims e)
put_held slots claim claims false h e = Each-append (HeldAt slots) claims (claim ∷ []) e (h, tt)

done_held : (slots : List (Option Holding)) (step : Step) (claim : SlotClaim) (claims : List SlotClaim) → HeldAt slots claim → Each (HeldAt slots) claims → Each (HeldAt slots) (step_done step claim claims)
done_held slots steps.Put claim claims h e = put_held slots claim claims (list_any (is_slot_claim claim.slot claim.connection) claims) h e
done_held slots steps.Remove claim claims h e = Each-filter (HeldAt slots) (λ (c : SlotClaim). not (is_slot_claim claim.slot claim.connection c)) claims e
done_held slots (steps.Replace leaving) claim claims h e =
    (h, Each-filter (HeldAt slots) (λ (c : SlotClaim). not (is_slot_claim claim.slot claim.connection c)) (without_owner leaving claim.slot claims) (left_held slots claim.slot claims leaving e))

pub request_done : (claims : List SlotClaim) (slots : List (Option Holding)) → IsKept claims slots → (claim : SlotClaim) (name : List ℕ) (rules : ℕ) → slot_next name slots ≡ Some claim.slot → length (step_done (step_for claim claims) claim claims) ≤ max_claims →
    IsKept (step_done (step_for claim claims) claim claims) (held_slots slots claim.slot name rules)
    × (registry (step_done (step_for claim claims) claim claims) (held_slots slots claim.slot name rules) ≡ record { claims = after_requesting name claim.connection claim.flags (map (named_claim slots) claims); slots = with_rules name rules slots })
request_done claims slots p claim name rules n fits =
    let evidence = next_tells claims slots p.placed name claim.slot n in
    let after = held_slots slots claim.slot name rules in
    let done = step_done (step_for claim claims) claim claims in
    let new : Holding = record { name = name; rules = rules } in
    let at : slice_get after claim.slot ≡ Some (Some new) = slice_get-set_same slots claim.slot (Some new) evidence.1 in
    let held = each_held claims slots p.placed.held in
    let held_after = each_held_still slots claim.slot name rules evidence.1 evidence.0 claims held in
    let placed_after = placed_still claims slots p.placed claim.slot name rules evidence.1 evidence.0 in
    let told_after = tells_own claims after placed_after claim.slot new name at refl in
    let same = step_shown after claim name told_after (ap name_at at) claims held_after ∙ ap (after_requesting name claim.connection claim.flags) (shown_still slots claim.slot name rules evidence.1 evidence.0 claims held) in
    let same_slots : after ≡ with_rules name rules slots = ap (λ (o : Option ℕ). put_at o name rules slots) (sym n) in (
      record {
        placed = record {
          count = placed_after.count;
          fits = fits;
          unique = placed_after.unique;
          held = all-from_Each (λ (c : SlotClaim). is_name (slice_get after c.slot)) done (done_held after (step_for claim claims) claim claims (ap is_name at) held_after);
        };
        used = used_after claims slots p.used claim name rules evidence.1;
      },
      ap (λ (l : List Claim). let r : Registry = record { claims = l; slots = after } in r) same
          ∙ ap (λ (l : List (Option Holding)). let r : Registry = record { claims = after_requesting name claim.connection claim.flags (map (named_claim slots) claims); slots = l } in r) same_slots,
    )

pub owner_shown : (slots : List (Option Holding)) (slot : ℕ) (name : List ℕ) → Tells slots slot name → (claims : List SlotClaim) → Each (HeldAt slots) claims → owner_of name (map (named_claim slots) claims) ≡ slot_owner slot claims
owner_shown slots slot name t claims e =
    ap (option_map (λ (c : Claim). c.connection)) (find-map (is_on name) (is_on_slot slot) (named_claim slots) claims (on_agrees slots slot name t claims e)) ∙ by (find (is_on_slot slot) claims)
  where
    by : (o : Option SlotClaim) → option_map (λ (c : Claim). c.connection) (option_map (named_claim slots) o) ≡ option_map (λ (c : SlotClaim). c.connection) o
    by None = refl
    by (Some c) = refl

reply_shown : (slots : List (Option Holding)) (o : Option SlotClaim) (connection flags : ℕ) → request_reply (option_map (named_claim slots) o) connection flags ≡ reply_of o connection flags
reply_shown slots None connection flags = refl
reply_shown slots (Some owner) connection flags = refl

answer_by : (n : Option ℕ) (slot : ℕ) → n ≡ Some slot → (over : Bool) (named : Named) → (if is_none n then Err NamesFull else if over then Err QueueFull else Ok named) ≡ (if over then Err QueueFull else Ok named)
answer_by n slot e over named = rw e refl

-- how many claims there are after a request, where the name has a slot or gets one
pub request_length : (claims : List SlotClaim) (slots : List (Option Holding)) → IsKept claims slots → (claim : SlotClaim) (name : List ℕ) → slot_next name slots ≡ Some claim.slot →
    length (after_requesting name claim.connection claim.flags (map (named_claim slots) claims)) ≡ length (step_done (step_for claim claims) claim claims)
request_length claims slots p claim name n =
    let evidence = next_tells claims slots p.placed name claim.slot n in
    let after = held_slots slots claim.slot name 0 in
    let new : Holding = record { name = name; rules = 0 } in
    let at : slice_get after claim.slot ≡ Some (Some new) = slice_get-set_same slots claim.slot (Some new) evidence.1 in
    let held = each_held claims slots p.placed.held in
    let held_after = each_held_still slots claim.slot name 0 evidence.1 evidence.0 claims held in
    let placed_after = placed_still claims slots p.placed claim.slot name 0 evidence.1 evidence.0 in
    let told_after = tells_own claims after placed_after claim.slot new name at refl in
    let same = step_shown after claim name told_after (ap name_at at) claims held_after ∙ ap (after_requesting name claim.connection claim.flags) (shown_still slots claim.slot name 0 evidence.1 evidence.0 claims held) in
    ap length (sym same) ∙ length-map (named_claim after) (step_done (step_for claim claims) claim claims)

-- what a request is answered, where the name has a slot or gets one
pub request_answered : (claims : List SlotClaim) (slots : List (Option Holding)) → IsKept claims slots → (claim : SlotClaim) (name : List ℕ) → slot_next name slots ≡ Some claim.slot → (over : Bool) → is_over max_claims (step_for claim claims) (list_any (is_slot_claim claim.slot claim.connection) claims) (length claims) ≡ over →
    request_answer name claim.connection claim.flags (registry claims slots) ≡ (if over then Err QueueFull else Ok (record { answer = reply_of (find (is_on_slot claim.slot) claims) claim.connection claim.flags; change = change_for name (reply_of (find (is_on_slot claim.slot) claims) claim.connection claim.flags) (slot_owner claim.slot claims) claim.connection }))
request_answered claims slots p claim name n over o =
    let evidence = next_tells claims slots p.placed name claim.slot n in
    let held = each_held claims slots p.placed.held in
    let names = map (named_claim slots) claims in
    let connection = claim.connection in
    let flags = claim.flags in
    let length_is = request_length claims slots p claim name n in
    let over_is : nat_lt max_claims (length (after_requesting name connection flags names)) ≡ over = ap (nat_lt max_claims) length_is ∙ step_fits max_claims claim claims p.placed.fits ∙ o in
    let reply_is : request_reply (first_claim name names) connection flags ≡ reply_of (find (is_on_slot claim.slot) claims) connection flags =
    ap (λ (f : Option Claim). request_reply f connection flags) (find-map (is_on name) (is_on_slot claim.slot) (named_claim slots) claims (on_agrees slots claim.slot name evidence.0 claims held)) ∙ reply_shown slots (find (is_on_slot claim.slot) claims) connection flags in
    let change_is : change_between name names (after_requesting name connection flags names) ≡ change_for name (reply_of (find (is_on_slot claim.slot) claims) connection flags) (slot_owner claim.slot claims) connection =
    request_changes name connection flags names
    ∙ ap (λ (r : NameReply). change_for name r (owner_of name names) connection) reply_is
    ∙ ap (λ (old : Option ℕ). change_for name (reply_of (find (is_on_slot claim.slot) claims) connection flags) old connection) (owner_shown slots claim.slot name evidence.0 claims held) in
    let named_is : _ = ap (λ (r : NameReply). let x : Named = record { answer = r; change = change_between name names (after_requesting name connection flags names) } in x) reply_is in
    answer_by (slot_next name slots) claim.slot n (nat_lt max_claims (length (after_requesting name connection flags names))) (record { answer = request_reply (first_claim name names) connection flags; change = change_between name names (after_requesting name connection flags names) })
    ∙ ap (λ (b : Bool). if b then Err QueueFull else Ok (let x : Named = record { answer = request_reply (first_claim name names) connection flags; change = change_between name names (after_requesting name connection flags names) } in x)) over_is
    ∙ ap (λ (r : NameReply). if over then Err QueueFull else Ok (let x : Named = record { answer = r; change = change_between name names (after_requesting name connection flags names) } in x)) reply_is
    ∙ ap (λ c. if over then Err QueueFull else Ok (let x : Named = record { answer = reply_of (find (is_on_slot claim.slot) claims) connection flags; change = c } in x)) change_is

-- the names after a request that is accepted
pub request_after : (name : List ℕ) (connection flags : ℕ) (names : Registry) (named : Named) → request_answer name connection flags names ≡ Ok named → after_request name connection flags names ≡ record { claims = after_requesting name connection flags names.claims; slots = with_rules name (rules_of name names.slots) names.slots }
request_after name connection flags names named e = by (request_answer name connection flags names) e
  where
    by : (r : Result Named ClaimError) → r ≡ Ok named → (if is_ok r then (let x : Registry = record { claims = after_requesting name connection flags names.claims; slots = with_rules name (rules_of name names.slots) names.slots } in x) else names) ≡ record { claims = after_requesting name connection flags names.claims; slots = with_rules name (rules_of name names.slots) names.slots }
    by (Ok n) f = refl
    by (Err n) f = absurd cc

-- what a planned request leaves
pub request_planned : (claims : List SlotClaim) (slots : List (Option Holding)) → IsKept claims slots → (name : List ℕ) (connection flags : ℕ) (plan : Plan) → IsPlan claims slots name connection flags plan → (rules : ℕ) → rules ≡ rules_at (slice_get slots plan.slot) →
    (claims_after : List SlotClaim) → claims_after ≡ step_done plan.step (claim_at plan.slot connection flags) claims → (slots_after : List (Option Holding)) → slots_after ≡ held_slots slots plan.slot name rules →
    IsKept claims_after slots_after × (registry claims_after slots_after ≡ after_request name connection flags (registry claims slots))
request_planned claims slots kept name connection flags plan p rules r claims_after a slots_after b =
    let claim = claim_at plan.slot connection flags in
    let evidence = next_tells claims slots kept.placed name plan.slot p.slot_is in
    let step : claims_after ≡ step_done (step_for claim claims) claim claims = a ∙ ap (λ (s : Step). step_done s claim claims) p.step_is in
    let held : slots_after ≡ held_slots slots plan.slot name (rules_of name slots) = b ∙ ap (held_slots slots plan.slot name) (r ∙ sym evidence.2) in
    let done = request_done claims slots kept claim name (rules_of name slots) p.slot_is (subst (λ (s : Step). length (step_done s claim claims) ≤ max_claims) p.step_is p.fits) in (
      subst (λ l. IsKept l slots_after) (sym step) (subst (IsKept (step_done (step_for claim claims) claim claims)) (sym held) done.0),
      ap (λ l. registry l slots_after) step ∙ ap (registry (step_done (step_for claim claims) claim claims)) held ∙ done.1
          ∙ sym (request_after name connection flags (registry claims slots) plan.named p.answer),
    )

-- ---- a release

pub release_shown : (claims : List SlotClaim) (slots : List (Option Holding)) → IsKept claims slots → (slot connection : ℕ) (name : List ℕ) → Tells slots slot name → slot_release_answer slot name connection claims ≡ release_answer name connection (registry claims slots)
release_shown claims slots p slot connection name t =
    let held = each_held claims slots p.placed.held in
    let names = map (named_claim slots) claims in
    let has_is : has_claim name connection names ≡ list_any (is_slot_claim slot connection) claims = any-map (is_claim name connection) (is_slot_claim slot connection) (named_claim slots) claims (claim_agrees slots slot connection name t claims held) in
    let some_is : is_some (first_claim name names) ≡ is_some (find (is_on_slot slot) claims) = ap is_some (find-map (is_on name) (is_on_slot slot) (named_claim slots) claims (on_agrees slots slot name t claims held)) ∙ some_map (find (is_on_slot slot) claims) in
    let old_is = owner_shown slots slot name t claims held in
    let without_is = without_shown slots slot connection name t claims held in
    let new_is : owner_of name (without name connection names) ≡ slot_owner slot (slot_without slot connection claims) =
    ap (owner_of name) (sym without_is) ∙ owner_shown slots slot name t (slot_without slot connection claims) (Each-filter (HeldAt slots) (λ (c : SlotClaim). not (is_slot_claim slot connection c)) claims held) in
    ap (λ (b : Bool). let x : Named = record { answer = (if b then Released else if is_some (find (is_on_slot slot) claims) then NotOwner else NonExistent); change = change_of name (slot_owner slot claims) (slot_owner slot (slot_without slot connection claims)) } in x) (sym has_is)
    ∙ ap (λ (b : Bool). let x : Named = record { answer = (if has_claim name connection names then Released else if b then NotOwner else NonExistent); change = change_of name (slot_owner slot claims) (slot_owner slot (slot_without slot connection claims)) } in x) (sym some_is)
    ∙ ap (λ (o : Option ℕ). let x : Named = record { answer = release_reply name connection names; change = change_of name o (slot_owner slot (slot_without slot connection claims)) } in x) (sym old_is)
    ∙ ap (λ (o : Option ℕ). let x : Named = record { answer = release_reply name connection names; change = change_of name (owner_of name names) o } in x) (sym new_is)
  where
    some_map : (o : Option SlotClaim) → is_some (option_map (named_claim slots) o) ≡ is_some o
    some_map None = refl
    some_map (Some c) = refl

-- the claims that are left are on slots
pub slots_left : (claims : List SlotClaim) (slots : List (Option Holding)) → IsKept claims slots → (r : SlotClaim → Bool) → are_slots (filter r claims) ≡ true
slots_left claims slots p r = slots_fit slots p.placed.count (filter r claims) (Each-filter (HeldAt slots) r claims (each_held claims slots p.placed.held))

-- some claims go, and then the slots that nothing needs
left_settled : (claims : List SlotClaim) (slots after : List (Option Holding)) → IsKept claims slots → (r : SlotClaim → Bool) → AreLetGo (filter r claims) slots after →
    IsKept (filter r claims) after × (registry (filter r claims) after ≡ settle_slots (map (named_claim slots) (filter r claims)) slots)
left_settled claims slots after p r g =
    let left = Each-filter (HeldAt slots) r claims (each_held claims slots p.placed.held) in
    let fewer = length-filter-le r claims in (
      let_go_is_kept claims (filter r claims) slots after p.placed (omega (arith, fewer, p.placed.fits)) left g,
      let_go_registry claims (filter r claims) slots after p.placed left g,
    )

pub release_done : (claims : List SlotClaim) (slots : List (Option Holding)) → IsKept claims slots → (slot connection : ℕ) (name : List ℕ) → slot ≡ unwrap_or (slot_of name slots) no_slot_number → (left : List SlotClaim) → left ≡ slot_without slot connection claims → (after : List (Option Holding)) → AreLetGo left slots after →
    IsKept left after × (registry left after ≡ after_release name connection (registry claims slots))
release_done claims slots p slot connection name n left l after g =
    let t : Tells slots slot name = subst (λ k. Tells slots k name) (sym n) (known_tells claims slots p.placed name) in
    let done = left_settled claims slots after p (λ (c : SlotClaim). not (is_slot_claim slot connection c)) (subst (λ x. AreLetGo x slots after) l g) in
    let shown = without_shown slots slot connection name t claims (each_held claims slots p.placed.held) in (
      subst (λ x. IsKept x after) (sym l) done.0,
      ap (λ x. registry x after) l ∙ done.1 ∙ ap (λ (x : List Claim). settle_slots x slots) shown,
    )

pub drop_all_done : (claims : List SlotClaim) (slots : List (Option Holding)) → IsKept claims slots → (connection : ℕ) (left : List SlotClaim) → left ≡ filter (λ c. not (is_by connection c)) claims → (after : List (Option Holding)) → AreLetGo left slots after →
    IsKept left after × (registry left after ≡ after_drop_all connection (registry claims slots))
drop_all_done claims slots p connection left l after g =
    let done = left_settled claims slots after p (λ (c : SlotClaim). not (is_by connection c)) (subst (λ x. AreLetGo x slots after) l g) in
    let same = filter-map (λ (c : Claim). not (is_of connection c)) (λ (c : SlotClaim). not (is_by connection c)) (named_claim slots) claims (Each-always (λ (c : SlotClaim). not (is_of connection (named_claim slots c)) ≡ not (is_by connection c)) (λ c. refl) claims) in (
      subst (λ x. IsKept x after) (sym l) done.0,
      ap (λ x. registry x after) l ∙ done.1 ∙ ap (λ (x : List Claim). settle_slots x slots) (sym same),
    )

-- a connection without a claim gives up nothing
pub nothing_dropped : (claims : List SlotClaim) (slots : List (Option Holding)) → IsKept claims slots → (connection : ℕ) → list_any (is_by connection) claims ≡ false → registry claims slots ≡ after_drop_all connection (registry claims slots)
nothing_dropped claims slots p connection none =
    (drop_all_done claims slots p connection claims (sym (without_none (is_by connection) claims none)) slots (none_let_go claims slots p.used)).1

-- ---- rules

counted : (rules : ℕ) → (rules + 1 == 0) ≡ false
counted rules = by (rules + 1 == 0) refl
  where
    by : (b : Bool) → (rules + 1 == 0) ≡ b → b ≡ false
    by true e = let z = eqb-true (rules + 1) 0 e in absurd (omega arith)
    by false e = refl

used_counted : (claims : List SlotClaim) (slots after : List (Option Holding)) → AreUsed claims slots → (slot : ℕ) (name : List ℕ) (rules : ℕ) (k : ℕ) (h : Holding) → ((k ≡ slot) × (slice_get after k ≡ Some (Some (record { name = name; rules = rules + 1 })))) ⊎ ((k ≡ slot → ⊥) × (slice_get after k ≡ slice_get slots k)) → slice_get after k ≡ Some (Some h) → is_unused (list_any (is_on_slot k) claims) (Some h) ≡ false
used_counted claims slots after u slot name rules k h (inl a) e =
    let new : Holding = record { name = name; rules = rules + 1 } in
    let is_new : Some (Some new) ≡ Some (Some h) = sym a.1 ∙ e in
    let same : new ≡ h = cc in
    ap (λ (x : Holding). is_unused (list_any (is_on_slot k) claims) (Some x)) (sym same) ∙ ap (λ (b : Bool). b && not (list_any (is_on_slot k) claims)) (counted rules)
used_counted claims slots after u slot name rules k h (inr b) e = u k h (sym b.1 ∙ e)

pub slot_for_done : (claims : List SlotClaim) (slots : List (Option Holding)) → IsKept claims slots → (slot : ℕ) (name : List ℕ) → slot_next name slots ≡ Some slot → (rules : ℕ) → rules ≡ rules_at (slice_get slots slot) → (after : List (Option Holding)) → after ≡ held_slots slots slot name (rules + 1) →
    IsKept claims after × (registry claims after ≡ after_slot_for name (registry claims slots))
slot_for_done claims slots p slot name n rules r after a =
    let evidence = next_tells claims slots p.placed name slot n in
    let held = each_held claims slots p.placed.held in
    let same_slots : held_slots slots slot name (rules + 1) ≡ with_rules name (rules_of name slots + 1) slots = ap (λ (k : ℕ). held_slots slots slot name (k + 1)) (r ∙ sym evidence.2) ∙ ap (λ (o : Option ℕ). put_at o name (rules_of name slots + 1) slots) (sym n) in (
      subst (IsKept claims) (sym a) (record {
        placed = placed_still claims slots p.placed slot name (rules + 1) evidence.1 evidence.0;
        used = λ k h e. used_counted claims slots (held_slots slots slot name (rules + 1)) p.used slot name rules k h (read_held slots slot name (rules + 1) evidence.1 k) e;
      }),
      ap (registry claims) a
          ∙ ap (λ (l : List Claim). let x : Registry = record { claims = l; slots = held_slots slots slot name (rules + 1) } in x) (shown_still slots slot name (rules + 1) evidence.1 evidence.0 claims held)
          ∙ ap (λ (l : List (Option Holding)). let x : Registry = record { claims = map (named_claim slots) claims; slots = l } in x) same_slots,
    )

pub slot_free_done : (claims : List SlotClaim) (slots : List (Option Holding)) → IsKept claims slots → (slot : ℕ) (name : List ℕ) → slot_next name slots ≡ Some slot → (rules : ℕ) → rules ≡ rules_at (slice_get slots slot) → (between : List (Option Holding)) → between ≡ held_slots slots slot name (rules - 1) → (after : List (Option Holding)) → AreLetGo claims between after →
    IsKept claims after × (registry claims after ≡ after_slot_free name (registry claims slots))
slot_free_done claims slots p slot name n rules r between b after l =
    let evidence = next_tells claims slots p.placed name slot n in
    let held_now = held_slots slots slot name (rules - 1) in
    let g : AreLetGo claims held_now after = subst (λ x. AreLetGo claims x after) b l in
    let held = each_held claims slots p.placed.held in
    let placed_between = placed_still claims slots p.placed slot name (rules - 1) evidence.1 evidence.0 in
    let held_between = each_held_still slots slot name (rules - 1) evidence.1 evidence.0 claims held in
    let same_slots : held_now ≡ with_rules name (rules_of name slots - 1) slots = ap (λ (k : ℕ). held_slots slots slot name (k - 1)) (r ∙ sym evidence.2) ∙ ap (λ (o : Option ℕ). put_at o name (rules_of name slots - 1) slots) (sym n) in (
      let_go_is_kept claims claims held_now after placed_between p.placed.fits held_between g,
      let_go_registry claims claims held_now after placed_between held_between g
          ∙ ap (λ (x : List Claim). settle_slots x held_now) (shown_still slots slot name (rules - 1) evidence.1 evidence.0 claims held)
          ∙ ap (settle_slots (map (named_claim slots) claims)) same_slots,
    )
