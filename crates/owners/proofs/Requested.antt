-- What a request does to kept claims is what it does to claims on names.
use Rattle.std.specs.Prelude.{◌≡◌, ◌≤◌, ◌+◌, ℕ, suc, Bool, true, false, not, List, [], ◌∷◌, ◌++◌, Option, Some, None, map, find, length, option_map, slice_get, nat_lt, nat_le, ◌&&◌, ◌==◌, if◌then◌else◌}
use Rattle.std.specs.List.{list_any}
use Rattle.std.proofs.Common.{refl, sym, ap, subst, ◌∙◌, arith, length-append}
use Rattle.std.proofs.lemmas.List.{map-append}
use Rattle.std.proofs.lemmas.Bool.{eqb-true, eq-eqb, leb-true, le-leb, or_right}
use Rattle.std.proofs.lemmas.Bool.Decides.{same_from_decides, Decides-ltb}
use Rattle.owners.specs.declared.holding.Holding.{Holding}
use Rattle.owners.specs.declared.claim.SlotClaim.{SlotClaim}
use Rattle.owners.specs.declared.step.Step.{Step}
use Rattle.owners.specs.declared.step.Step.TheVariants as steps
use Rattle.owners.specs.Queues.{Claim, is_on, is_claim, has_flag, may_replace, do_not_queue, with_flags, with_last, without, after_requesting, requested_by}
use Rattle.owners.specs.Kept.{named_claim, name_at, is_on_slot, is_by, is_slot_claim, slot_without, slot_with_flags, claim_put, without_owner, step_of, step_done, is_over}
use Rattle.owners.proofs.Lists.{Each, Each-weaker, Each-filter, filter-map, find-map, any-map, any-from_none, any-both, map-map_same, length-filter-le, length-without, without_none, length-map}
use Rattle.owners.proofs.Placed.{Tells, HeldAt, on_agrees, claim_agrees}

-- ---- each change, before and after the names are shown

pub without_shown : (slots : List (Option Holding)) (slot connection : ℕ) (name : List ℕ) → Tells slots slot name → (claims : List SlotClaim) → Each (HeldAt slots) claims → map (named_claim slots) (slot_without slot connection claims) ≡ without name connection (map (named_claim slots) claims)
without_shown slots slot connection name t claims e =
    sym (filter-map (λ (c : Claim). not (is_claim name connection c)) (λ (c : SlotClaim). not (is_slot_claim slot connection c)) (named_claim slots) claims
    (Each-weaker (λ (c : SlotClaim). is_claim name connection (named_claim slots c) ≡ is_slot_claim slot connection c) (λ (c : SlotClaim). not (is_claim name connection (named_claim slots c)) ≡ not (is_slot_claim slot connection c)) (λ c h. ap not h) claims (claim_agrees slots slot connection name t claims e)))

flagged_shown : (slots : List (Option Holding)) (flags : ℕ) (c : SlotClaim) (b : Bool) → named_claim slots (if b then record c { flags = flags } else c) ≡ (if b then record (named_claim slots c) { flags = flags } else named_claim slots c)
flagged_shown slots flags c true = refl
flagged_shown slots flags c false = refl

flags_shown : (slots : List (Option Holding)) (slot connection flags : ℕ) (name : List ℕ) → Tells slots slot name → (claims : List SlotClaim) → Each (HeldAt slots) claims → map (named_claim slots) (slot_with_flags slot connection flags claims) ≡ with_flags name connection flags (map (named_claim slots) claims)
flags_shown slots slot connection flags name t claims e =
    map-map_same (named_claim slots) (λ (c : SlotClaim). if is_slot_claim slot connection c then record c { flags = flags } else c) (λ (c : Claim). if is_claim name connection c then record c { flags = flags } else c) claims
    (Each-weaker (λ (c : SlotClaim). is_claim name connection (named_claim slots c) ≡ is_slot_claim slot connection c) (λ (c : SlotClaim). named_claim slots (if is_slot_claim slot connection c then record c { flags = flags } else c) ≡ (if is_claim name connection (named_claim slots c) then record (named_claim slots c) { flags = flags } else named_claim slots c)) (λ c h. flagged_shown slots flags c (is_slot_claim slot connection c) ∙ ap (λ b. if b then record (named_claim slots c) { flags = flags } else named_claim slots c) (sym h)) claims (claim_agrees slots slot connection name t claims e))

leaving_shown : (slots : List (Option Holding)) (slot owner : ℕ) (name : List ℕ) → Tells slots slot name → (claims : List SlotClaim) → Each (HeldAt slots) claims → (b : Bool) → map (named_claim slots) (without_owner (if b then Some owner else None) slot claims) ≡ (if b then without name owner (map (named_claim slots) claims) else map (named_claim slots) claims)
leaving_shown slots slot owner name t claims e true = without_shown slots slot owner name t claims e
leaving_shown slots slot owner name t claims e false = refl

leaving_held : (slots : List (Option Holding)) (slot owner : ℕ) (claims : List SlotClaim) → Each (HeldAt slots) claims → (b : Bool) → Each (HeldAt slots) (without_owner (if b then Some owner else None) slot claims)
leaving_held slots slot owner claims e true = Each-filter (HeldAt slots) (λ (c : SlotClaim). not (is_slot_claim slot owner c)) claims e
leaving_held slots slot owner claims e false = e

-- a claim on the slot is shown as one on the name
abbrev IsShownAs : List (Option Holding) → SlotClaim → List ℕ → Type 0
IsShownAs slots claim name = name_at (slice_get slots claim.slot) ≡ name

abbrev claim_on : List ℕ → SlotClaim → Claim
claim_on name claim = record { name = name; connection = claim.connection; flags = claim.flags }

claim_shown : (slots : List (Option Holding)) (claim : SlotClaim) (name : List ℕ) → IsShownAs slots claim name → named_claim slots claim ≡ claim_on name claim
claim_shown slots claim name s = ap (λ (n : List ℕ). claim_on n claim) s

last_shown : (slots : List (Option Holding)) (claim : SlotClaim) (name : List ℕ) → IsShownAs slots claim name → (claims : List SlotClaim) → map (named_claim slots) (claims ++ claim ∷ []) ≡ map (named_claim slots) claims ++ claim_on name claim ∷ []
last_shown slots claim name s claims =
    map-append (named_claim slots) claims (claim ∷ []) ∙ ap (λ (c : Claim). map (named_claim slots) claims ++ c ∷ []) (claim_shown slots claim name s)

-- the owner has a claim
owner_claims : (slot : ℕ) (claims : List SlotClaim) (owner : SlotClaim) → find (is_on_slot slot) claims ≡ Some owner → list_any (is_slot_claim slot owner.connection) claims ≡ true
owner_claims slot claims owner e = first_claims claims e
  where
    at_first : (b : Bool) (x : SlotClaim) (xs : List SlotClaim) (r : Option SlotClaim) → is_on_slot slot x ≡ b → (r ≡ Some owner → list_any (is_slot_claim slot owner.connection) xs ≡ true) → (if b then Some x else r) ≡ Some owner → list_any (is_slot_claim slot owner.connection) (x ∷ xs) ≡ true
    at_first true x xs r q ih f =
        let s : x ≡ owner = cc in
        let c : (x.connection == owner.connection) ≡ true = eq-eqb x.connection owner.connection (ap (λ (y : SlotClaim). y.connection) s) in
        rw (q, c) refl
    at_first false x xs r q ih f = or_right (is_slot_claim slot owner.connection x) (list_any (is_slot_claim slot owner.connection) xs) (ih f)

    first_claims : (xs : List SlotClaim) → find (is_on_slot slot) xs ≡ Some owner → list_any (is_slot_claim slot owner.connection) xs ≡ true
    first_claims [] f = absurd cc
    first_claims (x ∷ xs) f = at_first (is_on_slot slot x) x xs (find (is_on_slot slot) xs) refl (first_claims xs) f

-- so has the caller, where it is the owner
owner_waits : (claim : SlotClaim) (claims : List SlotClaim) (owner : SlotClaim) → find (is_on_slot claim.slot) claims ≡ Some owner → (owner.connection == claim.connection) ≡ true → list_any (is_slot_claim claim.slot claim.connection) claims ≡ true
owner_waits claim claims owner f q =
    subst (λ (n : ℕ). list_any (is_slot_claim claim.slot n) claims ≡ true) (eqb-true owner.connection claim.connection q) (owner_claims claim.slot claims owner f)

put_shown : (slots : List (Option Holding)) (claim : SlotClaim) (name : List ℕ) → Tells slots claim.slot name → IsShownAs slots claim name → (claims : List SlotClaim) → Each (HeldAt slots) claims → (waits : Bool) → list_any (is_slot_claim claim.slot claim.connection) claims ≡ waits →
    map (named_claim slots) (claim_put claim claims) ≡ (if waits then with_flags name claim.connection claim.flags (map (named_claim slots) claims) else with_last name claim.connection claim.flags (map (named_claim slots) claims))
put_shown slots claim name t s claims e true w = rw w (flags_shown slots claim.slot claim.connection claim.flags name t claims e)
put_shown slots claim name t s claims e false w = rw w (last_shown slots claim name s claims)

by_tests : (slots : List (Option Holding)) (claim : SlotClaim) (name : List ℕ) → Tells slots claim.slot name → IsShownAs slots claim name → (claims : List SlotClaim) → Each (HeldAt slots) claims → (owner : ℕ) (waits : Bool) → list_any (is_slot_claim claim.slot claim.connection) claims ≡ waits → (same replaces leaves quits : Bool) → (same ≡ true → waits ≡ true) →
    map (named_claim slots) (step_done (if same then steps.Put else if replaces then steps.Replace (if quits then Some owner else None) else if leaves then steps.Remove else steps.Put) claim claims)
    ≡ (if same then with_flags name claim.connection claim.flags (map (named_claim slots) claims)
    else if replaces then claim_on name claim ∷ without name claim.connection (if quits then without name owner (map (named_claim slots) claims) else map (named_claim slots) claims)
    else if leaves then without name claim.connection (map (named_claim slots) claims)
    else if waits then with_flags name claim.connection claim.flags (map (named_claim slots) claims)
    else with_last name claim.connection claim.flags (map (named_claim slots) claims))
by_tests slots claim name t s claims e owner waits w true replaces leaves quits k = put_shown slots claim name t s claims e true (w ∙ k refl)
by_tests slots claim name t s claims e owner waits w false true leaves quits k =
    let left = without_owner (if quits then Some owner else None) claim.slot claims in
    ap (λ (c : Claim). c ∷ map (named_claim slots) (slot_without claim.slot claim.connection left)) (claim_shown slots claim name s)
    ∙ ap (λ (l : List Claim). claim_on name claim ∷ l) (without_shown slots claim.slot claim.connection name t left (leaving_held slots claim.slot owner claims e quits) ∙ ap (without name claim.connection) (leaving_shown slots claim.slot owner name t claims e quits))
by_tests slots claim name t s claims e owner waits w false false true quits k = without_shown slots claim.slot claim.connection name t claims e
by_tests slots claim name t s claims e owner waits w false false false quits k = put_shown slots claim name t s claims e waits w

by_first : (slots : List (Option Holding)) (claim : SlotClaim) (name : List ℕ) → Tells slots claim.slot name → IsShownAs slots claim name → (claims : List SlotClaim) → Each (HeldAt slots) claims → (o : Option SlotClaim) → find (is_on_slot claim.slot) claims ≡ o →
    map (named_claim slots) (step_done (step_of o claim.connection claim.flags) claim claims) ≡ requested_by (option_map (named_claim slots) o) name claim.connection claim.flags (map (named_claim slots) claims)
by_first slots claim name t s claims e None f =
    put_shown slots claim name t s claims e false (any-both (is_on_slot claim.slot) (is_by claim.connection) claims (any-from_none (is_on_slot claim.slot) claims f))
by_first slots claim name t s claims e (Some owner) f =
    rw (any-map (is_claim name claim.connection) (is_slot_claim claim.slot claim.connection) (named_claim slots) claims (claim_agrees slots claim.slot claim.connection name t claims e))
    (by_tests slots claim name t s claims e owner.connection (list_any (is_slot_claim claim.slot claim.connection) claims) refl (owner.connection == claim.connection) (may_replace (named_claim slots owner) claim.flags) (has_flag claim.flags do_not_queue) (has_flag owner.flags do_not_queue) (owner_waits claim claims owner f))

-- the step that is done for a claim on the slot
abbrev pub step_for : SlotClaim → List SlotClaim → Step
step_for claim claims =
    step_of (find (is_on_slot claim.slot) claims) claim.connection claim.flags

pub step_shown : (slots : List (Option Holding)) (claim : SlotClaim) (name : List ℕ) → Tells slots claim.slot name → IsShownAs slots claim name → (claims : List SlotClaim) → Each (HeldAt slots) claims → map (named_claim slots) (step_done (step_for claim claims) claim claims) ≡ after_requesting name claim.connection claim.flags (map (named_claim slots) claims)
step_shown slots claim name t s claims e =
    by_first slots claim name t s claims e (find (is_on_slot claim.slot) claims) refl
    ∙ ap (λ o. requested_by o name claim.connection claim.flags (map (named_claim slots) claims)) (sym (find-map (is_on name) (is_on_slot claim.slot) (named_claim slots) claims (on_agrees slots claim.slot name t claims e)))

-- ---- how many claims there are after it

module _ (most : ℕ) where
  above_is_over : (n : ℕ) → nat_lt most (n + 1) ≡ nat_le most n
  above_is_over n = same_from_decides (nat_lt most (n + 1)) (nat_le most n) (
    λ h. let k = (Decides-ltb most (n + 1)).0 h in omega arith,
    λ (h : most ≤ n). (Decides-ltb most (n + 1)).1 (omega arith),
  ) (leb-true most n, le-leb most n)

  pub not_above : (n : ℕ) → n ≤ most → nat_lt most n ≡ false
  not_above n h = by (nat_lt most n) refl
    where
      by : (b : Bool) → nat_lt most n ≡ b → b ≡ false
      by true e = let k = (Decides-ltb most n).0 e in absurd (omega arith)
      by false e = refl

  flags_keep : (slot connection flags : ℕ) (claims : List SlotClaim) → length (slot_with_flags slot connection flags claims) ≡ length claims
  flags_keep slot connection flags claims = length-map (λ (c : SlotClaim). if is_slot_claim slot connection c then record c { flags = flags } else c) claims

  replace_none : (slot connection : ℕ) (claims : List SlotClaim) → length claims ≤ most → (b : Bool) → list_any (is_slot_claim slot connection) claims ≡ b → nat_lt most (suc (length (slot_without slot connection claims))) ≡ (not b && true && nat_le most (length claims))
  replace_none slot connection claims h true e =
      let fewer = length-without (is_slot_claim slot connection) claims e in
      not_above (suc (length (slot_without slot connection claims))) (omega arith)
  replace_none slot connection claims h false e =
      let n = length claims in
      let same : length (slot_without slot connection claims) ≡ n = ap length (without_none (is_slot_claim slot connection) claims e) in
      let more : suc (length (slot_without slot connection claims)) ≡ n + 1 = omega (arith, same) in
      ap (nat_lt most) more ∙ above_is_over n

  not_added : (b c : Bool) → (not b && false && c) ≡ false
  not_added true c = refl
  not_added false c = refl

  replace_some : (slot connection owner : ℕ) (claims : List SlotClaim) → length claims ≤ most → list_any (is_slot_claim slot owner) claims ≡ true → (b : Bool) → nat_lt most (suc (length (slot_without slot connection (slot_without slot owner claims)))) ≡ (not b && false && nat_le most (length claims))
  replace_some slot connection owner claims h e b =
      let fewer = length-without (is_slot_claim slot owner) claims e in
      let no_more = length-filter-le (λ (c : SlotClaim). not (is_slot_claim slot connection c)) (slot_without slot owner claims) in
      not_above (suc (length (slot_without slot connection (slot_without slot owner claims)))) (omega arith) ∙ sym (not_added b (nat_le most (length claims)))

  put_last_fits : (claim : SlotClaim) (claims : List SlotClaim) → nat_lt most (length (claims ++ claim ∷ [])) ≡ nat_le most (length claims)
  put_last_fits claim claims =
      let n = length claims in
      let more : length (claims ++ claim ∷ []) ≡ n + 1 = omega (arith, length-append claims (claim ∷ [])) in
      ap (nat_lt most) more ∙ above_is_over n

  set_flags_fits : (claim : SlotClaim) (claims : List SlotClaim) → length claims ≤ most → nat_lt most (length (slot_with_flags claim.slot claim.connection claim.flags claims)) ≡ false
  set_flags_fits claim claims h =
      ap (nat_lt most) (flags_keep claim.slot claim.connection claim.flags claims) ∙ not_above (length claims) h

  remove_fits : (claim : SlotClaim) (claims : List SlotClaim) → length claims ≤ most → nat_lt most (length (slot_without claim.slot claim.connection claims)) ≡ false
  remove_fits claim claims h =
      let fewer = length-filter-le (λ (c : SlotClaim). not (is_slot_claim claim.slot claim.connection c)) claims in
      not_above (length (slot_without claim.slot claim.connection claims)) (omega arith)

  put_fits : (claim : SlotClaim) (claims : List SlotClaim) → length claims ≤ most → (waits : Bool) → list_any (is_slot_claim claim.slot claim.connection) claims ≡ waits → nat_lt most (length (claim_put claim claims)) ≡ is_over most steps.Put waits (length claims)
  put_fits claim claims h true w = rw w (set_flags_fits claim claims h)
  put_fits claim claims h false w = rw w (put_last_fits claim claims)

  fits_by_tests : (claim : SlotClaim) (claims : List SlotClaim) → length claims ≤ most → (owner : ℕ) → list_any (is_slot_claim claim.slot owner) claims ≡ true → (waits : Bool) → list_any (is_slot_claim claim.slot claim.connection) claims ≡ waits → (same replaces leaves quits : Bool) →
      nat_lt most (length (step_done (if same then steps.Put else if replaces then steps.Replace (if quits then Some owner else None) else if leaves then steps.Remove else steps.Put) claim claims))
      ≡ is_over most (if same then steps.Put else if replaces then steps.Replace (if quits then Some owner else None) else if leaves then steps.Remove else steps.Put) waits (length claims)
  fits_by_tests claim claims h owner o waits w true replaces leaves quits = put_fits claim claims h waits w
  fits_by_tests claim claims h owner o waits w false true leaves true = replace_some claim.slot claim.connection owner claims h o waits
  fits_by_tests claim claims h owner o waits w false true leaves false = replace_none claim.slot claim.connection claims h waits w
  fits_by_tests claim claims h owner o waits w false false true quits = remove_fits claim claims h ∙ sym (not_added waits (nat_le most (length claims)))
  fits_by_tests claim claims h owner o waits w false false false quits = put_fits claim claims h waits w

  fits_by_first : (claim : SlotClaim) (claims : List SlotClaim) → length claims ≤ most → (o : Option SlotClaim) → find (is_on_slot claim.slot) claims ≡ o →
      nat_lt most (length (step_done (step_of o claim.connection claim.flags) claim claims)) ≡ is_over most (step_of o claim.connection claim.flags) (list_any (is_slot_claim claim.slot claim.connection) claims) (length claims)
  fits_by_first claim claims h None e = put_fits claim claims h (list_any (is_slot_claim claim.slot claim.connection) claims) refl
  fits_by_first claim claims h (Some owner) e =
      fits_by_tests claim claims h owner.connection (owner_claims claim.slot claims owner e) (list_any (is_slot_claim claim.slot claim.connection) claims) refl (owner.connection == claim.connection) (has_flag owner.flags 1 && has_flag claim.flags 2) (has_flag claim.flags do_not_queue) (has_flag owner.flags do_not_queue)

  -- the test of the room is exact
  pub step_fits : (claim : SlotClaim) (claims : List SlotClaim) → length claims ≤ most → nat_lt most (length (step_done (step_for claim claims) claim claims)) ≡ is_over most (step_for claim claims) (list_any (is_slot_claim claim.slot claim.connection) claims) (length claims)
  step_fits claim claims h = fits_by_first claim claims h (find (is_on_slot claim.slot) claims) refl
