-- Inner: the claims as they are kept, each with the slot of its name.
use Rattle.std.specs.Prelude.{◌≡◌, ◌≤◌, ℕ, Bool, true, false, not, List, [], ◌∷◌, ◌++◌, Option, Some, None, map, filter, find, length, option_map, is_some, is_none, slice_get, nat_lt, nat_le, ◌&&◌, ◌==◌, if◌then◌else◌}
use Rattle.std.specs.List.{list_any, list_all}
use Rattle.owners.specs.declared.holding.Holding.{Holding}
use Rattle.owners.specs.declared.claim.SlotClaim.{SlotClaim}
use Rattle.owners.specs.declared.step.Step.{Step}
use Rattle.owners.specs.declared.step.Step.TheVariants as steps
use Rattle.owners.specs.declared.answer.Change.{Change}
use Rattle.owners.specs.declared.answer.Named.{Named}
use Rattle.owners.specs.declared.answer.NameReply.{NameReply}
use Rattle.owners.specs.declared.answer.NameReply.TheVariants.{PrimaryOwner, InQueue, Exists, AlreadyOwner, Released, NonExistent, NotOwner}
use Rattle.owners.specs.Queues.{Claim, has_flag, allow_replacement, replace_existing, do_not_queue}
use Rattle.owners.specs.Registry.{Registry, max_names, max_claims, is_unused, is_after, change_of}

abbrev pub name_at : Option (Option Holding) → List ℕ
name_at (Some (Some holding)) = holding.name
name_at _ = []

-- the claim that a kept one stands for
abbrev pub named_claim : List (Option Holding) → SlotClaim → Claim
named_claim slots claim = record { name = name_at (slice_get slots claim.slot); connection = claim.connection; flags = claim.flags }

abbrev pub registry : List SlotClaim → List (Option Holding) → Registry
registry claims slots = record { claims = map (named_claim slots) claims; slots = slots }

abbrev pub is_name : Option (Option Holding) → Bool
is_name (Some (Some holding)) = true
is_name _ = false

abbrev pub is_on_slot : ℕ → SlotClaim → Bool
is_on_slot slot claim = claim.slot == slot

abbrev pub is_by : ℕ → SlotClaim → Bool
is_by connection claim = claim.connection == connection

abbrev pub is_slot_claim : ℕ → ℕ → SlotClaim → Bool
is_slot_claim slot connection claim = is_on_slot slot claim && is_by connection claim

-- a claim of the connection, and on the name that has the slot, if one is given
abbrev pub is_leaving : Option ℕ → ℕ → SlotClaim → Bool
is_leaving (Some slot) connection claim = is_slot_claim slot connection claim
is_leaving None connection claim = is_by connection claim

abbrev pub slot_without : ℕ → ℕ → List SlotClaim → List SlotClaim
slot_without slot connection claims = filter (λ c. not (is_slot_claim slot connection c)) claims

abbrev pub slot_with_flags : ℕ → ℕ → ℕ → List SlotClaim → List SlotClaim
slot_with_flags slot connection flags claims =
    map (λ (c : SlotClaim). if is_slot_claim slot connection c then record c { flags = flags } else c) claims

-- the claim takes the place of the connection's on the name, or is put last
abbrev pub claim_put : SlotClaim → List SlotClaim → List SlotClaim
claim_put claim claims =
    if list_any (is_slot_claim claim.slot claim.connection) claims then slot_with_flags claim.slot claim.connection claim.flags claims
    else claims ++ claim ∷ []

-- the owner's claim stays, or leaves
abbrev pub without_owner : Option ℕ → ℕ → List SlotClaim → List SlotClaim
without_owner None slot claims = claims
without_owner (Some owner) slot claims = slot_without slot owner claims

abbrev pub step_done : Step → SlotClaim → List SlotClaim → List SlotClaim
step_done steps.Put claim claims = claim_put claim claims
step_done steps.Remove claim claims = slot_without claim.slot claim.connection claims
step_done (steps.Replace leaving) claim claims =
    claim ∷ slot_without claim.slot claim.connection (without_owner leaving claim.slot claims)

abbrev pub leaving_owner : SlotClaim → Option ℕ
leaving_owner owner = if has_flag owner.flags do_not_queue then Some owner.connection else None

-- what is done to the claims, by the first on the name
abbrev pub step_of : Option SlotClaim → ℕ → ℕ → Step
step_of None connection flags = steps.Put
step_of (Some owner) connection flags =
    if owner.connection == connection then steps.Put
    else if has_flag owner.flags allow_replacement && has_flag flags replace_existing then steps.Replace (leaving_owner owner)
    else if has_flag flags do_not_queue then steps.Remove
    else steps.Put

-- what a request is answered, by the first claim on the name
abbrev pub reply_of : Option SlotClaim → ℕ → ℕ → NameReply
reply_of None connection flags = PrimaryOwner
reply_of (Some owner) connection flags =
    if owner.connection == connection then AlreadyOwner
    else if has_flag owner.flags allow_replacement && has_flag flags replace_existing then PrimaryOwner
    else if has_flag flags do_not_queue then Exists
    else InQueue

-- whether the step makes one more claim, where the caller has none
abbrev pub adds : Step → Bool
adds steps.Put = true
adds steps.Remove = false
adds (steps.Replace leaving) = is_none leaving

abbrev pub is_over : ℕ → Step → Bool → ℕ → Bool
is_over most step waits len = not waits && adds step && nat_le most len

-- the owner of the name that has the slot
abbrev pub slot_owner : ℕ → List SlotClaim → Option ℕ
slot_owner slot claims = option_map (λ (c : SlotClaim). c.connection) (find (is_on_slot slot) claims)

-- what becomes of a slot whose name is claimed or not
abbrev pub kept_if : Bool → Option Holding → Option Holding
kept_if claimed slot = if is_unused claimed slot then None else slot

abbrev pub kept_at : Bool → Option (Option Holding) → Option (Option Holding)
kept_at claimed place = option_map (kept_if claimed) place

-- the slots after those without a claim or a rule were let go
pub record AreLetGo (claims : List SlotClaim) (slots after : List (Option Holding)) : Type 0 where
  pub size : length after ≡ length slots
  pub at : (k : ℕ) → slice_get after k ≡ kept_at (list_any (is_on_slot k) claims) (slice_get slots k)

-- no slot from the mark on is held
pub record IsFreeFrom (mark : ℕ) (slots : List (Option Holding)) : Type 0 where
  pub within : mark ≤ length slots
  pub free : (k : ℕ) → mark ≤ k → is_name (slice_get slots k) ≡ false

-- each claim's slot is that of a name
abbrev pub are_held : List SlotClaim → List (Option Holding) → Bool
are_held claims slots = list_all (λ (c : SlotClaim). is_name (slice_get slots c.slot)) claims

-- Claims and slots where no name has two slots and each claim's slot is that of a name.
pub record IsPlaced (claims : List SlotClaim) (slots : List (Option Holding)) : Type 0 where
  pub count : length slots ≡ max_names
  pub fits : length claims ≤ max_claims
  pub unique : (i j : ℕ) (h k : Holding) → slice_get slots i ≡ Some (Some h) → slice_get slots j ≡ Some (Some k) → h.name ≡ k.name → i ≡ j
  pub held : are_held claims slots ≡ true

-- each name that has a slot has a claim or a rule
abbrev pub AreUsed : List SlotClaim → List (Option Holding) → Type 0
AreUsed claims slots =
    (slot : ℕ) (holding : Holding) → slice_get slots slot ≡ Some (Some holding) → is_unused (list_any (is_on_slot slot) claims) (Some holding) ≡ false

-- What holds of the kept claims and slots at all times.
pub record IsKept (claims : List SlotClaim) (slots : List (Option Holding)) : Type 0 where
  pub placed : IsPlaced claims slots
  pub used : AreUsed claims slots

-- the change that a request brings about, by its reply
abbrev pub change_for : List ℕ → NameReply → Option ℕ → ℕ → Option Change
change_for name PrimaryOwner old connection = Some (record { name = name; old = old; new = Some connection })
change_for name _ old connection = None

-- each claim's slot is below the number of slots
abbrev pub are_slots : List SlotClaim → Bool
are_slots claims = list_all (λ (c : SlotClaim). nat_lt c.slot max_names) claims

-- what a release is answered
abbrev pub slot_release_reply : ℕ → ℕ → List SlotClaim → NameReply
slot_release_reply slot connection claims =
    if list_any (is_slot_claim slot connection) claims then Released
    else if is_some (find (is_on_slot slot) claims) then NotOwner
    else NonExistent

abbrev pub slot_release_answer : ℕ → List ℕ → ℕ → List SlotClaim → Named
slot_release_answer slot name connection claims = record {
  answer = slot_release_reply slot connection claims;
  change = change_of name (slot_owner slot claims) (slot_owner slot (slot_without slot connection claims));
}

-- the name that a claim is on
abbrev pub claim_name : List (Option Holding) → SlotClaim → List ℕ
claim_name slots claim = name_at (slice_get slots claim.slot)

abbrev pub is_named_after : Option (List ℕ) → List (Option Holding) → SlotClaim → Bool
is_named_after other slots claim = is_after other (claim_name slots claim)

-- the connections with a claim on the name that has the slot
abbrev pub slot_queue : ℕ → List SlotClaim → List ℕ
slot_queue slot claims = map (λ (c : SlotClaim). c.connection) (filter (is_on_slot slot) claims)
