-- The names with their claims and slots, and each step on them (D-Bus Specification, "Message Bus Names").
use Rattle.std.specs.Prelude.{◌≡◌, ◌≤◌, ◌+◌, ◌-◌, ℕ, Bool, true, false, not, List, [], ◌∷◌, Option, Some, None, Result, Ok, Err, map, filter, length, replicate, is_none, is_some, is_ok, slice_get, slice_set, nat_lt, nat_eq, ◌&&◌, ◌==◌, if◌then◌else◌}
use Rattle.std.specs.List.{list_any, list_all, position_from}
use Rattle.std.specs.Option.{option_eq, ok_or}
use Rattle.std.specs.Str.{bytes_eq}
use Rattle.std.specs.Ordering.{nat_cmp, is_lt}
use Rattle.std.specs.Cmp.Lexicographic.{slice_cmp}
use Rattle.owners.specs.declared.holding.Holding.{Holding}
use Rattle.owners.specs.declared.error.ClaimError.{ClaimError}
use Rattle.owners.specs.declared.error.ClaimError.TheVariants.{NamesFull, QueueFull}
use Rattle.owners.specs.declared.answer.Change.{Change}
use Rattle.owners.specs.declared.answer.Named.{Named}
use Rattle.owners.specs.declared.answer.Dropped.{Dropped}
use Rattle.owners.specs.declared.answer.Dropped.TheVariants.{Nothing, Waiting, Changed}
use Rattle.owners.specs.Queues.{Claim, is_on, is_of, owner_of, first_claim, without, without_all, after_requesting, request_reply, release_reply}

-- how many names can have a slot
abbrev pub max_names : ℕ
max_names = 1024

-- how many claims there can be
abbrev pub max_claims : ℕ
max_claims = 4096

-- the claims in queue order, and for each slot the name that has it, with the number of rules whose sender is
-- that name
pub record Registry : Type 0 where
  pub claims : List Claim
  pub slots : List (Option Holding)

-- no name has a claim or a slot
abbrev pub opening : Registry
opening = record { claims = []; slots = replicate max_names None }

abbrev pub is_held_by : List ℕ → Option Holding → Bool
is_held_by name None = false
is_held_by name (Some holding) = bytes_eq holding.name name

-- the slot that a name has
abbrev pub slot_of : List ℕ → List (Option Holding) → Option ℕ
slot_of name slots = position_from (is_held_by name) 0 slots

abbrev pub first_free : List (Option Holding) → Option ℕ
first_free slots = position_from is_none 0 slots

abbrev pub or_else : Option ℕ → Option ℕ → Option ℕ
or_else (Some n) other = Some n
or_else None other = other

-- the slot that a name has, or gets when it needs one: the lowest free one
abbrev pub slot_next : List ℕ → List (Option Holding) → Option ℕ
slot_next name slots = or_else (slot_of name slots) (first_free slots)

abbrev pub rules_at : Option (Option Holding) → ℕ
rules_at (Some (Some holding)) = holding.rules
rules_at _ = 0

abbrev pub rules_in : Option ℕ → List (Option Holding) → ℕ
rules_in None slots = 0
rules_in (Some slot) slots = rules_at (slice_get slots slot)

-- how many rules have the name as their sender
abbrev pub rules_of : List ℕ → List (Option Holding) → ℕ
rules_of name slots = rules_in (slot_of name slots) slots

abbrev pub put_at : Option ℕ → List ℕ → ℕ → List (Option Holding) → List (Option Holding)
put_at None name rules slots = slots
put_at (Some slot) name rules slots = slice_set slots slot (Some (record { name = name; rules = rules }))

-- the slots after a name has got one, if it had none, and has this number of rules
abbrev pub with_rules : List ℕ → ℕ → List (Option Holding) → List (Option Holding)
with_rules name rules slots = put_at (slot_next name slots) name rules slots

-- a name keeps its slot while a claim on it or a rule with it as sender is there
abbrev pub is_unused : Bool → Option Holding → Bool
is_unused claimed None = false
is_unused claimed (Some holding) = holding.rules == 0 && not claimed

abbrev pub is_claimed : List Claim → Option Holding → Bool
is_claimed claims None = false
is_claimed claims (Some holding) = list_any (is_on holding.name) claims

abbrev pub kept_slot : List Claim → Option Holding → Option Holding
kept_slot claims slot = if is_unused (is_claimed claims slot) slot then None else slot

-- the names with these claims left, where some are gone
abbrev pub settle_slots : List Claim → List (Option Holding) → Registry
settle_slots claims slots = record { claims = claims; slots = map (kept_slot claims) slots }

-- the change of a name's owner, if there is one
abbrev pub change_of : List ℕ → Option ℕ → Option ℕ → Option Change
change_of name old new =
    if option_eq nat_eq old new then None else Some (record { name = name; old = old; new = new })

abbrev pub change_between : List ℕ → List Claim → List Claim → Option Change
change_between name before after = change_of name (owner_of name before) (owner_of name after)

-- RequestName: what it is answered
abbrev pub request_answer : List ℕ → ℕ → ℕ → Registry → Result Named ClaimError
request_answer name connection flags names =
    if is_none (slot_next name names.slots) then Err NamesFull
    else if nat_lt max_claims (length (after_requesting name connection flags names.claims)) then Err QueueFull
    else Ok (record {
      answer = request_reply (first_claim name names.claims) connection flags;
      change = change_between name names.claims (after_requesting name connection flags names.claims);
    })

-- RequestName: the names after it
abbrev pub after_request : List ℕ → ℕ → ℕ → Registry → Registry
after_request name connection flags names =
    if is_ok (request_answer name connection flags names) then record {
      claims = after_requesting name connection flags names.claims;
      slots = with_rules name (rules_of name names.slots) names.slots;
    }
    else names

-- ReleaseName
abbrev pub release_answer : List ℕ → ℕ → Registry → Named
release_answer name connection names = record {
  answer = release_reply name connection names.claims;
  change = change_between name names.claims (without name connection names.claims);
}

abbrev pub after_release : List ℕ → ℕ → Registry → Registry
after_release name connection names = settle_slots (without name connection names.claims) names.slots

-- the lesser text in the order of bytes
abbrev pub lesser : List ℕ → Option (List ℕ) → Option (List ℕ)
lesser name None = Some name
lesser name (Some other) = if is_lt (slice_cmp nat_cmp other name) then Some other else Some name

abbrev pub least : List (List ℕ) → Option (List ℕ)
least [] = None
least (name ∷ names) = lesser name (least names)

-- the names that a connection has a claim on, and the least of them
abbrev pub names_of : ℕ → List Claim → List (List ℕ)
names_of connection claims = map (λ (c : Claim). c.name) (filter (is_of connection) claims)

abbrev pub least_of : ℕ → List Claim → Option (List ℕ)
least_of connection claims = least (names_of connection claims)

-- a connection gives up its claim on that name
abbrev pub dropped_by : Option Change → Dropped
dropped_by None = Waiting
dropped_by (Some change) = Changed change

abbrev pub drop_one_answer_at : Option (List ℕ) → ℕ → Registry → Dropped
drop_one_answer_at None connection names = Nothing
drop_one_answer_at (Some name) connection names =
    dropped_by (change_between name names.claims (without name connection names.claims))

abbrev pub drop_one_answer : ℕ → Registry → Dropped
drop_one_answer connection names = drop_one_answer_at (least_of connection names.claims) connection names

abbrev pub after_drop_one_at : Option (List ℕ) → ℕ → Registry → Registry
after_drop_one_at None connection names = names
after_drop_one_at (Some name) connection names = after_release name connection names

abbrev pub after_drop_one : ℕ → Registry → Registry
after_drop_one connection names = after_drop_one_at (least_of connection names.claims) connection names

-- a connection gives up all its claims
abbrev pub after_drop_all : ℕ → Registry → Registry
after_drop_all connection names = settle_slots (without_all connection names.claims) names.slots

-- a rule with the name as its sender is added
abbrev pub after_slot_for : List ℕ → Registry → Registry
after_slot_for name names =
    record names { slots = with_rules name (rules_of name names.slots + 1) names.slots }

-- the slot that it is added with
abbrev pub slot_for_answer : List ℕ → Registry → Result ℕ ClaimError
slot_for_answer name names = ok_or (slot_next name names.slots) NamesFull

-- such a rule is removed
abbrev pub after_slot_free : List ℕ → Registry → Registry
after_slot_free name names =
    settle_slots names.claims (with_rules name (rules_of name names.slots - 1) names.slots)

-- the slot is that of a name whose primary owner is the connection
abbrev pub is_owned_holding : ℕ → List Claim → Option (Option Holding) → Bool
is_owned_holding connection claims (Some (Some holding)) = option_eq nat_eq (owner_of holding.name claims) (Some connection)
is_owned_holding connection claims _ = false

abbrev pub is_owned_slot : ℕ → Registry → ℕ → Bool
is_owned_slot connection names slot = is_owned_holding connection names.claims (slice_get names.slots slot)

-- the least owned name after another, or the least of all
abbrev pub is_after : Option (List ℕ) → List ℕ → Bool
is_after None name = true
is_after (Some other) name = is_lt (slice_cmp nat_cmp other name)

abbrev pub next_name : Option (List ℕ) → List Claim → Option (List ℕ)
next_name other claims = least (filter (is_after other) (map (λ (c : Claim). c.name) claims))

-- What holds of the names at all times.
pub record IsRegistry (names : Registry) : Type 0 where
  -- there are as many slots as names can have one
  pub slots : length names.slots ≡ max_names
  pub claims : length names.claims ≤ max_claims
  -- no name has two slots
  pub own_slot : (slot : ℕ) (holding : Holding) → slice_get names.slots slot ≡ Some (Some holding) → slot_of holding.name names.slots ≡ Some slot
  -- a name with a claim has a slot
  pub claimed : list_all (λ (c : Claim). is_some (slot_of c.name names.slots)) names.claims ≡ true
  -- a name without a claim or a rule has none
  pub used : map (kept_slot names.claims) names.slots ≡ names.slots
