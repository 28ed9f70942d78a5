-- How a request changes the owner of a name.
use Rattle.std.specs.Prelude.{◌≡◌, ℕ, Bool, true, false, not, List, [], ◌∷◌, Option, Some, None, find, option_map, nat_eq, ◌==◌, if◌then◌else◌}
use Rattle.std.specs.Str.{bytes_eq}
use Rattle.std.proofs.Common.{refl, ap, ◌∙◌}
use Rattle.std.proofs.lemmas.Bool.{eq-eqb, and_right}
use Rattle.owners.specs.declared.answer.Change.{Change}
use Rattle.owners.specs.declared.answer.NameReply.TheVariants.{PrimaryOwner, InQueue, Exists, AlreadyOwner}
use Rattle.owners.specs.Queues.{Claim, is_on, is_claim, owner_of, has_flag, may_replace, do_not_queue, has_claim, with_flags, with_last, without, after_replacement, after_requesting, requested_by, request_reply, first_claim}
use Rattle.owners.specs.Registry.{change_of, change_between}
use Rattle.owners.specs.Kept.{change_for}
use Rattle.owners.proofs.Lists.{Each-always, find-map, find-filter, find-append_none, find-append_some}
use Rattle.owners.proofs.Placed.{name_same}

abbrev new_claim : List ℕ → ℕ → ℕ → Claim
new_claim name connection flags = record { name = name; connection = connection; flags = flags }

abbrev connection_of : Claim → ℕ
connection_of c = c.connection

is_on_new : (name : List ℕ) (connection flags : ℕ) (rest : Option Claim) (b : Bool) → b ≡ true → (if b then Some (new_claim name connection flags) else rest) ≡ Some (new_claim name connection flags)
is_on_new name connection flags rest true e = refl
is_on_new name connection flags rest false e = absurd cc

-- the owner after a claim that is put first
owner_first : (name : List ℕ) (connection flags : ℕ) (claims : List Claim) → owner_of name (new_claim name connection flags ∷ claims) ≡ Some connection
owner_first name connection flags claims =
    ap (option_map connection_of) (is_on_new name connection flags (find (is_on name) claims) (bytes_eq name name) (name_same name))

owner_last : (name : List ℕ) (connection flags : ℕ) (claims : List Claim) → find (is_on name) claims ≡ None → owner_of name (with_last name connection flags claims) ≡ Some connection
owner_last name connection flags claims e =
    ap (option_map connection_of) (find-append_none (is_on name) claims (new_claim name connection flags ∷ []) e) ∙ owner_first name connection flags []

owner_before_last : (name : List ℕ) (connection flags : ℕ) (claims : List Claim) (owner : Claim) → find (is_on name) claims ≡ Some owner → owner_of name (with_last name connection flags claims) ≡ Some owner.connection
owner_before_last name connection flags claims owner e =
    ap (option_map connection_of) (find-append_some (is_on name) claims (new_claim name connection flags ∷ []) owner e)

on_flagged : (name : List ℕ) (b : Bool) (flags : ℕ) (c : Claim) → is_on name (if b then record c { flags = flags } else c) ≡ is_on name c
on_flagged name true flags c = refl
on_flagged name false flags c = refl

by_flagged : (b : Bool) (flags : ℕ) (c : Claim) → Some (connection_of (if b then record c { flags = flags } else c)) ≡ Some c.connection
by_flagged true flags c = refl
by_flagged false flags c = refl

owner_flagged : (name : List ℕ) (connection flags : ℕ) (claims : List Claim) (owner : Claim) → find (is_on name) claims ≡ Some owner → owner_of name (with_flags name connection flags claims) ≡ Some owner.connection
owner_flagged name connection flags claims owner e =
    let g = λ (c : Claim). (if is_claim name connection c then record c { flags = flags } else c) in
    ap (option_map connection_of) (find-map (is_on name) (is_on name) g claims (Each-always (λ (c : Claim). is_on name (g c) ≡ is_on name c) (λ c. on_flagged name (is_claim name connection c) flags c) claims) ∙ ap (option_map g) e)
    ∙ by_flagged (is_claim name connection owner) flags owner

pub owner_stays : (name : List ℕ) (connection : ℕ) (claims : List Claim) (owner : Claim) → find (is_on name) claims ≡ Some owner → (owner.connection == connection) ≡ false → owner_of name (without name connection claims) ≡ Some owner.connection
owner_stays name connection claims owner e q =
    ap (option_map connection_of) (find-filter (is_on name) (λ c. not (is_claim name connection c)) claims owner (ap not (and_right (is_on name owner) (owner.connection == connection) q)) e)

no_change : (name : List ℕ) (n : ℕ) → change_of name (Some n) (Some n) ≡ None
no_change name n = by (nat_eq n n) (eq-eqb n n refl)
  where
    by : (b : Bool) → b ≡ true → (if b then None else Some (let c : Change = record { name = name; old = Some n; new = Some n } in c)) ≡ None
    by true e = refl
    by false e = absurd cc

a_change : (name : List ℕ) (m n : ℕ) → (m == n) ≡ false → change_of name (Some m) (Some n) ≡ Some (record { name = name; old = Some m; new = Some n })
a_change name m n e = by (nat_eq m n) e
  where
    by : (b : Bool) → b ≡ false → (if b then None else Some (let c : Change = record { name = name; old = Some m; new = Some n } in c)) ≡ Some (record { name = name; old = Some m; new = Some n })
    by false e = refl
    by true e = absurd cc

-- the cases of a request to a name that has an owner
by_tests : (name : List ℕ) (connection flags : ℕ) (claims : List Claim) (owner : Claim) → find (is_on name) claims ≡ Some owner → (same replaces leaves waits : Bool) → (owner.connection == connection) ≡ same → change_of name (Some owner.connection) (owner_of name (
    if same then with_flags name connection flags claims
    else if replaces then after_replacement owner name connection flags claims
    else if leaves then without name connection claims
    else if waits then with_flags name connection flags claims
    else with_last name connection flags claims))
    ≡ change_for name (if same then AlreadyOwner else if replaces then PrimaryOwner else if leaves then Exists else InQueue) (Some owner.connection) connection
by_tests name connection flags claims owner e true replaces leaves waits q =
    ap (change_of name (Some owner.connection)) (owner_flagged name connection flags claims owner e) ∙ no_change name owner.connection
by_tests name connection flags claims owner e false true leaves waits q =
    ap (change_of name (Some owner.connection)) (owner_first name connection flags (without name connection (if has_flag owner.flags do_not_queue then without name owner.connection claims else claims))) ∙ a_change name owner.connection connection q
by_tests name connection flags claims owner e false false true waits q =
    ap (change_of name (Some owner.connection)) (owner_stays name connection claims owner e q) ∙ no_change name owner.connection
by_tests name connection flags claims owner e false false false true q =
    ap (change_of name (Some owner.connection)) (owner_flagged name connection flags claims owner e) ∙ no_change name owner.connection
by_tests name connection flags claims owner e false false false false q =
    ap (change_of name (Some owner.connection)) (owner_before_last name connection flags claims owner e) ∙ no_change name owner.connection

by_first : (name : List ℕ) (connection flags : ℕ) (claims : List Claim) (o : Option Claim) → find (is_on name) claims ≡ o → change_of name (option_map connection_of o) (owner_of name (requested_by o name connection flags claims)) ≡ change_for name (request_reply o connection flags) (option_map connection_of o) connection
by_first name connection flags claims None e =
    ap (change_of name None) (owner_last name connection flags claims e)
by_first name connection flags claims (Some owner) e =
    by_tests name connection flags claims owner e (owner.connection == connection) (may_replace owner flags) (has_flag flags do_not_queue) (has_claim name connection claims) refl

-- the change that a request makes is told by its reply
pub request_changes : (name : List ℕ) (connection flags : ℕ) (claims : List Claim) → change_between name claims (after_requesting name connection flags claims) ≡ change_for name (request_reply (first_claim name claims) connection flags) (owner_of name claims) connection
request_changes name connection flags claims = by_first name connection flags claims (find (is_on name) claims) refl
