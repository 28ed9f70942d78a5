-- The claims of connections on names (D-Bus Specification, "Message Bus Names", and RequestName and ReleaseName of
-- "Message Bus Messages"). The queue of a name is the claims on it, in the order of the list.
use Rattle.std.specs.Prelude.{ℕ, Bool, not, List, [], ◌∷◌, ◌++◌, Option, Some, None, map, filter, find, option_map, is_some, bit_and, ◌==◌, ◌&&◌, if◌then◌else◌}
use Rattle.std.specs.List.{list_any}
use Rattle.std.specs.Str.{bytes_eq}
use Rattle.owners.specs.declared.answer.NameReply.{NameReply}
use Rattle.owners.specs.declared.answer.NameReply.TheVariants.{PrimaryOwner, InQueue, Exists, AlreadyOwner, Released, NonExistent, NotOwner}

-- a connection has asked for a name, and these are the flags of its last request
pub record Claim : Type 0 where
  pub name : List ℕ
  pub connection : ℕ
  pub flags : ℕ

-- the flags of RequestName: DBUS_NAME_FLAG_ALLOW_REPLACEMENT, DBUS_NAME_FLAG_REPLACE_EXISTING and
-- DBUS_NAME_FLAG_DO_NOT_QUEUE
abbrev pub allow_replacement : ℕ
allow_replacement = 1

abbrev pub replace_existing : ℕ
replace_existing = 2

abbrev pub do_not_queue : ℕ
do_not_queue = 4

abbrev pub has_flag : ℕ → ℕ → Bool
has_flag flags flag = not (bit_and flags flag == 0)

abbrev pub is_on : List ℕ → Claim → Bool
is_on name claim = bytes_eq claim.name name

abbrev pub is_of : ℕ → Claim → Bool
is_of connection claim = claim.connection == connection

abbrev pub is_claim : List ℕ → ℕ → Claim → Bool
is_claim name connection claim = is_on name claim && is_of connection claim

-- the connections that own a name or wait for it, the primary owner first
abbrev pub queue_of : List ℕ → List Claim → List ℕ
queue_of name claims = map (λ (c : Claim). c.connection) (filter (is_on name) claims)

-- the first claim on a name is its primary owner's
abbrev pub first_claim : List ℕ → List Claim → Option Claim
first_claim name claims = find (is_on name) claims

abbrev pub owner_of : List ℕ → List Claim → Option ℕ
owner_of name claims = option_map (λ (c : Claim). c.connection) (first_claim name claims)

abbrev pub has_claim : List ℕ → ℕ → List Claim → Bool
has_claim name connection claims = list_any (is_claim name connection) claims

-- the claims without that of a connection on a name
abbrev pub without : List ℕ → ℕ → List Claim → List Claim
without name connection claims = filter (λ c. not (is_claim name connection c)) claims

-- the claims without those of a connection
abbrev pub without_all : ℕ → List Claim → List Claim
without_all connection claims = filter (λ c. not (is_of connection c)) claims

-- a connection's claim on a name keeps its place and gets these flags
abbrev pub with_flags : List ℕ → ℕ → ℕ → List Claim → List Claim
with_flags name connection flags claims =
    map (λ (c : Claim). if is_claim name connection c then record c { flags = flags } else c) claims

-- a connection's claim is put last
abbrev pub with_last : List ℕ → ℕ → ℕ → List Claim → List Claim
with_last name connection flags claims =
    claims ++ (record { name = name; connection = connection; flags = flags }) ∷ []

-- the owner, whose claim allows it, is replaced: it keeps the second place, or leaves where it doesn't queue
abbrev pub after_replacement : Claim → List ℕ → ℕ → ℕ → List Claim → List Claim
after_replacement owner name connection flags claims =
    (record { name = name; connection = connection; flags = flags })
    ∷ without name connection (if has_flag owner.flags do_not_queue then without name owner.connection claims else claims)

-- whether a request with these flags replaces the owner
abbrev pub may_replace : Claim → ℕ → Bool
may_replace owner flags = has_flag owner.flags allow_replacement && has_flag flags replace_existing

-- RequestName: the four cases, by the first claim on the name
abbrev pub request_reply : Option Claim → ℕ → ℕ → NameReply
request_reply None connection flags = PrimaryOwner
request_reply (Some owner) connection flags =
    if owner.connection == connection then AlreadyOwner
    else if may_replace owner flags then PrimaryOwner
    else if has_flag flags do_not_queue then Exists
    else InQueue

abbrev pub requested_by : Option Claim → List ℕ → ℕ → ℕ → List Claim → List Claim
requested_by None name connection flags claims = with_last name connection flags claims
requested_by (Some owner) name connection flags claims =
    if owner.connection == connection then with_flags name connection flags claims
    else if may_replace owner flags then after_replacement owner name connection flags claims
    else if has_flag flags do_not_queue then without name connection claims
    else if has_claim name connection claims then with_flags name connection flags claims
    else with_last name connection flags claims

-- the claims after a RequestName
abbrev pub after_requesting : List ℕ → ℕ → ℕ → List Claim → List Claim
after_requesting name connection flags claims = requested_by (first_claim name claims) name connection flags claims

-- ReleaseName
abbrev pub release_reply : List ℕ → ℕ → List Claim → NameReply
release_reply name connection claims =
    if has_claim name connection claims then Released
    else if is_some (first_claim name claims) then NotOwner
    else NonExistent
