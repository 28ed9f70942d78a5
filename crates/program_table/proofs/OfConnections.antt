-- Entries and claims stay of connections.
use Rattle.std.proofs.Common.{◌≡◌, ℕ, ◌==◌, Bool, true, false, cond, not, ◌&&◌, List, [], ◌∷◌, ◌++◌, filter, Option, Some, None, refl, arith}
use Rattle.std.specs.Prelude.{Result, Err, is_ok}
use Rattle.std.proofs.lemmas.Bool.Decides.{nat_tests}
use Rattle.std.specs.List.{list_all}
use Rattle.std.proofs.lemmas.Bool.{and_from, and_parts}
use Rattle.owners.specs.Queues as queues
use Rattle.owners.specs.Queues.{Claim, is_claim, has_flag, do_not_queue, may_replace, has_claim, without, with_flags, with_last, after_replacement, requested_by, first_claim}
use Rattle.entry_table.specs.declared.entry.Entry.{Entry}
use Rattle.entry_table.specs.Entries.{is_of, is_entry}
use Rattle.program_table.specs.declared.command.Reply.{Reply}
use Rattle.program_table.specs.declared.refusal.Refusal.{Refusal}
use Rattle.program_table.specs.declared.refusal.Refusal.TheVariants as refusals
use Rattle.program_table.specs.declared.connection.Connection.{Connection}
use Rattle.program_table.specs.Connections.{has_number, is_connected, with_command, without_connection}
use Rattle.program_table.specs.Registrations.{Registrations, without_entry, with_request, without_claim, without_all_of}
use Rattle.program_table.specs.State.{State}
use Rattle.program_table.specs.Refusals.{◌>>=◌}
use Rattle.program_table.specs.Does.{refuse_unconnected}
use Rattle.program_table.specs.OfConnections.{AreOfConnections}
use Rattle.program_table.proofs.Adding.{all-push}

-- one test holds of each element where another one does
all_imply : {X : Type 0} (p q : X → Bool) (xs : List X) → ((x : X) → p x ≡ true → q x ≡ true) → list_all p xs ≡ true → list_all q xs ≡ true
all_imply p q [] h e = refl
all_imply p q (x ∷ xs) h e =
    and_from (q x) (list_all q xs) (h x (and_parts (p x) (list_all p xs) e).0) (all_imply p q xs h (and_parts (p x) (list_all p xs) e).1)

-- the same of the elements that are kept, where it may use that they are
all_kept_imply : {X : Type 0} (p q keep : X → Bool) (xs : List X) → ((x : X) → p x ≡ true → keep x ≡ true → q x ≡ true) → list_all p xs ≡ true → list_all q (filter keep xs) ≡ true
all_kept_imply p q keep [] h e = refl
all_kept_imply p q keep (x ∷ xs) h e =
    go (keep x) refl (all_kept_imply p q keep xs h (and_parts (p x) (list_all p xs) e).1)
  where
    go : (b : Bool) → keep x ≡ b → list_all q (filter keep xs) ≡ true → list_all q (cond b (x ∷ filter keep xs) (filter keep xs)) ≡ true
    go true is rest = and_from (q x) (list_all q (filter keep xs)) (h x (and_parts (p x) (list_all p xs) e).0 is) rest
    go false is rest = rest

all_kept : {X : Type 0} (p keep : X → Bool) (xs : List X) → list_all p xs ≡ true → list_all p (filter keep xs) ≡ true
all_kept p keep xs e = all_kept_imply p p keep xs (λ x is kept. is) e

all_either : {X : Type 0} (p : X → Bool) (b : Bool) (xs ys : List X) → list_all p xs ≡ true → list_all p ys ≡ true → list_all p (cond b xs ys) ≡ true
all_either p true xs ys e f = e
all_either p false xs ys e f = f

-- claims of a request are claims that were there, and the connection's
module _ (p : ℕ → Bool) where
  abbrev holds_of : Claim → Bool
  holds_of c = p c.connection

  all_with_flags : (name : List ℕ) (connection flags : ℕ) (claims : List Claim) → list_all holds_of claims ≡ true → list_all holds_of (with_flags name connection flags claims) ≡ true
  all_with_flags name connection flags [] e = refl
  all_with_flags name connection flags (c ∷ claims) e =
      go (is_claim name connection c) (all_with_flags name connection flags claims (and_parts (holds_of c) (list_all holds_of claims) e).1)
    where
      go : (b : Bool) → list_all holds_of (with_flags name connection flags claims) ≡ true → (holds_of (cond b (record c { flags = flags }) c) && list_all holds_of (with_flags name connection flags claims)) ≡ true
      go true rest = and_from (holds_of c) _ (and_parts (holds_of c) (list_all holds_of claims) e).0 rest
      go false rest = and_from (holds_of c) _ (and_parts (holds_of c) (list_all holds_of claims) e).0 rest

  all_replaced : (owner : Claim) (name : List ℕ) (connection flags : ℕ) (claims : List Claim) → list_all holds_of claims ≡ true → p connection ≡ true → list_all holds_of (after_replacement owner name connection flags claims) ≡ true
  all_replaced owner name connection flags claims e is =
      and_from (p connection) _ is (
      all_kept holds_of (λ c. not (is_claim name connection c)) (cond (has_flag owner.flags do_not_queue) (without name owner.connection claims) claims)
      (all_either holds_of (has_flag owner.flags do_not_queue) (without name owner.connection claims) claims (all_kept holds_of (λ c. not (is_claim name owner.connection c)) claims e) e))

  all_last : (name : List ℕ) (connection flags : ℕ) (claims : List Claim) → list_all holds_of claims ≡ true → p connection ≡ true → list_all holds_of (with_last name connection flags claims) ≡ true
  all_last name connection flags claims e is = all-push holds_of claims (record { name = name; connection = connection; flags = flags }) e is

  all_requested : (o : Option Claim) (name : List ℕ) (connection flags : ℕ) (claims : List Claim) → list_all holds_of claims ≡ true → p connection ≡ true → list_all holds_of (requested_by o name connection flags claims) ≡ true
  all_requested None name connection flags claims e is = all_last name connection flags claims e is
  all_requested (Some owner) name connection flags claims e is =
      let same = all_with_flags name connection flags claims e in
      let last = all_last name connection flags claims e is in
      all_either holds_of (owner.connection == connection) (with_flags name connection flags claims) _ same
      (all_either holds_of (may_replace owner flags) (after_replacement owner name connection flags claims) _ (all_replaced owner name connection flags claims e is)
      (all_either holds_of (has_flag flags do_not_queue) (without name connection claims) _ (all_kept holds_of (λ c. not (is_claim name connection c)) claims e)
      (all_either holds_of (has_claim name connection claims) (with_flags name connection flags claims) (with_last name connection flags claims) same last)))

two_numbers : (m n k : ℕ) → (m == n) ≡ true → not (m == k) ≡ false → not (n == k) ≡ true → ⊥
two_numbers m n k is kept other = grind (arith, nat_tests)

module _ {M : Type 0} where
  -- who is connected
  connected-with_command : (n number : ℕ) (cs : List (Connection M)) → is_connected n cs ≡ true → is_connected n (with_command number cs) ≡ true
  connected-with_command n number [] e = e
  connected-with_command n number (c ∷ cs) e = go (has_number n c) refl (connected-with_command n number cs)
    where
      go : (b : Bool) → has_number n c ≡ b → (is_connected n cs ≡ true → is_connected n (with_command number cs) ≡ true) → is_connected n (with_command number (c ∷ cs)) ≡ true
      go true is later = rw is refl
      go false is later = rw is (later (rw is at e))

  connected-append : (n : ℕ) (cs ds : List (Connection M)) → is_connected n cs ≡ true → is_connected n (cs ++ ds) ≡ true
  connected-append n [] ds e = cc
  connected-append n (c ∷ cs) ds e = go (has_number n c) refl (connected-append n cs ds)
    where
      go : (b : Bool) → has_number n c ≡ b → (is_connected n cs ≡ true → is_connected n (cs ++ ds) ≡ true) → is_connected n (c ∷ (cs ++ ds)) ≡ true
      go true is later = rw is refl
      go false is later = rw is (later (rw is at e))

  connected-without : (n number : ℕ) (cs : List (Connection M)) → not (n == number) ≡ true → is_connected n cs ≡ true → is_connected n (without_connection number cs) ≡ true
  connected-without n number [] other e = e
  connected-without n number (c ∷ cs) other e = go (has_number n c) refl (not (has_number number c)) refl (connected-without n number cs other)
    where
      go : (b : Bool) → has_number n c ≡ b → (k : Bool) → not (has_number number c) ≡ k → (is_connected n cs ≡ true → is_connected n (without_connection number cs) ≡ true) → is_connected n (cond k (c ∷ without_connection number cs) (without_connection number cs)) ≡ true
      go true is true kept later = rw is refl
      go true is false kept later = absurd (two_numbers c.number n number is kept other)
      go false is true kept later = rw is (later (rw is at e))
      go false is false kept later = later (rw is at e)

  abbrev entry_of : List (Connection M) → Entry → Bool
  entry_of cs e = is_connected e.connection cs

  abbrev claim_of : List (Connection M) → Claim → Bool
  claim_of cs c = is_connected c.connection cs

  -- the connections become others, among which each of them is
  moved : (cs ds : List (Connection M)) (r : Registrations) → ((n : ℕ) → is_connected n cs ≡ true → is_connected n ds ≡ true) → AreOfConnections cs r → AreOfConnections ds r
  moved cs ds r h is = record {
    entries = all_imply (entry_of cs) (entry_of ds) r.entries (λ e. h e.connection) is.entries;
    claims = all_imply (claim_of cs) (claim_of ds) r.claims (λ c. h c.connection) is.claims;
  }

  pub counted_theirs : (number : ℕ) (cs : List (Connection M)) (r : Registrations) → AreOfConnections cs r → AreOfConnections (with_command number cs) r
  counted_theirs number cs r is = moved cs (with_command number cs) r (λ n. connected-with_command n number cs) is

  pub connected_theirs : (cs ds : List (Connection M)) (r : Registrations) → AreOfConnections cs r → AreOfConnections (cs ++ ds) r
  connected_theirs cs ds r is = moved cs (cs ++ ds) r (λ n. connected-append n cs ds) is

  pub removed_theirs : (c : ℕ) (id : Option ℕ) (cs : List (Connection M)) (r : Registrations) → AreOfConnections cs r → AreOfConnections cs (without_entry c id r)
  removed_theirs c None cs r is = is
  removed_theirs c (Some id) cs r is = record { entries = all_kept (entry_of cs) (λ e. not (is_entry c id e)) r.entries is.entries; claims = is.claims }

  pub requested_theirs : (name : List ℕ) (c flags : ℕ) (cs : List (Connection M)) (r : Registrations) → is_connected c cs ≡ true → AreOfConnections cs r → AreOfConnections cs (with_request name c flags r)
  requested_theirs name c flags cs r there is = record {
    entries = is.entries;
    claims = all_requested (λ n. is_connected n cs) (first_claim name r.claims) name c flags r.claims is.claims there;
  }

  pub released_theirs : (c : ℕ) (name : Option (List ℕ)) (cs : List (Connection M)) (r : Registrations) → AreOfConnections cs r → AreOfConnections cs (without_claim c name r)
  released_theirs c None cs r is = is
  released_theirs c (Some name) cs r is = record { entries = is.entries; claims = all_kept (claim_of cs) (λ k. not (is_claim name c k)) r.claims is.claims }

  pub closed_theirs : (c : ℕ) (cs : List (Connection M)) (r : Registrations) → AreOfConnections cs r → AreOfConnections (without_connection c cs) (without_all_of c r)
  closed_theirs c cs r is = record {
    entries = all_kept_imply (entry_of cs) (entry_of (without_connection c cs)) (λ e. not (is_of c e)) r.entries (λ e there kept. connected-without e.connection c cs kept there) is.entries;
    claims = all_kept_imply (claim_of cs) (claim_of (without_connection c cs)) (λ k. not (queues.is_of c k)) r.claims (λ k there kept. connected-without k.connection c cs kept there) is.claims;
  }

  -- a command of a connection is only accepted where the connection is there
  pub accepted_there : (full : Bool) (c : ℕ) (s : State M) (rest : Result Reply Refusal) → is_ok (cond full (Err refusals.Closed) (refuse_unconnected c s >>= λ there. rest)) ≡ true → is_connected c s.connections ≡ true
  accepted_there true c s rest e = cc
  accepted_there false c s rest e = go (is_connected c s.connections) refl
    where
      go : (b : Bool) → is_connected c s.connections ≡ b → is_connected c s.connections ≡ true
      go true is = is
      go false is = let f = rw is at e in cc
