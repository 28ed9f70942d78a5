-- Recipients and owners are connections that are there.
use Rattle.std.proofs.Common.{◌≡◌, ◌⊎◌, inl, inr, ℕ, zero, suc, ◌+◌, ◌<◌, ◌≤◌, ◌==◌, ◌||◌, Bool, true, false, true≢false, cond, List, [], ◌∷◌, length, Option, Some, None, refl, sym, ap, subst, ◌∙◌, arith, eqb-true}
use Rattle.std.specs.Prelude.{Contains, slice_index, is_some, option_map}
use Rattle.std.specs.List.{list_all}
use Rattle.std.specs.List.Sorted.{IsStrictlyIncreasing}
use Rattle.std.proofs.lemmas.Bool.{or_cases, and_parts}
use Rattle.message_view.specs.Message.{Message}
use Rattle.entry_table.specs.declared.entry.Entry.{Entry}
use Rattle.program_table.specs.declared.connection.Connection.{Connection}
use Rattle.program_table.specs.Connections.{numbers_of, connection_of, is_connected, mailbox_of}
use Rattle.program_table.specs.IsState.{IsState}
use Rattle.program_table.specs.Recipients.{AreRecipients}
use Rattle.program_table.specs.State.{State}
use Rattle.routing.specs.RecipientSeats.{RisesFrom, is_in}

contains_here : {X : Type 0} (x : X) (xs : List X) → Contains (x ∷ xs) x
contains_here x xs = (0, omega arith, refl)

contains_later : {X : Type 0} (x y : X) (xs : List X) → Contains xs y → Contains (x ∷ xs) y
contains_later x y xs (k, less, e) = (suc k, omega arith, e)

contains_cases : {X : Type 0} (x y : X) (xs : List X) → Contains (x ∷ xs) y → (x ≡ y) ⊎ Contains xs y
contains_cases x y xs (zero, less, e) = inl e
contains_cases x y xs (suc k, less, e) = inr (k, omega arith, e)

contains_none : {X : Type 0} (y : X) → Contains [] y → ⊥
contains_none y (k, less, e) = omega arith

all_at : {X : Type 0} (p : X → Bool) (x : X) (xs : List X) → list_all p xs ≡ true → Contains xs x → p x ≡ true
all_at p x [] e there = absurd (contains_none x there)
all_at p x (y ∷ xs) e there = pick (contains_cases y x xs there)
    (λ (same : y ≡ x). ap p (sym same) ∙ (and_parts (p y) (list_all p xs) e).0) (λ (later : Contains xs x). all_at p x xs (and_parts (p y) (list_all p xs) e).1 later)
  where
    pick : {P : Type 0} → (y ≡ x) ⊎ Contains xs x → (y ≡ x → P) → (Contains xs x → P) → P
    pick (inl k) f g = f k
    pick (inr k) f g = g k

is_in-contains : (n : ℕ) (xs : List ℕ) → is_in n xs ≡ true → Contains xs n
is_in-contains n [] e = absurd (true≢false (sym e))
is_in-contains n (x ∷ xs) e = pick (or_cases (x == n) (is_in n xs) e)
    (λ k. let P : ℕ → Type 0 = λ m. Contains (x ∷ xs) m in subst P (eqb-true x n k) (contains_here x xs)) (λ k. contains_later x n xs (is_in-contains n xs k))
  where
    pick : {P : Type 0} → ((x == n) ≡ true) ⊎ (is_in n xs ≡ true) → ((x == n) ≡ true → P) → (is_in n xs ≡ true → P) → P
    pick (inl k) f g = f k
    pick (inr k) f g = g k

-- recipients rise from 0 on
rises : (n x : ℕ) (xs : List ℕ) → n ≤ x → ((k : ℕ) → k + 1 < length (x ∷ xs) → slice_index (x ∷ xs) k < slice_index (x ∷ xs) (k + 1)) → RisesFrom n (x ∷ xs)
rises n x [] le h = (le, tt)
rises n x (y ∷ ys) le h =
    let up : x < y = h 0 (omega arith) in (le, rises (x + 1) y ys (omega (arith, up)) (λ k lt. tail k lt))
  where
    tail : (k : ℕ) → k + 1 < length (y ∷ ys) → slice_index (y ∷ ys) k < slice_index (y ∷ ys) (k + 1)
    tail k lt =
        let P : ℕ → Type 0 = λ j. slice_index (x ∷ (y ∷ ys)) (suc k) < slice_index (x ∷ (y ∷ ys)) j in
        let e : suc k + 1 ≡ suc (k + 1) = omega arith in
        subst P e (h (suc k) (omega (arith, lt)))

pub rising : (xs : List ℕ) → IsStrictlyIncreasing xs → RisesFrom 0 xs
rising [] h = tt
rising (x ∷ xs) h = rises 0 x xs (omega arith) h

module _ {M : Type 0} where
  -- a connection that is there has a mailbox
  pub has_mailbox : (n : ℕ) (connections : List (Connection M)) → is_connected n connections ≡ true → None ≡ mailbox_of n connections → ⊥
  has_mailbox n connections e f = go (connection_of n connections) e f
    where
      go : (o : Option (Connection M)) → is_some o ≡ true → None ≡ option_map (λ (c : Connection M). c.mailbox) o → ⊥
      go None e f = absurd (true≢false (sym e))
      go (Some c) e f = absurd (cc)

  pub is_in-connected : (n : ℕ) (connections : List (Connection M)) → is_in n (numbers_of connections) ≡ is_connected n connections
  is_in-connected n [] = refl
  is_in-connected n (c ∷ cs) = pick (c.number == n) (is_in-connected n cs)
    where
      pick : (b : Bool) → is_in n (numbers_of cs) ≡ is_connected n cs → (b || is_in n (numbers_of cs)) ≡ is_some (cond b (Some c) (connection_of n cs))
      pick true e = refl
      pick false e = e

  -- entries are of connections, so recipients are there
  pub recipients_there : (s : State M) (sender : Option ℕ) (m : Message) (numbers : List ℕ) → IsState s → AreRecipients s sender m numbers → (n : ℕ) → is_in n numbers ≡ true → is_connected n s.connections ≡ true
  recipients_there s sender m numbers is r n e = let k = (r.exact n).0 (is_in-contains n numbers e) in entry_there k.0 k.1 k.2
    where
      entry_there : (e : Entry) → Contains s.registrations.entries e → e.connection ≡ n → is_connected n s.connections ≡ true
      entry_there e there of =
          ap (λ (k : ℕ). is_connected k s.connections) (sym of) ∙ all_at (λ (x : Entry). is_connected x.connection s.connections) e s.registrations.entries is.of_connections there
