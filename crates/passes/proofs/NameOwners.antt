-- Owners of unique names.
use Rattle.std.proofs.Common.{◌≡◌, ◌⊎◌, ℕ, zero, suc, arith, ◌+◌, ◌<◌, ◌==◌, ◌||◌, true, List, [], ◌∷◌, ◌++◌, length, get_or, Option, Some, None, sym, ap, ◌∙◌, eq-eqb}
use Rattle.std.specs.Prelude.{MatchOption}
use Rattle.std.proofs.lemmas.Bool.{or_right}
use Rattle.program_table.specs.declared.connection.Connection.{Connection}
use Rattle.program_table.specs.Connections.{numbers_of, is_connected}
use Rattle.routing.specs.RecipientSeats.{is_in}
use Rattle.unique_name.specs.UniqueNames.{unique_name}
use Rattle.passes.specs.NameSearch.{NoneIsNamed}
use Rattle.passes.proofs.Finding.{is_in-connected}

module _ {M : Type 0} where
  -- the number of a connection among these is among theirs
  pub has_number : (connections : List (Connection M)) (k : ℕ) (c : Connection M) → k < length connections → c ≡ get_or connections k c → is_in c.number (numbers_of connections) ≡ true
  has_number [] k c lt is = absurd (omega (arith, lt))
  has_number (x ∷ xs) zero c lt is = ap (λ b. b || is_in c.number (numbers_of xs)) (eq-eqb x.number c.number (ap (λ (y : Connection M). y.number) (sym is)))
  has_number (x ∷ xs) (suc k) c lt is = or_right (x.number == c.number) (is_in c.number (numbers_of xs)) (has_number xs k c (omega (arith, lt)) is)

  -- the connections' numbers are those that are connected
  pub named_owner : (name : List ℕ) (connections list : List (Connection M)) (r : Option ℕ) → list ≡ connections → MatchOption r (NoneIsNamed name (numbers_of list)) (λ n. (name ≡ unique_name n) × (is_in n (numbers_of list) ≡ true))
      → MatchOption r ((n : ℕ) → name ≡ unique_name n → is_connected n connections ≡ true → ⊥) (λ n. (name ≡ unique_name n) × (is_connected n connections ≡ true))
  named_owner name connections list None same h = λ n e there. h n (ap (λ (l : List (Connection M)). is_in n (numbers_of l)) same ∙ is_in-connected n connections ∙ there) e
  named_owner name connections list (Some n) same h = (h.0, sym (is_in-connected n connections) ∙ ap (λ (l : List (Connection M)). is_in n (numbers_of l)) (sym same) ∙ h.1)
