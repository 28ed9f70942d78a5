-- Commas in texts.
use Rattle.std.proofs.Common.{◌≡◌, ◌≢◌, ◌<◌, ap, true, false, ℕ, List, length, get_or, Bor}
use Rattle.std.specs.Prelude.{Option, None, Some, MatchOption}
use Rattle.std.specs.List.{list_any}
use Rattle.std.specs.Option.{option_map}
use Rattle.std.proofs.lemmas.List.Folds.{list_any_at}
use Rattle.endpoints.specs.Address.{comma, ends_value}
use Rattle.endpoints.specs.AddressParts.{parts_of}

-- a value that nothing ends has no comma
pub no_comma : (value : List ℕ) → list_any ends_value value ≡ false → (i : ℕ) → i < length value → get_or value i 0 ≢ comma
no_comma value plain i within is_comma =
    let found : list_any ends_value value ≡ true = list_any_at ends_value value i 0 within (ap ends_value is_comma) in
    cc

-- two texts that are known are the parts that are given
pub parts_given : (o : Option (Bor (List ℕ) × Bor (List ℕ))) (front back : List ℕ)
    → MatchOption o ⊥ (λ x. (x.0.now ≡ front) × (x.1.now ≡ back)) → option_map parts_of o ≡ Some (record { front = front; back = back })
parts_given None front back h = absurd h
parts_given (Some x) front back (e, f) = cc
