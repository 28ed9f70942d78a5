-- Names that clients ask about.
use Rattle.std.proofs.Common.{◌≡◌, ℕ, Bool, true, false, not, ◌&&◌, List, Ok, Err, if◌then◌else◌, arith}
use Rattle.owners.specs.declared.error.ClaimError.TheVariants.{BadName, Reserved}
use Rattle.owners.specs.WellKnown.{is_well_known, name_in}
use Rattle.signature.specs.Name.{bus_name}
use Rattle.owners.specs.Claimable.{is_claimable}
use Rattle.std.specs.Str.{bytes_eq}

by_tests : (eq known : Bool) (text name : List ℕ) → (if eq then Err Reserved else if known then Ok text else Err BadName) ≡ Ok name → (name ≡ text) × ((known && not eq) ≡ true)
by_tests true known text name e = grind arith
by_tests false true text name e = grind arith
by_tests false false text name e = grind arith

-- a name that is read is the text, and one that connections may own
pub name_read : (text name : List ℕ) → name_in text ≡ Ok name → (name ≡ text) × (is_claimable text ≡ true)
name_read text name e = by_tests (bytes_eq text bus_name) (is_well_known text) text name e
