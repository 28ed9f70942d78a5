-- The sender that a rule asks for is a name that a connection can own.
use Rattle.std.proofs.Common.{◌≡◌, ℕ, Bool, true, false, not, List, [], ◌∷◌, Some, refl}
use Rattle.std.specs.Prelude.{Ok}
use Rattle.std.specs.Str.{bytes_eq}
use Rattle.std.proofs.lemmas.Bool.{and_parts}
use Rattle.signature.specs.Name.{is_bus_name, bus_name}
use Rattle.match_rule.specs.declared.condition.Condition.{Condition}
use Rattle.match_rule.specs.declared.condition.Condition.TheVariants.{Kind, Sender, Compares}
use Rattle.match_rule.specs.RuleTree.{RuleTree, sender_name_of, first_owned_name, is_owned_name}
use Rattle.match_rule.specs.Parts.{have_sender_names}
use Rattle.owners.specs.WellKnown.{name_in, is_unique}

pub record IsOwnable (name : List ℕ) : Type 0 where
  pub bus : is_bus_name name ≡ true
  pub owned : is_owned_name name ≡ true

owned_at : (b : Bool) (sender name : List ℕ) (cs : List Condition) → is_owned_name sender ≡ b → is_bus_name sender ≡ true
    → (first_owned_name cs ≡ Some name → IsOwnable name) → first_owned_name (Sender sender ∷ cs) ≡ Some name → IsOwnable name
owned_at true sender name cs is bus later e =
    let f = rw is at e in let same : sender ≡ name = cc in record { bus = rw (← same) bus; owned = rw (← same) is }
owned_at false sender name cs is bus later e = later (rw is at e)

owned_in : (cs : List Condition) (name : List ℕ) → have_sender_names cs ≡ true → first_owned_name cs ≡ Some name → IsOwnable name
owned_in [] name h e = cc
owned_in (Sender sender ∷ cs) name h e =
    let parts = and_parts (is_bus_name sender) (have_sender_names cs) h in
    owned_at (is_owned_name sender) sender name cs refl parts.0 (owned_in cs name parts.1) e
owned_in (Kind kind ∷ cs) name h e = owned_in cs name h e
owned_in (Compares source relation value ∷ cs) name h e = owned_in cs name h e

not_true : (b : Bool) → not b ≡ true → b ≡ false
not_true true e = cc
not_true false e = refl

not_unique : (name : List ℕ) → is_owned_name name ≡ true → is_unique name ≡ false
not_unique [] h = refl
not_unique (b ∷ rest) h = not_true _ (and_parts _ _ h).0

-- it is read as itself
pub is_read : (rule : RuleTree) (name : List ℕ) → have_sender_names rule.conditions ≡ true → sender_name_of rule ≡ Some name → name_in name ≡ Ok name
is_read rule name h e =
    let is = owned_in rule.conditions name h e in
    let plain = not_unique name is.owned in
    let other : bytes_eq name bus_name ≡ false = not_true _ (and_parts _ _ is.owned).1 in
    rw (other, is.bus, plain) refl
