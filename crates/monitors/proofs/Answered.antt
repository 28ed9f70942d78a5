-- Whether a rule holds, given what was answered of its sender name.
use Rattle.std.proofs.Common.{ℕ, ◌≡◌, Bool, true, false, List, [], ◌∷◌, length, Option, Some, None, refl, inl, inr, arith, ap, subst}
use Rattle.std.specs.Prelude.{◌⊎◌, ◌↔◌, IsTrue, IfSome, MatchBool, All, Any}
use Rattle.message_view.specs.Message.{Message, destination_of}
use Rattle.match_rule.specs.RuleTree.{RuleTree, sender_name_of}
use Rattle.match_rule.specs.Holds.{Holds, Agrees}
use Rattle.monitors.specs.Sending.{HoldsAsLed, IsLed, destination_asked}
use Rattle.monitors.specs.Wanting.{HoldsFor, FailsFor, Wants, WantsNot}

agrees : (name : Option (List ℕ)) (b : Bool) → IfSome name (λ _. b ≡ b)
agrees None b = tt
agrees (Some name) b = refl

-- one answer serves for all names, since the rule asks for one at most
agreed : (rule : RuleTree) (b : Bool) → Agrees rule (λ _. b) b
agreed rule b = agrees (sender_name_of rule) b

-- a rule that asks for no destination, or to which the message isn't led, holds of the message as it is
pub unled : (asked : Option (List ℕ)) (led : Bool) (rule : RuleTree) (m : Message) (b r : Bool) → (asked ≡ None) ⊎ (led ≡ false) → (Agrees rule (λ _. b) b → IsTrue r ↔ Holds rule m (λ _. b)) → IsTrue r ↔ HoldsAsLed asked led rule m (λ _. b)
unled None led rule m b r not holds = holds (agreed rule b)
unled (Some name) false rule m b r not holds = holds (agreed rule b)
unled (Some name) true rule m b r (inl e) holds = absurd cc
unled (Some name) true rule m b r (inr e) holds = absurd cc

pub answered : (answers : List ℕ → Bool → Type 0) (unites : List ℕ → List ℕ → Bool → Type 0) (m : Message) (rule : RuleTree) (asked : Option (List ℕ)) (b led r : Bool)
    → asked ≡ destination_asked rule.conditions
    → IfSome (sender_name_of rule) (λ name. answers name b)
    → IsLed unites (destination_of m) asked led
    → (IsTrue r ↔ HoldsAsLed asked led rule m (λ _. b))
    → MatchBool r (HoldsFor answers unites m rule) (FailsFor answers unites m rule)
answered answers unites m rule asked b led r is says leads holds = go r holds'
  where
    holds' : IsTrue r ↔ HoldsAsLed (destination_asked rule.conditions) led rule m (λ _. b)
    holds' = subst (λ (a : Option (List ℕ)). IsTrue r ↔ HoldsAsLed a led rule m (λ _. b)) is holds

    leads' : IsLed unites (destination_of m) (destination_asked rule.conditions) led
    leads' = subst (λ (a : Option (List ℕ)). IsLed unites (destination_of m) a led) is leads

    go : (x : Bool) → (IsTrue x ↔ HoldsAsLed (destination_asked rule.conditions) led rule m (λ _. b)) → MatchBool x (HoldsFor answers unites m rule) (FailsFor answers unites m rule)
    go true h = ((λ _. b), led, says, leads', h.0 refl)
    go false h = ((λ _. b), led, says, leads', λ held. let e = h.1 held in absurd cc)

-- a list of no rules
pub no_rules : (rules : List RuleTree) → length rules ≡ 0 → rules ≡ []
no_rules [] e = refl
no_rules (rule ∷ rules) e = absurd (omega arith)

-- where there are rules, one of them has to hold
pub wants_by_rules : (answers : List ℕ → Bool → Type 0) (unites : List ℕ → List ℕ → Bool → Type 0) (m : Message) (rules : List RuleTree) (r : Bool)
    → (length rules ≡ 0 → ⊥)
    → MatchBool r (Any (HoldsFor answers unites m) rules) (All (FailsFor answers unites m) rules)
    → MatchBool r (Wants answers unites m rules) (WantsNot answers unites m rules)
wants_by_rules answers unites m rules true some any = inr any
wants_by_rules answers unites m rules false some all = ((λ e. some (ap (λ (l : List RuleTree). length l) e)), all)
