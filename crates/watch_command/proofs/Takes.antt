-- Which rules take a message.
use Rattle.std.proofs.Common.{◌≡◌, ◌↔◌, ℕ, ◌+◌, ◌<◌, Bool, true, false, List, ◌∷◌, Option, Some, None, length, get_or, drop, inl, inr, sym, subst, ◌∙◌, ap, add-one, drop-cons, Bor, suc}
use Rattle.std.specs.Prelude.{IfSome, option_map}
use Rattle.message_view.specs.Message.{Message}
use Rattle.match_rule.specs.RuleTree.{RuleTree}
use Rattle.watch_command.specs.Owners.{Ownerships, owns}
use Rattle.watch_command.specs.Showing.{TakesRule, SomeTakes, AcceptsIfAny, IsTakenByRules, Selects}
use Rattle.watch_command.specs.declared.criteria.Acceptor.{Acceptor}
use Rattle.watch_command.specs.declared.criteria.Destinations.{Destinations}

-- a rule's name of its sender is owned as far as the code found
pub agreed : (owners : Ownerships) (asked : Option (Bor (List ℕ))) (name sent sender : Option (List ℕ)) (r : Bool) → option_map (λ (text : Bor (List ℕ)). text.now) asked ≡ name → sent ≡ sender → IfSome asked (λ (text : Bor (List ℕ)). owns owners sent text.now ≡ r) → IfSome name (λ (text : List ℕ). owns owners sender text ≡ r)
agreed owners asked name sent sender r is same found =
    subst (λ (s : Option (List ℕ)). IfSome name (λ (text : List ℕ). owns owners s text ≡ r)) same
    (subst (λ (n : Option (List ℕ)). IfSome n (λ (text : List ℕ). owns owners sent text ≡ r)) is (go asked found))
  where
    go : (asked : Option (Bor (List ℕ))) → IfSome asked (λ (text : Bor (List ℕ)). owns owners sent text.now ≡ r) → IfSome (option_map (λ (text : Bor (List ℕ)). text.now) asked) (λ (text : List ℕ). owns owners sent text ≡ r)
    go None h = h
    go (Some text) h = h

-- the rule at a place, and those after it
pub rest_at : (rules : List RuleTree) (i : ℕ) (rule : RuleTree) → i < length rules → rule ≡ get_or rules i rule → drop i rules ≡ rule ∷ drop (i + 1) rules
rest_at rules i rule h is = rw add-one (drop-cons rules i rule h ∙ ap (λ (r : RuleTree). r ∷ drop (suc i) rules) (sym is))

later : (owners : Ownerships) (d : Destinations) (m : Message) (rule : RuleTree) (rules : List RuleTree) → (TakesRule owners d m rule → ⊥) → SomeTakes owners d m (rule ∷ rules) → SomeTakes owners d m rules
later owners d m rule rules misses (inl takes) = absurd (misses takes)
later owners d m rule rules misses (inr take) = take

-- a rule that doesn't take the message is passed over
pub passed : (owners : Ownerships) (d : Destinations) (m : Message) (rules : List RuleTree) (i : ℕ) (rule : RuleTree) → i < length rules → rule ≡ get_or rules i rule → (TakesRule owners d m rule → ⊥) → (SomeTakes owners d m (drop i rules) ↔ SomeTakes owners d m rules) → (SomeTakes owners d m (drop (i + 1) rules) ↔ SomeTakes owners d m rules)
passed owners d m rules i rule h is misses before =
    let here = rest_at rules i rule h is in (
      λ (take : SomeTakes owners d m (drop (i + 1) rules)). before.0 (subst (λ (l : List RuleTree). SomeTakes owners d m l) (sym here) (inr take)),
      λ (take : SomeTakes owners d m rules). later owners d m rule (drop (i + 1) rules) misses (subst (λ (l : List RuleTree). SomeTakes owners d m l) here (before.1 take)),
    )

-- a rule that takes the message is one of all
pub taken : (owners : Ownerships) (d : Destinations) (m : Message) (rules : List RuleTree) (i : ℕ) (rule : RuleTree) → i < length rules → rule ≡ get_or rules i rule → TakesRule owners d m rule → (SomeTakes owners d m (drop i rules) ↔ SomeTakes owners d m rules) → SomeTakes owners d m rules
taken owners d m rules i rule h is takes before = before.0 (subst (λ (l : List RuleTree). SomeTakes owners d m l) (sym (rest_at rules i rule h is)) (inl takes))

-- a message that the rules take is selected where it is accepted
pub selected : (owners : Ownerships) (d : Destinations) (m : Message) (rules : List RuleTree) (acceptor : Option Acceptor) (accepted : Bool) → IsTakenByRules owners d m rules → AcceptsIfAny owners m acceptor accepted → Selects owners d m rules acceptor accepted
selected owners d m rules acceptor true taken accepts = (taken, accepts)
selected owners d m rules acceptor false taken accepts = λ _. accepts
