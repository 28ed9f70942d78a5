-- A rule that was read asks for one sender at most.
use Rattle.std.proofs.Common.{◌≡◌, ℕ, ◌<◌, Bool, true, false, List, [], ◌∷◌, ◌++◌, length, get_or, refl, sym, ap, ◌∙◌, subst, below_more, ◌+◌, ◌⊎◌}
use Rattle.std.specs.Prelude.{Option, Some, None, not, ◌&&◌, ◌||◌, All, IfSome, IsTrue, ◌↔◌}
use Rattle.std.specs.List.{list_any}
use Rattle.std.proofs.Math.Bool.{or-true}
use Rattle.std.proofs.lemmas.Bool.{and_parts, or_parts, not-true}
use Rattle.std.proofs.lemmas.List.{get_or_read}
use Rattle.std.proofs.lemmas.List.Elements.{All-cons, All-nil}
use Rattle.std.proofs.lemmas.List.Folds.{list_any-append}
use Rattle.match_key.specs.declared.key.Key.TheVariants as keys
use Rattle.match_rule.specs.declared.condition.Condition.{Condition}
use Rattle.match_rule.specs.declared.condition.Condition.TheVariants.{Sender}
use Rattle.match_rule.specs.declared.term.Term.{Term}
use Rattle.match_rule.specs.declared.term.Term.TheVariants.{Asks, Eavesdrop}
use Rattle.match_key.specs.Key.{is_twice}
use Rattle.match_rule.specs.Condition.{key_of, term_key, has_key, conditions_in}
use Rattle.match_rule.specs.Grammar.{HaveOwnKeys}
use Rattle.match_rule.specs.RuleTree.{RuleTree, owned_name_in, first_owned_name, or_else}
use Rattle.match_rule.specs.Parts.{is_sender, has_one_sender}
use Rattle.match_rule.specs.Holds.{ConditionHolds, Holds, Agrees}
use Rattle.message_view.specs.Message.{Message, destination_of}

-- ---- what was read

sender_key : (c : Condition) → is_sender c ≡ true → key_of c ≡ keys.Sender
sender_key (Sender name) e = refl
sender_key _ e = absurd cc

-- after a sender there is no other
none_later : (front terms : List Term) → has_key keys.Sender front ≡ true → HaveOwnKeys front terms → list_any is_sender (conditions_in terms) ≡ false
none_later front [] has own = refl
none_later front (Eavesdrop flag ∷ terms) has own = none_later (front ++ Eavesdrop flag ∷ []) terms (list_any-append (λ t. is_twice (term_key t) keys.Sender) front (Eavesdrop flag ∷ []) ∙ ap (λ b. b || false) has) own.2
none_later front (Asks c ∷ terms) has own = go (is_sender c) refl (none_later (front ++ Asks c ∷ []) terms (list_any-append (λ t. is_twice (term_key t) keys.Sender) front (Asks c ∷ []) ∙ ap (λ b. b || (is_twice (key_of c) keys.Sender || false)) has) own.2)
  where
    go : (s : Bool) → is_sender c ≡ s → list_any is_sender (conditions_in terms) ≡ false → (s || list_any is_sender (conditions_in terms)) ≡ false
    go true is later = let twice : true ≡ false = sym has ∙ ap (λ k. has_key k front) (sym (sender_key c is)) ∙ own.0 in absurd cc
    go false is later = later

pub own_keys_one_sender : (front terms : List Term) → HaveOwnKeys front terms → has_one_sender (conditions_in terms) ≡ true
own_keys_one_sender front [] own = refl
own_keys_one_sender front (Eavesdrop flag ∷ terms) own = own_keys_one_sender (front ++ Eavesdrop flag ∷ []) terms own.2
own_keys_one_sender front (Asks c ∷ terms) own = go (is_sender c) refl (own_keys_one_sender (front ++ Asks c ∷ []) terms own.2)
  where
    go : (s : Bool) → is_sender c ≡ s → has_one_sender (conditions_in terms) ≡ true → (not (s && list_any is_sender (conditions_in terms)) && has_one_sender (conditions_in terms)) ≡ true
    go false is later = later
    go true is later =
        let key : is_twice (key_of c) keys.Sender ≡ true = ap (λ k. is_twice k keys.Sender) (sender_key c is) in
        let has : has_key keys.Sender (front ++ Asks c ∷ []) ≡ true = list_any-append (λ t. is_twice (term_key t) keys.Sender) front (Asks c ∷ []) ∙ ap (λ b. has_key keys.Sender front || (b || false)) key ∙ or-true (has_key keys.Sender front) in
        rw (none_later (front ++ Asks c ∷ []) terms has own.2) later

-- ---- what is agreed of the first owned name is agreed of each

-- a condition that is no sender has no owned name
no_name : (c : Condition) → is_sender c ≡ false → owned_name_in c ≡ None
no_name (Sender name) e = absurd cc
no_name _ e = refl

no_names : (P : List ℕ → Type 0) (cs : List Condition) → list_any is_sender cs ≡ false → All (λ c. IfSome (owned_name_in c) P) cs
no_names P [] e = All-nil (λ (c : Condition). IfSome (owned_name_in c) P)
no_names P (c ∷ cs) e =
    let h = or_parts (is_sender c) (list_any is_sender cs) e in
    All-cons (λ (c : Condition). IfSome (owned_name_in c) P) c cs (rw (no_name c h.0) tt) (no_names P cs h.1)

pub agreed_each : (P : List ℕ → Type 0) (cs : List Condition) → has_one_sender cs ≡ true → IfSome (first_owned_name cs) P → All (λ c. IfSome (owned_name_in c) P) cs
agreed_each P [] one agreed = All-nil (λ (c : Condition). IfSome (owned_name_in c) P)
agreed_each P (c ∷ cs) one agreed = go (is_sender c) refl (and_parts (not (is_sender c && list_any is_sender cs)) (has_one_sender cs) one) (λ h p. agreed_each P cs h p) (owned_name_in c) refl agreed
  where
    go : (s : Bool) → is_sender c ≡ s → (not (is_sender c && list_any is_sender cs) ≡ true) × (has_one_sender cs ≡ true) → (has_one_sender cs ≡ true → IfSome (first_owned_name cs) P → All (λ c. IfSome (owned_name_in c) P) cs) → (name : Option (List ℕ)) → owned_name_in c ≡ name → IfSome (or_else name (first_owned_name cs)) P → All (λ c. IfSome (owned_name_in c) P) (c ∷ cs)
    go s is one more None none agreed = All-cons (λ (c : Condition). IfSome (owned_name_in c) P) c cs (rw none tt) (more one.1 agreed)
    go true is one more (Some name) some agreed =
        All-cons (λ (c : Condition). IfSome (owned_name_in c) P) c cs (rw some agreed) (no_names P cs (not-true (list_any is_sender cs) (rw is at one.0)))
    go false is one more (Some name) some agreed = let none : None ≡ Some name = sym (no_name c is) ∙ some in absurd cc

-- one more of a list has what those in front have
pub more_hold : {A : Type 0} (P : A → Type 0) (xs : List A) (i : ℕ) (x : A) → i < length xs → x ≡ get_or xs i x → ((k : ℕ) (d : A) → k < i → P (get_or xs k d)) → P x → (k : ℕ) (d : A) → k < i + 1 → P (get_or xs k d)
more_hold {A = A} P xs i x lt is before here k d below = below_more (λ k. (d : A) → P (get_or xs k d)) i (λ k h d. before k d h) (λ d. subst P (get_or_read xs i x lt is d) here) k below d

-- a rule with one sender holds where each condition does and the message is offered
pub held : (rule : RuleTree) (m : Message) (owned : List ℕ → Bool) (owns r : Bool) → has_one_sender rule.conditions ≡ true → (All (λ c. IfSome (owned_name_in c) (λ name. owned name ≡ owns)) rule.conditions → IsTrue r ↔ All (λ c. ConditionHolds c m owned) rule.conditions) → destination_of m ≡ None ⊎ rule.eavesdrops ≡ true → Agrees rule owned owns → IsTrue r ↔ Holds rule m owned
held rule m owned owns r one each destination_fits agrees =
    let h = each (agreed_each (λ name. owned name ≡ owns) rule.conditions one agrees) in
    (λ e. record { each = h.0 e; destination_fits = destination_fits }, λ w. h.1 w.each)
