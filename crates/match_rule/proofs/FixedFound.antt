-- A message of which a rule holds has the texts that the rule asks for.
use Rattle.std.proofs.Common.{◌≡◌, ℕ, Bool, true, false, List, [], ◌∷◌, refl, ap, ◌∙◌, subst}
use Rattle.std.proofs.lemmas.List.Elements.{All-head, All-tail}
use Rattle.std.specs.Prelude.{Option, Some, None, All, IfSome, IsSomeAnd, MatchBool, slice_get, if◌then◌else◌}
use Rattle.message_view.specs.Message.{Message, member_of, interface_of, path_of, sender_of}
use Rattle.message_view.specs.Spelling.{arguments_of}
use Rattle.match_key.specs.declared.source.Field.TheVariants.{Interface, Member, Path}
use Rattle.match_key.specs.declared.source.Source.{Source}
use Rattle.match_key.specs.ArgNumber.{first_arg}
use Rattle.match_key.specs.declared.source.Source.TheVariants.{Header, Arg}
use Rattle.match_key.specs.declared.relation.Relation.{Relation}
use Rattle.match_key.specs.declared.relation.Relation.TheVariants.{Equal}
use Rattle.match_key.specs.declared.key.Key.TheVariants as keys
use Rattle.match_rule.specs.declared.condition.Condition.{Condition}
use Rattle.match_rule.specs.declared.condition.Condition.TheVariants.{Sender, Compares}
use Rattle.match_rule.specs.Arguments.{text_in}
use Rattle.match_key.specs.Key.{key_eq}
use Rattle.match_rule.specs.Condition.{key_of, value_of}
use Rattle.match_key.proofs.KeyEquality.{same_key}
use Rattle.match_rule.specs.RuleTree.{RuleTree, is_owned_name, or_else}
use Rattle.match_rule.specs.Holds.{Holds, ConditionHolds, Relates, compared_text, text_at}
use Rattle.match_rule.specs.FixedTexts.{fixed_texts, texts_of, AreFound, value_in, value_asked, own_sender_in, arg0_of, string_in, first_text}

in_either : (Q : List ℕ → Type 0) (a b : Option (List ℕ)) → IfSome a Q → IfSome b Q → IfSome (or_else a b) Q
in_either Q (Some text) b first second = first
in_either Q None b first second = second

in_first : (text_of : Condition → Option (List ℕ)) (P : Condition → Type 0) (Q : List ℕ → Type 0) → ((c : Condition) → P c → IfSome (text_of c) Q) → (cs : List Condition) → All P cs → IfSome (first_text text_of cs) Q
in_first text_of P Q each [] holds = tt
in_first text_of P Q each (c ∷ cs) holds =
    in_either Q (text_of c) (first_text text_of cs) (each c (All-head P c cs holds)) (in_first text_of P Q each cs (All-tail P c cs holds))

if_each : (o : Option (List ℕ)) (P Q : List ℕ → Type 0) → ((x : List ℕ) → P x → Q x) → IfSome o P → IfSome o Q
if_each None P Q each h = tt
if_each (Some x) P Q each h = each x h

-- the message has a text at the source that stands in the relation to the value
abbrev pub HasRelated : Message → Source → Relation → List ℕ → Type 0
HasRelated m source relation value = IsSomeAnd (text_at source relation m) (λ text. Relates relation text value)

module _ (m : Message) (owned : List ℕ → Bool) where
  of_key : (source : Source) (relation : Relation) (c : Condition) → key_of c ≡ keys.Compares source relation → ConditionHolds c m owned → HasRelated m source relation (value_of c)
  of_key source relation (Compares s r value) e h =
      let sources : s ≡ source = cc in
      let relations : r ≡ relation = cc in
      subst (λ (x : Source). HasRelated m x relation value) sources (subst (λ (x : Relation). HasRelated m s x value) relations h)
  of_key source relation _ e h = absurd cc

  value_found : (source : Source) (relation : Relation) (c : Condition) → ConditionHolds c m owned → IfSome (value_in (keys.Compares source relation) c) (HasRelated m source relation)
  value_found source relation c h = go (key_eq (key_of c) (keys.Compares source relation)) refl
    where
      go : (b : Bool) → key_eq (key_of c) (keys.Compares source relation) ≡ b → IfSome (if b then Some (value_of c) else None) (HasRelated m source relation)
      go true is = of_key source relation c (same_key (key_of c) (keys.Compares source relation) is) h
      go false is = tt

-- what a rule asks of a source is found there
pub asked_found : (source : Source) (relation : Relation) (rule : RuleTree) (m : Message) (owned : List ℕ → Bool) → Holds rule m owned → IfSome (value_asked (keys.Compares source relation) rule) (HasRelated m source relation)
asked_found source relation rule m owned h =
    in_first (value_in (keys.Compares source relation)) (λ c. ConditionHolds c m owned) (HasRelated m source relation) (value_found m owned source relation) rule.conditions h.each

-- a text that equals the value
is_some : (found : Option (List ℕ)) (value : List ℕ) → IsSomeAnd found (λ text. text ≡ value) → found ≡ Some value
is_some None value h = absurd h
is_some (Some text) value h = ap (λ (x : List ℕ). Some x) h

pub same_string : (found : Option (ℕ × List ℕ)) → string_in found ≡ compared_text Equal found
same_string None = refl
same_string (Some found) = refl

-- a sender that is asked for by a name that SENDER may be
sender_found : (m : Message) (owned : List ℕ → Bool) (c : Condition) → ConditionHolds c m owned → IfSome (own_sender_in c) (λ name. sender_of m ≡ Some name)
sender_found m owned (Sender name) h = go (is_owned_name name) h
  where
    go : (b : Bool) → MatchBool b (owned name ≡ true) (sender_of m ≡ Some name) → IfSome (if b then None else Some name) (λ name. sender_of m ≡ Some name)
    go true h = tt
    go false h = h
sender_found m owned _ h = tt

pub AreFound-Holds : (rule : RuleTree) (m : Message) (owned : List ℕ → Bool) → Holds rule m owned → AreFound (fixed_texts rule) (texts_of m)
AreFound-Holds rule m owned h = record {
  member = if_each _ _ (λ value. member_of m ≡ Some value) (is_some (member_of m)) (asked_found (Header Member) Equal rule m owned h);
  interface = if_each _ _ (λ value. interface_of m ≡ Some value) (is_some (interface_of m)) (asked_found (Header Interface) Equal rule m owned h);
  path = if_each _ _ (λ value. path_of m ≡ Some value) (is_some (path_of m)) (asked_found (Header Path) Equal rule m owned h);
  sender = in_first own_sender_in (λ c. ConditionHolds c m owned) (λ name. sender_of m ≡ Some name) (sender_found m owned) rule.conditions h.each;
  arg0 = if_each _ _ (λ value. arg0_of m ≡ Some value) (λ value found. same_string (text_in (slice_get (arguments_of m) 0)) ∙ is_some (text_at (Arg first_arg) Equal m) value found) (asked_found (Arg first_arg) Equal rule m owned h);
}
