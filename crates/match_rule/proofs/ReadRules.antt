-- What holds of a rule that was read.
use Rattle.std.proofs.Common.{◌≡◌, ℕ, ◌≤◌, Bool, true, List, [], ◌∷◌, length, refl, sym, ap, ◌∙◌, subst}
use Rattle.std.specs.Prelude.{Ok, All}
use Rattle.std.specs.List.{list_all}
use Rattle.std.proofs.lemmas.List.Elements.{All-cons, All-nil}
use Rattle.std.proofs.lemmas.List.Sums.{list_all-from_AllPass}
use Rattle.std.proofs.lemmas.Str.{IsUtf8-from_is_utf8}
use Rattle.message_value.specs.Bytes.{AreBytes}
use Rattle.signature.specs.Name.{is_bus_name}
use Rattle.match_key.specs.declared.key.Key.TheVariants as keys
use Rattle.match_rule.specs.declared.condition.Condition.{Condition}
use Rattle.match_rule.specs.declared.condition.Condition.TheVariants.{Sender}
use Rattle.match_rule.specs.declared.term.Term.{Term}
use Rattle.match_rule.specs.declared.term.Term.TheVariants.{Asks, Eavesdrop}
use Rattle.match_rule.specs.Condition.{key_of, value_of, conditions_in}
use Rattle.match_rule.specs.RuleTree.{RuleTree, weight_of}
use Rattle.match_rule.specs.Grammar.{Part, IsPart, AreParts, pieces_value, rule_with}
use Rattle.match_rule.specs.Reading.{terms_at}
use Rattle.match_rule.specs.Parts.{has_one_sender, has_sender_name, have_sender_names}
use Rattle.match_rule.specs.Gathering.{tree_at}
use Rattle.match_rule.proofs.PartReads.{bind_ok, asks_ok, said_text, term_is}
use Rattle.match_rule.proofs.Turns.{read_weight}
use Rattle.match_rule.proofs.Spelled.{rule_at-tree}
use Rattle.match_rule.proofs.Found.{rule_found}
use Rattle.match_rule.proofs.OneSender.{own_keys_one_sender}
use Rattle.match_rule.proofs.ValueBytes.{text_bytes}

-- ---- what parts say of their conditions

sender_name : (part : Part) (c : Condition) → IsPart part (Asks c) → has_sender_name c ≡ true
sender_name part (Sender name) is =
    let value = pieces_value part.pieces in
    let allowed = asks_ok (is_bus_name value) (Sender value) (Asks (Sender name)) (said_text keys.Sender value (Asks (Sender name)) is.allowed).1 in
    let same : name ≡ value = let e = allowed.1 in cc in
    ap is_bus_name same ∙ allowed.0
sender_name part _ is = refl

value_bytes : (part : Part) (c : Condition) → IsPart part (Asks c) → AreBytes (value_of c)
value_bytes part c is =
    let value = pieces_value part.pieces in
    let text = said_text (key_of c) value (Asks c) is.allowed in
    subst AreBytes (sym (term_is (key_of c) value (Asks c) is.allowed).1) (text_bytes value (IsUtf8-from_is_utf8 value text.0))

-- what parts say holds of each condition
each_said : (P : Condition → Type 0) → ((part : Part) (c : Condition) → IsPart part (Asks c) → P c)
    → (parts : List Part) (terms : List Term) → AreParts parts terms → All P (conditions_in terms)
each_said P each [] [] said = All-nil P
each_said P each (part ∷ parts) (Eavesdrop flag ∷ terms) said = each_said P each parts terms said.1
each_said P each (part ∷ parts) (Asks c ∷ terms) said = All-cons P c (conditions_in terms) (each part c said.0) (each_said P each parts terms said.1)
each_said P each _ _ said = absurd said

each_passes : (test : Condition → Bool) → ((part : Part) (c : Condition) → IsPart part (Asks c) → test c ≡ true)
    → (parts : List Part) (terms : List Term) → AreParts parts terms → list_all test (conditions_in terms) ≡ true
each_passes test each parts terms said = list_all-from_AllPass test (conditions_in terms) (each_said (λ c. test c ≡ true) each parts terms said)

-- ---- what holds of the rule

pub legal : (text : List ℕ) (rule : RuleTree) → length text ≤ 1024 → tree_at text ≡ Ok rule
    → (weight_of rule ≤ 41992) × (has_one_sender rule.conditions ≡ true)
    × All (λ c. AreBytes (value_of c)) rule.conditions × (have_sender_names rule.conditions ≡ true)
legal text rule short e =
    let f = bind_ok (terms_at text) _ rule e in
    let same : rule_with f.0 ≡ rule = let is = f.2 in cc in
    let is = rule_found text rule (rule_at-tree text short ∙ e) in (
      subst (λ (r : RuleTree). weight_of r ≤ 41992) same (read_weight text f.0 short f.1),
      ap (λ (r : RuleTree). has_one_sender r.conditions) is.says ∙ own_keys_one_sender [] is.terms is.once,
      subst (λ (r : RuleTree). All (λ c. AreBytes (value_of c)) r.conditions) (sym is.says)
          (each_said (λ c. AreBytes (value_of c)) value_bytes is.parts is.terms is.said),
      ap (λ (r : RuleTree). have_sender_names r.conditions) is.says ∙ each_passes has_sender_name sender_name is.parts is.terms is.said,
    )
