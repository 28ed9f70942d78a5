-- What the program of a rule does: it says whether the rule holds.
use Rattle.std.proofs.Common.{◌≡◌, ℕ, zero, suc, ◌<◌, Bool, true, false, not, ◌&&◌, List, [], ◌∷◌, get_or, eqb, Option, Some, None, ◌⊎◌, ◌↔◌, inl, inr, refl, arith, if◌then◌else◌, All, IfSome}
use Rattle.std.proofs.lemmas.Bool.{false≢true, true≢false, cases_eq, eqb-true, eqb-false}
use Rattle.std.proofs.lemmas.List.Elements.{All-nil, All-cons, All-head, All-tail}
use Rattle.std.specs.List.{list_any}
use Rattle.std.specs.Prelude.{unwrap_or}
use Rattle.bpf_code.specs.declared.instruction.Ins.{Ins}
use Rattle.bpf_code.specs.declared.operation.Test.TheVariants.{Equal}
use Rattle.bpf_code.specs.Steps.{Ends}
use Rattle.message_view.specs.declared.extent.TextField.TheVariants as texts
use Rattle.message_view.specs.Message.{Message, destination_of}
use Rattle.message_view.specs.Valid.{Valid}
use Rattle.match_key.specs.declared.source.Field.TheVariants.{Interface}
use Rattle.match_key.specs.declared.source.Source.{Source}
use Rattle.match_key.specs.declared.source.Source.TheVariants.{Header, Arg}
use Rattle.match_key.specs.declared.relation.Relation.TheVariants as relations
use Rattle.match_rule.specs.declared.condition.Condition.{Condition}
use Rattle.match_rule.specs.declared.condition.Condition.TheVariants.{Sender, Compares}
use Rattle.match_rule.specs.Condition.{value_of}
use Rattle.match_rule.specs.Holds.{ConditionHolds, Holds}
use Rattle.match_rule.specs.Parts.{is_sender, has_one_sender}
use Rattle.match_rule.specs.RuleTree.{RuleTree, is_owned_name, or_else, first_owned_name}
use Rattle.summary.specs.declared.edition.Edition.TheVariants.{Two}
use Rattle.summary.specs.ImageBytes.{image_bytes}
use Rattle.summary.specs.Sets.{has_slot}
use Rattle.summary.specs.Shown.{ShowsText, Shows}
use Rattle.message_value.specs.Bytes.{AreBytes}
use Rattle.summary.specs.Layout.{text_place}
use Rattle.rule_compile.specs.declared.condition.Part.TheVariants.{Words, Bytes}
use Rattle.rule_compile.specs.Code.{returns}
use Rattle.rule_compile.specs.Compiled.{IsSlotOf, AgreeOn}
use Rattle.rule_compile.specs.RuleCode.{part_code, whole_rank, other_rank, rank_of, ranks, of_rank, rising, falling, destination_fits, verdicts, rule_code}
use Rattle.rule_compile.proofs.Pieces.{Guarded, Any, Tests}
use Rattle.rule_compile.proofs.Runs.{runs_returns}
use Rattle.rule_compile.proofs.Combined.{tests_none, tests_same, tests_both, tests_word}
use Rattle.rule_compile.proofs.InTurn.{InTurn, turn_second, turn_same, turn_both, turn_around, turn_one}
use Rattle.rule_compile.proofs.Conditions.{SlotFits, turn_condition}

-- ---- the conditions, whose pieces test them in turn

-- the conditions of a rank
abbrev OfRank : ℕ → (Condition → Type 0) → List Condition → Type 0
OfRank rank P cs = All (λ c. rank_of c ≡ rank → P c) cs

-- the conditions of the ranks below n
abbrev BelowRank : ℕ → (Condition → Type 0) → List Condition → Type 0
BelowRank n P cs = All (λ c. rank_of c < n → P c) cs

module _ (image : List ℕ) (P : Condition → Type 0) (f g : Condition → List Ins → List Ins) where
  -- the two pieces of each condition test its fact
  abbrev EachTests : List Condition → Type 0
  EachTests cs = All (λ c. InTurn image (P c) (f c) (g c)) cs

  one_more : (rank : ℕ) (c : Condition) (cs : List Condition) (here : Bool) → eqb (rank_of c) rank ≡ here → InTurn image (P c) (f c) (g c) → InTurn image (OfRank rank P cs) (of_rank f rank cs) (of_rank g rank cs) → InTurn image (OfRank rank P (c ∷ cs)) (λ rest. if here then f c (of_rank f rank cs rest) else of_rank f rank cs rest) (λ rest. if here then g c (of_rank g rank cs rest) else of_rank g rank cs rest)
  one_more rank c cs true is head tail =
      turn_same image _ _ (λ rest. f c (of_rank f rank cs rest)) (λ rest. g c (of_rank g rank cs rest)) (
        λ both. All-cons (λ d. rank_of d ≡ rank → P d) c cs (λ _. both.0) both.1,
        λ each. (All-head (λ d. rank_of d ≡ rank → P d) c cs each (eqb-true (rank_of c) rank is), All-tail (λ d. rank_of d ≡ rank → P d) c cs each),
      ) (turn_both image (P c) (OfRank rank P cs) (f c) (g c) (of_rank f rank cs) (of_rank g rank cs) head tail)
  one_more rank c cs false is head tail =
      turn_same image _ _ (of_rank f rank cs) (of_rank g rank cs) (
        λ each. All-cons (λ d. rank_of d ≡ rank → P d) c cs (λ e. absurd (eqb-false (rank_of c) rank is e)) each,
        λ each. All-tail (λ d. rank_of d ≡ rank → P d) c cs each,
      ) tail

  turn_of_rank : (rank : ℕ) (cs : List Condition) → EachTests cs → InTurn image (OfRank rank P cs) (of_rank f rank cs) (of_rank g rank cs)
  turn_of_rank rank [] each =
      turn_second image (OfRank rank P []) (λ rest. rest) (tests_none image Any (OfRank rank P []) (All-nil (λ c. rank_of c ≡ rank → P c)))
  turn_of_rank rank (c ∷ cs) each =
      one_more rank c cs (eqb (rank_of c) rank) refl (All-head (λ d. InTurn image (P d) (f d) (g d)) c cs each) (turn_of_rank rank cs (All-tail (λ d. InTurn image (P d) (f d) (g d)) c cs each))

  turn_below : (n : ℕ) (cs : List Condition) → EachTests cs → InTurn image (BelowRank n P cs) (rising f n cs) (falling g n cs)
  turn_below zero cs each =
      turn_second image (BelowRank zero P cs) (λ rest. rest) (tests_none image Any (BelowRank zero P cs) (λ k d inside low. absurd (omega (arith, low))))
  turn_below (suc n) cs each =
      turn_same image _ _ (rising f (suc n) cs) (falling g (suc n) cs) (
        λ both k d inside low. elim (cases_eq (rank_of (get_or cs k d)) n) [
          | inl e ↦ both.1 k d inside e
          | inr ne ↦ both.0 k d inside (omega arith)
        ],
        λ all. (λ k d inside low. all k d inside (omega arith), λ k d inside e. all k d inside (omega arith)),
      ) (turn_around image (BelowRank n P cs) (OfRank n P cs) (rising f n cs) (falling g n cs) (of_rank f n cs) (of_rank g n cs) (turn_below n cs each) (turn_of_rank n cs each))

whole_rank_small : (source : Source) → whole_rank source < 8
whole_rank_small (Header Interface) = omega arith
whole_rank_small _ = omega arith

other_rank_small : (source : Source) → other_rank source < 8
other_rank_small (Header field) = omega arith
other_rank_small (Arg n) = omega arith

rank_small : (c : Condition) → rank_of c < 8
rank_small (Compares source relations.Equal value) = whole_rank_small source
rank_small (Compares source relation value) = other_rank_small source
rank_small _ = omega arith

-- the words of all conditions, and then their bytes
abbrev all_parts : ℕ → List Condition → List Ins → List Ins
all_parts slot cs rest = rising (part_code Words slot) ranks cs (falling (part_code Bytes slot) ranks cs rest)

tests_conditions : (image : List ℕ) (slot : ℕ) (P : Condition → Type 0) (cs : List Condition) → EachTests image P (part_code Words slot) (part_code Bytes slot) cs → Tests image Any (All P cs) (all_parts slot cs)
tests_conditions image slot P cs each =
    tests_same image Any _ _ (all_parts slot cs) (
      λ all k d inside. all k d inside (rank_small (get_or cs k d)),
      λ all k d inside low. all k d inside,
    ) (turn_one image (BelowRank ranks P cs) (rising (part_code Words slot) ranks cs) (falling (part_code Bytes slot) ranks cs) (turn_below image P (part_code Words slot) (part_code Bytes slot) ranks cs each))

-- ---- a message with a destination

tests_offered : (image : List ℕ) (destination : Option (List ℕ)) (eavesdrops : Bool) → ShowsText image (text_place texts.Destination) destination → Tests image Any ((destination ≡ None) ⊎ (eavesdrops ≡ true)) (destination_fits eavesdrops)
tests_offered image destination true shows =
    tests_none image Any ((destination ≡ None) ⊎ (true ≡ true)) (inr refl)
tests_offered image None false shows =
    tests_same image Any _ _ (destination_fits false) (λ _. inl refl, λ _. refl) (tests_word image Any (text_place texts.Destination) 0 Equal 0 shows.0)
tests_offered image (Some text) false tells =
    tests_same image Any _ _ (destination_fits false) (
      λ e. absurd (let z = eqb-true tells.place 0 e in let start = tells.after_start in omega arith),
      λ p. elim p [ inl e ↦ absurd cc | inr e ↦ absurd (false≢true e) ],
    ) (tests_word image Any (text_place texts.Destination) tells.place Equal 0 tells.place_word)

-- ---- the slot of the sender's name

no_sender_fits : (slots : List ℕ) (slot : ℕ) (owned : List ℕ → Bool) (cs : List Condition) → list_any is_sender cs ≡ false → All (SlotFits slots slot owned) cs
no_sender_fits slots slot owned [] none = All-nil (SlotFits slots slot owned)
no_sender_fits slots slot owned (Sender name ∷ cs) none = absurd (true≢false none)
no_sender_fits slots slot owned (c ∷ cs) none =
    All-cons (SlotFits slots slot owned) c cs tt (no_sender_fits slots slot owned cs none)

head_fits : (name : List ℕ) (other : Option (List ℕ)) (Q : List ℕ → Type 0) (is_owned : Bool) → IfSome (or_else (if is_owned then Some name else None) other) Q → is_owned ≡ true → Q name
head_fits name other Q true fits e = fits
head_fits name other Q false fits e = absurd (false≢true e)

alone : (others rest : Bool) → (not others && rest) ≡ true → others ≡ false
alone true rest e = absurd (false≢true e)
alone false rest e = refl

slots_fit : (slots : List ℕ) (slot : ℕ) (owned : List ℕ → Bool) (cs : List Condition) → has_one_sender cs ≡ true → IfSome (first_owned_name cs) (λ name. owned name ≡ has_slot slots slot) → All (SlotFits slots slot owned) cs
slots_fit slots slot owned [] one agrees = All-nil (SlotFits slots slot owned)
slots_fit slots slot owned (Sender name ∷ cs) one agrees =
    All-cons (SlotFits slots slot owned) (Sender name) cs (head_fits name (first_owned_name cs) (λ name. owned name ≡ has_slot slots slot) (is_owned_name name) agrees) (no_sender_fits slots slot owned cs (alone (list_any is_sender cs) (has_one_sender cs) one))
slots_fit slots slot owned (c ∷ cs) one agrees =
    All-cons (SlotFits slots slot owned) c cs tt (slots_fit slots slot owned cs one agrees)

pub slot_small : (slot : Option ℕ) → IfSome slot (λ s. s < 1024) → unwrap_or slot 0 < 1024
slot_small None small = omega arith
slot_small (Some s) small = small

each_tests : (image bytes : List ℕ) (m : Message) (slots : List ℕ) (owned : List ℕ → Bool) (slot : ℕ) (cs : List Condition) → Valid bytes m → Shows Two image m slots → slot < 1024 → All (SlotFits slots slot owned) cs → All (λ c. AreBytes (value_of c)) cs → EachTests image (λ c. ConditionHolds c m owned) (part_code Words slot) (part_code Bytes slot) cs
each_tests image bytes m slots owned slot [] valid shows small fits are =
    All-nil (λ c. InTurn image (ConditionHolds c m owned) (part_code Words slot c) (part_code Bytes slot c))
each_tests image bytes m slots owned slot (c ∷ cs) valid shows small fits are =
    All-cons (λ c. InTurn image (ConditionHolds c m owned) (part_code Words slot c) (part_code Bytes slot c)) c cs (turn_condition image bytes m slots owned slot c valid shows small (All-head (SlotFits slots slot owned) c cs fits) (All-head (λ c. AreBytes (value_of c)) c cs are)) (each_tests image bytes m slots owned slot cs valid shows small (All-tail (SlotFits slots slot owned) c cs fits) (All-tail (λ c. AreBytes (value_of c)) c cs are))

-- ---- the rule

guarded_verdicts : Guarded verdicts
guarded_verdicts = (returns 1 ∷ [], refl)

-- what the program of a rule tests of any image that shows the message
tests_rule : (image bytes : List ℕ) (m : Message) (slots : List ℕ) (owned : List ℕ → Bool) (rule : RuleTree) (slot : ℕ) → Valid bytes m → Shows Two image m slots → slot < 1024 → All (SlotFits slots slot owned) rule.conditions → All (λ c. AreBytes (value_of c)) rule.conditions → Tests image Any (Holds rule m owned) (λ rest. all_parts slot rule.conditions (destination_fits rule.eavesdrops rest))
tests_rule image bytes m slots owned rule slot valid shows small fits are =
    tests_same image Any _ _ (λ rest. all_parts slot rule.conditions (destination_fits rule.eavesdrops rest)) (
      λ both. record { each = both.0; destination_fits = both.1 },
      λ holds. (holds.each, holds.destination_fits),
    ) (tests_both image Any (All (λ c. ConditionHolds c m owned) rule.conditions) ((destination_of m ≡ None) ⊎ (rule.eavesdrops ≡ true)) (all_parts slot rule.conditions) (destination_fits rule.eavesdrops) (tests_conditions image slot (λ c. ConditionHolds c m owned) rule.conditions (each_tests image bytes m slots owned slot rule.conditions valid shows small fits are)) (tests_offered image (destination_of m) rule.eavesdrops shows.destination))

-- a program that tests a fact ends, with 1 where the fact holds and with 0 where it doesn't
verdict : (image : List ℕ) (P : Type 0) (f : List Ins → List Ins) → Tests image Any P f → (v : ℕ) × (n : ℕ) × Ends (f verdicts) image v n × ((0 < v) ↔ P)
verdict image P f t = elim t.decided [
  | inl p ↦ (let run = t.passes verdicts 1 guarded_verdicts (λ a x _. runs_returns (returns 0 ∷ []) image a x 1) p 0 0 tt in (1, run.0, run.1, (λ _. p, λ _. omega arith)))
  | inr none ↦ (let run = t.fails verdicts guarded_verdicts none 0 0 tt in (0, run.0, run.1, (λ less. absurd (omega arith), λ p. absurd (none p))))
]

-- the program of a rule ends on the image of a message, with a verdict that is nonzero exactly where the rule holds
pub rule_runs : (bytes : List ℕ) (m : Message) (slots : List ℕ) (owned : List ℕ → Bool) (rule : RuleTree) (slot : Option ℕ) → Valid bytes m → Shows Two (image_bytes Two m slots) m slots → IsSlotOf slot rule → AgreeOn rule slot owned slots → has_one_sender rule.conditions ≡ true → All (λ c. AreBytes (value_of c)) rule.conditions → (v : ℕ) × (n : ℕ) × Ends (rule_code (unwrap_or slot 0) rule) (image_bytes Two m slots) v n × ((0 < v) ↔ Holds rule m owned)
rule_runs bytes m slots owned rule slot valid shows is agree one are =
    let image : List ℕ = image_bytes Two m slots in
    let fits = slots_fit slots (unwrap_or slot 0) owned rule.conditions one agree in
    verdict image (Holds rule m owned) (λ rest. all_parts (unwrap_or slot 0) rule.conditions (destination_fits rule.eavesdrops rest)) (tests_rule image bytes m slots owned rule (unwrap_or slot 0) valid shows (slot_small slot is.small) fits are)
