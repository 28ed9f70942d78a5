-- The lines of conditions, with one condition more; and where there are none.
use Rattle.std.proofs.Common.{◌≡◌, ℕ, ◌+◌, ◌<◌, Bool, true, false, List, [], ◌∷◌, ◌++◌, take, length, get_or, refl, sym, ap, ◌∙◌, subst, append_assoc, append-nil, inl, inr}
use Rattle.std.specs.Prelude.{All, None, Option, Some, ◌↔◌, ◌⊎◌, if◌then◌else◌}
use Rattle.std.proofs.lemmas.List.{take_more}
use Rattle.std.proofs.lemmas.List.Concat.{flat_map-append}
use Rattle.std.proofs.lemmas.List.Elements.{All-cons, All-nil, All-head, All-tail}
use Rattle.message_view.specs.Message.{Message, destination_of}
use Rattle.match_rule.specs.declared.condition.Condition.{Condition}
use Rattle.match_rule.specs.RuleTree.{RuleTree}
use Rattle.match_rule.specs.Holds.{ConditionHolds, Holds}
use Rattle.rule_reasons.specs.Reasons.{AreReasons, no_more, holds, fails, lines_to, destination_lines, AreAllReasons, after_fronts}
use Rattle.rule_reasons.specs.Steps.{Adds, nothing, one}

-- ---- one condition more

one_more : (m : Message) (owns : Bool) (c : Condition) (more : List (List ℕ)) → Adds m owns c more → (conditions : List Condition) (lines : List (List ℕ)) → AreReasons m owns conditions lines → AreReasons m owns (conditions ++ c ∷ []) (lines ++ more)
one_more m owns c [] (nothing held) [] [] no_more = holds held no_more
one_more m owns c [] (nothing held) [] (line ∷ lines) none = elim none [ ]
one_more m owns c _ (one failed) [] [] no_more = fails failed no_more
one_more m owns c _ (one failed) [] (line ∷ lines) none = elim none [ ]
one_more m owns c more adds (d ∷ conditions) lines (holds held rest) = holds held (one_more m owns c more adds conditions lines rest)
one_more m owns c more adds (d ∷ conditions) (line ∷ lines) (fails failed rest) = fails failed (one_more m owns c more adds conditions lines rest)

pub one_turn : (m : Message) (owns : Bool) (conditions : List Condition) (i : ℕ) (c : Condition) (lines more : List (List ℕ)) → i < length conditions → c ≡ get_or conditions i c → AreReasons m owns (take i conditions) lines → Adds m owns c more → AreReasons m owns (take (i + 1) conditions) (lines ++ more)
one_turn m owns conditions i c lines more below is reasons adds =
    let next : take i conditions ++ c ∷ [] ≡ take (i + 1) conditions = ap (λ (x : Condition). take i conditions ++ x ∷ []) is ∙ sym (take_more conditions i c below) in
    subst (λ (cs : List Condition). AreReasons m owns cs (lines ++ more)) next (one_more m owns c more adds (take i conditions) lines reasons)

pub more_text : (front start old new : List ℕ) (lines more : List (List ℕ)) → old ≡ start ++ after_fronts front lines → new ≡ old ++ after_fronts front more → new ≡ start ++ after_fronts front (lines ++ more)
more_text front start old new lines more before after =
    after ∙ ap (λ (text : List ℕ). text ++ after_fronts front more) before
    ∙ append_assoc start (after_fronts front lines) (after_fronts front more)
    ∙ ap (λ (text : List ℕ). start ++ text) (sym (flat_map-append (λ (line : List ℕ). front ++ line) lines more))

-- a line alone
pub one_line : (front old between new line : List ℕ) → between ≡ old ++ front → new ≡ between ++ line → new ≡ old ++ after_fronts front (line ∷ [])
one_line front old between new line first second =
    second ∙ ap (λ (text : List ℕ). text ++ line) first ∙ append_assoc old front line
    ∙ ap (λ (text : List ℕ). old ++ text) (sym (append-nil (front ++ line)))

-- ---- all lines

pub of_eavesdropper : (rule : RuleTree) (m : Message) (owns : Bool) (lines : List (List ℕ)) → AreReasons m owns rule.conditions lines → rule.eavesdrops ≡ true → AreAllReasons rule m owns lines
of_eavesdropper rule m owns lines reasons is = record { of_conditions = lines; each = reasons; lines_are = rw is (sym (append-nil lines)) }

pub of_other : (rule : RuleTree) (m : Message) (owns : Bool) (lines : List (List ℕ)) → AreReasons m owns rule.conditions lines → rule.eavesdrops ≡ false → AreAllReasons rule m owns (lines ++ lines_to (destination_of m))
of_other rule m owns lines reasons is = record { of_conditions = lines; each = reasons; lines_are = rw is refl }

-- ---- no lines

hold_all : (m : Message) (owns : Bool) (conditions : List Condition) (lines : List (List ℕ)) → AreReasons m owns conditions lines → lines ≡ [] → All (λ c. ConditionHolds c m (λ name. owns)) conditions
hold_all m owns [] lines reasons e = All-nil (λ c. ConditionHolds c m (λ name. owns))
hold_all m owns (c ∷ conditions) lines (holds held rest) e = All-cons (λ c. ConditionHolds c m (λ name. owns)) c conditions held (hold_all m owns conditions lines rest e)
hold_all m owns (c ∷ conditions) (line ∷ lines) (fails failed rest) e = absurd (cc)

no_lines : (m : Message) (owns : Bool) (conditions : List Condition) (lines : List (List ℕ)) → AreReasons m owns conditions lines → All (λ c. ConditionHolds c m (λ name. owns)) conditions → lines ≡ []
no_lines m owns [] [] no_more all = refl
no_lines m owns [] (line ∷ lines) none all = elim none [ ]
no_lines m owns (c ∷ conditions) lines (holds held rest) all = no_lines m owns conditions lines rest (All-tail (λ c. ConditionHolds c m (λ name. owns)) c conditions all)
no_lines m owns (c ∷ conditions) (line ∷ lines) (fails failed rest) all = absurd (failed (All-head (λ c. ConditionHolds c m (λ name. owns)) c conditions all))

destination_is_met : (eavesdrops : Bool) (name : Option (List ℕ)) → (if eavesdrops then [] else lines_to name) ≡ [] → (name ≡ None) ⊎ (eavesdrops ≡ true)
destination_is_met true name e = inr refl
destination_is_met false None e = inl refl
destination_is_met false (Some name) e = absurd (cc)

unsaid : (eavesdrops : Bool) (name : Option (List ℕ)) → (name ≡ None) ⊎ (eavesdrops ≡ true) → (if eavesdrops then [] else lines_to name) ≡ []
unsaid true name fits = refl
unsaid false None fits = refl
unsaid false (Some name) (inl e) = absurd (cc)
unsaid false (Some name) (inr e) = absurd (cc)

both_empty : (front back : List (List ℕ)) → front ++ back ≡ [] → (front ≡ []) × (back ≡ [])
both_empty [] back e = (refl, e)
both_empty (line ∷ front) back e = absurd (cc)

pub none_where_it_holds : (rule : RuleTree) (m : Message) (owns : Bool) (lines : List (List ℕ)) → AreAllReasons rule m owns lines → ((lines ≡ []) ↔ Holds rule m (λ name. owns))
none_where_it_holds rule m owns lines reasons = (
  λ e.
      let parts = both_empty reasons.of_conditions (destination_lines rule m) (sym reasons.lines_are ∙ e) in
      record { each = hold_all m owns rule.conditions reasons.of_conditions reasons.each parts.0; destination_fits = destination_is_met rule.eavesdrops (destination_of m) parts.1 },
  λ h.
      reasons.lines_are
      ∙ ap (λ (front : List (List ℕ)). front ++ destination_lines rule m) (no_lines m owns rule.conditions reasons.of_conditions reasons.each h.each)
      ∙ unsaid rule.eavesdrops (destination_of m) h.destination_fits,
)
