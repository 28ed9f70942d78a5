-- What is left of a rule, and where it holds.
use Rattle.std.proofs.Common.{◌≡◌, inr, ℕ, ◌≤◌, Bool, true, false, not, ◌&&◌, cond, List, [], ◌∷◌, filter, Option, Some, None, refl, ap, sym, subst, ◌∙◌, arith, All, IfSome}
use Rattle.std.specs.Prelude.{◌↔◌, ◌==◌, MatchBool, IsSomeAnd, sum_by, slice_get, if◌then◌else◌}
use Rattle.std.specs.List.{list_any}
use Rattle.std.proofs.lemmas.Bool.{false≢true, true≢false, eqb-true, and_parts, not-false}
use Rattle.std.proofs.lemmas.List.Elements.{All-nil, All-cons, All-head, All-tail, All-filter}
use Rattle.std.proofs.lemmas.List.Sums.{sum_by-cons}
use Rattle.std.proofs.lemmas.Slice.Eq.{bytes_eq-Decides}
use Rattle.message_view.specs.Message.{Message, path_of, interface_of, member_of, sender_of}
use Rattle.message_view.specs.Spelling.{arguments_of}
use Rattle.match_key.specs.declared.source.Field.TheVariants.{Interface, Member, Path, Destination}
use Rattle.match_key.specs.declared.source.Source.{Source}
use Rattle.match_key.specs.declared.arg_number.ArgNumber.{ArgNumber}
use Rattle.match_key.specs.ArgNumber.{number_of_arg, first_arg}
use Rattle.match_key.proofs.ArgNumbers.{first_alone}
use Rattle.match_key.specs.declared.source.Source.TheVariants.{Header, Arg}
use Rattle.match_key.specs.declared.relation.Relation.TheVariants as relations
use Rattle.match_rule.specs.declared.condition.Condition.{Condition}
use Rattle.match_rule.specs.declared.condition.Condition.TheVariants.{Kind, Sender, Compares}
use Rattle.match_rule.specs.Arguments.{text_in}
use Rattle.match_rule.specs.Condition.{value_of}
use Rattle.message_value.specs.Bytes.{AreBytes}
use Rattle.match_rule.specs.Envelope.{is_of_envelope, ConditionFits, EnvelopeFits}
use Rattle.match_rule.specs.FixedTexts.{member_asked, interface_asked, path_asked, arg0_asked, arg0_of, fixed_texts, texts_of, AreFound}
use Rattle.match_rule.specs.Parts.{is_sender, has_one_sender}
use Rattle.match_rule.specs.RuleTree.{RuleTree, condition_weight, weight_of, is_owned_name, owned_name_in, or_else, first_owned_name, sender_name_of}
use Rattle.match_rule.specs.Holds.{Holds, ConditionHolds, text_at}
use Rattle.bpf_code.specs.declared.instruction.Ins.{Ins}
use Rattle.rule_compile.specs.declared.rest.Tested.{Tested}
use Rattle.rule_compile.specs.declared.rest.Tested.TheVariants.{All as AllTested, Left}
use Rattle.rule_compile.specs.Compiled.{IsSlotOf, IsCompiled, AgreeOn}
use Rattle.rule_compile.specs.Rest.{IsRest}
use Rattle.rule_compile.specs.Tested.{is_fixed, fixed_source, is_left, is_tested, eavesdrops_in, tested_of}
use Rattle.match_rule.proofs.FixedFound.{same_string}

-- ---- what stays true of fewer conditions

-- each condition with an owned name is kept
abbrev pub KeepsNames : (Condition → Bool) → Type 0
KeepsNames p = (c : Condition) → p c ≡ false → owned_name_in c ≡ None

name_kept : (c : Condition) (cs ds : List Condition) (b : Bool) → (b ≡ false → owned_name_in c ≡ None) → first_owned_name ds ≡ first_owned_name cs → first_owned_name (cond b (c ∷ ds) ds) ≡ first_owned_name (c ∷ cs)
name_kept c cs ds true keeps same = ap (or_else (owned_name_in c)) same
name_kept c cs ds false keeps same = rw (keeps refl) same

names_kept : (p : Condition → Bool) → KeepsNames p → (cs : List Condition) → first_owned_name (filter p cs) ≡ first_owned_name cs
names_kept p keeps [] = refl
names_kept p keeps (c ∷ cs) = name_kept c cs (filter p cs) (p c) (keeps c) (names_kept p keeps cs)

fewer_any : (q : Condition → Bool) (c : Condition) (cs ds : List Condition) (b : Bool) → (list_any q cs ≡ false → list_any q ds ≡ false) → list_any q (c ∷ cs) ≡ false → list_any q (cond b (c ∷ ds) ds) ≡ false
fewer_any q c cs ds b fewer none = go (q c) refl none
  where
    go : (here : Bool) → q c ≡ here → list_any q (c ∷ cs) ≡ false → list_any q (cond b (c ∷ ds) ds) ≡ false
    go true is e = absurd (true≢false (rw is at e))
    go false is e = in_both b (fewer (rw is at e))
      where
        in_both : (b : Bool) → list_any q ds ≡ false → list_any q (cond b (c ∷ ds) ds) ≡ false
        in_both true f = rw is f
        in_both false f = f

none_kept : (q p : Condition → Bool) (cs : List Condition) → list_any q cs ≡ false → list_any q (filter p cs) ≡ false
none_kept q p [] none = refl
none_kept q p (c ∷ cs) none = fewer_any q c cs (filter p cs) (p c) (none_kept q p cs) none

-- at most one condition asks for a sender
one_of : (is others rest : Bool) → (not (is && others) && rest) ≡ true → rest ≡ true
one_of is others rest e = (and_parts (not (is && others)) rest e).1

still_one : (is others fewer rest : Bool) → (others ≡ false → fewer ≡ false) → (not (is && others) && rest) ≡ true → (more : Bool) → more ≡ true → (not (is && fewer) && more) ≡ true
still_one false others fewer rest none e more is_true = is_true
still_one true false fewer rest none e more is_true = rw (none refl) is_true
still_one true true fewer rest none e more is_true = absurd (false≢true e)

one_kept : (p : Condition → Bool) (cs : List Condition) → has_one_sender cs ≡ true → has_one_sender (filter p cs) ≡ true
one_kept p [] one = refl
one_kept p (c ∷ cs) one = go (p c) (one_kept p cs (one_of (is_sender c) (list_any is_sender cs) (has_one_sender cs) one))
  where
    go : (b : Bool) → has_one_sender (filter p cs) ≡ true → has_one_sender (cond b (c ∷ filter p cs) (filter p cs)) ≡ true
    go true more = still_one (is_sender c) (list_any is_sender cs) (list_any is_sender (filter p cs)) (has_one_sender cs) (none_kept is_sender p cs) one (has_one_sender (filter p cs)) more
    go false more = more

weight_kept : (p : Condition → Bool) (cs : List Condition) → sum_by condition_weight (filter p cs) ≤ sum_by condition_weight cs
weight_kept p [] = omega arith
weight_kept p (c ∷ cs) = go (p c) (weight_kept p cs)
  where
    go : (b : Bool) → sum_by condition_weight (filter p cs) ≤ sum_by condition_weight cs → sum_by condition_weight (cond b (c ∷ filter p cs) (filter p cs)) ≤ sum_by condition_weight (c ∷ cs)
    go true more = omega (arith, more, sum_by-cons condition_weight c (filter p cs), sum_by-cons condition_weight c cs)
    go false more = omega (arith, more, sum_by-cons condition_weight c cs)

-- ---- the conditions that are tested

keeps_names : (tested : Tested) → KeepsNames (is_tested tested)
keeps_names AllTested c out = absurd (true≢false out)
keeps_names (Left rule) (Sender name) out = go (is_owned_name name) out
  where
    go : (b : Bool) → not (not b) ≡ false → (if b then Some name else None) ≡ None
    go true e = absurd (true≢false e)
    go false e = refl
keeps_names (Left rule) (Kind kind) out = refl
keeps_names (Left rule) (Compares source relation value) out = refl

pub same_sender : (tested : Tested) (rule : RuleTree) → sender_name_of (tested_of tested rule) ≡ sender_name_of rule
same_sender tested rule = names_kept (is_tested tested) (keeps_names tested) rule.conditions

pub one_sender : (tested : Tested) (rule : RuleTree) → has_one_sender rule.conditions ≡ true → has_one_sender (tested_of tested rule).conditions ≡ true
one_sender tested rule = one_kept (is_tested tested) rule.conditions

pub same_bytes : (tested : Tested) (rule : RuleTree) → All (λ c. AreBytes (value_of c)) rule.conditions → All (λ c. AreBytes (value_of c)) (tested_of tested rule).conditions
same_bytes tested rule are = All-filter (is_tested tested) (λ c. AreBytes (value_of c)) rule.conditions are

pub no_heavier : (tested : Tested) (rule : RuleTree) → weight_of (tested_of tested rule) ≤ weight_of rule
no_heavier tested rule = omega (arith, weight_kept (is_tested tested) rule.conditions)

pub same_slot : (tested : Tested) (rule : RuleTree) (slot : Option ℕ) → IsSlotOf slot rule → IsSlotOf slot (tested_of tested rule)
same_slot tested rule slot is = record { where_asked = rw (same_sender tested rule) is.where_asked; small = is.small }

-- all conditions are the rule's
all_tested : (cs : List Condition) → filter (is_tested AllTested) cs ≡ cs
all_tested [] = refl
all_tested (c ∷ cs) = ap (λ (ds : List Condition). c ∷ ds) (all_tested cs)

pub whole_rule : (rule : RuleTree) → tested_of AllTested rule ≡ rule
whole_rule rule = ap (λ (cs : List Condition). record { conditions = cs; eavesdrops = rule.eavesdrops }) (all_tested rule.conditions)

-- ---- where a rule holds

-- a text that is fixed and found
fixed_text_is : (fixed : Option (List ℕ)) (text : List ℕ) (Q : List ℕ → Type 0) → is_fixed fixed text ≡ true → IfSome fixed Q → Q text
fixed_text_is None text Q is found = absurd (false≢true is)
fixed_text_is (Some other) text Q is found = subst Q ((bytes_eq-Decides other text).0 is) found

-- a text that is there
there : (shown : Option (List ℕ)) (value : List ℕ) → shown ≡ Some value → IsSomeAnd shown (λ text. text ≡ value)
there None value is = absurd cc
there (Some text) value is = cc

-- a condition about the envelope that fits holds
fitting_holds : (c : Condition) (m : Message) (owned : List ℕ → Bool) → is_of_envelope c ≡ true → ConditionFits c m → ConditionHolds c m owned
fitting_holds (Kind kind) m owned of fits = fits
fitting_holds (Sender name) m owned of fits = go (is_owned_name name) of fits
  where
    go : (b : Bool) → not b ≡ true → MatchBool b (Unit {0}) (sender_of m ≡ Some name) → MatchBool b (owned name ≡ true) (sender_of m ≡ Some name)
    go true of fits = absurd (false≢true of)
    go false of fits = fits
fitting_holds (Compares source relation value) m owned of fits = absurd (false≢true of)

module _ (rule : RuleTree) (m : Message) (owned : List ℕ → Bool) (found : AreFound (fixed_texts rule) (texts_of m)) (fits : EnvelopeFits rule m) where
  arg_fixed : (n : ArgNumber) (value : List ℕ) → is_fixed (fixed_source rule (Arg n)) value ≡ true → IsSomeAnd (text_at (Arg n) relations.Equal m) (λ text. text ≡ value)
  arg_fixed n value e = go (number_of_arg n == 0) refl e
    where
      go : (b : Bool) → (number_of_arg n == 0) ≡ b → is_fixed (if b then arg0_asked rule else None) value ≡ true → IsSomeAnd (text_at (Arg n) relations.Equal m) (λ text. text ≡ value)
      go true zeroth e =
          let is = fixed_text_is (arg0_asked rule) value (λ text. arg0_of m ≡ Some text) e found.arg0 in
          let at_zero = there (text_at (Arg first_arg) relations.Equal m) value (sym (same_string (text_in (slice_get (arguments_of m) 0))) ∙ is) in
          subst (λ (k : ArgNumber). IsSomeAnd (text_at (Arg k) relations.Equal m) (λ text. text ≡ value)) (sym (first_alone n (eqb-true (number_of_arg n) 0 zeroth))) at_zero
      go false other e = absurd (false≢true e)

  -- a text that the rule fixes is found
  source_fixed : (source : Source) (value : List ℕ) → is_fixed (fixed_source rule source) value ≡ true → IsSomeAnd (text_at source relations.Equal m) (λ text. text ≡ value)
  source_fixed (Header Interface) value e = there (interface_of m) value (fixed_text_is (interface_asked rule) value (λ text. interface_of m ≡ Some text) e found.interface)
  source_fixed (Header Member) value e = there (member_of m) value (fixed_text_is (member_asked rule) value (λ text. member_of m ≡ Some text) e found.member)
  source_fixed (Header Path) value e = there (path_of m) value (fixed_text_is (path_asked rule) value (λ text. path_of m ≡ Some text) e found.path)
  source_fixed (Header Destination) value e = absurd (false≢true e)
  source_fixed (Arg n) value e = arg_fixed n value e

  -- a condition that isn't left holds
  not_left_holds : (c : Condition) → is_left rule c ≡ false → ConditionFits c m → ConditionHolds c m owned
  not_left_holds (Compares source relations.Equal value) e fit = source_fixed source value (not-false _ e)
  not_left_holds (Compares source relation value) e fit = absurd (true≢false e)
  not_left_holds c e fit = fitting_holds c m owned (not-false (is_of_envelope c) e) fit

  all_hold : (p : Condition → Bool) → ((c : Condition) → p c ≡ false → ConditionFits c m → ConditionHolds c m owned) → (cs : List Condition) → All (λ c. ConditionFits c m) cs → All (λ c. ConditionHolds c m owned) (filter p cs) → All (λ c. ConditionHolds c m owned) cs
  all_hold p others [] fit each = All-nil (λ c. ConditionHolds c m owned)
  all_hold p others (c ∷ cs) fit each = go (p c) refl each (all_hold p others cs (All-tail (λ c. ConditionFits c m) c cs fit))
    where
      go : (b : Bool) → p c ≡ b → All (λ c. ConditionHolds c m owned) (cond b (c ∷ filter p cs) (filter p cs)) → (All (λ c. ConditionHolds c m owned) (filter p cs) → All (λ c. ConditionHolds c m owned) cs) → All (λ c. ConditionHolds c m owned) (c ∷ cs)
      go true is h more = All-cons (λ c. ConditionHolds c m owned) c cs (All-head (λ c. ConditionHolds c m owned) c (filter p cs) h) (more (All-tail (λ c. ConditionHolds c m owned) c (filter p cs) h))
      go false is h more = All-cons (λ c. ConditionHolds c m owned) c cs (others c is (All-head (λ c. ConditionFits c m) c cs fit)) (more h)

  rest_holds : (tested : Tested) → ((c : Condition) → is_tested tested c ≡ is_left rule c) → eavesdrops_in tested rule.eavesdrops ≡ true → (Holds (tested_of tested rule) m owned ↔ Holds rule m owned)
  rest_holds tested same untested = (
    (λ h. record { each = all_hold (is_tested tested) (λ c e. not_left_holds c (sym (same c) ∙ e)) rule.conditions fits.each h.each; destination_fits = fits.destination_fits }),
    (λ h. record { each = All-filter (is_tested tested) (λ c. ConditionHolds c m owned) rule.conditions h.each; destination_fits = inr untested }),
  )

pub rest_compiled : (rule : RuleTree) (slot : Option ℕ) (tested : Tested) (program : List Ins) → ((c : Condition) → is_tested tested c ≡ is_left rule c) → eavesdrops_in tested rule.eavesdrops ≡ true → IsCompiled (tested_of tested rule) slot program → IsRest rule slot program
rest_compiled rule slot tested program same untested compiled = record {
  decides = λ bytes m slots owned v n valid set agree found fits ends.
      let fewer : AgreeOn (tested_of tested rule) slot owned slots = rw (same_sender tested rule) agree in
      let tells = compiled bytes m slots owned v n valid set fewer ends in
      let rest = rest_holds rule m owned found fits tested same untested in
      ((λ less. rest.0 (tells.0 less)), (λ holds. tells.1 (rest.1 holds)));
}
