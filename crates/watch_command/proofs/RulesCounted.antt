-- Counting by the rules of a connection.
use Rattle.std.proofs.Common.{◌≡◌, ◌⊎◌, ℕ, suc, ◌+◌, ◌<◌, List, [], ◌∷◌, ◌++◌, length, get_or, drop, map, sym, subst, ap, ◌∙◌, add-one, drop-cons}
use Rattle.std.proofs.lemmas.List.{map-append}
use Rattle.std.specs.Prelude.{string_bytes}
use Rattle.watch_command.specs.declared.counts.CountedRule.{CountedRule}
use Rattle.watch_command.specs.CountedRules.{text_counts}
use Rattle.watch_command.specs.ShownText.{shown_text}
use Rattle.watch_command.specs.RulesCounted.{TextCounts, IsCounted, IsPassedOver, AreCounted}

-- one more rule, which has taken nothing yet
pub one_more : (old new : List CountedRule) (rule : CountedRule) (text : List ℕ) → new ≡ old ++ rule ∷ [] → string_bytes rule.text ≡ shown_text text → rule.count ≡ 0 → text_counts new ≡ text_counts old ++ (shown_text text, 0) ∷ []
one_more old new rule text is shown none =
    ap text_counts is ∙ map-append (λ (it : CountedRule). (string_bytes it.text, it.count)) old (rule ∷ [])
    ∙ ap (λ (last : List ℕ × ℕ). text_counts old ++ last ∷ []) (cc)

-- the text at a place, and those after it
pub counted_next : {A : Type 0} (bytes : A → List ℕ) (texts : List A) (i : ℕ) (text : A) (lent : List ℕ) (before next after : TextCounts) → i < length texts → text ≡ get_or texts i text → lent ≡ bytes text → (IsCounted lent before next ⊎ IsPassedOver lent before next) → AreCounted (map bytes (drop (i + 1) texts)) next after → AreCounted (map bytes (drop i texts)) before after
counted_next {A} bytes texts i text lent before next after h is same step later =
    subst (λ (left : List A). AreCounted (map bytes left) before after) (sym here)
    (next, subst (λ (t : List ℕ). IsCounted t before next ⊎ IsPassedOver t before next) same step, later)
  where
    here : drop i texts ≡ text ∷ drop (i + 1) texts
    here = rw add-one (drop-cons texts i text h ∙ ap (λ (a : A). a ∷ drop (suc i) texts) (sym is))
