-- The map beside the labels, with one more label.
use Rattle.std.proofs.Common.{◌≡◌, ℕ, Bool, true, false, cond, List, [], ◌∷◌, ◌++◌, Option, Some, None, refl, sym, ap, ◌∙◌}
use Rattle.std.specs.Prelude.{is_some, ◌||◌}
use Rattle.std.specs.Ordering.{nat_cmp}
use Rattle.std.specs.Option.{option_map}
use Rattle.std.specs.List.{find}
use Rattle.std.specs.Str.{bytes_eq}
use Rattle.std.proofs.lemmas.Slice.Eq.{bytes_eq-Decides}
use Rattle.std.specs.BTreeMap.{BTreeMap, get_by}
use Rattle.std.specs.Borrow.{Bor}
use Rattle.std.specs.Cmp.Lexicographic.{slice_cmp}
use Rattle.bpf_text.specs.Source.{Label, defined, has_name}
use Rattle.bpf_text.specs.LabelPlaces.{Finds}

-- the first of two
abbrev first_or : Option ℕ → Option ℕ → Option ℕ
first_or (Some x) other = Some x
first_or None other = other

first_or_none : (o : Option ℕ) → first_or o None ≡ o
first_or_none (Some x) = refl
first_or_none None = refl

is_first : (b : Bool) (label : Label) (whole front : Option Label) (last : Option ℕ) → option_map (λ (l : Label). l.place) whole ≡ first_or (option_map (λ (l : Label). l.place) front) last
    → option_map (λ (l : Label). l.place) (cond b (Some label) whole) ≡ first_or (option_map (λ (l : Label). l.place) (cond b (Some label) front)) last
is_first true label whole front last e = refl
is_first false label whole front last e = e

only_label : (b : Bool) (label : Label) → option_map (λ (l : Label). l.place) (cond b (Some label) None) ≡ cond b (Some label.place) None
only_label true label = refl
only_label false label = refl

-- one more label
defined_push : (labels : List Label) (label : Label) (name : List ℕ) → defined (labels ++ label ∷ []) name ≡ first_or (defined labels name) (cond (bytes_eq label.name name) (Some label.place) None)
unfolding defined
defined_push [] label name = only_label (bytes_eq label.name name) label
defined_push (first ∷ labels) label name =
    is_first (bytes_eq first.name name) first (find (λ (l : Label). bytes_eq l.name name) (labels ++ label ∷ [])) (find (λ (l : Label). bytes_eq l.name name) labels) (cond (bytes_eq label.name name) (Some label.place) None) (defined_push labels label name)

after_push : (labels : List Label) (label : Label) (name : List ℕ) (o : Option ℕ) (b : Bool) → defined labels name ≡ o → bytes_eq label.name name ≡ b → defined (labels ++ label ∷ []) name ≡ first_or o (cond b (Some label.place) None)
after_push labels label name o b e is =
    defined_push labels label name
    ∙ ap (λ (x : Option ℕ). first_or x (cond (bytes_eq label.name name) (Some label.place) None)) e
    ∙ ap (λ (x : Bool). first_or o (cond x (Some label.place) None)) is

-- a name that some label has is defined
pub has_defined : (labels : List Label) (name : List ℕ) → has_name labels name ≡ is_some (defined labels name)
unfolding defined
has_defined [] name = refl
has_defined (first ∷ labels) name = go (bytes_eq first.name name) (has_defined labels name)
  where
    go : (b : Bool) → has_name labels name ≡ is_some (option_map (λ (l : Label). l.place) (find (λ (l : Label). bytes_eq l.name name) labels))
        → (b || has_name labels name) ≡ is_some (option_map (λ (l : Label). l.place) (cond b (Some first) (find (λ (l : Label). bytes_eq l.name name) labels)))
    go true e = refl
    go false e = e

pub no_labels : (places : BTreeMap (Bor (List ℕ)) ℕ) → places.entries ≡ [] → Finds places []
unfolding defined
no_labels places none = λ name. rw none refl

-- a name that is known already keeps its place
pub known_push : (places : BTreeMap (Bor (List ℕ)) ℕ) (labels : List Label) (label : Label) → Finds places labels → is_some (get_by (λ key. slice_cmp nat_cmp label.name key.now) places) ≡ true → Finds places (labels ++ label ∷ [])
known_push places labels label finds known = λ name.
    go name (bytes_eq label.name name) refl (defined labels name) refl
  where
    go : (name : List ℕ) (b : Bool) → bytes_eq label.name name ≡ b → (o : Option ℕ) → defined labels name ≡ o → get_by (λ key. slice_cmp nat_cmp name key.now) places ≡ defined (labels ++ label ∷ []) name
    go name b is (Some place) e = finds name ∙ e ∙ sym (after_push labels label name (Some place) b e is)
    go name false is None e = finds name ∙ e ∙ sym (after_push labels label name None false e is)
    go name true is None e =
        let same : label.name ≡ name = (bytes_eq-Decides label.name name).0 is in
        let some : is_some (defined labels name) ≡ true = ap is_some (sym (finds name)) ∙ ap (λ (n : List ℕ). is_some (get_by (λ key. slice_cmp nat_cmp n key.now) places)) (sym same) ∙ known in
        let none : is_some (defined labels name) ≡ false = ap is_some e in
        absurd cc

-- a name that is new has the place of its label
pub new_push : (before places : BTreeMap (Bor (List ℕ)) ℕ) (labels : List Label) (label : Label) → Finds before labels → is_some (get_by (λ key. slice_cmp nat_cmp label.name key.now) before) ≡ false
    → ((name : List ℕ) → get_by (λ key. slice_cmp nat_cmp name key.now) places ≡ cond (bytes_eq label.name name) (Some label.place) (get_by (λ key. slice_cmp nat_cmp name key.now) before))
    → Finds places (labels ++ label ∷ [])
new_push before places labels label finds new updates = λ name. go name (bytes_eq label.name name) refl (defined labels name) refl
  where
    updated : (name : List ℕ) (b : Bool) → bytes_eq label.name name ≡ b → get_by (λ key. slice_cmp nat_cmp name key.now) places ≡ cond b (Some label.place) (get_by (λ key. slice_cmp nat_cmp name key.now) before)
    updated name b is = updates name ∙ ap (λ (x : Bool). cond x (Some label.place) (get_by (λ key. slice_cmp nat_cmp name key.now) before)) is

    go : (name : List ℕ) (b : Bool) → bytes_eq label.name name ≡ b → (o : Option ℕ) → defined labels name ≡ o → get_by (λ key. slice_cmp nat_cmp name key.now) places ≡ defined (labels ++ label ∷ []) name
    go name false is o e = updated name false is ∙ finds name ∙ e ∙ sym (after_push labels label name o false e is ∙ first_or_none o)
    go name true is None e = updated name true is ∙ sym (after_push labels label name None true e is)
    go name true is (Some place) e =
        let same : label.name ≡ name = (bytes_eq-Decides label.name name).0 is in
        let none : is_some (defined labels name) ≡ false = ap is_some (sym (finds name)) ∙ ap (λ (n : List ℕ). is_some (get_by (λ key. slice_cmp nat_cmp n key.now) before)) (sym same) ∙ new in
        let some : is_some (defined labels name) ≡ true = ap is_some e in
        absurd cc
