-- The fronts of a text: which they are, that none stands there twice, and how one follows from the one before it.
use Rattle.std.proofs.Common.{◌≡◌, ◌≢◌, ℕ, zero, suc, ◌<◌, Bool, true, false, List, [], ◌∷◌, ◌++◌, map, length, get_or, take, refl, sym, ap, ◌∙◌, subst, ◌⊎◌, inl, inr, eqb, arith, length-append}
use Rattle.std.proofs.lemmas.Bool.{eqb-true, eq-eqb, ne_eqb, cond-true, cond-false, cases_Bool, false≢true}
use Rattle.std.proofs.lemmas.Slice.Eq.{bytes_eq-Decides}
use Rattle.std.specs.Prelude.{Option, Some, None, IfSome, IsSomeAnd, if◌then◌else◌}
use Rattle.std.specs.Str.{bytes_eq, IsCharBoundary}
use Rattle.std.proofs.lemmas.Str.{IsCharBoundary-before_ascii}
use Rattle.memchr.specs.Find.{IsLastByte, is_byte}
use Rattle.match_rule.specs.Holds.{Begins, InPathNamespace}
use Rattle.match_rule.specs.PathNamespaces.{HasPathIn}
use Rattle.entry_table.specs.Fronts.{shorter_fronts, fronts_after, namespace_front}
use Rattle.entry_table.specs.FoundTexts.{is_text_found}
use Rattle.entry_table.specs.TextKeys.{bit_of}
use Rattle.entry_table.proofs.Members.{Among, NoTwice, among-left, among-right, among-cases, among-map, among-mapped, NoTwice-map, NoTwice-append}

-- nothing, or the empty front
abbrev none_or_empty : Bool → List (List ℕ)
none_or_empty b = if b then [] ∷ [] else []

empty_alone : (b : Bool) (front : List ℕ) → Among (none_or_empty b) front → (b ≡ true) × ([] ≡ front)
empty_alone true front h = elim h [ inl same ↦ (refl, same) | inr none ↦ absurd none ]
empty_alone false front h = absurd h

-- after each front the divider stands
pub front_begins : (divider : ℕ) (text front : List ℕ) → Among (shorter_fronts divider text) front → Begins text (front ++ divider ∷ [])
front_begins divider [] front h = absurd h
front_begins divider (x ∷ xs) front h =
    elim (among-cases (map (λ (f : List ℕ). x ∷ f) (shorter_fronts divider xs)) (none_or_empty (eqb x divider)) front h) [
      | inl longer ↦ (
          let found = among-mapped (λ (f : List ℕ). x ∷ f) (shorter_fronts divider xs) front longer in
          let rest = front_begins divider xs found.0 found.1 in
          subst (λ (f : List ℕ). Begins (x ∷ xs) (f ++ divider ∷ [])) found.2 (rest.0, ap (λ (t : List ℕ). x ∷ t) rest.1))
      | inr empty ↦ (
          let both = empty_alone (eqb x divider) front empty in
          subst (λ (f : List ℕ). Begins (x ∷ xs) (f ++ divider ∷ [])) both.1 (xs, ap (λ (n : ℕ). n ∷ xs) (eqb-true x divider both.0)))
    ]

front_there : (divider : ℕ) (front rest : List ℕ) → Among (shorter_fronts divider ((front ++ divider ∷ []) ++ rest)) front
front_there divider [] rest =
    among-right (map (λ (f : List ℕ). divider ∷ f) (shorter_fronts divider rest)) (none_or_empty (eqb divider divider)) []
    (subst (λ (b : Bool). Among (none_or_empty b) []) (sym (eq-eqb divider divider refl)) (inl refl))
front_there divider (x ∷ front) rest =
    let text : List ℕ = (front ++ divider ∷ []) ++ rest in
    among-left (map (λ (f : List ℕ). x ∷ f) (shorter_fronts divider text)) (none_or_empty (eqb x divider)) (x ∷ front)
    (among-map (λ (f : List ℕ). x ∷ f) (shorter_fronts divider text) front (front_there divider front rest))

-- and each text after which it stands is one
pub begins_front : (divider : ℕ) (text front : List ℕ) → Begins text (front ++ divider ∷ []) → Among (shorter_fronts divider text) front
begins_front divider text front h = subst (λ (t : List ℕ). Among (shorter_fronts divider t) front) (sym h.1) (front_there divider front h.0)

not_its_own : (divider : ℕ) (text : List ℕ) → Among (shorter_fronts divider text) text → ⊥
not_its_own divider text h =
    let begins = front_begins divider text text h in
    absurd (omega (arith, ap (λ (t : List ℕ). length t) begins.1, length-append (text ++ divider ∷ []) begins.0, length-append text (divider ∷ [])))

one_rest : (x : ℕ) (a b : List ℕ) → ◌≡◌ {A = List ℕ} (x ∷ a) (x ∷ b) → a ≡ b
one_rest x a b same = cc

fronts-once : (divider : ℕ) (text : List ℕ) → NoTwice (shorter_fronts divider text)
fronts-once divider [] = tt
fronts-once divider (x ∷ xs) =
    NoTwice-append (map (λ (f : List ℕ). x ∷ f) (shorter_fronts divider xs)) (none_or_empty (eqb x divider))
    (NoTwice-map (λ (f : List ℕ). x ∷ f) (one_rest x) (shorter_fronts divider xs) (fronts-once divider xs))
    (alone (eqb x divider))
    (λ front longer empty. apart front (among-mapped (λ (f : List ℕ). x ∷ f) (shorter_fronts divider xs) front longer).2 (empty_alone (eqb x divider) front empty).1)
  where
    alone : (b : Bool) → NoTwice (none_or_empty b)
    alone true = (λ none. none, tt)
    alone false = tt

    apart : {first : List ℕ} (front : List ℕ) → x ∷ first ≡ front → [] ≡ front → ⊥
    apart front long empty = absurd cc

-- ---- one front after the other

pub no_fronts : (divider : ℕ) (text : List ℕ) → ((i : ℕ) → i < length text → get_or text i 0 ≢ divider) → shorter_fronts divider text ≡ []
no_fronts divider [] none = refl
no_fronts divider (x ∷ xs) none =
    let rest : shorter_fronts divider xs ≡ [] = no_fronts divider xs (λ i low. none (suc i) (omega (arith, low))) in
    let other : eqb x divider ≡ false = ne_eqb x divider (none 0 (omega arith)) in
    ap (λ (fronts : List (List ℕ)). map (λ (f : List ℕ). x ∷ f) fronts ++ none_or_empty (eqb x divider)) rest ∙ ap none_or_empty other

pub first_front : (divider : ℕ) (text : List ℕ) (end : ℕ) → end < length text → get_or text end 0 ≡ divider → ((i : ℕ) → end < i → i < length text → get_or text i 0 ≢ divider)
    → shorter_fronts divider text ≡ take end text ∷ shorter_fronts divider (take end text)
first_front divider [] end low here none = absurd (omega arith)
first_front divider (x ∷ xs) zero low here none =
    let rest : shorter_fronts divider xs ≡ [] = no_fronts divider xs (λ i inside. none (suc i) (omega arith) (omega (arith, inside))) in
    ap (λ (fronts : List (List ℕ)). map (λ (f : List ℕ). x ∷ f) fronts ++ none_or_empty (eqb x divider)) rest ∙ ap none_or_empty (eq-eqb x divider here)
first_front divider (x ∷ xs) (suc end) low here none =
    ap (λ (fronts : List (List ℕ)). map (λ (f : List ℕ). x ∷ f) fronts ++ none_or_empty (eqb x divider))
    (first_front divider xs end (omega (arith, low)) here (λ i above inside. none (suc i) (omega (arith, above)) (omega (arith, inside))))

-- the last place of the divider is where the longest front ends
pub last_front : (divider end : ℕ) (text : List ℕ) → IsLastByte (is_byte divider) text (Some end) → shorter_fronts divider text ≡ take end text ∷ shorter_fronts divider (take end text)
last_front divider end text h =
    first_front divider text end h.0.high (eqb-true (get_or text end 0) divider h.1)
    (λ i above inside is. h.0.after i (omega (arith, above)) inside (eq-eqb (get_or text i 0) divider is))

pub no_last_front : (divider : ℕ) (text : List ℕ) → IsLastByte (is_byte divider) text None → shorter_fronts divider text ≡ []
no_last_front divider text h = no_fronts divider text (λ i inside is. h i (omega arith) inside (eq-eqb (get_or text i 0) divider is))

-- a text may be cut there
pub ends_at_boundary : (divider end : ℕ) (text : List ℕ) → divider < 128 → IsLastByte (is_byte divider) text (Some end) → IsCharBoundary text end
ends_at_boundary divider end text ascii h =
    IsCharBoundary-before_ascii text end h.0.high (omega (arith, ascii, eqb-true (get_or text end 0) divider h.1))

-- ---- a text and its fronts

-- the text is the front, or the divider stands there after the front
abbrev pub HasFront : ℕ → List ℕ → List ℕ → Type 0
HasFront divider text front = (text ≡ front) ⊎ Begins text (front ++ divider ∷ [])

some_text : (a b : List ℕ) → ◌≡◌ {A = Option (List ℕ)} (Some a) (Some b) → a ≡ b
some_text a b same = cc

pub among_has : (wanted : Bool) (divider : ℕ) (text : Option (List ℕ)) (front : List ℕ) → Among (text ∷ fronts_after wanted divider text) (Some front) → IsSomeAnd text (λ t. HasFront divider t front)
among_has wanted divider None front h = elim h [ inl same ↦ absurd cc | inr later ↦ none wanted later ]
  where
    none : (b : Bool) → Among (fronts_after b divider None) (Some front) → ⊥
    none true there = there
    none false there = there
among_has wanted divider (Some text) front h = elim h [ inl same ↦ inl (some_text text front same) | inr later ↦ inr (longer wanted later) ]
  where
    longer : (b : Bool) → Among (fronts_after b divider (Some text)) (Some front) → Begins text (front ++ divider ∷ [])
    longer true there =
        let found = among-mapped (λ (f : List ℕ). Some f) (shorter_fronts divider text) (Some front) there in
        front_begins divider text front (subst (λ (f : List ℕ). Among (shorter_fronts divider text) f) (some_text found.0 front found.2) found.1)
    longer false there = absurd there

pub has_among : (divider : ℕ) (text : Option (List ℕ)) (front : List ℕ) → IsSomeAnd text (λ t. HasFront divider t front) → Among (text ∷ fronts_after true divider text) (Some front)
has_among divider None front h = absurd h
has_among divider (Some text) front h = elim h [
  | inl same ↦ inl (ap (λ (t : List ℕ). Some t) same)
  | inr begins ↦ inr (among-map (λ (f : List ℕ). Some f) (shorter_fronts divider text) front (begins_front divider text front begins))
]

-- ---- the one that is asked for

-- at most one of the texts is the one that is asked for
abbrev pub OnlyOne : Option (List ℕ) → List (Option (List ℕ)) → Type 0
OnlyOne asked [] = Unit {0}
OnlyOne asked (x ∷ xs) = (is_text_found asked x ≡ true → (y : Option (List ℕ)) → Among xs y → is_text_found asked y ≡ true → ⊥) × OnlyOne asked xs

one_of : (asked : List ℕ) (texts : List (List ℕ)) → NoTwice texts → OnlyOne (Some asked) (map (λ (t : List ℕ). Some t) texts)
one_of asked [] once = tt
one_of asked (text ∷ texts) once = (λ found other there also. once.0 (again found other there also), one_of asked texts once.1)
  where
    again : bytes_eq text asked ≡ true → (other : Option (List ℕ)) → Among (map (λ (t : List ℕ). Some t) texts) other → is_text_found (Some asked) other ≡ true → Among texts text
    again found other there also =
        let from = among-mapped (λ (t : List ℕ). Some t) texts other there in
        let that : from.0 ≡ asked = (bytes_eq-Decides from.0 asked).0 (subst (λ (o : Option (List ℕ)). is_text_found (Some asked) o ≡ true) (sym from.2) also) in
        subst (λ (t : List ℕ). Among texts t) (that ∙ sym ((bytes_eq-Decides text asked).0 found)) from.1

pub only_one : (asked text : Option (List ℕ)) (divider : ℕ) (wanted : Bool) → wanted ≡ eqb (bit_of asked) 1 → OnlyOne asked (text ∷ fronts_after wanted divider text)
only_one None text divider true is = absurd (false≢true (sym is))
only_one None text divider false is = (λ found y none also. none, tt)
only_one (Some asked) None divider true is = (λ found y none also. none, tt)
only_one (Some asked) (Some text) divider true is = one_of asked (text ∷ shorter_fronts divider text) (not_its_own divider text, fronts-once divider text)
only_one (Some asked) text divider false is = absurd (false≢true is)

-- ---- path namespaces as fronts

-- a path begins with a `/`
abbrev pub IsRooted : Option (List ℕ) → Type 0
IsRooted path = IfSome path (λ text. (rest : List ℕ) × (text ≡ 47 ∷ rest))

front_is : (namespace : List ℕ) → (namespace ≡ 47 ∷ [] → namespace_front namespace ≡ []) × ((namespace ≡ 47 ∷ [] → ⊥) → namespace_front namespace ≡ namespace)
front_is namespace =
    elim (cases_Bool (bytes_eq namespace (47 ∷ []))) [
      | inl root ↦ (λ is. cond-true (bytes_eq namespace (47 ∷ [])) [] namespace root, λ other. absurd (other ((bytes_eq-Decides namespace (47 ∷ [])).0 root)))
      | inr under ↦ (λ is. absurd (false≢true (sym under ∙ (bytes_eq-Decides namespace (47 ∷ [])).1 is)), λ other. cond-false (bytes_eq namespace (47 ∷ [])) [] namespace under)
    ]

is_root : (namespace : List ℕ) → (namespace ≡ 47 ∷ []) ⊎ (namespace ≡ 47 ∷ [] → ⊥)
is_root namespace = elim (cases_Bool (bytes_eq namespace (47 ∷ []))) [
  | inl root ↦ inl ((bytes_eq-Decides namespace (47 ∷ [])).0 root)
  | inr under ↦ inr (λ is. false≢true (sym under ∙ (bytes_eq-Decides namespace (47 ∷ [])).1 is))
]

pub inside_from_front : (text namespace : List ℕ) → HasFront 47 text (namespace_front namespace) → InPathNamespace text namespace
inside_from_front text namespace h = elim (is_root namespace) [
  | inl root ↦ inr (inr root)
  | inr under ↦ (elim (subst (HasFront 47 text) ((front_is namespace).1 under) h) [ inl same ↦ inl same | inr begins ↦ inr (inl begins) ])
]

pub front_from_inside : (text namespace : List ℕ) → ((rest : List ℕ) × (text ≡ 47 ∷ rest)) → InPathNamespace text namespace → HasFront 47 text (namespace_front namespace)
front_from_inside text namespace rooted h = elim (is_root namespace) [
  | inl root ↦ subst (HasFront 47 text) (sym ((front_is namespace).0 root)) (inr rooted)
  | inr under ↦ subst (HasFront 47 text) (sym ((front_is namespace).1 under)) (elim h [
    | inl same ↦ inl same
    | inr more ↦ (elim more [ inl begins ↦ inr begins | inr root ↦ absurd (under root) ])
  ])
]

pub path_inside : (path : Option (List ℕ)) (namespace : List ℕ) → IsSomeAnd path (λ text. HasFront 47 text (namespace_front namespace)) → HasPathIn path namespace
path_inside None namespace h = h
path_inside (Some text) namespace h = inside_from_front text namespace h

pub path_front : (path : Option (List ℕ)) (namespace : List ℕ) → IsRooted path → HasPathIn path namespace → IsSomeAnd path (λ text. HasFront 47 text (namespace_front namespace))
path_front None namespace rooted h = h
path_front (Some text) namespace rooted h = front_from_inside text namespace rooted h
