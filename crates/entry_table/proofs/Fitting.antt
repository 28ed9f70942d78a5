-- The lookups of a message offer exactly the entries whose texts and namespaces it has, each once.
use Rattle.std.proofs.Common.{◌≡◌, ℕ, ◌<◌, ◌/◌, ◌%◌, Bool, true, false, List, [], ◌∷◌, ◌++◌, refl, sym, ap, ◌∙◌, subst, ◌⊎◌, inl, inr, eqb, arith}
use Rattle.std.proofs.lemmas.Bool.{eqb-true, eq-eqb, and_parts, and_from, or_cases, or_left, or_right, cases_eq, false≢true}
use Rattle.std.proofs.lemmas.Slice.Eq.{bytes_eq-Decides}
use Rattle.std.specs.Prelude.{Option, Some, None, IfSome, IsSomeAnd, option_map}
use Rattle.message_view.specs.Message.{Message, path_of}
use Rattle.match_rule.specs.FixedTexts.{FixedTexts, texts_from, AreFound}
use Rattle.match_rule.specs.Holds.{InNamespace}
use Rattle.match_rule.specs.PathNamespaces.{HasPathIn}
use Rattle.entry_table.specs.PlaceLists.{has_place, AreOnce}
use Rattle.entry_table.specs.declared.entry.Entry.{Entry}
use Rattle.entry_table.specs.Namespaces.{AreInside}
use Rattle.entry_table.specs.OfferedEntries.{texts_fixed, namespaces_fixed}
use Rattle.entry_table.specs.Fronts.{fronts_after, namespace_front}
use Rattle.entry_table.specs.FoundTexts.{is_text_found, are_found, is_offered, texts_read}
use Rattle.entry_table.specs.IndexLists.{shape_key}
use Rattle.entry_table.specs.Lookups.{Lookup, with_path, with_paths, paths_after, arg0s_after, of_shape, of_shapes}
use Rattle.entry_table.specs.TextKeys.{LookupTexts, bit_of}
use Rattle.entry_table.specs.EntryTexts.{lookup_texts}
use Rattle.entry_table.proofs.Members.{Among}
use Rattle.entry_table.proofs.Fronts.{IsRooted, OnlyOne, among_has, has_among, only_one, path_inside, path_front}
use Rattle.entry_table.proofs.Offering.{bit-small, shape-path_namespace, shape-arg0_namespace, AreFound-test, test-AreFound, all_found, found_all}

-- one of the lookups offers the entry
abbrev pub Offers : List Lookup → Entry → Type 0
Offers [] e = ⊥
Offers (l ∷ ls) e = (is_offered l.shape l.texts e ≡ true) ⊎ Offers ls e

-- no two of them do
abbrev pub OffersOnce : List Lookup → Entry → Type 0
OffersOnce [] e = Unit {0}
OffersOnce (l ∷ ls) e = (is_offered l.shape l.texts e ≡ true → Offers ls e → ⊥) × OffersOnce ls e

offers_left : (ls more : List Lookup) (e : Entry) → Offers ls e → Offers (ls ++ more) e
offers_left [] more e h = absurd h
offers_left (l ∷ ls) more e h = elim h [ inl here ↦ inl here | inr later ↦ inr (offers_left ls more e later) ]

offers_right : (ls more : List Lookup) (e : Entry) → Offers more e → Offers (ls ++ more) e
offers_right [] more e h = h
offers_right (l ∷ ls) more e h = inr (offers_right ls more e h)

offers_cases : (ls more : List Lookup) (e : Entry) → Offers (ls ++ more) e → Offers ls e ⊎ Offers more e
offers_cases [] more e h = inr h
offers_cases (l ∷ ls) more e h = elim h [
  | inl here ↦ inl (inl here)
  | inr later ↦ (elim (offers_cases ls more e later) [ inl left ↦ inl (inr left) | inr right ↦ inr right ])
]

once_append : (ls more : List Lookup) (e : Entry) → OffersOnce ls e → OffersOnce more e → (Offers ls e → Offers more e → ⊥) → OffersOnce (ls ++ more) e
once_append [] more e h k apart = k
once_append (l ∷ ls) more e h k apart = (
  λ here there. elim (offers_cases ls more e there) [ inl left ↦ h.0 here left | inr right ↦ apart (inl here) right ],
  once_append ls more e h.1 k (λ left right. apart (inr left) right),
)

-- ---- the lookups of one shape

module _ (shape : ℕ) (texts : FixedTexts) (e : Entry) where
  -- the entry is looked up by these namespaces
  abbrev IsOne : Option (List ℕ) → Option (List ℕ) → Type 0
  IsOne path arg0 = is_offered shape (record { texts = texts; path_namespace = path; arg0_namespace = arg0 }) e ≡ true

  one_parts : (path arg0 : Option (List ℕ)) → IsOne path arg0 → (shape_key e ≡ shape) × (is_text_found (lookup_texts e.filter).path_namespace path ≡ true) × (is_text_found (lookup_texts e.filter).arg0_namespace arg0 ≡ true)
  one_parts path arg0 h =
      let parts = and_parts (eqb (shape_key e) shape) (are_found (lookup_texts e.filter) (record { texts = texts; path_namespace = path; arg0_namespace = arg0 })) h in
      let all = all_found (lookup_texts e.filter) (record { texts = texts; path_namespace = path; arg0_namespace = arg0 }) parts.1 in
      (eqb-true (shape_key e) shape parts.0, all.1, all.2)

  offers_arg0 : (path : Option (List ℕ)) (arg0s : List (Option (List ℕ))) → Offers (with_path shape texts path arg0s) e → (arg0 : Option (List ℕ)) × Among arg0s arg0 × IsOne path arg0
  offers_arg0 path [] h = absurd h
  offers_arg0 path (arg0 ∷ arg0s) h = elim h [
    | inl here ↦ (arg0, inl refl, here)
    | inr later ↦ (let found = offers_arg0 path arg0s later in (found.0, inr found.1, found.2))
  ]

  arg0_offers : (path arg0 : Option (List ℕ)) (arg0s : List (Option (List ℕ))) → Among arg0s arg0 → IsOne path arg0 → Offers (with_path shape texts path arg0s) e
  arg0_offers path arg0 [] among one = absurd among
  arg0_offers path arg0 (first ∷ arg0s) among one = elim among [
    | inl same ↦ inl (subst (IsOne path) (sym same) one)
    | inr later ↦ inr (arg0_offers path arg0 arg0s later one)
  ]

  arg0_once : (path : Option (List ℕ)) (arg0s : List (Option (List ℕ))) → OnlyOne (lookup_texts e.filter).arg0_namespace arg0s → OffersOnce (with_path shape texts path arg0s) e
  arg0_once path [] only = tt
  arg0_once path (arg0 ∷ arg0s) only = (
    λ here later. (let found = offers_arg0 path arg0s later in only.0 (one_parts path arg0 here).2 found.0 found.1 (one_parts path found.0 found.2).2),
    arg0_once path arg0s only.1,
  )

  abbrev arg0s : List (Option (List ℕ))
  arg0s = texts.arg0 ∷ arg0s_after shape texts.arg0

  offers_path : (paths : List (Option (List ℕ))) → Offers (with_paths shape texts paths) e → (path : Option (List ℕ)) × (arg0 : Option (List ℕ)) × Among paths path × Among arg0s arg0 × IsOne path arg0
  offers_path [] h = absurd h
  offers_path (path ∷ paths) h =
      elim (offers_cases (with_path shape texts path arg0s) (with_paths shape texts paths) e h) [
        | inl here ↦ (let found = offers_arg0 path arg0s here in (path, found.0, inl refl, found.1, found.2))
        | inr later ↦ (let found = offers_path paths later in (found.0, found.1, inr found.2, found.3, found.4))
      ]

  path_offers : (path arg0 : Option (List ℕ)) (paths : List (Option (List ℕ))) → Among paths path → Among arg0s arg0 → IsOne path arg0 → Offers (with_paths shape texts paths) e
  path_offers path arg0 [] among inside one = absurd among
  path_offers path arg0 (first ∷ paths) among inside one = elim among [
    | inl same ↦ offers_left (with_path shape texts first arg0s) (with_paths shape texts paths) e (arg0_offers first arg0 arg0s inside (subst (λ (p : Option (List ℕ)). IsOne p arg0) (sym same) one))
    | inr later ↦ offers_right (with_path shape texts first arg0s) (with_paths shape texts paths) e (path_offers path arg0 paths later inside one)
  ]

  path_once : (paths : List (Option (List ℕ))) → OnlyOne (lookup_texts e.filter).path_namespace paths → OnlyOne (lookup_texts e.filter).arg0_namespace arg0s → OffersOnce (with_paths shape texts paths) e
  path_once [] only one = tt
  path_once (path ∷ paths) only one =
      once_append (with_path shape texts path arg0s) (with_paths shape texts paths) e (arg0_once path arg0s one) (path_once paths only.1 one)
      (λ here later. (
      let a = offers_arg0 path arg0s here in
      let b = offers_path paths later in
      only.0 (one_parts path a.0 a.2).1 b.0 b.2 (one_parts b.0 b.1 b.4).1))

  -- a shape with a namespace is one of which the entry asks for one
  shape_wants_path : shape_key e ≡ shape → eqb (shape / 8 % 2) 1 ≡ eqb (bit_of (lookup_texts e.filter).path_namespace) 1
  shape_wants_path same = ap (λ (n : ℕ). eqb (n / 8 % 2) 1) (sym same) ∙ ap (λ (n : ℕ). eqb n 1) (shape-path_namespace (lookup_texts e.filter))

  shape_wants_arg0 : shape_key e ≡ shape → eqb (shape / 64 % 2) 1 ≡ eqb (bit_of (lookup_texts e.filter).arg0_namespace) 1
  shape_wants_arg0 same = ap (λ (n : ℕ). eqb (n / 64 % 2) 1) (sym same) ∙ ap (λ (n : ℕ). eqb n 1) (shape-arg0_namespace (lookup_texts e.filter))

  shape_once : shape_key e ≡ shape → OffersOnce (of_shape shape texts) e
  shape_once same =
      path_once (texts.path ∷ paths_after shape texts.path)
      (only_one (lookup_texts e.filter).path_namespace texts.path 47 (eqb (shape / 8 % 2) 1) (shape_wants_path same))
      (only_one (lookup_texts e.filter).arg0_namespace texts.arg0 46 (eqb (shape / 64 % 2) 1) (shape_wants_arg0 same))

  offers_shape : Offers (of_shape shape texts) e → shape_key e ≡ shape
  offers_shape h = let found = offers_path (texts.path ∷ paths_after shape texts.path) h in (one_parts found.0 found.1 found.4).0

-- an entry of another shape isn't offered twice, since it isn't offered
never_once : (ls : List Lookup) (e : Entry) → (Offers ls e → ⊥) → OffersOnce ls e
never_once [] e never = tt
never_once (l ∷ ls) e never = (λ here later. never (inl here), never_once ls e (λ later. never (inr later)))

-- ---- all lookups

-- the texts have what the entry fixes, and lie in its namespaces
abbrev pub Fits : FixedTexts → Entry → Type 0
Fits texts e = AreFound (texts_fixed e.filter) texts × AreInside (namespaces_fixed e.filter) texts

path_fits : (asked path : Option (List ℕ)) (wanted : Bool) (text : Option (List ℕ)) → Among (text ∷ fronts_after wanted 47 text) path → is_text_found (option_map namespace_front asked) path ≡ true → IfSome asked (λ namespace. HasPathIn text namespace)
path_fits None path wanted text among found = tt
path_fits (Some namespace) None wanted text among found = absurd (false≢true found)
path_fits (Some namespace) (Some front) wanted text among found =
    let same : front ≡ namespace_front namespace = (bytes_eq-Decides front (namespace_front namespace)).0 found in
    path_inside text namespace (among_has wanted 47 text (namespace_front namespace) (subst (λ (f : List ℕ). Among (text ∷ fronts_after wanted 47 text) (Some f)) same among))

arg0_fits : (asked arg0 : Option (List ℕ)) (wanted : Bool) (text : Option (List ℕ)) → Among (text ∷ fronts_after wanted 46 text) arg0 → is_text_found asked arg0 ≡ true → IfSome asked (λ namespace. IsSomeAnd text (λ t. InNamespace t namespace))
arg0_fits None arg0 wanted text among found = tt
arg0_fits (Some namespace) None wanted text among found = absurd (false≢true found)
arg0_fits (Some namespace) (Some front) wanted text among found =
    let same : front ≡ namespace = (bytes_eq-Decides front namespace).0 found in
    among_has wanted 46 text namespace (subst (λ (f : List ℕ). Among (text ∷ fronts_after wanted 46 text) (Some f)) same among)

fit_path : (asked : Option (List ℕ)) (wanted : Bool) (text : Option (List ℕ)) → wanted ≡ eqb (bit_of (option_map namespace_front asked)) 1 → IsRooted text → IfSome asked (λ namespace. HasPathIn text namespace) → (path : Option (List ℕ)) × Among (text ∷ fronts_after wanted 47 text) path × (is_text_found (option_map namespace_front asked) path ≡ true)
fit_path None wanted text is rooted inside = (text, inl refl, refl)
fit_path (Some namespace) wanted text is rooted inside =
    let front : List ℕ = namespace_front namespace in
    (Some front, subst (λ (b : Bool). Among (text ∷ fronts_after b 47 text) (Some front)) (sym is) (has_among 47 text front (path_front text namespace rooted inside)), (bytes_eq-Decides front front).1 refl)

fit_arg0 : (asked : Option (List ℕ)) (wanted : Bool) (text : Option (List ℕ)) → wanted ≡ eqb (bit_of asked) 1 → IfSome asked (λ namespace. IsSomeAnd text (λ t. InNamespace t namespace)) → (arg0 : Option (List ℕ)) × Among (text ∷ fronts_after wanted 46 text) arg0 × (is_text_found asked arg0 ≡ true)
fit_arg0 None wanted text is inside = (text, inl refl, refl)
fit_arg0 (Some namespace) wanted text is inside =
    (Some namespace, subst (λ (b : Bool). Among (text ∷ fronts_after b 46 text) (Some namespace)) (sym is) (has_among 46 text namespace inside), (bytes_eq-Decides namespace namespace).1 refl)

shape_fits : (shape : ℕ) (texts : FixedTexts) (e : Entry) → Offers (of_shape shape texts) e → Fits texts e
shape_fits shape texts e h =
    let found = offers_path shape texts e (texts.path ∷ paths_after shape texts.path) h in
    let t : LookupTexts = record { texts = texts; path_namespace = found.0; arg0_namespace = found.1 } in
    let all = all_found (lookup_texts e.filter) t (and_parts (eqb (shape_key e) shape) (are_found (lookup_texts e.filter) t) found.4).1 in (
      AreFound-test (texts_fixed e.filter) texts all.0,
      record {
        path = path_fits (namespaces_fixed e.filter).path found.0 (eqb (shape / 8 % 2) 1) texts.path found.2 all.1;
        arg0 = arg0_fits (namespaces_fixed e.filter).arg0 found.1 (eqb (shape / 64 % 2) 1) texts.arg0 found.3 all.2;
      },
    )

fits_shape : (shape : ℕ) (texts : FixedTexts) (e : Entry) → IsRooted texts.path → shape_key e ≡ shape → Fits texts e → Offers (of_shape shape texts) e
fits_shape shape texts e rooted same fit =
    let asked : LookupTexts = lookup_texts e.filter in
    let p = fit_path (namespaces_fixed e.filter).path (eqb (shape / 8 % 2) 1) texts.path (shape_wants_path shape texts e same) rooted fit.1.path in
    let a = fit_arg0 (namespaces_fixed e.filter).arg0 (eqb (shape / 64 % 2) 1) texts.arg0 (shape_wants_arg0 shape texts e same) fit.1.arg0 in
    let t : LookupTexts = record { texts = texts; path_namespace = p.0; arg0_namespace = a.0 } in
    path_offers shape texts e p.0 a.0 (texts.path ∷ paths_after shape texts.path) p.1 a.1
    (and_from (eqb (shape_key e) shape) (are_found asked t) (eq-eqb (shape_key e) shape same) (found_all asked t (test-AreFound (texts_fixed e.filter) texts fit.0) p.2 a.2))

-- what is offered has one of the shapes, and fits
pub offers_fit : (texts : FixedTexts) (shapes : List ℕ) (e : Entry) → Offers (of_shapes texts shapes) e → (has_place (shape_key e) shapes ≡ true) × Fits texts e
offers_fit texts [] e h = absurd h
offers_fit texts (shape ∷ shapes) e h =
    elim (offers_cases (of_shape shape texts) (of_shapes texts shapes) e h) [
      | inl here ↦ (or_left (eqb (shape_key e) shape) (has_place (shape_key e) shapes) (eq-eqb (shape_key e) shape (offers_shape shape texts e here)), shape_fits shape texts e here)
      | inr later ↦ (let rest = offers_fit texts shapes e later in (or_right (eqb (shape_key e) shape) (has_place (shape_key e) shapes) rest.0, rest.1))
    ]

-- and what fits is offered
pub fit_offers : (texts : FixedTexts) (shapes : List ℕ) (e : Entry) → IsRooted texts.path → has_place (shape_key e) shapes ≡ true → Fits texts e → Offers (of_shapes texts shapes) e
fit_offers texts [] e rooted has fit = absurd (false≢true has)
fit_offers texts (shape ∷ shapes) e rooted has fit =
    elim (or_cases (eqb (shape_key e) shape) (has_place (shape_key e) shapes) has) [
      | inl here ↦ offers_left (of_shape shape texts) (of_shapes texts shapes) e (fits_shape shape texts e rooted (eqb-true (shape_key e) shape here) fit)
      | inr later ↦ offers_right (of_shape shape texts) (of_shapes texts shapes) e (fit_offers texts shapes e rooted later fit)
    ]

-- by one lookup
pub offers_once : (texts : FixedTexts) (shapes : List ℕ) (e : Entry) → AreOnce shapes → OffersOnce (of_shapes texts shapes) e
offers_once texts [] e once = tt
offers_once texts (shape ∷ shapes) e once =
    once_append (of_shape shape texts) (of_shapes texts shapes) e
    (elim (is_or_isnt (shape_key e) shape) [
      | inl same ↦ shape_once shape texts e same
      | inr other ↦ never_once (of_shape shape texts) e (λ here. other (offers_shape shape texts e here))
    ])
    (offers_once texts shapes e once.1)
    (λ here later. (
    let same : shape_key e ≡ shape = offers_shape shape texts e here in
    false≢true (sym once.0 ∙ ap (λ (n : ℕ). has_place n shapes) (sym same) ∙ (offers_fit texts shapes e later).0)))
  where
    is_or_isnt : (m n : ℕ) → (m ≡ n) ⊎ (m ≡ n → ⊥)
    is_or_isnt m n = cases_eq m n

-- ---- argument 0 need not be read where no shape has it

no_arg0 : (e : Entry) → shape_key e < 32 → (bit_of (texts_fixed e.filter).arg0 ≡ 0) × (bit_of (namespaces_fixed e.filter).arg0 ≡ 0)
no_arg0 e low =
    let t : LookupTexts = lookup_texts e.filter in
    (omega (arith, low, bit-small t.texts.arg0, bit-small t.arg0_namespace), omega (arith, low, bit-small t.texts.arg0, bit-small t.arg0_namespace))

none_if : (asked : Option (List ℕ)) (P : List ℕ → Type 0) → bit_of asked ≡ 0 → IfSome asked P
none_if None P e = tt
none_if (Some text) P e = absurd (omega (arith, e))

other_arg0 : (e : Entry) (a b : FixedTexts) → shape_key e < 32 → b.member ≡ a.member → b.interface ≡ a.interface → b.path ≡ a.path → b.sender ≡ a.sender → Fits a e → Fits b e
other_arg0 e a b low member interface path sender fit =
    let none = no_arg0 e low in (
      record {
        member = subst (λ (o : Option (List ℕ)). IfSome (texts_fixed e.filter).member (λ text. o ≡ Some text)) (sym member) fit.0.member;
        interface = subst (λ (o : Option (List ℕ)). IfSome (texts_fixed e.filter).interface (λ text. o ≡ Some text)) (sym interface) fit.0.interface;
        path = subst (λ (o : Option (List ℕ)). IfSome (texts_fixed e.filter).path (λ text. o ≡ Some text)) (sym path) fit.0.path;
        sender = subst (λ (o : Option (List ℕ)). IfSome (texts_fixed e.filter).sender (λ text. o ≡ Some text)) (sym sender) fit.0.sender;
        arg0 = none_if (texts_fixed e.filter).arg0 (λ text. b.arg0 ≡ Some text) none.0;
      },
      record {
        path = subst (λ (o : Option (List ℕ)). IfSome (namespaces_fixed e.filter).path (λ namespace. HasPathIn o namespace)) (sym path) fit.1.path;
        arg0 = none_if (namespaces_fixed e.filter).arg0 (λ namespace. IsSomeAnd b.arg0 (λ text. InNamespace text namespace)) none.1;
      },
    )

pub read_fits : (has_arg0 : Bool) (sender : Option (List ℕ)) (m : Message) (e : Entry) → (has_arg0 ≡ false → shape_key e < 32) → Fits (texts_read has_arg0 sender m) e → Fits (texts_from sender m) e
read_fits true sender m e low fit = fit
read_fits false sender m e low fit = other_arg0 e (texts_read false sender m) (texts_from sender m) (low refl) refl refl refl refl fit

pub fits_read : (has_arg0 : Bool) (sender : Option (List ℕ)) (m : Message) (e : Entry) → (has_arg0 ≡ false → shape_key e < 32) → Fits (texts_from sender m) e → Fits (texts_read has_arg0 sender m) e
fits_read true sender m e low fit = fit
fits_read false sender m e low fit = other_arg0 e (texts_from sender m) (texts_read false sender m) (low refl) refl refl refl refl fit

pub rooted_read : (has_arg0 : Bool) (sender : Option (List ℕ)) (m : Message) → IsRooted (path_of m) → IsRooted (texts_read has_arg0 sender m).path
rooted_read true sender m rooted = rooted
rooted_read false sender m rooted = rooted
