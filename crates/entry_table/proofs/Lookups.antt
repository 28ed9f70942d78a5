-- What is looked up shape by shape: exactly the entries that a message is offered to, each once.
use Rattle.std.proofs.Common.{◌≡◌, ◌≢◌, ℕ, ◌<◌, ◌+◌, ◌%◌, Bool, true, false, List, [], ◌∷◌, ◌++◌, map, length, get_or, refl, sym, ap, ◌∙◌, subst, eqb, ltb, inl, inr, arith}
use Rattle.std.proofs.Math.Nat.{mod-lt}
use Rattle.std.proofs.lemmas.Bool.{eqb-true, eq-eqb, and_parts, and_from, or_cases, or_left, or_right, cases_Bool, cases_eq, lt-ltb, cond-true, cond-false}
use Rattle.std.proofs.lemmas.List.Elements.{Contains-append_cases, Contains-append_left, Contains-append_right, All-nil, All-cons}
use Rattle.std.proofs.lemmas.List.Kept.{AllPairs-cons}
use Rattle.std.specs.Prelude.{Option, filter, Contains, All, AllPairs, if◌then◌else◌}
use Rattle.std.specs.List.{filter_map}
use Rattle.message_view.specs.Message.{Message, path_of}
use Rattle.match_rule.specs.FixedTexts.{FixedTexts, texts_from}
use Rattle.entry_table.specs.PlaceLists.{PlaceLists, has_place, AreOnce}
use Rattle.entry_table.specs.declared.entry.Entry.{Entry}
use Rattle.entry_table.specs.declared.index.Index.{Index}
use Rattle.entry_table.specs.declared.text_points.TextPoints.{TextPoints}
use Rattle.entry_table.specs.OfferedEntries.{AreOffered}
use Rattle.entry_table.specs.FoundTexts.{are_found, is_offered, offered_by, texts_read, IsLookedUp}
use Rattle.entry_table.specs.Lookups.{Lookup, of_shapes}
use Rattle.entry_table.specs.PlacedEntries.{Placed, places_of, entry_at}
use Rattle.entry_table.specs.Searching.{entries_of, AreBelow, IdsFall}
use Rattle.entry_table.specs.ShapeCounts.{is_in_use}
use Rattle.entry_table.specs.TextKeys.{LookupTexts, joined_hash, shape_of, in_shape, list_of, hash_lists}
use Rattle.entry_table.specs.EntryTexts.{lookup_texts}
use Rattle.entry_table.specs.IndexLists.{places_with_key, IsKeyed, texts_key, shape_key, IsIndexed}
use Rattle.entry_table.proofs.Finding.{AreKept-all}
use Rattle.entry_table.proofs.Keying.{keyed-here, keyed-other}
use Rattle.entry_table.proofs.Offering.{in_list, contains-cons, contains-first, contains-later, filter-contains, contains-filter, reversed, turned_back, shape-below, in_own_shape}
use Rattle.entry_table.proofs.Fronts.{IsRooted}
use Rattle.entry_table.proofs.Fitting.{Offers, OffersOnce, offers_fit, fit_offers, offers_once, read_fits, fits_read, rooted_read}

-- the entries, the newest first
abbrev seen_in : List Placed → List Entry
seen_in held = map (λ (x : Placed). x.1) held

pub list_of-low : (shape hash : ℕ) → list_of shape hash < hash_lists + 1
list_of-low shape hash = low (eqb shape 0)
  where
    low : (b : Bool) → (if b then hash_lists else hash % hash_lists) < hash_lists + 1
    low true = omega arith
    low false = let small : hash % 32768 < 32768 = mod-lt hash (omega arith) in omega (arith, small)

-- an entry that is looked up by these texts stands in their list
stands-there : (points : TextPoints) (l : Lookup) (e : Entry) → is_offered l.shape l.texts e ≡ true → texts_key points e ≡ list_of l.shape (joined_hash points (in_shape l.shape l.texts))
stands-there points l e h =
    let asked : LookupTexts = lookup_texts e.filter in
    let parts = and_parts (eqb (shape_of asked) l.shape) (are_found asked l.texts) h in
    let same : shape_of asked ≡ l.shape = eqb-true (shape_of asked) l.shape parts.0 in
    let own : in_shape l.shape l.texts ≡ asked = ap (λ (n : ℕ). in_shape n l.texts) (sym same) ∙ in_own_shape asked l.texts parts.1 in
    ap (λ (n : ℕ). list_of n (joined_hash points asked)) same ∙ ap (λ (t : LookupTexts). list_of l.shape (joined_hash points t)) (sym own)

abbrev by_lookups : List Placed → List Lookup → List Entry
by_lookups held [] = []
by_lookups held (l ∷ ls) = filter (is_offered l.shape l.texts) (seen_in held) ++ by_lookups held ls

-- the list of each lookup gives all entries that are looked up by its texts
offered_by-lookups : (held : List Placed) (all : PlaceLists) (points : TextPoints) → AreOnce (places_of held) → IsKeyed (texts_key points) (hash_lists + 1) all held → (ls : List Lookup) → offered_by held all points ls ≡ by_lookups held ls
offered_by-lookups held all points once h [] = refl
offered_by-lookups held all points once h (l ∷ ls) =
    let list : ℕ = list_of l.shape (joined_hash points (in_shape l.shape l.texts)) in
    ap (λ (places : List ℕ). filter (is_offered l.shape l.texts) (entries places) ++ offered_by held all points ls) (h.each list (list_of-low l.shape (joined_hash points (in_shape l.shape l.texts))))
    ∙ ap (λ (es : List Entry). es ++ offered_by held all points ls) (in_list (texts_key points) list (is_offered l.shape l.texts) (λ e passes. stands-there points l e passes) held held (AreKept-all held once))
    ∙ ap (λ (es : List Entry). filter (is_offered l.shape l.texts) (seen_in held) ++ es) (offered_by-lookups held all points once h ls)
  where
    entries : List ℕ → List Entry
    entries places = filter_map (λ (place : ℕ). entry_at place held) places

-- what is looked up is an entry that one of the lookups offers
from_lookups : (held : List Placed) (ls : List Lookup) (e : Entry) → Contains (by_lookups held ls) e → Contains (seen_in held) e × Offers ls e
from_lookups held [] e h = absurd (omega (arith, h.1))
from_lookups held (l ∷ ls) e h =
    elim (Contains-append_cases (filter (is_offered l.shape l.texts) (seen_in held)) (by_lookups held ls) e h) [
      | inl here ↦ (let both = filter-contains (is_offered l.shape l.texts) (seen_in held) e here in (both.0, inl both.1))
      | inr later ↦ (let rest = from_lookups held ls e later in (rest.0, inr rest.1))
    ]

-- and each such entry is looked up
to_lookups : (held : List Placed) (ls : List Lookup) (e : Entry) → Contains (seen_in held) e → Offers ls e → Contains (by_lookups held ls) e
to_lookups held [] e stands offers = absurd offers
to_lookups held (l ∷ ls) e stands offers =
    elim offers [
      | inl here ↦ Contains-append_left (filter (is_offered l.shape l.texts) (seen_in held)) (by_lookups held ls) e (contains-filter (is_offered l.shape l.texts) (seen_in held) e stands here)
      | inr later ↦ Contains-append_right (filter (is_offered l.shape l.texts) (seen_in held)) (by_lookups held ls) e (to_lookups held ls e stands later)
    ]

-- a shape that an entry has is counted
counted : (held : List Placed) (e : Entry) → Contains (seen_in held) e → 0 < length (places_with_key shape_key (shape_key e) held)
counted [] e h = absurd (omega (arith, h.1))
counted (x ∷ xs) e h =
    elim (contains-cons x.1 (seen_in xs) e h) [
      | inl same ↦ omega (arith, ap (λ (ys : List ℕ). length ys) (keyed-here shape_key (shape_key e) x xs (ap shape_key same)))
      | inr later ↦ (elim (cases_eq (shape_key x.1) (shape_key e)) [
        | inl is ↦ omega (arith, ap (λ (ys : List ℕ). length ys) (keyed-here shape_key (shape_key e) x xs is))
        | inr other ↦ omega (arith, counted xs e later, ap (λ (ys : List ℕ). length ys) (keyed-other shape_key (shape_key e) x xs other))
      ])
    ]

-- each of them has another id
abbrev OtherIds : Entry → List Entry → Type 0
OtherIds e [] = Unit {0}
OtherIds e (f ∷ fs) = (e.id ≢ f.id) × OtherIds e fs

abbrev IdsApart : List Entry → Type 0
IdsApart [] = Unit {0}
IdsApart (e ∷ es) = OtherIds e es × IdsApart es

OtherIds-append : (e : Entry) (xs ys : List Entry) → OtherIds e xs → OtherIds e ys → OtherIds e (xs ++ ys)
OtherIds-append e [] ys h k = k
OtherIds-append e (x ∷ xs) ys h k = (h.0, OtherIds-append e xs ys h.1 k)

OtherIds-filter : (q : Entry → Bool) (e : Entry) (xs : List Entry) → OtherIds e xs → OtherIds e (filter q xs)
OtherIds-filter q e [] h = tt
OtherIds-filter q e (x ∷ xs) h =
    elim (cases_Bool (q x)) [
      | inl passes ↦ subst (OtherIds e) (sym (cond-true (q x) (x ∷ filter q xs) (filter q xs) passes)) (h.0, OtherIds-filter q e xs h.1)
      | inr fails ↦ subst (OtherIds e) (sym (cond-false (q x) (x ∷ filter q xs) (filter q xs) fails)) (OtherIds-filter q e xs h.1)
    ]

OtherIds-from : (e : Entry) (ys : List Entry) → ((f : Entry) → Contains ys f → e.id ≢ f.id) → OtherIds e ys
OtherIds-from e [] h = tt
OtherIds-from e (y ∷ ys) h = (h y (contains-first y ys y refl), OtherIds-from e ys (λ f later. h f (contains-later y ys f later)))

OtherIds-below : (e : Entry) (xs : List Placed) → AreBelow e.id xs → OtherIds e (seen_in xs)
OtherIds-below e [] h = tt
OtherIds-below e (x ∷ xs) h = ((λ same. omega (arith, h.0)), OtherIds-below e xs h.1)

IdsApart-held : (held : List Placed) → IdsFall held → IdsApart (seen_in held)
IdsApart-held [] h = tt
IdsApart-held (x ∷ xs) h = (OtherIds-below x.1 xs h.0, IdsApart-held xs h.1)

-- the entries that pass a test, and other entries with none of their ids
IdsApart-joined : (q : Entry → Bool) (xs ys : List Entry) → IdsApart xs → IdsApart ys → ((e : Entry) → Contains xs e → q e ≡ true → OtherIds e ys) → IdsApart (filter q xs ++ ys)
IdsApart-joined q [] ys h k across = k
IdsApart-joined q (x ∷ xs) ys h k across =
    let rest = IdsApart-joined q xs ys h.1 k (λ e later passes. across e (contains-later x xs e later) passes) in
    elim (cases_Bool (q x)) [
      | inl passes ↦ subst (λ (es : List Entry). IdsApart (es ++ ys)) (sym (cond-true (q x) (x ∷ filter q xs) (filter q xs) passes))
          (OtherIds-append x (filter q xs) ys (OtherIds-filter q x xs h.0) (across x (contains-first x xs x refl) passes), rest)
      | inr fails ↦ subst (λ (es : List Entry). IdsApart (es ++ ys)) (sym (cond-false (q x) (x ∷ filter q xs) (filter q xs) fails)) rest
    ]

below-contains : (id : ℕ) (xs : List Placed) (e : Entry) → AreBelow id xs → Contains (seen_in xs) e → e.id < id
below-contains id [] e h stands = absurd (omega (arith, stands.1))
below-contains id (x ∷ xs) e h stands =
    elim (contains-cons x.1 (seen_in xs) e stands) [
      | inl same ↦ subst (λ (f : Entry). f.id < id) same h.0
      | inr later ↦ below-contains id xs e h.1 later
    ]

-- an id is one entry's
one_id : (held : List Placed) (e f : Entry) → IdsFall held → Contains (seen_in held) e → Contains (seen_in held) f → e.id ≡ f.id → e ≡ f
one_id [] e f falls he hf same = absurd (omega (arith, he.1))
one_id (x ∷ xs) e f falls he hf same =
    elim (contains-cons x.1 (seen_in xs) e he) [
      | inl first ↦ (elim (contains-cons x.1 (seen_in xs) f hf) [
        | inl also ↦ sym first ∙ also
        | inr later ↦ absurd (omega (arith, below-contains x.1.id xs f falls.0 later, ap (λ (g : Entry). g.id) first, same))
      ])
      | inr later ↦ (elim (contains-cons x.1 (seen_in xs) f hf) [
        | inl also ↦ absurd (omega (arith, below-contains x.1.id xs e falls.0 later, ap (λ (g : Entry). g.id) also, same))
        | inr both ↦ one_id xs e f falls.1 later both same
      ])
    ]

-- no entry is looked up twice
IdsApart-lookups : (held : List Placed) → IdsFall held → (ls : List Lookup) → ((e : Entry) → OffersOnce ls e) → IdsApart (by_lookups held ls)
IdsApart-lookups held falls [] once = tt
IdsApart-lookups held falls (l ∷ ls) once =
    IdsApart-joined (is_offered l.shape l.texts) (seen_in held) (by_lookups held ls) (IdsApart-held held falls) (IdsApart-lookups held falls ls (λ e. (once e).1))
    (λ e stands passes. OtherIds-from e (by_lookups held ls) (λ f later same. apart e f stands passes later same))
  where
    apart : (e f : Entry) → Contains (seen_in held) e → is_offered l.shape l.texts e ≡ true → Contains (by_lookups held ls) f → e.id ≡ f.id → ⊥
    apart e f stands passes later same =
        let rest = from_lookups held ls f later in
        let one : e ≡ f = one_id held e f falls stands rest.0 same in
        (once e).0 passes (subst (Offers ls) (sym one) rest.1)

All-other : (e : Entry) (ys : List Entry) → OtherIds e ys → All (λ (f : Entry). e.id ≢ f.id) ys
All-other e [] h = All-nil (λ (f : Entry). e.id ≢ f.id)
All-other e (y ∷ ys) h = All-cons (λ (f : Entry). e.id ≢ f.id) y ys h.0 (All-other e ys h.1)

AllPairs-apart : (es : List Entry) → IdsApart es → AllPairs (λ (e f : Entry). e.id ≢ f.id) es
AllPairs-apart [] h = λ i j d before within. absurd (omega arith)
AllPairs-apart (e ∷ es) h = AllPairs-cons (λ (x y : Entry). x.id ≢ y.id) e es (All-other e es h.0) (AllPairs-apart es h.1)

-- shape 0 and those in use are all shapes that entries have
in_use : (index : Index) (held : List Placed) (used : List ℕ) → IsIndexed index held → ((shape : ℕ) → has_place shape used ≡ is_in_use shape index.shapes) → (e : Entry) → Contains (seen_in held) e → has_place (shape_key e) (0 ∷ used) ≡ true
in_use index held used h same e stands =
    let low : shape_key e < 128 = shape-below (lookup_texts e.filter) in
    elim (cases_eq (shape_key e) 0) [
      | inl none ↦ or_left (eqb (shape_key e) 0) (has_place (shape_key e) used) (eq-eqb (shape_key e) 0 none)
      | inr some ↦ or_right (eqb (shape_key e) 0) (has_place (shape_key e) used)
          (same (shape_key e) ∙ and_from (ltb 0 (shape_key e)) (ltb 0 (get_or index.shapes (shape_key e) 0)) (lt-ltb 0 (shape_key e) (omega (arith, some))) (lt-ltb 0 (get_or index.shapes (shape_key e) 0) (omega (arith, h.shapes.each (shape_key e) low, counted held e stands))))
    ]

low_in_use : {index : Index} {held : List Placed} {sender : Option (List ℕ)} {m : Message} {offers : List Entry} (up : IsLookedUp index held sender m offers) → up.has_arg0 ≡ false → (shape : ℕ) → has_place shape (0 ∷ up.used) ≡ true → shape < 32
low_in_use up none shape has = elim (or_cases (eqb shape 0) (has_place shape up.used) has) [
  | inl zero ↦ omega (arith, eqb-true shape 0 zero)
  | inr later ↦ up.without none shape (sym (up.same shape) ∙ later)
]

-- exactly the entries that a message is offered to, each once
pub AreOffered-index : (index : Index) (held : List Placed) (sender : Option (List ℕ)) (m : Message) (offers : List Entry) → IsRooted (path_of m) → IsIndexed index held → IdsFall held → IsLookedUp index held sender m offers → AreOffered (entries_of held) (texts_from sender m) offers
AreOffered-index index held sender m offers rooted h falls up =
    let texts : FixedTexts = texts_read up.has_arg0 sender m in
    let shapes : List ℕ = 0 ∷ up.used in
    let ls : List Lookup = of_shapes texts shapes in
    let is : offers ≡ by_lookups held ls = up.is ∙ offered_by-lookups held index.by_texts index.points h.once h.texts ls in
    let zero_out : has_place 0 up.used ≡ false = up.same 0 in
    record {
      exact = λ e. (
        λ in_offered. (
            let parts = from_lookups held ls e (subst (λ (es : List Entry). Contains es e) is in_offered) in
            let fit = offers_fit texts shapes e parts.1 in
            (reversed held e parts.0, read_fits up.has_arg0 sender m e (λ none. low_in_use up none (shape_key e) fit.0) fit.1)),
        λ both. (
            let stands = turned_back held e both.0 in
            let there = in_use index held up.used h up.same e stands in
            let fit = fits_read up.has_arg0 sender m e (λ none. low_in_use up none (shape_key e) there) both.1 in
            subst (λ (es : List Entry). Contains es e) (sym is) (to_lookups held ls e stands (fit_offers texts shapes e (rooted_read up.has_arg0 sender m rooted) there fit))),
      );
      once = subst (λ (es : List Entry). AllPairs (λ (e f : Entry). e.id ≢ f.id) es) (sym is) (AllPairs-apart (by_lookups held ls) (IdsApart-lookups held falls ls (λ e. offers_once texts shapes e (zero_out, up.once))));
    }
