-- The entry that a search finds, and what is left when it is taken.
use Rattle.std.proofs.Common.{◌≡◌, ◌≢◌, ℕ, ◌%◌, ◌<◌, ◌≤◌, ◌+◌, Bool, true, false, not, ◌||◌, ◌&&◌, cond, List, [], ◌∷◌, ◌++◌, map, reverse, length, refl, sym, ap, ◌∙◌, subst, eqb, inl, inr, arith}
use Rattle.std.proofs.lemmas.List.{reverse-append, append-nil, length-reverse, length-map}
use Rattle.std.proofs.lemmas.List.Elements.{filter-append, All-nil, All-push}
use Rattle.std.proofs.lemmas.List.Folds.{find-append}
use Rattle.std.proofs.lemmas.List.Quantifiers.{all_pairs_push}
use Rattle.std.proofs.lemmas.Bool.{eqb-true, eqb-false, ne_eqb, eq-eqb, or_left, or_right, or_parts, and_parts, cases_Bool, cases_eq, false≢true, cond-true, cond-false, not_from_true, not_from_false}
use Rattle.std.specs.Prelude.{Option, Some, None, option_map, IfSome, is_some, find, filter, All, AllPairs}
use Rattle.std.specs.Option.{option_or}
use Rattle.std.specs.List.{list_any}
use Rattle.entry_table.specs.PlaceLists.{has_place, AreOnce}
use Rattle.entry_table.specs.declared.entry.Entry.{Entry}
use Rattle.entry_table.specs.declared.search.Wanted.{Wanted}
use Rattle.entry_table.specs.declared.search.Wanted.TheVariants.{Any}
use Rattle.entry_table.specs.Entries.{AreEntries, is_of}
use Rattle.entry_table.specs.PlacedEntries.{Placed, places_of, entry_at, but_at}
use Rattle.entry_table.specs.IndexLists.{places_with_key, connection_key, connection_lists}
use Rattle.entry_table.specs.Searching.{suits, is_wanted, is_wanted_in, or_place, last_place, entries_of, AreGiven, AreBelow, IdsFall, IsTable}
use Rattle.entry_table.proofs.Keying.{keyed-here, keyed-other}

abbrev pub or_placed : Option Placed → Option Placed → Option Placed
or_placed (Some x) other = Some x
or_placed None other = other

-- the oldest entry that passes, with its place
abbrev pub oldest_of : (Entry → Bool) → List Placed → Option Placed
oldest_of test [] = None
oldest_of test (x ∷ xs) = or_placed (oldest_of test xs) (cond (test x.1) (Some x) None)

-- each of them is found at its place among all
abbrev pub AreKept : List Placed → List Placed → Type 0
AreKept all [] = Unit {0}
AreKept all (x ∷ xs) = (entry_at x.0 all ≡ Some x.1) × AreKept all xs

abbrev seen_first : ℕ → Placed → List Placed → Bool → Option Entry
seen_first place x xs t = option_map {T = Placed} {U = Entry} (λ (y : Placed). y.1) (cond t (Some x) (find (λ (y : Placed). eqb place y.0) xs))

AreKept-cons : (x : Placed) (xs ys : List Placed) → has_place x.0 (places_of ys) ≡ false → AreKept xs ys → AreKept (x ∷ xs) ys
AreKept-cons x xs [] out kept = tt
AreKept-cons x xs (y ∷ ys) out kept =
    let parts = or_parts (eqb x.0 y.0) (has_place x.0 (places_of ys)) out in
    (ap (seen_first y.0 x xs) (ne_eqb y.0 x.0 (λ e. eqb-false x.0 y.0 parts.0 (sym e))) ∙ kept.0, AreKept-cons x xs ys parts.1 kept.1)

pub AreKept-all : (held : List Placed) → AreOnce (places_of held) → AreKept held held
AreKept-all [] once = tt
AreKept-all (x ∷ xs) once = (ap (seen_first x.0 x xs) (eq-eqb x.0 x.0 refl), AreKept-cons x xs xs once.0 (AreKept-all xs once.1))

place_joined : (x : Placed) (r : Option Placed) (b : Bool) → or_place (option_map (λ (y : Placed). y.0) r) (cond b (Some x.0) None) ≡ option_map (λ (y : Placed). y.0) (or_placed r (cond b (Some x) None))
place_joined x (Some y) b = refl
place_joined x None true = refl
place_joined x None false = refl

entry_joined : (x : Placed) (r : Option Placed) (b : Bool) → option_or (option_map (λ (y : Placed). y.1) r) (cond b (Some x.1) None) ≡ option_map (λ (y : Placed). y.1) (or_placed r (cond b (Some x) None))
entry_joined x (Some y) b = refl
entry_joined x None true = refl
entry_joined x None false = refl

-- the place that the search gives
pub last_place-oldest : (all xs : List Placed) (wanted : Wanted) (connection : ℕ) → AreKept all xs → last_place (λ place. is_wanted_in wanted connection (entry_at place all)) (places_of xs) ≡ option_map (λ (y : Placed). y.0) (oldest_of (is_wanted wanted connection) xs)
last_place-oldest all [] wanted connection kept = refl
last_place-oldest all (x ∷ xs) wanted connection kept =
    ap (λ (o : Option Entry). or_place (last_place (λ place. is_wanted_in wanted connection (entry_at place all)) (places_of xs)) (cond (is_wanted_in wanted connection o) (Some x.0) None)) kept.0
    ∙ ap (λ (r : Option ℕ). or_place r (cond (is_wanted wanted connection x.1) (Some x.0) None)) (last_place-oldest all xs wanted connection kept.1)
    ∙ place_joined x (oldest_of (is_wanted wanted connection) xs) (is_wanted wanted connection x.1)

pub entries_of-cons : (x : Placed) (xs : List Placed) → entries_of (x ∷ xs) ≡ entries_of xs ++ x.1 ∷ []
entries_of-cons x xs = reverse-append (x.1 ∷ []) (map (λ (y : Placed). y.1) xs)

-- the entry that is the first by id
pub find-oldest : (test : Entry → Bool) (xs : List Placed) → find test (entries_of xs) ≡ option_map (λ (y : Placed). y.1) (oldest_of test xs)
find-oldest test [] = refl
find-oldest test (x ∷ xs) =
    ap (find test) (entries_of-cons x xs) ∙ find-append test (entries_of xs) (x.1 ∷ [])
    ∙ ap (λ (r : Option Entry). option_or r (cond (test x.1) (Some x.1) None)) (find-oldest test xs)
    ∙ entry_joined x (oldest_of test xs) (test x.1)

either : (P : Placed → Type 0) (r s : Option Placed) → IfSome r P → IfSome s P → IfSome (or_placed r s) P
either P (Some x) s h k = h
either P None s h k = k

if_some : (P : Placed → Type 0) (b : Bool) (x : Placed) → P x → IfSome (cond b (Some x) None) P
if_some P true x h = h
if_some P false x h = tt

pub oldest-kept : (test : Entry → Bool) (all xs : List Placed) → AreKept all xs → IfSome (oldest_of test xs) (λ (y : Placed). entry_at y.0 all ≡ Some y.1)
oldest-kept test all [] kept = tt
oldest-kept test all (x ∷ xs) kept =
    either (λ (y : Placed). entry_at y.0 all ≡ Some y.1) (oldest_of test xs) (cond (test x.1) (Some x) None) (oldest-kept test all xs kept.1) (if_some (λ (y : Placed). entry_at y.0 all ≡ Some y.1) (test x.1) x kept.0)

-- what a search for an entry finds: its place, and that it is the first by id
pub record IsFound (held : List Placed) (test : Entry → Bool) (place : Option ℕ) (found : Option Entry) : Type 0 where
  pub here : place ≡ option_map (λ (y : Placed). y.0) (oldest_of test held)
  pub first : found ≡ option_map (λ (y : Placed). y.1) (oldest_of test held)
  pub kept : IfSome (oldest_of test held) (λ (y : Placed). entry_at y.0 held ≡ Some y.1)

pub IsFound-search : (held : List Placed) (wanted : Wanted) (connection : ℕ) → AreOnce (places_of held) → IsFound held (is_wanted wanted connection) (last_place (λ place. is_wanted_in wanted connection (entry_at place held)) (places_of held)) (find (is_wanted wanted connection) (entries_of held))
IsFound-search held wanted connection once =
    let kept = AreKept-all held once in
    record {
      here = last_place-oldest held held wanted connection kept;
      first = find-oldest (is_wanted wanted connection) held;
      kept = oldest-kept (is_wanted wanted connection) held held kept;
    }

-- none is found where no place is
pub found-none : (held : List Placed) (test : Entry → Bool) (found : Option Entry) (o : Option Placed) → ◌≡◌ {A = Option ℕ} None (option_map (λ (y : Placed). y.0) o) → found ≡ option_map (λ (y : Placed). y.1) o → found ≡ None
found-none held test found None e f = f
found-none held test found (Some y) e f = absurd cc

-- the entry at the place that was found
pub found-some : (held : List Placed) (place : ℕ) (found : Option Entry) (o : Option Placed) → Some place ≡ option_map (λ (y : Placed). y.0) o → found ≡ option_map (λ (y : Placed). y.1) o → IfSome o (λ (y : Placed). entry_at y.0 held ≡ Some y.1) → found ≡ entry_at place held
found-some held place found None e f kept = absurd cc
found-some held place found (Some y) e f kept = let same : place ≡ y.0 = cc in f ∙ sym kept ∙ ap (λ (k : ℕ). entry_at k held) (sym same)

pub found-there : (held : List Placed) (place : ℕ) (o : Option Placed) → Some place ≡ option_map (λ (y : Placed). y.0) o → IfSome o (λ (y : Placed). entry_at y.0 held ≡ Some y.1) → (e : Entry) × (entry_at place held ≡ Some e)
found-there held place None e kept = absurd cc
found-there held place (Some y) e kept = let same : place ≡ y.0 = cc in (y.1, ap (λ (k : ℕ). entry_at k held) same ∙ kept)

-- a place with an entry is a place of one
pub has_place-entry : (place : ℕ) (e : Entry) (held : List Placed) → entry_at place held ≡ Some e → has_place place (places_of held) ≡ true
has_place-entry place e [] at = absurd cc
has_place-entry place e (x ∷ xs) at =
    elim (cases_Bool (eqb place x.0)) [
      | inl here ↦ or_left (eqb place x.0) (has_place place (places_of xs)) here
      | inr there ↦ or_right (eqb place x.0) (has_place place (places_of xs)) (has_place-entry place e xs (sym (ap (seen_first place x xs) there) ∙ at))
    ]

pub but_at-out : (place : ℕ) (xs : List Placed) → has_place place (places_of xs) ≡ false → but_at place xs ≡ xs
but_at-out place [] out = refl
but_at-out place (x ∷ xs) out =
    let parts = or_parts (eqb place x.0) (has_place place (places_of xs)) out in
    cond-true (not (eqb place x.0)) (x ∷ but_at place xs) (but_at place xs) (not_from_false (eqb place x.0) parts.0) ∙ ap (λ (ys : List Placed). x ∷ ys) (but_at-out place xs parts.1)

-- the entries of other ids
abbrev others : ℕ → List Entry → List Entry
others id es = filter (λ (f : Entry). not (eqb f.id id)) es

others-below : (id : ℕ) (xs : List Placed) → AreBelow id xs → others id (map (λ (y : Placed). y.1) xs) ≡ map (λ (y : Placed). y.1) xs
others-below id [] below = refl
others-below id (x ∷ xs) below =
    cond-true (not (eqb x.1.id id)) (x.1 ∷ others id (map (λ (y : Placed). y.1) xs)) (others id (map (λ (y : Placed). y.1) xs)) (not_from_false (eqb x.1.id id) (ne_eqb x.1.id id (λ e. omega (arith, below.0))))
    ∙ ap (λ (es : List Entry). x.1 ∷ es) (others-below id xs below.1)

below-at : (id place : ℕ) (e : Entry) (xs : List Placed) → AreBelow id xs → entry_at place xs ≡ Some e → e.id < id
below-at id place e [] below at = absurd cc
below-at id place e (x ∷ xs) below at =
    elim (cases_Bool (eqb place x.0)) [
      | inl here ↦ (let same : x.1 ≡ e = some_same x.1 e (sym (ap (seen_first place x xs) here) ∙ at) in subst (λ (f : Entry). f.id < id) same below.0)
      | inr there ↦ below-at id place e xs below.1 (sym (ap (seen_first place x xs) there) ∙ at)
    ]
  where
    some_same : (f g : Entry) → Some f ≡ Some g → f ≡ g
    some_same f g h = cc

pub some_one : (f g : Entry) → Some f ≡ Some g → f ≡ g
some_one f g h = cc

removed_entries : (place : ℕ) (e : Entry) (held : List Placed) → AreOnce (places_of held) → IdsFall held → entry_at place held ≡ Some e → map (λ (y : Placed). y.1) (but_at place held) ≡ others e.id (map (λ (y : Placed). y.1) held)
removed_entries place e [] once falls at = absurd cc
removed_entries place e (x ∷ xs) once falls at =
    let seen : List Placed → List Entry = λ ys. map (λ (y : Placed). y.1) ys in
    elim (cases_Bool (eqb place x.0)) [
      | inl here ↦ (
          let same : x.1 ≡ e = some_one x.1 e (sym (ap (seen_first place x xs) here) ∙ at) in
          let out : has_place place (places_of xs) ≡ false = ap (λ (k : ℕ). has_place k (places_of xs)) (eqb-true place x.0 here) ∙ once.0 in
          ap seen (cond-false (not (eqb place x.0)) (x ∷ but_at place xs) (but_at place xs) (not_from_true (eqb place x.0) here) ∙ but_at-out place xs out)
          ∙ sym (cond-false (not (eqb x.1.id e.id)) (x.1 ∷ others e.id (seen xs)) (others e.id (seen xs)) (not_from_true (eqb x.1.id e.id) (eq-eqb x.1.id e.id (ap (λ (f : Entry). f.id) same)))
          ∙ others-below e.id xs (subst (λ (f : Entry). AreBelow f.id xs) same falls.0)))
      | inr there ↦ (
          let later : entry_at place xs ≡ Some e = sym (ap (seen_first place x xs) there) ∙ at in
          ap seen (cond-true (not (eqb place x.0)) (x ∷ but_at place xs) (but_at place xs) (not_from_false (eqb place x.0) there))
          ∙ ap (λ (es : List Entry). x.1 ∷ es) (removed_entries place e xs once.1 falls.1 later)
          ∙ sym (cond-true (not (eqb x.1.id e.id)) (x.1 ∷ others e.id (seen xs)) (others e.id (seen xs)) (not_from_false (eqb x.1.id e.id) (ne_eqb x.1.id e.id (λ i. omega (arith, below-at x.1.id place e xs falls.0 later))))))
    ]

reverse_joined : (b : Bool) (f : Entry) (es fs : List Entry) → fs ≡ reverse es → fs ++ cond b (f ∷ []) [] ≡ reverse (cond b (f ∷ es) es)
reverse_joined true f es fs e = ap (λ (gs : List Entry). gs ++ f ∷ []) e ∙ sym (reverse-append (f ∷ []) es)
reverse_joined false f es fs e = append-nil fs ∙ e

filter-reverse : (test : Entry → Bool) (es : List Entry) → filter test (reverse es) ≡ reverse (filter test es)
filter-reverse test [] = refl
filter-reverse test (f ∷ es) =
    ap (filter test) (reverse-append (f ∷ []) es) ∙ filter-append test (reverse es) (f ∷ []) ∙ reverse_joined (test f) f (filter test es) (filter test (reverse es)) (filter-reverse test es)

-- what is left are the entries of other ids
pub entries_of-but : (place : ℕ) (e : Entry) (held : List Placed) → AreOnce (places_of held) → IdsFall held → entry_at place held ≡ Some e → entries_of (but_at place held) ≡ filter (λ (f : Entry). not (eqb f.id e.id)) (entries_of held)
entries_of-but place e held once falls at =
    ap reverse (removed_entries place e held once falls at) ∙ sym (filter-reverse (λ (f : Entry). not (eqb f.id e.id)) (map (λ (y : Placed). y.1) held))

AreBelow-but : (id place : ℕ) (held : List Placed) → AreBelow id held → AreBelow id (but_at place held)
AreBelow-but id place [] h = tt
AreBelow-but id place (x ∷ xs) h =
    elim (cases_Bool (not (eqb place x.0))) [
      | inl keeps ↦ subst (AreBelow id) (sym (cond-true (not (eqb place x.0)) (x ∷ but_at place xs) (but_at place xs) keeps)) (h.0, AreBelow-but id place xs h.1)
      | inr drops ↦ subst (AreBelow id) (sym (cond-false (not (eqb place x.0)) (x ∷ but_at place xs) (but_at place xs) drops)) (AreBelow-but id place xs h.1)
    ]

pub AreGiven-but : (last place : ℕ) (held : List Placed) → AreGiven last held → AreGiven last (but_at place held)
AreGiven-but last place [] h = tt
AreGiven-but last place (x ∷ xs) h =
    elim (cases_Bool (not (eqb place x.0))) [
      | inl keeps ↦ subst (AreGiven last) (sym (cond-true (not (eqb place x.0)) (x ∷ but_at place xs) (but_at place xs) keeps)) (h.0, AreGiven-but last place xs h.1)
      | inr drops ↦ subst (AreGiven last) (sym (cond-false (not (eqb place x.0)) (x ∷ but_at place xs) (but_at place xs) drops)) (AreGiven-but last place xs h.1)
    ]

IdsFall-but : (place : ℕ) (held : List Placed) → IdsFall held → IdsFall (but_at place held)
IdsFall-but place [] h = tt
IdsFall-but place (x ∷ xs) h =
    elim (cases_Bool (not (eqb place x.0))) [
      | inl keeps ↦ subst IdsFall (sym (cond-true (not (eqb place x.0)) (x ∷ but_at place xs) (but_at place xs) keeps)) (AreBelow-but x.1.id place xs h.0, IdsFall-but place xs h.1)
      | inr drops ↦ subst IdsFall (sym (cond-false (not (eqb place x.0)) (x ∷ but_at place xs) (but_at place xs) drops)) (IdsFall-but place xs h.1)
    ]

pub length-but : (place : ℕ) (e : Entry) (held : List Placed) → AreOnce (places_of held) → entry_at place held ≡ Some e → length (but_at place held) + 1 ≡ length held
length-but place e [] once at = absurd cc
length-but place e (x ∷ xs) once at =
    elim (cases_Bool (eqb place x.0)) [
      | inl here ↦ omega (arith, ap (λ (ys : List Placed). length ys) (cond-false (not (eqb place x.0)) (x ∷ but_at place xs) (but_at place xs) (not_from_true (eqb place x.0) here) ∙ but_at-out place xs (ap (λ (k : ℕ). has_place k (places_of xs)) (eqb-true place x.0 here) ∙ once.0)))
      | inr there ↦ omega (arith, ap (λ (ys : List Placed). length ys) (cond-true (not (eqb place x.0)) (x ∷ but_at place xs) (but_at place xs) (not_from_false (eqb place x.0) there)), length-but place e xs once.1 (sym (ap (seen_first place x xs) there) ∙ at))
    ]

-- the table without the entry at a place
pub IsTable-but : (place : ℕ) (e : Entry) (held : List Placed) (last count count' : ℕ) → AreOnce (places_of held) → IsTable held last count → entry_at place held ≡ Some e → count' + 1 ≡ count → IsTable (but_at place held) last count'
IsTable-but place e held last count count' once h at less = record {
  ids = IdsFall-but place held h.ids;
  below_last = AreGiven-but last place held h.below_last;
  few = omega (arith, length-but place e held once at, h.few);
  counted = omega (arith, length-but place e held once at, h.counted, less);
}

pub AreBelow-last : (last : ℕ) (held : List Placed) → AreGiven last held → AreBelow (last + 1) held
AreBelow-last last [] h = tt
AreBelow-last last (x ∷ xs) h = (omega (arith, h.0), AreBelow-last last xs h.1)

AreGiven-more : (last : ℕ) (held : List Placed) → AreGiven last held → AreGiven (last + 1) held
AreGiven-more last [] h = tt
AreGiven-more last (x ∷ xs) h = (omega (arith, h.0), AreGiven-more last xs h.1)

-- the table with one more entry
pub IsTable-more : (place : ℕ) (e : Entry) (held : List Placed) (last count : ℕ) → IsTable held last count → e.id ≡ last + 1 → length held < 65534 → IsTable ((place, e) ∷ held) (last + 1) (count + 1)
IsTable-more place e held last count h id few = record {
  ids = (subst (λ (k : ℕ). AreBelow k held) (sym id) (AreBelow-last last held h.below_last), h.ids);
  below_last = (omega (arith, id), AreGiven-more last held h.below_last);
  few = omega (arith, few);
  counted = omega (arith, h.counted);
}

all_below : (id : ℕ) (xs : List Placed) → AreBelow id xs → All (λ (f : Entry). f.id < id) (entries_of xs)
all_below id [] h = All-nil (λ (f : Entry). f.id < id)
all_below id (x ∷ xs) h = subst (λ (es : List Entry). All (λ (f : Entry). f.id < id) es) (sym (entries_of-cons x xs)) (All-push (λ (f : Entry). f.id < id) (entries_of xs) x.1 (all_below id xs h.1) h.0)

all_given : (last : ℕ) (xs : List Placed) → AreGiven last xs → All (λ (f : Entry). f.id ≤ last) (entries_of xs)
all_given last [] h = All-nil (λ (f : Entry). f.id ≤ last)
all_given last (x ∷ xs) h = subst (λ (es : List Entry). All (λ (f : Entry). f.id ≤ last) es) (sym (entries_of-cons x xs)) (All-push (λ (f : Entry). f.id ≤ last) (entries_of xs) x.1 (all_given last xs h.1) h.0)

all_rising : (xs : List Placed) → IdsFall xs → AllPairs (λ (e f : Entry). e.id < f.id) (entries_of xs)
all_rising [] h = λ i j d before within. absurd (omega arith)
all_rising (x ∷ xs) h = subst (λ (es : List Entry). AllPairs (λ (e f : Entry). e.id < f.id) es) (sym (entries_of-cons x xs)) (all_pairs_push (λ (e f : Entry). e.id < f.id) (entries_of xs) x.1 (all_rising xs h.1) (all_below x.1.id xs h.0))

pub length-entries_of : (held : List Placed) → length (entries_of held) ≡ length held
length-entries_of held = length-reverse (map (λ (x : Placed). x.1) held) ∙ length-map held (λ (x : Placed). x.1)

pub AreEntries-held : (held : List Placed) (last count : ℕ) → IsTable held last count → AreEntries (record { entries = entries_of held; last = last })
AreEntries-held held last count h = record {
  rising = all_rising held h.ids;
  below_last = all_given last held h.below_last;
  few = omega (arith, length-entries_of held, h.few);
}

or_none : (r : Option ℕ) → or_place r None ≡ r
or_none None = refl
or_none (Some place) = refl

not_theirs : (wanted : Wanted) (connection : ℕ) (e : Entry) → connection_key e ≢ connection % connection_lists → is_wanted wanted connection e ≡ false
not_theirs wanted connection e other = decided (is_of connection e) refl
  where
    decided : (b : Bool) → is_of connection e ≡ b → (b && suits wanted e) ≡ false
    decided true is = absurd (other (ap (λ (n : ℕ). n % connection_lists) (eqb-true e.connection connection is)))
    decided false is = refl

-- in the connection's list the search finds what it finds among all
pub last_place-theirs : (all xs : List Placed) (wanted : Wanted) (connection : ℕ) → AreKept all xs → last_place (λ place. is_wanted_in wanted connection (entry_at place all)) (places_with_key connection_key (connection % connection_lists) xs) ≡ last_place (λ place. is_wanted_in wanted connection (entry_at place all)) (places_of xs)
last_place-theirs all [] wanted connection kept = refl
last_place-theirs all (x ∷ xs) wanted connection kept =
    let test : ℕ → Bool = λ place. is_wanted_in wanted connection (entry_at place all) in
    let k : ℕ = connection % connection_lists in
    let rest = last_place-theirs all xs wanted connection kept.1 in
    elim (cases_eq (connection_key x.1) k) [
      | inl is ↦ ap (last_place test) (keyed-here connection_key k x xs is) ∙ ap (λ (r : Option ℕ). or_place r (cond (test x.0) (Some x.0) None)) rest
      | inr other ↦ ap (last_place test) (keyed-other connection_key k x xs other) ∙ rest ∙ sym (or_none (last_place test (places_of xs)))
          ∙ ap (λ (b : Bool). or_place (last_place test (places_of xs)) (cond b (Some x.0) None)) (sym (ap (is_wanted_in wanted connection) kept.0 ∙ not_theirs wanted connection x.1 other))
    ]

-- what a walk over the connection's list finds
pub searched : (held : List Placed) (wanted : Wanted) (connection : ℕ) (walk : List ℕ) (r : Option ℕ) → AreOnce (places_of held) → walk ≡ places_with_key connection_key (connection % connection_lists) held → r ≡ last_place (λ place. is_wanted_in wanted connection (entry_at place held)) walk
    → IsFound held (is_wanted wanted connection) r (find (is_wanted wanted connection) (entries_of held))
searched held wanted connection walk r once over is =
    let f = IsFound-search held wanted connection once in
    record {
      here = is ∙ ap (last_place (λ place. is_wanted_in wanted connection (entry_at place held))) over ∙ last_place-theirs held held wanted connection (AreKept-all held once) ∙ f.here;
      first = f.first;
      kept = f.kept;
    }

some_mapped : {A B : Type 0} (f : A → B) (o : Option A) → is_some (option_map f o) ≡ is_some o
some_mapped f None = refl
some_mapped f (Some x) = refl

some_first : (e : Entry) (r : Option Entry) (b : Bool) → is_some (cond b (Some e) r) ≡ (b || is_some r)
some_first e r true = refl
some_first e r false = refl

some-find : (test : Entry → Bool) (es : List Entry) → is_some (find test es) ≡ list_any test es
some-find test [] = refl
some-find test (e ∷ es) = some_first e (find test es) (test e) ∙ ap (λ (b : Bool). test e || b) (some-find test es)

pub found-any : (held : List Placed) (test : Entry → Bool) (r : Option ℕ) → IsFound held test r (find test (entries_of held)) → is_some r ≡ list_any test (entries_of held)
found-any held test r f =
    ap (λ (o : Option ℕ). is_some o) f.here ∙ some_mapped (λ (y : Placed). y.0) (oldest_of test held) ∙ sym (some_mapped (λ (y : Placed). y.1) (oldest_of test held)) ∙ ap (λ (o : Option Entry). is_some o) (sym f.first) ∙ some-find test (entries_of held)

-- a test that the entry at the place fails keeps what it kept
kept_others : (place : ℕ) (e : Entry) (test : Entry → Bool) (held : List Placed) → AreOnce (places_of held) → entry_at place held ≡ Some e → test e ≡ false → filter test (map (λ (y : Placed). y.1) (but_at place held)) ≡ filter test (map (λ (y : Placed). y.1) held)
kept_others place e test [] once at fails = absurd cc
kept_others place e test (x ∷ xs) once at fails =
    let seen : List Placed → List Entry = λ ys. map (λ (y : Placed). y.1) ys in
    elim (cases_Bool (eqb place x.0)) [
      | inl here ↦ (
          let same : x.1 ≡ e = some_one x.1 e (sym (ap (seen_first place x xs) here) ∙ at) in
          ap (λ (ys : List Placed). filter test (seen ys)) (cond-false (not (eqb place x.0)) (x ∷ but_at place xs) (but_at place xs) (not_from_true (eqb place x.0) here) ∙ but_at-out place xs (ap (λ (k : ℕ). has_place k (places_of xs)) (eqb-true place x.0 here) ∙ once.0))
          ∙ sym (cond-false (test x.1) (x.1 ∷ filter test (seen xs)) (filter test (seen xs)) (ap test same ∙ fails)))
      | inr there ↦ (
          ap (λ (ys : List Placed). filter test (seen ys)) (cond-true (not (eqb place x.0)) (x ∷ but_at place xs) (but_at place xs) (not_from_false (eqb place x.0) there))
          ∙ ap (λ (es : List Entry). cond (test x.1) (x.1 ∷ es) es) (kept_others place e test xs once.1 (sym (ap (seen_first place x xs) there) ∙ at) fails))
    ]

pub filter-but : (place : ℕ) (e : Entry) (test : Entry → Bool) (held : List Placed) → AreOnce (places_of held) → entry_at place held ≡ Some e → test e ≡ false → filter test (entries_of (but_at place held)) ≡ filter test (entries_of held)
filter-but place e test held once at fails =
    filter-reverse test (map (λ (y : Placed). y.1) (but_at place held)) ∙ ap reverse (kept_others place e test held once at fails) ∙ sym (filter-reverse test (map (λ (y : Placed). y.1) held))

-- what none passes keeps all
pub filter-none : (test : Entry → Bool) (es : List Entry) → find test es ≡ None → filter (λ (e : Entry). not (test e)) es ≡ es
filter-none test [] none = refl
filter-none test (e ∷ es) none =
    elim (cases_Bool (test e)) [
      | inl passes ↦ absurd (let found : Some e ≡ None = sym (cond-true (test e) (Some e) (find test es) passes) ∙ none in cc)
      | inr fails ↦ cond-true (not (test e)) (e ∷ filter (λ (f : Entry). not (test f)) es) (filter (λ (f : Entry). not (test f)) es) (not_from_false (test e) fails)
          ∙ ap (λ (fs : List Entry). e ∷ fs) (filter-none test es (sym (cond-false (test e) (Some e) (find test es) fails) ∙ none))
    ]

-- what is found passes
pub find-passes : (test : Entry → Bool) (es : List Entry) (e : Entry) → find test es ≡ Some e → test e ≡ true
find-passes test [] e found = absurd cc
find-passes test (f ∷ es) e found =
    elim (cases_Bool (test f)) [
      | inl passes ↦ ap test (some_one e f (sym (sym (cond-true (test f) (Some f) (find test es) passes) ∙ found))) ∙ passes
      | inr fails ↦ find-passes test es e (sym (cond-false (test f) (Some f) (find test es) fails) ∙ found)
    ]

-- tests that agree find the same
pub find-same : (p q : Entry → Bool) → ((e : Entry) → p e ≡ q e) → (es : List Entry) → find p es ≡ find q es
find-same p q same [] = refl
find-same p q same (e ∷ es) = ap (λ (b : Bool). cond b (Some e) (find p es)) (same e) ∙ ap (λ (o : Option Entry). cond (q e) (Some e) o) (find-same p q same es)

pub and-true : (b : Bool) → (b && true) ≡ b
and-true true = refl
and-true false = refl

-- what the first place that is wanted in any list has
passes-first : (test : ℕ → Bool) (places : List ℕ) (place : ℕ) → find test places ≡ Some place → test place ≡ true
passes-first test [] place found = absurd cc
passes-first test (p ∷ ps) place found =
    elim (cases_Bool (test p)) [
      | inl passes ↦ (let same : p ≡ place = (let both : Some p ≡ Some place = sym (cond-true (test p) (Some p) (find test ps) passes) ∙ found in cc) in ap test (sym same) ∙ passes)
      | inr fails ↦ passes-first test ps place (sym (cond-false (test p) (Some p) (find test ps) fails) ∙ found)
    ]

-- the entry at the first place that is the connection's
pub first-theirs : (held : List Placed) (connection : ℕ) (places : List ℕ) (place : ℕ) → Some place ≡ find (λ p. is_wanted_in Any connection (entry_at p held)) places → (e : Entry) × (entry_at place held ≡ Some e) × (is_of connection e ≡ true)
first-theirs held connection places place found =
    there (entry_at place held) refl (passes-first (λ p. is_wanted_in Any connection (entry_at p held)) places place (sym found))
  where
    there : (o : Option Entry) → entry_at place held ≡ o → is_wanted_in Any connection (entry_at place held) ≡ true → (e : Entry) × (entry_at place held ≡ Some e) × (is_of connection e ≡ true)
    there None is passes = absurd (false≢true (sym (ap (is_wanted_in Any connection) is) ∙ passes))
    there (Some e) is passes = (e, is, (and_parts (is_of connection e) (suits Any e) (sym (ap (is_wanted_in Any connection) is) ∙ passes)).0)

-- none is the connection's where its list has none
none-oldest : (all xs : List Placed) (connection : ℕ) → AreKept all xs → find (λ p. is_wanted_in Any connection (entry_at p all)) (places_with_key connection_key (connection % connection_lists) xs) ≡ None → oldest_of (is_of connection) xs ≡ None
none-oldest all [] connection kept none = refl
none-oldest all (x ∷ xs) connection kept none =
    let test : ℕ → Bool = λ p. is_wanted_in Any connection (entry_at p all) in
    let k : ℕ = connection % connection_lists in
    let seen : test x.0 ≡ is_of connection x.1 = ap (is_wanted_in Any connection) kept.0 ∙ and-true (is_of connection x.1) in
    elim (cases_eq (connection_key x.1) k) [
      | inl is ↦ (
          let found : cond (test x.0) (Some x.0) (find test (places_with_key connection_key k xs)) ≡ None = sym (ap (find test) (keyed-here connection_key k x xs is)) ∙ none in
          let parts = neither x.0 (find test (places_with_key connection_key k xs)) (test x.0) found in
          or_none x (is_of connection x.1) (oldest_of (is_of connection) xs) (sym seen ∙ parts.0) (none-oldest all xs connection kept.1 parts.1))
      | inr other ↦ or_none x (is_of connection x.1) (oldest_of (is_of connection) xs) (sym (and-true (is_of connection x.1)) ∙ not_theirs Any connection x.1 other)
          (none-oldest all xs connection kept.1 (sym (ap (find test) (keyed-other connection_key k x xs other)) ∙ none))
    ]
  where
    neither : (p : ℕ) (r : Option ℕ) (b : Bool) → cond b (Some p) r ≡ None → (b ≡ false) × (r ≡ None)
    neither p r true none = absurd cc
    neither p r false none = (refl, none)

    or_none : (x : Placed) (b : Bool) (r : Option Placed) → b ≡ false → r ≡ None → or_placed r (cond b (Some x) None) ≡ None
    or_none x true r fails none = absurd (false≢true (sym fails))
    or_none x false None fails none = refl
    or_none x false (Some y) fails none = absurd cc

pub none-theirs : (held : List Placed) (connection : ℕ) (walk : List ℕ) → AreOnce (places_of held) → walk ≡ places_with_key connection_key (connection % connection_lists) held → None ≡ find (λ p. is_wanted_in Any connection (entry_at p held)) walk → find (is_of connection) (entries_of held) ≡ None
none-theirs held connection walk once over none =
    find-oldest (is_of connection) held
    ∙ ap (option_map {T = Placed} {U = Entry} (λ (y : Placed). y.1)) (none-oldest held held connection (AreKept-all held once) (ap (find (λ p. is_wanted_in Any connection (entry_at p held))) (sym over) ∙ sym none))
