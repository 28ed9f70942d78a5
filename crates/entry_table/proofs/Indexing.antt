-- What an index keeps when an entry is put or taken.
use Rattle.std.proofs.Common.{◌≡◌, ◌≢◌, ℕ, ◌<◌, ◌+◌, ◌-◌, Bool, true, false, ◌&&◌, List, [], ◌∷◌, length, get_or, refl, sym, ap, ◌∙◌, subst, ltb, inl, inr, arith, get_or-set_same, get_or-set_other}
use Rattle.std.proofs.Math.ListN.{set}
use Rattle.std.proofs.Math.Nat.{mod-lt}
use Rattle.std.proofs.lemmas.List.{length-set, length-replicate, get_or-replicate, get_or_past}
use Rattle.std.proofs.lemmas.Bool.{cases_eq, cases_lt, lt-ltb}
use Rattle.std.specs.Prelude.{Some, replicate}
use Rattle.entry_table.specs.PlaceLists.{PlaceLists, places_in, has_place, without, AreOnce, empty_lists}
use Rattle.entry_table.proofs.Places.{AreOnce-without}
use Rattle.entry_table.specs.declared.entry.Entry.{Entry}
use Rattle.entry_table.specs.declared.text_points.TextPoints.{TextPoints}
use Rattle.entry_table.specs.declared.index.Index.{Index}
use Rattle.entry_table.specs.PlacedEntries.{Placed, places_of, entry_at, but_at, room}
use Rattle.entry_table.specs.ShapeCounts.{shape_count, is_in_use, AreShapes}
use Rattle.entry_table.specs.TextKeys.{joined_hash, shape_of, hash_lists}
use Rattle.entry_table.specs.EntryTexts.{lookup_texts}
use Rattle.entry_table.specs.IndexLists.{places_with_key, AreCounted, IsIndexed, CanStand, Stands, connection_key, connection_lists, texts_key, shape_key, standing_of, empty_index, with_place, without_place, taken_from}
use Rattle.entry_table.proofs.Placing.{has_place-gone, has_place-kept, places_of-but}
use Rattle.entry_table.proofs.Keying.{keyed-few, keyed-grown, keyed-same, keyed-shrunk, keyed-kept, IsKeyed-empty, IsKeyed-free, IsKeyed-stands, IsKeyed-put, IsKeyed-take}
use Rattle.entry_table.proofs.Offering.{shape-below}
use Rattle.entry_table.proofs.Lookups.{list_of-low}

connection-low : (e : Entry) → connection_key e < connection_lists
connection-low e = mod-lt e.connection (omega arith)

texts-low : (points : TextPoints) (e : Entry) → texts_key points e < hash_lists + 1
texts-low points e = list_of-low (shape_of (lookup_texts e.filter)) (joined_hash points (lookup_texts e.filter))

shape-low : (e : Entry) → shape_key e < shape_count
shape-low e = shape-below (lookup_texts e.filter)

pub IsIndexed-empty : (points : TextPoints) → IsIndexed (empty_index points) []
IsIndexed-empty points = record {
  once = tt;
  connections = IsKeyed-empty connection_key connection_lists;
  texts = IsKeyed-empty (texts_key points) (hash_lists + 1);
  shapes = record { long = length-replicate {A = ℕ} shape_count 0; each = λ shape low. get_or-replicate {A = ℕ} shape_count shape 0 0 low };
}

AreCounted-put : (counts : List ℕ) (held : List Placed) (place : ℕ) (e : Entry) → AreCounted counts held → AreCounted (set counts (shape_key e) (get_or counts (shape_key e) 0 + 1)) ((place, e) ∷ held)
AreCounted-put counts held place e h = record {
  long = length-set counts (shape_key e) (get_or counts (shape_key e) 0 + 1) ∙ h.long;
  each = λ shape low. elim (cases_eq shape (shape_key e)) [
    | inl is ↦ subst (λ (k : ℕ). get_or (set counts (shape_key e) (get_or counts (shape_key e) 0 + 1)) k 0 ≡ length (places_with_key shape_key k ((place, e) ∷ held))) (sym is)
        (get_or-set_same counts (shape_key e) (get_or counts (shape_key e) 0 + 1) 0 (omega (arith, shape-low e, h.long)) ∙ omega (arith, h.each (shape_key e) (shape-low e), keyed-grown shape_key place e held))
    | inr other ↦ get_or-set_other counts (shape_key e) shape (get_or counts (shape_key e) 0 + 1) 0 other ∙ h.each shape low ∙ sym (ap (λ (ys : List ℕ). length ys) (keyed-same shape_key shape place e held (λ same. other (sym same))))
  ];
}

AreCounted-take : (counts : List ℕ) (held : List Placed) (place : ℕ) (e : Entry) → AreOnce (places_of held) → AreCounted counts held → entry_at place held ≡ Some e → AreCounted (set counts (shape_key e) (get_or counts (shape_key e) 0 - 1)) (but_at place held)
AreCounted-take counts held place e once h at = record {
  long = length-set counts (shape_key e) (get_or counts (shape_key e) 0 - 1) ∙ h.long;
  each = λ shape low. elim (cases_eq shape (shape_key e)) [
    | inl is ↦ subst (λ (k : ℕ). get_or (set counts (shape_key e) (get_or counts (shape_key e) 0 - 1)) k 0 ≡ length (places_with_key shape_key k (but_at place held))) (sym is)
        (get_or-set_same counts (shape_key e) (get_or counts (shape_key e) 0 - 1) 0 (omega (arith, shape-low e, h.long)) ∙ omega (arith, h.each (shape_key e) (shape-low e), keyed-shrunk shape_key place e held once at))
    | inr other ↦ get_or-set_other counts (shape_key e) shape (get_or counts (shape_key e) 0 - 1) 0 other ∙ h.each shape low ∙ sym (ap (λ (ys : List ℕ). length ys) (keyed-kept shape_key shape place e held once at (λ same. other (sym same))))
  ];
}

-- an entry is put at a place that none has
pub IsIndexed-put : (index : Index) (held : List Placed) (place : ℕ) (e : Entry) → IsIndexed index held → has_place place (places_of held) ≡ false → IsIndexed (with_place place (standing_of index.points e) index) ((place, e) ∷ held)
IsIndexed-put index held place e h out = record {
  once = (out, h.once);
  connections = IsKeyed-put connection_key connection_lists index.by_connection held place e h.connections (connection-low e);
  texts = IsKeyed-put (texts_key index.points) (hash_lists + 1) index.by_texts held place e h.texts (texts-low index.points e);
  shapes = AreCounted-put index.shapes held place e h.shapes;
}

pub CanStand-put : (index : Index) (held : List Placed) (place : ℕ) (e : Entry) → IsIndexed index held → has_place place (places_of held) ≡ false → place < room → length held < room → CanStand index place (standing_of index.points e)
CanStand-put index held place e h out low few = record {
  connection = omega (arith, h.connections.long, connection-low e);
  connection_place = omega (arith, h.connections.places, low);
  connection_free = IsKeyed-free connection_key connection_lists index.by_connection held place h.connections out;
  texts = omega (arith, h.texts.long, texts-low index.points e);
  texts_place = omega (arith, h.texts.places, low);
  texts_free = IsKeyed-free (texts_key index.points) (hash_lists + 1) index.by_texts held place h.texts out;
  shape = omega (arith, h.shapes.long, shape-low e);
  shape_few = omega (arith, h.shapes.each (shape_key e) (shape-low e), keyed-few shape_key (shape_key e) held, few);
}

-- an entry is taken from its place
pub IsIndexed-take : (index : Index) (held : List Placed) (place : ℕ) (e : Entry) → IsIndexed index held → entry_at place held ≡ Some e → IsIndexed (without_place place (standing_of index.points e) index) (but_at place held)
IsIndexed-take index held place e h at = record {
  once = subst AreOnce (sym (places_of-but place held)) (AreOnce-without place (places_of held) h.once);
  connections = IsKeyed-take connection_key connection_lists index.by_connection held place e h.once h.connections (connection-low e) at;
  texts = IsKeyed-take (texts_key index.points) (hash_lists + 1) index.by_texts held place e h.once h.texts (texts-low index.points e) at;
  shapes = AreCounted-take index.shapes held place e h.once h.shapes at;
}

pub Stands-take : (index : Index) (held : List Placed) (place : ℕ) (e : Entry) → IsIndexed index held → entry_at place held ≡ Some e → Stands index place (standing_of index.points e)
Stands-take index held place e h at = record {
  connection = omega (arith, h.connections.long, connection-low e);
  in_connection = IsKeyed-stands connection_key connection_lists index.by_connection held place e h.connections (connection-low e) at;
  texts = omega (arith, h.texts.long, texts-low index.points e);
  in_texts = IsKeyed-stands (texts_key index.points) (hash_lists + 1) index.by_texts held place e h.texts (texts-low index.points e) at;
  shape = omega (arith, h.shapes.long, shape-low e);
  shape_some = omega (arith, h.shapes.each (shape_key e) (shape-low e), keyed-shrunk shape_key place e held h.once at);
}

no_more : (b : Bool) → (b && false) ≡ false
no_more true = refl
no_more false = refl

-- the last entry of a shape goes
pub AreShapes-gone : (counts : List ℕ) (used : PlaceLists) (shape : ℕ) → AreShapes counts used → shape < length counts → AreShapes (set counts shape 0) (taken_from 0 shape used)
AreShapes-gone counts used shape h low =
    let first : places_in (taken_from 0 shape used) 0 ≡ without shape (places_in used 0) = get_or-set_same used.lists 0 (without shape (places_in used 0)) [] (omega (arith, h.one)) in
    record {
      long = length-set counts shape 0 ∙ h.long;
      places = h.places;
      one = length-set used.lists 0 (without shape (places_in used 0)) ∙ h.one;
      same = λ s. ap (has_place s) first ∙ (elim (cases_eq s shape) [
        | inl is ↦ ap (λ (k : ℕ). has_place s (without k (places_in used 0))) (sym is) ∙ has_place-gone s (places_in used 0)
            ∙ sym (ap (λ (n : ℕ). ltb 0 s && ltb 0 n) (ap (λ (k : ℕ). get_or (set counts shape 0) k 0) is ∙ get_or-set_same counts shape 0 0 low) ∙ no_more (ltb 0 s))
        | inr other ↦ has_place-kept s shape other (places_in used 0) ∙ h.same s ∙ sym (ap (λ (n : ℕ). ltb 0 s && ltb 0 n) (get_or-set_other counts shape s 0 0 other))
      ]);
    }

-- the shape is in use as it was
pub AreShapes-kept : (counts : List ℕ) (used : PlaceLists) (shape count : ℕ) → AreShapes counts used → is_in_use shape counts ≡ (ltb 0 shape && ltb 0 count) → shape < length counts → AreShapes (set counts shape count) used
AreShapes-kept counts used shape count h same low = record {
  long = length-set counts shape count ∙ h.long;
  places = h.places;
  one = h.one;
  same = λ s. h.same s ∙ (elim (cases_eq s shape) [
    | inl is ↦ subst (λ (k : ℕ). is_in_use k counts ≡ is_in_use k (set counts shape count)) (sym is) (same ∙ sym (ap (λ (n : ℕ). ltb 0 shape && ltb 0 n) (get_or-set_same counts shape count 0 low)))
    | inr other ↦ sym (ap (λ (n : ℕ). ltb 0 s && ltb 0 n) (get_or-set_other counts shape s count 0 other))
  ]);
}

-- The count of a shape falls by one. Where it was the last entry of a shape but 0, the shape is no longer in use.
pub AreShapes-last : (counts : List ℕ) (used used' : PlaceLists) (shape at count : ℕ) → AreShapes counts used → shape < length counts → at ≡ shape → count ≡ 1 → used' ≡ taken_from 0 shape used → AreShapes (set counts at (count - 1)) used'
AreShapes-last counts used used' shape at count h low here last is =
    subst (λ (k : ℕ). AreShapes (set counts k (count - 1)) used') (sym here)
    (subst (λ (n : ℕ). AreShapes (set counts shape (n - 1)) used') (sym last)
    (subst (AreShapes (set counts shape 0)) (sym is) (AreShapes-gone counts used shape h low)))

pub AreShapes-fewer : (counts : List ℕ) (used : PlaceLists) (shape at count : ℕ) → AreShapes counts used → shape < length counts → at ≡ shape → get_or counts shape 0 ≡ count → 0 < count → (shape ≢ 0 → 1 < count) → AreShapes (set counts at (count - 1)) used
AreShapes-fewer counts used shape at count h low here is some more =
    subst (λ (k : ℕ). AreShapes (set counts k (count - 1)) used) (sym here) (AreShapes-kept counts used shape (count - 1) h same low)
  where
    same : is_in_use shape counts ≡ (ltb 0 shape && ltb 0 (count - 1))
    same = elim (cases_eq shape 0) [
      | inl none ↦ ap (λ (k : ℕ). ltb 0 k && ltb 0 (get_or counts shape 0)) none ∙ sym (ap (λ (k : ℕ). ltb 0 k && ltb 0 (count - 1)) none)
      | inr other ↦ (let above = more other in ap (λ (b : Bool). ltb 0 shape && b) (lt-ltb 0 (get_or counts shape 0) (omega (arith, is, some)) ∙ sym (lt-ltb 0 (count - 1) (omega (arith, above)))))
    ]

-- no shape is counted, and none is in use
none_in_use : (n shape : ℕ) (counts : List ℕ) → counts ≡ replicate n 0 → is_in_use shape counts ≡ false
none_in_use n shape counts zeros = ap (λ (count : ℕ). ltb 0 shape && ltb 0 count) none ∙ no_more (ltb 0 shape)
  where
    none : get_or counts shape 0 ≡ 0
    none = elim (cases_lt shape n) [
      | inl low ↦ ap (λ (ns : List ℕ). get_or ns shape 0) zeros ∙ get_or-replicate {A = ℕ} n shape 0 0 low
      | inr past ↦ get_or_past counts shape 0 (omega (arith, ap (λ (ns : List ℕ). length ns) zeros, length-replicate {A = ℕ} n 0, past))
    ]

pub AreShapes-none : (counts : List ℕ) (used : PlaceLists) → counts ≡ replicate shape_count 0 → used ≡ empty_lists 1 shape_count → AreShapes counts used
AreShapes-none counts used counted empty = record {
  long = ap (λ (ns : List ℕ). length ns) counted ∙ length-replicate {A = ℕ} shape_count 0;
  places = ap (λ (l : PlaceLists). l.places) empty;
  one = ap (λ (l : PlaceLists). length l.lists) empty;
  same = λ shape. ap (λ (l : PlaceLists). has_place shape (places_in l 0)) empty ∙ sym (none_in_use shape_count shape counts counted);
}
