-- The bytes of a value, and whether it fits, depend on its place only by the remainder by 8.
use Rattle.std.proofs.Common.{◌≡◌, ℕ, suc, ◌+◌, ◌*◌, ◌-◌, ◌%◌, ◌≤◌, Bool, true, false, cond, eqb, List, ◌++◌, length, refl, sym, ap, subst, ◌∙◌, arith}
use Rattle.std.specs.Prelude.{◌||◌}
use Rattle.signature.specs.DataType.{DataType, DataTypes, basic, variant, array, dict, struct, no_types, one_more}
use Rattle.signature.specs.Alignment.{alignment_of}
use Rattle.message_value.specs.declared.order.Order.{Order}
use Rattle.message_value.specs.Order.{word_bytes}
use Rattle.message_value.specs.Value.{Value, Values, Entries, number, text, elements, entries, members, of_type, no_values, one_value, no_entries, one_entry}
use Rattle.message_value.specs.Spelling.{padding, align_up, zeros, with_padding, bytes_then, signature_bytes, elements_place, array_bytes, entry_alignment, bare_bytes, elements_bytes, entries_bytes, members_bytes, value_bytes, entry_bytes}
use Rattle.message_value.specs.Fits.{max_array_len, BareFits, ElementsFit, EntriesFit, MembersFit}

-- ---- places

-- places with the same remainder
pub record Alike (p q : ℕ) : Type 0 where
  pub is : p % 8 ≡ q % 8

pub Alike-back : (p q : ℕ) → Alike p q → Alike q p
Alike-back p q s = record { is = sym s.is }

pub Alike-plus : (p q n : ℕ) → Alike p q → Alike (p + n) (q + n)
Alike-plus p q n s = record { is = go s.is }
  where
    go : p % 8 ≡ q % 8 → (p + n) % 8 ≡ (q + n) % 8
    go e = omega arith

-- what holds of 1, 2, 4 and 8 holds of each alignment
each_alignment : (P : ℕ → Type 0) → P 1 → P 2 → P 4 → P 8 → (type : DataType) → P (alignment_of type)
each_alignment P at_1 at_2 at_4 at_8 (basic c) = go (eqb c 121 || eqb c 103) (eqb c 110 || eqb c 113) (eqb c 120 || eqb c 116 || eqb c 100)
  where
    go : (a b d : Bool) → P (cond a 1 (cond b 2 (cond d 8 4)))
    go true b d = at_1
    go false true d = at_2
    go false false true = at_8
    go false false false = at_4
each_alignment P at_1 at_2 at_4 at_8 variant = at_1
each_alignment P at_1 at_2 at_4 at_8 (array t) = at_4
each_alignment P at_1 at_2 at_4 at_8 (dict k v) = at_4
each_alignment P at_1 at_2 at_4 at_8 (struct t ts) = at_8

-- as far from the next multiple
abbrev pub SamePadding : ℕ → ℕ → ℕ → Type 0
SamePadding p q alignment = padding alignment p ≡ padding alignment q

padding_by : (alignment p q : ℕ) → p % alignment ≡ q % alignment → padding alignment p ≡ padding alignment q
padding_by alignment p q e = ap (λ (r : ℕ). (alignment - r) % alignment) e

padding_1 : (p q : ℕ) → p % 8 ≡ q % 8 → padding 1 p ≡ padding 1 q
padding_1 p q e = let same : p % 1 ≡ q % 1 = omega arith in padding_by 1 p q same

padding_2 : (p q : ℕ) → p % 8 ≡ q % 8 → padding 2 p ≡ padding 2 q
padding_2 p q e = let same : p % 2 ≡ q % 2 = omega arith in padding_by 2 p q same

padding_4 : (p q : ℕ) → p % 8 ≡ q % 8 → padding 4 p ≡ padding 4 q
padding_4 p q e = let same : p % 4 ≡ q % 4 = omega arith in padding_by 4 p q same

pub padding_alike : (p q : ℕ) → Alike p q → (type : DataType) → padding (alignment_of type) p ≡ padding (alignment_of type) q
padding_alike p q s type = each_alignment (SamePadding p q) (padding_1 p q s.is) (padding_2 p q s.is) (padding_4 p q s.is) (padding_by 8 p q s.is) type

pub aligned_alike : (p q : ℕ) → Alike p q → (type : DataType) → Alike (align_up (alignment_of type) p) (align_up (alignment_of type) q)
aligned_alike p q s type =
    subst (λ (n : ℕ). Alike (align_up (alignment_of type) p) (q + n)) (padding_alike p q s type) (Alike-plus p q (padding (alignment_of type) p) s)

-- after the same bytes
pub after_alike : (p q : ℕ) (a b : List ℕ) → Alike p q → a ≡ b → Alike (p + length a) (q + length b)
after_alike p q a b s e = subst (λ (x : List ℕ). Alike (p + length a) (q + length x)) e (Alike-plus p q (length a) s)

-- ---- bytes

abbrev an_entry : DataType
an_entry = struct variant no_types

padded_alike : (p q : ℕ) → Alike p q → (type : DataType) (bytes : ℕ → List ℕ) → bytes (align_up (alignment_of type) p) ≡ bytes (align_up (alignment_of type) q) → with_padding (alignment_of type) p bytes ≡ with_padding (alignment_of type) q bytes
padded_alike p q s type bytes e =
    ap (λ (n : ℕ). zeros n ++ bytes (align_up (alignment_of type) p)) (padding_alike p q s type) ∙ ap (λ (x : List ℕ). zeros (padding (alignment_of type) q) ++ x) e

followed_alike : (p q : ℕ) (a b : List ℕ) (rest : ℕ → List ℕ) → a ≡ b → rest (p + length a) ≡ rest (q + length b) → bytes_then p a rest ≡ bytes_then q b rest
followed_alike p q a b rest e more = ap (λ (x : List ℕ). x ++ rest (p + length a)) e ∙ ap (λ (x : List ℕ). b ++ x) more

array_alike : (order : Order) (p q : ℕ) → Alike p q → (type : DataType) (a b : List ℕ) → a ≡ b → array_bytes order (alignment_of type) p a ≡ array_bytes order (alignment_of type) q b
array_alike order p q s type a b e =
    ap (λ (x : List ℕ). array_bytes order (alignment_of type) p x) e
    ∙ ap (λ (n : ℕ). word_bytes order (length b) ++ (zeros n ++ b)) (padding_alike (p + 4) (q + 4) (Alike-plus p q 4 s) type)

mutual
  pub bare_moved : (order : Order) (p q : ℕ) → Alike p q → (type : DataType) (value : Value) → bare_bytes order p type value ≡ bare_bytes order q type value
  bare_moved order p q s (basic code) (number bits) = refl
  bare_moved order p q s (basic code) (text bytes) = refl
  bare_moved order p q s variant (of_type t v) =
      let n = length (signature_bytes t) in
      let start = Alike-plus p q n s in
      ap (λ (x : List ℕ). signature_bytes t ++ x) (padded_alike (p + n) (q + n) start t (λ at. bare_bytes order at t v) (bare_moved order (align_up (alignment_of t) (p + n)) (align_up (alignment_of t) (q + n)) (aligned_alike (p + n) (q + n) start t) t v))
  bare_moved order p q s (array t) (elements vs) =
      let start = Alike-plus p q 4 s in
      array_alike order p q s t (elements_bytes order (elements_place (alignment_of t) p) t vs) (elements_bytes order (elements_place (alignment_of t) q) t vs) (elements_moved order (elements_place (alignment_of t) p) (elements_place (alignment_of t) q) (aligned_alike (p + 4) (q + 4) start t) t vs)
  bare_moved order p q s (dict k v) (entries es) =
      let start = Alike-plus p q 4 s in
      array_alike order p q s an_entry (entries_bytes order (elements_place entry_alignment p) k v es) (entries_bytes order (elements_place entry_alignment q) k v es) (entries_moved order (elements_place entry_alignment p) (elements_place entry_alignment q) (aligned_alike (p + 4) (q + 4) start an_entry) k v es)
  bare_moved order p q s (struct t ts) (members vs) = members_moved order p q s (one_more t ts) vs
  bare_moved order p q s _ _ = refl

  pub elements_moved : (order : Order) (p q : ℕ) → Alike p q → (t : DataType) (vs : Values) → elements_bytes order p t vs ≡ elements_bytes order q t vs
  elements_moved order p q s t no_values = refl
  elements_moved order p q s t (one_value v vs) =
      let e = padded_alike p q s t (λ at. bare_bytes order at t v) (bare_moved order (align_up (alignment_of t) p) (align_up (alignment_of t) q) (aligned_alike p q s t) t v) in
      followed_alike p q (value_bytes order p t v) (value_bytes order q t v) (λ tail. elements_bytes order tail t vs) e (elements_moved order (p + length (value_bytes order p t v)) (q + length (value_bytes order q t v)) (after_alike p q (value_bytes order p t v) (value_bytes order q t v) s e) t vs)

  pub entries_moved : (order : Order) (p q : ℕ) → Alike p q → (k : ℕ) (v : DataType) (es : Entries) → entries_bytes order p k v es ≡ entries_bytes order q k v es
  entries_moved order p q s k v no_entries = refl
  entries_moved order p q s k v (one_entry key value es) =
      let a = align_up entry_alignment p in
      let b = align_up entry_alignment q in
      let start : Alike a b = aligned_alike p q s an_entry in
      let first = padded_alike a b start (basic k) (λ at. bare_bytes order at (basic k) key) (bare_moved order (align_up (alignment_of (basic k)) a) (align_up (alignment_of (basic k)) b) (aligned_alike a b start (basic k)) (basic k) key) in
      let c = a + length (value_bytes order a (basic k) key) in
      let d = b + length (value_bytes order b (basic k) key) in
      let tail : Alike c d = after_alike a b (value_bytes order a (basic k) key) (value_bytes order b (basic k) key) start first in
      let second = padded_alike c d tail v (λ at. bare_bytes order at v value) (bare_moved order (align_up (alignment_of v) c) (align_up (alignment_of v) d) (aligned_alike c d tail v) v value) in
      let both = followed_alike a b (value_bytes order a (basic k) key) (value_bytes order b (basic k) key) (λ at. value_bytes order at v value) first second in
      let e = padded_alike p q s an_entry (λ at. bytes_then at (value_bytes order at (basic k) key) (λ tail. value_bytes order tail v value)) both in
      followed_alike p q (entry_bytes order p k v key value) (entry_bytes order q k v key value) (λ at. entries_bytes order at k v es) e (entries_moved order (p + length (entry_bytes order p k v key value)) (q + length (entry_bytes order q k v key value)) (after_alike p q (entry_bytes order p k v key value) (entry_bytes order q k v key value) s e) k v es)

  pub members_moved : (order : Order) (p q : ℕ) → Alike p q → (types : DataTypes) (vs : Values) → members_bytes order p types vs ≡ members_bytes order q types vs
  members_moved order p q s (one_more t ts) (one_value v vs) =
      let e = padded_alike p q s t (λ at. bare_bytes order at t v) (bare_moved order (align_up (alignment_of t) p) (align_up (alignment_of t) q) (aligned_alike p q s t) t v) in
      followed_alike p q (value_bytes order p t v) (value_bytes order q t v) (λ tail. members_bytes order tail ts vs) e (members_moved order (p + length (value_bytes order p t v)) (q + length (value_bytes order q t v)) (after_alike p q (value_bytes order p t v) (value_bytes order q t v) s e) ts vs)
  members_moved order p q s _ _ = refl

pub value_moved : (order : Order) (p q : ℕ) → Alike p q → (t : DataType) (v : Value) → value_bytes order p t v ≡ value_bytes order q t v
value_moved order p q s t v =
    padded_alike p q s t (λ at. bare_bytes order at t v) (bare_moved order (align_up (alignment_of t) p) (align_up (alignment_of t) q) (aligned_alike p q s t) t v)

entry_moved : (order : Order) (p q : ℕ) → Alike p q → (k : ℕ) (v : DataType) (key value : Value) → entry_bytes order p k v key value ≡ entry_bytes order q k v key value
entry_moved order p q s k v key value =
    let a = align_up entry_alignment p in
    let b = align_up entry_alignment q in
    let start : Alike a b = aligned_alike p q s an_entry in
    let first = value_moved order a b start (basic k) key in
    let tail = after_alike a b (value_bytes order a (basic k) key) (value_bytes order b (basic k) key) start first in
    let second = value_moved order (a + length (value_bytes order a (basic k) key)) (b + length (value_bytes order b (basic k) key)) tail v value in
    padded_alike p q s an_entry (λ at. bytes_then at (value_bytes order at (basic k) key) (λ tail. value_bytes order tail v value)) (followed_alike a b (value_bytes order a (basic k) key) (value_bytes order b (basic k) key) (λ at. value_bytes order at v value) first second)

-- ---- what fits

mutual
  pub bare_fits_moved : (order : Order) (levels p q : ℕ) → Alike p q → (type : DataType) (value : Value) → BareFits order levels p type value → BareFits order levels q type value
  bare_fits_moved order levels p q s (basic code) (number bits) has = has
  bare_fits_moved order levels p q s (basic code) (text bytes) has = has
  bare_fits_moved order (suc levels) p q s variant (of_type t v) has =
      let n = length (signature_bytes t) in
      let start = Alike-plus p q n s in
      (has.0, bare_fits_moved order levels (align_up (alignment_of t) (p + n)) (align_up (alignment_of t) (q + n)) (aligned_alike (p + n) (q + n) start t) t v has.1)
  bare_fits_moved order (suc levels) p q s (array t) (elements vs) has =
      let start = aligned_alike (p + 4) (q + 4) (Alike-plus p q 4 s) t in
      let a = elements_place (alignment_of t) p in
      let b = elements_place (alignment_of t) q in
      (subst (λ (x : List ℕ). length x ≤ max_array_len) (elements_moved order a b start t vs) has.0, elements_fit_moved order levels a b start t vs has.1)
  bare_fits_moved order (suc levels) p q s (dict k v) (entries es) has =
      let start = aligned_alike (p + 4) (q + 4) (Alike-plus p q 4 s) an_entry in
      let a = elements_place entry_alignment p in
      let b = elements_place entry_alignment q in
      (subst (λ (x : List ℕ). length x ≤ max_array_len) (entries_moved order a b start k v es) has.0, entries_fit_moved order levels a b start k v es has.1)
  bare_fits_moved order (suc levels) p q s (struct t ts) (members vs) has = members_fit_moved order levels p q s (one_more t ts) vs has
  bare_fits_moved order _ p q s _ _ has = has

  pub elements_fit_moved : (order : Order) (levels p q : ℕ) → Alike p q → (t : DataType) (vs : Values) → ElementsFit order levels p t vs → ElementsFit order levels q t vs
  elements_fit_moved order levels p q s t no_values has = tt
  elements_fit_moved order levels p q s t (one_value v vs) has =
      let first = value_bytes order p t v in
      let moved = value_bytes order q t v in
      (bare_fits_moved order levels (align_up (alignment_of t) p) (align_up (alignment_of t) q) (aligned_alike p q s t) t v has.0, elements_fit_moved order levels (p + length first) (q + length moved) (after_alike p q first moved s (value_moved order p q s t v)) t vs has.1)

  pub entries_fit_moved : (order : Order) (levels p q : ℕ) → Alike p q → (k : ℕ) (v : DataType) (es : Entries) → EntriesFit order levels p k v es → EntriesFit order levels q k v es
  entries_fit_moved order levels p q s k v no_entries has = tt
  entries_fit_moved order levels p q s k v (one_entry key value es) has =
      let a = align_up entry_alignment p in
      let b = align_up entry_alignment q in
      let start : Alike a b = aligned_alike p q s an_entry in
      let first = value_bytes order a (basic k) key in
      let moved = value_bytes order b (basic k) key in
      let tail : Alike (a + length first) (b + length moved) = after_alike a b first moved start (value_moved order a b start (basic k) key) in
      let whole = entry_bytes order p k v key value in
      let other = entry_bytes order q k v key value in (
        bare_fits_moved order levels (align_up (alignment_of (basic k)) a) (align_up (alignment_of (basic k)) b) (aligned_alike a b start (basic k)) (basic k) key has.0,
        bare_fits_moved order levels (align_up (alignment_of v) (a + length first)) (align_up (alignment_of v) (b + length moved)) (aligned_alike (a + length first) (b + length moved) tail v) v value has.1,
        entries_fit_moved order levels (p + length whole) (q + length other) (after_alike p q whole other s (entry_moved order p q s k v key value)) k v es has.2,
      )

  pub members_fit_moved : (order : Order) (levels p q : ℕ) → Alike p q → (types : DataTypes) (vs : Values) → MembersFit order levels p types vs → MembersFit order levels q types vs
  members_fit_moved order levels p q s no_types no_values has = tt
  members_fit_moved order levels p q s (one_more t ts) (one_value v vs) has =
      let first = value_bytes order p t v in
      let moved = value_bytes order q t v in
      (bare_fits_moved order levels (align_up (alignment_of t) p) (align_up (alignment_of t) q) (aligned_alike p q s t) t v has.0, members_fit_moved order levels (p + length first) (q + length moved) (after_alike p q first moved s (value_moved order p q s t v)) ts vs has.1)
  members_fit_moved order levels p q s _ _ has = has
