-- The bytes of a text that lies in an image, and the pieces that compare them.
use Rattle.std.proofs.Common.{◌≡◌, ℕ, zero, suc, ◌+◌, ◌-◌, ◌*◌, ◌/◌, ◌<◌, ◌≤◌, inl, inr, List, length, Some, refl, sym, ap, ◌∙◌, arith, subst, slice_index}
use Rattle.std.specs.Prelude.{nat_lt}
use Rattle.std.proofs.lemmas.Bool.{eqb-true, eq-eqb, ltb-false, cases_Bool, cases_lt}
use Rattle.std.proofs.Math.Nat.{mul-suc}
use Rattle.bpf_code.specs.declared.operation.Test.TheVariants.{Equal}
use Rattle.bpf_code.specs.declared.operation.Width.{Width}
use Rattle.bpf_code.specs.declared.operation.Width.TheVariants.{Word, Half, Byte}
use Rattle.bpf_code.specs.Loads.{load}
use Rattle.message_value.specs.Bytes.{AreBytes}
use Rattle.summary.specs.Shown.{Lies}
use Rattle.rule_compile.proofs.Bytes.{Stands, At, loads_byte, loads_half, loads_word, Agree, stands_agree, agree_stands, two_same, four_same}
use Rattle.bpf_code.specs.declared.instruction.Ins.{Ins}
use Rattle.filter_compile.specs.declared.exits.Exits.{Exits}
use Rattle.filter_compile.specs.Pieces.{Piece, both, unit_number, unit_len, same_unit, same_units, same_by, same_bytes, unit_of}
use Rattle.filter_compile.proofs.TwoExits.{Extends, extends_both, extends_indexed, Tests, tests_same, tests_both, tests_indexed}

pub unit_loads : (width : Width) (image : List ℕ) (place : ℕ) (text : List ℕ) (i : ℕ) → Lies image place text → i + unit_len width ≤ length text → load width image (place + i) ≡ Some (unit_number width text i)
unit_loads Byte image place text i lies inside = loads_byte image place text i lies inside
unit_loads Half image place text i lies inside = loads_half image place text i lies inside
unit_loads Word image place text i lies inside = loads_word image place text i lies inside

-- ---- units as numbers

-- the same byte, i + d bytes on
at_byte : (text : List ℕ) (at : ℕ) (value : List ℕ) (i d k p : ℕ) → k ≡ i + d → p ≡ at + i + d → slice_index text p ≡ slice_index value (i + d) → slice_index text (at + k) ≡ slice_index value k
at_byte text at value i d k p e f is =
    let g : at + k ≡ p = omega arith in ap (slice_index text) g ∙ is ∙ ap (slice_index value) (sym e)

agree_at : (text : List ℕ) (at : ℕ) (value : List ℕ) (i to d p q : ℕ) → Agree text at value i to → i + d < to → p ≡ at + i + d → q ≡ i + d → slice_index text p ≡ slice_index value q
agree_at text at value i to d p q agree inside e f =
    let g : p ≡ at + (i + d) = omega arith in ap (slice_index text) g ∙ agree (i + d) (omega arith) inside ∙ ap (slice_index value) (sym f)

unit_agrees : (width : Width) (text : List ℕ) (at : ℕ) (value : List ℕ) (i : ℕ) → AreBytes text → AreBytes value → unit_number width text (at + i) ≡ unit_number width value i → Agree text at value i (i + unit_len width)
unit_agrees Byte text at value i are bytes same k low high =
    let e : k ≡ i = omega arith in
    ap (λ (k : ℕ). slice_index text (at + k)) e ∙ same ∙ ap (slice_index value) (sym e)
unit_agrees Half text at value i are bytes same k low high =
    let each = two_same (slice_index text (at + i)) _ (slice_index value i) _ (are (at + i + 1)) (bytes (i + 1)) same in
    elim (cases_lt k (i + 1)) [
      | inl less ↦ (let e : k ≡ i = omega arith in ap (λ (k : ℕ). slice_index text (at + k)) e ∙ each.0 ∙ ap (slice_index value) (sym e))
      | inr more ↦ at_byte text at value i 1 k (at + i + 1) (omega arith) refl each.1
    ]
unit_agrees Word text at value i are bytes same k low high =
    let each = four_same (slice_index text (at + i)) _ _ _ (slice_index value i) _ _ _ (are (at + i + 1)) (are (at + i + 2)) (are (at + i + 3)) (bytes (i + 1)) (bytes (i + 2)) (bytes (i + 3)) same in
    elim (cases_lt k (i + 2)) [
      | inl less ↦ elim (cases_lt k (i + 1)) [
        | inl first ↦ (let e : k ≡ i = omega arith in ap (λ (k : ℕ). slice_index text (at + k)) e ∙ each.0 ∙ ap (slice_index value) (sym e))
        | inr second ↦ at_byte text at value i 1 k (at + i + 1) (omega arith) refl each.1
      ]
      | inr more ↦ elim (cases_lt k (i + 3)) [
        | inl third ↦ at_byte text at value i 2 k (at + i + 2) (omega arith) refl each.2
        | inr last ↦ at_byte text at value i 3 k (at + i + 3) (omega arith) refl each.3
      ]
    ]

agree_unit : (width : Width) (text : List ℕ) (at : ℕ) (value : List ℕ) (i : ℕ) → Agree text at value i (i + unit_len width) → unit_number width text (at + i) ≡ unit_number width value i
agree_unit Byte text at value i agree = agree_at text at value i (i + 1) 0 (at + i) i agree (omega arith) (omega arith) (omega arith)
agree_unit Half text at value i agree =
    let a = agree_at text at value i (i + 2) 0 (at + i) i agree (omega arith) (omega arith) (omega arith) in
    let b = agree_at text at value i (i + 2) 1 (at + i + 1) (i + 1) agree (omega arith) (omega arith) (omega arith) in
    rw (a, b) refl
agree_unit Word text at value i agree =
    let a = agree_at text at value i (i + 4) 0 (at + i) i agree (omega arith) (omega arith) (omega arith) in
    let b = agree_at text at value i (i + 4) 1 (at + i + 1) (i + 1) agree (omega arith) (omega arith) (omega arith) in
    let c = agree_at text at value i (i + 4) 2 (at + i + 2) (i + 2) agree (omega arith) (omega arith) (omega arith) in
    let d = agree_at text at value i (i + 4) 3 (at + i + 3) (i + 3) agree (omega arith) (omega arith) (omega arith) in
    rw (a, b, c, d) refl

-- ---- pieces

-- the unit before those that are compared
pub units_before : (width : Width) (at : ℕ) (value : List ℕ) (n m len fails : ℕ) (next : Exits) (later here all : List Ins) → suc n ≡ m → len ≡ unit_len width → next ≡ record { holds = length later; fails = fails } → here ≡ same_unit width at value (len * n) next later → same_units width at value m fails later ≡ all → same_units width at value n fails here ≡ all
units_before width at value n m len fails next later here all e l x is whole =
    rw (is, x, l) (subst (λ (m : ℕ). same_units width at value m fails later ≡ all) (sym e) whole)

extends_unit : (width : Width) (at : ℕ) (value : List ℕ) (i : ℕ) → Extends (same_unit width at value i)
extends_unit width at value i = extends_indexed width (at + i) Equal (unit_number width value i)

tests_unit : (width : Width) (image : List ℕ) (place : ℕ) (text : List ℕ) (at : ℕ) (value : List ℕ) (i : ℕ) → Lies image place text → AreBytes text → AreBytes value → at + i + unit_len width ≤ length text → Tests image (At place) (Agree text at value i (i + unit_len width)) (same_unit width at value i)
tests_unit width image place text at value i lies are bytes inside =
    let w : ℕ = unit_number width text (at + i) in
    let k : ℕ = unit_number width value i in
    tests_same image (At place) _ _ (same_unit width at value i) (
      λ e. unit_agrees width text at value i are bytes (eqb-true w k e),
      λ agree. eq-eqb w k (agree_unit width text at value i agree),
    ) (tests_indexed image place width (at + i) w Equal k (unit_loads width image place text (at + i) lies inside))

-- the first n units, and then a piece
abbrev with_units : Width → ℕ → List ℕ → ℕ → Piece → Piece
with_units width at value n f exits rest = same_units width at value n exits.fails (f exits rest)

extends_units : (width : Width) (at : ℕ) (value : List ℕ) (n : ℕ) (f : Piece) → Extends f → Extends (with_units width at value n f)
extends_units width at value zero f extends = extends
extends_units width at value (suc n) f extends =
    let here = same_unit width at value (unit_len width * n) in
    extends_units width at value n (both here f) (extends_both here f (extends_unit width at value (unit_len width * n)) extends)

one_more : (u n : ℕ) → u * suc n ≡ u * n + u
one_more u n = mul-suc u n

-- two ranges as one
agree_joined : (text : List ℕ) (at : ℕ) (value : List ℕ) (from middle to : ℕ) → Agree text at value from middle → Agree text at value middle to → Agree text at value from to
agree_joined text at value from middle to low high k above below = elim (cases_lt k middle) [
  | inl less ↦ low k above less
  | inr more ↦ high k more below
]

tests_units : (width : Width) (image : List ℕ) (place : ℕ) (text : List ℕ) (at : ℕ) (value : List ℕ) (n : ℕ) (P : Type 0) (f : Piece) → Lies image place text → AreBytes text → AreBytes value → at + unit_len width * n ≤ length text → Extends f → Tests image (At place) P f → Tests image (At place) (Agree text at value 0 (unit_len width * n) × P) (with_units width at value n f)
tests_units width image place text at value zero P f lies are bytes inside extends t =
    let e : unit_len width * 0 ≡ 0 = omega arith in
    tests_same image (At place) P _ f (λ p. (λ k low high. absurd (omega (arith, high, e)), p), λ each. each.1) t
tests_units width image place text at value (suc n) P f lies are bytes inside extends t =
    let u = unit_len width in
    let e : u * suc n ≡ u * n + u = one_more u n in
    let here = same_unit width at value (u * n) in
    let unit = tests_unit width image place text at value (u * n) lies are bytes (omega (arith, inside, e)) in
    tests_same image (At place) (Agree text at value 0 (u * n) × (Agree text at value (u * n) (u * n + u) × P)) (Agree text at value 0 (u * suc n) × P) (with_units width at value (suc n) f) (
      λ each. (subst (λ (to : ℕ). Agree text at value 0 to) (sym e) (agree_joined text at value 0 (u * n) (u * n + u) each.0 each.1.0), each.1.1),
      λ each. (λ k low high. each.0 k low (omega (arith, e, high)), (λ k low high. each.0 k (omega arith) (omega (arith, e, high)), each.1)),
    ) (tests_units width image place text at value n (Agree text at value (u * n) (u * n + u) × P) (both here f) lies are bytes (omega (arith, inside, e)) (extends_both here f (extends_unit width at value (u * n)) extends) (tests_both image (At place) _ P here f unit extends t))

-- the last unit reaches back to where the others end
covers : (width : Width) (n : ℕ) → unit_len width ≤ n → (n - unit_len width ≤ unit_len width * ((n - 1) / unit_len width)) × (unit_len width * ((n - 1) / unit_len width) ≤ n)
covers Byte n some = (omega arith, omega arith)
covers Half n some = (omega arith, omega arith)
covers Word n some = (omega arith, omega arith)

extends_by : (width : Width) (at : ℕ) (value : List ℕ) → Extends (same_by width at value)
extends_by width at value =
    let last = length value - unit_len width in
    extends_units width at value ((length value - 1) / unit_len width) (same_unit width at value last) (extends_unit width at value last)

tests_by : (width : Width) (image : List ℕ) (place : ℕ) (text : List ℕ) (at : ℕ) (value : List ℕ) → Lies image place text → AreBytes text → AreBytes value → unit_len width ≤ length value → at + length value ≤ length text → Tests image (At place) (Stands text at value) (same_by width at value)
tests_by width image place text at value lies are bytes some inside =
    let u = unit_len width in
    let last = length value - u in
    let count = (length value - 1) / u in
    let c = covers width (length value) some in
    let e : last + u ≡ length value = omega arith in
    let unit = tests_unit width image place text at value last lies are bytes (omega arith) in
    tests_same image (At place) (Agree text at value 0 (u * count) × Agree text at value last (last + u)) (Stands text at value) (same_by width at value) (
      λ each. agree_stands text at value inside (λ k low high. elim (cases_lt k (u * count)) [
        | inl less ↦ each.0 k low less
        | inr more ↦ each.1 k (omega (arith, c.0)) (omega arith)
      ]),
      λ stands. let all = stands_agree text at value stands in (λ k low high. all k low (omega (arith, c.1)), λ k low high. all k (omega arith) (omega arith)),
    ) (tests_units width image place text at value count (Agree text at value last (last + u)) (same_unit width at value last) lies are bytes (omega (arith, c.1)) (extends_unit width at value last) unit)

-- the unit of a value isn't longer than that
unit_fits : (value : List ℕ) → 0 < length value → unit_len (unit_of value) ≤ length value
unit_fits value some = elim (cases_Bool (nat_lt (length value) 2)) [
  | inl one ↦ rw one some
  | inr more ↦ elim (cases_Bool (nat_lt (length value) 4)) [
    | inl few ↦ (let h = ltb-false (length value) 2 more in rw (more, few) (omega arith))
    | inr many ↦ (let h = ltb-false (length value) 4 many in rw (more, many) (omega arith))
  ]
]

pub extends_same_bytes : (at : ℕ) (value : List ℕ) → Extends (same_bytes at value)
extends_same_bytes at value = extends_by (unit_of value) at value

-- The bytes of a text that lies where X points to are those of a value, from a place of the text on.
pub tests_same_bytes : (image : List ℕ) (place : ℕ) (text : List ℕ) (at : ℕ) (value : List ℕ) → Lies image place text → AreBytes text → AreBytes value → 0 < length value → at + length value ≤ length text → Tests image (At place) (Stands text at value) (same_bytes at value)
tests_same_bytes image place text at value lies are bytes some inside =
    tests_by (unit_of value) image place text at value lies are bytes (unit_fits value some) inside
