-- What holds of a tail: where each instruction of the source stands in it, and where its islands lead.
use Rattle.std.proofs.Common.{◌≡◌, ℕ, ◌+◌, ◌-◌, ◌<◌, ◌≤◌, List, [], ◌∷◌, length, Option, Some, ◌⊎◌, inl, inr, refl, sym, ap, ◌∙◌, arith}
use Rattle.std.proofs.lemmas.Bool.{cases_lt}
use Rattle.std.proofs.lemmas.List.{get_or_append_left}
use Rattle.std.proofs.lemmas.Option.{slice_get_within}
use Rattle.std.specs.List.{slice_get}
use Rattle.bpf_code.specs.declared.instruction.Ins.{Ins}
use Rattle.bpf_code.specs.declared.operation.Op.{Op}
use Rattle.bpf_code.specs.declared.operation.Op.TheVariants.{Jump, Branch}
use Rattle.bpf_code.specs.Table.{op_of}
use Rattle.jump_islands.specs.PlainLength.{span, sizes_of}
use Rattle.jump_islands.specs.Source.{jump_over}
use Rattle.jump_islands.specs.Tails.{TailTree, len, height, reach, with_ins, with_place, with_island}
use Rattle.jump_islands.proofs.ListPlaces.{slice_get-front}

-- ---- where an instruction stands

-- the first of the last `from` instructions is an island that leads to a place
abbrev pub Island : TailTree → ℕ → ℕ → Type 0
Island t place from = (k : ℕ) × (slice_get t.program (height t place + k) ≡ Some (jump_over k)) × (from ≡ height t place + k + 1)

-- the place itself, or an island that leads to it
abbrev pub Reached : TailTree → ℕ → ℕ → Type 0
Reached t place from = (from ≡ height t place) ⊎ Island t place from

-- a jump over `over` instructions from the one at `at` gets there
abbrev pub LeadsTo : TailTree → ℕ → ℕ → ℕ → Type 0
LeadsTo t place at over = (from : ℕ) × Reached t place from × (from + over ≡ at)

-- an instruction of the source in front of i others, lowered to the one at `at`
abbrev pub PutAt : TailTree → Option Op → Ins → ℕ → ℕ → Type 0
PutAt t (Some Jump) ins i at =
    (over : ℕ) × (slice_get t.program at ≡ Some (jump_over over)) × (height t (i - ins.k) + over ≡ at)
PutAt t (Some (Branch test operand)) ins i at =
    (jt : ℕ) × (jf : ℕ) × (slice_get t.program at ≡ Some (record { code = ins.code; jt = jt; jf = jf; k = ins.k }))
    × LeadsTo t (i - ins.jt) at jt × LeadsTo t (i - ins.jf) at jf
PutAt t _ ins i at = (slice_get t.program at ≡ Some ins) × (height t i ≡ at)

pub record IsPut (t : TailTree) (ins : Ins) (i : ℕ) : Type 0 where
  pub at : ℕ
  pub above : height t (i + 1) ≡ at + 1
  pub is : PutAt t (op_of ins.code) ins i at

abbrev pub AreLowered : TailTree → List Ins → Type 0
AreLowered t [] = Unit {0}
AreLowered t (ins ∷ more) = IsPut t ins (length more) × AreLowered t more

-- an instruction of the tail is one of the source, or an island, whose target is inside if the source is well made
abbrev pub From : Type 0 → List Ins → TailTree → ℕ → Type 0
From W source t j = (i : ℕ) × (i ≤ length source) × (W → 0 < i) × Reached t i (j + 1)

-- what holds also between two instructions of the source
pub record Holds (W : Type 0) (source : List Ins) (t : TailTree) : Type 0 where
  pub long : length t.heights ≡ length source + 1
  pub reached : length t.reaches ≡ length source + 1
  pub last : height t 0 ≡ 0
  pub below : (i : ℕ) → i ≤ length source → height t i ≤ len t
  pub lowered : AreLowered t source
  pub each : (j : ℕ) → j < len t → From W source t j
  pub reaches : (i : ℕ) → i ≤ length source → Reached t i (reach t i)

-- the tail of the source's last instructions
pub record IsTail (W : Type 0) (source : List Ins) (t : TailTree) : Type 0 where
  pub holds : Holds W source t
  pub top : height t (length source) ≡ len t
  pub short : (d : ℕ) → len t ≤ span d (sizes_of source) + height t (length source - d)

-- ---- a tail that is extended

pub record Extends (t u : TailTree) : Type 0 where
  pub programs : (j : ℕ) (x : Ins) → slice_get t.program j ≡ Some x → slice_get u.program j ≡ Some x
  pub same : (i : ℕ) → i < length t.heights → height u i ≡ height t i

pub island_extends : (t : TailTree) (place : ℕ) → Extends t (with_island place t)
island_extends t place = record { programs = λ j x h. slice_get-front t.program _ j x h; same = λ i h. refl }

pub put_extends : (t : TailTree) (x : Ins) → Extends t (with_place (with_ins x t))
put_extends t x = record {
  programs = λ j y h. slice_get-front t.program _ j y h;
  same = λ i h. get_or_append_left t.heights _ 0 i h;
}

pub reached_on : (t u : TailTree) → Extends t u → (i r : ℕ) → i < length t.heights → Reached t i r → Reached u i r
reached_on t u e i r small (inl h) = inl (h ∙ sym (e.same i small))
reached_on t u e i r small (inr (k, is, at)) =
    let s = e.same i small in
    inr (k, rw s (e.programs _ _ is), at ∙ ap (λ (h : ℕ). h + k + 1) (sym s))

leads_on : (t u : TailTree) → Extends t u → (i at over : ℕ) → i < length t.heights → LeadsTo t i at over → LeadsTo u i at over
leads_on t u e i at over small (from, leads, is) = (from, reached_on t u e i from small leads, is)

put_on : (t u : TailTree) → Extends t u → (o : Option Op) (ins : Ins) (i at : ℕ) → i < length t.heights → PutAt t o ins i at → PutAt u o ins i at
put_on t u e (Some Jump) ins i at small (over, is, to) =
    (over, e.programs _ _ is, ap (λ (h : ℕ). h + over) (e.same (i - ins.k) (omega arith)) ∙ to)
put_on t u e (Some (Branch test operand)) ins i at small (jt, jf, is, hit, miss) =
    (jt, jf, e.programs _ _ is, leads_on t u e (i - ins.jt) at jt (omega arith) hit, leads_on t u e (i - ins.jf) at jf (omega arith) miss)
put_on t u e _ ins i at small put = (e.programs _ _ put.0, e.same i small ∙ put.1)

pub lowered_on : (t u : TailTree) → Extends t u → (source : List Ins) → length source < length t.heights → AreLowered t source → AreLowered u source
lowered_on t u e [] small h = tt
lowered_on t u e (ins ∷ more) small h =
    let put : IsPut u ins (length more) = record {
      at = h.0.at;
      above = e.same (length more + 1) (omega arith) ∙ h.0.above;
      is = put_on t u e (op_of ins.code) ins (length more) h.0.at (omega arith) h.0.is;
    } in
    (put, lowered_on t u e more (omega arith) h.1)

pub from_on : (W : Type 0) (t u : TailTree) → Extends t u → (source all : List Ins) (j : ℕ) → length source < length t.heights → length source ≤ length all → From W source t j → From W all u j
from_on W t u e source all j small more (i, inside, well, is) =
    (i, omega arith, well, reached_on t u e i (j + 1) (omega arith) is)

-- ---- places have instructions in front of them

pub positive : (t : TailTree) (source : List Ins) (i : ℕ) → AreLowered t source → 0 < i → i ≤ length source → 0 < height t i
positive t [] i h some inside = absurd (omega arith)
positive t (ins ∷ more) i h some inside =
    elim (cases_lt i (length (ins ∷ more))) [
      | inl low ↦ positive t more i h.1 some (omega arith)
      | inr high ↦ (let e : i ≡ length more + 1 = omega arith in let a = h.0.above in rw e (omega arith))
    ]

pub reached_above : (t : TailTree) (i r : ℕ) → Reached t i r → height t i ≤ r
reached_above t i r (inl h) = omega arith
reached_above t i r (inr (k, is, at)) = omega arith

pub reached_below : (t : TailTree) (i r : ℕ) → height t i ≤ len t → Reached t i r → r ≤ len t
reached_below t i r small (inl h) = omega arith
reached_below t i r small (inr (k, is, at)) =
    let inside = slice_get_within t.program (height t i + k) (jump_over k) is in omega arith
