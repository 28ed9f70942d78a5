-- The masks of the pass say what is stored on the paths.
use Rattle.std.proofs.Common.{◌≡◌, ℕ, zero, suc, ◌+◌, ◌-◌, ◌*◌, ◌%◌, ◌^◌, ◌<◌, ◌≤◌, min, true, false, eqb, List, [], ◌∷◌, length, get_or, Some, None, ◌⊎◌, inl, inr, refl, sym, ap, ◌∙◌, arith, subst, bit_and, bit_or, w16}
use Rattle.std.proofs.lemmas.Bool.{eq-eqb, ne_eqb, cases_eq, cases_lt, false≢true, or_right}
use Rattle.std.proofs.lemmas.List.{get_or-set_same, get_or-set_other}
use Rattle.std.proofs.Math.ListN.{length-set}
use Rattle.std.proofs.lemmas.Option.{slice_get_within}
use Rattle.std.proofs.lemmas.Nat.Bits.{bit_at_and, bit_at-lt, bit_at_set_same, bit_at_set_other, bit_at-zero, bit_at_ones}
use Rattle.std.specs.Int.{bit_at}
use Rattle.std.specs.List.{slice_get}
use Rattle.bpf_code.specs.declared.instruction.Ins.{Ins}
use Rattle.bpf_code.specs.declared.operation.Op.{Op}
use Rattle.bpf_code.specs.declared.operation.Op.TheVariants.{LoadScratch, IndexScratch, StoreA, StoreX, Jump, Branch, ReturnConstant, ReturnA}
use Rattle.bpf_code.specs.Table.{op_of}
use Rattle.bpf_code.specs.Flow.{At, Leads, Follows, IsPath, Reads, stores, stores_at, stored_on}
use Rattle.bpf_verify.specs.Masks.{AreBelow, mask_after, merge_into_successors, merge_at}
use Rattle.bpf_code.specs.Program.{IsScratchFine, IsFine, IsReturn}
use Rattle.bpf_verify.specs.FirstFault.{FineBefore, ReadsUnset, IsFirstUnset}
use Rattle.bpf_verify.proofs.Faults.{At_in, At_out, at_row, fine_row, below_next}

-- ---- bits

zero_or_one : (x : ℕ) → x < 2 → (x ≡ 0) ⊎ (x ≡ 1)
zero_or_one zero h = inl refl
zero_or_one (suc zero) h = inr refl
zero_or_one (suc (suc x)) h = absurd (omega arith)

bit_cases : (n k : ℕ) → (bit_at n k ≡ 0) ⊎ (bit_at n k ≡ 1)
bit_cases n k = zero_or_one (bit_at n k) (bit_at-lt n k)

both_one : (a b : ℕ) → a < 2 → b < 2 → min a b ≡ 1 → (a ≡ 1) × (b ≡ 1)
both_one a b x y h = (omega arith, omega arith)

one_zero : (a b : ℕ) → a < 2 → b < 2 → min a b ≡ 0 → (a ≡ 0) ⊎ (b ≡ 0)
one_zero zero b x y h = inl refl
one_zero (suc a) b x y h = inr (omega arith)

one_and : (a b k : ℕ) → bit_at (bit_and a b) k ≡ 1 → (bit_at a k ≡ 1) × (bit_at b k ≡ 1)
one_and a b k h = both_one (bit_at a k) (bit_at b k) (bit_at-lt a k) (bit_at-lt b k) (sym (bit_at_and a b k) ∙ h)

zero_and : (a b k : ℕ) → bit_at (bit_and a b) k ≡ 0 → (bit_at a k ≡ 0) ⊎ (bit_at b k ≡ 0)
zero_and a b k h = one_zero (bit_at a k) (bit_at b k) (bit_at-lt a k) (bit_at-lt b k) (sym (bit_at_and a b k) ∙ h)

-- ---- masks that meet

pub length-merge_at : (masks : List ℕ) (to mask : ℕ) → length (merge_at masks to mask) ≡ length masks
length-merge_at masks to mask = length-set masks to (bit_and (get_or masks to 0) mask)

merge_at_same : (masks : List ℕ) (to mask p : ℕ) → to < length masks → p ≡ to → get_or (merge_at masks to mask) p 0 ≡ bit_and (get_or masks p 0) mask
merge_at_same masks to mask p small e = rw e (get_or-set_same masks to (bit_and (get_or masks to 0) mask) 0 small)

merge_at_one : (masks : List ℕ) (to mask p k : ℕ) → to < length masks → bit_at (get_or (merge_at masks to mask) p 0) k ≡ 1 → (bit_at (get_or masks p 0) k ≡ 1) × (p ≡ to → bit_at mask k ≡ 1)
merge_at_one masks to mask p k small h =
    elim (cases_eq p to) [
      | inl e ↦ (let b = one_and (get_or masks p 0) mask k (ap (λ (m : ℕ). bit_at m k) (sym (merge_at_same masks to mask p small e)) ∙ h) in (b.0, λ _. b.1))
      | inr ne ↦ (ap (λ (m : ℕ). bit_at m k) (sym (get_or-set_other masks to p (bit_and (get_or masks to 0) mask) 0 ne)) ∙ h, λ e. absurd (ne e))
    ]

merge_at_zero : (masks : List ℕ) (to mask p k : ℕ) → to < length masks → bit_at (get_or (merge_at masks to mask) p 0) k ≡ 0 → (bit_at (get_or masks p 0) k ≡ 0) ⊎ ((p ≡ to) × (bit_at mask k ≡ 0))
merge_at_zero masks to mask p k small h =
    elim (cases_eq p to) [
      | inl e ↦ elim (zero_and (get_or masks p 0) mask k (ap (λ (m : ℕ). bit_at m k) (sym (merge_at_same masks to mask p small e)) ∙ h)) [ inl z ↦ inl z | inr z ↦ inr (e, z) ]
      | inr ne ↦ inl (ap (λ (m : ℕ). bit_at m k) (sym (get_or-set_other masks to p (bit_and (get_or masks to 0) mask) 0 ne)) ∙ h)
    ]

-- ---- masks that are handed on

length-handed : (place : ℕ) (op : Op) (ins : Ins) (mask : ℕ) (masks : List ℕ) → length (merge_into_successors place op ins mask masks) ≡ length masks
length-handed place Jump ins mask masks = length-merge_at masks _ mask
length-handed place (Branch test operand) ins mask masks = length-merge_at (merge_at masks _ mask) _ mask ∙ length-merge_at masks _ mask
length-handed place ReturnConstant ins mask masks = refl
length-handed place ReturnA ins mask masks = refl
length-handed place _ ins mask masks = length-merge_at masks _ mask

later : (masks : List ℕ) (to at mask : ℕ) → to < length masks → to < length (merge_at masks at mask)
later masks to at mask h = let e = length-merge_at masks at mask in omega arith

handed_one : (place : ℕ) (op : Op) (ins : Ins) (mask : ℕ) (masks : List ℕ) (p k : ℕ) → AreBelow (length masks) place op ins → bit_at (get_or (merge_into_successors place op ins mask masks) p 0) k ≡ 1 → (bit_at (get_or masks p 0) k ≡ 1) × (Leads place p op ins → bit_at mask k ≡ 1)
handed_one place Jump ins mask masks p k below h = merge_at_one masks _ mask p k below h
handed_one place (Branch test operand) ins mask masks p k below h =
    let second = merge_at_one (merge_at masks (place + 1 + ins.jt) mask) (place + 1 + ins.jf) mask p k (later masks (place + 1 + ins.jf) (place + 1 + ins.jt) mask below.1) h in
    let first = merge_at_one masks (place + 1 + ins.jt) mask p k below.0 second.0 in
    (first.0, λ leads. elim leads [ inl e ↦ first.1 e | inr e ↦ second.1 e ])
handed_one place ReturnConstant ins mask masks p k below h = (h, λ leads. absurd leads)
handed_one place ReturnA ins mask masks p k below h = (h, λ leads. absurd leads)
handed_one place _ ins mask masks p k below h = merge_at_one masks (place + 1) mask p k below h

handed_zero : (place : ℕ) (op : Op) (ins : Ins) (mask : ℕ) (masks : List ℕ) (p k : ℕ) → AreBelow (length masks) place op ins → bit_at (get_or (merge_into_successors place op ins mask masks) p 0) k ≡ 0 → (bit_at (get_or masks p 0) k ≡ 0) ⊎ (Leads place p op ins × (bit_at mask k ≡ 0))
handed_zero place Jump ins mask masks p k below h = merge_at_zero masks _ mask p k below h
handed_zero place (Branch test operand) ins mask masks p k below h =
    elim (merge_at_zero (merge_at masks (place + 1 + ins.jt) mask) (place + 1 + ins.jf) mask p k (later masks (place + 1 + ins.jf) (place + 1 + ins.jt) mask below.1) h) [
      | inl z ↦ elim (merge_at_zero masks (place + 1 + ins.jt) mask p k below.0 z) [ inl y ↦ inl y | inr y ↦ inr (inl y.0, y.1) ]
      | inr z ↦ inr (inr z.0, z.1)
    ]
handed_zero place ReturnConstant ins mask masks p k below h = inl h
handed_zero place ReturnA ins mask masks p k below h = inl h
handed_zero place _ ins mask masks p k below h = merge_at_zero masks (place + 1) mask p k below h

-- ---- the mask after an instruction

store_one : (mask m k : ℕ) → m < 16 → bit_at (bit_or mask ((1 * 2 ^ m) % 2 ^ 16)) k ≡ 1 → (eqb k m ≡ true) ⊎ (bit_at mask k ≡ 1)
store_one mask m k small h =
    elim (cases_eq k m) [
      | inl e ↦ inl (eq-eqb k m e)
      | inr ne ↦ inr (sym (bit_at_set_other w16 mask m small k ne) ∙ h)
    ]

one_not_zero : (x : ℕ) → x ≡ 1 → x ≡ 0 → ⊥
one_not_zero x a b = omega arith

store_zero : (mask m k : ℕ) → m < 16 → bit_at (bit_or mask ((1 * 2 ^ m) % 2 ^ 16)) k ≡ 0 → (eqb k m ≡ false) × (bit_at mask k ≡ 0)
store_zero mask m k small h =
    elim (cases_eq k m) [
      | inl e ↦ absurd (one_not_zero _ (rw e (bit_at_set_same w16 mask m small)) h)
      | inr ne ↦ (ne_eqb k m ne, sym (bit_at_set_other w16 mask m small k ne) ∙ h)
    ]

after_one : (op : Op) (ins : Ins) (mask k : ℕ) → IsScratchFine op ins → bit_at (mask_after op ins mask) k ≡ 1 → (stores k op ins ≡ true) ⊎ (bit_at mask k ≡ 1)
after_one StoreA ins mask k fine h = store_one mask ins.k k fine h
after_one StoreX ins mask k fine h = store_one mask ins.k k fine h
after_one _ ins mask k fine h = inr h

after_zero : (op : Op) (ins : Ins) (mask k : ℕ) → IsScratchFine op ins → bit_at (mask_after op ins mask) k ≡ 0 → (stores k op ins ≡ false) × (bit_at mask k ≡ 0)
after_zero StoreA ins mask k fine h = store_zero mask ins.k k fine h
after_zero StoreX ins mask k fine h = store_zero mask ins.k k fine h
after_zero _ ins mask k fine h = (refl, h)

-- ---- paths

leads_up : (place next : ℕ) (op : Op) (ins : Ins) → Leads place next op ins → place < next
leads_up place next Jump ins h = omega arith
leads_up place next (Branch test operand) ins (inl h) = omega arith
leads_up place next (Branch test operand) ins (inr h) = omega arith
leads_up place next ReturnConstant ins h = absurd h
leads_up place next ReturnA ins h = absurd h
leads_up place next _ ins h = let g : next ≡ place + 1 = h in omega arith

follows_up : (program : List Ins) (place next : ℕ) → Follows program place next → place < next
follows_up program place next h =
    at_row (place < next) program place (Leads place next) h (λ ins op at row leads. leads_up place next op ins leads)

-- the place before is below a number
abbrev pub FromBelow : ℕ → List ℕ → Type 0
FromBelow i [] = Unit {0}
FromBelow i (q ∷ earlier) = q < i

from_path : (program : List Ins) (p : ℕ) (earlier : List ℕ) → IsPath program p earlier → FromBelow p earlier
from_path program p [] path = tt
from_path program p (q ∷ earlier) path = follows_up program q p path.0

from_more : (i : ℕ) (earlier : List ℕ) → FromBelow i earlier → FromBelow (i + 1) earlier
from_more i [] h = tt
from_more i (q ∷ earlier) h = omega arith

reads_word : (k : ℕ) (op : Op) (ins : Ins) → Reads k op ins → k ≡ ins.k
reads_word k LoadScratch ins h = h
reads_word k IndexScratch ins h = h
reads_word k _ ins h = absurd h

reads_small : (k : ℕ) (op : Op) (ins : Ins) → IsScratchFine op ins → Reads k op ins → ins.k < 16
reads_small k LoadScratch ins fine h = fine
reads_small k IndexScratch ins fine h = fine
reads_small k _ ins fine h = absurd h

-- ---- the pass

-- the masks when the pass is at a place: they tell of the paths whose last step comes from below it
pub record Masked (program : List Ins) (masks : List ℕ) (i : ℕ) : Type 0 where
  pub long : length masks ≡ 4096
  pub known : (p k : ℕ) (earlier : List ℕ) → p < length program → bit_at (get_or masks p 0) k ≡ 1 → IsPath program p earlier → FromBelow i earlier → stored_on program k earlier ≡ true
  pub unknown : (p k : ℕ) → p < length program → k < 16 → bit_at (get_or masks p 0) k ≡ 0 → (earlier : List ℕ) × IsPath program p earlier × FromBelow i earlier × (stored_on program k earlier ≡ false)
  pub checked : (p : ℕ) → p < i → ReadsUnset program p → ⊥

stores_at_row : (program : List Ins) (place : ℕ) (ins : Ins) (op : Op) (k : ℕ) → slice_get program place ≡ Some ins → op_of ins.code ≡ Some op → stores_at program k place ≡ stores k op ins
stores_at_row program place ins op k at row = rw (at, row) refl

bit_zero : (k : ℕ) → bit_at 0 k ≡ 1 → ⊥
bit_zero k h = one_not_zero _ h (bit_at-zero k)

-- the masks at the start: one way leads to place 0, with nothing stored, and none yet to another place
pub masked_start : (program : List Ins) (full : List ℕ) → length full ≡ 4096 → length program ≤ 4096 → ((p : ℕ) → p < 4096 → get_or full p 0 ≡ 65535) → Masked program (merge_at full 0 0) 0
masked_start program full long few each = record {
  long = length-merge_at full 0 0 ∙ long;
  known = known;
  unknown = unknown;
  checked = λ p low r. absurd (omega arith);
}
  where
    known : (p k : ℕ) (earlier : List ℕ) → p < length program → bit_at (get_or (merge_at full 0 0) p 0) k ≡ 1 → IsPath program p earlier → FromBelow 0 earlier → stored_on program k earlier ≡ true
    known p k [] inside one path from = absurd (bit_zero k ((merge_at_one full 0 0 p k (omega arith) one).1 path))
    known p k (q ∷ earlier) inside one path from = absurd (omega arith)

    unknown : (p k : ℕ) → p < length program → k < 16 → bit_at (get_or (merge_at full 0 0) p 0) k ≡ 0 → (earlier : List ℕ) × IsPath program p earlier × FromBelow 0 earlier × (stored_on program k earlier ≡ false)
    unknown p k inside small clear =
        elim (merge_at_zero full 0 0 p k (omega arith) clear) [
          | inl z ↦ absurd (one_not_zero _ (bit_at_ones 16 k small) (rw (each p (omega arith)) at z))
          | inr z ↦ ([], z.0, tt, refl)
        ]

-- what the pass knows at its place
pub read_is_stored : (program : List Ins) (masks : List ℕ) (i : ℕ) (ins : Ins) (op : Op) → Masked program masks i → slice_get program i ≡ Some ins → op_of ins.code ≡ Some op → i < length program → (Reads ins.k op ins × (bit_at (get_or masks i 0) ins.k ≡ 0) → ⊥) → ReadsUnset program i → ⊥
read_is_stored program masks i ins op masked at row inside unread (earlier, k, path, reads, unset) =
    let r : Reads k op ins = At_out program i ins op (Reads k) at row reads in
    let e : k ≡ ins.k = reads_word k op ins r in
    elim (bit_cases (get_or masks i 0) ins.k) [
      | inl z ↦ unread (subst (λ (m : ℕ). Reads m op ins) e r, z)
      | inr o ↦ false≢true (sym unset ∙ masked.known i k earlier inside (rw e o) path (from_path program i earlier path))
    ]

pub read_is_unset : (program : List Ins) (masks : List ℕ) (i : ℕ) (ins : Ins) (op : Op) → Masked program masks i → slice_get program i ≡ Some ins → op_of ins.code ≡ Some op → i < length program → IsScratchFine op ins → Reads ins.k op ins × (bit_at (get_or masks i 0) ins.k ≡ 0) → IsFirstUnset program i
read_is_unset program masks i ins op masked at row inside fine (reads, clear) =
    let way = masked.unknown i ins.k inside (reads_small ins.k op ins fine reads) clear in
    record {
      reads = (way.0, ins.k, way.1, At_in program i ins op (Reads ins.k) at row reads, way.3);
      before = masked.checked;
    }

-- a path whose last step comes from the place of the pass
through : (program : List Ins) (masks : List ℕ) (i p k : ℕ) (rest : List ℕ) (ins : Ins) (op : Op) → Masked program masks i → slice_get program i ≡ Some ins → op_of ins.code ≡ Some op → i < length program → (stores k op ins ≡ true) ⊎ (bit_at (get_or masks i 0) k ≡ 1) → IsPath program i rest → stored_on program k (i ∷ rest) ≡ true
through program masks i p k rest ins op masked at row inside (inl stored) path =
    rw (stores_at_row program i ins op k at row ∙ stored) refl
through program masks i p k rest ins op masked at row inside (inr one) path =
    or_right _ _ (masked.known i k rest inside one path (from_path program i rest path))

known_on : (program : List Ins) (masks : List ℕ) (i : ℕ) (ins : Ins) (op : Op) → Masked program masks i → slice_get program i ≡ Some ins → op_of ins.code ≡ Some op → i < length program → IsScratchFine op ins → AreBelow (length masks) i op ins → (p k : ℕ) (earlier : List ℕ) → p < length program → bit_at (get_or (merge_into_successors i op ins (mask_after op ins (get_or masks i 0)) masks) p 0) k ≡ 1 → IsPath program p earlier → FromBelow (i + 1) earlier → stored_on program k earlier ≡ true
known_on program masks i ins op masked at row inside fine below p k [] within one path from =
    masked.known p k [] within (handed_one i op ins (mask_after op ins (get_or masks i 0)) masks p k below one).0 path tt
known_on program masks i ins op masked at row inside fine below p k (q ∷ rest) within one path from =
    let h = handed_one i op ins (mask_after op ins (get_or masks i 0)) masks p k below one in
    elim (cases_lt q i) [
      | inl low ↦ masked.known p k (q ∷ rest) within h.0 path low
      | inr high ↦ (
          let e : i ≡ q = omega arith in
          let goal : ℕ → Type 0 = λ m. IsPath program p (m ∷ rest) → stored_on program k (m ∷ rest) ≡ true in
          subst goal e (λ way. through program masks i p k rest ins op masked at row inside (after_one op ins (get_or masks i 0) k fine (h.1 (At_out program i ins op (Leads i p) at row way.0))) way.1) path)
    ]

unknown_on : (program : List Ins) (masks : List ℕ) (i : ℕ) (ins : Ins) (op : Op) → Masked program masks i → slice_get program i ≡ Some ins → op_of ins.code ≡ Some op → i < length program → IsScratchFine op ins → AreBelow (length masks) i op ins → (p k : ℕ) → p < length program → k < 16 → bit_at (get_or (merge_into_successors i op ins (mask_after op ins (get_or masks i 0)) masks) p 0) k ≡ 0 → (earlier : List ℕ) × IsPath program p earlier × FromBelow (i + 1) earlier × (stored_on program k earlier ≡ false)
unknown_on program masks i ins op masked at row inside fine below p k within small clear =
    elim (handed_zero i op ins (mask_after op ins (get_or masks i 0)) masks p k below clear) [
      | inl z ↦ (let way = masked.unknown p k within small z in (way.0, way.1, from_more i way.0 way.2, way.3))
      | inr z ↦ (
          let none = after_zero op ins (get_or masks i 0) k fine z.1 in
          let way = masked.unknown i k inside small none.1 in
          let here : i < i + 1 = omega arith in
          (i ∷ way.0, (At_in program i ins op (Leads i p) at row z.0, way.1), here, rw (stores_at_row program i ins op k at row ∙ none.0) way.3))
    ]

pub masked_on : (program : List Ins) (masks : List ℕ) (i : ℕ) (ins : Ins) (op : Op) → Masked program masks i → slice_get program i ≡ Some ins → op_of ins.code ≡ Some op → i < length program → IsScratchFine op ins → AreBelow (length masks) i op ins → (Reads ins.k op ins × (bit_at (get_or masks i 0) ins.k ≡ 0) → ⊥) → Masked program (merge_into_successors i op ins (mask_after op ins (get_or masks i 0)) masks) (i + 1)
masked_on program masks i ins op masked at row inside fine below unread = record {
  long = length-handed i op ins _ masks ∙ masked.long;
  known = known_on program masks i ins op masked at row inside fine below;
  unknown = unknown_on program masks i ins op masked at row inside fine below;
  checked = λ p low r. elim (cases_lt p i) [
    | inl lower ↦ masked.checked p lower r
    | inr high ↦ (let e : p ≡ i = omega arith in read_is_stored program masks i ins op masked at row inside unread (subst (ReadsUnset program) e r))
  ];
}

pub masked_all : (program : List Ins) (masks : List ℕ) → Masked program masks (length program) → (place : ℕ) → ReadsUnset program place → ⊥
masked_all program masks masked place r =
    masked.checked place (at_row (place < length program) program place (Reads r.1) r.3 (λ ins op at row reads. slice_get_within program place ins at)) r

-- ---- what the pass's calls need

below_row : (len place : ℕ) (op : Op) (ins : Ins) → IsFine len place op ins → (place + 1 ≡ len → IsReturn op ins) → place < len → len ≤ 4096 → AreBelow 4096 place op ins
below_row len place Jump ins fine last inside few = let j = fine.jump in omega arith
below_row len place (Branch test operand) ins fine last inside few = let j = fine.jump in (omega (arith, j.0), omega (arith, j.1))
below_row len place ReturnConstant ins fine last inside few = tt
below_row len place ReturnA ins fine last inside few = tt
below_row len place _ ins fine last inside few = below_next len place last inside few

pub fine_here : (program : List Ins) (i : ℕ) (ins : Ins) (op : Op) → FineBefore program (length program) → slice_get program i ≡ Some ins → op_of ins.code ≡ Some op → IsFine (length program) i op ins
fine_here program i ins op fine at row =
    rw row at (fine_row (length program) i ins (fine i ins (slice_get_within program i ins at) at))

pub row_here : (program : List Ins) (i : ℕ) (ins : Ins) → FineBefore program (length program) → slice_get program i ≡ Some ins → op_of ins.code ≡ None → ⊥
row_here program i ins fine at none =
    rw none at (fine_row (length program) i ins (fine i ins (slice_get_within program i ins at) at))

pub are_below : (program : List Ins) (masks : List ℕ) (i : ℕ) (ins : Ins) (op : Op) → FineBefore program (length program) → At program (length program - 1) IsReturn → length program ≤ 4096 → slice_get program i ≡ Some ins → op_of ins.code ≡ Some op → length masks ≡ 4096 → AreBelow (length masks) i op ins
are_below program masks i ins op fine last few at row long =
    let inside : i < length program = slice_get_within program i ins at in
    rw long (below_row (length program) i op ins (fine_here program i ins op fine at row) (λ e. At_out program i ins op IsReturn at row (subst (λ (p : ℕ). At program p IsReturn) (let q : length program - 1 ≡ i = omega arith in q) last)) inside few)
