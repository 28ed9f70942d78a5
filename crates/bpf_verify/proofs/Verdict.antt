-- A program has a fault exactly where it is not well formed.
use Rattle.std.proofs.Common.{◌≡◌, ℕ, ◌+◌, ◌-◌, ◌<◌, ◌≤◌, Bool, true, false, eqb, cond, List, length, get_or, Some, None, refl, sym, ◌∙◌, arith, subst, inl, inr}
use Rattle.std.proofs.lemmas.Bool.{lt-ltb, ne_eqb, cases_Bool, false≢true}
use Rattle.std.proofs.lemmas.Option.{slice_get-get_or, slice_get_within}
use Rattle.std.specs.Option.{IsSomeAnd}
use Rattle.bpf_code.specs.declared.instruction.Ins.{Ins}
use Rattle.bpf_code.specs.declared.operation.Op.{Op}
use Rattle.bpf_code.specs.declared.operation.Op.TheVariants.{LoadImage, LoadScratch, IndexScratch, StoreA, StoreX, Compute, Branch}
use Rattle.bpf_code.specs.declared.operation.Op.TheVariants.{Jump as Ja}
use Rattle.bpf_code.specs.declared.operation.Operand.TheVariants.{Constant}
use Rattle.bpf_code.specs.declared.operation.Arithmetic.TheVariants.{Div, ShiftLeft, ShiftRight, Mod}
use Rattle.bpf_code.specs.Table.{op_of}
use Rattle.bpf_verify.specs.declared.error.VerifyError.{VerifyError}
use Rattle.bpf_verify.specs.declared.error.VerifyError.TheVariants.{Empty, TooMany, Code, ZeroDivisor, Shift, Scratch, Jump, Last, Unset, Ancillary, NoMemory}
use Rattle.bpf_code.specs.Flow.{At, stored_on}
use Rattle.bpf_code.specs.Program.{IsFine, IsReturn, WellFormed}
use Rattle.bpf_verify.specs.FirstFault.{row_fault, own_fault, FineBefore, IsFirstFault, ReadsUnset, IsFault}
use Rattle.bpf_verify.proofs.Faults.{at_row, fine_row}

-- ---- a well formed program has no fault

if_true : (e : VerifyError) (b : Bool) → b ≡ true → cond b None (Some e) ≡ None
if_true e b h = rw h refl

if_false : (e : VerifyError) (b : Bool) → b ≡ false → cond b (Some e) None ≡ None
if_false e b h = rw h refl

not_zero : (k : ℕ) → 0 < k → eqb k 0 ≡ false
not_zero k h = ne_eqb k 0 (λ e. omega arith)

none_row : (len place : ℕ) (op : Op) (ins : Ins) → IsFine len place op ins → row_fault len place op ins ≡ None
none_row len place (Compute Div Constant) ins fine = if_false _ _ (not_zero ins.k fine.constant)
none_row len place (Compute Mod Constant) ins fine = if_false _ _ (not_zero ins.k fine.constant)
none_row len place (Compute ShiftLeft Constant) ins fine = if_true _ _ (lt-ltb ins.k 32 fine.constant)
none_row len place (Compute ShiftRight Constant) ins fine = if_true _ _ (lt-ltb ins.k 32 fine.constant)
none_row len place LoadScratch ins fine = if_true _ _ (lt-ltb ins.k 16 fine.scratch)
none_row len place IndexScratch ins fine = if_true _ _ (lt-ltb ins.k 16 fine.scratch)
none_row len place StoreA ins fine = if_true _ _ (lt-ltb ins.k 16 fine.scratch)
none_row len place StoreX ins fine = if_true _ _ (lt-ltb ins.k 16 fine.scratch)
none_row len place Ja ins fine = if_true _ _ (lt-ltb _ len fine.jump)
none_row len place (Branch test operand) ins fine =
    rw (lt-ltb (place + 1 + ins.jt) len fine.jump.0, lt-ltb (place + 1 + ins.jf) len fine.jump.1) refl
none_row len place (LoadImage width) ins fine = if_true _ _ (lt-ltb ins.k _ fine.load)
none_row len place _ ins fine = refl

none_not_some : (e : VerifyError) → None ≡ Some e → ⊥
none_not_some e h = cc

first_not_well : (program : List Ins) (place : ℕ) (e : VerifyError) → IsFirstFault program place e → WellFormed program → ⊥
first_not_well program place e h well =
    at_row ⊥ program place (IsFine (length program) place) (well.fine place (slice_get_within program place h.ins h.at)) (λ ins op at row fine.
    let same : h.ins ≡ ins = let g : Some h.ins ≡ Some ins = sym h.at ∙ at in cc in
    let is : own_fault (length program) place ins ≡ Some e = rw same at h.is in
    none_not_some e (sym (none_row (length program) place op ins fine) ∙ rw row at is))

pub fault_not_well : (program : List Ins) (e : VerifyError) → IsFault program e → WellFormed program → ⊥
fault_not_well program Empty h well = let s = well.some in absurd (omega arith)
fault_not_well program TooMany h well = let s = well.few in absurd (omega arith)
fault_not_well program (Code p) h well = first_not_well program p (Code p) h well
fault_not_well program (ZeroDivisor p) h well = first_not_well program p (ZeroDivisor p) h well
fault_not_well program (Shift p) h well = first_not_well program p (Shift p) h well
fault_not_well program (Scratch p) h well = first_not_well program p (Scratch p) h well
fault_not_well program (Jump p) h well = first_not_well program p (Jump p) h well
fault_not_well program (Ancillary p) h well = first_not_well program p (Ancillary p) h well
fault_not_well program (Last p) h well =
    let l = h.last in
    let e : length program - 1 ≡ p = omega arith in
    h.goes_on (subst (λ (q : ℕ). At program q IsReturn) e well.last)
fault_not_well program (Unset p) h well =
    let r = h.first.reads in
    false≢true (sym r.4 ∙ well.stored p r.0 r.1 r.2 r.3)
fault_not_well program NoMemory h well = absurd h

-- ---- a program without a fault is well formed

pub well_formed : (program : List Ins) → 0 < length program → length program ≤ 4096 → FineBefore program (length program) → At program (length program - 1) IsReturn → ((place : ℕ) → ReadsUnset program place → ⊥) → WellFormed program
well_formed program some few fine last unread = record {
  some = some;
  few = few;
  fine = λ place inside.
      let none : Ins = record { code = 0; jt = 0; jf = 0; k = 0 } in
      let at = slice_get-get_or program place none inside in
      rw at (fine_row (length program) place (get_or program place none) (fine place (get_or program place none) inside at));
  last = last;
  stored = λ place earlier k path reads. elim (cases_Bool (stored_on program k earlier)) [
    | inl is ↦ is
    | inr unset ↦ absurd (unread place (earlier, k, path, reads, unset))
  ];
}

-- the last instruction, read by its place
pub last_returns : (program : List Ins) (default : Ins) → 0 < length program → IsSomeAnd (op_of (get_or program (length program - 1) default).code) (λ op. IsReturn op (get_or program (length program - 1) default)) → At program (length program - 1) IsReturn
last_returns program default some h =
    let inside : length program - 1 < length program = omega arith in
    rw (slice_get-get_or program (length program - 1) default inside) h
