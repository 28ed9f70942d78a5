-- The fault of one instruction: which fault of the program it is, and that without it the instruction is fine.
use Rattle.std.proofs.Common.{◌≡◌, ℕ, ◌+◌, ◌<◌, ◌≤◌, Bool, true, false, ◌&&◌, eqb, ltb, cond, List, length, get_or, Option, Some, None, inl, inr, refl, sym, ◌∙◌, arith, subst}
use Rattle.std.proofs.lemmas.Bool.{ltb-true, eqb-false, and_parts, cases_lt}
use Rattle.std.proofs.lemmas.Option.{slice_get-get_or}
use Rattle.std.specs.Option.{IsSomeAnd}
use Rattle.std.specs.List.{slice_get}
use Rattle.bpf_code.specs.declared.instruction.Ins.{Ins}
use Rattle.bpf_code.specs.declared.operation.Op.{Op}
use Rattle.bpf_code.specs.declared.operation.Op.TheVariants.{LoadImage, LoadScratch, IndexScratch, StoreA, StoreX, Compute, Branch}
use Rattle.bpf_code.specs.declared.operation.Op.TheVariants.{Jump as Ja}
use Rattle.bpf_code.specs.declared.operation.Operand.TheVariants.{Constant}
use Rattle.bpf_code.specs.declared.operation.Arithmetic.TheVariants.{Div, ShiftLeft, ShiftRight, Mod}
use Rattle.bpf_code.specs.Table.{op_of}
use Rattle.bpf_verify.specs.declared.error.VerifyError.{VerifyError}
use Rattle.bpf_verify.specs.declared.error.VerifyError.TheVariants.{Code, ZeroDivisor, Shift, Scratch, Jump, Ancillary}
use Rattle.bpf_code.specs.Flow.{At}
use Rattle.bpf_code.specs.Program.{IsFine}
use Rattle.bpf_verify.specs.FirstFault.{row_fault, code_fault, own_fault, FineBefore, IsFirstFault, IsFault}

-- ---- one instruction's fault names its place

abbrev pub Names : ℕ → VerifyError → Type 0
Names place (Code p) = p ≡ place
Names place (ZeroDivisor p) = p ≡ place
Names place (Shift p) = p ≡ place
Names place (Scratch p) = p ≡ place
Names place (Jump p) = p ≡ place
Names place (Ancillary p) = p ≡ place
Names place _ = ⊥

abbrev NamesIfSome : ℕ → Option VerifyError → Type 0
NamesIfSome place None = Unit {0}
NamesIfSome place (Some e) = Names place e

names_if : (place : ℕ) (e : VerifyError) (b : Bool) → Names place e → NamesIfSome place (cond b None (Some e))
names_if place e true h = tt
names_if place e false h = h

names_else : (place : ℕ) (e : VerifyError) (b : Bool) → Names place e → NamesIfSome place (cond b (Some e) None)
names_else place e true h = h
names_else place e false h = tt

row_names : (len place : ℕ) (op : Op) (ins : Ins) → NamesIfSome place (row_fault len place op ins)
row_names len place (Compute Div Constant) ins = names_else place (ZeroDivisor place) _ refl
row_names len place (Compute Mod Constant) ins = names_else place (ZeroDivisor place) _ refl
row_names len place (Compute ShiftLeft Constant) ins = names_if place (Shift place) _ refl
row_names len place (Compute ShiftRight Constant) ins = names_if place (Shift place) _ refl
row_names len place LoadScratch ins = names_if place (Scratch place) _ refl
row_names len place IndexScratch ins = names_if place (Scratch place) _ refl
row_names len place StoreA ins = names_if place (Scratch place) _ refl
row_names len place StoreX ins = names_if place (Scratch place) _ refl
row_names len place Ja ins = names_if place (Jump place) _ refl
row_names len place (Branch test operand) ins = names_if place (Jump place) _ refl
row_names len place (LoadImage width) ins = names_if place (Ancillary place) _ refl
row_names len place _ ins = tt

code_names : (len place : ℕ) (ins : Ins) (o : Option Op) → NamesIfSome place (code_fault len place ins o)
code_names len place ins None = refl
code_names len place ins (Some op) = row_names len place op ins

named : (program : List Ins) (place : ℕ) (e : VerifyError) → Names place e → IsFirstFault program place e → IsFault program e
named program place (Code p) n h = rw n (rw n at h)
named program place (ZeroDivisor p) n h = rw n (rw n at h)
named program place (Shift p) n h = rw n (rw n at h)
named program place (Scratch p) n h = rw n (rw n at h)
named program place (Jump p) n h = rw n (rw n at h)
named program place (Ancillary p) n h = rw n (rw n at h)
named program place _ n h = absurd n

pub fault_is : (program : List Ins) (place : ℕ) (e : VerifyError) → IsFirstFault program place e → IsFault program e
fault_is program place e h =
    named program place e (subst (NamesIfSome place) h.is (code_names (length program) place h.ins (op_of h.ins.code))) h

-- ---- an instruction without a fault is fine, and one with a fault isn't

no_fault : (e : VerifyError) (b : Bool) → cond b None (Some e) ≡ None → b ≡ true
no_fault e true h = refl
no_fault e false h = cc

no_fault_else : (e : VerifyError) (b : Bool) → cond b (Some e) None ≡ None → b ≡ false
no_fault_else e true h = cc
no_fault_else e false h = refl

above_zero : (k : ℕ) → eqb k 0 ≡ false → 0 < k
above_zero k h = let ne = eqb-false k 0 h in omega arith

row_fine : (len place : ℕ) (op : Op) (ins : Ins) → row_fault len place op ins ≡ None → IsFine len place op ins
row_fine len place (Compute Div Constant) ins h = record { constant = above_zero ins.k (no_fault_else _ _ h); scratch = tt; jump = tt; load = tt }
row_fine len place (Compute Mod Constant) ins h = record { constant = above_zero ins.k (no_fault_else _ _ h); scratch = tt; jump = tt; load = tt }
row_fine len place (Compute ShiftLeft Constant) ins h = record { constant = ltb-true ins.k 32 (no_fault _ _ h); scratch = tt; jump = tt; load = tt }
row_fine len place (Compute ShiftRight Constant) ins h = record { constant = ltb-true ins.k 32 (no_fault _ _ h); scratch = tt; jump = tt; load = tt }
row_fine len place LoadScratch ins h = record { constant = tt; scratch = ltb-true ins.k 16 (no_fault _ _ h); jump = tt; load = tt }
row_fine len place IndexScratch ins h = record { constant = tt; scratch = ltb-true ins.k 16 (no_fault _ _ h); jump = tt; load = tt }
row_fine len place StoreA ins h = record { constant = tt; scratch = ltb-true ins.k 16 (no_fault _ _ h); jump = tt; load = tt }
row_fine len place StoreX ins h = record { constant = tt; scratch = ltb-true ins.k 16 (no_fault _ _ h); jump = tt; load = tt }
row_fine len place Ja ins h = record { constant = tt; scratch = tt; jump = ltb-true _ len (no_fault _ _ h); load = tt }
row_fine len place (Branch test operand) ins h =
    let both = and_parts _ _ (no_fault (Jump place) (ltb (place + 1 + ins.jt) len && ltb (place + 1 + ins.jf) len) h) in
    record { constant = tt; scratch = tt; jump = (ltb-true _ len both.0, ltb-true _ len both.1); load = tt }
row_fine len place (LoadImage width) ins h = record { constant = tt; scratch = tt; jump = tt; load = ltb-true ins.k _ (no_fault _ _ h) }
row_fine len place _ ins h = record { constant = tt; scratch = tt; jump = tt; load = tt }

-- ---- the instruction at a place

pub At_in : (program : List Ins) (place : ℕ) (ins : Ins) (op : Op) (P : Op → Ins → Type 0) → slice_get program place ≡ Some ins → op_of ins.code ≡ Some op → P op ins → At program place P
At_in program place ins op P at row h = rw (at, row) h

pub At_out : (program : List Ins) (place : ℕ) (ins : Ins) (op : Op) (P : Op → Ins → Type 0) → slice_get program place ≡ Some ins → op_of ins.code ≡ Some op → At program place P → P op ins
At_out program place ins op P at row h = rw (at, row) at h

pub some_out : {T : Type 0} (C : Type 0) (o : Option T) (P : T → Type 0) → IsSomeAnd o P → ((x : T) → o ≡ Some x → P x → C) → C
some_out C None P h go = absurd h
some_out C (Some x) P h go = go x refl h

pub at_row : (C : Type 0) (program : List Ins) (place : ℕ) (P : Op → Ins → Type 0) → At program place P → ((ins : Ins) (op : Op) → slice_get program place ≡ Some ins → op_of ins.code ≡ Some op → P op ins → C) → C
at_row C program place P h go =
    some_out C (slice_get program place) (λ ins. IsSomeAnd (op_of ins.code) (λ op. P op ins)) h (λ ins at g. some_out C (op_of ins.code) (λ op. P op ins) g (λ op row p. go ins op at row p))

code_row : (len place : ℕ) (ins : Ins) (o : Option Op) → code_fault len place ins o ≡ None → IsSomeAnd o (λ op. IsFine len place op ins)
code_row len place ins None h = cc
code_row len place ins (Some op) h = row_fine len place op ins h

-- an instruction without a fault has a row and is fine
pub fine_row : (len place : ℕ) (ins : Ins) → own_fault len place ins ≡ None → IsSomeAnd (op_of ins.code) (λ op. IsFine len place op ins)
fine_row len place ins h = code_row len place ins (op_of ins.code) h

-- a jump of a fine instruction, and the next place of one that goes on, are inside
pub below_next : (len place : ℕ) → (place + 1 ≡ len → ⊥) → place < len → len ≤ 4096 → place + 1 < 4096
below_next len place not_last inside few = omega arith

some_same : (a b : Ins) → Some a ≡ Some b → a ≡ b
some_same a b h = cc

pub fine_more : (program : List Ins) (i : ℕ) (default : Ins) → FineBefore program i → i < length program → own_fault (length program) i (get_or program i default) ≡ None → FineBefore program (i + 1)
fine_more program i default before inside none place ins low at =
    elim (cases_lt place i) [
      | inl lower ↦ before place ins lower at
      | inr high ↦ (
          let e : place ≡ i = omega arith in
          let same : get_or program i default ≡ ins = some_same _ _ (sym (slice_get-get_or program i default inside) ∙ rw e at at) in
          rw (e, ← same) none)
    ]
