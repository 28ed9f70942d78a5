-- A program does the same, and is accepted as before, with 0 in each field that its rows don't use.
use Rattle.std.proofs.Common.{◌≡◌, ℕ, zero, suc, ◌-◌, false, List, [], ◌∷◌, length, Option, Some, None, refl, ap}
use Rattle.std.specs.Option.{IsSomeAnd, option_map, option_map_or, option_and_then}
use Rattle.std.specs.List.{slice_get}
use Rattle.std.proofs.lemmas.Option.{slice_get-map}
use Rattle.bpf_code.specs.declared.instruction.Ins.{Ins}
use Rattle.bpf_code.specs.declared.operation.Op.{Op}
use Rattle.bpf_code.specs.declared.operation.Op.TheVariants.{LoadConstant, LoadImage, LoadIndexed, LoadScratch, LoadLength, IndexConstant, IndexScratch, IndexLength, IndexHeader, StoreA, StoreX, Compute, Negate, Jump, Branch, ReturnConstant, ReturnA, IndexFromA, LoadFromX}
use Rattle.bpf_code.specs.declared.operation.Operand.TheVariants.{Constant, Index}
use Rattle.bpf_code.specs.declared.operation.Arithmetic.TheVariants.{Add, Sub, Mul, Div, Or, And, ShiftLeft, ShiftRight, Mod, Xor}
use Rattle.bpf_code.specs.Table.{op_of}
use Rattle.bpf_code.specs.Flow.{At, Leads, IsPath, Reads, stores, stores_at, stored_on}
use Rattle.bpf_code.specs.Program.{IsConstantFine, IsScratchFine, IsJumpFine, IsLoadFine, IsFine, IsReturn, WellFormed}
use Rattle.bpf_code.specs.Effects.{SetA, or_finish, result_of, index_operand, effect_of}
use Rattle.bpf_code.specs.Steps.{State, start, Next, Goes, Stops, after, step_at, step_of, Arrives, EndsFrom, Ends}
use Rattle.bpf_text.specs.Used.{used_of, with_unused_zero_in, with_unused_zero}

-- What the definitions ask of an instruction, asked of it as its row uses it.
record Alike (op : Op) (ins used : Ins) : Type 0 where
  constant : IsConstantFine op ins → IsConstantFine op used
  scratch : IsScratchFine op ins → IsScratchFine op used
  jump : (len place : ℕ) → IsJumpFine len place op ins → IsJumpFine len place op used
  load : IsLoadFine op ins → IsLoadFine op used
  return : IsReturn op ins → IsReturn op used
  leads : (place next : ℕ) → Leads place next op used → Leads place next op ins
  reads : (k : ℕ) → Reads k op used → Reads k op ins
  stored : (k : ℕ) → stores k op ins ≡ stores k op used

alike : (op : Op) (ins : Ins) → Alike op ins (used_of ins (Some op))
alike LoadConstant ins = record { constant = λ h. h; scratch = λ h. h; jump = λ len place h. h; load = λ h. h; return = λ h. h; leads = λ place next h. h; reads = λ k h. h; stored = λ k. refl }
alike (LoadImage width) ins = record { constant = λ h. h; scratch = λ h. h; jump = λ len place h. h; load = λ h. h; return = λ h. h; leads = λ place next h. h; reads = λ k h. h; stored = λ k. refl }
alike (LoadIndexed width) ins = record { constant = λ h. h; scratch = λ h. h; jump = λ len place h. h; load = λ h. h; return = λ h. h; leads = λ place next h. h; reads = λ k h. h; stored = λ k. refl }
alike LoadScratch ins = record { constant = λ h. h; scratch = λ h. h; jump = λ len place h. h; load = λ h. h; return = λ h. h; leads = λ place next h. h; reads = λ k h. h; stored = λ k. refl }
alike LoadLength ins = record { constant = λ h. h; scratch = λ h. h; jump = λ len place h. h; load = λ h. h; return = λ h. h; leads = λ place next h. h; reads = λ k h. h; stored = λ k. refl }
alike IndexConstant ins = record { constant = λ h. h; scratch = λ h. h; jump = λ len place h. h; load = λ h. h; return = λ h. h; leads = λ place next h. h; reads = λ k h. h; stored = λ k. refl }
alike IndexScratch ins = record { constant = λ h. h; scratch = λ h. h; jump = λ len place h. h; load = λ h. h; return = λ h. h; leads = λ place next h. h; reads = λ k h. h; stored = λ k. refl }
alike IndexLength ins = record { constant = λ h. h; scratch = λ h. h; jump = λ len place h. h; load = λ h. h; return = λ h. h; leads = λ place next h. h; reads = λ k h. h; stored = λ k. refl }
alike IndexHeader ins = record { constant = λ h. h; scratch = λ h. h; jump = λ len place h. h; load = λ h. h; return = λ h. h; leads = λ place next h. h; reads = λ k h. h; stored = λ k. refl }
alike StoreA ins = record { constant = λ h. h; scratch = λ h. h; jump = λ len place h. h; load = λ h. h; return = λ h. h; leads = λ place next h. h; reads = λ k h. h; stored = λ k. refl }
alike StoreX ins = record { constant = λ h. h; scratch = λ h. h; jump = λ len place h. h; load = λ h. h; return = λ h. h; leads = λ place next h. h; reads = λ k h. h; stored = λ k. refl }
alike (Compute Add Constant) ins = record { constant = λ h. h; scratch = λ h. h; jump = λ len place h. h; load = λ h. h; return = λ h. h; leads = λ place next h. h; reads = λ k h. h; stored = λ k. refl }
alike (Compute Sub Constant) ins = record { constant = λ h. h; scratch = λ h. h; jump = λ len place h. h; load = λ h. h; return = λ h. h; leads = λ place next h. h; reads = λ k h. h; stored = λ k. refl }
alike (Compute Mul Constant) ins = record { constant = λ h. h; scratch = λ h. h; jump = λ len place h. h; load = λ h. h; return = λ h. h; leads = λ place next h. h; reads = λ k h. h; stored = λ k. refl }
alike (Compute Div Constant) ins = record { constant = λ h. h; scratch = λ h. h; jump = λ len place h. h; load = λ h. h; return = λ h. h; leads = λ place next h. h; reads = λ k h. h; stored = λ k. refl }
alike (Compute Or Constant) ins = record { constant = λ h. h; scratch = λ h. h; jump = λ len place h. h; load = λ h. h; return = λ h. h; leads = λ place next h. h; reads = λ k h. h; stored = λ k. refl }
alike (Compute And Constant) ins = record { constant = λ h. h; scratch = λ h. h; jump = λ len place h. h; load = λ h. h; return = λ h. h; leads = λ place next h. h; reads = λ k h. h; stored = λ k. refl }
alike (Compute ShiftLeft Constant) ins = record { constant = λ h. h; scratch = λ h. h; jump = λ len place h. h; load = λ h. h; return = λ h. h; leads = λ place next h. h; reads = λ k h. h; stored = λ k. refl }
alike (Compute ShiftRight Constant) ins = record { constant = λ h. h; scratch = λ h. h; jump = λ len place h. h; load = λ h. h; return = λ h. h; leads = λ place next h. h; reads = λ k h. h; stored = λ k. refl }
alike (Compute Mod Constant) ins = record { constant = λ h. h; scratch = λ h. h; jump = λ len place h. h; load = λ h. h; return = λ h. h; leads = λ place next h. h; reads = λ k h. h; stored = λ k. refl }
alike (Compute Xor Constant) ins = record { constant = λ h. h; scratch = λ h. h; jump = λ len place h. h; load = λ h. h; return = λ h. h; leads = λ place next h. h; reads = λ k h. h; stored = λ k. refl }
alike (Compute Add Index) ins = record { constant = λ h. h; scratch = λ h. h; jump = λ len place h. h; load = λ h. h; return = λ h. h; leads = λ place next h. h; reads = λ k h. h; stored = λ k. refl }
alike (Compute Sub Index) ins = record { constant = λ h. h; scratch = λ h. h; jump = λ len place h. h; load = λ h. h; return = λ h. h; leads = λ place next h. h; reads = λ k h. h; stored = λ k. refl }
alike (Compute Mul Index) ins = record { constant = λ h. h; scratch = λ h. h; jump = λ len place h. h; load = λ h. h; return = λ h. h; leads = λ place next h. h; reads = λ k h. h; stored = λ k. refl }
alike (Compute Div Index) ins = record { constant = λ h. h; scratch = λ h. h; jump = λ len place h. h; load = λ h. h; return = λ h. h; leads = λ place next h. h; reads = λ k h. h; stored = λ k. refl }
alike (Compute Or Index) ins = record { constant = λ h. h; scratch = λ h. h; jump = λ len place h. h; load = λ h. h; return = λ h. h; leads = λ place next h. h; reads = λ k h. h; stored = λ k. refl }
alike (Compute And Index) ins = record { constant = λ h. h; scratch = λ h. h; jump = λ len place h. h; load = λ h. h; return = λ h. h; leads = λ place next h. h; reads = λ k h. h; stored = λ k. refl }
alike (Compute ShiftLeft Index) ins = record { constant = λ h. h; scratch = λ h. h; jump = λ len place h. h; load = λ h. h; return = λ h. h; leads = λ place next h. h; reads = λ k h. h; stored = λ k. refl }
alike (Compute ShiftRight Index) ins = record { constant = λ h. h; scratch = λ h. h; jump = λ len place h. h; load = λ h. h; return = λ h. h; leads = λ place next h. h; reads = λ k h. h; stored = λ k. refl }
alike (Compute Mod Index) ins = record { constant = λ h. h; scratch = λ h. h; jump = λ len place h. h; load = λ h. h; return = λ h. h; leads = λ place next h. h; reads = λ k h. h; stored = λ k. refl }
alike (Compute Xor Index) ins = record { constant = λ h. h; scratch = λ h. h; jump = λ len place h. h; load = λ h. h; return = λ h. h; leads = λ place next h. h; reads = λ k h. h; stored = λ k. refl }
alike Negate ins = record { constant = λ h. h; scratch = λ h. h; jump = λ len place h. h; load = λ h. h; return = λ h. h; leads = λ place next h. h; reads = λ k h. h; stored = λ k. refl }
alike Jump ins = record { constant = λ h. h; scratch = λ h. h; jump = λ len place h. h; load = λ h. h; return = λ h. h; leads = λ place next h. h; reads = λ k h. h; stored = λ k. refl }
alike (Branch test Constant) ins = record { constant = λ h. h; scratch = λ h. h; jump = λ len place h. h; load = λ h. h; return = λ h. h; leads = λ place next h. h; reads = λ k h. h; stored = λ k. refl }
alike (Branch test Index) ins = record { constant = λ h. h; scratch = λ h. h; jump = λ len place h. h; load = λ h. h; return = λ h. h; leads = λ place next h. h; reads = λ k h. h; stored = λ k. refl }
alike ReturnConstant ins = record { constant = λ h. h; scratch = λ h. h; jump = λ len place h. h; load = λ h. h; return = λ h. h; leads = λ place next h. h; reads = λ k h. h; stored = λ k. refl }
alike ReturnA ins = record { constant = λ h. h; scratch = λ h. h; jump = λ len place h. h; load = λ h. h; return = λ h. h; leads = λ place next h. h; reads = λ k h. h; stored = λ k. refl }
alike IndexFromA ins = record { constant = λ h. h; scratch = λ h. h; jump = λ len place h. h; load = λ h. h; return = λ h. h; leads = λ place next h. h; reads = λ k h. h; stored = λ k. refl }
alike LoadFromX ins = record { constant = λ h. h; scratch = λ h. h; jump = λ len place h. h; load = λ h. h; return = λ h. h; leads = λ place next h. h; reads = λ k h. h; stored = λ k. refl }

-- a place doesn't matter where a row sets A or ends
after_or_finish : (s : State) (k j : ℕ) (o : Option ℕ) → after s k (or_finish SetA o) ≡ after s j (or_finish SetA o)
after_or_finish s k j None = refl
after_or_finish s k j (Some v) = refl

-- what an instruction leads to
abbrev next_of : Op → Ins → List ℕ → State → Option Next
next_of op ins image s = option_map (after s ins.k) (effect_of op ins image s.a s.x (s.words ins.k))

same_step : (op : Op) (ins : Ins) (image : List ℕ) (s : State) → next_of op (used_of ins (Some op)) image s ≡ next_of op ins image s
same_step LoadConstant ins image s = refl
same_step (LoadImage width) ins image s = refl
same_step (LoadIndexed width) ins image s = refl
same_step LoadScratch ins image s = refl
same_step LoadLength ins image s = refl
same_step IndexConstant ins image s = refl
same_step IndexScratch ins image s = refl
same_step IndexLength ins image s = refl
same_step IndexHeader ins image s = refl
same_step StoreA ins image s = refl
same_step StoreX ins image s = refl
same_step (Compute arithmetic Constant) ins image s = refl
same_step (Compute arithmetic Index) ins image s = ap Some (after_or_finish s 0 ins.k (result_of arithmetic s.a (index_operand arithmetic s.x)))
same_step Negate ins image s = refl
same_step Jump ins image s = refl
same_step (Branch test Constant) ins image s = refl
same_step (Branch test Index) ins image s = refl
same_step ReturnConstant ins image s = refl
same_step ReturnA ins image s = refl
same_step IndexFromA ins image s = refl
same_step LoadFromX ins image s = refl

same_step_at : (ins : Ins) (row : Option Op) (image : List ℕ) (s : State) → op_of ins.code ≡ row → step_at (used_of ins row) image s ≡ step_at ins image s
same_step_at ins None image s is = refl
same_step_at ins (Some op) image s is = rw is (same_step op ins image s)

same_step_in : (found : Option Ins) (image : List ℕ) (s : State) → option_and_then (λ ins. step_at ins image s) (option_map with_unused_zero_in found) ≡ option_and_then (λ ins. step_at ins image s) found
same_step_in None image s = refl
same_step_in (Some ins) image s = same_step_at ins (op_of ins.code) image s refl

same_step_of : (program : List Ins) (image : List ℕ) (s : State) → step_of (with_unused_zero program) image s ≡ step_of program image s
same_step_of program image s = rw (slice_get-map with_unused_zero_in program s.place) (same_step_in (slice_get program s.place) image s)

some_to : {T : Type 0} (P Q : T → Type 0) (o : Option T) → ((x : T) → P x → Q x) → IsSomeAnd o P → IsSomeAnd o Q
some_to P Q None to h = absurd h
some_to P Q (Some x) to h = to x h

arrives_to : (next : Next) (v n : ℕ) (P Q : State → Type 0) → ((s : State) → P s → Q s) → Arrives next v n P → Arrives next v n Q
arrives_to (Goes s) v n P Q to h = to s h
arrives_to (Stops w) v n P Q to h = h

ends_from : (program : List Ins) (image : List ℕ) (v n : ℕ) (s : State) → EndsFrom (with_unused_zero program) image v n s → EndsFrom program image v n s
ends_from program image v zero s h = absurd h
ends_from program image v (suc n) s h =
    some_to (λ next. Arrives next v n (EndsFrom (with_unused_zero program) image v n)) (λ next. Arrives next v n (EndsFrom program image v n)) (step_of program image s)
    (λ next. arrives_to next v n (EndsFrom (with_unused_zero program) image v n) (EndsFrom program image v n) (λ s. ends_from program image v n s))
    (rw same_step_of at h)

-- it ends as before
pub ends_as_before : (program : List Ins) (image : List ℕ) (v n : ℕ) → Ends (with_unused_zero program) image v n → Ends program image v n
ends_as_before program image v n h = ends_from program image v n start h

-- ---- what is asked of its places

abbrev AtIn : Option Ins → (Op → Ins → Type 0) → Type 0
AtIn found P = IsSomeAnd found (λ ins. IsSomeAnd (op_of ins.code) (λ op. P op ins))

to_row : (ins : Ins) (row : Option Op) (P Q : Op → Ins → Type 0) → op_of ins.code ≡ row → ((op : Op) (ins : Ins) → P op ins → Q op (used_of ins (Some op))) → IsSomeAnd row (λ op. P op ins) → IsSomeAnd (op_of (used_of ins row).code) (λ op. Q op (used_of ins row))
to_row ins None P Q is to h = absurd h
to_row ins (Some op) P Q is to h = rw is (to op ins h)

to_found : (found : Option Ins) (P Q : Op → Ins → Type 0) → ((op : Op) (ins : Ins) → P op ins → Q op (used_of ins (Some op))) → AtIn found P → AtIn (option_map with_unused_zero_in found) Q
to_found None P Q to h = absurd h
to_found (Some ins) P Q to h = to_row ins (op_of ins.code) P Q refl to h

to_used : (program : List Ins) (place : ℕ) (P Q : Op → Ins → Type 0) → ((op : Op) (ins : Ins) → P op ins → Q op (used_of ins (Some op))) → At program place P → At (with_unused_zero program) place Q
to_used program place P Q to h = rw (slice_get-map with_unused_zero_in program place) (to_found (slice_get program place) P Q to h)

from_row : (ins : Ins) (row : Option Op) (P Q : Op → Ins → Type 0) → op_of ins.code ≡ row → ((op : Op) (ins : Ins) → P op (used_of ins (Some op)) → Q op ins) → IsSomeAnd (op_of (used_of ins row).code) (λ op. P op (used_of ins row)) → IsSomeAnd row (λ op. Q op ins)
from_row ins None P Q is from h = absurd (rw is at h)
from_row ins (Some op) P Q is from h = from op ins (rw is at h)

from_found : (found : Option Ins) (P Q : Op → Ins → Type 0) → ((op : Op) (ins : Ins) → P op (used_of ins (Some op)) → Q op ins) → AtIn (option_map with_unused_zero_in found) P → AtIn found Q
from_found None P Q from h = absurd h
from_found (Some ins) P Q from h = from_row ins (op_of ins.code) P Q refl from h

from_used : (program : List Ins) (place : ℕ) (P Q : Op → Ins → Type 0) → ((op : Op) (ins : Ins) → P op (used_of ins (Some op)) → Q op ins) → At (with_unused_zero program) place P → At program place Q
from_used program place P Q from h = from_found (slice_get program place) P Q from (rw (slice_get-map with_unused_zero_in program place) at h)

path_from : (program : List Ins) (place : ℕ) (earlier : List ℕ) → IsPath (with_unused_zero program) place earlier → IsPath program place earlier
path_from program place [] h = h
path_from program place (before ∷ earlier) h =
    (from_used program before (Leads before place) (Leads before place) (λ op ins. (alike op ins).leads before place) h.0, path_from program before earlier h.1)

stores_row : (ins : Ins) (row : Option Op) (k : ℕ) → op_of ins.code ≡ row → option_map_or (λ op. stores k op ins) row false ≡ option_map_or (λ op. stores k op (used_of ins row)) (op_of (used_of ins row).code) false
stores_row ins None k is = rw is refl
stores_row ins (Some op) k is = rw is ((alike op ins).stored k)

stores_found : (found : Option Ins) (k : ℕ) → option_map_or (λ ins. option_map_or (λ op. stores k op ins) (op_of ins.code) false) found false ≡ option_map_or (λ ins. option_map_or (λ op. stores k op ins) (op_of ins.code) false) (option_map with_unused_zero_in found) false
stores_found None k = refl
stores_found (Some ins) k = stores_row ins (op_of ins.code) k refl

stores_there : (program : List Ins) (k place : ℕ) → stores_at program k place ≡ stores_at (with_unused_zero program) k place
stores_there program k place = rw (slice_get-map with_unused_zero_in program place) (stores_found (slice_get program place) k)

stored_before : (program : List Ins) (k : ℕ) (earlier : List ℕ) → stored_on program k earlier ≡ stored_on (with_unused_zero program) k earlier
stored_before program k [] = refl
stored_before program k (place ∷ earlier) =
    let here = stores_there program k place in
    let rest = stored_before program k earlier in
    cc

fine_as_before : (len place : ℕ) (op : Op) (ins : Ins) → IsFine len place op ins → IsFine len place op (used_of ins (Some op))
fine_as_before len place op ins fine =
    let same = alike op ins in
    record { constant = same.constant fine.constant; scratch = same.scratch fine.scratch; jump = same.jump len place fine.jump; load = same.load fine.load }

same_length : (program : List Ins) → length (with_unused_zero program) ≡ length program
same_length [] = refl
same_length (ins ∷ rest) = ap suc (same_length rest)

-- it is accepted as before
pub accepted_as_before : (program : List Ins) → WellFormed program → WellFormed (with_unused_zero program)
accepted_as_before program fine =
    record {
      some = rw same_length fine.some;
      few = rw same_length fine.few;
      fine = λ place inside. rw same_length (to_used program place (IsFine (length program) place) (IsFine (length program) place) (fine_as_before (length program) place) (fine.fine place (rw same_length at inside)));
      last = rw same_length (to_used program (length program - 1) IsReturn IsReturn (λ op ins. (alike op ins).return) fine.last);
      stored = λ place earlier k path reads. rw (← stored_before program k earlier) (fine.stored place earlier k (path_from program place earlier path) (from_used program place (Reads k) (Reads k) (λ op ins. (alike op ins).reads k) reads));
    }
