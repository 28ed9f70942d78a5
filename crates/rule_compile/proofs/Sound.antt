-- Programs under way stay sound: an instruction in front keeps what makes them well made.
use Rattle.std.proofs.Common.{◌≡◌, ℕ, zero, suc, ◌-◌, ◌<◌, List, ◌∷◌, length, Option, Some, None, refl, subst, arith}
use Rattle.std.specs.Option.{IsSomeAnd}
use Rattle.std.specs.List.{slice_get}
use Rattle.bpf_code.specs.declared.instruction.Ins.{Ins}
use Rattle.bpf_code.specs.declared.operation.Op.{Op}
use Rattle.bpf_code.specs.declared.operation.Op.TheVariants.{LoadImage, LoadIndexed, IndexFromA, ReturnConstant, Jump, Branch}
use Rattle.bpf_code.specs.declared.operation.Operand.TheVariants.{Constant}
use Rattle.bpf_code.specs.declared.operation.Test.{Test}
use Rattle.bpf_code.specs.Table.{op_of}
use Rattle.bpf_code.proofs.OneTable.{row_of_code}
use Rattle.bpf_code.specs.Flow.{At, Reads}
use Rattle.bpf_code.specs.Program.{IsJumpFine, IsFine, IsReturn}
use Rattle.jump_islands.specs.Source.{AreWellMade}
use Rattle.rule_compile.specs.Code.{plain, branch}
use Rattle.rule_compile.specs.Sound.{IsSound, IsOfPiece}

some_map : {A : Type 0} (o : Option A) (P Q : A → Type 0) → ((x : A) → P x → Q x) → IsSomeAnd o P → IsSomeAnd o Q
some_map None P Q each h = h
some_map (Some x) P Q each h = each x h

at_map : (code : List Ins) (place : ℕ) (P Q : Op → Ins → Type 0) → ((op : Op) (ins : Ins) → P op ins → Q op ins) → At code place P → At code place Q
at_map code place P Q each h =
    some_map (slice_get code place) _ _ (λ (ins : Ins) here. some_map (op_of ins.code) (λ op. P op ins) (λ op. Q op ins) (λ op p. each op ins p) here) h

jump_moved : (op : Op) (ins : Ins) (len place : ℕ) → IsJumpFine len place op ins → IsJumpFine (suc len) (suc place) op ins
jump_moved Jump ins len place h = omega arith
jump_moved (Branch test operand) ins len place h = (omega arith, omega arith)
jump_moved _ ins len place h = tt

fine_moved : (len place : ℕ) (op : Op) (ins : Ins) → IsFine len place op ins → IsFine (suc len) (suc place) op ins
fine_moved len place op ins h = record {
  constant = h.constant;
  scratch = h.scratch;
  jump = jump_moved op ins len place h.jump;
  load = h.load;
}

-- an instruction that is fine where it stands, and reads no scratch word
pub in_front : (ins : Ins) (op : Op) (rest : List Ins) → op_of ins.code ≡ Some op → IsFine (length (ins ∷ rest)) 0 op ins → ((k : ℕ) → Reads k op ins → ⊥) → IsSound rest → IsSound (ins ∷ rest)
in_front ins op rest row fine none s = record {
  some = omega arith;
  fine = fine_at;
  last = (let e : suc (length rest - 1) ≡ length (ins ∷ rest) - 1 = omega (arith, s.some) in subst (λ (i : ℕ). At (ins ∷ rest) i IsReturn) e s.last);
  quiet = quiet_at;
}
  where
    fine_at : (place : ℕ) → place < length (ins ∷ rest) → At (ins ∷ rest) place (IsFine (length (ins ∷ rest)) place)
    fine_at zero inside = rw row fine
    fine_at (suc p) inside = at_map rest p (IsFine (length rest) p) (IsFine (length (ins ∷ rest)) (suc p)) (fine_moved (length rest) p) (s.fine p (omega arith))

    quiet_at : (place k : ℕ) → At (ins ∷ rest) place (Reads k) → ⊥
    quiet_at zero k h = none k (rw row at h)
    quiet_at (suc p) k h = s.quiet p k h

-- ---- single instructions

pub plain_sound : (op : Op) (k : ℕ) (rest : List Ins) → IsOfPiece op k → IsSound rest → IsSound (plain op k ∷ rest)
plain_sound (LoadImage width) k rest small s = in_front _ _ rest (row_of_code (LoadImage width)) (record { constant = tt; scratch = tt; jump = tt; load = small }) (λ j h. h) s
plain_sound (LoadIndexed width) k rest is s = in_front _ _ rest (row_of_code (LoadIndexed width)) (record { constant = tt; scratch = tt; jump = tt; load = tt }) (λ j h. h) s
plain_sound IndexFromA k rest is s = in_front (plain IndexFromA k) IndexFromA rest refl (record { constant = tt; scratch = tt; jump = tt; load = tt }) (λ j h. h) s
plain_sound ReturnConstant k rest is s = in_front (plain ReturnConstant k) ReturnConstant rest refl (record { constant = tt; scratch = tt; jump = tt; load = tt }) (λ j h. h) s
plain_sound _ k rest none s = absurd none

pub branch_sound : (test : Test) (k hit miss : ℕ) (rest : List Ins) → hit < length rest → miss < length rest → IsSound rest → IsSound (branch test k hit miss ∷ rest)
branch_sound test k hit miss rest h m s =
    in_front (branch test k hit miss) _ rest (row_of_code (Branch test Constant)) (record { constant = tt; scratch = tt; jump = (omega arith, omega arith); load = tt }) (λ k h. h) s

pub well_made : (code : List Ins) → IsSound code → AreWellMade code
well_made code s = record { some = s.some; fine = s.fine; last = s.last; stored = λ place earlier k path reads. absurd (s.quiet place k reads) }
