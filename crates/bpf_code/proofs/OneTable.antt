-- A code belongs to one row, and a row has one code.
use Rattle.std.proofs.Common.{◌≡◌, ◌↔◌, ℕ, Bool, true, List, [], ◌∷◌, Some, inl, inr, refl, ap, ◌∙◌}
use Rattle.std.specs.Prelude.{◌==◌}
use Rattle.std.specs.List.{find}
use Rattle.std.proofs.lemmas.Bool.{cases_Bool, eqb-true}
use Rattle.bpf_code.specs.declared.operation.Op.{Op}
use Rattle.bpf_code.specs.declared.operation.Op.TheVariants.{LoadImage, LoadIndexed, Compute, Branch}
use Rattle.bpf_code.specs.declared.operation.Width.TheVariants.{Word}
use Rattle.bpf_code.specs.declared.operation.Operand.TheVariants.{Constant, Index}
use Rattle.bpf_code.specs.declared.operation.Arithmetic.TheVariants.{Add}
use Rattle.bpf_code.specs.declared.operation.Test.TheVariants.{Equal}
use Rattle.bpf_code.specs.Table.{op_of, code_of, operations}

-- the code of a row has that row
pub row_of_code : (op : Op) → op_of (code_of op) ≡ Some op
row_of_code (LoadImage Word) = refl
row_of_code (LoadImage _) = refl
row_of_code (LoadIndexed Word) = refl
row_of_code (LoadIndexed _) = refl
row_of_code (Compute Add Constant) = refl
row_of_code (Compute _ Constant) = refl
row_of_code (Compute Add Index) = refl
row_of_code (Compute _ Index) = refl
row_of_code (Branch Equal Constant) = refl
row_of_code (Branch _ Constant) = refl
row_of_code (Branch Equal Index) = refl
row_of_code (Branch _ Index) = refl
row_of_code _ = refl

-- what a search finds passes its test
find_passes : {X : Type 0} (p : X → Bool) (xs : List X) (x : X) → find p xs ≡ Some x → p x ≡ true
find_passes p [] x h = cc
find_passes p (y ∷ ys) x h = elim (cases_Bool (p y)) [
  | inl e ↦ (let same = rw e at h in cc)
  | inr e ↦ find_passes p ys x (rw e at h)
]

pub one_row : (code : ℕ) (op : Op) → (op_of code ≡ Some op) ↔ (code ≡ code_of op)
one_row code op = (λ h. eqb-true code (code_of op) (find_passes (λ row. code == code_of row) operations op h), λ e. ap op_of e ∙ row_of_code op)
