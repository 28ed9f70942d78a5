-- The pieces that compare bytes, by how many bytes there are.
use Rattle.std.proofs.Common.{◌≡◌, ℕ, ◌+◌, ◌-◌, ◌/◌, ◌≤◌, List, [], ◌∷◌, length, get_or, refl, ap, ◌∙◌, arith}
use Rattle.bpf_code.specs.declared.instruction.Ins.{Ins}
use Rattle.bpf_code.specs.declared.operation.Width.TheVariants.{Half, Byte}
use Rattle.bpf_code.specs.declared.operation.Test.TheVariants.{Equal}
use Rattle.rule_compile.specs.Code.{load_indexed, want, half_number, same_word, same_words, same_bytes}

pub same_none : (at : ℕ) (value : List ℕ) (rest : List Ins) → length value ≡ 0 → same_bytes at value rest ≡ rest
same_none at [] rest e = refl
same_none at (a ∷ value) rest e = absurd (omega (arith, e))

pub same_one : (at : ℕ) (value : List ℕ) (rest : List Ins) → length value ≡ 1 → same_bytes at value rest ≡ load_indexed Byte at ∷ want Equal (get_or value 0 0) rest
same_one at (a ∷ []) rest e = refl
same_one at value rest e = absurd (omega (arith, e))

pub same_two : (at : ℕ) (value : List ℕ) (rest : List Ins) → length value ≡ 2 → same_bytes at value rest ≡ load_indexed Half at ∷ want Equal (half_number (get_or value 0 0) (get_or value 1 0)) rest
same_two at (a ∷ b ∷ []) rest e = refl
same_two at value rest e = absurd (omega (arith, e))

pub same_three : (at : ℕ) (value : List ℕ) (rest : List Ins) → length value ≡ 3 → same_bytes at value rest ≡ load_indexed Half at ∷ want Equal (half_number (get_or value 0 0) (get_or value 1 0)) (load_indexed Byte (at + 2) ∷ want Equal (get_or value 2 0) rest)
same_three at (a ∷ b ∷ c ∷ []) rest e = refl
same_three at value rest e = absurd (omega (arith, e))

-- the last four of them, and the words before those
pub same_many : (at : ℕ) (value : List ℕ) (rest : List Ins) → 4 ≤ length value → same_bytes at value rest ≡ same_word at value (length value - 4) (same_words at value ((length value - 1) / 4) rest)
same_many at (a ∷ b ∷ c ∷ d ∷ more) rest e =
    let value = a ∷ b ∷ c ∷ d ∷ more in
    let last : length more ≡ length value - 4 = omega arith in
    let front : length more + 3 ≡ length value - 1 = omega arith in
    ap (λ (i : ℕ). same_word at value i (same_words at value ((length more + 3) / 4) rest)) last ∙ ap (λ (n : ℕ). same_word at value (length value - 4) (same_words at value (n / 4) rest)) front
same_many at value rest e = absurd (omega (arith, e))
