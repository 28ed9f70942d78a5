-- The slots of the names that a filter asks for.
use Rattle.std.proofs.Common.{◌≡◌, ◌<◌, ◌≤◌, ℕ, Bool, true, false, nat_lt, List, [], ◌∷◌, length, map, sym, ap, inl, inr, arith, ◌+◌, ◌∙◌, lt-ltb}
use Rattle.std.specs.Prelude.{◌==◌, ◌||◌}
use Rattle.std.specs.Str.{bytes_eq}
use Rattle.std.specs.Borrow.{Bor}
use Rattle.std.proofs.lemmas.List.{length-map}
use Rattle.std.proofs.lemmas.Bool.{cases_Bool, cases_lt, le-ltb}
use Rattle.std.proofs.lemmas.Bool.Decides.{eqb_tells}
use Rattle.filter.specs.FilterTree.{FilterTree}
use Rattle.filter_compile.specs.Compiled.{AgreeOn}
use Rattle.filter_compile.specs.Names.{has_name, names_of, slot_in}
use Rattle.summary.specs.Sets.{has_slot}

-- a name that is there has a slot below their number
slot_within : (names : List (List ℕ)) (name : List ℕ) → has_name names name ≡ true → slot_in names name < length names
slot_within [] name there = absurd (cc)
slot_within (other ∷ names) name there =
    elim (cases_Bool (bytes_eq other name)) [
      | inl same ↦ rw same (omega arith)
      | inr different ↦ let later = slot_within names name (rw different at there) in rw different (omega (arith, later))
    ]

pub agree_none : (tree : FilterTree) (slots : List ℕ) → ((slot : ℕ) → has_slot slots slot ≡ false) → AgreeOn tree (λ name. false) slots
agree_none tree slots none name there = sym (none (slot_in (names_of tree) name))

pub agree_first : (tree : FilterTree) (slots : List ℕ) (count : ℕ) → count ≡ length (names_of tree) → ((slot : ℕ) → has_slot slots slot ≡ nat_lt slot count) → AgreeOn tree (λ name. true) slots
agree_first tree slots count is has name there =
    let within : slot_in (names_of tree) name < count = rw is (slot_within (names_of tree) name there) in
    sym (has (slot_in (names_of tree) name) ∙ lt-ltb (slot_in (names_of tree) name) count within)

-- as many names as are lent
pub counted : (lent : List (Bor (List ℕ))) (names : List (List ℕ)) (tree : FilterTree) → map (λ name. name.now) lent ≡ names → names ≡ names_of tree → length lent ≡ length (names_of tree)
counted lent names tree are is = sym (length-map lent (λ (name : Bor (List ℕ)). name.now)) ∙ ap length (are ∙ is)

below_next : (slot next : ℕ) → ((slot == next) || nat_lt slot next) ≡ nat_lt slot (next + 1)
below_next slot next =
    elim (eqb_tells slot next) [
      | inl same ↦
          let within : slot < next + 1 = omega (arith, same.1) in
          rw same.0 (sym (lt-ltb slot (next + 1) within))
      | inr different ↦ elim (cases_lt slot next) [
        | inl less ↦
            let within : slot < next + 1 = omega (arith, less) in
            rw different.0 (lt-ltb slot next less ∙ sym (lt-ltb slot (next + 1) within))
        | inr not_less ↦ elim (cases_lt next slot) [
          | inl more ↦
              let outside : next + 1 ≤ slot = omega (arith, more) in
              rw different.0 (le-ltb slot next not_less ∙ sym (le-ltb slot (next + 1) outside))
          | inr not_more ↦
              let same : slot ≡ next = omega (arith, not_less, not_more) in
              absurd (different.1 same)
        ]
      ]
    ]

-- one slot more
pub one_more : (slots more : List ℕ) (next : ℕ) → ((slot : ℕ) → has_slot slots slot ≡ nat_lt slot next) → ((slot : ℕ) → has_slot more slot ≡ ((slot == next) || has_slot slots slot)) → (slot : ℕ) → has_slot more slot ≡ nat_lt slot (next + 1)
one_more slots more next first added slot =
    added slot ∙ ap (λ (b : Bool). (slot == next) || b) (first slot) ∙ below_next slot next
