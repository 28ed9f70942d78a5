use Rattle.std.proofs.Common.{rules, refl, ◌≡◌, ◌<◌, ℕ, true, false, List, [], ◌∷◌, sym, ◌∙◌, eqb, inl, inr, ap, subst, arith}
use Rattle.std.proofs.Math.Dec.{leb}
use Rattle.std.specs.List.{list_any}
use Rattle.std.proofs.lemmas.Bool.{leb-false, eqb-true, or_parts, or_cases}
use Rattle.std.proofs.lemmas.Iterator.Search.{any_from_yields_List}
use Rattle.std.proofs.lemmas.Iterator.Consumers.{YieldsList-from_first}
use Rattle.entry_table.specs.PlaceLists.{has_place}
use Rattle.entry_table.specs.ShapeCounts.{is_in_use}
use Rattle.entry_table.proofs.shapes.Shapes.has_arg0.Goals as goal

-- where none of the shapes is from 32 on, each is below
low : (shapes : List ℕ) → list_any (leb 32) shapes ≡ false → (shape : ℕ) → has_place shape shapes ≡ true → shape < 32
low [] none shape there = cc
low (first ∷ shapes) none shape there =
    let parts = or_parts (leb 32 first) (list_any (leb 32) shapes) none in
    elim (or_cases (eqb shape first) (has_place shape shapes) there) [
      | inl is ↦ omega (arith, eqb-true shape first is, leb-false 32 first parts.0)
      | inr later ↦ low shapes parts.1 shape later
    ]

pub returns : goal.returns
returns c = λ none shape used.
    let found : c.any.result ≡ list_any (leb 32) c.walk.result = any_from_yields_List (leb 32) c.any.new.self _ c.any.result c.any.ensures.ran (YieldsList-from_first (λ x. x) (λ (s : List ℕ). s) c.walk.result refl) (λ x b q k. search rules) in
    low c.walk.result (sym found ∙ none) shape (ap (has_place shape) c.walk.ensures.value ∙ c.self.invariant.same shape ∙ subst (λ counts. is_in_use shape counts ≡ true) (sym c.self.view_is) used)
