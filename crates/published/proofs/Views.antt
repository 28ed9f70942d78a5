-- Each step keeps the rule of the published history.
use Rattle.std.proofs.Common.{◌≡◌, ◌≢◌, ℕ, List, [], ◌∷◌, set, refl, subst, ⊎_elim}
use mathlib.Core.List.{IsPrefix}
use mathlib.Core.Option.{some}
use lib.ListN.{get_elem?}
use Rattle.crossbeam_utils.specs.Register.{Admits, TurnsAt, Forks, Merges}
use Rattle.atomic_table.proofs.Lists.{at_set, at_snoc, set_again}
use Rattle.program_table.specs.declared.command.Command.{Command}
use Rattle.published.specs.Publishing.{Keeps}
use Rattle.published.specs.Steps.{Shows}
use Rattle.published.proofs.Fronts.{prefix_self, prefix_trans}

module _ {M : Type 0} where
  -- a new reader has seen nothing
  pub admits : Admits (Keeps {M = M}) []
  admits log views h seat v at = ⊎_elim (h seat v) (λ (e : [] ≡ v). subst (λ (l : List (Command M)). IsPrefix l log) e (log, refl)) (at_snoc views [] v seat at)

  -- the writer begins with the empty history
  pub begins : (log : List (Command M)) → Keeps {M = M} log ([] ∷ [])
  begins log seat v at = ⊎_elim (λ (e : get_elem? [] seat ≡ some v). absurd (none seat v e)) (λ (e : [] ≡ v). subst (λ (l : List (Command M)). IsPrefix l log) e (log, refl)) (at_snoc [] [] v seat at)
    where
      none : (seat : ℕ) (v : List (Command M)) → get_elem? [] seat ≡ some v → ⊥
      none seat v e = cc

  -- a step that shows this history or a longer one
  pub shows : (seat : ℕ) (v x y : List (Command M)) → IsPrefix x y → TurnsAt (Keeps {M = M}) seat v x y Shows
  shows seat v x y up views h at = (
    y,
    (λ j u e. ⊎_elim
        (λ (t : (j ≡ seat) × (y ≡ u)). subst (λ (l : List (Command M)). IsPrefix l y) t.1 (prefix_self y))
        (λ (t : (j ≢ seat) × (get_elem? views j ≡ some u)). prefix_trans u x y (h j u t.1) up)
        (at_set views seat j y u e)),
    (prefix_trans v x y (h seat v at) up, refl),
  )

  -- the writer tells all that it has seen
  pub forks : (seat : ℕ) (v : List (Command M)) → Forks (Keeps {M = M}) seat v v v
  forks seat v log views h at j u e =
      ⊎_elim
      (λ (was : get_elem? (set views seat v) j ≡ some u). h j u (subst (λ l. get_elem? l j ≡ some u) (set_again views seat v at) was))
      (λ (same : v ≡ u). subst (λ (l : List (Command M)). IsPrefix l log) same (h seat v at))
      (at_snoc (set views seat v) v u j e)

  set_keeps : (log : List (Command M)) (views : List (List (Command M))) (seat : ℕ) (w : List (Command M)) → Keeps log views → IsPrefix w log → Keeps log (set views seat w)
  set_keeps log views seat w h pre j u e =
      ⊎_elim
      (λ (t : (j ≡ seat) × (w ≡ u)). subst (λ (l : List (Command M)). IsPrefix l log) t.1 pre)
      (λ (t : (j ≢ seat) × (get_elem? views j ≡ some u)). h j u t.1)
      (at_set views seat j w u e)

  -- a reader takes it over
  pub merges : (seat : ℕ) (v : List (Command M)) (other : ℕ) (w : List (Command M)) → Merges (Keeps {M = M}) seat v other w w []
  merges seat v other w log views h at apart there =
      let pre : IsPrefix w log =
      ⊎_elim
      (λ (t : (other ≡ seat) × (w ≡ w)). absurd (apart t.0))
      (λ (t : (other ≢ seat) × (get_elem? views other ≡ some w)). h other w t.1)
      (at_set views seat other w w there) in
      set_keeps log (set views seat w) other [] (set_keeps log views seat w h pre) (log, refl)
