-- The next entry of a history.
use Rattle.std.proofs.Common.{◌≡◌, ◌+◌, true, List, [], ◌∷◌, ◌++◌, length, ap, sym, subst, ◌∙◌, arith, length-append}
use mathlib.Core.List.{IsPrefix}
use Rattle.program_table.specs.declared.command.Command.{Command}
use Rattle.program_table.specs.State.{State}
use Rattle.program_table.specs.Does.{is_accepted, next_of}
use Rattle.program_table.specs.History.{after, IsHistory}
use Rattle.published.proofs.Fronts.{prefix_shorter, prefix_whole}
use Rattle.published.proofs.Histories.{after-push, history-last}

module _ {M : Type 0} where
  -- a history that ends with a command, is one command longer than s and begins with it, is s with that command
  pub next_one : (s e before : List (Command M)) (c : Command M) → e ≡ before ++ c ∷ [] → length s + 1 ≡ length e → IsPrefix s e → s ++ c ∷ [] ≡ e
  next_one s e before c is len pre =
      let ends : length e ≡ length before + 1 = omega (arith, ap length is, length-append before (c ∷ [])) in
      let here : IsPrefix before e = (c ∷ [], sym is) in
      let shorter : IsPrefix s before = prefix_shorter s before e pre here (omega arith) in
      let same : s ≡ before = prefix_whole s before shorter (omega arith) in
      ap (λ (l : List (Command M)). l ++ c ∷ []) same ∙ sym is

  -- the state after it
  pub after_next : (s e : List (Command M)) (c : Command M) (t u : State M) → s ++ c ∷ [] ≡ e → t ≡ after s → u ≡ next_of t c → u ≡ after e
  after_next s e c t u is at led = led ∙ ap (λ (x : State M). next_of x c) at ∙ sym (after-push s c) ∙ ap after is

  -- the command was accepted in the state before it
  pub last_accepted : (s e : List (Command M)) (c : Command M) (t : State M) → s ++ c ∷ [] ≡ e → IsHistory e → t ≡ after s → is_accepted t c ≡ true
  last_accepted s e c t is whole at =
      let here : IsHistory (s ++ c ∷ []) = subst (λ (l : List (Command M)). IsHistory l) (sym is) whole in
      subst (λ (x : State M). is_accepted x c ≡ true) (sym at) (history-last s c here)
