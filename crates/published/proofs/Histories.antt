-- Histories, one command longer.
use Rattle.std.proofs.Common.{◌≡◌, ℕ, ◌+◌, ◌^◌, ◌<◌, Bool, true, false, List, [], ◌∷◌, ◌++◌, length, fold, refl, ap, ◌∙◌, arith}
use Rattle.std.specs.Prelude.{Result, Err, is_ok, nat_le, if◌then◌else◌}
use Rattle.std.proofs.lemmas.Bool.Decides.{nat_tests}
use Rattle.std.proofs.lemmas.Bool.{and_parts, and_from}
use Rattle.program_table.specs.declared.command.Command.{Command}
use Rattle.program_table.specs.declared.command.Command.TheVariants.{Limit, Connect, AddRule, RemoveRule, Attach, Detach, Request, Release, DropOne, Close}
use Rattle.program_table.specs.declared.command.Reply.{Reply}
use Rattle.program_table.specs.declared.refusal.Refusal.{Refusal}
use Rattle.program_table.specs.declared.refusal.Refusal.TheVariants.{Closed}
use Rattle.program_table.specs.State.{State, opening}
use Rattle.program_table.specs.Does.{max_commands, row, effect, is_accepted, next_of}
use Rattle.program_table.specs.History.{after, are_accepted, IsHistory}

not_full : (b : Bool) (r : Result Reply Refusal) → is_ok (if b then Err Closed else r) ≡ true → b ≡ false
not_full true r e = cc
not_full false r e = refl

below : (m n : ℕ) → nat_le m n ≡ false → n < m
below m n e = grind (arith, nat_tests)

module _ {M : Type 0} where
  -- what an accepted command leads to
  pub next-accepted : (s : State M) (c : Command M) → is_accepted s c ≡ true → next_of s c ≡ effect s c
  next-accepted s c h = ap (λ (b : Bool). if b then effect s c else s) h

  pub fold-append : (s : State M) (l r : List (Command M)) → fold next_of s (l ++ r) ≡ fold next_of (fold next_of s l) r
  fold-append s [] r = refl
  fold-append s (x ∷ xs) r = fold-append (next_of s x) xs r

  -- one more command is one more step
  pub after-push : (l : List (Command M)) (c : Command M) → after (l ++ c ∷ []) ≡ next_of (after l) c
  after-push l c = fold-append opening l (c ∷ [])

  accepted-push : (s : State M) (l : List (Command M)) (c : Command M) → are_accepted s l ≡ true → is_accepted (fold next_of s l) c ≡ true → are_accepted s (l ++ c ∷ []) ≡ true
  accepted-push s [] c h a = and_from (is_accepted s c) true a refl
  accepted-push s (x ∷ xs) c h a =
      let p = and_parts (is_accepted s x) (are_accepted (next_of s x) xs) h in
      and_from (is_accepted s x) (are_accepted (next_of s x) (xs ++ c ∷ [])) p.0 (accepted-push (next_of s x) xs c p.1 a)

  -- a history goes on with a command that is accepted after it
  pub history-push : (l : List (Command M)) (c : Command M) → IsHistory l → is_accepted (after l) c ≡ true → IsHistory (l ++ c ∷ [])
  history-push l c h a = accepted-push opening l c h a

  last-accepted : (s : State M) (l : List (Command M)) (c : Command M) → are_accepted s (l ++ c ∷ []) ≡ true → is_accepted (fold next_of s l) c ≡ true
  last-accepted s [] c h = (and_parts (is_accepted s c) true h).0
  last-accepted s (x ∷ xs) c h = last-accepted (next_of s x) xs c (and_parts (is_accepted s x) (are_accepted (next_of s x) (xs ++ c ∷ [])) h).1

  -- the last command of a history was accepted
  pub history-last : (l : List (Command M)) (c : Command M) → IsHistory (l ++ c ∷ []) → is_accepted (after l) c ≡ true
  history-last l c h = last-accepted opening l c h

  effect-commands : (s : State M) (c : Command M) → (effect s c).commands ≡ s.commands + 1
  effect-commands s (Limit most) = refl
  effect-commands s (Connect m) = refl
  effect-commands s (AddRule c compiled) = refl
  effect-commands s (RemoveRule c rule) = refl
  effect-commands s (Attach c attachment) = refl
  effect-commands s (Detach c id) = refl
  effect-commands s (Request c name flags) = refl
  effect-commands s (Release c name) = refl
  effect-commands s (DropOne c) = refl
  effect-commands s (Close c) = refl

  counted : (s : State M) (l : List (Command M)) → are_accepted s l ≡ true → (fold next_of s l).commands ≡ s.commands + length l
  counted s [] h = omega arith
  counted s (x ∷ xs) h =
      let p = and_parts (is_accepted s x) (are_accepted (next_of s x) xs) h in
      let rest = counted (next_of s x) xs p.1 in
      let here : (next_of s x).commands ≡ s.commands + 1 = ap (λ (t : State M). t.commands) (next-accepted s x p.0) ∙ effect-commands s x in
      omega (arith, rest, here)

  -- the count of the commands is the length of the history
  pub commands-after : (l : List (Command M)) → IsHistory l → (after l).commands ≡ length l
  commands-after l h = let all = counted opening l h in omega (arith, all)

  -- one more command can be counted where it is accepted
  pub accepted_room : (l : List (Command M)) (c : Command M) → IsHistory l → is_accepted (after l) c ≡ true → length l + 1 < 2 ^ 64
  accepted_room l c h a =
      let few : (after l).commands < max_commands = below max_commands (after l).commands (not_full (nat_le max_commands (after l).commands) (row (after l) c) a) in
      let e = commands-after l h in
      omega (arith, few, e)
