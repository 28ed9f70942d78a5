-- What a pass has seen of its own commands, after one more of them or none.
use Rattle.std.proofs.Common.{◌≡◌, ◌≢◌, ℕ, ◌+◌, ◌<◌, ◌≤◌, Bool, true, false, List, [], ◌∷◌, ◌++◌, length, refl, sym, ap, ◌∙◌, subst, arith, length-append}
use Rattle.std.specs.Prelude.{if◌then◌else◌}
use mathlib.Core.List.{IsPrefix}
use Rattle.program_table.specs.declared.command.Command.{Command}
use Rattle.program_table.specs.declared.command.Reply.{Reply}
use Rattle.program_table.specs.Connections.{is_connected, commands_of}
use Rattle.program_table.specs.Does.{is_accepted, reply_to}
use Rattle.program_table.specs.History.{after, own_commands, is_command_of, IsHistory}
use Rattle.program_table.specs.State.{State}
use Rattle.published.specs.Publication.{Publication}
use Rattle.published.proofs.Counted.{commands-owned}
use Rattle.passes.specs.Passes.{PassState, HasTaken}
use Rattle.passes.specs.Calls.{IsDone, KeepsOwn}
use Rattle.passes.proofs.Owned.{own-push, own_grows, own_same}

module _ {M : Type 0} where
  -- where as many commands of a connection are counted as its pass took, they are those of the history
  pub counted : (c took : ℕ) (l : List (Command M)) → IsHistory l → 0 < took → commands_of c (after l).connections ≡ took → length (own_commands c l) ≡ took
  counted c took l legal some is = go (is_connected c (after l).connections) refl (sym (commands-owned l c legal) ∙ is)
    where
      go : (b : Bool) → is_connected c (after l).connections ≡ b → (if b then length (own_commands c l) else 0) ≡ took → length (own_commands c l) ≡ took
      go true there e = e
      go false there e = absurd (omega arith)

  -- one more command of the connection c, where the history has as many as the pass took
  pub done : (v : PassState M) (before : Publication M) (command : Command M) (reply : Reply) (w : PassState M) (next : Publication M)
      → IsPrefix v.seen before.history → is_accepted (after before.history) command ≡ true → reply ≡ reply_to (after before.history) command
      → v.took ≤ length (own_commands w.connection v.seen) → length (own_commands w.connection before.history) ≡ v.took
      → is_command_of (after before.history) w.connection command ≡ true
      → next.history ≡ before.history ++ command ∷ [] → w ≡ record v { seen = next.history; connection = w.connection; is_closed = w.is_closed; took = v.took + 1 }
      → IsDone v before command reply w next
  done v before command reply w next pre may said low count is more same_else =
      let c = w.connection in
      let seen : w.seen ≡ next.history = ap (λ (p : PassState M). p.seen) same_else in
      let took : w.took ≡ v.took + 1 = ap (λ (p : PassState M). p.took) same_else in
      let l = before.history in
      let e : own_commands c w.seen ≡ own_commands c l ++ command ∷ [] = ap (own_commands c) (seen ∙ more) ∙ own-push l c command is in
      let same : own_commands c l ≡ own_commands c v.seen = own_same v.seen l c pre (omega arith) in
      record {
        begins = pre;
        accepted = may;
        replies = said;
        published = more;
        same = same_else;
        own = e ∙ ap (λ (k : List (Command M)). k ++ command ∷ []) same;
        all = omega (arith, took, ap length e, length-append (own_commands c l) (command ∷ []));
      }

  -- the pass finds its own commands as they were
  pub keeps : (v w : PassState M) (l : List (Command M)) → IsPrefix v.seen l → v.took ≤ length (own_commands v.connection v.seen) → length (own_commands v.connection l) ≡ v.took
      → w.seen ≡ l → w.took ≡ v.took → KeepsOwn v w
  keeps v w l pre low count seen took =
      let c = v.connection in
      let same : own_commands c l ≡ own_commands c v.seen = own_same v.seen l c pre (omega arith) in
      record { own = ap (own_commands c) seen ∙ same; all = ap length (ap (own_commands c) seen) ∙ count ∙ sym took }

  -- a history that begins with what a pass has seen has no fewer of its commands
  pub still_taken : (v w : PassState M) → HasTaken v → IsPrefix v.seen w.seen → w.connection ≡ v.connection → w.took ≡ v.took → HasTaken w
  still_taken v w h pre same took =
      let more = own_grows v.seen w.seen v.connection pre in
      let e = ap (λ (c : ℕ). length (own_commands c w.seen)) same in
      let was = h.own in
      record {
        none = λ (z : w.connection ≡ 0). took ∙ h.none (sym same ∙ z);
        some = λ (z : w.connection ≢ 0). let k : 0 < v.took = h.some (λ (y : v.connection ≡ 0). z (same ∙ y)) in omega (arith, k, took);
        own = omega (arith, was, more, e, took);
      }

module _ {M : Type 0} where
  -- what holds of the state that was entered holds after the history that is seen then
  pub asked : (P : State M → Type 0) (seen l : List (Command M)) (w : PassState M) (s : State M) → IsPrefix seen l → s ≡ after l → w.seen ≡ l → P s → IsPrefix seen w.seen × P (after w.seen)
  asked P seen l w s begins state left holds =
      let Q : List (Command M) → Type 0 = λ x. IsPrefix seen x × P (after x) in
      subst Q (sym left) (begins, subst P state holds)
