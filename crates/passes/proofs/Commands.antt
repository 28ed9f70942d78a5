-- What a command of a pass's connection comes to.
use Rattle.std.proofs.Common.{◌≡◌, ℕ, ◌+◌, ◌^◌, ◌<◌, ◌≤◌, Bool, true, false, List, [], ◌∷◌, ◌++◌, length, refl, sym, ap, ◌∙◌, subst, arith, length-append}
use Rattle.std.specs.Prelude.{if◌then◌else◌}
use mathlib.Core.List.{IsPrefix}
use Rattle.program_table.specs.declared.command.Command.{Command}
use Rattle.program_table.specs.declared.command.Reply.{Reply}
use Rattle.program_table.specs.declared.command.Reply.TheVariants.{Refused}
use Rattle.program_table.specs.declared.refusal.Refusal.{Refusal}
use Rattle.program_table.specs.Connections.{commands_of}
use Rattle.program_table.specs.Does.{is_accepted, reply_to}
use Rattle.program_table.specs.History.{after, own_commands, is_command_of, IsHistory}
use Rattle.published.specs.Publication.{Publication, with_next}
use Rattle.published.proofs.Histories.{accepted_room}
use Rattle.published.proofs.Refused.{accepted, refused}
use Rattle.passes.specs.declared.error.BusError.{BusError}
use Rattle.passes.specs.Errors.{error_of}
use Rattle.passes.specs.Passes.{PassState, HasTaken}
use Rattle.passes.specs.Calls.{IsDone, IsRefused, KeepsOwn, after_error}
use Rattle.passes.proofs.Owned.{own-push, own_within}
use Rattle.passes.proofs.Done.{counted, done, keeps}

module _ {M : Type 0} where
  -- the pass w is v, which was told the published history
  pub record IsTold (v w : PassState M) (told_history : List (Command M)) (before : Publication M) : Type 0 where
    pub told_is : told_history ≡ before.history
    pub begins : IsPrefix v.seen told_history
    pub same : w ≡ record v { seen = told_history }

  -- the number and the count that the pass gave, and the count of the state
  pub record IsCounted (v : PassState M) (before : Publication M) (connection took : ℕ) : Type 0 where
    pub legal : IsHistory before.history
    pub taken : HasTaken v
    pub at : connection ≡ v.connection
    pub there : connection ≡ 0 → ⊥
    pub was : took ≡ v.took
    pub counts : commands_of connection (after before.history).connections ≡ took

  -- the history has as many commands of its connection as the pass took
  pub own_count : (v : PassState M) (before : Publication M) (connection took : ℕ) → IsCounted v before connection took → length (own_commands v.connection before.history) ≡ v.took
  own_count v before connection took h =
      let l = before.history in
      let e : commands_of v.connection (after l).connections ≡ v.took = ap (λ (n : ℕ). commands_of n (after l).connections) (sym h.at) ∙ h.counts ∙ h.was in
      counted v.connection v.took l h.legal (h.taken.some (λ (z : v.connection ≡ 0). h.there (h.at ∙ z))) e

  pub begins_all : (v w : PassState M) (told_history : List (Command M)) (before : Publication M) → IsTold v w told_history before → IsPrefix v.seen before.history
  begins_all v w told_history before t = subst (λ (l : List (Command M)). IsPrefix v.seen l) t.told_is t.begins

  pub seen_all : (v w : PassState M) (told_history : List (Command M)) (before : Publication M) → IsTold v w told_history before → w.seen ≡ before.history
  seen_all v w told_history before t = ap (λ (p : PassState M). p.seen) t.same ∙ t.told_is

  -- the pass has counted one more of its commands
  pub counts_one : (v w x : PassState M) (told_history front : List (Command M)) (before next : Publication M) (connection : ℕ) → IsTold v w told_history before → front ≡ next.history
      → x ≡ record w { seen = front; connection = connection; took = w.took + 1 } → x ≡ record v { seen = next.history; connection = x.connection; is_closed = x.is_closed; took = v.took + 1 }
  counts_one v w x told_history front before next connection t is to =
      let F : PassState M → PassState M = λ p. record p { seen = front; connection = connection; took = p.took + 1 } in
      let L : List (Command M) → PassState M = λ l. record v { seen = l; connection = connection; took = v.took + 1 } in
      let P : PassState M → Type 0 = λ y. y ≡ record v { seen = next.history; connection = y.connection; is_closed = y.is_closed; took = v.took + 1 } in
      let e : x ≡ L next.history = to ∙ ap F t.same ∙ ap L is in
      subst P (sym e) refl

  -- a refused command
  pub turned_down : (v w x : PassState M) (told_history : List (Command M)) (before next : Publication M) (connection took : ℕ) (command : Command M) (refusal : Refusal) (error : BusError)
      → IsTold v w told_history before → IsCounted v before connection took → reply_to (after before.history) command ≡ Refused refusal → next.history ≡ with_next before.history command
      → error ≡ error_of refusal → x ≡ after_error error w → IsRefused v before command error x next × KeepsOwn v x
  turned_down v w x told_history before next connection took command refusal error t h said more is to =
      let l = before.history in
      let off : is_accepted (after l) command ≡ false = refused (after l) command refusal said in
      let pre : IsPrefix v.seen l = begins_all v w told_history before t in (
        record {
          begins = pre;
          refusal = refusal;
          replies = said;
          error_is = is;
          published = more ∙ ap (λ (b : Bool). if b then l ++ command ∷ [] else l) off;
          seen = to ∙ ap (after_error error) (t.same ∙ ap (λ (k : List (Command M)). let p : PassState M = record v { seen = k } in p) t.told_is);
        },
        keeps v x l pre h.taken.own (own_count v before connection took h) (ap (λ (p : PassState M). p.seen) to ∙ seen_all v w told_history before t)
            (ap (λ (p : PassState M). p.took) to ∙ ap (λ (p : PassState M). p.took) t.same),
      )

  -- the command is accepted, and is of the pass's connection
  pub record IsGained (v : PassState M) (before next : Publication M) (command : Command M) : Type 0 where
    pub accepted : is_accepted (after before.history) command ≡ true
    pub of_connection : is_command_of (after before.history) v.connection command ≡ true
    pub more : next.history ≡ before.history ++ command ∷ []

  -- one that isn't refused
  pub gained : (v : PassState M) (before next : Publication M) (command : Command M) → ((refusal : Refusal) → reply_to (after before.history) command ≡ Refused refusal → ⊥)
      → next.history ≡ with_next before.history command → is_command_of (after before.history) v.connection command ≡ true → IsGained v before next command
  gained v before next command off more is =
      let l = before.history in
      let on : is_accepted (after l) command ≡ true = accepted (after l) command off in
      record { accepted = on; of_connection = is; more = more ∙ ap (λ (b : Bool). if b then l ++ command ∷ [] else l) on }

  pub goes_on : (v w : PassState M) (told_history front : List (Command M)) (before next : Publication M) (command : Command M) → IsTold v w told_history before → IsGained v before next command
      → front ≡ next.history → IsPrefix w.seen front
  goes_on v w told_history front before next command t a is =
      (command ∷ [], ap (λ (l : List (Command M)). l ++ command ∷ []) (seen_all v w told_history before t) ∙ sym a.more ∙ sym is)

  pub room : (v w : PassState M) (told_history : List (Command M)) (before next : Publication M) (connection took : ℕ) (command : Command M) → IsTold v w told_history before → IsCounted v before connection took
      → IsGained v before next command → w.took + 1 < 2 ^ 64
  room v w told_history before next connection took command t h a =
      let n = own_count v before connection took h in
      let few = own_within before.history v.connection in
      let k : w.took ≡ v.took = ap (λ (p : PassState M). p.took) t.same in
      omega (arith, n, few, k, accepted_room before.history command h.legal a.accepted)

  pub one_more : (v w : PassState M) (told_history front : List (Command M)) (before next : Publication M) (connection took : ℕ) (command : Command M) → IsTold v w told_history before
      → IsCounted v before connection took → IsGained v before next command → front ≡ next.history → w.took + 1 ≤ length (own_commands connection front)
  one_more v w told_history front before next connection took command t h a is =
      let l = before.history in
      let n = own_count v before connection took h in
      let k : w.took ≡ v.took = ap (λ (p : PassState M). p.took) t.same in
      let e : own_commands connection front ≡ own_commands v.connection l ++ command ∷ [] =
      ap (λ (c : ℕ). own_commands c front) h.at ∙ ap (own_commands v.connection) (is ∙ a.more) ∙ own-push l v.connection command a.of_connection in
      omega (arith, n, k, ap length e, length-append (own_commands v.connection l) (command ∷ []))

  pub finished : (v w x : PassState M) (told_history front : List (Command M)) (before next : Publication M) (connection took : ℕ) (command : Command M) (reply : Reply) → IsTold v w told_history before
      → IsCounted v before connection took → IsGained v before next command → front ≡ next.history → reply ≡ reply_to (after before.history) command
      → x ≡ record w { seen = front; connection = connection; took = w.took + 1 } → IsDone v before command reply x next
  finished v w x told_history front before next connection took command reply t h a is said to =
      let l = before.history in
      let at : x.connection ≡ v.connection = ap (λ (p : PassState M). p.connection) to ∙ h.at in
      let n : length (own_commands x.connection l) ≡ v.took = ap (λ (c : ℕ). length (own_commands c l)) at ∙ own_count v before connection took h in
      let low : v.took ≤ length (own_commands x.connection v.seen) = subst (λ (c : ℕ). v.took ≤ length (own_commands c v.seen)) (sym at) h.taken.own in
      let own : is_command_of (after l) x.connection command ≡ true = subst (λ (c : ℕ). is_command_of (after l) c command ≡ true) (sym at) a.of_connection in
      done v before command reply x next (begins_all v w told_history before t) a.accepted said low n own a.more (counts_one v w x told_history front before next connection t is to)
