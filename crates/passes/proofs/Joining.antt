-- What the Connect of a pass comes to.
use Rattle.std.proofs.Common.{◌≡◌, ℕ, ◌+◌, ◌==◌, ◌^◌, ◌<◌, ◌≤◌, ◌⊎◌, ⊎_elim, inl, inr, Bool, true, false, List, [], ◌∷◌, ◌++◌, length, refl, sym, ap, ◌∙◌, subst, arith, length-append}
use Rattle.std.specs.Prelude.{Ok, Err, nat_le, if◌then◌else◌}
use Rattle.std.proofs.lemmas.Bool.Decides.{nat_tests}
use Rattle.program_table.specs.declared.command.Command.{Command}
use Rattle.program_table.specs.declared.command.Command.TheVariants.{Connect}
use Rattle.program_table.specs.declared.command.Reply.{Reply}
use Rattle.program_table.specs.declared.command.Reply.TheVariants.{Connected, Refused}
use Rattle.program_table.specs.declared.refusal.Refusal.{Refusal}
use Rattle.program_table.specs.declared.refusal.Refusal.TheVariants as refusals
use Rattle.program_table.specs.Refusals.{◌>>=◌, refuse_if}
use Rattle.program_table.specs.Connections.{are_full}
use Rattle.program_table.specs.State.{State}
use Rattle.program_table.specs.Does.{is_accepted, reply_to, reply_of, max_commands}
use Rattle.program_table.specs.History.{after, own_commands, is_command_of, IsHistory}
use Rattle.program_table.proofs.OwnCounts.{own_commands_new}
use Rattle.published.specs.Publication.{Publication, with_next}
use Rattle.published.proofs.Refused.{refused}
use Rattle.passes.specs.declared.error.BusError.{BusError}
use Rattle.passes.specs.Errors.{error_of}
use Rattle.passes.specs.Passes.{PassState, HasTaken}
use Rattle.passes.specs.Calls.{IsDone, IsRefused, after_error}
use Rattle.passes.proofs.Owned.{own-push}
use Rattle.passes.proofs.Done.{done}
use Rattle.passes.proofs.Commands.{IsTold, begins_all, counts_one}

same_number : (m n : ℕ) → m ≡ n → (m == n) ≡ true
same_number m n e = grind (arith, nat_tests)

pub not_none : (last n : ℕ) → n ≡ last + 1 → n ≡ 0 → ⊥
not_none last n e z = omega (arith, e, z)

two_replies : (full many : Bool) (n : ℕ)
    → (reply_of (if full then Err refusals.Closed else (refuse_if many refusals.ConnectionsFull >>= (λ few. Ok (Connected n)))) ≡ Connected n)
    ⊎ ((refusal : Refusal) × (reply_of (if full then Err refusals.Closed else (refuse_if many refusals.ConnectionsFull >>= (λ few. Ok (Connected n)))) ≡ Refused refusal))
two_replies true many n = inr (refusals.Closed, refl)
two_replies false true n = inr (refusals.ConnectionsFull, refl)
two_replies false false n = inl refl

module _ {M : Type 0} where
  -- a Connect is answered the next number, or a refusal
  connect_reply : (s : State M) (m : M) → (reply_to s (Connect m) ≡ Connected (s.last_connection + 1)) ⊎ ((refusal : Refusal) × (reply_to s (Connect m) ≡ Refused refusal))
  connect_reply s m = two_replies (nat_le max_commands s.commands) (are_full s.capacity.connections s.connections) (s.last_connection + 1)

  pub next_number : (s : State M) (m : M) (n : ℕ) → reply_to s (Connect m) ≡ Connected n → n ≡ s.last_connection + 1
  next_number s m n e =
      ⊎_elim (λ (h : reply_to s (Connect m) ≡ Connected (s.last_connection + 1)). let f : Connected n ≡ Connected (s.last_connection + 1) = sym e ∙ h in cc)
      (λ (h : (refusal : Refusal) × (reply_to s (Connect m) ≡ Refused refusal)). let f : Connected n ≡ Refused h.0 = sym e ∙ h.1 in cc)
      (connect_reply s m)

  -- a pass without a connection, after a history that is published
  pub record IsFresh (v : PassState M) (before : Publication M) (connection : ℕ) : Type 0 where
    pub legal : IsHistory before.history
    pub taken : HasTaken v
    pub at : connection ≡ v.connection
    pub none : connection ≡ 0

  none_taken : (v : PassState M) (before : Publication M) (connection : ℕ) → IsFresh v before connection → v.took ≡ 0
  none_taken v before connection h = h.taken.none (sym h.at ∙ h.none)

  -- a refused Connect
  pub turned_away : (v w x : PassState M) (told_history : List (Command M)) (before next : Publication M) (m : M) (refusal : Refusal) (error : BusError)
      → IsTold v w told_history before → reply_to (after before.history) (Connect m) ≡ Refused refusal → next.history ≡ with_next before.history (Connect m)
      → error ≡ error_of refusal → x ≡ after_error error w → IsRefused v before (Connect m) error x next
  turned_away v w x told_history before next m refusal error t said more is to =
      let l = before.history in
      let off : is_accepted (after l) (Connect m) ≡ false = refused (after l) (Connect m) refusal said in
      record {
        begins = begins_all v w told_history before t;
        refusal = refusal;
        replies = said;
        error_is = is;
        published = more ∙ ap (λ (b : Bool). if b then l ++ Connect m ∷ [] else l) off;
        seen = to ∙ ap (after_error error) (t.same ∙ ap (λ (k : List (Command M)). let p : PassState M = record v { seen = k } in p) t.told_is);
      }

  -- the next number is that of the Connect alone
  pub its_own : (before : Publication M) (m : M) (n : ℕ) → reply_to (after before.history) (Connect m) ≡ Connected n → is_command_of (after before.history) n (Connect m) ≡ true
  its_own before m n said = same_number n ((after before.history).last_connection + 1) (next_number (after before.history) m n said)

  none_own : (before : Publication M) (m : M) (n : ℕ) → IsHistory before.history → reply_to (after before.history) (Connect m) ≡ Connected n → own_commands n before.history ≡ []
  none_own before m n legal said = let e = next_number (after before.history) m n said in own_commands_new before.history n legal (omega (arith, e))

  pub room_for_one : (v w : PassState M) (told_history : List (Command M)) (before : Publication M) (connection : ℕ) → IsTold v w told_history before → IsFresh v before connection → w.took + 1 < 2 ^ 64
  room_for_one v w told_history before connection t h =
      let z = none_taken v before connection h in
      let k : w.took ≡ v.took = ap (λ (p : PassState M). p.took) t.same in
      omega (arith, z, k)

  pub first_own : (v w : PassState M) (told_history front : List (Command M)) (before next : Publication M) (connection n : ℕ) (m : M) → IsTold v w told_history before → IsFresh v before connection
      → reply_to (after before.history) (Connect m) ≡ Connected n → next.history ≡ before.history ++ Connect m ∷ [] → front ≡ next.history → w.took + 1 ≤ length (own_commands n front)
  first_own v w told_history front before next connection n m t h said more is =
      let l = before.history in
      let z = none_taken v before connection h in
      let k : w.took ≡ v.took = ap (λ (p : PassState M). p.took) t.same in
      let e : own_commands n front ≡ own_commands n l ++ Connect m ∷ [] = ap (own_commands n) (is ∙ more) ∙ own-push l n (Connect m) (its_own before m n said) in
      omega (arith, z, k, ap length e, length-append (own_commands n l) (Connect m ∷ []))

  pub joined : (v w x : PassState M) (told_history front : List (Command M)) (before next : Publication M) (connection n : ℕ) (m : M) (reply : Reply) → IsTold v w told_history before
      → IsFresh v before connection → is_accepted (after before.history) (Connect m) ≡ true → reply ≡ reply_to (after before.history) (Connect m) → reply ≡ Connected n
      → next.history ≡ before.history ++ Connect m ∷ [] → front ≡ next.history → x ≡ record w { seen = front; connection = n; took = w.took + 1 } → IsDone v before (Connect m) reply x next
  joined v w x told_history front before next connection n m reply t h on said number more is to =
      let l = before.history in
      let z = none_taken v before connection h in
      let named : reply_to (after l) (Connect m) ≡ Connected n = sym said ∙ number in
      let at : x.connection ≡ n = ap (λ (p : PassState M). p.connection) to in
      let count : length (own_commands x.connection l) ≡ v.took = ap (λ (c : ℕ). length (own_commands c l)) at ∙ ap length (none_own before m n h.legal named) ∙ sym z in
      let low : v.took ≤ length (own_commands x.connection v.seen) = omega (arith, z) in
      let own : is_command_of (after l) x.connection (Connect m) ≡ true = subst (λ (c : ℕ). is_command_of (after l) c (Connect m) ≡ true) (sym at) (its_own before m n named) in
      done v before (Connect m) reply x next (begins_all v w told_history before t) on said low count own more (counts_one v w x told_history front before next n t is to)
