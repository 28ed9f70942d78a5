-- Which mailbox each connection of a history was given.
use Rattle.std.proofs.Common.{◌≡◌, ◌⊎◌, inl, inr, ℕ, zero, suc, ◌+◌, ◌<◌, ◌≤◌, ◌==◌, Bool, true, false, true≢false, cond, not, List, [], ◌∷◌, ◌++◌, length, fold, Option, Some, None, refl, sym, ap, subst, ◌∙◌, arith, append_assoc, append-nil, length-append, eq-eqb, eqb-true}
use Rattle.std.specs.Prelude.{is_some, option_map, slice_get, get_or}
use Rattle.std.specs.Option.{option_or}
use Rattle.std.proofs.lemmas.Bool.{and_parts}
use Rattle.std.proofs.lemmas.Bool.Decides.{nat_tests}
use Rattle.std.proofs.lemmas.List.{get_or_append_left}
use Rattle.std.proofs.lemmas.List.Elements.{filter_map-append}
use Rattle.std.proofs.lemmas.List.Folds.{find-append}
use Rattle.std.proofs.lemmas.Option.{slice_get_within, slice_get_read, get_or_from_slice_get}
use Rattle.std.proofs.Math.Seq.{get_or-append_seam}
use mathlib.Core.List.{IsPrefix}
use Rattle.program_table.specs.declared.command.Command.{Command}
use Rattle.program_table.specs.declared.command.Command.TheVariants.{Limit, Connect, AddRule, RemoveRule, Attach, Detach, Request, Release, DropOne, Close}
use Rattle.program_table.specs.declared.connection.Connection.{Connection}
use Rattle.program_table.specs.Connections.{has_number, connection_of, is_connected, mailbox_of, with_command, without_connection}
use Rattle.program_table.specs.Does.{is_accepted, effect, next_of}
use Rattle.program_table.specs.History.{after, are_accepted, IsHistory}
use Rattle.program_table.specs.State.{State, opening}
use Rattle.published.proofs.Histories.{next-accepted, after-push}
use Rattle.passes.specs.Mailboxes.{new_mailbox, mailboxes, mailbox_given}
use Rattle.passes.specs.Theirs.{keeps_connections}

get-append : {X : Type 0} (xs ys : List X) (k : ℕ) (x : X) → slice_get xs k ≡ Some x → slice_get (xs ++ ys) k ≡ Some x
get-append xs ys k x e =
    let less : k < length xs = slice_get_within xs k x e in
    let here : get_or (xs ++ ys) k x ≡ x = get_or_append_left xs ys x k less ∙ get_or_from_slice_get xs k x x e in
    slice_get_read (xs ++ ys) (length (xs ++ ys)) k x refl (omega (arith, less, length-append xs ys)) (sym here)

get-last : {X : Type 0} (xs : List X) (x : X) → slice_get (xs ++ x ∷ []) (length xs) ≡ Some x
get-last xs x =
    slice_get_read (xs ++ x ∷ []) (length (xs ++ x ∷ [])) (length xs) x refl (omega (arith, length-append xs (x ∷ []))) (sym (get_or-append_seam xs x [] x))

same_number : (n k : ℕ) → (k == n) ≡ true → n ≡ k
same_number n k e = grind (arith, nat_tests)

within : {X : Type 0} (xs : List X) (n k : ℕ) (x : X) → n ≡ suc k → slice_get xs k ≡ Some x → n ≤ length xs
within xs n k x same e = let less = slice_get_within xs k x e in omega (arith, same, less)

module _ {M : Type 0} where
  -- what was given stays, whatever comes after it
  given-append : (old more : List (Command M)) (n : ℕ) (m : M) → mailbox_given old n ≡ Some m → mailbox_given (old ++ more) n ≡ Some m
  given-append old more zero m e = cc
  given-append old more (suc k) m e =
      ap (λ (ms : List M). slice_get ms k) (filter_map-append new_mailbox old more) ∙ get-append (mailboxes old) (mailboxes more) k m e

  -- a longer history gives the same
  pub given_later : (old new : List (Command M)) (n : ℕ) (m : M) → IsPrefix old new → mailbox_given old n ≡ Some m → mailbox_given new n ≡ Some m
  given_later old new n m p e =
      let P : List (Command M) → Type 0 = λ l. mailbox_given l n ≡ Some m in
      subst P p.1 (given-append old p.0 n m e)

  -- the next connection is given the mailbox of its Connect
  given_next : (h : List (Command M)) (n : ℕ) (m : M) → n ≡ length (mailboxes h) + 1 → mailbox_given (h ++ Connect m ∷ []) n ≡ Some m
  given_next h n m e =
      let same : n ≡ suc (length (mailboxes h)) = omega (arith, e) in
      ap (λ (k : ℕ). mailbox_given (h ++ Connect m ∷ []) k) same
      ∙ (ap (λ (ms : List M). slice_get ms (length (mailboxes h))) (filter_map-append new_mailbox h (Connect m ∷ [])) ∙ get-last (mailboxes h) m)

  -- a connection that was given a mailbox has no larger number than there were Connects
  given_within : (h : List (Command M)) (n : ℕ) (m : M) → mailbox_given h n ≡ Some m → n ≤ length (mailboxes h)
  given_within h zero m e = omega arith
  given_within h (suc k) m e = within (mailboxes h) (suc k) k m refl e

  -- a command that is counted changes no mailbox
  mailbox-more : (n d : ℕ) (cs : List (Connection M)) → mailbox_of n (with_command d cs) ≡ mailbox_of n cs
  mailbox-more n d [] = refl
  mailbox-more n d (x ∷ cs) = go (has_number n x) refl (mailbox-more n d cs)
    where
      go : (b : Bool) → has_number n x ≡ b → mailbox_of n (with_command d cs) ≡ mailbox_of n cs → mailbox_of n (with_command d (x ∷ cs)) ≡ mailbox_of n (x ∷ cs)
      go true is later = rw is refl
      go false is later = rw is later

  -- a connection that is left out has no mailbox, and each other one has its own
  mailbox-without : (n d : ℕ) (cs : List (Connection M)) → mailbox_of n (without_connection d cs) ≡ cond (d == n) None (mailbox_of n cs)
  mailbox-without n d [] = nowhere (d == n) None refl
    where
      nowhere : (b : Bool) (o : Option M) → o ≡ None → o ≡ cond b None o
      nowhere true o e = e
      nowhere false o e = refl
  mailbox-without n d (x ∷ cs) = go (has_number d x) (has_number n x) (d == n) refl refl refl (mailbox-without n d cs)
    where
      go : (gone is_it same : Bool) → has_number d x ≡ gone → has_number n x ≡ is_it → (d == n) ≡ same → mailbox_of n (without_connection d cs) ≡ cond (d == n) None (mailbox_of n cs)
          → mailbox_of n (without_connection d (x ∷ cs)) ≡ cond (d == n) None (mailbox_of n (x ∷ cs))
      go true true true goes is at later = rw at (rw goes (later ∙ ap (λ (b : Bool). cond b None (mailbox_of n cs)) at))
      go true true false goes is at later = absurd (true≢false (sym (eq-eqb d n (same_number d x.number goes ∙ sym (same_number n x.number is))) ∙ at))
      go true false same goes is at later = rw goes (rw is later)
      go false true true goes is at later = absurd (true≢false (sym (eq-eqb x.number d (eqb-true x.number n is ∙ sym (eqb-true d n at))) ∙ goes))
      go false true false goes is at later = rw goes (rw is (rw at refl))
      go false false same goes is at later = rw goes (rw is later)

  -- the connections that are left have the mailboxes that they had
  mailbox-others : (n d : ℕ) (m : M) (cs : List (Connection M)) → mailbox_of n (without_connection d cs) ≡ Some m → mailbox_of n cs ≡ Some m
  mailbox-others n d m cs e = go (d == n) refl
    where
      go : (b : Bool) → (d == n) ≡ b → mailbox_of n cs ≡ Some m
      go true is = let gone = ap (λ (b : Bool). cond b None (mailbox_of n cs)) is in let without = mailbox-without n d cs in absurd (cc)
      go false is = sym (mailbox-without n d cs ∙ ap (λ (b : Bool). cond b None (mailbox_of n cs)) is) ∙ e

  abbrev new_connection : ℕ → M → Connection M
  new_connection last m = record { number = last + 1; mailbox = m; commands = 1 }

  -- the command makes connection n, which has the mailbox m
  abbrev Makes : Command M → ℕ → ℕ → M → Type 0
  Makes c last n m = (c ≡ Connect m) × (n ≡ last + 1)

  -- with one more connection there is one more mailbox, its own
  mailbox-push : (n last : ℕ) (new m : M) (cs : List (Connection M)) → mailbox_of n (cs ++ new_connection last new ∷ []) ≡ Some m → (mailbox_of n cs ≡ Some m) ⊎ Makes (Connect new) last n m
  mailbox-push n last new m cs e = go (connection_of n cs) ((last + 1) == n) refl (sym (ap (option_map its) (find-append (has_number n) cs (new_connection last new ∷ []))) ∙ e)
    where
      its : Connection M → M
      its c = c.mailbox

      go : (o : Option (Connection M)) (b : Bool) → ((last + 1) == n) ≡ b → option_map its (option_or o (cond b (Some (new_connection last new)) None)) ≡ Some m → (option_map its o ≡ Some m) ⊎ Makes (Connect new) last n m
      go (Some c) b is e = inl e
      go None true is e = inr (cc, same_number n (last + 1) is)
      go None false is e = inl e

  -- each mailbox after a command was there before it, or is that of the connection that it makes
  there-effect : (s : State M) (c : Command M) (n : ℕ) (m : M) → mailbox_of n (effect s c).connections ≡ Some m
      → (mailbox_of n s.connections ≡ Some m) ⊎ Makes c s.last_connection n m
  there-effect s (Limit most) n m e = inl e
  there-effect s (Connect new) n m e = mailbox-push n s.last_connection new m s.connections e
  there-effect s (AddRule d compiled) n m e = inl (sym (mailbox-more n d s.connections) ∙ e)
  there-effect s (RemoveRule d rule) n m e = inl (sym (mailbox-more n d s.connections) ∙ e)
  there-effect s (Attach d attachment) n m e = inl (sym (mailbox-more n d s.connections) ∙ e)
  there-effect s (Detach d id) n m e = inl (sym (mailbox-more n d s.connections) ∙ e)
  there-effect s (Request d name flags) n m e = inl (sym (mailbox-more n d s.connections) ∙ e)
  there-effect s (Release d name) n m e = inl (sym (mailbox-more n d s.connections) ∙ e)
  there-effect s (DropOne d) n m e = inl (sym (mailbox-more n d s.connections) ∙ e)
  there-effect s (Close d) n m e = inl (mailbox-others n d m s.connections e)

  -- what makes no connection and closes none changes no mailbox
  mailbox-effect : (s : State M) (c : Command M) (n : ℕ) → keeps_connections c ≡ true → mailbox_of n (effect s c).connections ≡ mailbox_of n s.connections
  mailbox-effect s (Limit most) n keeps = refl
  mailbox-effect s (Connect new) n keeps = absurd (cc)
  mailbox-effect s (AddRule d compiled) n keeps = mailbox-more n d s.connections
  mailbox-effect s (RemoveRule d rule) n keeps = mailbox-more n d s.connections
  mailbox-effect s (Attach d attachment) n keeps = mailbox-more n d s.connections
  mailbox-effect s (Detach d id) n keeps = mailbox-more n d s.connections
  mailbox-effect s (Request d name flags) n keeps = mailbox-more n d s.connections
  mailbox-effect s (Release d name) n keeps = mailbox-more n d s.connections
  mailbox-effect s (DropOne d) n keeps = mailbox-more n d s.connections
  mailbox-effect s (Close d) n keeps = absurd (cc)

  -- only a Connect gives a number
  last-effect : (s : State M) (c : Command M) → (effect s c).last_connection ≡ s.last_connection + length (mailboxes (c ∷ []))
  last-effect s (Limit most) = omega arith
  last-effect s (Connect new) = omega arith
  last-effect s (AddRule d compiled) = omega arith
  last-effect s (RemoveRule d rule) = omega arith
  last-effect s (Attach d attachment) = omega arith
  last-effect s (Detach d id) = omega arith
  last-effect s (Request d name flags) = omega arith
  last-effect s (Release d name) = omega arith
  last-effect s (DropOne d) = omega arith
  last-effect s (Close d) = omega arith

  -- as many numbers were given as mailboxes, and each connection of the state has the mailbox that it was given
  record Follows (commands : List (Command M)) (s : State M) : Type 0 where
    numbers : s.last_connection ≡ length (mailboxes commands)
    own : (n : ℕ) (m : M) → mailbox_of n s.connections ≡ Some m → mailbox_given commands n ≡ Some m

  -- it stays so with each command
  follows-effect : (old : List (Command M)) (s : State M) (c : Command M) → Follows old s → Follows (old ++ c ∷ []) (effect s c)
  follows-effect old s c f = record {
    numbers =
        let more = ap length (filter_map-append new_mailbox old (c ∷ [])) in
        omega (arith, f.numbers, last-effect s c, more, length-append (mailboxes old) (mailboxes (c ∷ [])));
    own = λ n m there. go n m (there-effect s c n m there);
  }
    where
      go : (n : ℕ) (m : M) → (mailbox_of n s.connections ≡ Some m) ⊎ Makes c s.last_connection n m → mailbox_given (old ++ c ∷ []) n ≡ Some m
      go n m (inl there) = given-append old (c ∷ []) n m (f.own n m there)
      go n m (inr (is, next)) =
          ap (λ (x : Command M). mailbox_given (old ++ x ∷ []) n) is ∙ given_next old n m (omega (arith, next, f.numbers))

  follows : (old : List (Command M)) (s : State M) (commands : List (Command M)) → Follows old s → are_accepted s commands ≡ true → Follows (old ++ commands) (fold next_of s commands)
  follows old s [] f ok = let P : List (Command M) → Type 0 = λ l. Follows l s in subst P (sym (append-nil old)) f
  follows old s (c ∷ cs) f ok =
      let p = and_parts (is_accepted s c) (are_accepted (next_of s c) cs) ok in
      let N : State M → Type 0 = λ t. Follows (old ++ c ∷ []) t in
      let P : List (Command M) → Type 0 = λ l. Follows l (fold next_of (next_of s c) cs) in
      subst P (append_assoc old (c ∷ []) cs) (follows (old ++ c ∷ []) (next_of s c) cs (subst N (sym (next-accepted s c p.0)) (follows-effect old s c f)) p.1)

  history_follows : (h : List (Command M)) → IsHistory h → Follows h (after h)
  history_follows h is = follows [] opening h (record { numbers = refl; own = λ n m e. absurd (cc) }) is

  -- a connection that is there has the mailbox that it was given
  pub given_there : (h : List (Command M)) (n : ℕ) (m : M) → IsHistory h → mailbox_of n (after h).connections ≡ Some m → mailbox_given h n ≡ Some m
  given_there h n m is there = (history_follows h is).own n m there

  -- a new connection is given the mailbox of its Connect
  pub given_connect : (h : List (Command M)) (m : M) → IsHistory h → mailbox_given (h ++ Connect m ∷ []) ((after h).last_connection + 1) ≡ Some m
  given_connect h m is = given_next h ((after h).last_connection + 1) m (ap (λ (k : ℕ). k + 1) (history_follows h is).numbers)

  its_mailbox : (o : Option (Connection M)) → is_some o ≡ true → (m : M) × (option_map (λ (c : Connection M). c.mailbox) o ≡ Some m)
  its_mailbox None e = absurd (cc)
  its_mailbox (Some c) e = (c.mailbox, refl)

  -- no connection has a number above the last one
  pub below_last : (h : List (Command M)) (n : ℕ) → IsHistory h → is_connected n (after h).connections ≡ true → n ≤ (after h).last_connection
  below_last h n is there =
      let f = history_follows h is in
      let its = its_mailbox (connection_of n (after h).connections) there in
      let le = given_within h n its.0 (f.own n its.0 its.1) in
      omega (arith, le, f.numbers)

  -- what an accepted command leads to
  pushed : (h : List (Command M)) (c : Command M) → is_accepted (after h) c ≡ true → after (h ++ c ∷ []) ≡ effect (after h) c
  pushed h c ok = after-push h c ∙ next-accepted (after h) c ok

  -- after a command that makes no connection and closes none, each has the mailbox that it had
  pub mailbox_kept : (h : List (Command M)) (c : Command M) (n : ℕ) → is_accepted (after h) c ≡ true → keeps_connections c ≡ true → mailbox_of n (after (h ++ c ∷ [])).connections ≡ mailbox_of n (after h).connections
  mailbox_kept h c n ok keeps = ap (λ (s : State M). mailbox_of n s.connections) (pushed h c ok) ∙ mailbox-effect (after h) c n keeps

  -- a connection that was closed is gone, and the others have the mailboxes that they had
  pub mailbox_closed : (h : List (Command M)) (d n : ℕ) → is_accepted (after h) (Close d) ≡ true → mailbox_of n (after (h ++ Close d ∷ [])).connections ≡ cond (d == n) None (mailbox_of n (after h).connections)
  mailbox_closed h d n ok = ap (λ (s : State M). mailbox_of n s.connections) (pushed h (Close d) ok) ∙ mailbox-without n d (after h).connections

  -- no number above the last one has a mailbox
  pub none_above : (h : List (Command M)) (n : ℕ) → IsHistory h → (after h).last_connection < n → mailbox_of n (after h).connections ≡ None
  none_above h n is above = go (connection_of n (after h).connections) refl
    where
      go : (o : Option (Connection M)) → connection_of n (after h).connections ≡ o → mailbox_of n (after h).connections ≡ None
      go None e = ap (λ (o : Option (Connection M)). option_map (λ (c : Connection M). c.mailbox) o) e
      go (Some c) e = let le = below_last h n is (ap is_some e) in absurd (omega (arith, le, above))

  -- the connection that a Connect makes has its mailbox, and the others have theirs
  pub mailbox_joined : (h : List (Command M)) (m : M) (n : ℕ) → IsHistory h → is_accepted (after h) (Connect m) ≡ true → mailbox_of n (after (h ++ Connect m ∷ [])).connections ≡ cond (((after h).last_connection + 1) == n) (Some m) (mailbox_of n (after h).connections)
  mailbox_joined h m n is ok =
      ap (λ (s : State M). mailbox_of n s.connections) (pushed h (Connect m) ok)
      ∙ ap (option_map its) (find-append (has_number n) (after h).connections (new_connection last m ∷ []))
      ∙ go (connection_of n (after h).connections) ((last + 1) == n) refl refl
    where
      last : ℕ
      last = (after h).last_connection

      its : Connection M → M
      its c = c.mailbox

      go : (o : Option (Connection M)) (b : Bool) → connection_of n (after h).connections ≡ o → ((last + 1) == n) ≡ b → option_map its (option_or o (cond b (Some (new_connection last m)) None)) ≡ cond b (Some m) (option_map its o)
      go None true e at = refl
      go None false e at = refl
      go (Some c) false e at = refl
      go (Some c) true e at =
          let le = below_last h n is (ap is_some e) in
          let same = same_number n (last + 1) at in
          absurd (omega (arith, le, same))
