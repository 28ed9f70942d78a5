-- How many commands a history has, and how many of them are a connection's.
use Rattle.std.proofs.Common.{◌≡◌, ℕ, ◌+◌, ◌<◌, ◌≤◌, ◌==◌, Bool, true, false, cond, not, ◌&&◌, List, [], ◌∷◌, ◌++◌, length, fold, Some, refl, sym, ap, ◌∙◌, arith}
use Rattle.std.specs.Prelude.{Result, Err, is_ok, is_some, find, nat_le, if◌then◌else◌}
use Rattle.std.specs.List.{list_all}
use Rattle.std.proofs.lemmas.Bool.Decides.{nat_tests}
use Rattle.std.proofs.lemmas.Bool.{and_parts, and_from}
use Rattle.program_table.specs.declared.connection.Connection.{Connection}
use Rattle.program_table.specs.declared.command.Command.{Command}
use Rattle.program_table.specs.declared.command.Command.TheVariants.{Limit, Connect, AddRule, RemoveRule, Attach, Detach, Request, Release, DropOne, Close}
use Rattle.program_table.specs.declared.command.Reply.{Reply}
use Rattle.program_table.specs.declared.refusal.Refusal.{Refusal}
use Rattle.program_table.specs.declared.refusal.Refusal.TheVariants as refusals
use Rattle.program_table.specs.Connections.{has_number, is_connected, commands_of, with_command, without_connection}
use Rattle.program_table.specs.Registrations.{Registrations}
use Rattle.program_table.specs.Refusals.{◌>>=◌, refuse_if}
use Rattle.program_table.specs.State.{State, opening}
use Rattle.program_table.specs.Does.{row, is_accepted, effect, next_of, with_registrations, max_commands}
use Rattle.program_table.specs.History.{after, are_accepted, IsHistory, is_command_of, own_from, own_commands}

abbrev one_if : Bool → ℕ
one_if b = cond b 1 0

same_tests : (n c d : ℕ) → (n == c) ≡ true → (n == d) ≡ (c == d)
same_tests n c d e = grind (arith, nat_tests)

flipped : (m n : ℕ) → (m == n) ≡ (n == m)
flipped m n = grind (arith, nat_tests)

not_next : (n c last : ℕ) → nat_le n last ≡ true → (n == c) ≡ true → (c == (last + 1)) ≡ false
not_next n c last below_last e = grind (arith, nat_tests)

not_next_below : (c last : ℕ) → c ≤ last → ((last + 1) == c) ≡ false
not_next_below c last le = grind (arith, nat_tests)

le_next : (m n : ℕ) → nat_le m n ≡ true → nat_le m (n + 1) ≡ true
le_next m n e = grind (arith, nat_tests)

le_of : (n c last : ℕ) → nat_le n last ≡ true → (n == c) ≡ true → c ≤ last
le_of n c last below_last e = grind (arith, nat_tests)

next_le : (n : ℕ) → nat_le (n + 1) (n + 1) ≡ true
next_le n = grind (arith, nat_tests)

eq_of : (m n : ℕ) → (m == n) ≡ true → m ≡ n
eq_of m n e = grind (arith, nat_tests)

apart : (n c d : ℕ) → (c == d) ≡ false → (n == d) ≡ true → (n == c) ≡ false
apart n c d e f = grind (arith, nat_tests)

-- a command of a connection is accepted only where that is there
there_first : (b : Bool) (rest : Unit {0} → Result Reply Refusal) → is_ok (refuse_if (not b) refusals.Closed >>= rest) ≡ true → b ≡ true
there_first true rest e = refl
there_first false rest e = cc

none_before : (n : ℕ) → 0 + n ≡ n
none_before n = omega arith

module _ {M : Type 0} where
  -- no number is above the last one
  abbrev AreGiven : ℕ → List (Connection M) → Type 0
  AreGiven last cs = list_all (λ (x : Connection M). nat_le x.number last) cs ≡ true

  abbrev new_connection : ℕ → M → Connection M
  new_connection last m = record { number = last + 1; mailbox = m; commands = 1 }

  -- a command of a connection is counted there alone
  counted_more : (c d : ℕ) (cs : List (Connection M)) → commands_of c (with_command d cs) ≡ commands_of c cs + one_if (is_connected c cs && (c == d))
  counted_more c d [] = refl
  counted_more c d (x ∷ cs) = go (has_number c x) refl (counted_more c d cs)
    where
      here : (b e : Bool) → b ≡ e → x.commands + (if b then 1 else 0) ≡ x.commands + one_if e
      here true true p = refl
      here false false p = refl
      here true false p = absurd (cc)
      here false true p = absurd (cc)

      go : (b : Bool) → has_number c x ≡ b → commands_of c (with_command d cs) ≡ commands_of c cs + one_if (is_connected c cs && (c == d)) →
          commands_of c (with_command d (x ∷ cs)) ≡ commands_of c (x ∷ cs) + one_if (is_connected c (x ∷ cs) && (c == d))
      go true is later = rw is (here (has_number d x) (c == d) (same_tests x.number c d is))
      go false is later = rw is later

  -- which connections are there stays
  there_still : (c d : ℕ) (cs : List (Connection M)) → is_connected c (with_command d cs) ≡ is_connected c cs
  there_still c d [] = refl
  there_still c d (x ∷ cs) = go (has_number c x) refl (there_still c d cs)
    where
      go : (b : Bool) → has_number c x ≡ b → is_connected c (with_command d cs) ≡ is_connected c cs → is_connected c (with_command d (x ∷ cs)) ≡ is_connected c (x ∷ cs)
      go true is later = rw is refl
      go false is later = rw is later

  given_still : (last d : ℕ) (cs : List (Connection M)) → AreGiven last cs → AreGiven last (with_command d cs)
  given_still last d [] g = refl
  given_still last d (x ∷ cs) g =
      let p = and_parts (nat_le x.number last) _ g in
      and_from _ _ p.0 (given_still last d cs p.1)

  -- the new connection's Connect is its first command
  counted_first : (c last : ℕ) (m : M) (cs : List (Connection M)) → AreGiven last cs → commands_of c (cs ++ new_connection last m ∷ []) ≡ commands_of c cs + one_if (c == (last + 1))
  counted_first c last m [] g = go (c == (last + 1)) refl
    where
      go : (b : Bool) → (c == (last + 1)) ≡ b → commands_of c (new_connection last m ∷ []) ≡ 0 + one_if (c == (last + 1))
      go true e = rw (flipped (last + 1) c ∙ e) (rw e refl)
      go false e = rw (flipped (last + 1) c ∙ e) (rw e refl)
  counted_first c last m (x ∷ cs) g =
      let p = and_parts (nat_le x.number last) _ g in
      go (has_number c x) refl p.0 (counted_first c last m cs p.1)
    where
      go : (b : Bool) → has_number c x ≡ b → nat_le x.number last ≡ true → commands_of c (cs ++ new_connection last m ∷ []) ≡ commands_of c cs + one_if (c == (last + 1)) →
          commands_of c (x ∷ cs ++ new_connection last m ∷ []) ≡ commands_of c (x ∷ cs) + one_if (c == (last + 1))
      go true is le later = rw is (rw (not_next x.number c last le is) (omega arith))
      go false is le later = rw is later

  given_first : (last : ℕ) (m : M) (cs : List (Connection M)) → AreGiven last cs → AreGiven (last + 1) (cs ++ new_connection last m ∷ [])
  given_first last m [] g = rw (next_le last) refl
  given_first last m (x ∷ cs) g =
      let p = and_parts (nat_le x.number last) _ g in
      and_from _ _ (le_next x.number last p.0) (given_first last m cs p.1)

  still_gone : (c last : ℕ) (m : M) (cs : List (Connection M)) → c ≤ last → is_connected c cs ≡ false → is_connected c (cs ++ new_connection last m ∷ []) ≡ false
  still_gone c last m [] le e = rw (not_next_below c last le) refl
  still_gone c last m (x ∷ cs) le e = go (has_number c x) refl e (still_gone c last m cs le)
    where
      go : (b : Bool) → has_number c x ≡ b → is_connected c (x ∷ cs) ≡ false → (is_connected c cs ≡ false → is_connected c (cs ++ new_connection last m ∷ []) ≡ false) →
          is_connected c (x ∷ cs ++ new_connection last m ∷ []) ≡ false
      go true is gone later = absurd (cc)
      go false is gone later = rw is (later (sym (ap (λ (b : Bool). is_some (cond b (Some x) (find (has_number c) cs))) is) ∙ gone))

  -- the others keep their counts
  counted_others : (c d : ℕ) (cs : List (Connection M)) → (c == d) ≡ false → commands_of c (without_connection d cs) ≡ commands_of c cs
  counted_others c d [] e = refl
  counted_others c d (x ∷ cs) e = go (has_number d x) refl (counted_others c d cs e)
    where
      go : (b : Bool) → has_number d x ≡ b → commands_of c (without_connection d cs) ≡ commands_of c cs → commands_of c (without_connection d (x ∷ cs)) ≡ commands_of c (x ∷ cs)
      go true is later = rw is (rw (apart x.number c d e is) later)
      go false is later = rw is (same (has_number c x) refl later)
        where
          same : (a : Bool) → has_number c x ≡ a → commands_of c (without_connection d cs) ≡ commands_of c cs → commands_of c (x ∷ without_connection d cs) ≡ commands_of c (x ∷ cs)
          same true p q = rw p refl
          same false p q = rw p q

  given_others : (last d : ℕ) (cs : List (Connection M)) → AreGiven last cs → AreGiven last (without_connection d cs)
  given_others last d [] g = refl
  given_others last d (x ∷ cs) g =
      let p = and_parts (nat_le x.number last) _ g in
      go (not (has_number d x)) p.0 (given_others last d cs p.1)
    where
      go : (b : Bool) → nat_le x.number last ≡ true → AreGiven last (without_connection d cs) → AreGiven last (cond b (x ∷ without_connection d cs) (without_connection d cs))
      go true le later = and_from _ _ le later
      go false le later = later

  gone_others : (c d : ℕ) (cs : List (Connection M)) → is_connected c cs ≡ false → is_connected c (without_connection d cs) ≡ false
  gone_others c d [] e = refl
  gone_others c d (x ∷ cs) e = go (has_number c x) refl e (gone_others c d cs)
    where
      kept : (b : Bool) → has_number c x ≡ false → is_connected c (without_connection d cs) ≡ false → is_connected c (cond b (x ∷ without_connection d cs) (without_connection d cs)) ≡ false
      kept true is later = rw is later
      kept false is later = later

      go : (b : Bool) → has_number c x ≡ b → is_connected c (x ∷ cs) ≡ false → (is_connected c cs ≡ false → is_connected c (without_connection d cs) ≡ false) →
          is_connected c (without_connection d (x ∷ cs)) ≡ false
      go true is gone later = absurd (cc)
      go false is gone later = kept (not (has_number d x)) is (later (sym (ap (λ (b : Bool). is_some (cond b (Some x) (find (has_number c) cs))) is) ∙ gone))

  gone_itself : (c : ℕ) (cs : List (Connection M)) → is_connected c (without_connection c cs) ≡ false
  gone_itself c [] = refl
  gone_itself c (x ∷ cs) = go (has_number c x) refl (gone_itself c cs)
    where
      go : (b : Bool) → has_number c x ≡ b → is_connected c (without_connection c cs) ≡ false → is_connected c (without_connection c (x ∷ cs)) ≡ false
      go true is later = rw is later
      go false is later = rw is (rw is later)

  there_below : (c last : ℕ) (cs : List (Connection M)) → AreGiven last cs → is_connected c cs ≡ true → c ≤ last
  there_below c last [] g e = absurd (cc)
  there_below c last (x ∷ cs) g e =
      let p = and_parts (nat_le x.number last) _ g in
      go (has_number c x) refl p.0 e (there_below c last cs p.1)
    where
      go : (b : Bool) → has_number c x ≡ b → nat_le x.number last ≡ true → is_connected c (x ∷ cs) ≡ true → (is_connected c cs ≡ true → c ≤ last) → c ≤ last
      go true is le there later = le_of x.number c last le is
      go false is le there later = later (sym (ap (λ (b : Bool). is_some (cond b (Some x) (find (has_number c) cs))) is) ∙ there)

  row_of : (s : State M) (x : Command M) → is_accepted s x ≡ true → is_ok (row s x) ≡ true
  row_of s x e = go (nat_le max_commands s.commands) e
    where
      go : (b : Bool) → is_ok (cond b (Err refusals.Closed) (row s x)) ≡ true → is_ok (row s x) ≡ true
      go true e = cc
      go false e = e

  -- the command closes the connection
  abbrev closes : ℕ → Command M → Bool
  closes c (Limit most) = false
  closes c (Connect m) = false
  closes c (AddRule d compiled) = false
  closes c (RemoveRule d rule) = false
  closes c (Attach d attachment) = false
  closes c (Detach d id) = false
  closes c (Request d name flags) = false
  closes c (Release d name) = false
  closes c (DropOne d) = false
  closes c (Close d) = c == d

  record Stepped (c : ℕ) (s next : State M) (own closing : Bool) : Type 0 where
    counts : next.commands ≡ s.commands + 1
    below_last : AreGiven next.last_connection next.connections
    mine : closing ≡ false → commands_of c next.connections ≡ commands_of c s.connections + one_if own
    gone : closing ≡ true → (is_connected c next.connections ≡ false) × (c ≤ next.last_connection)
    stays : is_connected c s.connections ≡ false → c ≤ s.last_connection → (is_connected c next.connections ≡ false) × (c ≤ next.last_connection)
    grows : s.last_connection ≤ next.last_connection
    low : own ≡ true → c ≤ next.last_connection

  module _ (c : ℕ) (s : State M) (g : AreGiven s.last_connection s.connections) where
    own_if : (d : ℕ) → is_connected d s.connections ≡ true → (b : Bool) → (c == d) ≡ b → (is_connected c s.connections && b) ≡ b
    own_if d there true e = rw (ap (λ (n : ℕ). is_connected n s.connections) (eq_of c d e) ∙ there) refl
    own_if d there false e = go (is_connected c s.connections)
      where
        go : (a : Bool) → (a && false) ≡ false
        go true = refl
        go false = refl

    low_if : (d : ℕ) → is_connected d s.connections ≡ true → (c == d) ≡ true → c ≤ s.last_connection
    low_if d there e = rw (eq_of c d e) (there_below d s.last_connection s.connections g there)

    step_changed : (d : ℕ) (r : Registrations) → is_connected d s.connections ≡ true → Stepped c s (with_registrations d s r) (c == d) false
    step_changed d r there = record {
      counts = refl;
      below_last = given_still s.last_connection d s.connections g;
      mine = λ e. counted_more c d s.connections ∙ ap (λ (b : Bool). commands_of c s.connections + one_if b) (own_if d there (c == d) refl);
      gone = λ e. absurd (cc);
      stays = λ e le. (there_still c d s.connections ∙ e, le);
      grows = omega arith;
      low = low_if d there;
    }

    step : (x : Command M) → is_ok (row s x) ≡ true → Stepped c s (effect s x) (is_command_of s c x) (closes c x)
    step (Limit most) ok = record {
      counts = refl;
      below_last = g;
      mine = λ e. omega arith;
      gone = λ e. absurd (cc);
      stays = λ e le. (e, le);
      grows = omega arith;
      low = λ e. absurd (cc);
    }
    step (Connect m) ok = record {
      counts = refl;
      below_last = given_first s.last_connection m s.connections g;
      mine = λ e. counted_first c s.last_connection m s.connections g;
      gone = λ e. absurd (cc);
      stays = λ e le. (still_gone c s.last_connection m s.connections le e, omega (arith, le));
      grows = omega arith;
      low = λ e. let k = eq_of c (s.last_connection + 1) e in omega (arith, k);
    }
    step (AddRule d compiled) ok = step_changed d _ (there_first _ _ ok)
    step (RemoveRule d rule) ok = step_changed d _ (there_first _ _ ok)
    step (Attach d attachment) ok = step_changed d _ (there_first _ _ ok)
    step (Detach d id) ok = step_changed d _ (there_first _ _ ok)
    step (Request d name flags) ok = step_changed d _ (there_first _ _ ok)
    step (Release d name) ok = step_changed d _ (there_first _ _ ok)
    step (DropOne d) ok = step_changed d _ (there_first _ _ ok)
    step (Close d) ok = record {
      counts = refl;
      below_last = given_others s.last_connection d s.connections g;
      mine = λ e. counted_others c d s.connections e ∙ rw e (omega arith);
      gone = λ e. (ap (λ (n : ℕ). is_connected n (without_connection d s.connections)) (eq_of c d e) ∙ gone_itself d s.connections, rw (eq_of c d e) (there_below d s.last_connection s.connections g (there_first _ _ ok)));
      stays = λ e le. (gone_others c d s.connections e, le);
      grows = omega arith;
      low = low_if d (there_first _ _ ok);
    }

    step_next : (x : Command M) → is_accepted s x ≡ true → Stepped c s (next_of s x) (is_command_of s c x) (closes c x)
    step_next x ok = rw ok (step x (row_of s x ok))

  own_length : (b : Bool) (x : Command M) (xs : List (Command M)) → length (if b then x ∷ xs else xs) ≡ one_if b + length xs
  own_length true x xs = omega arith
  own_length false x xs = omega arith

  -- a connection that is gone never comes back
  gone_ever : (c : ℕ) (s : State M) (xs : List (Command M)) → AreGiven s.last_connection s.connections → are_accepted s xs ≡ true
      → is_connected c s.connections ≡ false → c ≤ s.last_connection → is_connected c (fold next_of s xs).connections ≡ false
  gone_ever c s [] g ok gone le = gone
  gone_ever c s (x ∷ xs) g ok gone le =
      let p = and_parts (is_accepted s x) (are_accepted (next_of s x) xs) ok in
      let stepped = step_next c s g x p.0 in
      let now = stepped.stays gone le in
      gone_ever c (next_of s x) xs stepped.below_last p.1 now.0 now.1

  own_counted : (c : ℕ) (s : State M) (xs : List (Command M)) → AreGiven s.last_connection s.connections → are_accepted s xs ≡ true
      → is_connected c (fold next_of s xs).connections ≡ true
      → commands_of c (fold next_of s xs).connections ≡ commands_of c s.connections + length (own_from s c xs)
  own_counted c s [] g ok there = omega arith
  own_counted c s (x ∷ xs) g ok there =
      let p = and_parts (is_accepted s x) (are_accepted (next_of s x) xs) ok in
      let stepped = step_next c s g x p.0 in
      go p.1 stepped (closes c x) refl (own_counted c (next_of s x) xs stepped.below_last p.1 there)
    where
      go : are_accepted (next_of s x) xs ≡ true → Stepped c s (next_of s x) (is_command_of s c x) (closes c x) → (b : Bool) → closes c x ≡ b
          → commands_of c (fold next_of (next_of s x) xs).connections ≡ commands_of c (next_of s x).connections + length (own_from (next_of s x) c xs)
          → commands_of c (fold next_of (next_of s x) xs).connections ≡ commands_of c s.connections + length (own_from s c (x ∷ xs))
      go rest stepped true e later =
          let now = stepped.gone e in
          absurd (contradicts (gone_ever c (next_of s x) xs stepped.below_last rest now.0 now.1) there)
        where
          contradicts : {b : Bool} → b ≡ false → b ≡ true → ⊥
          contradicts p q = cc
      go rest stepped false e later =
          let first = stepped.mine e in
          let length_is = own_length (is_command_of s c x) x (own_from (next_of s x) c xs) in
          omega (arith, later, first, length_is)

  all_counted : (s : State M) (xs : List (Command M)) → AreGiven s.last_connection s.connections → are_accepted s xs ≡ true → (fold next_of s xs).commands ≡ s.commands + length xs
  all_counted s [] g ok = omega arith
  all_counted s (x ∷ xs) g ok =
      let p = and_parts (is_accepted s x) (are_accepted (next_of s x) xs) ok in
      let stepped = step_next 0 s g x p.0 in
      let later = all_counted (next_of s x) xs stepped.below_last p.1 in
      let first = stepped.counts in
      omega (arith, later, first)

  last_grows : (s : State M) (xs : List (Command M)) → AreGiven s.last_connection s.connections → are_accepted s xs ≡ true → s.last_connection ≤ (fold next_of s xs).last_connection
  last_grows s [] g ok = omega arith
  last_grows s (x ∷ xs) g ok =
      let p = and_parts (is_accepted s x) (are_accepted (next_of s x) xs) ok in
      let stepped = step_next 0 s g x p.0 in
      let later = last_grows (next_of s x) xs stepped.below_last p.1 in
      let first = stepped.grows in
      omega (arith, later, first)

  none_own : (c : ℕ) (s : State M) (xs : List (Command M)) → AreGiven s.last_connection s.connections → are_accepted s xs ≡ true
      → (fold next_of s xs).last_connection < c → own_from s c xs ≡ []
  none_own c s [] g ok above = refl
  none_own c s (x ∷ xs) g ok above =
      let p = and_parts (is_accepted s x) (are_accepted (next_of s x) xs) ok in
      let stepped = step_next c s g x p.0 in
      let later = last_grows (next_of s x) xs stepped.below_last p.1 in
      go (is_command_of s c x) (λ e. let le = stepped.low e in omega (arith, le, later, above)) (none_own c (next_of s x) xs stepped.below_last p.1 above)
    where
      go : (b : Bool) → (b ≡ true → ⊥) → own_from (next_of s x) c xs ≡ [] → (if b then x ∷ own_from (next_of s x) c xs else own_from (next_of s x) c xs) ≡ []
      go true never e = absurd (never refl)
      go false never e = e

  -- the count of all commands is the length of the history
  pub commands_counted : (xs : List (Command M)) → IsHistory xs → (after xs).commands ≡ length xs
  commands_counted xs h = all_counted opening xs refl h ∙ none_before (length xs)

  -- the count of a connection is that of its commands
  pub own_commands_counted : (xs : List (Command M)) (c : ℕ) → IsHistory xs → is_connected c (after xs).connections ≡ true → commands_of c (after xs).connections ≡ length (own_commands c xs)
  own_commands_counted xs c h there = own_counted c opening xs refl h there ∙ none_before (length (own_commands c xs))

  -- a number that wasn't given has no command
  pub own_commands_new : (xs : List (Command M)) (c : ℕ) → IsHistory xs → (after xs).last_connection < c → own_commands c xs ≡ []
  own_commands_new xs c h above = none_own c opening xs refl h above
