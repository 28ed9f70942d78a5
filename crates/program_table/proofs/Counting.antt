-- Counts of commands stay below the count of all.
use Rattle.std.proofs.Common.{◌≡◌, ℕ, ◌+◌, ◌≤◌, Bool, true, false, cond, not, List, [], ◌∷◌, refl, arith}
use Rattle.std.specs.Prelude.{nat_le}
use Rattle.std.specs.List.{list_all}
use Rattle.std.proofs.lemmas.Bool.Decides.{nat_tests}
use Rattle.std.proofs.lemmas.Bool.{and_parts, and_from}
use Rattle.program_table.specs.declared.connection.Connection.{Connection}
use Rattle.program_table.specs.Connections.{has_number, commands_of, with_command, without_connection}
use Rattle.program_table.specs.ConnectionList.{ConnectionList, with_connection}
use Rattle.program_table.specs.Counts.{AreCounts}
use Rattle.program_table.proofs.Adding.{all-push}

le_test : (m n : ℕ) → nat_le m n ≡ true → m ≤ n
le_test m n e = grind (arith, nat_tests)

test_le : (m n : ℕ) → m ≤ n → nat_le m n ≡ true
test_le m n e = grind (arith, nat_tests)

one_if : (b : Bool) (m n : ℕ) → m ≤ n → m + cond b 1 0 ≤ n + 1
one_if true m n h = omega arith
one_if false m n h = omega arith

module _ {M : Type 0} where
  abbrev AreBelow : ℕ → List (Connection M) → Type 0
  AreBelow n cs = list_all (λ (x : Connection M). nat_le x.commands n) cs ≡ true

  pub commands_below : (number n : ℕ) (cs : List (Connection M)) → AreBelow n cs → commands_of number cs ≤ n
  commands_below number n [] h = omega arith
  commands_below number n (c ∷ cs) h =
      let parts = and_parts (nat_le c.commands n) _ h in
      go (has_number number c) refl (le_test c.commands n parts.0) (commands_below number n cs parts.1)
    where
      go : (b : Bool) → has_number number c ≡ b → c.commands ≤ n → commands_of number cs ≤ n → commands_of number (c ∷ cs) ≤ n
      go true is here later = rw is here
      go false is here later = rw is later

  pub below_more : (number n : ℕ) (cs : List (Connection M)) → AreBelow n cs → AreBelow (n + 1) (with_command number cs)
  below_more number n [] h = refl
  below_more number n (c ∷ cs) h =
      let parts = and_parts (nat_le c.commands n) _ h in
      and_from _ _ (test_le (c.commands + cond (has_number number c) 1 0) (n + 1) (one_if (has_number number c) c.commands n (le_test c.commands n parts.0))) (below_more number n cs parts.1)

  pub counts_more : (number n : ℕ) (c : ConnectionList M) → AreCounts n c → AreCounts (n + 1) (record { connections = with_command number c.connections; last = c.last })
  counts_more number n c h = record { numbered = omega (arith, h.numbered); counted = below_more number n c.connections h.counted }

  below_next : (n : ℕ) (cs : List (Connection M)) → AreBelow n cs → AreBelow (n + 1) cs
  below_next n [] h = refl
  below_next n (c ∷ cs) h =
      let parts = and_parts (nat_le c.commands n) _ h in
      let le = le_test c.commands n parts.0 in
      and_from _ _ (test_le c.commands (n + 1) (omega (arith, le))) (below_next n cs parts.1)

  -- a command of nobody is counted
  pub counts_limited : (n : ℕ) (c : ConnectionList M) → AreCounts n c → AreCounts (n + 1) c
  counts_limited n c h = record { numbered = omega (arith, h.numbered); counted = below_next n c.connections h.counted }

  below_others : (number n : ℕ) (cs : List (Connection M)) → AreBelow n cs → AreBelow n (without_connection number cs)
  below_others number n [] h = refl
  below_others number n (c ∷ cs) h =
      let parts = and_parts (nat_le c.commands n) _ h in
      go (not (has_number number c)) (below_others number n cs parts.1)
    where
      go : (b : Bool) → AreBelow n (without_connection number cs) → AreBelow n (cond b (c ∷ without_connection number cs) (without_connection number cs))
      go true rest = and_from _ _ (and_parts (nat_le c.commands n) _ h).0 rest
      go false rest = rest

  -- a new connection, whose Connect is counted
  pub counts_connected : (n : ℕ) (c : ConnectionList M) (m : M) → AreCounts n c → AreCounts (n + 1) (with_connection c m)
  counts_connected n c m h = record {
    numbered = omega (arith, h.numbered);
    counted = all-push (λ (x : Connection M). nat_le x.commands (n + 1)) c.connections _ (below_next n c.connections h.counted) (test_le 1 (n + 1) (omega arith));
  }

  -- a connection goes
  pub counts_closed : (number n : ℕ) (c : ConnectionList M) → AreCounts n c → AreCounts (n + 1) (record { connections = without_connection number c.connections; last = c.last })
  counts_closed number n c h = record {
    numbered = omega (arith, h.numbered);
    counted = below_next n (without_connection number c.connections) (below_others number n c.connections h.counted);
  }
