-- What clauses see of a message that waits (own).
use Rattle.std.specs.Prelude.{ℕ, List, Option}
use Rattle.atomic_table.specs.Seated.{TableId}

-- the sender's word, and the event of the sender with which the message is released
pub record Hold : Type 0 where
  pub word : TableId
  pub event : ℕ

-- a message's bytes; its mark, if it is a broadcast; its place in the history, if it tells of names; and until when it is
-- held, if it is
pub record Item : Type 0 where
  pub bytes : List ℕ
  pub mark : Option (ℕ × ℕ)
  pub place : Option ℕ
  pub hold : Option Hold

-- a message, and how many puts of it are left
pub record Shares : Type 0 where
  pub message : Item
  pub left : ℕ
