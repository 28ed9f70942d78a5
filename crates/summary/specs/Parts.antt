-- Inner: the parts of a summary, as the code writes them.
use Rattle.std.specs.Prelude.{ℕ, ◌+◌, List, [], ◌∷◌, length, ◌++◌, take, drop}
use Rattle.std.specs.Int.{w32, to_be_bytes}
use Rattle.message_value.specs.Order.{order_byte}
use Rattle.message_view.specs.Header.{kind_byte}
use Rattle.message_view.specs.Message.{Message}
use Rattle.message_view.specs.Spelling.{header_bytes, body_place, body_bytes}
use Rattle.summary.specs.declared.edition.Edition.{Edition}
use Rattle.summary.specs.Layout.{summary_len}

-- the head of a message that has `count` arguments
abbrev pub head_with : Edition → Message → ℕ → List ℕ
head_with edition m count =
    order_byte m.order ∷ kind_byte m.kind ∷ m.flags
    ∷ (summary_len edition + body_place (length (header_bytes m))) ∷ length (body_bytes m) ∷ count ∷ []

-- the bytes with a word at a place, its highest byte first
abbrev pub with_word : List ℕ → ℕ → ℕ → List ℕ
with_word bytes at value = take at bytes ++ to_be_bytes w32 value ++ drop (at + 4) bytes
