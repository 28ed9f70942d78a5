-- Inner: a block's length beside that of the bytes.
use Rattle.std.specs.Prelude.{ℕ, ◌<◌, ◌≤◌, List, length}
use Rattle.captures.specs.declared.block.Framing.{Framing}
use Rattle.captures.specs.declared.block.Framing.TheVariants.{Wants, Whole}
use Rattle.captures.specs.declared.block.TheConstants.{MAX_BLOCK_LEN}
use Rattle.captures.specs.Standard.{min_block_len}

-- a block that is whole has its lengths among the bytes; one that isn't wants more of them, and never more
-- than the longest block has
abbrev pub IsFramed : List ℕ → Framing → Type 0
IsFramed bytes (Wants len) = (length bytes < len) × (len ≤ MAX_BLOCK_LEN)
IsFramed bytes (Whole block) = (min_block_len ≤ block.len) × (block.len ≤ length bytes)
