-- What a write does to an output (own).
use Rattle.std.specs.Prelude.{◌≡◌, ◌≢◌, ◌⊎◌, ℕ, true, false, List, [], ◌∷◌, ◌++◌}
use Rattle.command_line.specs.declared.output.Output.{Output}

module _ {W : Type 0} (takes : W → List ℕ → W → Type 0) (flushes : W → W → Type 0) (may_fail : W → Type 0) where
  -- The writer took these bytes as a whole and was flushed after, once. Where there are none nothing was asked of it.
  pub record IsGiven (before after : W) (bytes : List ℕ) : Type 0 where
    pub nothing : bytes ≡ [] → after ≡ before
    pub flushed : bytes ≢ [] → (between : W) × takes before bytes between × flushes between after

  -- Where the output has not failed by then, it had not failed before, and its writer was given these bytes. It
  -- fails for a writer's fault alone: no writer that may not fail makes it fail.
  pub record Puts (before after : Output W) (bytes : List ℕ) : Type 0 where
    pub fine : after.has_failed ≡ false → before.has_failed ≡ false
    pub delivery : after.has_failed ≡ false → IsGiven before.writer after.writer bytes
    pub failed : after.has_failed ≡ true → (before.has_failed ≡ true) ⊎ may_fail before.writer

  -- These bytes were put in parts, one after the other, of which none is empty.
  pub data PutsParts (before : Output W) : Output W → List ℕ → Type 0 where
    none : PutsParts before before []
    more : {between after : Output W} {bytes part : List ℕ} → PutsParts before between bytes → part ≢ [] → Puts between after part → PutsParts before after (bytes ++ part)

  -- A text was put, as a whole. Lines were put before it in parts, if there are any.
  abbrev pub PutsAfterLines : (before after : Output W) (lines text : List ℕ) → Type 0
  PutsAfterLines before after [] text = Puts before after text
  PutsAfterLines before after (byte ∷ lines) text = (between : Output W) × PutsParts before between (byte ∷ lines) × Puts between after text
