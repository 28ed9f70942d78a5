use Rattle.std.proofs.Common.{◌≡◌, ℕ, ◌<◌, ◌≤◌, nat_lt, false, arith}
use Rattle.std.proofs.lemmas.Bool.{false_from_ne_true}
use Rattle.std.proofs.lemmas.Bool.Decides.{Decides-ltb}
use Rattle.summary.specs.declared.edition.Edition.{Edition}
use Rattle.summary.specs.declared.edition.Edition.TheVariants.{One, Two}
use Rattle.summary.specs.Layout.{summary_len}
use Rattle.bpf_trace.proofs.image_words.push_place.Goals as goal

-- a place after a summary isn't in it
after : (edition : Edition) (at len : ℕ) → len ≡ summary_len edition → len ≤ at → nat_lt at (summary_len edition) ≡ false
after edition at len is beyond =
    false_from_ne_true (nat_lt at (summary_len edition)) (λ inside. let lower : at < summary_len edition = (Decides-ltb at (summary_len edition)).0 inside in absurd (omega arith))

-- a place in a summary is below the longest
below : (edition : Edition) (at len : ℕ) → len ≡ summary_len edition → at < len → at < 976
below One at len is inside = omega arith
below Two at len is inside = omega arith

pub returns-then-at-len : goal.returns-then-at-len
returns-then-at-len c =
    rw (after c.args.edition c.args.at _ c.summary_len-len.ensures c.if-at-len.true, ← c.summary_len-len.ensures) c.push_byte.ensures

pub push_word-requires : goal.push_word-requires
push_word-requires c = below c.args.edition c.args.at _ c.summary_len-len.ensures c.if-at-len.false
