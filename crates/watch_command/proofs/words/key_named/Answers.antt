use Rattle.std.proofs.Common.{refl}
use Rattle.std.proofs.lemmas.Bool.Decides.{Decides-eqb}
use Rattle.std.proofs.lemmas.Slice.Eq.{slice_eq-Decides}
use Rattle.watch_command.specs.Sayings.{key_of}
use Rattle.watch_command.proofs.WordTable.{passed_on, named_here}
use Rattle.watch_command.proofs.words.key_named.Goals as goal

pub loop-name-init : goal.loop-name-init
unfolding key_of
loop-name-init c = refl

pub returns-then-eq : goal.returns-then-eq
returns-then-eq c =
    named_here _ c.args.word.now _ c.loop-name.name-index _ _ c.eq.result c.loop-name-test.true c.loop-name.invariant (slice_eq-Decides Decides-eqb _ _ _ c.eq.ensures) c.if-eq.true

pub loop-name-preserved : goal.loop-name-preserved
loop-name-preserved c =
    passed_on _ c.args.word.now _ c.loop-name.name-index _ _ c.eq.result c.loop-name-test.true c.loop-name.invariant (slice_eq-Decides Decides-eqb _ _ _ c.eq.ensures) c.if-eq.false
