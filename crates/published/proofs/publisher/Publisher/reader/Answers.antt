use Rattle.published.proofs.Views.{admits, forks, merges}
use Rattle.published.proofs.publisher.Publisher.reader.Goals as goal

pub reader-requires : goal.reader-requires
reader-requires g c = admits

pub tell-note-requires : goal.tell-note-requires
tell-note-requires g c = forks _ _

pub learn-requires-clause-rule : goal.learn-requires-clause-rule
learn-requires-clause-rule g c = merges _ _ _ _

pub invariant_of-self : goal.invariant_of-self
invariant_of-self g c =
    let kept = c.tell-note.ensures.kept in
    rw (kept.0, kept.1, kept.2, kept.3) c.self.invariant
