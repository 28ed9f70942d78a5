use Rattle.std.proofs.Common.{Option, rules, inl, inr, refl, sym, ap, subst}
use Rattle.peers.specs.PeerState.{PeerState}
use Rattle.sessions.specs.SessionState.{SessionState, peer_of}
use Rattle.sessions.specs.Steps.{IsFoundShut, IsShutIf}
use Rattle.sessions.specs.declared.error.SessionError.{SessionError}
use Rattle.sessions.specs.declared.error.SessionError.TheVariants.{Slow}
use Rattle.sessions.proofs.Stepping.{found_shut}
use Rattle.sessions.proofs.session.Session.step.Goals as goal

-- a client whose outbox is found to be shut is too slow, and nothing else has changed
pub returns-then-is_shut-clause-steps : goal.returns-then-is_shut-clause-steps
returns-then-is_shut-clause-steps g c =
    let P : Option (PeerState g.row.M.Denot) → Type 0 = λ p. IsFoundShut p (peer_of c.is_shut.new.self) in
    let found = subst P (ap (λ (s : SessionState g.row.M.Denot). s.peer) c.self.view_is) c.if-is_shut.ensures.shut in
    inr (search rules, record c.args.self.now { peer = peer_of c.is_shut.new.self }, search rules, inl (c.fail.ensures.error, found, refl))

pub returns-then-is_shut-clause-slow : goal.returns-then-is_shut-clause-slow
returns-then-is_shut-clause-slow g c = λ none.
    let P : Option (PeerState g.row.M.Denot) → Type 0 = λ p. IsShutIf p Slow in
    let Q : SessionError → Type 0 = λ e. IsShutIf c.fail.new.self.peer e in
    subst Q (sym c.fail.ensures.error) (subst P (sym (ap (λ (s : SessionState g.row.M.Denot). s.peer) c.fail.ensures.ended)) (found_shut _ _ c.if-is_shut.ensures.shut))
