use Rattle.std.proofs.Common.{rules}
use Rattle.sessions.specs.SessionState.{own_outbox}
use Rattle.sessions.proofs.Stepping.{line_taken}
use Rattle.sessions.proofs.session.Session.take_line.Goals as goal

pub returns-clause-takes : goal.returns-clause-takes
returns-clause-takes g c =
    let client = c.self.inside.client in
    line_taken c.self.inside.talk.auth _ c.self.inside.talk.has_begun _ _ c.self.inside.input.unread _ c.in_ok-taken.taken (own_outbox client) _ _ c.args.self.now (search rules) (search rules) (search rules) (search rules) (search rules)
