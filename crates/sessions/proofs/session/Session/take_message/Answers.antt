use Rattle.std.proofs.Common.{◌≡◌, ℕ, List, ◌++◌, Option, Bor, rules, subst}
use Rattle.std.specs.Prelude.{IfSome}
use Rattle.sessions.specs.SessionState.{own_outbox, peer_of}
use Rattle.sessions.proofs.Stepping.{message_handled, message_refused}
use Rattle.sessions.proofs.session.Session.take_message.Goals as goal

pub returns-clause-takes : goal.returns-clause-takes
returns-clause-takes g c =
    let P : Option (Bor (List ℕ)) → Type 0 = λ front. IfSome front (λ frame. (rest : List ℕ) × (c.self.inside.input.unread ≡ frame.now ++ rest)) in
    let first = subst P c.in-Ok-Some.field-0-is c.in-Ok-Some.ensures.first in
    message_handled g.M.Mailbox.outbox_of c.args.context.now.shares c.self.inside.talk.auth c.self.inside.talk.has_begun c.self.inside.fault c.in-Ok-Some.frame.now first.0 c.self.inside.input.unread c.skip.new.self.unread
    (own_outbox c.self.inside.client) (own_outbox c.handle.new.self) (peer_of c.self.inside.client) (peer_of c.handle.new.self) c.args.self.now c.self.view_is (search rules) first.1 (search rules) (search rules) c.handle.ensures.outbox

pub returns-in_err-handle-in-Ok-clause-takes : goal.returns-in_err-handle-in-Ok-clause-takes
returns-in_err-handle-in-Ok-clause-takes g c =
    let P : Option (Bor (List ℕ)) → Type 0 = λ front. IfSome front (λ frame. (rest : List ℕ) × (c.self.inside.input.unread ≡ frame.now ++ rest)) in
    let first = subst P c.in-Ok-Some.field-0-is c.in-Ok-Some.ensures.first in
    message_refused g.M.Mailbox.outbox_of c.args.context.now.shares c.self.inside.talk.auth c.self.inside.talk.has_begun c.self.inside.fault c.in-Ok-Some.frame.now first.0 c.self.inside.input.unread
    (own_outbox c.self.inside.client) (own_outbox c.handle.new.self) (peer_of c.self.inside.client) (peer_of c.handle.new.self) c.in_err-handle-in-Ok.field-0.0 c.from_residual.result c.args.self.now c.self.view_is (search rules) (search rules) first.1 (search rules) c.handle.ensures.outbox
