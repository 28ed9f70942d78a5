use Rattle.std.proofs.Common.{◌≡◌, ◌++◌, ◌∷◌, List, [], Bool, true, None, sym, ap, subst, ◌∙◌, arith, inl, refl}
use Rattle.std.specs.Prelude.{if◌then◌else◌}
use Rattle.program_table.specs.declared.command.Command.TheVariants.{Connect}
use Rattle.program_table.specs.declared.command.Reply.TheVariants.{Connected}
use Rattle.program_table.specs.Does.{is_accepted, reply_to}
use Rattle.program_table.specs.declared.command.Command.{Command}
use Rattle.program_table.specs.History.{after, IsHistory}
use Rattle.published.specs.Publication.{Publication, with_next}
use Rattle.published.proofs.Refused.{accepted}
use Rattle.routing.specs.Turns.{TurnView, queue_at}
use Rattle.passes.specs.Passes.{PassState}
use Rattle.passes.specs.Theirs.{HaveTurns}
use Rattle.passes.proofs.Theirs.{no_turn, turns_joined}
use Rattle.passes.proofs.Commands.{IsTold, seen_all}
use Rattle.passes.proofs.Joining.{IsFresh, room_for_one, first_own, joined, next_number, not_none}
use Rattle.passes.proofs.control.Control.connect.Goals as goal

pub count_in-requires : goal.count_in-requires
count_in-requires g c =
    let v = c.args.pass.now in
    let b = c.args.self.now in
    let l = b.history in
    let x = Connect c.args.mailbox in
    let n = c.in-Connected.number in
    let told_history : IsTold v c.tell.new.pass c.in_ok-tell.field-0 b = record { told_is = c.in_ok-tell.ensures.0; begins = c.in_ok-tell.ensures.1; same = c.in_ok-tell.ensures.2 } in
    let fresh : IsFresh v b c.connection-connection.result = record { legal = c.state.ensures.history; taken = c.took-took.ensures.own; at = c.connection-connection.ensures; none = c.if-connection-ne0.false } in
    let said = c.in-Ok.ensures.reply ∙ ap (λ (p : Publication g.row.M.Denot). reply_to (after p.history) x) c.self.view_is in
    let on : is_accepted (after l) x ≡ true = accepted (after l) x (λ refusal e. c.in_default.not-Refused refusal (said ∙ e)) in
    let more : c.publish.new.self.history ≡ l ++ x ∷ [] =
    c.in-Ok.ensures.history ∙ ap (λ (p : Publication g.row.M.Denot). with_next p.history x) c.self.view_is ∙ ap (λ (a : Bool). if a then l ++ x ∷ [] else l) on in
    let named : reply_to (after l) x ≡ Connected n = sym said ∙ c.in-Connected.is in
    let next = next_number (after l) c.args.mailbox n named in
    record {
      begins = (x ∷ [], ap (λ k. k ++ x ∷ []) (seen_all v c.tell.new.pass c.in_ok-tell.field-0 b told_history) ∙ sym more ∙ sym c.front.ensures);
      room = room_for_one v c.tell.new.pass c.in_ok-tell.field-0 b c.connection-connection.result told_history fresh;
      number = λ z. not_none (after l).last_connection n next z;
      same = inl (ap (λ (p : PassState g.row.M.Denot). p.connection) c.in_ok-tell.ensures.2 ∙ sym c.connection-connection.ensures ∙ c.if-connection-ne0.false);
      own = first_own v c.tell.new.pass c.in_ok-tell.field-0 c.front.result b c.publish.new.self c.connection-connection.result n c.args.mailbox told_history fresh named more c.front.ensures;
    }

pub returns : goal.returns
returns g c =
    let v = c.args.pass.now in
    let b = c.args.self.now in
    let l = b.history in
    let x = Connect c.args.mailbox in
    let n = c.in-Connected.number in
    let told_history : IsTold v c.tell.new.pass c.in_ok-tell.field-0 b = record { told_is = c.in_ok-tell.ensures.0; begins = c.in_ok-tell.ensures.1; same = c.in_ok-tell.ensures.2 } in
    let fresh : IsFresh v b c.connection-connection.result = record { legal = c.state.ensures.history; taken = c.took-took.ensures.own; at = c.connection-connection.ensures; none = c.if-connection-ne0.false } in
    let said = c.in-Ok.ensures.reply ∙ ap (λ (p : Publication g.row.M.Denot). reply_to (after p.history) x) c.self.view_is in
    let on : is_accepted (after l) x ≡ true = accepted (after l) x (λ refusal e. c.in_default.not-Refused refusal (said ∙ e)) in
    let more : c.publish.new.self.history ≡ l ++ x ∷ [] =
    c.in-Ok.ensures.history ∙ ap (λ (p : Publication g.row.M.Denot). with_next p.history x) c.self.view_is ∙ ap (λ (a : Bool). if a then l ++ x ∷ [] else l) on in (
      joined v c.tell.new.pass c.count_in.new.self c.in_ok-tell.field-0 c.front.result b c.publish.new.self c.connection-connection.result n c.args.mailbox (Connected n) told_history fresh on (sym c.in-Connected.is ∙ said) refl more c.front.ensures c.count_in.ensures,
      ap (λ (p : PassState g.row.M.Denot). Connected p.connection) (sym c.count_in.ensures),
      ap (λ (p : PassState g.row.M.Denot). p.is_closed) c.count_in.ensures ∙ ap (λ (p : PassState g.row.M.Denot). p.is_closed) c.in_ok-tell.ensures.2 ∙ sym c.if-is_closed.ensures,
    )

pub add-requires-clause-new : goal.add-requires-clause-new
add-requires-clause-new g c =
    let h = c.self.inside.publisher.value.history in
    let n = c.in-Connected.number in
    let next = next_number (after h) c.args.mailbox n (sym c.in-Ok.ensures.reply ∙ c.in-Connected.is) in
    let P : List TurnView → Type 0 = λ t. queue_at n t ≡ None in
    let L : Publication g.row.M.Denot → Type 0 = λ p. IsHistory p.history in
    let legal = subst L (sym c.self.view_is) c.state.ensures.history in
    subst P (sym c.reserve.ensures.same.1) (no_turn g.M.Mailbox.outbox_of h n c.self.inside.turns.turns legal (omega (arith, next)) c.self.invariant)

pub invariant_of-self-2 : goal.invariant_of-self-2
invariant_of-self-2 g c =
    let M = g.row.M.Denot in
    let outbox_of = g.M.Mailbox.outbox_of in
    let h = c.self.inside.publisher.value.history in
    let x = Connect c.args.mailbox in
    let n = c.in-Connected.number in
    let on : is_accepted (after h) x ≡ true = accepted (after h) x (λ refusal e. c.in_default.not-Refused refusal (c.in-Ok.ensures.reply ∙ e)) in
    let more : c.publish.new.self.history ≡ h ++ x ∷ [] = c.in-Ok.ensures.history ∙ ap (λ (a : Bool). if a then h ++ x ∷ [] else h) on in
    let next = next_number (after h) c.args.mailbox n (sym c.in-Ok.ensures.reply ∙ c.in-Connected.is) in
    let L : Publication M → Type 0 = λ p. IsHistory p.history in
    let legal = subst L (sym c.self.view_is) c.state.ensures.history in
    let T : List TurnView → Type 0 = λ t. HaveTurns outbox_of h t in
    let P : List (Command M) → Type 0 = λ l. HaveTurns outbox_of l c.add.new.self.turns in
    subst P (sym more) (turns_joined outbox_of h c.args.mailbox n c.args.turn.queue c.reserve.new.self.turns c.add.new.self.turns legal on next c.requires.0 c.add.ensures.added (subst T (sym c.reserve.ensures.same.1) c.self.invariant))
