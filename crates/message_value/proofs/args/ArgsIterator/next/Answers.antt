use Rattle.std.proofs.Common.{◌∷◌, length, sym, ap, subst, ◌∙◌, arith}
use Rattle.message_value.specs.Arguments.{Argument}
use Rattle.message_value.specs.ArgumentsLeft.{arguments_left, AreLeft}
use Rattle.message_value.specs.ShownArguments.{shown_arg}
use Rattle.message_value.specs.Reading.{At}
use Rattle.message_value.proofs.ArgumentTurns.{next_left}
use Rattle.message_value.proofs.args.ArgsIterator.next.Goals as goal

pub read_arg-requires : goal.read_arg-requires
read_arg-requires c =
    let n = next_left c.self.inside.order c.self.inside.types c.in_ok-value_type.value_type c.next.new.self c.self.inside.cursor c.self.invariant c.in_ok-value_type.ensures.steps in
    (n.type, n.spelled, (n.found, n.read))

pub invariant_of-self-2 : goal.invariant_of-self-2
invariant_of-self-2 c =
    let n = next_left c.self.inside.order c.self.inside.types c.in_ok-value_type.value_type c.next.new.self c.self.inside.cursor c.self.invariant c.in_ok-value_type.ensures.steps in
    let r = c.read_arg.ensures.shows n.type n.spelled n.found n.read in
    subst (AreLeft c.self.inside.order c.next.new.self) (sym r.0) n.left

pub returns-clause-steps : goal.returns-clause-steps
returns-clause-steps c =
    let n = next_left c.self.inside.order c.self.inside.types c.in_ok-value_type.value_type c.next.new.self c.self.inside.cursor c.self.invariant c.in_ok-value_type.ensures.steps in
    let r = c.read_arg.ensures.shows n.type n.spelled n.found n.read in
    sym c.self.view_is ∙ n.is c.read_arg.ensures.bytes
    ∙ ap (λ (a : Argument). a ∷ arguments_left c.self.inside.order c.next.new.self n.found.1) (sym r.1)
    ∙ ap (λ (x : At). shown_arg c.read_arg.result ∷ arguments_left c.self.inside.order c.next.new.self x) (sym r.0)

pub returns-clause-goes : goal.returns-clause-goes
returns-clause-goes c =
    let steps = returns-clause-steps c in
    let longer = ap (length {A = Argument}) steps in
    omega arith
