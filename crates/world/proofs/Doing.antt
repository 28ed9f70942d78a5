-- Events done one after the other.
use Rattle.std.proofs.Common.{◌≡◌, ◌+◌, List, [], ◌∷◌, ◌++◌, length, Option, option_to_list, append_assoc, append-nil, length-append, refl, sym, ap, subst, ◌∙◌, arith}
use Rattle.world.specs.declared.event.Event.{Event}
use Rattle.world.specs.declared.answer.Answer.{Answer}
use Rattle.world.specs.Answers.{AreAnswers}
use Rattle.world.specs.WorldState.{WorldState}
use Rattle.world.specs.IsWorld.{IsWorld, AreDone}
use Rattle.world.specs.Steps.{IsNext}
use Rattle.world.proofs.Next.{next_world, next_answer}

pub done_one : (event : Event) (before after : WorldState) (answer : Option Answer) (old new : List Answer)
    → IsNext event before after answer → new ≡ old ++ option_to_list answer → AreDone (event ∷ []) before after old new
done_one event before after answer old new next added = record {
  answers = option_to_list answer;
  added = added;
  counted = next.counted;
  world = λ all was. next_world all before after was event answer next;
  answered = λ all was. (answer, [], sym (append-nil (option_to_list answer)), next_answer all before after was event answer next, refl);
}

answers_end : (all events more : List Event) (first second : List Answer)
    → AreAnswers all events first → AreAnswers (all ++ events) more second → AreAnswers all (events ++ more) (first ++ second)
answers_end all [] more first second none rest =
    subst (λ answers. AreAnswers all more (answers ++ second)) (sym none) (subst (λ before. AreAnswers before more second) (append-nil all) rest)
answers_end all (event ∷ events) more first second answers rest = (
  answers.0,
  answers.1 ++ second,
  ap (λ list. list ++ second) answers.2 ∙ append_assoc (option_to_list answers.0) answers.1 second,
  answers.3,
  answers_end (all ++ event ∷ []) events more answers.1 second answers.4 (subst (λ before. AreAnswers before more second) (sym (append_assoc all (event ∷ []) events)) rest),
)

-- and then others
pub done_more : (events more : List Event) (first second third : WorldState) (old next new : List Answer)
    → AreDone events first second old next → AreDone more second third next new → AreDone (events ++ more) first third old new
done_more events more first second third old next new done then = record {
  answers = done.answers ++ then.answers;
  added = then.added ∙ ap (λ answers. answers ++ then.answers) done.added ∙ append_assoc old done.answers then.answers;
  counted = counted;
  world = λ all was. subst (λ before. IsWorld before third) (append_assoc all events more) (then.world (all ++ events) (done.world all was));
  answered = λ all was. answers_end all events more done.answers then.answers (done.answered all was) (then.answered (all ++ events) (done.world all was));
}
  where
    counted : third.events ≡ first.events + length (events ++ more)
    counted = let a = done.counted in let b = then.counted in let e = length-append events more in omega arith
