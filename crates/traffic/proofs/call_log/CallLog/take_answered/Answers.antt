use Rattle.std.proofs.Common.{refl, ap, ◌∙◌}
use Rattle.lru.specs.LruCache.{lru_cache}
use Rattle.traffic.specs.OpenCalls.{Calls}
use Rattle.traffic.specs.Roles.{shown_call}
use Rattle.traffic.proofs.Pairs.{pair_taken, pair_left}
use Rattle.traffic.proofs.call_log.CallLog.take_answered.Goals as goal

pub returns-in-Some-clause-call : goal.returns-in-Some-clause-call
returns-in-Some-clause-call c =
    rw (← c.self.view_is)
    (pair_taken (shown_call c.args.answer.now) (record { caller = c.in_ok-from_str.field-0; serial = c.args.answer.now.serial }) c.self.inside.calls.entries c.peek.result c.in-Some.call c.pop.result
    c.in_ok-from_str.ensures.ok refl c.peek.ensures c.in-Some.is (cc) c.pop.ensures.value)

pub returns-in-Some-clause-others : goal.returns-in-Some-clause-others
returns-in-Some-clause-others c =
    rw (← c.self.view_is)
    (c.pop.ensures.entries
    ∙ ap (λ (calls : Calls). lru_cache calls c.self.inside.calls.cap)
    (pair_left (shown_call c.args.answer.now) (record { caller = c.in_ok-from_str.field-0; serial = c.args.answer.now.serial }) c.self.inside.calls.entries c.peek.result c.in-Some.call
    c.in_ok-from_str.ensures.ok refl c.peek.ensures c.in-Some.is (cc)))
