use Rattle.std.proofs.Common.{sym, ◌∙◌}
use Rattle.message_build.proofs.AllKept.{copied, front_stays}
use Rattle.message_build.proofs.kept_fields.push_kept_of.Goals as goal

pub returns-then-are_all_kept-clause-front : goal.returns-then-are_all_kept-clause-front
returns-then-are_all_kept-clause-front c = front_stays c.extend_from_slice.result _ _ _ c.extend_from_slice.ensures.items

pub returns-then-are_all_kept-clause-kept : goal.returns-then-are_all_kept-clause-kept
returns-then-are_all_kept-clause-kept c = λ fields are is.
    copied c.extend_from_slice.result c.args.order _ _ c.args.array.now fields c.requires.begun is (sym c.if-are_all_kept.true ∙ c.are_all_kept.ensures fields are is) c.extend_from_slice.ensures.items
