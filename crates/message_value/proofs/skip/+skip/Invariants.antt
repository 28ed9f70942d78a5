use Rattle.std.proofs.Common.{◌≡◌, ◌+◌, ◌*◌, Ok}
use Rattle.signature.specs.DataType.{DataTypes, AllFit, slices}
use Rattle.message_value.specs.Value.{Values}
use Rattle.message_value.specs.Reading.{At, value_at, members_at}
use Rattle.message_value.proofs.SkipValues.{MembersAhead}
use Rattle.message_value.proofs.skip.+skip.Given as goal

abbrev pub decreases-skip_value : goal.decreases-skip_value
decreases-skip_value l = 2 * l.levels

abbrev pub decreases-skip_members : goal.decreases-skip_members
decreases-skip_members l = 2 * l.levels + 1

abbrev pub decreases-skip_variant : goal.decreases-skip_variant
decreases-skip_variant l = 2 * l.levels + 1

abbrev pub invariant-skip_members-loop-member : goal.invariant-skip_members-loop-member
invariant-skip_members-loop-member l =
    (goal.iterator-skip_members-loop-member).can_next l.member-iterator ×
    (goal.iterator-skip_members-loop-member).is_finite l.member-iterator ×
    ((types : DataTypes) (found : Values × At) → l.fn.members ≡ slices types → AllFit 0 0 types → members_at (value_at l.levels l.order) types l.fn.cursor ≡ Ok found → MembersAhead l.member-iterator (value_at l.levels l.order) l.cursor found.1)
