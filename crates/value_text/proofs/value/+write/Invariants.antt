use Rattle.std.proofs.Common.{◌+◌, ◌*◌}
use Rattle.value_text.proofs.value.+write.Given as goal

abbrev pub decreases-write_value : goal.decreases-write_value
decreases-write_value l = 4 * l.levels

abbrev pub decreases-write_variant : goal.decreases-write_variant
decreases-write_variant l = 4 * l.levels + 1

abbrev pub decreases-write_members : goal.decreases-write_members
decreases-write_members l = 4 * l.levels + 1

abbrev pub decreases-write_element : goal.decreases-write_element
decreases-write_element l = 4 * l.levels + 1

abbrev pub decreases-write_array : goal.decreases-write_array
decreases-write_array l = 4 * l.levels + 2

abbrev pub invariant-write_members-loop-member : goal.invariant-write_members-loop-member
invariant-write_members-loop-member l =
    (goal.iterator-write_members-loop-member).can_next l.member-iterator ×
    (goal.iterator-write_members-loop-member).is_finite l.member-iterator
