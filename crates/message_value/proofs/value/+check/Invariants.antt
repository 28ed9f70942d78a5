use Rattle.std.proofs.Common.{◌≡◌, ◌+◌, ◌*◌, length}
use Rattle.signature.specs.BasicType.{byte_of}
use Rattle.signature.specs.DataType.{DataType, DataTypes, TypeText, AllFit, slices}
use Rattle.message_value.specs.Reading.{each_at, value_at, members_at, entry_at}
use Rattle.message_value.proofs.ArrayTurns.{Left}
use Rattle.message_value.proofs.MemberTurns.{MembersLeft}
use Rattle.message_value.proofs.value.+check.Given as goal

abbrev pub decreases-check_value : goal.decreases-check_value
decreases-check_value l = 3 * l.levels

abbrev pub decreases-check_variant : goal.decreases-check_variant
decreases-check_variant l = 3 * l.levels + 1

abbrev pub decreases-check_members : goal.decreases-check_members
decreases-check_members l = 3 * l.levels + 1

abbrev pub decreases-check_elements : goal.decreases-check_elements
decreases-check_elements l = 3 * l.levels + 1

abbrev pub decreases-check_entry : goal.decreases-check_entry
decreases-check_entry l = 3 * l.levels + 1

abbrev pub decreases-check_array : goal.decreases-check_array
decreases-check_array l = 3 * l.levels + 2

abbrev pub decreases-check_dict : goal.decreases-check_dict
decreases-check_dict l = 3 * l.levels + 2

abbrev pub invariant-check_elements-loop-inner : goal.invariant-check_elements-loop-inner
invariant-check_elements-loop-inner l =
    (type : DataType) → TypeText type l.element → Left (value_at l.levels l.order type) l.inner (each_at (value_at l.levels l.order type) (length l.initial.inner.rest) l.initial.inner)

abbrev pub decreases-check_elements-loop-inner : goal.decreases-check_elements-loop-inner
decreases-check_elements-loop-inner l = length l.inner.rest

abbrev pub invariant-check_dict-loop-inner : goal.invariant-check_dict-loop-inner
invariant-check_dict-loop-inner l =
    (type : DataType) → TypeText type l.value
    → Left (entry_at (value_at l.levels l.order) (byte_of l.key) type) l.inner (each_at (entry_at (value_at l.levels l.order) (byte_of l.key) type) (length l.initial.inner.rest) l.initial.inner)

abbrev pub decreases-check_dict-loop-inner : goal.decreases-check_dict-loop-inner
decreases-check_dict-loop-inner l = length l.inner.rest

abbrev pub invariant-check_members-loop-member : goal.invariant-check_members-loop-member
invariant-check_members-loop-member l =
    (goal.iterator-check_members-loop-member).can_next l.member-iterator ×
    (goal.iterator-check_members-loop-member).is_finite l.member-iterator ×
    ((types : DataTypes) → l.fn.members ≡ slices types → AllFit 0 0 types → MembersLeft l.member-iterator (value_at l.levels l.order) l.cursor (members_at (value_at l.levels l.order) types l.fn.cursor))
