use Rattle.std.proofs.Common.{List, ◌++◌, drop}
use Rattle.message_view.specs.Message.{Message}
use Rattle.message_view.specs.Valid.{Valid}
use Rattle.filter.specs.FilterTree.{FilterTree}
use Rattle.filter.specs.Filters.{tree_of}
use Rattle.filter_reasons.specs.Lent.{trees}
use Rattle.filter_reasons.specs.TestsOf.{tests_of}
use Rattle.filter_reasons.specs.Turned.{AreTurning}
use Rattle.filter_reasons.proofs.near.near_tests.Given as goal

-- those among the tests that are left complete those that were found
abbrev pub invariant-loop-place : goal.invariant-loop-place
invariant-loop-place l =
    (m : Message) → Valid l.view m → (later : List FilterTree) → AreTurning (tree_of l.filter) m (λ name. l.owns) l.place (trees (drop l.place l.tests.items)) later → AreTurning (tree_of l.filter) m (λ name. l.owns) 0 (tests_of (tree_of l.filter)) (trees l.near.items ++ later)
