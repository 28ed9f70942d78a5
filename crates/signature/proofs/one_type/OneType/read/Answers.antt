use Rattle.std.proofs.Common.{sym, ◌∙◌, ap, ◌∷◌, List, ℕ, subst, arith}
use Rattle.std.specs.Prelude.{IsSome}
use Rattle.signature.specs.DataType.{SigText, no_types, one_more}
use Rattle.signature.specs.Trees.{type_of}
use Rattle.signature.proofs.TreesOfTexts.{SigText-TypeText, only_lent, one_lent, no_tree, some_tree}
use Rattle.signature.proofs.one_type.OneType.read.Goals as goal
use Rattle.signature.proofs.one_type.OneType.read.Goals.{in_default-2-via-in-Some+in_default, in_default-2-via-in_default}

pub returns-in-Some-clause-tree : goal.returns-in-Some-clause-tree
returns-in-Some-clause-tree c =
    let found = c.in-Some.ensures in
    let one = found.1 in
    subst (λ t. IsSome (type_of t)) (sym found.0) (some_tree found.2.0 c.args.text.now found.2.1 (omega arith))

pub returns-in_default-read-clause-only : goal.returns-in_default-read-clause-only
returns-in_default-read-clause-only c = λ type is short.
    c.in_default-read.ensures.only (one_more type no_types) (SigText-TypeText type c.args.text.now is short)

pub returns-in-Some-None-clause-found : goal.returns-in-Some-None-clause-found
returns-in-Some-None-clause-found c =
    let found = c.in-Ok.ensures.found in
    let here = subst (SigText found.1.0) (sym found.0) found.1.1 in
    let lent = sym (c.types-types.ensures found.1.0 here) ∙ c.in-Some-None.ensures.steps ∙ ap (λ (x : List (List ℕ)). c.in-Some-None.only ∷ x) c.in-Some-None.ensures'.steps.0 in
    let one = only_lent found.1.0 c.args.text.now c.in-Some-None.only found.1.1 lent in
    (one.same, one.short, (one.type, one.is))

pub returns-in-Some-None-clause-tree : goal.returns-in-Some-None-clause-tree
returns-in-Some-None-clause-tree c =
    let found = returns-in-Some-None-clause-found c in
    subst (λ t. IsSome (type_of t)) (sym found.0) (some_tree found.2.0 c.args.text.now found.2.1 found.1)

pub returns-in_default-2-clause-only : goal.returns-in_default-2-clause-only
returns-in_default-2-clause-only c = λ type is short.
    let types = one_more type no_types in
    let here = subst (SigText types) (sym c.in-Ok.ensures.found.0) (SigText-TypeText type c.args.text.now is short) in
    let one = one_lent c.types-types.result c.next.new.self c.next-2.new.self _ c.next.result c.next-2.result (c.types-types.ensures types here) c.next.ensures.steps c.next-2.ensures.steps in
    elim c.in_default-2.branch [
      | in_default-2-via-in-Some+in_default w ↦ let none = one.1 in let some = w.in_default-2.is-1 in absurd cc
      | in_default-2-via-in_default w ↦ let some = one.0 in let none = w.in_default-2.is-0 in absurd cc
    ]

pub returns-in_default-2-clause-tree : goal.returns-in_default-2-clause-tree
returns-in_default-2-clause-tree c = no_tree c.args.text.now (λ type is short. let no = returns-in_default-2-clause-only c type is short in absurd cc)
