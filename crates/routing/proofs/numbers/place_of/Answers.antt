use Rattle.std.proofs.Common.{rules}
use Rattle.std.proofs.lemmas.List.Sorted.{answers_always}
use Rattle.routing.proofs.Places.{searched}
use Rattle.routing.proofs.numbers.place_of.Goals as goal

pub returns-clause-found : goal.returns-clause-found
returns-clause-found g c =
    let number = g.T.Numbered.number_of in
    let facts = c.binary_search_by_key.ensures in
    (searched number c.args.number c.args.list.now c.binary_search_by_key.result c.requires facts.bound (facts.position number (answers_always _ _ _ (λ f a r f' called. search rules)))).0

pub returns-clause-gap : goal.returns-clause-gap
returns-clause-gap g c =
    let number = g.T.Numbered.number_of in
    let facts = c.binary_search_by_key.ensures in
    (searched number c.args.number c.args.list.now c.binary_search_by_key.result c.requires facts.bound (facts.position number (answers_always _ _ _ (λ f a r f' called. search rules)))).1
