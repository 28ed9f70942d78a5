use Rattle.filter_compile.proofs.ArgParts.{arg_number_is}
use Rattle.filter_compile.proofs.code.Code.arg_number.Goals as goal

pub returns : goal.returns
returns c =
    arg_number_is _ c.number.result c.argument_place.result c.args.relation c.args.value c.args.exits c.in_ok-near.near _ _ _ c.args.self.now _ _ _ c.in_ok-near.ensures.near c.in_ok-near.ensures.code c.for_equality.ensures c.equality_of.ensures c.comparison_of.ensures c.in_ok-compared.ensures c.number.ensures.value c.argument_place.ensures c.in_ok-index_start.ensures
