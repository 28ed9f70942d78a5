use Rattle.filter_compile.proofs.ArgParts.{compared_is}
use Rattle.filter_compile.proofs.code.Code.compared.Goals as goal

pub returns : goal.returns
returns c =
    compared_is _ c.args.asked.test c.args.asked.value c.args.asked.exits c.args.other c.bits_of-bits.result c.args.self.now _ _ _ _ _ c.bits_of-bits.ensures c.in_ok-plain.ensures c.in_ok-little.ensures c.in_ok-words.ensures c.in_ok-big.ensures c.in_ok-word_test.ensures
