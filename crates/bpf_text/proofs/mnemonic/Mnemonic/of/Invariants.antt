use Rattle.std.proofs.Common.{◌≡◌, drop, map}
use Rattle.bpf_text.specs.Mnemonics.{named_in, mnemonic_of}
use Rattle.bpf_text.proofs.mnemonic.Mnemonic.of.Given as goal

abbrev pub invariant-loop-name : goal.invariant-loop-name
invariant-loop-name l = named_in l.word (map (λ named. (named.0.now, named.1)) (drop l.name-index l.name-items)) ≡ mnemonic_of l.word
