-- The words that name instructions (own, in the manner of Linux's `bpf_asm`).
use Rattle.std.specs.Prelude.{ℕ, List, [], ◌∷◌, Option, Some, None, if◌then◌else◌, codes}
use Rattle.std.specs.Str.{bytes_eq}
use Rattle.bpf_code.specs.declared.operation.Width.TheVariants.{Word, Half, Byte}
use Rattle.bpf_code.specs.declared.operation.Arithmetic.TheVariants.{Add, Sub, Mul, Div, Or, And, ShiftLeft, ShiftRight, Mod, Xor}
use Rattle.bpf_code.specs.declared.operation.Test.TheVariants.{Equal, Above, AtLeast, SharesBit}
use Rattle.bpf_text.specs.declared.mnemonic.Mnemonic.{Mnemonic}
use Rattle.bpf_text.specs.declared.mnemonic.Mnemonic.TheVariants.{Load, LoadX, LoadHeader, Store, StoreIndex, Compute, Negation, Always, When, Return, ToIndex, FromIndex}

-- the words, each with its mnemonic
abbrev pub words : List (List ℕ × Mnemonic)
words =
    (codes "ld", Load Word) ∷
    (codes "ldh", Load Half) ∷
    (codes "ldb", Load Byte) ∷
    (codes "ldx", LoadX) ∷
    (codes "ldxb", LoadHeader) ∷
    (codes "st", Store) ∷
    (codes "stx", StoreIndex) ∷
    (codes "add", Compute Add) ∷
    (codes "sub", Compute Sub) ∷
    (codes "mul", Compute Mul) ∷
    (codes "div", Compute Div) ∷
    (codes "or", Compute Or) ∷
    (codes "and", Compute And) ∷
    (codes "lsh", Compute ShiftLeft) ∷
    (codes "rsh", Compute ShiftRight) ∷
    (codes "mod", Compute Mod) ∷
    (codes "xor", Compute Xor) ∷
    (codes "neg", Negation) ∷
    (codes "ja", Always) ∷
    (codes "jeq", When Equal) ∷
    (codes "jgt", When Above) ∷
    (codes "jge", When AtLeast) ∷
    (codes "jset", When SharesBit) ∷
    (codes "ret", Return) ∷
    (codes "tax", ToIndex) ∷
    (codes "txa", FromIndex) ∷
    []

abbrev pub named_in : List ℕ → List (List ℕ × Mnemonic) → Option Mnemonic
named_in word [] = None
named_in word (named ∷ more) = if bytes_eq word named.0 then Some named.1 else named_in word more

-- the mnemonic that a word is, if it is one
unfoldable pub mnemonic_of : List ℕ → Option Mnemonic
mnemonic_of word = named_in word words
