-- The spelling of operands: a tree's tokens, and how tokens stand in bytes (own, in the manner of Linux's
-- `bpf_asm`).
use Rattle.std.specs.Prelude.{◌≡◌, ℕ, true, List, [], ◌∷◌, Some, codes}
use Rattle.bpf_text.specs.Lexis.{word_at, number_at, sign_at, is_over}
use Rattle.bpf_text.specs.Operands.{Operands, Absent, Number, Length, Place, Indexed, Scratch, Header, Name, NumberTo, NameTo, Targets, One, Both}

-- a word, a number by its value, or a single character
pub data Token : Type 0 where
  Word : List ℕ → Token
  Value : ℕ → Token
  Sign : ℕ → Token

-- bytes begin with a token, and the rest follows
abbrev pub IsToken : Token → List ℕ → List ℕ → Type 0
IsToken (Word word) bytes rest = word_at bytes ≡ Some (word, rest)
IsToken (Value number) bytes rest = number_at bytes ≡ Some (number, rest)
IsToken (Sign sign) bytes rest = sign_at sign bytes ≡ Some rest

-- bytes begin with tokens, and the rest follows
abbrev pub Front : List Token → List ℕ → List ℕ → Type 0
Front [] bytes rest = bytes ≡ rest
Front (token ∷ tokens) bytes rest = (tail : List ℕ) × IsToken token bytes tail × Front tokens tail rest

-- bytes are tokens, and nothing but a comment follows
pub record AreTokens (tokens : List Token) (bytes : List ℕ) : Type 0 where
  pub rest : List ℕ
  pub front : Front tokens bytes rest
  pub over : is_over rest ≡ true

abbrev pub targets_tokens : Targets → List Token
targets_tokens (One first) = Word first ∷ []
targets_tokens (Both first second) = Word first ∷ Sign 44 ∷ Word second ∷ []

-- the tokens of operands
abbrev pub tokens_of : Operands → List Token
tokens_of Absent = []
tokens_of (Number k) = Sign 35 ∷ Value k ∷ []
tokens_of Length = Sign 35 ∷ Word (codes "len") ∷ []
tokens_of (Place k) = Sign 91 ∷ Value k ∷ Sign 93 ∷ []
tokens_of (Indexed k) = Sign 91 ∷ Word (codes "x") ∷ Sign 43 ∷ Value k ∷ Sign 93 ∷ []
tokens_of (Scratch k) = Word (codes "M") ∷ Sign 91 ∷ Value k ∷ Sign 93 ∷ []
tokens_of (Header k) = Value 4 ∷ Sign 42 ∷ Sign 40 ∷ Sign 91 ∷ Value k ∷ Sign 93 ∷ Sign 38 ∷ Value 15 ∷ Sign 41 ∷ []
tokens_of (Name name) = Word name ∷ []
tokens_of (NumberTo k targets) = Sign 35 ∷ Value k ∷ Sign 44 ∷ targets_tokens targets
tokens_of (NameTo name targets) = Word name ∷ Sign 44 ∷ targets_tokens targets
