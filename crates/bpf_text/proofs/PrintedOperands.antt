-- The printed operands of an instruction are its operands, and with its mnemonic they name its row.
use Rattle.std.proofs.Common.{◌≡◌, ℕ, ◌+◌, ◌<◌, ◌^◌, true, false, List, [], ◌∷◌, ◌++◌, Some, refl, append-nil, append_assoc, codes, decimal}
use Rattle.bpf_code.specs.declared.instruction.Ins.{Ins}
use Rattle.bpf_code.specs.declared.operation.Op.{Op}
use Rattle.bpf_code.specs.declared.operation.Op.TheVariants.{LoadConstant, LoadImage, LoadIndexed, LoadScratch, LoadLength, IndexConstant, IndexScratch, IndexLength, IndexHeader, StoreA, StoreX, Compute, Negate, Jump, Branch, ReturnConstant, ReturnA, IndexFromA, LoadFromX}
use Rattle.bpf_code.specs.declared.operation.Width.TheVariants.{Word as WordWidth}
use Rattle.bpf_code.specs.declared.operation.Operand.TheVariants.{Constant, Index}
use Rattle.bpf_text.specs.declared.mnemonic.Mnemonic.{Mnemonic}
use Rattle.bpf_text.specs.declared.mnemonic.Mnemonic.TheVariants as mnemonic
use Rattle.bpf_text.specs.Lexis.{is_blank, is_digit, is_name_byte, unblanked, number_in, number_of, word_at, number_at, sign_at, is_over}
use Rattle.bpf_text.specs.Grammar.{Token, Word, Value, Sign, Front, AreTokens, targets_tokens, tokens_of}
use Rattle.bpf_text.specs.Operands.{Operands, Absent, Number, Length, Place, Indexed, Scratch, Header, Name, NumberTo, NameTo, Targets, Both}
use Rattle.bpf_text.specs.Printing.{operand_text, targets_text}
use Rattle.bpf_text.specs.Rows.{LabelIns, Jumps, Stays, Goes, Parts}
use Rattle.bpf_text.specs.Used.{used_k}
use Rattle.bpf_text.proofs.PrintedTokens.{Stops, token_after_blank, sign_here, word_here, number_here, number_printed, label_name, name_printed}

-- ---- what an instruction is printed as

abbrev pub targets_for : ℕ → Ins → Targets
targets_for place ins = Both (label_name (place + 1 + ins.jt)) (label_name (place + 1 + ins.jf))

abbrev pub operands_for : ℕ → Op → Ins → Operands
operands_for place LoadConstant ins = Number ins.k
operands_for place (LoadImage width) ins = Place ins.k
operands_for place (LoadIndexed width) ins = Indexed ins.k
operands_for place LoadScratch ins = Scratch ins.k
operands_for place LoadLength ins = Length
operands_for place IndexConstant ins = Number ins.k
operands_for place IndexScratch ins = Scratch ins.k
operands_for place IndexLength ins = Length
operands_for place IndexHeader ins = Header ins.k
operands_for place StoreA ins = Scratch ins.k
operands_for place StoreX ins = Scratch ins.k
operands_for place (Compute f Constant) ins = Number ins.k
operands_for place (Compute f Index) ins = Name (codes "x")
operands_for place Negate ins = Absent
operands_for place Jump ins = Name (label_name (place + 1 + ins.k))
operands_for place (Branch test Constant) ins = NumberTo ins.k (targets_for place ins)
operands_for place (Branch test Index) ins = NameTo (codes "x") (targets_for place ins)
operands_for place ReturnConstant ins = Number ins.k
operands_for place ReturnA ins = Name (codes "a")
operands_for place IndexFromA ins = Absent
operands_for place LoadFromX ins = Absent

abbrev pub mnemonic_for : Op → Mnemonic
mnemonic_for LoadConstant = mnemonic.Load WordWidth
mnemonic_for (LoadImage width) = mnemonic.Load width
mnemonic_for (LoadIndexed width) = mnemonic.Load width
mnemonic_for LoadScratch = mnemonic.Load WordWidth
mnemonic_for LoadLength = mnemonic.Load WordWidth
mnemonic_for IndexConstant = mnemonic.LoadX
mnemonic_for IndexScratch = mnemonic.LoadX
mnemonic_for IndexLength = mnemonic.LoadX
mnemonic_for IndexHeader = mnemonic.LoadHeader
mnemonic_for StoreA = mnemonic.Store
mnemonic_for StoreX = mnemonic.StoreIndex
mnemonic_for (Compute f operand) = mnemonic.Compute f
mnemonic_for Negate = mnemonic.Negation
mnemonic_for Jump = mnemonic.Always
mnemonic_for (Branch test operand) = mnemonic.When test
mnemonic_for ReturnConstant = mnemonic.Return
mnemonic_for ReturnA = mnemonic.Return
mnemonic_for IndexFromA = mnemonic.ToIndex
mnemonic_for LoadFromX = mnemonic.FromIndex

abbrev pub jumps_for : ℕ → Op → Ins → Jumps
jumps_for place Jump ins = Goes (label_name (place + 1 + ins.k))
jumps_for place (Branch test operand) ins = Parts (targets_for place ins)
jumps_for place _ ins = Stays

-- a jump's k is the distance to its label
abbrev pub row_k : Op → ℕ → ℕ
row_k Jump k = 0
row_k op k = used_k op k

abbrev pub row_for : ℕ → Op → Ins → LabelIns
row_for place op ins = record { op = op; k = row_k op ins.k; jumps = jumps_for place op ins }

-- the targets of a jump at a place are places
abbrev pub IsNear : ℕ → Op → Ins → Type 0
IsNear place Jump ins = place + 1 + ins.k < 2 ^ 64
IsNear place (Branch test operand) ins = (place + 1 + ins.jt < 2 ^ 64) × (place + 1 + ins.jf < 2 ^ 64)
IsNear place _ ins = Unit {0}

-- what is printed after the mnemonic
abbrev pub after_word : ℕ → Op → Ins → List ℕ
after_word place op ins = operand_text op ins.k ++ targets_text place op ins

-- ---- operands

over_nil : is_over [] ≡ true
unfolding is_over unblanked
over_nil = refl

blank_sign : (sign : ℕ) (rest : List ℕ) → is_blank sign ≡ false → sign_at sign (32 ∷ sign ∷ rest) ≡ Some rest
blank_sign sign rest dark = token_after_blank (Sign sign) (sign ∷ rest) rest (sign_here sign rest dark)

ended : (tokens : List Token) (bytes : List ℕ) → Front tokens bytes [] → AreTokens tokens bytes
ended tokens bytes front = record { rest = []; front = front; over = over_nil }

-- [ k ]
bracket_front : (k : ℕ) (rest : List ℕ) → k < 2 ^ 32 → Front (Sign 91 ∷ Value k ∷ Sign 93 ∷ []) (91 ∷ decimal k ++ 93 ∷ rest) rest
bracket_front k rest low =
    (decimal k ++ 93 ∷ rest, sign_here 91 (decimal k ++ 93 ∷ rest) refl, (93 ∷ rest, number_printed k (93 ∷ rest) low refl, (rest, sign_here 93 rest refl, refl)))

one_letter : (b : ℕ) (rest : List ℕ) → is_blank b ≡ false → is_digit b ≡ false → is_name_byte b ≡ true → Stops rest → word_at (b ∷ rest) ≡ Some (b ∷ [], rest)
one_letter b rest dark letter name stops = word_here b [] rest dark letter (rw name) stops

hash_tokens : (k : ℕ) (more : List Token) (rest : List ℕ) → k < 2 ^ 32 → Stops rest → Front more rest [] → AreTokens (Sign 35 ∷ Value k ∷ more) (32 ∷ 35 ∷ decimal k ++ rest)
hash_tokens k more rest low stops later =
    ended (Sign 35 ∷ Value k ∷ more) (32 ∷ 35 ∷ decimal k ++ rest) (decimal k ++ rest, blank_sign 35 (decimal k ++ rest) refl, (rest, number_printed k rest low stops, later))

number_tokens : (k : ℕ) → k < 2 ^ 32 → AreTokens (tokens_of (Number k)) (32 ∷ 35 ∷ decimal k ++ [])
number_tokens k low = hash_tokens k [] [] low refl refl

place_tokens : (k : ℕ) → k < 2 ^ 32 → AreTokens (tokens_of (Place k)) (32 ∷ 91 ∷ decimal k ++ 93 ∷ [])
place_tokens k low =
    ended (tokens_of (Place k)) (32 ∷ 91 ∷ decimal k ++ 93 ∷ [])
    (decimal k ++ 93 ∷ [], blank_sign 91 (decimal k ++ 93 ∷ []) refl, (93 ∷ [], number_printed k (93 ∷ []) low refl, ([], sign_here 93 [] refl, refl)))

indexed_tokens : (k : ℕ) → k < 2 ^ 32 → AreTokens (tokens_of (Indexed k)) (32 ∷ 91 ∷ 120 ∷ 43 ∷ decimal k ++ 93 ∷ [])
indexed_tokens k low =
    let rest : List ℕ = decimal k ++ 93 ∷ [] in
    ended (tokens_of (Indexed k)) (32 ∷ 91 ∷ 120 ∷ 43 ∷ rest)
    (120 ∷ 43 ∷ rest, blank_sign 91 (120 ∷ 43 ∷ rest) refl, (43 ∷ rest, one_letter 120 (43 ∷ rest) refl refl refl refl, (rest, sign_here 43 rest refl, (93 ∷ [], number_printed k (93 ∷ []) low refl, ([], sign_here 93 [] refl, refl)))))

scratch_tokens : (k : ℕ) → k < 2 ^ 32 → AreTokens (tokens_of (Scratch k)) (32 ∷ 77 ∷ 91 ∷ decimal k ++ 93 ∷ [])
scratch_tokens k low =
    let rest : List ℕ = 91 ∷ decimal k ++ 93 ∷ [] in
    ended (tokens_of (Scratch k)) (32 ∷ 77 ∷ rest)
    (rest, token_after_blank (Word (codes "M")) (77 ∷ rest) rest (one_letter 77 rest refl refl refl refl), bracket_front k [] low)

four_value : number_of (52 ∷ []) ≡ Some 4
unfolding number_in
four_value = refl

fifteen_value : number_of (48 ∷ 120 ∷ 102 ∷ []) ≡ Some 15
unfolding number_in
fifteen_value = refl

four : (rest : List ℕ) → Stops rest → number_at (52 ∷ rest) ≡ Some (4, rest)
four rest stops = number_here 52 [] rest 4 refl refl stops four_value

fifteen : number_at (48 ∷ 120 ∷ 102 ∷ 41 ∷ []) ≡ Some (15, 41 ∷ [])
fifteen = number_here 48 (120 ∷ 102 ∷ []) (41 ∷ []) 15 refl refl refl fifteen_value

header_tokens : (k : ℕ) → k < 2 ^ 32 → AreTokens (tokens_of (Header k)) (32 ∷ 52 ∷ 42 ∷ 40 ∷ 91 ∷ decimal k ++ 93 ∷ 38 ∷ 48 ∷ 120 ∷ 102 ∷ 41 ∷ [])
header_tokens k low =
    let mask : List ℕ = 48 ∷ 120 ∷ 102 ∷ 41 ∷ [] in
    let rest : List ℕ = decimal k ++ 93 ∷ 38 ∷ mask in
    ended (tokens_of (Header k)) (32 ∷ 52 ∷ 42 ∷ 40 ∷ 91 ∷ rest) (
      42 ∷ 40 ∷ 91 ∷ rest,
      token_after_blank (Value 4) (52 ∷ 42 ∷ 40 ∷ 91 ∷ rest) (42 ∷ 40 ∷ 91 ∷ rest) (four (42 ∷ 40 ∷ 91 ∷ rest) refl),
      (
        40 ∷ 91 ∷ rest,
        sign_here 42 (40 ∷ 91 ∷ rest) refl,
        (
          91 ∷ rest,
          sign_here 40 (91 ∷ rest) refl,
          (
            rest,
            sign_here 91 rest refl,
            (
              93 ∷ 38 ∷ mask,
              number_printed k (93 ∷ 38 ∷ mask) low refl,
              (
                38 ∷ mask,
                sign_here 93 (38 ∷ mask) refl,
                (
                  mask,
                  sign_here 38 mask refl,
                  (
                    41 ∷ [],
                    fifteen,
                    ([], sign_here 41 [] refl, refl),
                  ),
                ),
              ),
            ),
          ),
        ),
      ),
    )

length_tokens : AreTokens (tokens_of Length) (32 ∷ 35 ∷ 108 ∷ 101 ∷ 110 ∷ [])
length_tokens =
    ended (tokens_of Length) (32 ∷ 35 ∷ 108 ∷ 101 ∷ 110 ∷ [])
    (108 ∷ 101 ∷ 110 ∷ [], blank_sign 35 (108 ∷ 101 ∷ 110 ∷ []) refl, ([], word_here 108 (101 ∷ 110 ∷ []) [] refl refl refl refl, refl))

name_tokens : (b : ℕ) → is_blank b ≡ false → is_digit b ≡ false → is_name_byte b ≡ true → AreTokens (tokens_of (Name (b ∷ []))) (32 ∷ b ∷ [])
name_tokens b dark letter name =
    ended (tokens_of (Name (b ∷ []))) (32 ∷ b ∷ []) ([], token_after_blank (Word (b ∷ [])) (b ∷ []) [] (one_letter b [] dark letter name refl), refl)

label_after_blank : (place : ℕ) (rest : List ℕ) → place < 2 ^ 64 → Stops rest → word_at (32 ∷ 76 ∷ decimal place ++ rest) ≡ Some (label_name place, rest)
label_after_blank place rest low stops = token_after_blank (Word (label_name place)) (label_name place ++ rest) rest (name_printed place rest low stops)

target_tokens : (to : ℕ) → to < 2 ^ 64 → AreTokens (tokens_of (Name (label_name to))) (32 ∷ 76 ∷ decimal to)
target_tokens to low =
    let at : word_at (32 ∷ 76 ∷ decimal to) ≡ Some (label_name to, []) = rw (append-nil (decimal to)) at (label_after_blank to [] low refl) in
    ended (tokens_of (Name (label_name to))) (32 ∷ 76 ∷ decimal to) ([], at, refl)

-- the labels of a conditional jump
abbrev both_text : ℕ → ℕ → List ℕ
both_text first second = codes ", L" ++ decimal first ++ codes ", L" ++ decimal second

targets_front : (first second : ℕ) → first < 2 ^ 64 → second < 2 ^ 64 → Front (Sign 44 ∷ targets_tokens (Both (label_name first) (label_name second))) (both_text first second) []
targets_front first second low high =
    let last : List ℕ = 32 ∷ 76 ∷ decimal second in
    let at : word_at (32 ∷ 76 ∷ decimal second) ≡ Some (label_name second, []) = rw (append-nil (decimal second)) at (label_after_blank second [] high refl) in
    let front : Front (Sign 44 ∷ targets_tokens (Both (label_name first) (label_name second))) (44 ∷ 32 ∷ 76 ∷ (decimal first ++ 44 ∷ last)) [] = (
      32 ∷ 76 ∷ (decimal first ++ 44 ∷ last),
      sign_here 44 (32 ∷ 76 ∷ (decimal first ++ 44 ∷ last)) refl,
      (
        44 ∷ last,
        label_after_blank first (44 ∷ last) low refl,
        (
          last,
          sign_here 44 last refl,
          ([], at, refl),
        ),
      ),
    ) in
    let same : both_text first second ≡ 44 ∷ 32 ∷ 76 ∷ (decimal first ++ 44 ∷ last) = append_assoc (codes ", L" ++ decimal first) (codes ", L") (decimal second) in
    rw same front

number_to_tokens : (k first second : ℕ) → k < 2 ^ 32 → first < 2 ^ 64 → second < 2 ^ 64 → AreTokens (tokens_of (NumberTo k (Both (label_name first) (label_name second)))) (32 ∷ 35 ∷ (decimal k ++ both_text first second))
number_to_tokens k first second low one two =
    hash_tokens k (Sign 44 ∷ targets_tokens (Both (label_name first) (label_name second))) (both_text first second) low refl (targets_front first second one two)

name_to_tokens : (first second : ℕ) → first < 2 ^ 64 → second < 2 ^ 64 → AreTokens (tokens_of (NameTo (codes "x") (Both (label_name first) (label_name second)))) (32 ∷ 120 ∷ both_text first second)
name_to_tokens first second one two =
    let rest : List ℕ = both_text first second in
    ended (tokens_of (NameTo (codes "x") (Both (label_name first) (label_name second)))) (32 ∷ 120 ∷ rest)
    (rest, token_after_blank (Word (codes "x")) (120 ∷ rest) rest (one_letter 120 rest refl refl refl refl), targets_front first second one two)

absent_tokens : AreTokens (tokens_of Absent) []
absent_tokens = ended (tokens_of Absent) [] refl

and_none : (tokens : List Token) (bytes : List ℕ) → AreTokens tokens bytes → AreTokens tokens (bytes ++ [])
and_none tokens bytes are = rw (append-nil bytes) are

pub operands_printed : (place : ℕ) (op : Op) (ins : Ins) → ins.k < 2 ^ 32 → IsNear place op ins → AreTokens (tokens_of (operands_for place op ins)) (after_word place op ins)
operands_printed place LoadConstant ins low near = number_tokens ins.k low
operands_printed place (LoadImage width) ins low near = and_none (tokens_of (Place ins.k)) (32 ∷ 91 ∷ decimal ins.k ++ 93 ∷ []) (place_tokens ins.k low)
operands_printed place (LoadIndexed width) ins low near = and_none (tokens_of (Indexed ins.k)) (32 ∷ 91 ∷ 120 ∷ 43 ∷ decimal ins.k ++ 93 ∷ []) (indexed_tokens ins.k low)
operands_printed place LoadScratch ins low near = and_none (tokens_of (Scratch ins.k)) (32 ∷ 77 ∷ 91 ∷ decimal ins.k ++ 93 ∷ []) (scratch_tokens ins.k low)
operands_printed place LoadLength ins low near = length_tokens
operands_printed place IndexConstant ins low near = number_tokens ins.k low
operands_printed place IndexScratch ins low near = and_none (tokens_of (Scratch ins.k)) (32 ∷ 77 ∷ 91 ∷ decimal ins.k ++ 93 ∷ []) (scratch_tokens ins.k low)
operands_printed place IndexLength ins low near = length_tokens
operands_printed place IndexHeader ins low near = and_none (tokens_of (Header ins.k)) (32 ∷ 52 ∷ 42 ∷ 40 ∷ 91 ∷ decimal ins.k ++ 93 ∷ 38 ∷ 48 ∷ 120 ∷ 102 ∷ 41 ∷ []) (header_tokens ins.k low)
operands_printed place StoreA ins low near = and_none (tokens_of (Scratch ins.k)) (32 ∷ 77 ∷ 91 ∷ decimal ins.k ++ 93 ∷ []) (scratch_tokens ins.k low)
operands_printed place StoreX ins low near = and_none (tokens_of (Scratch ins.k)) (32 ∷ 77 ∷ 91 ∷ decimal ins.k ++ 93 ∷ []) (scratch_tokens ins.k low)
operands_printed place (Compute f Constant) ins low near = number_tokens ins.k low
operands_printed place (Compute f Index) ins low near = name_tokens 120 refl refl refl
operands_printed place Negate ins low near = absent_tokens
operands_printed place Jump ins low near = target_tokens (place + 1 + ins.k) near
operands_printed place (Branch test Constant) ins low near = number_to_tokens ins.k (place + 1 + ins.jt) (place + 1 + ins.jf) low near.0 near.1
operands_printed place (Branch test Index) ins low near = name_to_tokens (place + 1 + ins.jt) (place + 1 + ins.jf) near.0 near.1
operands_printed place ReturnConstant ins low near = number_tokens ins.k low
operands_printed place ReturnA ins low near = name_tokens 97 refl refl refl
operands_printed place IndexFromA ins low near = absent_tokens
operands_printed place LoadFromX ins low near = absent_tokens
