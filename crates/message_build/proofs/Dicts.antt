-- Dictionaries and variants appended.
use Rattle.std.proofs.Common.{◌≡◌, ℕ, ◌+◌, ◌-◌, List, ◌++◌, length, Result, sym, ap, subst, ◌∙◌, arith}
use Rattle.std.proofs.lemmas.List.{length-append}
use Rattle.signature.specs.DataType.{DataType, basic, variant, dict}
use Rattle.message_value.specs.declared.order.Order.TheVariants.{Little}
use Rattle.message_value.specs.Value.{Value, of_type}
use Rattle.message_value.specs.Spelling.{padding, align_up, zeros, signature_bytes, value_bytes, entry_bytes}
use Rattle.message_value.proofs.ReadItems.{length-zeros}
use Rattle.message_build.specs.Growing.{Appends}
use Rattle.message_build.proofs.Appended.{appends_then}

length_after : (old new a : List ℕ) → new ≡ old ++ a → length new ≡ length old + length a
length_after old new a is = ap (λ (l : List ℕ). length l) is ∙ length-append old a

length_aligned : (alignment : ℕ) (old new : List ℕ) → new ≡ old ++ zeros (padding alignment (length old)) → length new ≡ align_up alignment (length old)
length_aligned alignment old new is =
    length_after old new (zeros (padding alignment (length old))) is ∙ ap (λ (k : ℕ). length old + k) (length-zeros (padding alignment (length old)))

unpadded : (place : ℕ) → padding 1 place ≡ 0
unpadded place = omega arith

-- a variant: its signature, and its value
pub variant_appended : {X E : Type 0} (r : Result X E) (old mid new : List ℕ) (type : DataType) (value : Value)
    → mid ≡ old ++ signature_bytes type → Appends r mid new (value_bytes Little (length mid) type value)
    → Appends r old new (value_bytes Little (length old) variant (of_type type value))
variant_appended r old mid new type value first has =
    let front = signature_bytes type in
    let here = subst (λ (k : ℕ). Appends r mid new (value_bytes Little k type value)) (length_after old mid front first) has in
    let inner = appends_then r old mid new front (value_bytes Little (length old + length front) type value) first here in
    let start : length old + padding 1 (length old) ≡ length old = omega (arith, unpadded (length old)) in
    let same : value_bytes Little (length old) variant (of_type type value) ≡ front ++ value_bytes Little (length old + length front) type value =
    ap (λ (k : ℕ). zeros k ++ (front ++ value_bytes Little ((length old + padding 1 (length old)) + length front) type value)) (unpadded (length old))
    ∙ ap (λ (k : ℕ). front ++ value_bytes Little (k + length front) type value) start in
    subst (λ (l : List ℕ). Appends r old new l) (sym same) inner

-- a dict entry: the zeros before it, its key, and its value
pub entry_appended : {X E : Type 0} (r : Result X E) (old mid next new : List ℕ) (type : DataType) (key value : Value)
    → mid ≡ old ++ zeros (padding 8 (length old)) → next ≡ mid ++ value_bytes Little (length mid) (basic 115) key → Appends r next new (value_bytes Little (length next) type value)
    → Appends r old new (entry_bytes Little (length old) 115 type key value)
entry_appended r old mid next new type key value first second has =
    let start = align_up 8 (length old) in
    let first_place : length mid ≡ start = length_aligned 8 old mid first in
    let front = value_bytes Little start (basic 115) key in
    let keyed : next ≡ mid ++ front = subst (λ (k : ℕ). next ≡ mid ++ value_bytes Little k (basic 115) key) first_place second in
    let tail : length next ≡ start + length front = length_after mid next front keyed ∙ ap (λ (k : ℕ). k + length front) first_place in
    let here = subst (λ (k : ℕ). Appends r next new (value_bytes Little k type value)) tail has in
    let inner = appends_then r mid next new front (value_bytes Little (start + length front) type value) keyed here in
    appends_then r old mid new (zeros (padding 8 (length old))) (front ++ value_bytes Little (start + length front) type value) first inner
