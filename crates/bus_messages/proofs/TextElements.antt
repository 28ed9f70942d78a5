-- The texts of an array, read one after the other.
use Rattle.std.proofs.Common.{◌≡◌, ℕ, zero, suc, ◌+◌, ◌-◌, ◌<◌, List, [], ◌∷◌, ◌++◌, length, map, false, true, Some, None, Result, Ok, Err, refl, sym, ap, subst, ◌∙◌, append_assoc, arith}
use Rattle.std.specs.Prelude.{◌==◌}
use Rattle.std.specs.Borrow.{Bor}
use Rattle.message_value.specs.declared.error.MsgError.{MsgError}
use Rattle.message_value.specs.Value.{Value, text}
use Rattle.message_value.specs.Reading.{At, each_at, ◌>>=◌}
use Rattle.bus_messages.specs.Arguments.{bytes_in, texts_of}

-- what was read, before what is read after it
abbrev pub read_before : List Value → Result (List Value) MsgError → Result (List Value) MsgError
read_before front (Ok more) = Ok (front ++ more)
read_before front (Err fault) = Err fault

-- texts that are lent, as values
abbrev pub lent_values : List (Bor (List ℕ)) → List Value
lent_values [] = []
lent_values (string ∷ more) = text string.now ∷ lent_values more

lent_more : (strings : List (Bor (List ℕ))) (string : Bor (List ℕ)) → lent_values (strings ++ string ∷ []) ≡ lent_values strings ++ text string.now ∷ []
lent_more [] string = refl
lent_more (first ∷ more) string = ap (λ (l : List Value). text first.now ∷ l) (lent_more more string)

lent_bytes : (strings : List (Bor (List ℕ))) → map bytes_in (lent_values strings ++ []) ≡ map (λ (string : Bor (List ℕ)). string.now) strings
lent_bytes [] = refl
lent_bytes (first ∷ more) = ap (λ (l : List (List ℕ)). first.now ∷ l) (lent_bytes more)

-- where no byte is left, nothing is read
ended : (reader : At → Result (Value × At) MsgError) (turns : ℕ) (at : At) → (length at.rest == 0) ≡ true → each_at reader turns at ≡ Ok []
ended reader zero at none = refl
ended reader (suc turns) at none = rw none refl

one_read : (reader : At → Result (Value × At) MsgError) (turns : ℕ) (at tail : At) (value : Value) → (length at.rest == 0) ≡ false → reader at ≡ Ok (value, tail)
    → each_at reader (suc turns) at ≡ (each_at reader turns tail >>= λ more. Ok (value ∷ more))
one_read reader turns at tail value left is = rw left (rw is refl)

not_read : (reader : At → Result (Value × At) MsgError) (turns : ℕ) (at : At) (fault : MsgError) → (length at.rest == 0) ≡ false → reader at ≡ Err fault
    → each_at reader (suc turns) at ≡ Err fault
not_read reader turns at fault left is = rw left (rw is refl)

before_one : (front : List Value) (value : Value) (read : Result (List Value) MsgError) → read_before front (read >>= λ more. Ok (value ∷ more)) ≡ read_before (front ++ value ∷ []) read
before_one front value (Ok more) = ap (λ (l : List Value). Ok l) (sym (append_assoc front (value ∷ []) more))
before_one front value (Err fault) = refl

-- a turn reads one more text
pub one_more_text : (reader : At → Result (Value × At) MsgError) (len turn : ℕ) (at tail : At) (strings : List (Bor (List ℕ))) (string : Bor (List ℕ)) (whole : Result (List Value) MsgError)
    → turn < len → (length at.rest == 0) ≡ false → reader at ≡ Ok (text string.now, tail) → read_before (lent_values strings) (each_at reader (len - turn) at) ≡ whole
    → read_before (lent_values (strings ++ string ∷ [])) (each_at reader (len - (turn + 1)) tail) ≡ whole
one_more_text reader len turn at tail strings string whole lt left is before =
    let turns : len - turn ≡ suc (len - (turn + 1)) = omega (arith, lt) in
    let here : read_before (lent_values strings) (each_at reader (suc (len - (turn + 1))) at) ≡ whole = subst (λ (k : ℕ). read_before (lent_values strings) (each_at reader k at) ≡ whole) turns before in
    ap (λ (l : List Value). read_before l (each_at reader (len - (turn + 1)) tail)) (lent_more strings string)
    ∙ sym (before_one (lent_values strings) (text string.now) (each_at reader (len - (turn + 1)) tail))
    ∙ ap (read_before (lent_values strings)) (sym (one_read reader (len - (turn + 1)) at tail (text string.now) left is))
    ∙ here

-- no text is left
done : (strings : List (Bor (List ℕ))) (read whole : Result (List Value) MsgError) → read_before (lent_values strings) read ≡ whole → read ≡ Ok []
    → texts_of whole ≡ Some (map (λ (string : Bor (List ℕ)). string.now) strings)
done strings read whole before is =
    ap texts_of (sym before ∙ ap (read_before (lent_values strings)) is) ∙ ap (λ (l : List (List ℕ)). Some l) (lent_bytes strings)

pub texts_ended : (reader : At → Result (Value × At) MsgError) (turns : ℕ) (at : At) (strings : List (Bor (List ℕ))) (whole : Result (List Value) MsgError)
    → (length at.rest == 0) ≡ true → read_before (lent_values strings) (each_at reader turns at) ≡ whole → texts_of whole ≡ Some (map (λ (string : Bor (List ℕ)). string.now) strings)
texts_ended reader turns at strings whole none before = done strings (each_at reader turns at) whole before (ended reader turns at none)

pub turns_ended : (reader : At → Result (Value × At) MsgError) (turns : ℕ) (at : At) (strings : List (Bor (List ℕ))) (whole : Result (List Value) MsgError)
    → turns ≡ 0 → read_before (lent_values strings) (each_at reader turns at) ≡ whole → texts_of whole ≡ Some (map (λ (string : Bor (List ℕ)). string.now) strings)
turns_ended reader turns at strings whole none before = done strings (each_at reader turns at) whole before (ap (λ (k : ℕ). each_at reader k at) none)

-- the next text isn't one
pub no_text : (reader : At → Result (Value × At) MsgError) (len turn : ℕ) (at : At) (front : List Value) (fault : MsgError) (whole : Result (List Value) MsgError)
    → turn < len → (length at.rest == 0) ≡ false → reader at ≡ Err fault → read_before front (each_at reader (len - turn) at) ≡ whole → texts_of whole ≡ None
no_text reader len turn at front fault whole lt left is before =
    let turns : len - turn ≡ suc (len - (turn + 1)) = omega (arith, lt) in
    let here : each_at reader (len - turn) at ≡ Err fault = ap (λ (k : ℕ). each_at reader k at) turns ∙ not_read reader (len - (turn + 1)) at fault left is in
    ap texts_of (sym before ∙ ap (read_before front) here)
