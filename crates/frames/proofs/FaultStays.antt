-- A fault stays where it is, whatever comes after it.
use Rattle.std.proofs.Common.{◌≡◌, ℕ, ◌+◌, ◌<◌, ◌≤◌, inl, inr, Bool, true, false, not, cond, leb, ltb, eqb, List, [], ◌∷◌, ◌++◌, take, drop, length, is_none, Option, Some, None, Ok, Err, refl, sym, ap, ◌∙◌, arith, length-append}
use Rattle.std.specs.Prelude.{◌&&◌}
use Rattle.std.proofs.lemmas.Bool.{leb-true, leb-false, le-leb}
use Rattle.std.proofs.lemmas.List.{append_assoc, get_or_append_left, take-append-le, drop-append-le, length-drop}
use Rattle.message_value.specs.declared.order.Order.{Order}
use Rattle.message_value.specs.declared.order.Order.TheVariants.{Little, Big}
use Rattle.message_value.specs.declared.error.MsgError.{MsgError}
use Rattle.message_value.specs.Order.{order_of, word_of}
use Rattle.message_value.specs.Fits.{max_array_len}
use Rattle.message_view.specs.Header.{kind_of}
use Rattle.message_view.specs.Valid.{max_message_len}
use Rattle.message_view.specs.Fixed.{order_in, word_at, Check, checks, first_failing, or_len, framing}
use Rattle.message_view.specs.Reading.{message_at}
use Rattle.message_view.proofs.FixedPart.{framing_takes, framing_again}
use Rattle.message_view.proofs.FrontMessage.{whole_in_front, fixed_in_front}
use Rattle.frames.specs.Stream.{bytes_of, IsFault, FramesOf}

-- ---- checks of which more have their bytes

-- what a check says of the first bytes, it says of more
pub record Grown (have : ℕ) (old new : Check) : Type 0 where
  pub need : old.need ≡ new.need
  pub fault : old.fault ≡ new.fault
  pub fails : old.need ≤ have → old.fails ≡ new.fails

abbrev AreGrown : ℕ → List Check → List Check → Type 0
AreGrown have [] [] = Unit {0}
AreGrown have (c ∷ cs) (d ∷ ds) = Grown have c d × AreGrown have cs ds
AreGrown have _ _ = ⊥

-- each looks at n bytes, or more
abbrev AllNeed : ℕ → List Check → Type 0
AllNeed n [] = Unit {0}
AllNeed n (c ∷ cs) = (n ≤ c.need) × AllNeed n cs

abbrev AreRising : List Check → Type 0
AreRising [] = Unit {0}
AreRising (c ∷ cs) = AllNeed c.need cs × AreRising cs

without_bytes : (have n : ℕ) (cs : List Check) → have < n → AllNeed n cs → first_failing have cs ≡ None
without_bytes have n [] short need = refl
without_bytes have n (c ∷ cs) short need = go (leb c.need have) refl (without_bytes have n cs short need.1)
  where
    go : (b : Bool) → leb c.need have ≡ b → first_failing have cs ≡ None → cond (b && c.fails) (Some c.fault) (first_failing have cs) ≡ None
    go true is none = absurd (let le : c.need ≤ have = leb-true c.need have is in omega (arith, le, short, need.0))
    go false is none = none

first_stays : (have more : ℕ) (cs ds : List Check) (fault : MsgError) → have ≤ more → AreRising cs → AreGrown have cs ds → first_failing have cs ≡ Some fault → first_failing more ds ≡ Some fault
first_stays have more [] [] fault le rise same e = absurd cc
first_stays have more [] (d ∷ ds) fault le rise same e = absurd same
first_stays have more (c ∷ cs) [] fault le rise same e = absurd same
first_stays have more (c ∷ cs) (d ∷ ds) fault le rise same e = go (leb c.need have) refl c.fails refl e (first_stays have more cs ds fault le rise.1 same.1)
  where
    by_fails : (fails : Bool) → cond fails (Some c.fault) (first_failing have cs) ≡ Some fault → (first_failing have cs ≡ Some fault → first_failing more ds ≡ Some fault) → cond fails (Some d.fault) (first_failing more ds) ≡ Some fault
    by_fails true e later = ap (λ (x : MsgError). Some x) (sym same.0.fault) ∙ e
    by_fails false e later = later e

    go : (b : Bool) → leb c.need have ≡ b → (fails : Bool) → c.fails ≡ fails → cond (b && fails) (Some c.fault) (first_failing have cs) ≡ Some fault → (first_failing have cs ≡ Some fault → first_failing more ds ≡ Some fault) → cond (leb d.need more && d.fails) (Some d.fault) (first_failing more ds) ≡ Some fault
    go true is fails f e later =
        let there : c.need ≤ have = leb-true c.need have is in
        let too : leb d.need more ≡ true = le-leb d.need more (omega (arith, there, le, same.0.need)) in
        let alike : d.fails ≡ fails = sym (same.0.fails there) ∙ f in
        rw (too, alike) (by_fails fails e later)
    go false is fails f e later =
        let none : first_failing have cs ≡ None = without_bytes have c.need cs (leb-false c.need have is) rise.0 in
        let never : None ≡ Some fault = sym none ∙ e in
        absurd cc

-- ---- the checks of the fixed part

same_order : (bytes more : List ℕ) → 0 < length bytes → order_in (bytes ++ more) ≡ order_in bytes
same_order bytes more lt = ap (λ (b : ℕ). cond (eqb b 108) Little Big) (get_or_append_left bytes more 0 0 lt)

word_in_front : (place : ℕ) (bytes more : List ℕ) → place + 4 ≤ length bytes → word_at place (bytes ++ more) ≡ word_at place bytes
word_in_front place bytes more le =
    let four : take 4 (drop place (bytes ++ more)) ≡ take 4 (drop place bytes) = ap (take 4) (drop-append-le place bytes more (omega arith)) ∙ take-append-le 4 (drop place bytes) more (omega (arith, length-drop place bytes)) in
    ap (λ (o : Order). word_of o (take 4 (drop place (bytes ++ more)))) (same_order bytes more (omega arith)) ∙ ap (word_of (order_in bytes)) four

checks_grown : (bytes more : List ℕ) → AreGrown (length bytes) (checks bytes) (checks (bytes ++ more))
checks_grown bytes more = (
  record { need = refl; fault = refl; fails = λ le. ap (λ (b : ℕ). is_none (order_of b)) (sym (get_or_append_left bytes more 0 0 (omega arith))) },
  (
    record { need = refl; fault = refl; fails = λ le. ap (λ (b : ℕ). is_none (kind_of b)) (sym (get_or_append_left bytes more 0 1 (omega arith))) },
    (
      record { need = refl; fault = refl; fails = λ le. ap (λ (b : ℕ). not (eqb b 1)) (sym (get_or_append_left bytes more 0 3 (omega arith))) },
      (
        record { need = refl; fault = refl; fails = λ le. ap (λ (n : ℕ). eqb n 0) (sym (word_in_front 8 bytes more (omega arith))) },
        (
          record { need = refl; fault = refl; fails = λ le. ap (λ (n : ℕ). ltb max_array_len n) (sym (word_in_front 12 bytes more (omega arith))) },
          (record { need = refl; fault = refl; fails = λ le. ap (λ (n : ℕ). ltb max_message_len n) (sym (whole_in_front bytes more le)) }, tt),
        ),
      ),
    ),
  ),
)

checks_rise : (bytes : List ℕ) → AreRising (checks bytes)
checks_rise bytes = (
  (omega arith, (omega arith, (omega arith, (omega arith, (omega arith, tt))))),
  (
    (omega arith, (omega arith, (omega arith, (omega arith, tt)))),
    (
      (omega arith, (omega arith, (omega arith, tt))),
      (
        (omega arith, (omega arith, tt)),
        ((omega arith, tt), (tt, tt)),
      ),
    ),
  ),
)

fixed_stays : (bytes more : List ℕ) (fault : MsgError) → framing bytes ≡ Err fault → framing (bytes ++ more) ≡ Err fault
fixed_stays bytes more fault e = go (first_failing (length bytes) (checks bytes)) refl e
  where
    go : (found : Option MsgError) → first_failing (length bytes) (checks bytes) ≡ found → or_len found bytes ≡ Err fault → framing (bytes ++ more) ≡ Err fault
    go None is e = absurd cc
    go (Some other) is e =
        let same : other ≡ fault = cc in
        let still : first_failing (length (bytes ++ more)) (checks (bytes ++ more)) ≡ Some other = first_stays (length bytes) (length (bytes ++ more)) (checks bytes) (checks (bytes ++ more)) other (omega (arith, length-append bytes more)) (checks_rise bytes) (checks_grown bytes more) is in
        ap (λ (x : Option MsgError). or_len x (bytes ++ more)) still ∙ ap (λ (x : MsgError). Err x) same

pub fault_stays : (rest more : List ℕ) (fault : MsgError) → IsFault rest fault → IsFault (rest ++ more) fault
fault_stays rest more fault (inl bad) = inl (fixed_stays rest more fault bad)
fault_stays rest more fault (inr (len, said, there, bad)) =
    let fixed = framing_takes rest len said in
    let says : framing (rest ++ more) ≡ Ok (Some len) = framing_again (rest ++ more) (fixed_in_front rest more fixed.0) ∙ ap (λ (k : ℕ). Ok (Some k)) (whole_in_front rest more fixed.0.long ∙ sym fixed.1) in
    inr (len, says, omega (arith, there, length-append rest more), ap message_at (take-append-le len rest more there) ∙ bad)

pub faults_stay_lem : (stream more rest : List ℕ) (messages : List (List ℕ)) (fault : MsgError) → FramesOf stream messages rest (Some fault) → FramesOf (stream ++ more) messages (rest ++ more) (Some fault)
faults_stay_lem stream more rest messages fault frames =
    record {
      cut = record { whole = ap (λ (x : List ℕ). x ++ more) frames.cut.whole ∙ append_assoc (bytes_of messages) rest more; each = frames.cut.each };
      ends = fault_stays rest more fault frames.ends;
    }
