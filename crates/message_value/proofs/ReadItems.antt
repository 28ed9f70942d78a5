-- Items: what is read is what was in front, and in front of anything it is read again.
use Rattle.std.proofs.Common.{◌≡◌, ℕ, zero, suc, ◌+◌, ◌^◌, ◌<◌, ◌≤◌, true, false, cond, eqb, ltb, List, [], ◌∷◌, ◌++◌, length, get_or, take, drop, Ok, Err, refl, sym, ap, subst, ◌∙◌, append_assoc, arith}
use Rattle.std.specs.List.{list_all}
use Rattle.std.proofs.lemmas.Bool.{ltb-false, le-ltb, eqb-true, and_parts}
use Rattle.std.proofs.lemmas.List.{take_at, drop_at, take-append-drop, length-append, length-take, length-replicate}
use Rattle.message_value.specs.declared.order.Order.{Order}
use Rattle.message_value.specs.declared.error.MsgError.{MsgError}
use Rattle.message_value.specs.declared.error.MsgError.TheVariants as faults
use Rattle.message_value.specs.Order.{word_bytes, word_of}
use Rattle.message_value.specs.Spelling.{padding, align_up, zeros, with_padding}
use Rattle.message_value.specs.Reading.{At, item_at, aligned_at, byte_at, word_at}
use Rattle.message_value.proofs.OkSteps.{bind_ok, guard_ok, passed_ok, ok_is}
use Rattle.message_value.proofs.WordBytes.{IsBytes, IsBytes-drop, IsBytes-take, length-word_bytes, word_of-word_bytes, word_bytes-word_of, word_of-lt, one_byte}

abbrev pub at : ℕ → List ℕ → MsgError → At
at place rest outside = record { place = place; rest = rest; outside = outside }

-- what a reader took from the front
pub record Takes (before : At) (text : List ℕ) (tail : At) : Type 0 where
  pub parts : before.rest ≡ text ++ tail.rest
  pub place : tail.place ≡ before.place + length text
  pub outside : tail.outside ≡ before.outside
  pub fits : IsBytes before.rest → IsBytes tail.rest

-- what is left after it
pub Takes-leaves : (a : At) (taken : List ℕ) (b : At) → Takes a taken b → length taken + length b.rest ≡ length a.rest
Takes-leaves a taken b t = sym (length-append taken b.rest) ∙ ap (λ (x : List ℕ). length x) (sym t.parts)

pub Takes-then : (a : At) (x : List ℕ) (b : At) (y : List ℕ) (c : At) → Takes a x b → Takes b y c → Takes a (x ++ y) c
Takes-then a x b y c p q = record {
  parts = p.parts ∙ ap (λ (t : List ℕ). x ++ t) q.parts ∙ sym (append_assoc x y c.rest);
  place = omega (arith, p.place, q.place, length-append x y);
  outside = q.outside ∙ p.outside;
  fits = λ h. q.fits (p.fits h);
}

-- the same text, and the same place after it
pub Takes-as : (a : At) (x y : List ℕ) (b c : At) → Takes a x b → x ≡ y → b ≡ c → Takes a y c
Takes-as a x y b c t text tail = subst (λ (z : List ℕ). Takes a z c) text (subst (λ (z : At). Takes a x z) tail t)

pub Takes-nothing : (a : At) → Takes a [] a
Takes-nothing a = record { parts = refl; place = omega arith; outside = refl; fits = λ h. h }

-- ---- n bytes

pub item_takes : (len : ℕ) (a : At) (found : List ℕ × At) → item_at len a ≡ Ok found → Takes a found.0 found.1 × (length found.0 ≡ len) × (IsBytes a.rest → IsBytes found.0)
unfolding item_at
item_takes len a found e =
    let g = guard_ok (ltb (length a.rest) len) a.outside (take len a.rest, at (a.place + len) (drop len a.rest) a.outside) found e in
    let long : len ≤ length a.rest = ltb-false _ _ g.0 in
    let is_len : length (take len a.rest) ≡ len = omega (arith, length-take len a.rest) in
    let takes : Takes a (take len a.rest) (at (a.place + len) (drop len a.rest) a.outside) = record { parts = sym (take-append-drop len a.rest); place = rw is_len refl; outside = refl; fits = λ h. IsBytes-drop len a.rest h } in
    subst (λ (f : List ℕ × At). Takes a f.0 f.1 × (length f.0 ≡ len) × (IsBytes a.rest → IsBytes f.0)) g.1 (takes, is_len, λ h. IsBytes-take len a.rest h)

pub item_again : (len place : ℕ) (outside : MsgError) (text rest : List ℕ) → length text ≡ len → item_at len (at place (text ++ rest) outside) ≡ Ok (text, at (place + len) rest outside)
unfolding item_at
item_again len place outside text rest is =
    let long : ltb (length (text ++ rest)) len ≡ false = le-ltb _ _ (omega (arith, length-append text rest)) in
    rw (long, take_at text rest len is, drop_at text rest len is) refl

-- ---- zeros

pub length-zeros : (n : ℕ) → length (zeros n) ≡ n
length-zeros n = length-replicate n 0

pub zeros_again : (n : ℕ) → list_all (λ byte. eqb byte 0) (zeros n) ≡ true
zeros_again zero = refl
zeros_again (suc n) = zeros_again n

pub zeros_are : (bytes : List ℕ) → list_all (λ byte. eqb byte 0) bytes ≡ true → bytes ≡ zeros (length bytes)
zeros_are [] e = refl
zeros_are (b ∷ bytes) e =
    let both = and_parts (eqb b 0) (list_all (λ byte. eqb byte 0) bytes) e in
    let first : b ≡ 0 = eqb-true b 0 both.0 in
    let others : bytes ≡ zeros (length bytes) = zeros_are bytes both.1 in
    cc

pub aligned_takes : (alignment : ℕ) (a found : At) → aligned_at alignment a ≡ Ok found → Takes a (zeros (padding alignment a.place)) found × (found.place ≡ align_up alignment a.place)
unfolding aligned_at
aligned_takes alignment a found e =
    let s = bind_ok (item_at (padding alignment a.place) a) (λ skipped. cond (list_all (λ byte. eqb byte 0) skipped.0) (Ok skipped.1) (Err faults.Padding)) found e in
    let p = passed_ok (list_all (λ byte. eqb byte 0) s.0.0) faults.Padding s.0.1 found s.2 in
    let t = item_takes (padding alignment a.place) a s.0 s.1 in
    let text : s.0.0 ≡ zeros (padding alignment a.place) = zeros_are s.0.0 p.0 ∙ ap zeros t.1 in
    let takes = Takes-as a s.0.0 (zeros (padding alignment a.place)) s.0.1 found t.0 text p.1 in
    (takes, takes.place ∙ ap (λ (k : ℕ). a.place + k) (length-zeros (padding alignment a.place)))

pub aligned_again : (alignment place : ℕ) (outside : MsgError) (rest : List ℕ) → aligned_at alignment (at place (zeros (padding alignment place) ++ rest) outside) ≡ Ok (at (align_up alignment place) rest outside)
unfolding aligned_at
aligned_again alignment place outside rest =
    rw (item_again (padding alignment place) place outside (zeros (padding alignment place)) rest (length-zeros (padding alignment place)), zeros_again (padding alignment place)) refl

-- how many bytes they are with the zeros before them
pub length-padded : (alignment place : ℕ) (bytes : ℕ → List ℕ) → place + length (with_padding alignment place bytes) ≡ align_up alignment place + length (bytes (align_up alignment place))
length-padded alignment place bytes = omega (arith, length-append (zeros (padding alignment place)) (bytes (align_up alignment place)), length-zeros (padding alignment place))

-- ---- a byte

pub byte_takes : (a : At) (found : ℕ × At) → byte_at a ≡ Ok found → Takes a (found.0 ∷ []) found.1 × (IsBytes a.rest → found.0 < 256)
unfolding byte_at
byte_takes a found e =
    let b = bind_ok (item_at 1 a) (λ byte. Ok (get_or byte.0 0 0, byte.1)) found e in
    let t = item_takes 1 a b.0 b.1 in
    let takes : Takes a (get_or b.0.0 0 0 ∷ []) b.0.1 = subst (λ (x : List ℕ). Takes a x b.0.1) (one_byte b.0.0 t.1) t.0 in
    let made : ℕ × At = (get_or b.0.0 0 0, b.0.1) in
    subst (λ (f : ℕ × At). Takes a (f.0 ∷ []) f.1 × (IsBytes a.rest → f.0 < 256)) {x = made} (ok_is made found b.2) (takes, λ h. t.2 h 0)

pub byte_again : (place byte : ℕ) (outside : MsgError) (rest : List ℕ) → byte_at (at place (byte ∷ rest) outside) ≡ Ok (byte, at (place + 1) rest outside)
unfolding byte_at
byte_again place byte outside rest = rw (item_again 1 place outside (byte ∷ []) rest refl) refl

-- ---- a number of four bytes

pub word_takes : (order : Order) (a : At) (found : ℕ × At) → IsBytes a.rest → word_at order a ≡ Ok found → Takes a (word_bytes order found.0) found.1 × (found.0 < 2 ^ 32)
unfolding word_at
word_takes order a found fits e =
    let b = bind_ok (item_at 4 a) (λ bytes. Ok (word_of order bytes.0, bytes.1)) found e in
    let t = item_takes 4 a b.0 b.1 in
    let are = t.2 fits in
    let made : ℕ × At = (word_of order b.0.0, b.0.1) in
    let takes : Takes a (word_bytes order (word_of order b.0.0)) b.0.1 = subst (λ (x : List ℕ). Takes a x b.0.1) (sym (word_bytes-word_of order b.0.0 t.1 are)) t.0 in
    subst (λ (f : ℕ × At). Takes a (word_bytes order f.0) f.1 × (f.0 < 2 ^ 32)) {x = made} (ok_is made found b.2) (takes, word_of-lt order b.0.0 are)

pub word_again : (order : Order) (place n : ℕ) (outside : MsgError) (rest : List ℕ) → n < 2 ^ 32 → word_at order (at place (word_bytes order n ++ rest) outside) ≡ Ok (n, at (place + 4) rest outside)
unfolding word_at
word_again order place n outside rest lt = rw (item_again 4 place outside (word_bytes order n) rest (length-word_bytes order n), word_of-word_bytes order n lt) refl
