-- What is read up to the end: what is read is spelled so, and what is spelled so is read again.
use Rattle.std.proofs.Common.{◌≡◌, ℕ, zero, suc, ◌+◌, ◌<◌, ◌≤◌, Bool, true, false, cond, eqb, ltb, List, [], ◌∷◌, ◌++◌, length, Result, Ok, refl, sym, ap, subst, ◌∙◌, append_assoc, arith}
use Rattle.std.proofs.lemmas.Bool.{eqb-true, ne_eqb, ltb-false, le-ltb}
use Rattle.std.proofs.lemmas.List.{nil_from_length, length-append}
use Rattle.message_value.specs.declared.order.Order.{Order}
use Rattle.message_value.specs.declared.error.MsgError.{MsgError}
use Rattle.message_value.specs.declared.error.MsgError.TheVariants as faults
use Rattle.message_value.specs.Order.{word_bytes}
use Rattle.message_value.specs.Spelling.{padding, align_up, zeros, bytes_then, elements_place, array_bytes}
use Rattle.message_value.specs.Fits.{max_array_len}
use Rattle.message_value.specs.Reading.{◌>>=◌, At, item_at, aligned_at, word_at, inside, within_limit, extent_at, each_at}
use Rattle.message_value.proofs.OkSteps.{bind_ok, guard_ok, ok_is}
use Rattle.message_value.proofs.WordBytes.{IsBytes, length-word_bytes}
use Rattle.message_value.proofs.ReadItems.{at, Takes, Takes-then, Takes-as, Takes-leaves, length-zeros, item_takes, item_again, aligned_takes, aligned_again, word_takes, word_again}

-- ---- one item after the other

abbrev pub each_bytes : {X : Type 0} → (ℕ → X → List ℕ) → ℕ → List X → List ℕ
each_bytes bytes place [] = []
each_bytes bytes place (x ∷ xs) = bytes_then place (bytes place x) (λ tail. each_bytes bytes tail xs)

abbrev pub EachFits : {X : Type 0} → (ℕ → X → List ℕ) → (ℕ → X → Type 0) → ℕ → List X → Type 0
EachFits bytes Fits place [] = Unit {0}
EachFits bytes Fits place (x ∷ xs) = Fits place x × EachFits bytes Fits (place + length (bytes place x)) xs

-- what is read is spelled so and fits
abbrev pub ItemTakes : {X : Type 0} → (At → Result (X × At) MsgError) → (ℕ → X → List ℕ) → (ℕ → X → Type 0) → Type 0
ItemTakes {X = X} reader bytes Fits = (a : At) (found : X × At) → IsBytes a.rest → reader a ≡ Ok found → Takes a (bytes a.place found.0) found.1 × Fits a.place found.0

-- what fits is read again where it is spelled
abbrev pub ItemAgain : {X : Type 0} → (At → Result (X × At) MsgError) → (ℕ → X → List ℕ) → (ℕ → X → Type 0) → Type 0
ItemAgain {X = X} reader bytes Fits = (place : ℕ) (outside : MsgError) (x : X) (rest : List ℕ) → Fits place x → reader (at place (bytes place x ++ rest) outside) ≡ Ok (x, at (place + length (bytes place x)) rest outside)

-- what fits has a byte
abbrev pub ItemPos : {X : Type 0} → (ℕ → X → List ℕ) → (ℕ → X → Type 0) → Type 0
ItemPos {X = X} bytes Fits = (place : ℕ) (x : X) → Fits place x → 0 < length (bytes place x)

-- the items are all that is left
abbrev pub Whole : {X : Type 0} → (ℕ → X → List ℕ) → (ℕ → X → Type 0) → At → List X → Type 0
Whole bytes Fits a xs = (a.rest ≡ each_bytes bytes a.place xs) × EachFits bytes Fits a.place xs

none_left : {X : Type 0} (bytes : ℕ → X → List ℕ) (Fits : ℕ → X → Type 0) (a : At) (xs : List X) → length a.rest ≡ 0 → [] ≡ xs → Whole bytes Fits a xs
none_left {X = X} bytes Fits a xs none same = subst (λ (l : List X). Whole bytes Fits a l) same (nil_from_length a.rest none, tt)

one_in_front : {X : Type 0} (bytes : ℕ → X → List ℕ) (Fits : ℕ → X → Type 0) (a : At) (x : X) (b : At) (xs : List X) → Takes a (bytes a.place x) b → Fits a.place x → Whole bytes Fits b xs → Whole bytes Fits a (x ∷ xs)
one_in_front bytes Fits a x b xs takes fits whole =
    let first = bytes a.place x in
    (takes.parts ∙ ap (λ (l : List ℕ). first ++ l) (whole.0 ∙ ap (λ (k : ℕ). each_bytes bytes k xs) takes.place), (fits, subst (λ (k : ℕ). EachFits bytes Fits k xs) takes.place whole.1))

pub each_takes : {X : Type 0} (reader : At → Result (X × At) MsgError) (bytes : ℕ → X → List ℕ) (Fits : ℕ → X → Type 0) → ItemTakes reader bytes Fits → ItemPos bytes Fits
    → (turns : ℕ) (a : At) (xs : List X) → IsBytes a.rest → length a.rest ≤ turns → each_at reader turns a ≡ Ok xs → Whole bytes Fits a xs
each_takes reader bytes Fits one pos zero a xs are le e = none_left bytes Fits a xs (omega arith) (ok_is [] xs e)
each_takes {X = X} reader bytes Fits one pos (suc turns) a xs are le e =
    go (eqb (length a.rest) 0) refl e
    (λ (first : X × At) (more : List X) read later.
    let t = one a first are read in
    one_in_front bytes Fits a first.0 first.1 more t.0 t.1 (each_takes reader bytes Fits one pos turns first.1 more (t.0.fits are) (omega (arith, pos a.place first.0 t.1, Takes-leaves a (bytes a.place first.0) first.1 t.0)) later))
  where
    go : (b : Bool) → eqb (length a.rest) 0 ≡ b → cond b (Ok []) (reader a >>= λ first. each_at reader turns first.1 >>= λ more. Ok (first.0 ∷ more)) ≡ Ok xs
        → ((first : X × At) (more : List X) → reader a ≡ Ok first → each_at reader turns first.1 ≡ Ok more → Whole bytes Fits a (first.0 ∷ more)) → Whole bytes Fits a xs
    go true h e next = none_left bytes Fits a xs (eqb-true _ _ h) (ok_is [] xs e)
    go false h e next =
        let f = bind_ok (reader a) (λ first. each_at reader turns first.1 >>= λ more. Ok (first.0 ∷ more)) xs e in
        let m = bind_ok (each_at reader turns f.0.1) (λ more. Ok (f.0.0 ∷ more)) xs f.2 in
        subst (λ (l : List X). Whole bytes Fits a l) (ok_is (f.0.0 ∷ m.0) xs m.2) (next f.0 m.0 f.1 m.1)

pub each_again : {X : Type 0} (reader : At → Result (X × At) MsgError) (bytes : ℕ → X → List ℕ) (Fits : ℕ → X → Type 0) → ItemAgain reader bytes Fits → ItemPos bytes Fits
    → (turns place : ℕ) (outside : MsgError) (xs : List X) → EachFits bytes Fits place xs → length (each_bytes bytes place xs) ≤ turns → each_at reader turns (at place (each_bytes bytes place xs) outside) ≡ Ok xs
each_again reader bytes Fits again pos zero place outside [] fit le = refl
each_again reader bytes Fits again pos (suc turns) place outside [] fit le = refl
each_again reader bytes Fits again pos zero place outside (x ∷ xs) fit le = absurd (omega (arith, pos place x fit.0, length-append (bytes place x) (each_bytes bytes (place + length (bytes place x)) xs)))
each_again reader bytes Fits again pos (suc turns) place outside (x ∷ xs) fit le =
    let first = bytes place x in
    let rest = each_bytes bytes (place + length first) xs in
    let len = length-append first rest in
    let pos_first = pos place x fit.0 in
    let some : eqb (length (first ++ rest)) 0 ≡ false = ne_eqb _ _ (λ e. omega arith) in
    rw (some, again place outside x rest fit.0, each_again reader bytes Fits again pos turns (place + length first) outside xs fit.1 (omega (arith, len, pos_first))) refl

-- ---- the extent of an array

pub record Extends (order : Order) (alignment : ℕ) (a : At) (first tail : At) : Type 0 where
  pub takes : Takes a (array_bytes order alignment a.place first.rest) tail
  pub place : first.place ≡ elements_place alignment a.place
  pub short : length first.rest ≤ max_array_len
  pub fits : IsBytes first.rest

extent_of : (order : Order) (alignment len : ℕ) (a w s : At) (bytes : List ℕ) (b : At) → Takes a (word_bytes order len) w → Takes w (zeros (padding alignment w.place)) s → s.place ≡ align_up alignment w.place → Takes s bytes b → length bytes ≡ len → len ≤ max_array_len → IsBytes bytes
    → Extends order alignment a (inside s.place bytes) b
extent_of order alignment len a w s bytes b first skipped start item is short are =
    let after : w.place ≡ a.place + 4 = first.place ∙ ap (λ (k : ℕ). a.place + k) (length-word_bytes order len) in
    let here : Takes w (zeros (padding alignment (a.place + 4))) s = subst (λ (k : ℕ). Takes w (zeros (padding alignment k)) s) after skipped in
    let tail = Takes-then w (zeros (padding alignment (a.place + 4))) s bytes b here item in
    let whole = Takes-then a (word_bytes order len) w (zeros (padding alignment (a.place + 4)) ++ bytes) b first tail in
    let takes : Takes a (array_bytes order alignment a.place bytes) b = subst (λ (k : ℕ). Takes a (word_bytes order k ++ (zeros (padding alignment (a.place + 4)) ++ bytes)) b) (sym is) whole in
    record { takes = takes; place = start ∙ ap (λ (k : ℕ). align_up alignment k) after; short = omega (arith, is); fits = are }

pub extent_takes : (order : Order) (alignment : ℕ) (a : At) (found : At × At) → IsBytes a.rest → extent_at order alignment a ≡ Ok found → Extends order alignment a found.0 found.1
unfolding extent_at
extent_takes order alignment a found fits e =
    let n = bind_ok (word_at order a) (λ len. within_limit len.0 len.1 >>= λ tail. aligned_at alignment tail >>= λ start. item_at len.0 start >>= λ bytes. Ok (inside start.place bytes.0, bytes.1)) found e in
    let w = bind_ok (within_limit n.0.0 n.0.1) (λ tail. aligned_at alignment tail >>= λ start. item_at n.0.0 start >>= λ bytes. Ok (inside start.place bytes.0, bytes.1)) found n.2 in
    let s = bind_ok (aligned_at alignment w.0) (λ start. item_at n.0.0 start >>= λ bytes. Ok (inside start.place bytes.0, bytes.1)) found w.2 in
    let b = bind_ok (item_at n.0.0 s.0) (λ bytes. Ok (inside s.0.place bytes.0, bytes.1)) found s.2 in
    let limit = guard_ok (ltb max_array_len n.0.0) faults.ArrayLength n.0.1 w.0 w.1 in
    let first = Takes-as a (word_bytes order n.0.0) (word_bytes order n.0.0) n.0.1 w.0 (word_takes order a n.0 fits n.1).0 refl limit.1 in
    let skipped = aligned_takes alignment w.0 s.0 s.1 in
    let item = item_takes n.0.0 s.0 b.0 b.1 in
    let made : At × At = (inside s.0.place b.0.0, b.0.1) in
    subst (λ (f : At × At). Extends order alignment a f.0 f.1) {x = made} (ok_is made found b.2) (extent_of order alignment n.0.0 a w.0 s.0 b.0.0 b.0.1 first skipped.0 skipped.1 item.0 item.1 (ltb-false _ _ limit.0) (item.2 (skipped.0.fits (first.fits fits))))

pub length-array_bytes : (order : Order) (alignment place : ℕ) (bytes : List ℕ) → place + length (array_bytes order alignment place bytes) ≡ elements_place alignment place + length bytes
length-array_bytes order alignment place bytes =
    omega (arith, length-append (word_bytes order (length bytes)) (zeros (padding alignment (place + 4)) ++ bytes), length-append (zeros (padding alignment (place + 4))) bytes, length-zeros (padding alignment (place + 4)), length-word_bytes order (length bytes))

pub extent_again : (order : Order) (alignment place : ℕ) (outside : MsgError) (bytes rest : List ℕ) → length bytes ≤ max_array_len
    → extent_at order alignment (at place (array_bytes order alignment place bytes ++ rest) outside) ≡ Ok (inside (elements_place alignment place) bytes, at (place + length (array_bytes order alignment place bytes)) rest outside)
unfolding extent_at
extent_again order alignment place outside bytes rest le =
    let skipped = zeros (padding alignment (place + 4)) in
    let grouped : array_bytes order alignment place bytes ++ rest ≡ word_bytes order (length bytes) ++ (skipped ++ (bytes ++ rest)) = append_assoc (word_bytes order (length bytes)) (skipped ++ bytes) rest ∙ ap (λ (x : List ℕ). word_bytes order (length bytes) ++ x) (append_assoc skipped bytes rest) in
    let within : ltb max_array_len (length bytes) ≡ false = le-ltb _ _ le in
    ap (λ (x : List ℕ). extent_at order alignment (at place x outside)) grouped
    ∙ rw (word_again order place (length bytes) outside (skipped ++ (bytes ++ rest)) (omega arith), within, aligned_again alignment (place + 4) outside (bytes ++ rest), item_again (length bytes) (elements_place alignment place) outside bytes rest refl)
    (ap (λ (k : ℕ). Ok (inside (elements_place alignment place) bytes, at k rest outside)) (sym (length-array_bytes order alignment place bytes)))
