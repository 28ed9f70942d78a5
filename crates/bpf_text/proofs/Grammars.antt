-- The reading of operands answers them exactly where their tokens stand.
use Rattle.std.proofs.Common.{◌≡◌, ℕ, Bool, true, false, cond, List, [], ◌∷◌, ◌++◌, Option, Some, None, refl, ap, subst, ◌∙◌, arith}
use Rattle.std.specs.Prelude.{◌==◌, option_and_then, codes}
use Rattle.std.specs.Str.{bytes_eq}
use Rattle.std.proofs.lemmas.Bool.{eqb-true}
use Rattle.std.proofs.lemmas.Option.{option_and_then_some, cond_some, same_Some}
use Rattle.std.proofs.lemmas.Slice.Eq.{bytes_eq-Decides}
use Rattle.bpf_text.specs.Lexis.{word_at, number_at, sign_at, is_over}
use Rattle.bpf_text.specs.Operands.{Operands, Absent, Number, Length, Place, Indexed, Scratch, Header, Name, NumberTo, NameTo, Targets, One, Both}
use Rattle.bpf_text.specs.OperandReading.{targets_at, last_target, constant_at, constant_by, number_to, length_at, indexed_at, place_at, place_by, bracketed_at, header_at, named_at, scratch_or_name, name_to, by_word, by_number, by_bracket, by_sharp, operands_at, operands_of}
use Rattle.bpf_text.specs.Grammar.{Token, Value, Sign, Front, AreTokens, targets_tokens, tokens_of}
use Rattle.bpf_text.proofs.Fronts.{sign_no_sign, word_no_sign, number_no_sign, word_no_number, over_no_sign, sign_not_over, word_not_over, number_not_over}

-- ---- what is read is spelled

-- operands stand at the front of bytes
abbrev Stands : List ℕ → Operands × List ℕ → Type 0
Stands bytes x = Front (tokens_of x.0) bytes x.1

abbrev StandTargets : List ℕ → Targets × List ℕ → Type 0
StandTargets bytes x = Front (targets_tokens x.0) bytes x.1

is_word : (w : List ℕ) (text : List ℕ) → bytes_eq w text ≡ true → w ≡ text
is_word w text h = (bytes_eq-Decides w text).0 h

last_sound : (bytes name rest : List ℕ) (s : Option (List ℕ)) (x : Targets × List ℕ) → word_at bytes ≡ Some (name, rest) → sign_at 44 rest ≡ s → last_target name rest s ≡ Some x → StandTargets bytes x
last_sound bytes name rest None x w s h = subst (StandTargets bytes) (same_Some (One name, rest) x h) (rest, w, refl)
last_sound bytes name rest (Some after) x w s h = option_and_then_some _ (word_at after) x h (λ (v : List ℕ × List ℕ) is e.
    subst (StandTargets bytes) (same_Some (Both name v.0, v.1) x e) (rest, w, (after, s, (v.1, is, refl))))

targets_sound : (bytes : List ℕ) (x : Targets × List ℕ) → targets_at bytes ≡ Some x → StandTargets bytes x
unfolding targets_at
targets_sound bytes x h = option_and_then_some _ (word_at bytes) x h (λ (w : List ℕ × List ℕ) is e. last_sound bytes w.0 w.1 (sign_at 44 w.1) x is refl e)

number_sound : (bytes inside : List ℕ) (k : ℕ) (rest : List ℕ) (s : Option (List ℕ)) (x : Operands × List ℕ) → sign_at 35 bytes ≡ Some inside → number_at inside ≡ Some (k, rest) → sign_at 44 rest ≡ s → number_to k rest s ≡ Some x → Stands bytes x
number_sound bytes inside k rest None x sharp n s h = subst (Stands bytes) (same_Some (Number k, rest) x h) (inside, sharp, (rest, n, refl))
number_sound bytes inside k rest (Some after) x sharp n s h = option_and_then_some _ (targets_at after) x h (λ (t : Targets × List ℕ) is e.
    subst (Stands bytes) (same_Some (NumberTo k t.0, t.1) x e) (inside, sharp, (rest, n, (after, s, targets_sound after t is))))

length_sound : (bytes inside : List ℕ) (x : Operands × List ℕ) → sign_at 35 bytes ≡ Some inside → length_at inside ≡ Some x → Stands bytes x
length_sound bytes inside x sharp h = option_and_then_some _ (word_at inside) x h (λ (w : List ℕ × List ℕ) is e.
    let both = cond_some (bytes_eq w.0 (codes "len")) (Length, w.1) x e in
    let name : w.0 ≡ codes "len" = is_word w.0 (codes "len") both.0 in
    let at : word_at inside ≡ Some (codes "len", w.1) = is ∙ ap (λ (n : List ℕ). Some (n, w.1)) name in
    subst (Stands bytes) both.1 (inside, sharp, (w.1, at, refl)))

constant_by_sound : (bytes inside : List ℕ) (n : Option (ℕ × List ℕ)) (x : Operands × List ℕ) → sign_at 35 bytes ≡ Some inside → number_at inside ≡ n → constant_by inside n ≡ Some x → Stands bytes x
constant_by_sound bytes inside None x sharp n h = length_sound bytes inside x sharp h
constant_by_sound bytes inside (Some k) x sharp n h = number_sound bytes inside k.0 k.1 (sign_at 44 k.1) x sharp n refl h

constant_sound : (bytes inside : List ℕ) (x : Operands × List ℕ) → sign_at 35 bytes ≡ Some inside → constant_at inside ≡ Some x → Stands bytes x
unfolding constant_at
constant_sound bytes inside x sharp h = constant_by_sound bytes inside (number_at inside) x sharp refl h

indexed_sound : (bytes inside : List ℕ) (x : Operands × List ℕ) → sign_at 91 bytes ≡ Some inside → indexed_at inside ≡ Some x → Stands bytes x
unfolding indexed_at
indexed_sound bytes inside x open_bracket h =
    option_and_then_some _ (word_at inside) x h (λ (w : List ℕ × List ℕ) is_w e1.
    option_and_then_some _ (sign_at 43 w.1) x e1 (λ (plus : List ℕ) is_plus e2.
    option_and_then_some _ (number_at plus) x e2 (λ (k : ℕ × List ℕ) is_k e3.
    option_and_then_some _ (sign_at 93 k.1) x e3 (λ (rest : List ℕ) is_rest e4.
    let both = cond_some (bytes_eq w.0 (codes "x")) (Indexed k.0, rest) x e4 in
    let name : w.0 ≡ codes "x" = is_word w.0 (codes "x") both.0 in
    let at : word_at inside ≡ Some (codes "x", w.1) = is_w ∙ ap (λ (n : List ℕ). Some (n, w.1)) name in
    subst (Stands bytes) both.1 (inside, open_bracket, (w.1, at, (plus, is_plus, (k.1, is_k, (rest, is_rest, refl)))))))))

place_by_sound : (bytes inside : List ℕ) (n : Option (ℕ × List ℕ)) (x : Operands × List ℕ) → sign_at 91 bytes ≡ Some inside → number_at inside ≡ n → place_by inside n ≡ Some x → Stands bytes x
place_by_sound bytes inside None x open_bracket n h = indexed_sound bytes inside x open_bracket h
place_by_sound bytes inside (Some k) x open_bracket n h = option_and_then_some _ (sign_at 93 k.1) x h (λ (rest : List ℕ) is e.
    subst (Stands bytes) (same_Some (Place k.0, rest) x e) (inside, open_bracket, (k.1, n, (rest, is, refl))))

place_sound : (bytes inside : List ℕ) (x : Operands × List ℕ) → sign_at 91 bytes ≡ Some inside → place_at inside ≡ Some x → Stands bytes x
unfolding place_at
place_sound bytes inside x open_bracket h = place_by_sound bytes inside (number_at inside) x open_bracket refl h

bracketed_sound : (bytes : List ℕ) (x : ℕ × List ℕ) → bracketed_at bytes ≡ Some x → Front (Sign 91 ∷ Value x.0 ∷ Sign 93 ∷ []) bytes x.1
unfolding bracketed_at
bracketed_sound bytes x h =
    option_and_then_some _ (sign_at 91 bytes) x h (λ (inside : List ℕ) is_inside e1.
    option_and_then_some _ (number_at inside) x e1 (λ (k : ℕ × List ℕ) is_k e2.
    option_and_then_some _ (sign_at 93 k.1) x e2 (λ (rest : List ℕ) is_rest e3.
    let P : ℕ × List ℕ → Type 0 = λ y. Front (Sign 91 ∷ Value y.0 ∷ Sign 93 ∷ []) bytes y.1 in
    subst P (same_Some (k.0, rest) x e3) (inside, is_inside, (k.1, is_k, (rest, is_rest, refl))))))

front_more : (more : List Token) (tokens : List Token) (bytes tail rest : List ℕ) → Front tokens bytes tail → Front more tail rest → Front (tokens ++ more) bytes rest
front_more more [] bytes tail rest h later = rw h later
front_more more (token ∷ tokens) bytes tail rest (mid, here, h) later = (mid, here, front_more more tokens mid tail rest h later)

header_sound : (bytes after : List ℕ) (x : Operands × List ℕ) → number_at bytes ≡ Some (4, after) → header_at after ≡ Some x → Stands bytes x
unfolding header_at
header_sound bytes after x four h =
    option_and_then_some _ (sign_at 42 after) x h (λ (star : List ℕ) is_star e1.
    option_and_then_some _ (sign_at 40 star) x e1 (λ (inside : List ℕ) is_inside e2.
    option_and_then_some _ (bracketed_at inside) x e2 (λ (k : ℕ × List ℕ) is_k e3.
    option_and_then_some _ (sign_at 38 k.1) x e3 (λ (ampersand : List ℕ) is_ampersand e4.
    option_and_then_some _ (number_at ampersand) x e4 (λ (mask : ℕ × List ℕ) is_mask e5.
    option_and_then_some _ (sign_at 41 mask.1) x e5 (λ (rest : List ℕ) is_rest e6.
    let both = cond_some (mask.0 == 15) (Header k.0, rest) x e6 in
    let fifteen : mask.0 ≡ 15 = eqb-true mask.0 15 both.0 in
    let at : number_at ampersand ≡ Some (15, mask.1) = is_mask ∙ ap (λ (n : ℕ). Some (n, mask.1)) fifteen in
    let end_ : Front (Sign 38 ∷ Value 15 ∷ Sign 41 ∷ []) k.1 rest = (ampersand, is_ampersand, (mask.1, at, (rest, is_rest, refl))) in
    let middle : Front (Sign 91 ∷ Value k.0 ∷ Sign 93 ∷ Sign 38 ∷ Value 15 ∷ Sign 41 ∷ []) inside rest =
    front_more (Sign 38 ∷ Value 15 ∷ Sign 41 ∷ []) (Sign 91 ∷ Value k.0 ∷ Sign 93 ∷ []) inside k.1 rest (bracketed_sound inside k is_k) end_ in
    subst (Stands bytes) both.1 (after, four, (star, is_star, (inside, is_inside, middle)))))))))

name_sound : (bytes name rest : List ℕ) (s : Option (List ℕ)) (x : Operands × List ℕ) → word_at bytes ≡ Some (name, rest) → sign_at 44 rest ≡ s → name_to name rest s ≡ Some x → Stands bytes x
name_sound bytes name rest None x w s h = subst (Stands bytes) (same_Some (Name name, rest) x h) (rest, w, refl)
name_sound bytes name rest (Some after) x w s h = option_and_then_some _ (targets_at after) x h (λ (t : Targets × List ℕ) is e.
    subst (Stands bytes) (same_Some (NameTo name t.0, t.1) x e) (rest, w, (after, s, targets_sound after t is)))

scratch_sound : (bytes name rest : List ℕ) (m : Bool) (k : Option (ℕ × List ℕ)) (x : Operands × List ℕ) → word_at bytes ≡ Some (name, rest) → bytes_eq name (codes "M") ≡ m → bracketed_at rest ≡ k → scratch_or_name name rest m k ≡ Some x → Stands bytes x
scratch_sound bytes name rest true (Some k) x w m is h =
    let at : word_at bytes ≡ Some (codes "M", rest) = w ∙ ap (λ (n : List ℕ). Some (n, rest)) (is_word name (codes "M") m) in
    subst (Stands bytes) (same_Some (Scratch k.0, k.1) x h) (rest, at, bracketed_sound rest k is)
scratch_sound bytes name rest true None x w m is h = name_sound bytes name rest (sign_at 44 rest) x w refl h
scratch_sound bytes name rest false k x w m is h = name_sound bytes name rest (sign_at 44 rest) x w refl h

named_sound : (bytes name rest : List ℕ) (x : Operands × List ℕ) → word_at bytes ≡ Some (name, rest) → named_at name rest ≡ Some x → Stands bytes x
unfolding named_at
named_sound bytes name rest x w h = scratch_sound bytes name rest (bytes_eq name (codes "M")) (bracketed_at rest) x w refl refl h

word_sound : (bytes : List ℕ) (w : Option (List ℕ × List ℕ)) (x : Operands × List ℕ) → word_at bytes ≡ w → by_word w ≡ Some x → Stands bytes x
word_sound bytes None x w h = absurd (cc)
word_sound bytes (Some name) x w h = named_sound bytes name.0 name.1 x w h

four_sound : (bytes : List ℕ) (n : Option (ℕ × List ℕ)) (x : Operands × List ℕ) → number_at bytes ≡ n → by_number bytes n ≡ Some x → Stands bytes x
four_sound bytes None x n h = word_sound bytes (word_at bytes) x refl h
four_sound bytes (Some k) x n h = four_only (k.0 == 4) refl h
  where
    four_only : (b : Bool) → (k.0 == 4) ≡ b → cond b (header_at k.1) None ≡ Some x → Stands bytes x
    four_only true e g = header_sound bytes k.1 x (n ∙ ap (λ (m : ℕ). Some (m, k.1)) (eqb-true k.0 4 e)) g
    four_only false e g = absurd (cc)

bracket_sound : (bytes : List ℕ) (s : Option (List ℕ)) (x : Operands × List ℕ) → sign_at 91 bytes ≡ s → by_bracket bytes s ≡ Some x → Stands bytes x
bracket_sound bytes None x s h = four_sound bytes (number_at bytes) x refl h
bracket_sound bytes (Some rest) x s h = place_sound bytes rest x s h

sharp_sound : (bytes : List ℕ) (s : Option (List ℕ)) (x : Operands × List ℕ) → sign_at 35 bytes ≡ s → by_sharp bytes s ≡ Some x → Stands bytes x
sharp_sound bytes None x s h = bracket_sound bytes (sign_at 91 bytes) x refl h
sharp_sound bytes (Some rest) x s h = constant_sound bytes rest x s h

at_sound : (bytes : List ℕ) (x : Operands × List ℕ) → operands_at bytes ≡ Some x → Stands bytes x
unfolding operands_at
at_sound bytes x h = sharp_sound bytes (sign_at 35 bytes) x refl h

of_sound : (bytes : List ℕ) (b : Bool) (o : Operands) → is_over bytes ≡ b → cond b (Some Absent) (option_and_then (λ (x : Operands × List ℕ). cond (is_over x.1) (Some x.0) None) (operands_at bytes)) ≡ Some o → AreTokens (tokens_of o) bytes
of_sound bytes true o over h =
    let P : Operands → Type 0 = λ p. AreTokens (tokens_of p) bytes in
    subst P (same_Some Absent o h) (record { rest = bytes; front = refl; over = over })
of_sound bytes false o over h = option_and_then_some _ (operands_at bytes) o h (λ (x : Operands × List ℕ) is e.
    let both = cond_some (is_over x.1) x.0 o e in
    let P : Operands → Type 0 = λ p. AreTokens (tokens_of p) bytes in
    subst P both.1 (record { rest = x.1; front = at_sound bytes x is; over = both.0 }))

-- operands that are read are spelled so
pub operands_sound : (bytes : List ℕ) (o : Operands) → operands_of bytes ≡ Some o → AreTokens (tokens_of o) bytes
unfolding operands_of
operands_sound bytes o h = of_sound bytes (is_over bytes) o refl h

-- ---- what is spelled is read

targets_complete : (t : Targets) (bytes rest : List ℕ) → Front (targets_tokens t) bytes rest → is_over rest ≡ true → targets_at bytes ≡ Some (t, rest)
unfolding targets_at
targets_complete (One first) bytes rest (mid, w, e) over =
    let none : sign_at 44 mid ≡ None = over_no_sign 44 mid (λ q. omega arith) (ap is_over e ∙ over) in
    rw (w, none) (ap (λ (r : List ℕ). Some (One first, r)) e)
targets_complete (Both first second) bytes rest (mid, w, (after, comma, (last, v, e))) over =
    rw (w, comma, v) (ap (λ (r : List ℕ). Some (Both first second, r)) e)

bracket_none : (bytes : List ℕ) → sign_at 91 bytes ≡ None → bracketed_at bytes ≡ None
unfolding bracketed_at
bracket_none bytes none = rw none

bracketed_complete : (bytes inside tail rest : List ℕ) (k : ℕ) → sign_at 91 bytes ≡ Some inside → number_at inside ≡ Some (k, tail) → sign_at 93 tail ≡ Some rest → bracketed_at bytes ≡ Some (k, rest)
unfolding bracketed_at
bracketed_complete bytes inside tail rest k s n e = rw (s, n, e)

scratch_none : (name rest : List ℕ) (m : Bool) → scratch_or_name name rest m None ≡ name_to name rest (sign_at 44 rest)
scratch_none name rest true = refl
scratch_none name rest false = refl

named_other : (name rest : List ℕ) → sign_at 91 rest ≡ None → named_at name rest ≡ name_to name rest (sign_at 44 rest)
unfolding named_at
named_other name rest none = rw (bracket_none rest none) (scratch_none name rest (bytes_eq name (codes "M")))

-- operands that begin with a word
by_name : (bytes name rest : List ℕ) → word_at bytes ≡ Some (name, rest) → operands_at bytes ≡ named_at name rest
unfolding operands_at
by_name bytes name rest w =
    let a : sign_at 35 bytes ≡ None = word_no_sign 35 bytes (name, rest) refl w in
    let b : sign_at 91 bytes ≡ None = word_no_sign 91 bytes (name, rest) refl w in
    let c : number_at bytes ≡ None = word_no_number bytes (name, rest) w in
    rw (a, b, c, w)

by_open : (bytes inside : List ℕ) → sign_at 91 bytes ≡ Some inside → operands_at bytes ≡ place_at inside
unfolding operands_at
by_open bytes inside s =
    let a : sign_at 35 bytes ≡ None = sign_no_sign 91 35 bytes inside (λ q. omega arith) s in
    rw (a, s)

by_four : (bytes tail : List ℕ) → number_at bytes ≡ Some (4, tail) → operands_at bytes ≡ header_at tail
unfolding operands_at
by_four bytes tail n =
    let a : sign_at 35 bytes ≡ None = number_no_sign 35 bytes (4, tail) refl n in
    let b : sign_at 91 bytes ≡ None = number_no_sign 91 bytes (4, tail) refl n in
    rw (a, b, n)

by_hash : (bytes inside : List ℕ) → sign_at 35 bytes ≡ Some inside → operands_at bytes ≡ constant_at inside
unfolding operands_at
by_hash bytes inside s = rw s

number_complete : (inside tail : List ℕ) (k : ℕ) → number_at inside ≡ Some (k, tail) → constant_at inside ≡ number_to k tail (sign_at 44 tail)
unfolding constant_at
number_complete inside tail k n = rw n

length_complete : (inside rest : List ℕ) → word_at inside ≡ Some (codes "len", rest) → constant_at inside ≡ Some (Length, rest)
unfolding constant_at
length_complete inside rest w =
    let none : number_at inside ≡ None = word_no_number inside (codes "len", rest) w in
    rw (none, w)

place_complete : (inside tail rest : List ℕ) (k : ℕ) → number_at inside ≡ Some (k, tail) → sign_at 93 tail ≡ Some rest → place_at inside ≡ Some (Place k, rest)
unfolding place_at
place_complete inside tail rest k n s = rw (n, s)

indexed_complete : (inside plus number tail rest : List ℕ) (k : ℕ) → word_at inside ≡ Some (codes "x", plus) → sign_at 43 plus ≡ Some number → number_at number ≡ Some (k, tail) → sign_at 93 tail ≡ Some rest → place_at inside ≡ Some (Indexed k, rest)
unfolding place_at indexed_at
indexed_complete inside plus number tail rest k w p n s =
    let none : number_at inside ≡ None = word_no_number inside (codes "x", plus) w in
    rw (none, w, p, n, s)

header_complete : (a b c d e f g h rest : List ℕ) (k : ℕ) → sign_at 42 a ≡ Some b → sign_at 40 b ≡ Some c → sign_at 91 c ≡ Some d → number_at d ≡ Some (k, e) → sign_at 93 e ≡ Some f → sign_at 38 f ≡ Some g → number_at g ≡ Some (15, h) → sign_at 41 h ≡ Some rest → header_at a ≡ Some (Header k, rest)
unfolding header_at
header_complete a b c d e f g h rest k star inside open_bracket n close and_sign mask end_ =
    rw (star, inside, bracketed_complete c d e f k open_bracket n close, and_sign, mask, end_)

scratch_complete : (rest tail : List ℕ) (k : ℕ) → bracketed_at rest ≡ Some (k, tail) → named_at (codes "M") rest ≡ Some (Scratch k, tail)
unfolding named_at
scratch_complete rest tail k e = rw e

ends_with : (o : Operands) (a b : List ℕ) → a ≡ b → ◌≡◌ {A = Option (Operands × List ℕ)} (Some (o, a)) (Some (o, b))
ends_with o a b e = ap (λ (r : List ℕ). Some (o, r)) e

whole : (bytes rest : List ℕ) (o : Operands) → is_over bytes ≡ false → operands_at bytes ≡ Some (o, rest) → is_over rest ≡ true → operands_of bytes ≡ Some o
unfolding operands_of
whole bytes rest o some at over = rw (some, at, over)

alone : (bytes : List ℕ) → is_over bytes ≡ true → operands_of bytes ≡ Some Absent
unfolding operands_of
alone bytes over = rw over

-- operands whose tokens the bytes are, are read
pub operands_complete : (o : Operands) (bytes rest : List ℕ) → Front (tokens_of o) bytes rest → is_over rest ≡ true → operands_of bytes ≡ Some o
operands_complete Absent bytes rest e over = alone bytes (ap is_over e ∙ over)
operands_complete (Number k) bytes rest (a, s, (b, n, e)) over =
    let none : sign_at 44 b ≡ None = over_no_sign 44 b (λ q. omega arith) (ap is_over e ∙ over) in
    whole bytes rest (Number k) (sign_not_over 35 bytes a (λ q. omega arith) s) (by_hash bytes a s ∙ number_complete a b k n ∙ rw none (ends_with (Number k) b rest e)) over
operands_complete Length bytes rest (a, s, (b, w, e)) over =
    whole bytes rest Length (sign_not_over 35 bytes a (λ q. omega arith) s) (by_hash bytes a s ∙ length_complete a b w ∙ ends_with Length b rest e) over
operands_complete (Place k) bytes rest (a, s, (b, n, (c, t, e))) over =
    whole bytes rest (Place k) (sign_not_over 91 bytes a (λ q. omega arith) s) (by_open bytes a s ∙ place_complete a b c k n t ∙ ends_with (Place k) c rest e) over
operands_complete (Indexed k) bytes rest (a, s, (b, w, (c, p, (d, n, (f, t, e))))) over =
    whole bytes rest (Indexed k) (sign_not_over 91 bytes a (λ q. omega arith) s) (by_open bytes a s ∙ indexed_complete a b c d f k w p n t ∙ ends_with (Indexed k) f rest e) over
operands_complete (Scratch k) bytes rest (a, w, (b, s, (c, n, (d, t, e)))) over =
    whole bytes rest (Scratch k) (word_not_over bytes (codes "M", a) w) (by_name bytes (codes "M") a w ∙ scratch_complete a d k (bracketed_complete a b c d k s n t) ∙ ends_with (Scratch k) d rest e) over
operands_complete (Header k) bytes rest (a, four, (b, s1, (c, s2, (d, s3, (f, n, (g, s4, (h, s5, (i_, m, (j_, s6, e))))))))) over =
    whole bytes rest (Header k) (number_not_over bytes (4, a) four) (by_four bytes a four ∙ header_complete a b c d f g h i_ j_ k s1 s2 s3 n s4 s5 m s6 ∙ ends_with (Header k) j_ rest e) over
operands_complete (Name name) bytes rest (a, w, e) over =
    let ended : is_over a ≡ true = ap is_over e ∙ over in
    let none : sign_at 44 a ≡ None = over_no_sign 44 a (λ q. omega arith) ended in
    whole bytes rest (Name name) (word_not_over bytes (name, a) w) (by_name bytes name a w ∙ named_other name a (over_no_sign 91 a (λ q. omega arith) ended) ∙ rw none (ends_with (Name name) a rest e)) over
operands_complete (NumberTo k targets) bytes rest (a, s, (b, n, (c, comma, front))) over =
    let t : targets_at c ≡ Some (targets, rest) = targets_complete targets c rest front over in
    whole bytes rest (NumberTo k targets) (sign_not_over 35 bytes a (λ q. omega arith) s) (by_hash bytes a s ∙ number_complete a b k n ∙ rw (comma, t)) over
operands_complete (NameTo name targets) bytes rest (a, w, (b, comma, front)) over =
    let t : targets_at b ≡ Some (targets, rest) = targets_complete targets b rest front over in
    let apart : sign_at 91 a ≡ None = sign_no_sign 44 91 a b (λ q. omega arith) comma in
    whole bytes rest (NameTo name targets) (word_not_over bytes (name, a) w) (by_name bytes name a w ∙ named_other name a apart ∙ rw (comma, t)) over
