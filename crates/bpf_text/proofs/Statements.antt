-- The reading of a line answers what the line spells.
use Rattle.std.proofs.Common.{◌≡◌, ℕ, Bool, true, false, ◌||◌, cond, List, [], ◌∷◌, Option, Some, None, refl, ap, subst, arith}
use Rattle.std.specs.Option.{option_map}
use Rattle.std.proofs.lemmas.Option.{option_and_then_some, cond_some, same_Some}
use Rattle.bpf_text.specs.declared.mnemonic.Mnemonic.{Mnemonic}
use Rattle.bpf_text.specs.Lexis.{word_at, number_at, sign_at, is_over, begins_blank}
use Rattle.bpf_text.specs.Mnemonics.{mnemonic_of}
use Rattle.bpf_text.specs.Operands.{Operands}
use Rattle.bpf_text.specs.OperandReading.{operands_at, operands_of}
use Rattle.bpf_text.specs.Grammar.{Word, Sign, Front}
use Rattle.bpf_text.specs.Rows.{LabelIns, is_absent, row_of}
use Rattle.bpf_text.specs.LineReading.{row_after, statement_by, statement_of, label_at, Begins}
use Rattle.bpf_text.specs.Source.{HasLabels, Spells, IsStatement}
use Rattle.bpf_text.proofs.Fronts.{none_unless, sign_no_sign, sign_not_over, word_not_over, word_no_sign, number_no_sign}
use Rattle.bpf_text.proofs.Grammars.{operands_sound, operands_complete}

-- ---- labels

label_sound : (bytes label tail : List ℕ) → label_at bytes ≡ Some (label, tail) → Front (Word label ∷ Sign 58 ∷ []) bytes tail
unfolding label_at
label_sound bytes label tail h =
    option_and_then_some _ (word_at bytes) (label, tail) h (λ (w : List ℕ × List ℕ) is e1.
    option_and_then_some _ (sign_at 58 w.1) (label, tail) e1 (λ (rest : List ℕ) colon e2.
    let P : List ℕ × List ℕ → Type 0 = λ y. Front (Word y.0 ∷ Sign 58 ∷ []) bytes y.1 in
    subst P (same_Some (w.0, rest) (label, tail) e2) (w.1, is, (rest, colon, refl))))

label_complete : (bytes label tail : List ℕ) → Front (Word label ∷ Sign 58 ∷ []) bytes tail → label_at bytes ≡ Some (label, tail)
unfolding label_at
label_complete bytes label tail (a, w, (b, colon, e)) = rw (w, colon) (ap (λ (r : List ℕ). Some (label, r)) e)

pub labels_sound : (bytes : List ℕ) (labels : List (List ℕ)) (rest : List ℕ) → Begins bytes labels rest → HasLabels bytes labels rest
labels_sound bytes [] rest h = h
labels_sound bytes (label ∷ labels) rest (tail, here, later) = (tail, label_sound bytes label tail here, labels_sound tail labels rest later)

pub labels_complete : (bytes : List ℕ) (labels : List (List ℕ)) (rest : List ℕ) → HasLabels bytes labels rest → Begins bytes labels rest
labels_complete bytes [] rest h = h
labels_complete bytes (label ∷ labels) rest (tail, here, later) = (tail, label_complete bytes label tail here, labels_complete tail labels rest later)

-- ---- statements

row_sound : (bytes word tail : List ℕ) (row : LabelIns) → word_at bytes ≡ Some (word, tail) → row_after word tail ≡ Some row → Spells bytes row
unfolding row_after
row_sound bytes word tail row begins h =
    option_and_then_some _ (mnemonic_of word) row h (λ (m : Mnemonic) names e1.
    option_and_then_some _ (operands_of tail) row e1 (λ (o : Operands) is e2.
    spelled m o names is (is_absent o || begins_blank tail) refl e2))
  where
    spelled : (m : Mnemonic) (o : Operands) → mnemonic_of word ≡ Some m → operands_of tail ≡ Some o → (b : Bool) → (is_absent o || begins_blank tail) ≡ b → cond b (row_of m o) None ≡ Some row → Spells bytes row
    spelled m o names is true apart means = record { word = word; tail = tail; mnemonic = m; operands = o; begins = begins; names = names; apart = apart; spelled = operands_sound tail o is; means = means }
    spelled m o names is false apart means = absurd (cc)

row_complete : (bytes : List ℕ) (row : LabelIns) (s : Spells bytes row) → row_after s.word s.tail ≡ Some row
unfolding row_after
row_complete bytes row s =
    let names : mnemonic_of s.word ≡ Some s.mnemonic = s.names in
    let operands : operands_of s.tail ≡ Some s.operands = operands_complete s.operands s.tail s.spelled.rest s.spelled.front s.spelled.over in
    let apart : (is_absent s.operands || begins_blank s.tail) ≡ true = s.apart in
    rw (names, operands, apart) s.means

by_sound : (bytes : List ℕ) (w : Option (List ℕ × List ℕ)) (row : Option LabelIns) → word_at bytes ≡ w → statement_by bytes w ≡ Some row → IsStatement bytes row
by_sound bytes None row w h =
    let both = cond_some (is_over bytes) None row h in
    subst (IsStatement bytes) both.1 both.0
by_sound bytes (Some word) None w h = absurd (no_none (row_after word.0 word.1) h)
  where
    no_none : (r : Option LabelIns) → ◌≡◌ {A = Option (Option LabelIns)} (option_map Some r) (Some None) → ⊥
    no_none None e = cc
    no_none (Some x) e = cc
by_sound bytes (Some word) (Some row) w h = row_sound bytes word.0 word.1 row w (inner (row_after word.0 word.1) h)
  where
    inner : (r : Option LabelIns) → ◌≡◌ {A = Option (Option LabelIns)} (option_map Some r) (Some (Some row)) → r ≡ Some row
    inner None e = absurd (cc)
    inner (Some x) e = same_Some (Some x) (Some row) e

pub statement_sound : (bytes : List ℕ) (row : Option LabelIns) → statement_of bytes ≡ Some row → IsStatement bytes row
unfolding statement_of
statement_sound bytes row h = by_sound bytes (word_at bytes) row refl h

both_bool : (b : Bool) → b ≡ true → b ≡ false → ⊥
both_bool b p q = cc

pub statement_complete : (bytes : List ℕ) (row : Option LabelIns) → IsStatement bytes row → statement_of bytes ≡ Some row
unfolding statement_of
statement_complete bytes None over =
    let none : word_at bytes ≡ None = none_unless (word_at bytes) (λ w is. both_bool (is_over bytes) over (word_not_over bytes w is)) in
    rw (none, over)
statement_complete bytes (Some row) s =
    let begins : word_at bytes ≡ Some (s.word, s.tail) = s.begins in
    let tail : row_after s.word s.tail ≡ Some row = row_complete bytes row s in
    rw (begins, tail)

-- ---- no label begins a statement

none_at : (bytes rest : List ℕ) → sign_at 58 bytes ≡ Some rest → operands_at bytes ≡ None
unfolding operands_at
none_at bytes rest colon =
    let a : sign_at 35 bytes ≡ None = sign_no_sign 58 35 bytes rest (λ q. omega arith) colon in
    let b : sign_at 91 bytes ≡ None = sign_no_sign 58 91 bytes rest (λ q. omega arith) colon in
    let c : number_at bytes ≡ None = none_unless (number_at bytes) (λ n is. some_none (sign_at 58 bytes) rest colon (number_no_sign 58 bytes n refl is)) in
    let d : word_at bytes ≡ None = none_unless (word_at bytes) (λ w is. some_none (sign_at 58 bytes) rest colon (word_no_sign 58 bytes w refl is)) in
    rw (a, b, c, d)
  where
    some_none : (o : Option (List ℕ)) (r : List ℕ) → o ≡ Some r → o ≡ None → ⊥
    some_none o r p q = cc

none_of : (bytes rest : List ℕ) → sign_at 58 bytes ≡ Some rest → operands_of bytes ≡ None
unfolding operands_of
none_of bytes rest colon =
    let some : is_over bytes ≡ false = sign_not_over 58 bytes rest (λ q. omega arith) colon in
    let none : operands_at bytes ≡ None = none_at bytes rest colon in
    rw (some, none)

same_word : (o : Option (List ℕ × List ℕ)) (a b : List ℕ × List ℕ) → o ≡ Some a → o ≡ Some b → a ≡ b
same_word o a b p q = cc

neither : (o : Option Operands) (x : Operands) → o ≡ None → o ≡ Some x → ⊥
neither o x p q = cc

pub statement_no_label : (bytes : List ℕ) (row : Option LabelIns) → IsStatement bytes row → label_at bytes ≡ None
statement_no_label bytes row is = none_unless (label_at bytes) (λ l here. clash row is l (label_sound bytes l.0 l.1 here))
  where
    clash : (r : Option LabelIns) → IsStatement bytes r → (l : List ℕ × List ℕ) → Front (Word l.0 ∷ Sign 58 ∷ []) bytes l.1 → ⊥
    clash None over l (a, w, more) = both_bool (is_over bytes) over (word_not_over bytes (l.0, a) w)
    clash (Some r) s l (a, w, (b, colon, e)) =
        let same : a ≡ s.tail = ap (λ (p : List ℕ × List ℕ). p.1) (same_word (word_at bytes) (l.0, a) (s.word, s.tail) w s.begins) in
        let some : operands_of s.tail ≡ Some s.operands = operands_complete s.operands s.tail s.spelled.rest s.spelled.front s.spelled.over in
        let none : operands_of a ≡ None = none_of a b colon in
        neither (operands_of s.tail) s.operands (rw same at none) some
