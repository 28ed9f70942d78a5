-- A text names at most one program, and then it has no fault.
use Rattle.std.proofs.Common.{◌≡◌, ℕ, List, [], ◌∷◌, ◌++◌, Option, Some, None, Result, Ok, Err, refl, sym, ap, ◌∙◌}
use Rattle.bpf_code.specs.declared.instruction.Ins.{Ins}
use Rattle.bpf_code.specs.declared.error.CodeError.{CodeError}
use Rattle.bpf_code.specs.declared.error.CodeError.TheVariants as errors
use Rattle.bpf_text.specs.Rows.{LabelIns}
use Rattle.bpf_text.specs.LineReading.{statement_of, label_at, Begins}
use Rattle.bpf_text.specs.Source.{IsLine, Line, AreLines, lines_of, program_of, SourceText, IsTextFault}
use Rattle.bpf_text.proofs.Statements.{labels_complete, statement_complete, statement_no_label}

some_one : {T : Type 0} (o : Option T) (x y : T) → o ≡ Some x → o ≡ Some y → x ≡ y
some_one o x y p q = cc

none_some : {T : Type 0} (o : Option T) (x : T) → o ≡ None → o ≡ Some x → ⊥
none_some o x p q = cc

-- what labels are read, and what follows them
both_one : (bytes rest other : List ℕ) (names others : List (List ℕ)) → Begins bytes names rest → label_at rest ≡ None → Begins bytes others other → label_at other ≡ None → (rest ≡ other) × (names ≡ others)
both_one bytes rest other [] [] b n c m = (sym b ∙ c, refl)
both_one bytes rest other [] (name ∷ others) b n (tail, here, more) m = absurd (none_some (label_at bytes) (name, tail) (rw b n) here)
both_one bytes rest other (name ∷ names) [] (tail, here, more) n c m = absurd (none_some (label_at bytes) (name, tail) (rw c m) here)
both_one bytes rest other (name ∷ names) (second ∷ others) (tail, here, more) n (tail2, here2, more2) m =
    let same : (name, tail) ≡ (second, tail2) = some_one (label_at bytes) (name, tail) (second, tail2) here here2 in
    let e : tail ≡ tail2 = ap (λ (p : List ℕ × List ℕ). p.1) same in
    let f : name ≡ second = ap (λ (p : List ℕ × List ℕ). p.0) same in
    let rests = both_one tail rest other names others more n (rw e more2) m in
    (rests.0, rw (f, rests.1))

same_line : (a b : List (List ℕ)) (r s : Option LabelIns) → a ≡ b → r ≡ s → ◌≡◌ {A = Line} (record { labels = a; row = r }) (record { labels = b; row = s })
same_line a b r s p q = rw (p, q)

one_line : (bytes : List ℕ) (x y : Line) → IsLine bytes x → IsLine bytes y → x ≡ y
one_line bytes x y p q =
    let both = both_one bytes p.rest q.rest x.labels y.labels (labels_complete bytes x.labels p.rest p.labels) (statement_no_label p.rest x.row p.row) (labels_complete bytes y.labels q.rest q.labels) (statement_no_label q.rest y.row q.row) in
    let at : statement_of p.rest ≡ Some x.row = statement_complete p.rest x.row p.row in
    let row : x.row ≡ y.row = some_one (statement_of q.rest) x.row y.row (rw both.0 at at) (statement_complete q.rest y.row q.row) in
    same_line x.labels y.labels x.row y.row both.1 row

one_lines : (bytes : List (List ℕ)) (xs ys : List Line) → AreLines bytes xs → AreLines bytes ys → xs ≡ ys
one_lines [] [] [] p q = refl
one_lines [] [] (y ∷ ys) p q = absurd q
one_lines [] (x ∷ xs) ys p q = absurd p
one_lines (b ∷ bytes) [] ys p q = absurd p
one_lines (b ∷ bytes) (x ∷ xs) [] p q = absurd q
one_lines (b ∷ bytes) (x ∷ xs) (y ∷ ys) p q =
    let e : x ≡ y = one_line b x y p.0 q.0 in
    let f : xs ≡ ys = one_lines bytes xs ys p.1 q.1 in
    rw (e, f)

ok_one : {E : Type 0} (a b : List Ins) → ◌≡◌ {A = Result (List Ins) E} (Ok a) (Ok b) → a ≡ b
ok_one a b h = cc

pub one_program : (text : List ℕ) (p q : List Ins) → SourceText text p → SourceText text q → p ≡ q
one_program text p q (xs, are, is) (ys, are2, is2) =
    let e : xs ≡ ys = one_lines (lines_of text) xs ys are are2 in
    ok_one p q (sym is ∙ ap program_of e ∙ is2)

-- a line that isn't of the form is no line of lines
bad_at : (front : List (List ℕ)) (bad : List ℕ) (tail : List (List ℕ)) (lines : List Line) → AreLines (front ++ bad ∷ tail) lines → ((line : Line) → ¬ IsLine bad line) → ⊥
bad_at [] bad tail [] are none = are
bad_at [] bad tail (x ∷ lines) are none = none x are.0
bad_at (b ∷ front) bad tail [] are none = are
bad_at (b ∷ front) bad tail (x ∷ lines) are none = bad_at front bad tail lines are.1 none

not_both : (r : Result (List Ins) CodeError) (p : List Ins) (e : CodeError) → r ≡ Ok p → r ≡ Err e → ⊥
not_both r p e a b = cc

fault_clash : (text : List ℕ) (p : List Ins) (e : CodeError) (ys : List Line) → SourceText text p → AreLines (lines_of text) ys → program_of ys ≡ Err e → ⊥
fault_clash text p e ys (xs, are, is) are2 fault =
    let same : xs ≡ ys = one_lines (lines_of text) xs ys are are2 in
    not_both (program_of ys) p e (ap program_of (sym same) ∙ is) fault

pub no_fault : (text : List ℕ) (p : List Ins) (e : CodeError) → SourceText text p → IsTextFault text e → e ≡ errors.NoMemory
no_fault text p errors.Length source fault = absurd fault
no_fault text p (errors.Code place) source fault = absurd fault
no_fault text p (errors.Line line) (xs, are, is) fault = absurd (bad_at fault.front fault.bad fault.tail xs (rw fault.all at are) fault.none)
no_fault text p (errors.Label line) source (ys, are2, is2) = absurd (fault_clash text p (errors.Label line) ys source are2 is2)
no_fault text p (errors.FarJump line) source (ys, are2, is2) = absurd (fault_clash text p (errors.FarJump line) ys source are2 is2)
no_fault text p errors.NoMemory source fault = refl
