-- One label more.
use Rattle.std.proofs.Common.{◌≡◌, ℕ, ◌+◌, Bool, true, false, ◌||◌, List, [], ◌∷◌, ◌++◌, Option, Some, None, refl, sym, ap, ◌∙◌, append_assoc}
use Rattle.std.specs.Prelude.{map, is_some}
use Rattle.std.specs.Option.{option_map}
use Rattle.bpf_text.specs.declared.row.LabelIns.{LabelIns as LentRow}
use Rattle.bpf_text.specs.Views.{row_view}
use Rattle.std.proofs.lemmas.List.{map-append, append-nil}
use Rattle.std.proofs.lemmas.Option.{same_Some}
use Rattle.bpf_text.specs.Source.{Label, labels_at, has_name, repeats, count_row, IsLine, Line}
use Rattle.bpf_text.specs.Sketches.{Noted, Sketch}
use Rattle.bpf_text.specs.LineReading.{Begins, label_at, TakesLabels, with_line, statement_of}
use Rattle.bpf_text.specs.Rows.{LabelIns}
use Rattle.bpf_text.proofs.Statements.{labels_sound, labels_complete, statement_sound, statement_complete, statement_no_label}

pub begins_more : (bytes tail rest name : List ℕ) (names : List (List ℕ)) → Begins bytes names tail → label_at tail ≡ Some (name, rest) → Begins bytes (names ++ name ∷ []) rest
begins_more bytes tail rest name [] same is = (rest, rw same is, refl)
begins_more bytes tail rest name (first ∷ names) (mid, here, later) is = (mid, here, begins_more mid tail rest name names later is)

or_false : (b : Bool) → (b || false) ≡ b
or_false true = refl
or_false false = refl

or_assoc : (a b c : Bool) → (a || (b || c)) ≡ ((a || b) || c)
or_assoc true b c = refl
or_assoc false b c = refl

pub repeats_more : (old : List Label) (place : ℕ) (names : List (List ℕ)) (name : List ℕ) → repeats old place (names ++ name ∷ []) ≡ (repeats old place names || has_name (old ++ labels_at place names) name)
repeats_more old place [] name = or_false (has_name old name) ∙ ap (λ (labels : List Label). has_name labels name) (sym (append-nil old))
repeats_more old place (first ∷ names) name =
    let here : List Label = record { name = first; place = place } ∷ [] in
    ap (λ (b : Bool). has_name old first || b) (repeats_more (old ++ here) place names name ∙ ap (λ (labels : List Label). repeats (old ++ here) place names || has_name labels name) (append_assoc old here (labels_at place names)))
    ∙ or_assoc (has_name old first) (repeats (old ++ here) place names) (has_name (old ++ (record { name = first; place = place } ∷ labels_at place names)) name)

none_some : {T : Type 0} (o : Option T) (x : T) → o ≡ None → o ≡ Some x → ⊥
none_some o x a b = cc

same_after : (o : Option (List ℕ × List ℕ)) (a b : List ℕ) (x y : List ℕ) → o ≡ Some (a, x) → o ≡ Some (b, y) → x ≡ y
same_after o a b x y p q = ap (λ (r : List ℕ × List ℕ). r.1) (same_Some (a, x) (b, y) (sym p ∙ q))

-- the labels that bytes begin with, up to where no more follows, are determined
pub begins_one : (bytes rest other : List ℕ) (names others : List (List ℕ)) → Begins bytes names rest → label_at rest ≡ None → Begins bytes others other → label_at other ≡ None → rest ≡ other
begins_one bytes rest other [] [] b n c m = sym b ∙ c
begins_one bytes rest other [] (name ∷ others) b n (tail, here, more) m = absurd (none_some (label_at bytes) (name, tail) (rw b n) here)
begins_one bytes rest other (name ∷ names) [] (tail, here, more) n c m = absurd (none_some (label_at bytes) (name, tail) (rw c m) here)
begins_one bytes rest other (name ∷ names) (second ∷ others) (tail, here, more) n (tail2, here2, more2) m =
    begins_one tail rest other names others more n (rw (same_after (label_at bytes) name second tail tail2 here here2) more2) m

-- a line whose labels are taken, and whose statement is read
pub line_found : (bytes rest : List ℕ) (old : Sketch) (labels : List Label) (again : Bool) (row : Option LabelIns) → TakesLabels bytes rest old.count old.labels labels again → statement_of rest ≡ Some row → (lines : List Noted) (count : ℕ) → lines ≡ old.lines ++ record { again = again; row = row } ∷ [] → count ≡ old.count + count_row row → (line : Line) × IsLine bytes line × ◌≡◌ {A = Sketch} (record { labels = labels; lines = lines; count = count }) (with_line old line)
line_found bytes rest old labels again row taken is lines count same_lines same_count =
    let line : Line = record { labels = taken.names; row = row } in
    let fine : IsLine bytes line = record { rest = rest; labels = labels_sound bytes taken.names rest taken.begins; row = statement_sound rest row is } in
    let e1 : labels ≡ old.labels ++ labels_at old.count taken.names = taken.labels in
    let e2 : again ≡ repeats old.labels old.count taken.names = taken.repeated in
    (line, fine, rw (same_lines, same_count, e1, e2))

-- no line, where the statement isn't of the form
pub line_none : (bytes rest : List ℕ) (place : ℕ) (old new : List Label) (again : Bool) → TakesLabels bytes rest place old new again → statement_of rest ≡ None → (line : Line) → ¬ IsLine bytes line
line_none bytes rest place old new again taken none line fine =
    let some : statement_of fine.rest ≡ Some line.row = statement_complete fine.rest line.row fine.row in
    let last : label_at fine.rest ≡ None = statement_no_label fine.rest line.row fine.row in
    let same : rest ≡ fine.rest = begins_one bytes rest fine.rest taken.names line.labels taken.begins taken.last (labels_complete bytes line.labels fine.rest fine.labels) last in
    none_some (statement_of rest) line.row none (rw same some)

-- one label, or one line, pushed
pub labels_pushed : (before old new : List Label) (place : ℕ) (names : List (List ℕ)) (name : List ℕ) → old ≡ before ++ labels_at place names → new ≡ old ++ record { name = name; place = place } ∷ [] → new ≡ before ++ labels_at place (names ++ name ∷ [])
labels_pushed before old new place names name is pushed = rw (pushed, is, map-append) (append_assoc before (labels_at place names) (record { name = name; place = place } ∷ []))

pub mapped_push : {A B : Type 0} (v : A → B) (old new : List A) (x : A) → new ≡ old ++ x ∷ [] → map v new ≡ map v old ++ v x ∷ []
mapped_push v old new x pushed = rw pushed (map-append v old (x ∷ []))

pub counted : (row : Option LentRow) (b : Bool) → b ≡ is_some row → b ≡ true → count_row (option_map row_view row) ≡ 1
counted None b e t = cc
counted (Some row) b e t = refl

pub not_counted : (row : Option LentRow) (b : Bool) → b ≡ is_some row → b ≡ false → count_row (option_map row_view row) ≡ 0
not_counted None b e t = refl
not_counted (Some row) b e t = cc

pub repeated_then : (before : List Label) (place : ℕ) (names : List (List ℕ)) (name : List ℕ) (again : Bool) → again ≡ repeats before place names → again ≡ true → true ≡ repeats before place (names ++ name ∷ [])
repeated_then before place names name again is yes_ =
    let e : repeats before place names ≡ true = sym is ∙ yes_ in
    sym (repeats_more before place names name ∙ rw e)

pub repeated_else : (before old : List Label) (place : ℕ) (names : List (List ℕ)) (name : List ℕ) (again known : Bool) → again ≡ repeats before place names → again ≡ false → old ≡ before ++ labels_at place names → known ≡ has_name old name → known ≡ repeats before place (names ++ name ∷ [])
repeated_else before old place names name again known is no_ same knows =
    let e : repeats before place names ≡ false = sym is ∙ no_ in
    knows ∙ ap (λ (labels : List Label). has_name labels name) same ∙ sym (repeats_more before place names name ∙ rw e)
