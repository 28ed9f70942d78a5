-- A program so far, and what is left of it.
use Rattle.std.proofs.Common.{◌≡◌, ℕ, ◌+◌, ◌<◌, ◌≤◌, true, false, List, [], ◌∷◌, ◌++◌, length, map, drop, get_or, add-one, Option, Some, None, Result, Ok, Err, ap, sym, ◌∙◌, refl, append_assoc, append-nil, length-append}
use Rattle.std.proofs.Math.Seq.{drop-cons}
use Rattle.std.proofs.lemmas.List.{drop_all}
use Rattle.std.specs.Option.{option_map}
use native.Mathlib.Numerals.{unary_clauses}
use Rattle.bpf_code.specs.declared.instruction.Ins.{Ins}
use Rattle.bpf_code.specs.declared.error.CodeError.{CodeError}
use Rattle.bpf_code.specs.declared.error.CodeError.TheVariants as errors
use Rattle.bpf_text.specs.declared.draft.Noted.{Noted as LentNoted}
use Rattle.bpf_text.specs.declared.row.LabelIns.{LabelIns as LentRow}
use Rattle.bpf_text.specs.Rows.{LabelIns}
use Rattle.bpf_text.specs.Sketches.{Noted, noted_program}
use Rattle.bpf_text.specs.Source.{Label, resolve, with_ins}
use Rattle.bpf_text.specs.Views.{noted_view, row_view}

abbrev pub with_front : List Ins → Result (List Ins) CodeError → Result (List Ins) CodeError
with_front front (Ok rest) = Ok (front ++ rest)
with_front front (Err e) = Err e

-- an instruction more in front
front_more : (front : List Ins) (ins : Ins) (later : Result (List Ins) CodeError) → with_front front (with_ins (Ok ins) later) ≡ with_front (front ++ ins ∷ []) later
front_more front ins (Ok rest) = simp append_assoc
front_more front ins (Err e) = refl

-- a line without an instruction
row_absent : (labels : List Label) (count line : ℕ) (front : List Ins) (noted : Noted) (more : List Noted) → noted.again ≡ false → noted.row ≡ None → with_front front (noted_program labels count (length front) line (noted ∷ more)) ≡ with_front front (noted_program labels count (length front) (line + 1) more)
row_absent labels count line front noted more once none = rw (once, none) (simp unary_clauses)

-- a line with one
row_there : (labels : List Label) (count line : ℕ) (front : List Ins) (noted : Noted) (more : List Noted) (row : LabelIns) (ins : Ins) → noted.again ≡ false → noted.row ≡ Some row → resolve labels count (length front) line row ≡ Ok ins → with_front front (noted_program labels count (length front) line (noted ∷ more)) ≡ with_front (front ++ ins ∷ []) (noted_program labels count (length (front ++ ins ∷ [])) (line + 1) more)
row_there labels count line front noted more row ins once some is =
    let longer : length (front ++ ins ∷ []) ≡ length front + 1 = length-append front (ins ∷ []) in
    rw (once, some, is, longer) (front_more front ins (noted_program labels count (length front + 1) (line + 1) more))

-- the lines from one on
front_line : (lines : List LentNoted) (index : ℕ) (d : LentNoted) → index < length lines → map noted_view (drop index lines) ≡ noted_view (get_or lines index d) ∷ map noted_view (drop (index + 1) lines)
front_line lines index d inside = rw (add-one, drop-cons lines index d) refl

pub line_kept : (labels : List Label) (count index : ℕ) (front : List Ins) (lines items : List LentNoted) (end : Result (List Ins) CodeError) (d : LentNoted) → lines ≡ items → index < length lines → (get_or lines index d).again ≡ false → (get_or lines index d).row ≡ None → with_front front (noted_program labels count (length front) (index + 1) (map noted_view (drop index items))) ≡ end → with_front front (noted_program labels count (length front) (index + 1 + 1) (map noted_view (drop (index + 1) items))) ≡ end
line_kept labels count index front lines items end d same inside once none h =
    let noted : Noted = noted_view (get_or lines index d) in
    let all : map noted_view (drop index items) ≡ noted ∷ map noted_view (drop (index + 1) items) = rw (← same) (front_line lines index d inside) in
    let blank : noted.row ≡ None = ap (λ (row : Option LentRow). option_map row_view row) none in
    sym (row_absent labels count (index + 1) front noted (map noted_view (drop (index + 1) items)) once blank) ∙ (rw all at h)

pub line_grown : (labels : List Label) (count index place : ℕ) (front longer : List Ins) (lines items : List LentNoted) (end : Result (List Ins) CodeError) (d : LentNoted) (row : LentRow) (ins : Ins) → lines ≡ items → index < length lines → (get_or lines index d).again ≡ false → (get_or lines index d).row ≡ Some row → place ≡ length front → resolve labels count place (index + 1) (row_view row) ≡ Ok ins → longer ≡ front ++ ins ∷ [] → with_front front (noted_program labels count (length front) (index + 1) (map noted_view (drop index items))) ≡ end → with_front longer (noted_program labels count (length longer) (index + 1 + 1) (map noted_view (drop (index + 1) items))) ≡ end
line_grown labels count index place front longer lines items end d row ins same inside once some len is pushed h =
    let noted : Noted = noted_view (get_or lines index d) in
    let all : map noted_view (drop index items) ≡ noted ∷ map noted_view (drop (index + 1) items) = rw (← same) (front_line lines index d inside) in
    let has : noted.row ≡ Some (row_view row) = ap (λ (row : Option LentRow). option_map row_view row) some in
    let here : resolve labels count (length front) (index + 1) (row_view row) ≡ Ok ins = rw len at is in
    rw pushed (sym (row_there labels count (index + 1) front noted (map noted_view (drop (index + 1) items)) (row_view row) ins once has here) ∙ (rw all at h))

-- before the first line
pub front_none : (later : Result (List Ins) CodeError) → with_front [] later ≡ later
front_none (Ok rest) = refl
front_none (Err e) = refl

-- after the last one
pub lines_over : (labels : List Label) (count index : ℕ) (front : List Ins) (lines items : List LentNoted) (end : Result (List Ins) CodeError) → lines ≡ items → length lines ≤ index → with_front front (noted_program labels count (length front) (index + 1) (map noted_view (drop index items))) ≡ end → end ≡ Ok front
lines_over labels count index front lines items end same over h =
    let none : drop index items ≡ [] = rw (← same) (drop_all index lines over) in
    sym (rw none at h) ∙ ap (λ (all : List Ins). Ok all) (append-nil front)

-- a line whose label was there before
pub line_again : (labels : List Label) (count index : ℕ) (front : List Ins) (lines items : List LentNoted) (end : Result (List Ins) CodeError) (d : LentNoted) → lines ≡ items → index < length lines → (get_or lines index d).again ≡ true → with_front front (noted_program labels count (length front) (index + 1) (map noted_view (drop index items))) ≡ end → end ≡ Err (errors.Label (index + 1))
line_again labels count index front lines items end d same inside again h =
    let all : map noted_view (drop index items) ≡ noted_view (get_or lines index d) ∷ map noted_view (drop (index + 1) items) = rw (← same) (front_line lines index d inside) in
    sym (rw again at (rw all at h))
