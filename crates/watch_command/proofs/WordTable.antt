-- The words of a table, looked at one after the other.
use Rattle.std.proofs.Common.{◌≡◌, ℕ, ◌+◌, ◌<◌, Bool, true, false, List, ◌∷◌, length, map, drop, get_or, add-one, Option, Some, refl, sym, ◌∙◌, rules}
use Rattle.std.proofs.Math.Seq.{drop-cons}
use Rattle.std.specs.Bool.{Decides}
use Rattle.std.specs.Str.{bytes_eq}
use Rattle.std.proofs.lemmas.Slice.Eq.{bytes_eq-Decides}
use Rattle.watch_command.specs.declared.words.Key.{Key}
use Rattle.watch_command.specs.Sayings.{key_in}

same_bytes : (xs ys : List ℕ) (r : Bool) → Decides r (xs ≡ ys) → r ≡ bytes_eq xs ys
same_bytes xs ys r h = search (rules, bytes_eq-Decides)

rows_from : {X : Type 0} (rows : List X) (index : ℕ) (d : X) → index < length rows → drop index rows ≡ get_or rows index d ∷ drop (index + 1) rows
rows_from rows index d inside = rw (add-one, drop-cons rows index d) refl

-- the row at an index isn't that of the word
pub passed_on : {X : Type 0} (row : X → List ℕ × Key) (word : List ℕ) (rows : List X) (index : ℕ) (d : X) (found : Option Key) (same : Bool) → index < length rows → key_in word (map row (drop index rows)) ≡ found → Decides same (word ≡ (row (get_or rows index d)).0) → same ≡ false → key_in word (map row (drop (index + 1) rows)) ≡ found
passed_on row word rows index d found same inside h decides other =
    let apart : bytes_eq word (row (get_or rows index d)).0 ≡ false = sym (same_bytes word (row (get_or rows index d)).0 same decides) ∙ other in
    rw apart at (rw (rows_from rows index d inside) at h)

-- the row at an index is that of the word
pub named_here : {X : Type 0} (row : X → List ℕ × Key) (word : List ℕ) (rows : List X) (index : ℕ) (d : X) (found : Option Key) (same : Bool) → index < length rows → key_in word (map row (drop index rows)) ≡ found → Decides same (word ≡ (row (get_or rows index d)).0) → same ≡ true → Some (row (get_or rows index d)).1 ≡ found
named_here row word rows index d found same inside h decides is =
    let equal : bytes_eq word (row (get_or rows index d)).0 ≡ true = sym (same_bytes word (row (get_or rows index d)).0 same decides) ∙ is in
    rw equal at (rw (rows_from rows index d inside) at h)
