-- The lines of a text, read one after another.
use Rattle.std.proofs.Common.{◌≡◌, ℕ, ◌+◌, ◌<◌, ◌≤◌, List, [], ◌∷◌, ◌++◌, length, take, drop, refl, sym, ap, ◌∙◌, arith, append_assoc, length-append}
use Rattle.std.specs.Prelude.{◌==◌}
use Rattle.std.specs.List.{position_or_len}
use Rattle.std.proofs.lemmas.List.{append-nil, get_or_default}
use Rattle.std.proofs.lemmas.List.Splits.{slice_split_none, slice_split_first}
use Rattle.std.proofs.lemmas.List.Sums.{position_or_len_is}
use Rattle.std.proofs.lemmas.Bool.{false_from_ne_true}
use Rattle.memchr.specs.Find.{is_byte, Nowhere, NoneBefore, Passes}
use Rattle.bpf_text.specs.Source.{IsLine, Line, AreLines, lines_of, Label, labels_at, labels_from, count_row, count_of, repeats}
use Rattle.bpf_text.specs.Sketches.{Noted, noted_from, Sketch, sketch_of}
use Rattle.bpf_text.specs.LineReading.{with_line}

-- ---- one line

pub line_ends : (bytes : List ℕ) (end_ : ℕ) → NoneBefore (Passes (is_byte 10) bytes) 0 (length bytes) end_ × Passes (is_byte 10) bytes end_ → lines_of bytes ≡ take end_ bytes ∷ lines_of (drop (end_ + 1) bytes)
line_ends bytes end_ (found, here) =
    let inside : end_ < length bytes = found.high in
    let same : position_or_len (λ b. b == 10) bytes ≡ end_ = position_or_len_is (λ b. b == 10) bytes end_ 0 (omega arith) (λ k low. false_from_ne_true _ (found.before k (omega arith) low)) (λ _. here) in
    let below : position_or_len (λ b. b == 10) bytes < length bytes = rw same inside in
    slice_split_first (λ b. b == 10) bytes 0 below ∙ rw same

pub line_last : (bytes : List ℕ) → Nowhere (Passes (is_byte 10) bytes) 0 (length bytes) → lines_of bytes ≡ bytes ∷ []
line_last bytes none = slice_split_none (λ b. b == 10) bytes (λ k d inside. false_from_ne_true _ (λ here. none k (omega arith) inside (rw (get_or_default bytes k d 0 inside) at here)))

-- ---- what lines come to

labels_more : (place : ℕ) (good : List Line) (line : Line) → labels_from place (good ++ line ∷ []) ≡ labels_from place good ++ labels_at (place + count_of good) line.labels
labels_more place [] line = append-nil (labels_at place line.labels) ∙ ap (λ (p : ℕ). labels_at p line.labels) (let e : place ≡ place + 0 = omega arith in e)
labels_more place (x ∷ good) line =
    let e : (place + count_row x.row) + count_of good ≡ place + (count_row x.row + count_of good) = omega arith in
    ap (λ (labels : List Label). labels_at place x.labels ++ labels) (labels_more (place + count_row x.row) good line)
    ∙ sym (append_assoc (labels_at place x.labels) (labels_from (place + count_row x.row) good) (labels_at ((place + count_row x.row) + count_of good) line.labels))
    ∙ ap (λ (p : ℕ). (labels_at place x.labels ++ labels_from (place + count_row x.row) good) ++ labels_at p line.labels) e

count_more : (good : List Line) (line : Line) → count_of (good ++ line ∷ []) ≡ count_of good + count_row line.row
count_more [] line = omega arith
count_more (x ∷ good) line = let e = count_more good line in omega (arith, e)

noted_more : (earlier : List Label) (place : ℕ) (good : List Line) (line : Line) → noted_from earlier place (good ++ line ∷ []) ≡ noted_from earlier place good ++ record { again = repeats (earlier ++ labels_from place good) (place + count_of good) line.labels; row = line.row } ∷ []
noted_more earlier place [] line =
    let e : place ≡ place + 0 = omega arith in
    ap (λ (labels : List Label). record { again = repeats labels place line.labels; row = line.row } ∷ []) (sym (append-nil earlier))
    ∙ ap (λ (p : ℕ). record { again = repeats (earlier ++ []) p line.labels; row = line.row } ∷ []) e
noted_more earlier place (x ∷ good) line =
    let first : Noted = record { again = repeats earlier place x.labels; row = x.row } in
    let here : List Label = labels_at place x.labels in
    let next : ℕ = place + count_row x.row in
    let e : next + count_of good ≡ place + (count_row x.row + count_of good) = omega arith in
    ap (λ (rest : List Noted). first ∷ rest) (noted_more (earlier ++ here) next good line)
    ∙ ap (λ (labels : List Label). first ∷ (noted_from (earlier ++ here) next good ++ record { again = repeats labels (next + count_of good) line.labels; row = line.row } ∷ [])) (append_assoc earlier here (labels_from next good))
    ∙ ap (λ (p : ℕ). first ∷ (noted_from (earlier ++ here) next good ++ record { again = repeats (earlier ++ (here ++ labels_from next good)) p line.labels; row = line.row } ∷ [])) e

same_sketch : (a b : List Label) (x y : List Noted) (m n : ℕ) → a ≡ b → x ≡ y → m ≡ n → ◌≡◌ {A = Sketch} (record { labels = a; lines = x; count = m }) (record { labels = b; lines = y; count = n })
same_sketch a b x y m n p q r = rw (p, q, r)

zero_plus : (n : ℕ) → 0 + n ≡ n
zero_plus n = omega arith

sketch_more : (good : List Line) (line : Line) → sketch_of (good ++ line ∷ []) ≡ with_line (sketch_of good) line
sketch_more good line =
    same_sketch _ _ _ _ _ _
    (labels_more 0 good line ∙ ap (λ (p : ℕ). labels_from 0 good ++ labels_at p line.labels) (zero_plus (count_of good)))
    (noted_more [] 0 good line ∙ ap (λ (p : ℕ). noted_from [] 0 good ++ record { again = repeats (labels_from 0 good) p line.labels; row = line.row } ∷ []) (zero_plus (count_of good)))
    (count_more good line)

are_more : (front : List (List ℕ)) (good : List Line) (bytes : List ℕ) (line : Line) → AreLines front good → IsLine bytes line → AreLines (front ++ bytes ∷ []) (good ++ line ∷ [])
are_more [] [] bytes line h is = (is, tt)
are_more [] (x ∷ good) bytes line h is = absurd h
are_more (b ∷ front) [] bytes line h is = absurd h
are_more (b ∷ front) (x ∷ good) bytes line h is = (h.0, are_more front good bytes line h.1 is)

-- ---- lines so far

pub record ReadSoFar (text rest : List ℕ) (number : ℕ) (sketch : Sketch) : Type 0 where
  pub front : List (List ℕ)
  pub good : List Line
  pub all : lines_of text ≡ front ++ lines_of rest
  pub are : AreLines front good
  pub number_is : number ≡ length front + 1
  pub sketch_is : sketch ≡ sketch_of good
  pub room : number + length rest ≤ length text + 1

pub read_none : (text : List ℕ) → ReadSoFar text text 1 (record { labels = []; lines = []; count = 0 })
read_none text = record { front = []; good = []; all = refl; are = tt; number_is = refl; sketch_is = refl; room = omega arith }

added : (good : List Line) (line : Line) (old new : Sketch) → old ≡ sketch_of good → new ≡ with_line old line → new ≡ sketch_of (good ++ line ∷ [])
added good line old new is more = more ∙ ap (λ (s : Sketch). with_line s line) is ∙ sym (sketch_more good line)

pub read_more : (text rest next bytes : List ℕ) (number : ℕ) (old new : Sketch) (line : Line) → ReadSoFar text rest number old → lines_of rest ≡ bytes ∷ lines_of next → length next < length rest → IsLine bytes line → new ≡ with_line old line → ReadSoFar text next (number + 1) new
read_more text rest next bytes number old new line so split shorter is more =
    let numbered : number ≡ length so.front + 1 = so.number_is in
    let room : number + length rest ≤ length text + 1 = so.room in
    record {
      front = so.front ++ bytes ∷ [];
      good = so.good ++ line ∷ [];
      all = so.all ∙ ap (λ (ls : List (List ℕ)). so.front ++ ls) split ∙ sym (append_assoc so.front (bytes ∷ []) (lines_of next));
      are = are_more so.front so.good bytes line so.are is;
      number_is = omega (arith, length-append so.front (bytes ∷ []));
      sketch_is = added so.good line old new so.sketch_is more;
      room = omega arith;
    }

pub read_all : (text rest bytes : List ℕ) (number : ℕ) (old new : Sketch) (line : Line) → ReadSoFar text rest number old → lines_of rest ≡ bytes ∷ [] → IsLine bytes line → new ≡ with_line old line → (lines : List Line) × AreLines (lines_of text) lines × (new ≡ sketch_of lines)
read_all text rest bytes number old new line so split is more =
    let all : lines_of text ≡ so.front ++ bytes ∷ [] = so.all ∙ ap (λ (ls : List (List ℕ)). so.front ++ ls) split in
    (so.good ++ line ∷ [], rw all (are_more so.front so.good bytes line so.are is), added so.good line old new so.sketch_is more)
