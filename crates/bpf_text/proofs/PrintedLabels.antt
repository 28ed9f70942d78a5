-- The labels of a printed text: each target's stands once, at its place.
use Rattle.std.proofs.Common.{◌≡◌, ℕ, ◌+◌, ◌<◌, ◌≤◌, ◌^◌, Bool, true, false, List, [], ◌∷◌, ◌++◌, length, map, Some, refl, ap, ◌∙◌, subst, arith, decimal, bytes_eq, ◌⊎◌, inl, inr, eq-or-lt_of_le}
use Rattle.std.proofs.lemmas.Fmt.{decimal_injective}
use Rattle.std.proofs.lemmas.Slice.Eq.{bytes_eq-Decides}
use Rattle.bpf_code.specs.declared.instruction.Ins.{Ins}
use Rattle.bpf_text.specs.Printing.{is_target}
use Rattle.bpf_text.specs.Source.{Line, Label, count_of, labels_at, labels_from, has_name, repeats, defined}
use Rattle.bpf_text.specs.Sketches.{Noted, noted_from}
use Rattle.std.proofs.lemmas.Bool.{false_from_ne_true}
use Rattle.bpf_text.proofs.PrintedTokens.{label_name, one_more}
use Rattle.bpf_text.proofs.PrintedLines.{labels_for}
use Rattle.bpf_text.proofs.PrintedTexts.{printed_lines}

-- ---- names

same_decimal : (a b : ℕ) → label_name a ≡ label_name b → decimal a ≡ decimal b
same_decimal a b h = cc

pub name_same : (place : ℕ) → bytes_eq (label_name place) (label_name place) ≡ true
name_same place = (bytes_eq-Decides (label_name place) (label_name place)).1 refl

pub names_apart : (a b : ℕ) → a < 2 ^ 64 → b < 2 ^ 64 → (a ≡ b → ⊥) → bytes_eq (label_name a) (label_name b) ≡ false
names_apart a b low high apart =
    false_from_ne_true (bytes_eq (label_name a) (label_name b)) (λ e. apart (decimal_injective a b low high (same_decimal a b ((bytes_eq-Decides (label_name a) (label_name b)).0 e))))

-- ---- none is defined twice

-- labels of places below one
abbrev pub AreBelow : ℕ → List Label → Type 0
AreBelow place [] = Unit {0}
AreBelow place (label ∷ labels) = (label.place < place) × (label.name ≡ label_name label.place) × AreBelow place labels

below_next : (place : ℕ) (labels : List Label) → AreBelow place labels → AreBelow (place + 1) labels
below_next place [] below = tt
below_next place (label ∷ labels) (low, name, below) = (omega arith, name, below_next place labels below)

below_here : (place : ℕ) (labels more : List Label) → AreBelow place labels → AreBelow place more → AreBelow place (labels ++ more)
below_here place [] more below later = later
below_here place (label ∷ labels) more (low, name, below) later = (low, name, below_here place labels more below later)

one_below : (place : ℕ) (target : Bool) → AreBelow (place + 1) (labels_at place (labels_for place target))
one_below place false = tt
one_below place true = (omega arith, refl, tt)

below_more : (place : ℕ) (labels : List Label) (target : Bool) → AreBelow place labels → AreBelow (place + 1) (labels ++ labels_at place (labels_for place target))
below_more place labels target below = below_here (place + 1) labels (labels_at place (labels_for place target)) (below_next place labels below) (one_below place target)

not_named : (place : ℕ) (labels : List Label) → place < 2 ^ 64 → AreBelow place labels → has_name labels (label_name place) ≡ false
not_named place [] high below = refl
not_named place (label ∷ labels) high (low, name, below) =
    let here : bytes_eq label.name (label_name place) ≡ false = rw name (names_apart label.place place (omega arith) high (λ e. omega arith)) in
    rw (here, not_named place labels high below)

repeats_none : (place : ℕ) (earlier : List Label) (target : Bool) → place < 2 ^ 64 → AreBelow place earlier → repeats earlier place (labels_for place target) ≡ false
repeats_none place earlier false high below = refl
repeats_none place earlier true high below = rw (not_named place earlier high below)

abbrev pub quiet : Line → Noted
quiet line = record { again = false; row = line.row }

pub noted_printed : (program : List Ins) (earlier : List Label) (place : ℕ) (rest : List Ins) → AreBelow place earlier → place + length rest < 2 ^ 64 → noted_from earlier place (printed_lines program place rest) ≡ map quiet (printed_lines program place rest)
noted_printed program earlier place [] below high = refl
noted_printed program earlier place (ins ∷ rest) below high =
    let target : Bool = is_target place 0 program in
    let here : repeats earlier place (labels_for place target) ≡ false = repeats_none place earlier target (omega arith) below in
    let next : (place + 1) + length rest < 2 ^ 64 = omega arith in
    let later : noted_from (earlier ++ labels_at place (labels_for place target)) (place + 1) (printed_lines program (place + 1) rest) ≡ map quiet (printed_lines program (place + 1) rest) =
    noted_printed program (earlier ++ labels_at place (labels_for place target)) (place + 1) rest (below_more place earlier target below) next in
    rw (here, later)

-- ---- each target's is defined

first_found : (place : ℕ) (labels : List Label) → defined (labels_at place (labels_for place true) ++ labels) (label_name place) ≡ Some place
unfolding defined
first_found place labels = rw (name_same place)

later_found : (place to : ℕ) (target : Bool) (labels : List Label) → place < to → to < 2 ^ 64 → defined labels (label_name to) ≡ Some to → defined (labels_at place (labels_for place target) ++ labels) (label_name to) ≡ Some to
unfolding defined
later_found place to false labels low high found = found
later_found place to true labels low high found =
    let apart : bytes_eq (label_name place) (label_name to) ≡ false = names_apart place to (omega arith) high (λ e. omega arith) in
    rw apart found

here_or_later : (program : List Ins) (place to : ℕ) (labels : List Label) → to < 2 ^ 64 → is_target to 0 program ≡ true → (place < to → defined labels (label_name to) ≡ Some to) → (place ≡ to) ⊎ (place < to) → defined (labels_at place (labels_for place (is_target place 0 program)) ++ labels) (label_name to) ≡ Some to
here_or_later program place to labels high target later (inl same) =
    let here : is_target place 0 program ≡ true = ap (λ (p : ℕ). is_target p 0 program) same ∙ target in
    let P : ℕ → Type 0 = λ p. defined (labels_at place (labels_for place true) ++ labels) (label_name p) ≡ Some p in
    let found : P to = subst P same (first_found place labels) in
    rw here found
here_or_later program place to labels high target later (inr below) = later_found place to (is_target place 0 program) labels below high (later below)

pub target_defined : (program : List Ins) (place : ℕ) (rest : List Ins) (to : ℕ) → place + length rest < 2 ^ 64 → place ≤ to → to < place + length rest → is_target to 0 program ≡ true → defined (labels_from place (printed_lines program place rest)) (label_name to) ≡ Some to
target_defined program place [] to high low inside target = absurd (omega arith)
target_defined program place (ins ∷ rest) to high low inside target =
    here_or_later program place to (labels_from (place + 1) (printed_lines program (place + 1) rest)) (omega arith) target
    (λ below. target_defined program (place + 1) rest to (omega arith) (omega arith) (omega arith) target) (eq-or-lt_of_le low)

-- ---- the number of instructions

pub count_printed : (program : List Ins) (place : ℕ) (rest : List Ins) → count_of (printed_lines program place rest) ≡ length rest
count_printed program place [] = refl
count_printed program place (ins ∷ rest) = rw (count_printed program (place + 1) rest) (one_more (length rest))
