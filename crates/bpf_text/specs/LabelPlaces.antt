-- Inner: the labels of a text, and the map beside them.
use Rattle.std.specs.Prelude.{◌≡◌, ℕ, List}
use Rattle.std.specs.Ordering.{nat_cmp}
use Rattle.std.specs.BTreeMap.{BTreeMap, get_by}
use Rattle.std.specs.Borrow.{Bor}
use Rattle.std.specs.Cmp.Lexicographic.{slice_cmp}
use Rattle.bpf_text.specs.declared.named_labels.Label.{Label as LentLabel}
use Rattle.bpf_text.specs.Source.{Label, defined}

-- a label without where its name lies in memory
abbrev pub label_view : LentLabel → Label
label_view label = record { name = label.name.now; place = label.place }

-- the map has for each name the place that the labels define
abbrev pub Finds : BTreeMap (Bor (List ℕ)) ℕ → List Label → Type 0
Finds places labels = (name : List ℕ) → get_by (λ key. slice_cmp nat_cmp name key.now) places ≡ defined labels name
