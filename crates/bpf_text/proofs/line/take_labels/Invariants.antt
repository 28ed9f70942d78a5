use Rattle.std.proofs.Common.{◌≡◌, ◌++◌, List, ℕ, Bool, length}
use Rattle.bpf_text.specs.Source.{Label, labels_at, repeats}
use Rattle.bpf_text.specs.LineReading.{Begins}
use Rattle.bpf_text.proofs.line.take_labels.Given as goal

-- the labels so far
pub record Taken (bytes rest : List ℕ) (place : ℕ) (old new : List Label) (again : Bool) : Type 0 where
  pub names : List (List ℕ)
  pub begins : Begins bytes names rest
  pub labels : new ≡ old ++ labels_at place names
  pub repeated : again ≡ repeats old place names

abbrev pub invariant-loop-name : goal.invariant-loop-name
invariant-loop-name l = Taken l.fn.bytes l.rest l.place l.fn.labels l.labels l.again

abbrev pub decreases-loop-name : goal.decreases-loop-name
decreases-loop-name l = length l.rest
