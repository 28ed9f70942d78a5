-- An option that has a word is said.
use Rattle.std.proofs.Common.{◌≡◌, ℕ, Bool, true, false, List, [], ◌∷◌, Option, Some, None, refl}
use Rattle.std.specs.Prelude.{◌||◌, if◌then◌else◌}
use Rattle.watch_command.specs.declared.words.Key.{Key}
use Rattle.watch_command.specs.Sayings.{Saying, flag, setting, name, key_eq}
use Rattle.watch_command.specs.Options.{has, word_of, first_some}

or_later : (a b : Bool) → b ≡ true → (a || b) ≡ true
or_later true b e = refl
or_later false b e = e

at_setting : (b rest : Bool) (later : Option (List ℕ)) (text t : List ℕ) → (later ≡ Some t → rest ≡ true) → first_some (if b then Some text else None) later ≡ Some t → (b || rest) ≡ true
at_setting true rest later text t more e = refl
at_setting false rest later text t more e = more e

pub word_said : (key : Key) (said : List Saying) (t : List ℕ) → word_of key said ≡ Some t → has key said ≡ true
word_said key [] t e = cc
word_said key (flag own ∷ later) t e = or_later (key_eq own key) (has key later) (word_said key later t e)
word_said key (setting own text ∷ later) t e = at_setting (key_eq own key) (has key later) (word_of key later) text t (λ h. word_said key later t h) e
word_said key (name text ∷ later) t e = word_said key later t e
