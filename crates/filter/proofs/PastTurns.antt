-- A turn of the reader takes off what it reads.
use Rattle.std.proofs.Common.{◌≡◌, ℕ, zero, suc, ◌+◌, ◌-◌, ◌<◌, ◌≤◌, Bool, true, false, cond, List, [], ◌∷◌, length, drop, get_or, refl, ap, ◌∙◌, arith, add-one, length-drop}
use Rattle.std.specs.Prelude.{Result, Ok, Err}
use Rattle.std.proofs.Math.Seq.{drop-cons}
use Rattle.std.proofs.lemmas.List.{drop-drop}
use Rattle.filter.specs.declared.error.FaultAt.{FaultAt}
use Rattle.filter.specs.Lexis.{is_blank}
use Rattle.filter.specs.Tokens.{Lexeme, item_then, token_at, items_from}
use Rattle.filter.specs.FilterTree.{FilterTree}
use Rattle.filter.specs.Steps.{State, step}
use Rattle.filter.specs.Reading.{reads, at_place, then_read}
use Rattle.filter.specs.Turns.{over, turn}

-- bytes of the token in front are skipped
pub skips : (more place : ℕ) (bytes : List ℕ) → more ≤ length bytes → items_from more place bytes ≡ items_from 0 (place + more) (drop more bytes)
skips zero place bytes h = let n : place + 0 ≡ place = omega arith in rw n refl
skips (suc more) place [] h = absurd (omega arith)
skips (suc more) place (b ∷ bs) h = let n : place + suc more ≡ place + 1 + more = omega arith in rw n (skips more (place + 1) bs (omega arith))

module _ (end place : ℕ) (rest : List ℕ) where
  -- what reading gives after a turn
  after : State × ℕ → Result FilterTree FaultAt
  after x = reads x.0 end (items_from (x.1 - (place + 1)) (place + 1) rest)

  over_token : (r : Result State FaultAt) (more : ℕ) → then_read r (λ t. reads t end (items_from more (place + 1) rest)) ≡ then_read (then_read r (λ t. Ok (t, place + 1 + more))) after
  unfolding after
  over_token (Err fault) more = refl
  over_token (Ok t) more = let n : place + 1 + more - (place + 1) ≡ more = omega arith in rw n refl

  by_cases : (s : State) (blank : Bool) (found : Result (Lexeme × ℕ) FaultAt) → reads s end (cond blank (items_from 0 (place + 1) rest) (item_then place found (λ more. items_from more (place + 1) rest))) ≡ then_read (cond blank (Ok (s, place + 1)) (then_read found (over s place))) after
  unfolding after
  by_cases s true found = let n : place + 1 - (place + 1) ≡ 0 = omega arith in rw n refl
  by_cases s false (Err fault) = refl
  by_cases s false (Ok found) = over_token (at_place place (step s found.0)) found.1

  turned : (s : State) (b : ℕ) → reads s end (items_from 0 place (b ∷ rest)) ≡ then_read (turn s place b rest) after
  turned s b = by_cases s (is_blank b) (token_at place b rest)

-- reading goes on after a turn
pub past_turn : (s t : State) (end place next : ℕ) (text : List ℕ) → place < length text → place < next → next ≤ length text → turn s place (get_or text place 0) (drop (place + 1) text) ≡ Ok (t, next) → reads s end (items_from 0 place (drop place text)) ≡ reads t end (items_from 0 next (drop next text))
unfolding after
past_turn s t end place next text inside farther within e =
    let rest : List ℕ = drop (place + 1) text in
    let front : drop place text ≡ get_or text place 0 ∷ rest = rw (add-one place) (drop-cons text place 0 inside) in
    let more : ℕ = next - (place + 1) in
    let to : place + 1 + more ≡ next = omega arith in
    let skipped : items_from more (place + 1) rest ≡ items_from 0 (place + 1 + more) (drop more rest) = skips more (place + 1) rest (omega (arith, length-drop (place + 1) text)) in
    let dropped : drop more rest ≡ drop (place + 1 + more) text = drop-drop more (place + 1) text in
    ap (λ bytes. reads s end (items_from 0 place bytes)) front
    ∙ turned end place rest s (get_or text place 0)
    ∙ ap (λ r. then_read r (after end place rest)) e
    ∙ ap (reads t end) (skipped ∙ ap (items_from 0 (place + 1 + more)) dropped ∙ ap (λ n. items_from 0 n (drop n text)) to)

-- or it ends with the fault of a turn
pub bad_turn : (s : State) (end place : ℕ) (fault : FaultAt) (text : List ℕ) → place < length text → turn s place (get_or text place 0) (drop (place + 1) text) ≡ Err fault → reads s end (items_from 0 place (drop place text)) ≡ Err fault
bad_turn s end place fault text inside e =
    let rest : List ℕ = drop (place + 1) text in
    let front : drop place text ≡ get_or text place 0 ∷ rest = rw (add-one place) (drop-cons text place 0 inside) in
    ap (λ bytes. reads s end (items_from 0 place bytes)) front
    ∙ turned end place rest s (get_or text place 0)
    ∙ ap (λ r. then_read r (after end place rest)) e
