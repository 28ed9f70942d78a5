-- The reading of a text that the grammar spells.
use Rattle.std.proofs.Common.{◌≡◌, ℕ, ◌≤◌, Bool, true, false, cond, List, [], ◌∷◌, length, refl, sym, ap, ◌∙◌, subst, arith}
use Rattle.std.specs.Prelude.{Result, Ok, Err, IfOk, nat_lt}
use Rattle.std.proofs.lemmas.Bool.{le-ltb}
use Rattle.std.proofs.lemmas.Bool.Decides.{nat_tests}
use Rattle.filter.specs.declared.error.Fault.{Fault}
use Rattle.filter.specs.declared.error.Fault.TheVariants.{TooLong}
use Rattle.filter.specs.declared.error.FaultAt.{FaultAt}
use Rattle.filter.specs.declared.error.FilterError.{FilterError}
use Rattle.filter.specs.declared.filter.Filter.{Filter}
use Rattle.filter.specs.Tokens.{Lexeme, Item, token, bad, fault_at}
use Rattle.filter.specs.FilterTree.{FilterTree}
use Rattle.filter.specs.Filters.{tree_of}
use Rattle.filter.specs.Steps.{◌>>=◌, State, start, step, at_end}
use Rattle.filter.specs.Reading.{Finds, reads, at_place, then_read, filter_at, max_len, items_of}
use Rattle.filter.specs.Grammar.{AreTokens, ReadsAs}
use Rattle.filter.proofs.Derived.{run, filter_read}
use Rattle.filter.proofs.Sound.{read_filter}

-- a step that goes well goes well at any place
step_read : (r : Result State Fault) (end place : ℕ) (items : List Item) (ls : List Lexeme) (f : FilterTree) → ((t : State) → run t ls ≡ Ok f → reads t end items ≡ Ok f) → (r >>= λ t. run t ls) ≡ Ok f → then_read (at_place place r) (λ t. reads t end items) ≡ Ok f
step_read (Ok t) end place items ls f on is = on t is
step_read (Err fault) end place items ls f on is = absurd (cc)

end_read : (r : Result FilterTree Fault) (end : ℕ) (f : FilterTree) → r ≡ Ok f → at_place end r ≡ Ok f
end_read r end f is = ap (at_place end) is

pub tokens_read : (s : State) (end : ℕ) (items : List Item) (ls : List Lexeme) (f : FilterTree) → AreTokens items ls → run s ls ≡ Ok f → reads s end items ≡ Ok f
tokens_read s end [] [] f are is = end_read (at_end s) end f is
tokens_read s end [] (l ∷ ls) f are is = absurd are
tokens_read s end (token place lexeme ∷ items) [] f are is = absurd are
tokens_read s end (bad fault ∷ items) [] f are is = absurd are
tokens_read s end (bad fault ∷ items) (l ∷ ls) f are is = absurd are
tokens_read s end (token place lexeme ∷ items) (l ∷ ls) f are is =
    step_read (step s lexeme) end place items ls f (λ t e. tokens_read t end items ls f are.1 e) (ap (λ x. step s x >>= λ t. run t ls) are.0 ∙ is)

-- a text that reads as a filter is read as it
pub spelled_read : (text : List ℕ) (f : FilterTree) → ReadsAs text f → filter_at text ≡ Ok f
spelled_read text f is = rw (le-ltb max_len (length text) is.short) (tokens_read start (length text) (items_of text) is.tokens f is.spelled (filter_read is.said))

pub ReadsAs-unique : (text : List ℕ) (f g : FilterTree) → ReadsAs text f → ReadsAs text g → f ≡ g
ReadsAs-unique text f g is it =
    let same : Ok f ≡ Ok g = sym (spelled_read text f is) ∙ spelled_read text g it in cc

-- ---- back: a text that is read reads as its filter

placed_ok : {A : Type 0} (r : Result A Fault) (place : ℕ) (x : A) → at_place place r ≡ Ok x → r ≡ Ok x
placed_ok (Ok y) place x is = let same : y ≡ x = cc in ap Ok same
placed_ok (Err fault) place x is = absurd (cc)

step_back : (r : Result State Fault) (place : ℕ) (on : State → Result FilterTree FaultAt) (f : FilterTree) → then_read (at_place place r) on ≡ Ok f → (t : State) × (r ≡ Ok t) × (on t ≡ Ok f)
step_back (Ok t) place on f is = (t, refl, is)
step_back (Err fault) place on f is = absurd (cc)

tokens_back : (s : State) (end : ℕ) (items : List Item) (f : FilterTree) → reads s end items ≡ Ok f → (ls : List Lexeme) × AreTokens items ls × (run s ls ≡ Ok f)
tokens_back s end [] f is = ([], tt, placed_ok (at_end s) end f is)
tokens_back s end (bad fault ∷ items) f is = absurd (cc)
tokens_back s end (token place lexeme ∷ items) f is =
    let b = step_back (step s lexeme) place (λ t. reads t end items) f is in
    let on = tokens_back b.0 end items f b.2 in
    (lexeme ∷ on.0, (refl, on.1), ap (λ r. r >>= λ t. run t on.0) b.1 ∙ on.2)

within_max : (b : Bool) (n : ℕ) (r : Result FilterTree FaultAt) (at : FaultAt) (f : FilterTree) → nat_lt max_len n ≡ b → cond b (Err at) r ≡ Ok f → (n ≤ max_len) × (r ≡ Ok f)
within_max true n r at f long is = absurd (cc)
within_max false n r at f long is = (grind (arith, nat_tests), is)

pub read_spelled : (text : List ℕ) (f : FilterTree) → filter_at text ≡ Ok f → ReadsAs text f
read_spelled text f is =
    let w = within_max (nat_lt max_len (length text)) (length text) (reads start (length text) (items_of text)) (fault_at TooLong max_len) f refl is in
    let b = tokens_back start (length text) (items_of text) f w.1 in
    record { short = w.0; tokens = b.0; spelled = b.1; said = read_filter b.0 f b.2 }

-- ---- what a reader answers

pub found_of : (text : List ℕ) (result : Result Filter FilterError) → Finds tree_of result (filter_at text) → IfOk result (λ f. ReadsAs text (tree_of f))
found_of text (Ok f) is = read_spelled text (tree_of f) is
found_of text (Err e) is = tt

pub only_of : (text : List ℕ) (result : Result Filter FilterError) (f : FilterTree) → Finds tree_of result (filter_at text) → ReadsAs text f → Finds tree_of result (Ok f)
only_of text result f is reads_as = subst (λ (r : Result FilterTree FaultAt). Finds tree_of result r) (spelled_read text f reads_as) is
