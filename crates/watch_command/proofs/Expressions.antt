-- Filter expressions and their programs.
use Rattle.std.proofs.Common.{◌≡◌, ◌↔◌, ℕ, ◌<◌, ◌==◌, Bool, true, false, not, List, [], ◌∷◌, None, refl, sym, subst, ◌∙◌, arith}
use Rattle.std.proofs.lemmas.Bool.Decides.{nat_tests}
use Rattle.std.specs.Prelude.{IsTrue, slice_get}
use Rattle.bpf_code.specs.declared.instruction.Ins.{Ins}
use Rattle.bpf_code.specs.Steps.{Ends}
use Rattle.message_view.specs.Message.{Message, sender_of}
use Rattle.message_view.specs.Valid.{Valid}
use Rattle.filter.specs.FilterTree.{FilterTree}
use Rattle.filter.specs.Grammar.{ReadsAs}
use Rattle.filter_compile.specs.Compiled.{AgreeOn}
use Rattle.filter_compile.specs.Holds.{FilterHolds}
use Rattle.filter_compile.specs.Names.{names_of, has_name}
use Rattle.summary.specs.declared.edition.Edition.TheVariants.{Two}
use Rattle.summary.specs.ImageBytes.{image_bytes}
use Rattle.summary.specs.Sets.{IsSet}
use Rattle.watch_command.specs.Expressions.{IsExpression}
use Rattle.watch_command.specs.Owners.{Ownerships, owns}
use Rattle.watch_command.specs.Showing.{TakesExpression}

positive : (v : ℕ) → not (v == 0) ≡ true → 0 < v
positive v h = go (v == 0) refl h
  where
    go : (empty : Bool) → (v == 0) ≡ empty → not empty ≡ true → 0 < v
    go true e h = cc
    go false e h = grind (arith, nat_tests)

nonzero : (v : ℕ) → 0 < v → not (v == 0) ≡ true
nonzero v h = go (v == 0) refl
  where
    go : (empty : Bool) → (v == 0) ≡ empty → not empty ≡ true
    go true e = absurd (grind (arith, nat_tests))
    go false e = refl

-- a filter that asks for no names agrees with all slots
agrees : (f : FilterTree) (owned : List ℕ → Bool) (slots : List ℕ) → names_of f ≡ [] → AgreeOn f owned slots
agrees f owned slots none = λ name h. let e : has_name [] name ≡ true = subst (λ (names : List (List ℕ)). has_name names name ≡ true) none h in cc

-- the program of an expression accepts the messages of which the expression holds
pub accepted : (text : List ℕ) (f : FilterTree) (program : List Ins) (it : IsExpression text f program) (owners : Ownerships) (bytes : List ℕ) (m : Message) (slots : List ℕ) (v n : ℕ) (r : Bool) → Valid bytes m → IsSet slots → Ends program (image_bytes Two m slots) v n → r ≡ not (v == 0) → ((text : List ℕ) (filter other : FilterTree) → ReadsAs text filter → ReadsAs text other → filter ≡ other) → (IsTrue r ↔ TakesExpression owners m text)
accepted text f program it owners bytes m slots v n r valid set ends is one =
    let owned : List ℕ → Bool = λ name. owns owners (sender_of m) name in
    let decides = it.compiled bytes m slots owned v n valid set (agrees f owned slots it.nameless) ends in (
      λ e. (f, it.reads, decides.0 (positive v (sym is ∙ e))),
      λ (takes : TakesExpression owners m text). is ∙ nonzero v (decides.1 (subst (λ (g : FilterTree). FilterHolds g m owned) (one text takes.0 f takes.1 it.reads) takes.2)),
    )

-- where there is no first name, there is none
pub nameless : (names : List (List ℕ)) → slice_get names 0 ≡ None → names ≡ []
nameless [] e = refl
nameless (name ∷ names) e = cc
