-- A condition that is put in before others fixes what it fixes as the first.
use Rattle.std.proofs.Common.{◌≡◌, ℕ, Bool, true, false, ◌&&◌, List, ◌∷◌, eqb, refl, sym, subst}
use Rattle.std.specs.Prelude.{Some, None, if◌then◌else◌}
use Rattle.match_key.specs.declared.arg_number.ArgNumber.{ArgNumber}
use Rattle.match_key.specs.declared.source.Field.TheVariants.{Interface, Member, Path, Destination}
use Rattle.match_key.specs.declared.source.Source.TheVariants.{Header, Arg}
use Rattle.match_key.specs.declared.relation.Relation.TheVariants.{Equal}
use Rattle.match_key.specs.contracts.arg_number.ArgNumberPartialEq.TheImpl as numbers
use Rattle.match_key.specs.ArgNumber.{number_of_arg, first_arg}
use Rattle.match_key.proofs.ArgNumbers.{is_first}
use Rattle.match_rule.specs.declared.condition.Condition.{Condition}
use Rattle.match_rule.specs.declared.condition.Condition.TheVariants.{Kind, Sender, Compares}
use Rattle.match_rule.specs.RuleTree.{or_else}
use Rattle.match_rule.specs.FixedTexts.{FixedTexts, fixed_texts}
use Rattle.match_rule.specs.PutTexts.{with_text, with_fixed}

-- the texts, where argument 0 has to equal this one
abbrev with_arg0 : Bool → List ℕ → FixedTexts → FixedTexts
with_arg0 is_first value texts = record { member = texts.member; interface = texts.interface; path = texts.path; sender = texts.sender; arg0 = or_else (if is_first && true then Some value else None) texts.arg0 }

put_arg : (n : ArgNumber) (value : List ℕ) (texts : FixedTexts) (b : Bool) → eqb (number_of_arg n) 0 ≡ b → with_text (Arg n) value texts ≡ with_arg0 (eqb (number_of_arg n) 0) value texts
put_arg n value texts true is = rw is refl
put_arg n value texts false is = rw is refl

-- a condition of another relation fixes nothing, whichever argument it asks for
other : (is_first : Bool) (value : List ℕ) (texts : FixedTexts) → texts ≡ record { member = texts.member; interface = texts.interface; path = texts.path; sender = texts.sender; arg0 = or_else (if is_first && false then Some value else None) texts.arg0 }
other true value texts = refl
other false value texts = refl

pub put_first : (c : Condition) (cs : List Condition) (eavesdrops : Bool) → with_fixed c (fixed_texts (record { conditions = cs; eavesdrops = eavesdrops })) ≡ fixed_texts (record { conditions = c ∷ cs; eavesdrops = eavesdrops })
put_first (Kind kind) cs e = refl
put_first (Sender name) cs e = refl
put_first (Compares (Header Member) Equal value) cs e = refl
put_first (Compares (Header Interface) Equal value) cs e = refl
put_first (Compares (Header Path) Equal value) cs e = refl
put_first (Compares (Header Destination) Equal value) cs e = refl
put_first (Compares (Arg n) Equal value) cs e =
    let texts : FixedTexts = fixed_texts (record { conditions = cs; eavesdrops = e }) in
    subst (λ (b : Bool). with_text (Arg n) value texts ≡ with_arg0 b value texts) (sym (is_first n)) (put_arg n value texts (eqb (number_of_arg n) 0) refl)
put_first (Compares (Header _) _ value) cs e = refl
put_first (Compares (Arg n) _ value) cs e = other ((numbers.ghosts).eq n first_arg) value (fixed_texts (record { conditions = cs; eavesdrops = e }))
