-- The example leaves_when_replaced: an owner that doesn't queue leaves when it is replaced.
use Rattle.std.specs.Prelude.{◌≡◌, ℕ, List, [], ◌∷◌, Some, None, Ok, codes}
use Rattle.std.proofs.Common.{refl}
use Rattle.owners.specs.declared.answer.NameReply.TheVariants.{PrimaryOwner, NotOwner}
use Rattle.owners.specs.Queues.{queue_of}
use Rattle.owners.specs.Registry.{Registry, opening, request_answer, after_request, release_answer}

abbrev name : List ℕ
name = codes "com.example.A"

abbrev state1 : Registry
state1 = after_request name 1 5 opening

abbrev state2 : Registry
state2 = after_request name 2 2 state1

first : request_answer name 1 5 opening ≡ Ok (record { answer = PrimaryOwner; change = Some (record { name = name; old = None; new = Some 1 }) })
first = refl

replaces : request_answer name 2 2 state1 ≡ Ok (record { answer = PrimaryOwner; change = Some (record { name = name; old = Some 1; new = Some 2 }) })
replaces = refl

alone : queue_of name state2.claims ≡ 2 ∷ []
alone = refl

has_none : release_answer name 1 state2 ≡ record { answer = NotOwner; change = None }
has_none = refl
