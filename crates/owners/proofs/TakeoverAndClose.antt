-- The example takeover_and_close: the old owner takes the second place, and is owner again when the new one is gone.
use Rattle.std.specs.Prelude.{◌≡◌, ℕ, List, [], ◌∷◌, Some, None, Ok, codes}
use Rattle.std.proofs.Common.{refl}
use Rattle.owners.specs.declared.answer.NameReply.TheVariants.{PrimaryOwner}
use Rattle.owners.specs.declared.answer.Dropped.TheVariants.{Changed}
use Rattle.owners.specs.Queues.{queue_of}
use Rattle.owners.specs.Registry.{Registry, opening, request_answer, after_request, drop_one_answer, after_drop_one}

abbrev name : List ℕ
name = codes "com.example.A"

abbrev state1 : Registry
state1 = after_request name 1 1 opening

abbrev state2 : Registry
state2 = after_request name 2 2 state1

first : request_answer name 1 1 opening ≡ Ok (record { answer = PrimaryOwner; change = Some (record { name = name; old = None; new = Some 1 }) })
first = refl

replaces : request_answer name 2 2 state1 ≡ Ok (record { answer = PrimaryOwner; change = Some (record { name = name; old = Some 1; new = Some 2 }) })
replaces = refl

both : queue_of name state2.claims ≡ 2 ∷ 1 ∷ []
both = refl

gives_up : drop_one_answer 2 state2 ≡ Changed (record { name = name; old = Some 2; new = Some 1 })
gives_up = refl

owner_again : queue_of name (after_drop_one 2 state2).claims ≡ 1 ∷ []
owner_again = refl
