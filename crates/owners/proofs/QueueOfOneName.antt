-- The example queue_of_one_name: connections 1 and 2 ask for one name and let it go, step by step.
use Rattle.std.specs.Prelude.{◌≡◌, ℕ, List, [], ◌∷◌, Some, None, Ok, codes}
use Rattle.std.proofs.Common.{refl}
use Rattle.owners.specs.declared.answer.NameReply.TheVariants.{PrimaryOwner, InQueue, Exists, Released, NonExistent, NotOwner}
use Rattle.owners.specs.Queues.{queue_of}
use Rattle.owners.specs.Registry.{Registry, opening, request_answer, after_request, release_answer, after_release}

abbrev name : List ℕ
name = codes "com.example.A"

abbrev state0 : Registry
state0 = opening

abbrev state1 : Registry
state1 = after_request name 1 0 state0

abbrev state2 : Registry
state2 = after_request name 2 2 state1

abbrev state3 : Registry
state3 = after_request name 2 4 state2

abbrev state4 : Registry
state4 = after_request name 2 0 state3

abbrev state5 : Registry
state5 = after_release name 1 state4

abbrev state6 : Registry
state6 = after_release name 2 state5

first : request_answer name 1 0 state0 ≡ Ok (record { answer = PrimaryOwner; change = Some (record { name = name; old = None; new = Some 1 }) })
first = refl

waits : request_answer name 2 2 state1 ≡ Ok (record { answer = InQueue; change = None })
waits = refl

waits_no_longer : request_answer name 2 4 state2 ≡ Ok (record { answer = Exists; change = None })
waits_no_longer = refl

no_longer : queue_of name state3.claims ≡ 1 ∷ []
no_longer = refl

waits_again : request_answer name 2 0 state3 ≡ Ok (record { answer = InQueue; change = None })
waits_again = refl

lets_go : release_answer name 1 state4 ≡ record { answer = Released; change = Some (record { name = name; old = Some 1; new = Some 2 }) }
lets_go = refl

has_none : release_answer name 1 state5 ≡ record { answer = NotOwner; change = None }
has_none = refl

last : release_answer name 2 state5 ≡ record { answer = Released; change = Some (record { name = name; old = Some 2; new = None }) }
last = refl

nobody : release_answer name 2 state6 ≡ record { answer = NonExistent; change = None }
nobody = refl

as_before : state6 ≡ opening
as_before = refl
