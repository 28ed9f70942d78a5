-- Inner: how those in the queue of a name are told.
use Rattle.std.specs.Prelude.{◌≡◌, ◌⊎◌, ℕ, List, [], ◌∷◌, map, Result, Ok, Err}
use Rattle.signature.specs.Name.{bus_name}
use Rattle.unique_name.specs.UniqueNames.{unique_name}
use Rattle.router.specs.State.{State}
use Rattle.peers.specs.Asked.{IsAsked, queue_in}
use Rattle.peers.specs.Queries.{CannotList}
use Rattle.peers.specs.declared.owner.AskedName.{AskedName}
use Rattle.peers.specs.declared.queries.Queue.{Queue}
use Rattle.peers.specs.declared.queries.Queue.TheVariants as queues
use Rattle.peers.specs.declared.refused.Refused.{Refused}
use Rattle.peers.specs.declared.refused.Refused.TheVariants.{Ended}

-- the names of those in a queue
abbrev pub texts_in : Queue → List (List ℕ)
texts_in queues.Bus = bus_name ∷ []
texts_in (queues.Connections unique) = map unique_name unique.items

module _ {M : Type 0} where
  -- the queue of the name that a text is
  abbrev pub IsQueueOf : State M → List ℕ → Result Queue Refused → Type 0
  IsQueueOf s text (Ok queue) = (name : AskedName) × IsAsked text (Ok name) × (texts_in queue ≡ queue_in s name)
  IsQueueOf s text (Err why) = ((name : AskedName) × IsAsked text (Ok name) × CannotList why) ⊎ ((why ≡ Ended) ⊎ IsAsked text (Err why))
