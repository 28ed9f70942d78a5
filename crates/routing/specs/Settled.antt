-- Inner: between two calls of a sender no put of a message is left, and nothing is held but what it was told to hold.
use Rattle.std.specs.Prelude.{ℕ, ◌≡◌, ◌≤◌, Bool, true, false, cond, Option, Some, None, IfSome, IsSomeAnd, List, [], ◌∷◌}
use Rattle.outbox.specs.Items.{Hold, Item}
use Rattle.outbox.specs.Released.{Events, hold_of, next_event}
use Rattle.routing.specs.SenderView.{RecipientSeatView}
use Rattle.routing.specs.RecipientSeats.{seat_at}

abbrev pub IsSettled : Bool → Option Events → Type 0
IsSettled is_holding None = Unit {0}
IsSettled is_holding (Some e) = (e.is_putting ≡ false) × (is_holding ≡ false → e.is_open ≡ false)

-- puts are left of a message that is held until this
abbrev pub IsPutting : Option Hold → Option Events → Type 0
IsPutting hold releases = IsSomeAnd releases (λ e. (e.is_putting ≡ true) × (hold ≡ hold_of e))

-- how many events are released once all that was put is
abbrev pub last_event : Events → ℕ
last_event e = cond e.is_open (next_event e.released) e.released

-- what is held so is held until one of these events, which is released, or is that of what is held now
abbrev pub IsOwn : Option Events → Option Hold → Type 0
IsOwn events None = Unit {0}
IsOwn None (Some h) = ⊥
IsOwn (Some e) (Some h) = (h.word ≡ e.word) × (h.event ≤ last_event e)

-- these are all held so
abbrev pub AreOwn : Option Events → List Item → Type 0
AreOwn events [] = Unit {0}
AreOwn events (x ∷ xs) = IsOwn events x.hold × AreOwn events xs

-- all that the seats have put is
abbrev pub AllOwn : Option Events → List RecipientSeatView → Type 0
AllOwn events recipient_seats = (n : ℕ) → IfSome (seat_at n recipient_seats) (λ s. AreOwn events s.seat.view.put)

-- nothing is held but by the sender's own events, unless it has withdrawn some
abbrev pub HoldsOwn : Bool → Option Events → List RecipientSeatView → Type 0
HoldsOwn has_withdrawn events recipient_seats = has_withdrawn ≡ false → AllOwn events recipient_seats

-- what was held by the old events is held by the new ones
abbrev pub GoesOn : Option Events → Option Events → Type 0
GoesOn None new = Unit {0}
GoesOn (Some e) None = ⊥
GoesOn (Some e) (Some f) = (f.word ≡ e.word) × (last_event e ≤ last_event f)
