use Rattle.std.proofs.Common.{◌≡◌, ◌==◌, ◌&&◌, ◌++◌, [], ◌∷◌, ℕ, Bool, true, false, true≢false, not, cond, List, append-nil, eqb-true, refl, sym, ◌∙◌, subst}
use Rattle.outbox.specs.Items.{Item}
use Rattle.routing.specs.SenderView.{RecipientSeatView}
use Rattle.routing.specs.RecipientSeats.{is_in, is_put, puts_at, waits_at}
use Rattle.passes.specs.declared.unicasts.Sent.TheVariants.{Put, NoOwner, Full}
use Rattle.passes.proofs.laws.what_is_put_waits.Goals as goal

-- nothing is put at one for whom nothing waits
nothing : (its : Bool) (waits : Bool) (old new : List Item) (item : Item) → (its ≡ true → waits ≡ true) → waits ≡ false → new ≡ old ++ cond its (item ∷ []) [] → new ≡ old
nothing true waits old new item if_its none is = absurd (true≢false (sym (if_its refl) ∙ none))
nothing false waits old new item if_its none is = is ∙ append-nil old

-- who is listed and hasn't refused is listed
listed : (is refuses : Bool) → (is && not refuses) ≡ true → is ≡ true
listed true refuses put = refl
listed false refuses put = put

pub returns-clause-broadcast : goal.returns-clause-broadcast
returns-clause-broadcast g c v w standing source bytes recipients refused n routed there none =
    let waits = λ (put : is_put n recipients refused ≡ true). routed.waits n (listed (is_in n recipients) (is_in n refused) put) in
    nothing (is_put n recipients refused) (waits_at n w.recipient_seats) (puts_at n v.recipient_seats) (puts_at n w.recipient_seats) routed.put.item waits none (routed.put.puts n there)

-- the owner's outbox waits
its : (m n : ℕ) (recipient_seats : List RecipientSeatView) → waits_at m recipient_seats ≡ true → (m == n) ≡ true → waits_at n recipient_seats ≡ true
its m n recipient_seats waits is = let P : ℕ → Type 0 = λ x. waits_at x recipient_seats ≡ true in subst P (eqb-true m n is) waits

pub returns-clause-unicast : goal.returns-clause-unicast
returns-clause-unicast g c v w standing to bytes (Put m) n sent there none =
    let put = sent.3 in
    nothing (m == n) (waits_at n w.recipient_seats) (puts_at n v.recipient_seats) (puts_at n w.recipient_seats) put.item (its m n w.recipient_seats sent.4) none (put.puts n there)
returns-clause-unicast g c v w standing to bytes (Full m) n sent there none = sent.0.puts n there
returns-clause-unicast g c v w standing to bytes NoOwner n sent there none = sent.0.puts n there
