-- The bytes of the next message among those that are there.
use Rattle.std.proofs.Common.{◌≡◌, ℕ, List, ◌++◌, drop, Option, Some, None, Bor, Result, Ok, Err, inr, sym, ap, subst, ◌∙◌}
use Rattle.std.specs.Prelude.{IfOk, IfSome, IfNone}
use Rattle.std.proofs.lemmas.List.{take-append-drop}
use Rattle.message_value.specs.declared.error.MsgError.{MsgError}
use Rattle.message_view.specs.Reading.{message_at}
use Rattle.frames.specs.Stream.{IsFrame, IsUnfinished, IsFault}

-- what is said of a frame, of the bytes that are the stream's
pub frame_is : (unread bytes : List ℕ) (fault : Option MsgError) (front : Result (Option (Bor (List ℕ))) MsgError) → bytes ≡ unread → fault ≡ None
    → IfOk front (λ o. IfSome o (λ frame. IsFrame bytes frame.now)) → IfOk front (λ o. IfSome o (λ frame. (fault ≡ None) × IsFrame unread frame.now))
frame_is unread bytes fault (Err e) is none found = tt
frame_is unread bytes fault (Ok None) is none found = tt
frame_is unread bytes fault (Ok (Some frame)) is none found = (none, subst (λ (x : List ℕ). IsFrame x frame.now) is found)

pub frame_first : (unread bytes : List ℕ) (front : Result (Option (Bor (List ℕ))) MsgError) → bytes ≡ unread
    → IfOk front (λ o. IfSome o (λ frame. IsFrame bytes frame.now)) → IfOk front (λ o. IfSome o (λ frame. (rest : List ℕ) × (unread ≡ frame.now ++ rest)))
frame_first unread bytes (Err e) is found = tt
frame_first unread bytes (Ok None) is found = tt
frame_first unread bytes (Ok (Some frame)) is (len, said, le, cut) = (drop len bytes, sym is ∙ sym (take-append-drop len bytes) ∙ ap (λ (x : List ℕ). x ++ drop len bytes) (sym cut))

pub fault_inside : (unread bytes : List ℕ) (front : Result (Option (Bor (List ℕ))) MsgError) → bytes ≡ unread
    → IfOk front (λ o. IfSome o (λ frame. IsFrame bytes frame.now)) → IfOk front (λ o. IfSome o (λ frame. (fault : MsgError) → message_at frame.now ≡ Err fault → IsFault unread fault))
fault_inside unread bytes (Err e) is found = tt
fault_inside unread bytes (Ok None) is found = tt
fault_inside unread bytes (Ok (Some frame)) is (len, said, le, cut) = λ fault bad. subst (λ (x : List ℕ). IsFault x fault) is (inr (len, said, le, sym (ap message_at cut) ∙ bad))

pub frame_unfinished : (unread bytes : List ℕ) (fault : Option MsgError) (front : Result (Option (Bor (List ℕ))) MsgError) → bytes ≡ unread → fault ≡ None → IfOk front (λ o. IfNone o (IsUnfinished bytes)) → IfOk front (λ o. IfNone o ((fault ≡ None) × IsUnfinished unread))
frame_unfinished unread bytes fault (Err e) is none found = tt
frame_unfinished unread bytes fault (Ok None) is none found = (none, subst IsUnfinished is found)
frame_unfinished unread bytes fault (Ok (Some frame)) is none found = tt
