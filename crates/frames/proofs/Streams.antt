-- A stream has its messages in one way.
use Rattle.std.proofs.Common.{◌≡◌, ℕ, inl, inr, List, [], ◌∷◌, ◌++◌, take, drop, length, Option, Some, None, Ok, Err, refl, sym, ap, subst, ◌∙◌, arith, length-append}
use Rattle.std.proofs.lemmas.List.{append_assoc, append-nil}
use Rattle.std.proofs.Math.Seq.{take-append_seam, drop-append_seam}
use Rattle.message_value.specs.declared.error.MsgError.{MsgError}
use Rattle.message_view.specs.Fixed.{framing}
use Rattle.message_view.specs.Reading.{message_at}
use Rattle.message_view.proofs.FrontMessage.{valid_frames}
use Rattle.message_view.proofs.OneMessage.{fault_invalid}
use Rattle.frames.specs.Stream.{IsMessage, AreMessages, BeginsWithMessage, bytes_of, IsUnfinished, IsFault, EndsIn, IsCut, FramesOf}

-- ---- where a message begins nothing ends

some_len : (a b : ℕ) (said : Rattle.std.specs.Prelude.Result (Option ℕ) MsgError) → said ≡ Ok (Some a) → said ≡ Ok (Some b) → a ≡ b
some_len a b said p q = cc

not_unfinished : (message more : List ℕ) → IsMessage message → IsUnfinished (message ++ more) → ⊥
not_unfinished message more (m, valid) (inl none) =
    let says : framing (message ++ more) ≡ Ok (Some (length message)) = valid_frames message more m valid in
    cc
not_unfinished message more (m, valid) (inr (len, said, short)) =
    let same : length message ≡ len = some_len _ _ _ (valid_frames message more m valid) said in
    absurd (omega (arith, same, short, length-append message more))

not_fault : (message more : List ℕ) (fault : MsgError) → IsMessage message → IsFault (message ++ more) fault → ⊥
not_fault message more fault (m, valid) (inl bad) =
    let says : framing (message ++ more) ≡ Ok (Some (length message)) = valid_frames message more m valid in
    cc
not_fault message more fault (m, valid) (inr (len, said, there, bad)) =
    let same : length message ≡ len = some_len _ _ _ (valid_frames message more m valid) said in
    let front : take len (message ++ more) ≡ message = ap (λ (k : ℕ). take k (message ++ more)) (sym same) ∙ take-append_seam message more in
    fault_invalid message fault m (ap message_at (sym front) ∙ bad) valid

-- where more bytes are needed no whole message is there
pub unfinished_has_none : (rest : List ℕ) → IsUnfinished rest → BeginsWithMessage rest → ⊥
unfinished_has_none rest is (message, more, is_message, e) = not_unfinished message more is_message (subst IsUnfinished e is)

not_end : (message more : List ℕ) (fault : Option MsgError) → IsMessage message → EndsIn (message ++ more) fault → ⊥
not_end message more None is ends = not_unfinished message more is ends
not_end message more (Some fault) is ends = not_fault message more fault is ends

-- ---- two messages in one place are one

pub record SameFront (a b x y : List ℕ) : Type 0 where
  pub front : a ≡ b
  pub rest : x ≡ y

same_front : (a b x y : List ℕ) → IsMessage a → IsMessage b → a ++ x ≡ b ++ y → SameFront a b x y
same_front a b x y (m, valid) (n, other) e =
    let len : length a ≡ length b = some_len _ _ (framing (a ++ x)) (valid_frames a x m valid) (ap framing e ∙ valid_frames b y n other) in
    record {
      front = sym (take-append_seam a x) ∙ ap (take (length a)) e ∙ ap (λ (k : ℕ). take k (b ++ y)) len ∙ take-append_seam b y;
      rest = sym (drop-append_seam a x) ∙ ap (drop (length a)) e ∙ ap (λ (k : ℕ). drop k (b ++ y)) len ∙ drop-append_seam b y;
    }

-- ---- messages that were cut off are the first ones

pub record ComeFirst (first_messages messages : List (List ℕ)) (unread rest : List ℕ) : Type 0 where
  pub later : List (List ℕ)
  pub messages_are : messages ≡ first_messages ++ later
  pub unread_is : unread ≡ bytes_of later ++ rest

pub come_first : (first_messages messages : List (List ℕ)) (unread rest : List ℕ) (fault : Option MsgError) → AreMessages first_messages → AreMessages messages → EndsIn rest fault → bytes_of first_messages ++ unread ≡ bytes_of messages ++ rest → ComeFirst first_messages messages unread rest
come_first [] messages unread rest fault is are ends e = record { later = messages; messages_are = refl; unread_is = e }
come_first (g ∷ first_messages) [] unread rest fault is are ends e =
    absurd (not_end g (bytes_of first_messages ++ unread) fault is.0 (subst (λ (x : List ℕ). EndsIn x fault) (sym e ∙ append_assoc g (bytes_of first_messages) unread) ends))
come_first (g ∷ first_messages) (m ∷ messages) unread rest fault is are ends e =
    let same = same_front g m (bytes_of first_messages ++ unread) (bytes_of messages ++ rest) is.0 are.0 (sym (append_assoc g (bytes_of first_messages) unread) ∙ e ∙ append_assoc m (bytes_of messages) rest) in
    let more = come_first first_messages messages unread rest fault is.1 are.1 ends same.rest in
    record { later = more.later; messages_are = ap (λ (x : List (List ℕ)). m ∷ x) more.messages_are ∙ ap (λ (x : List ℕ). x ∷ first_messages ++ more.later) (sym same.front); unread_is = more.unread_is }

pub given_first : (front more unread rest : List ℕ) (first_messages messages : List (List ℕ)) (fault : Option MsgError) → IsCut front first_messages unread → FramesOf (front ++ more) messages rest fault → (later : List (List ℕ)) × (messages ≡ first_messages ++ later)
given_first front more unread rest first_messages messages fault cut frames =
    let whole : bytes_of first_messages ++ (unread ++ more) ≡ bytes_of messages ++ rest = sym (append_assoc (bytes_of first_messages) unread more) ∙ ap (λ (x : List ℕ). x ++ more) (sym cut.whole) ∙ frames.cut.whole in
    let first = come_first first_messages messages (unread ++ more) rest fault cut.each frames.cut.each frames.ends whole in
    (first.later, first.messages_are)

-- ---- one end

back_are : (front back : List (List ℕ)) → AreMessages (front ++ back) → AreMessages back
back_are [] back are = are
back_are (m ∷ front) back are = back_are front back are.1

none_later : (later : List (List ℕ)) (unread rest : List ℕ) (fault : Option MsgError) → AreMessages later → EndsIn unread fault → unread ≡ bytes_of later ++ rest → later ≡ []
none_later [] unread rest fault are ends e = refl
none_later (m ∷ later) unread rest fault are ends e =
    absurd (not_end m (bytes_of later ++ rest) fault are.0 (subst (λ (x : List ℕ). EndsIn x fault) (e ∙ append_assoc m (bytes_of later) rest) ends))

never_both : (rest : List ℕ) (fault : MsgError) → IsUnfinished rest → IsFault rest fault → ⊥
never_both rest fault (inl none) (inl bad) = cc
never_both rest fault (inl none) (inr (len, said, there, bad)) = cc
never_both rest fault (inr (len, said, short)) (inl bad) = cc
never_both rest fault (inr (len, said, short)) (inr (other, says, there, bad)) = let same : len ≡ other = some_len _ _ _ said says in absurd (omega (arith, same, short, there))

one_fault : (rest : List ℕ) (a b : MsgError) → IsFault rest a → IsFault rest b → a ≡ b
one_fault rest a b (inl p) (inl q) = cc
one_fault rest a b (inl p) (inr (len, said, there, bad)) = absurd cc
one_fault rest a b (inr (len, said, there, bad)) (inl q) = absurd cc
one_fault rest a b (inr (len, said, there, bad)) (inr (other, says, too, worse)) =
    let same : len ≡ other = some_len _ _ _ said says in
    let moved : message_at (take len rest) ≡ Err b = ap (λ (k : ℕ). message_at (take k rest)) same ∙ worse in
    cc

one_end : (rest : List ℕ) (a b : Option MsgError) → EndsIn rest a → EndsIn rest b → a ≡ b
one_end rest None None p q = refl
one_end rest None (Some b) p q = absurd (never_both rest b p q)
one_end rest (Some a) None p q = absurd (never_both rest a q p)
one_end rest (Some a) (Some b) p q = ap (λ (f : MsgError). Some f) (one_fault rest a b p q)

pub one_framing_lem : (stream rest other_rest : List ℕ) (messages others : List (List ℕ)) (fault other_fault : Option MsgError) → FramesOf stream messages rest fault → FramesOf stream others other_rest other_fault → (messages ≡ others) × (rest ≡ other_rest) × (fault ≡ other_fault)
one_framing_lem stream rest other_rest messages others fault other_fault a b =
    let first = come_first messages others rest other_rest other_fault a.cut.each b.cut.each b.ends (sym a.cut.whole ∙ b.cut.whole) in
    let later : AreMessages first.later = back_are messages first.later (subst AreMessages first.messages_are b.cut.each) in
    let none : first.later ≡ [] = none_later first.later rest other_rest fault later a.ends first.unread_is in
    let rests : rest ≡ other_rest = first.unread_is ∙ ap (λ (x : List (List ℕ)). bytes_of x ++ other_rest) none in
    let all : messages ≡ others = sym (first.messages_are ∙ ap (λ (x : List (List ℕ)). messages ++ x) none ∙ append-nil messages) in
    (all, rests, one_end other_rest fault other_fault (subst (λ (x : List ℕ). EndsIn x fault) rests a.ends) b.ends)
