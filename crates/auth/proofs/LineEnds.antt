-- Where lines end in bytes that come in cuts.
use Rattle.std.proofs.Common.{◌≡◌, ℕ, ◌+◌, ◌-◌, ◌≤◌, Bool, true, false, cond, suc, List, [], ◌∷◌, ◌++◌, drop, length, refl, ap, ◌∙◌, arith, get_or, length-append}
use Rattle.std.specs.Prelude.{◌==◌, ◌&&◌}
use Rattle.std.proofs.lemmas.Bool.{eqb-true, and_parts}
use Rattle.auth.specs.Lines.{cr, lf, Pieces, with_byte, pieces_of}
use Rattle.auth.specs.LineStates.{whole_piece, ends_in_cr, ended_piece}

neither : (a : Bool) → (a && false) ≡ false
neither true = refl
neither false = refl

-- ---- bytes after pieces

-- pieces, with bytes added to the last one
abbrev pub continue_line : List ℕ → List (List ℕ) → List ℕ → Pieces
continue_line piece [] bytes = pieces_of (piece ++ bytes)
continue_line piece (next ∷ later) bytes = record { first = piece; later = (continue_line next later bytes).first ∷ (continue_line next later bytes).later }

-- LF, and before it CR, is a line end
crlf_ends : (pieces : Pieces) → with_byte cr (with_byte lf pieces) ≡ record { first = []; later = pieces.first ∷ pieces.later }
crlf_ends pieces = rw (neither (get_or pieces.first 0 0 == lf)) refl

-- a byte before pieces, by whether it is the CR of a line end
abbrev byte_before : Bool → ℕ → List ℕ → List (List ℕ) → Pieces
byte_before t byte piece later = cond t (record { first = []; later = drop 1 piece ∷ later }) (record { first = byte ∷ piece; later = later })

-- a byte before pieces, and bytes after them
byte_continued : (byte : ℕ) (piece : List ℕ) (later : List (List ℕ)) (bytes : List ℕ)
    → with_byte byte (continue_line piece later bytes) ≡ continue_line (with_byte byte (record { first = piece; later = later })).first (with_byte byte (record { first = piece; later = later })).later bytes
byte_continued byte [] [] bytes = refl
byte_continued byte (b ∷ piece) [] bytes = go (b == lf && byte == cr) refl
  where
    go : (t : Bool) → (b == lf && byte == cr) ≡ t
        → with_byte byte (pieces_of (b ∷ piece ++ bytes)) ≡ continue_line (byte_before t byte (b ∷ piece) []).first (byte_before t byte (b ∷ piece) []).later bytes
    go true is =
        let e = and_parts (b == lf) (byte == cr) is in
        rw (eqb-true b lf e.0, eqb-true byte cr e.1) (crlf_ends (pieces_of (piece ++ bytes)))
    go false is = refl
byte_continued byte piece (next ∷ later) bytes = go (get_or piece 0 0 == lf && byte == cr)
  where
    go : (t : Bool) → byte_before t byte piece ((continue_line next later bytes).first ∷ (continue_line next later bytes).later) ≡ continue_line (byte_before t byte piece (next ∷ later)).first (byte_before t byte piece (next ∷ later)).later bytes
    go true = refl
    go false = refl

pub pieces_of-append : (front back : List ℕ) → pieces_of (front ++ back) ≡ continue_line (pieces_of front).first (pieces_of front).later back
pieces_of-append [] back = refl
pieces_of-append (byte ∷ front) back = ap (with_byte byte) (pieces_of-append front back) ∙ byte_continued byte (pieces_of front).first (pieces_of front).later back

-- ---- an open line

-- what is known of a line without an end, two bytes of it and the others
pub record Opens (byte next : ℕ) (rest : List ℕ) : Type 0 where
  pub test : (next == lf && byte == cr) ≡ false
  pub tail : pieces_of (next ∷ rest) ≡ whole_piece (next ∷ rest)

tail_first : (byte : ℕ) (piece rest : List ℕ) → byte ∷ piece ≡ byte ∷ rest → piece ≡ rest
tail_first byte piece rest e = cc

opens : (byte next : ℕ) (rest : List ℕ) → pieces_of (byte ∷ next ∷ rest) ≡ whole_piece (byte ∷ next ∷ rest) → Opens byte next rest
opens byte next rest = go (pieces_of (next ∷ rest)) refl
  where
    at : (p : Pieces) → pieces_of (next ∷ rest) ≡ p → (t : Bool) → (get_or p.first 0 0 == lf && byte == cr) ≡ t → cond t (record { first = []; later = drop 1 p.first ∷ p.later }) (record { first = byte ∷ p.first; later = p.later }) ≡ whole_piece (byte ∷ next ∷ rest) → Opens byte next rest
    at p is true test e = let never : [] ≡ byte ∷ next ∷ rest = ap (λ (x : Pieces). x.first) e in absurd cc
    at p is false test e =
        let first : p.first ≡ next ∷ rest = tail_first byte p.first (next ∷ rest) (ap (λ (x : Pieces). x.first) e) in
        let later : p.later ≡ [] = ap (λ (x : Pieces). x.later) e in
        let whole : p ≡ whole_piece (next ∷ rest) = rw (← first, ← later) refl in
        record { test = rw first at test; tail = is ∙ whole }

    go : (p : Pieces) → pieces_of (next ∷ rest) ≡ p → with_byte byte p ≡ whole_piece (byte ∷ next ∷ rest) → Opens byte next rest
    go p is e = at p is (get_or p.first 0 0 == lf && byte == cr) refl e

-- ---- a line grows

last_of : (byte next : ℕ) (rest : List ℕ) → ends_in_cr (byte ∷ next ∷ rest) ≡ ends_in_cr (next ∷ rest)
last_of byte next rest =
    let longer : length (byte ∷ next ∷ rest) - 1 ≡ suc (length rest) = omega arith in
    let shorter : length (next ∷ rest) - 1 ≡ length rest = omega arith in
    rw (longer, shorter) refl

ended_more : (byte next : ℕ) (rest : List ℕ) (last : ℕ) → (next == lf && byte == cr) ≡ false → with_byte byte (ended_piece (next ∷ rest ++ last ∷ [])) ≡ ended_piece (byte ∷ next ∷ rest ++ last ∷ [])
ended_more byte next [] last test = refl
ended_more byte next (r ∷ rest) last test =
    let shorter : length (next ∷ r ∷ rest ++ last ∷ []) - 2 ≡ suc (length rest) = omega (arith, length-append rest (last ∷ [])) in
    let longer : length (byte ∷ next ∷ r ∷ rest ++ last ∷ []) - 2 ≡ suc (suc (length rest)) = omega (arith, length-append rest (last ∷ [])) in
    rw (shorter, longer, test) refl

pub pieces_of-push : (line : List ℕ) (byte : ℕ) → pieces_of line ≡ whole_piece line → pieces_of (line ++ byte ∷ []) ≡ cond (byte == lf && ends_in_cr line) (ended_piece (line ++ byte ∷ [])) (whole_piece (line ++ byte ∷ []))
pieces_of-push [] byte is = rw (neither (byte == lf)) refl
pieces_of-push (first ∷ []) byte is = refl
pieces_of-push (first ∷ next ∷ rest) byte is =
    let parts = opens first next rest is in
    rw (last_of first next rest, pieces_of-push (next ∷ rest) byte parts.tail) (go (byte == lf && ends_in_cr (next ∷ rest)) parts.test)
  where
    go : (t : Bool) → (next == lf && first == cr) ≡ false → with_byte first (cond t (ended_piece (next ∷ rest ++ byte ∷ [])) (whole_piece (next ∷ rest ++ byte ∷ []))) ≡ cond t (ended_piece (first ∷ next ∷ rest ++ byte ∷ [])) (whole_piece (first ∷ next ∷ rest ++ byte ∷ []))
    go true test = ended_more first next rest byte test
    go false test = rw test refl

-- ---- an open line goes on

first_test : (byte next : ℕ) (p : Pieces) → (next == lf && byte == cr) ≡ false → (get_or (with_byte next p).first 0 0 == lf && byte == cr) ≡ false
first_test byte next p test = go (get_or p.first 0 0 == lf && next == cr)
  where
    go : (t : Bool) → (get_or (byte_before t next p.first p.later).first 0 0 == lf && byte == cr) ≡ false
    go true = refl
    go false = test

-- the piece that begins with an open line is no shorter, a CR at its end aside
pub first_len : (line more : List ℕ) → pieces_of line ≡ whole_piece line → length line ≤ length (pieces_of (line ++ more)).first + 1
first_len [] more is = omega arith
first_len (first ∷ []) more is = omega arith
first_len (first ∷ next ∷ rest) more is =
    let parts = opens first next rest is in
    let longer : length (next ∷ rest) ≤ length (pieces_of (next ∷ rest ++ more)).first + 1 = first_len (next ∷ rest) more parts.tail in
    let test : (get_or (pieces_of (next ∷ rest ++ more)).first 0 0 == lf && first == cr) ≡ false = first_test first next (pieces_of (rest ++ more)) parts.test in
    rw test (omega arith)

-- a line with one more byte, which ends it or doesn't
pub ends_here : (line longer : List ℕ) (byte : ℕ) → pieces_of line ≡ whole_piece line → longer ≡ line ++ byte ∷ [] → (byte == lf && ends_in_cr line) ≡ true → pieces_of longer ≡ ended_piece longer
ends_here line longer byte is more test = rw (more, pieces_of-push line byte is, test) refl

pub goes_on : (line longer : List ℕ) (byte : ℕ) → pieces_of line ≡ whole_piece line → longer ≡ line ++ byte ∷ [] → (byte == lf && ends_in_cr line) ≡ false → pieces_of longer ≡ whole_piece longer
goes_on line longer byte is more test = rw (more, pieces_of-push line byte is, test) refl

-- what ends a line is not its first byte
pub line_there : (line : List ℕ) (byte : ℕ) → (byte == lf && ends_in_cr line) ≡ true → 1 ≤ length line
line_there [] byte test = let never : (byte == lf && false) ≡ true = test in let false_is : (byte == lf && false) ≡ false = neither (byte == lf) in absurd cc
line_there (first ∷ rest) byte test = omega arith

-- the last piece has no line end
abbrev pub LastIsOpen : List ℕ → List (List ℕ) → Type 0
LastIsOpen piece [] = pieces_of piece ≡ whole_piece piece
LastIsOpen piece (next ∷ later) = LastIsOpen next later

open_tail : (byte : ℕ) (rest : List ℕ) → pieces_of (byte ∷ rest) ≡ whole_piece (byte ∷ rest) → pieces_of rest ≡ whole_piece rest
open_tail byte [] is = refl
open_tail byte (next ∷ rest) is = (opens byte next rest is).tail

open_dropped : (piece : List ℕ) → pieces_of piece ≡ whole_piece piece → pieces_of (drop 1 piece) ≡ whole_piece (drop 1 piece)
open_dropped [] is = refl
open_dropped (byte ∷ rest) is = open_tail byte rest is

byte_open : (byte : ℕ) (piece : List ℕ) (later : List (List ℕ)) → LastIsOpen piece later → LastIsOpen (with_byte byte (record { first = piece; later = later })).first (with_byte byte (record { first = piece; later = later })).later
byte_open byte piece [] is = go (get_or piece 0 0 == lf && byte == cr) refl
  where
    go : (t : Bool) → (get_or piece 0 0 == lf && byte == cr) ≡ t → LastIsOpen (byte_before t byte piece []).first (byte_before t byte piece []).later
    go true test = open_dropped piece is
    go false test = rw (is, test) refl
byte_open byte piece (next ∷ later) is = go (get_or piece 0 0 == lf && byte == cr)
  where
    go : (t : Bool) → LastIsOpen (byte_before t byte piece (next ∷ later)).first (byte_before t byte piece (next ∷ later)).later
    go true = is
    go false = is

pub last_open : (bytes : List ℕ) → LastIsOpen (pieces_of bytes).first (pieces_of bytes).later
last_open [] = refl
last_open (byte ∷ bytes) = byte_open byte (pieces_of bytes).first (pieces_of bytes).later (last_open bytes)

-- a first piece that no line end follows is all bytes
byte_before_whole : (t : Bool) (byte : ℕ) (p : Pieces) → (byte_before t byte p.first p.later).later ≡ [] → ((byte_before t byte p.first p.later).first ≡ byte ∷ p.first) × (p.later ≡ [])
byte_before_whole true byte p none = absurd cc
byte_before_whole false byte p none = (refl, none)

pub first_whole : (bytes : List ℕ) → (pieces_of bytes).later ≡ [] → (pieces_of bytes).first ≡ bytes
first_whole [] none = refl
first_whole (byte ∷ bytes) none =
    let h = byte_before_whole (get_or (pieces_of bytes).first 0 0 == lf && byte == cr) byte (pieces_of bytes) none in
    h.0 ∙ ap (λ (x : List ℕ). byte ∷ x) (first_whole bytes h.1)
