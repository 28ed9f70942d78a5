-- What is spelled is read.
use Rattle.std.proofs.Common.{◌≡◌, ℕ, ◌≤◌, Bool, true, false, cond, List, [], ◌∷◌, ◌++◌, length, refl, sym, ap, ◌∙◌, append_assoc, arith}
use Rattle.std.specs.Prelude.{Result, Ok, Option, Some, None, not, ◌==◌, ◌&&◌, ◌||◌}
use Rattle.std.specs.List.{list_all}
use Rattle.std.proofs.lemmas.Bool.{and_parts, le-ltb, not-true}
use Rattle.std.proofs.lemmas.List.{append-nil}
use Rattle.match_key.specs.declared.error.RuleError.{RuleError}
use Rattle.match_rule.specs.declared.term.Term.{Term}
use Rattle.match_rule.specs.declared.quoting.Quoting.TheVariants.{Outside, Inside, Escaped}
use Rattle.match_rule.specs.declared.quoting.Step.TheVariants.{End, Skip, Take}
use Rattle.match_rule.specs.Bytes.{begins_with}
use Rattle.match_rule.specs.Condition.{term_key, has_key, has_path}
use Rattle.match_rule.specs.RuleTree.{RuleTree}
use Rattle.match_rule.specs.Gathering.{tree_at}
use Rattle.match_rule.specs.Grammar.{is_blank, apostrophe, comma, equals, Piece, quoted, escaped, plain, pieces_bytes, pieces_value, ArePieces, Part, part_bytes, IsPart, AreParts, HaveOwnKeys, further_bytes, parts_bytes, IsEnding, rule_with, ReadsAs}
use Rattle.match_rule.specs.Reading.{◌>>=◌, after_blanks, step, after_step, value_from, with_byte, part_at, parts_from, terms_at, rule_at}
use Rattle.match_rule.proofs.Steps.{with_front}
use Rattle.match_rule.proofs.KeyWords.{known_plain, word_read, word_no_blank}
use Rattle.match_rule.proofs.PartReads.{reads_to}
use Rattle.match_rule.proofs.Turns.{turn}

-- ---- values

-- what follows a value: the end, or a comma and the rest
abbrev pub tail_bytes : Option (List ℕ) → List ℕ
tail_bytes None = []
tail_bytes (Some rest) = comma ∷ rest

abbrev pub tail_rest : Option (List ℕ) → List ℕ
tail_rest None = []
tail_rest (Some rest) = rest

pub begins_tail : (bytes : List ℕ) (tail : Option (List ℕ)) → begins_with apostrophe (bytes ++ tail_bytes tail) ≡ begins_with apostrophe bytes
begins_tail [] None = refl
begins_tail _ _ = refl

with_front-nil : (read : Result (List ℕ × List ℕ) RuleError) → read ≡ with_front [] read
with_front-nil read = grind arith

with_front-cons : (b : ℕ) (front : List ℕ) (read : Result (List ℕ × List ℕ) RuleError) → (with_front front read >>= λ found. Ok (with_byte b found)) ≡ with_front (b ∷ front) read
with_front-cons b front read = grind arith

inside_read : (inside rest : List ℕ) → list_all (λ byte. not (byte == apostrophe)) inside ≡ true → value_from Inside (inside ++ apostrophe ∷ rest) ≡ with_front inside (value_from Outside rest)
inside_read [] rest e = with_front-nil (value_from Outside rest)
inside_read (b ∷ bs) rest e =
    let h = and_parts (not (b == apostrophe)) (list_all (λ byte. not (byte == apostrophe)) bs) e in
    rw (not-true (b == apostrophe) h.0)
    (ap (λ read. read >>= λ found. Ok (with_byte b found)) (inside_read bs rest h.1) ∙ with_front-cons b bs (value_from Outside rest))

plain_step : (opens ends slash follows : Bool) → (opens || ends || slash && follows) ≡ false → cond ends End (cond opens (Skip Inside) (cond slash (cond follows (Skip Escaped) (Take Outside)) (Take Outside))) ≡ Take Outside
plain_step opens ends slash follows e = grind arith

pub quoted_regroup : (inside pieces tail : List ℕ) → ((inside ++ apostrophe ∷ []) ++ pieces) ++ tail ≡ inside ++ apostrophe ∷ (pieces ++ tail)
quoted_regroup inside pieces tail = append_assoc (inside ++ apostrophe ∷ []) pieces tail ∙ append_assoc inside (apostrophe ∷ []) (pieces ++ tail)

pub value_spelled : (pieces : List Piece) (tail : Option (List ℕ)) → ArePieces pieces → value_from Outside (pieces_bytes pieces ++ tail_bytes tail) ≡ Ok (pieces_value pieces, tail_rest tail)
value_spelled [] None are = refl
value_spelled [] (Some rest) are = refl
value_spelled (quoted inside ∷ pieces) tail are =
    ap (λ (bytes : List ℕ). value_from Inside bytes) (quoted_regroup inside (pieces_bytes pieces) (tail_bytes tail))
    ∙ inside_read inside (pieces_bytes pieces ++ tail_bytes tail) are.0
    ∙ ap (with_front inside) (value_spelled pieces tail are.1)
value_spelled (escaped ∷ pieces) tail are = ap (λ read. read >>= λ found. Ok (with_byte apostrophe found)) (value_spelled pieces tail are.1)
value_spelled (plain b ∷ pieces) tail are =
    let rest = pieces_bytes pieces ++ tail_bytes tail in
    let follows = begins_tail (pieces_bytes pieces) tail in
    let is : step Outside b (begins_with apostrophe rest) ≡ Take Outside = ap (step Outside b) follows ∙ plain_step (b == apostrophe) (b == comma) (b == 92) (begins_with apostrophe (pieces_bytes pieces)) are.0 in
    ap (λ s. after_step s b rest (λ next. value_from next rest)) is
    ∙ ap (λ read. read >>= λ found. Ok (with_byte b found)) (value_spelled pieces tail are.1)

-- ---- blanks

blanks_read : (blanks rest : List ℕ) → list_all is_blank blanks ≡ true → after_blanks (blanks ++ rest) ≡ after_blanks rest
blanks_read [] rest e = refl
blanks_read (b ∷ bs) rest e = let h = and_parts (is_blank b) (list_all is_blank bs) e in rw h.0 (blanks_read bs rest h.1)

-- ---- parts

-- what follows a value with these parts to come
abbrev tail_of : List Part → List ℕ → Option (List ℕ)
tail_of [] [] = None
tail_of [] (byte ∷ blanks) = Some blanks
tail_of (part ∷ parts) ending = Some (parts_bytes (part ∷ parts) ending)

further_is : (part : Part) (parts : List Part) (ending : List ℕ) → IsEnding (part ∷ parts) ending
    → further_bytes parts ending ≡ tail_bytes (tail_of parts ending)
further_is part [] [] is = refl
further_is part [] (b ∷ bs) is = ap (λ (x : ℕ). x ∷ bs) is.0
further_is part (next ∷ parts) ending is = refl

pub part_regroup : (blanks word pieces rest : List ℕ) → (blanks ++ (word ++ equals ∷ pieces)) ++ rest ≡ blanks ++ (word ++ equals ∷ (pieces ++ rest))
part_regroup blanks word pieces rest = append_assoc blanks (word ++ equals ∷ pieces) rest ∙ ap (λ (x : List ℕ). blanks ++ x) (append_assoc word (equals ∷ pieces) rest)

after_part_blanks : (part : Part) (term : Term) (rest : List ℕ) → IsPart part term → after_blanks (part_bytes part ++ rest) ≡ part.word ++ equals ∷ (pieces_bytes part.pieces ++ rest)
after_part_blanks part term rest is =
    ap after_blanks (part_regroup part.blanks part.word (pieces_bytes part.pieces) rest)
    ∙ blanks_read part.blanks (part.word ++ equals ∷ (pieces_bytes part.pieces ++ rest)) is.blank
    ∙ word_no_blank part.word (equals ∷ (pieces_bytes part.pieces ++ rest)) (known_plain part.word (term_key term) is.known)

part_read : (front : List Term) (part : Part) (term : Term) (tail : Option (List ℕ)) → IsPart part term → has_key (term_key term) front ≡ false → has_path (term_key term) front ≡ false → part_at front (part.word ++ equals ∷ (pieces_bytes part.pieces ++ tail_bytes tail)) ≡ Ok (term, tail_rest tail)
part_read front part term tail is new apart =
    let spelling = pieces_bytes part.pieces ++ tail_bytes tail in
    reads_to front (part.word ++ equals ∷ spelling) term (tail_rest tail) (record {
      word = part.word;
      spelling = spelling;
      key = term_key term;
      value = pieces_value part.pieces;
      has_word = word_read part.word spelling (known_plain part.word (term_key term) is.known);
      known = is.known;
      new = new;
      apart = apart;
      spelled = value_spelled part.pieces tail is.spelled;
      allowed = is.allowed;
    })

-- the parts of a text and its terms, in as many turns as there are bytes
abbrev parts_in : List Term → List ℕ → Result (List Term) RuleError
parts_in front bytes = parts_from (length (after_blanks bytes)) front (after_blanks bytes)

first_read : (front : List Term) (part : Part) (parts : List Part) (ending : List ℕ) (term : Term)
    → IsPart part term → IsEnding (part ∷ parts) ending → has_key (term_key term) front ≡ false → has_path (term_key term) front ≡ false → parts_in front (parts_bytes (part ∷ parts) ending) ≡ parts_in (front ++ term ∷ []) (tail_rest (tail_of parts ending))
first_read front part parts ending term is ends new apart =
    let tail = tail_of parts ending in
    let text = part.word ++ equals ∷ (pieces_bytes part.pieces ++ tail_bytes tail) in
    let back : after_blanks (parts_bytes (part ∷ parts) ending) ≡ text = ap (λ (rest : List ℕ). after_blanks (part_bytes part ++ rest)) (further_is part parts ending ends) ∙ after_part_blanks part term (tail_bytes tail) is in
    ap (λ (bytes : List ℕ). parts_from (length bytes) front bytes) back
    ∙ sym (turn front text term (tail_rest tail) (part_read front part term tail is new apart))

pub parts_read : (parts : List Part) (terms front : List Term) (ending : List ℕ) → IsEnding parts ending → AreParts parts terms → HaveOwnKeys front terms → parts_in front (parts_bytes parts ending) ≡ Ok (front ++ terms)
parts_read [] [] front ending ends said once =
    let blank : after_blanks ending ≡ [] = ap after_blanks (sym (append-nil ending)) ∙ blanks_read ending [] ends in
    ap (λ (bytes : List ℕ). parts_from (length bytes) front bytes) blank ∙ ap (λ (cs : List Term). Ok cs) (sym (append-nil front))
parts_read [] (term ∷ terms) front ending ends said once = absurd said
parts_read (part ∷ parts) [] front ending ends said once = absurd said
parts_read (part ∷ []) (term ∷ terms) front [] ends said once =
    first_read front part [] [] term said.0 ends once.0 once.1
    ∙ parts_read [] terms (front ++ term ∷ []) [] refl said.1 once.2
    ∙ ap (λ (cs : List Term). Ok cs) (append_assoc front (term ∷ []) terms)
parts_read (part ∷ []) (term ∷ terms) front (b ∷ blanks) ends said once =
    first_read front part [] (b ∷ blanks) term said.0 ends once.0 once.1
    ∙ parts_read [] terms (front ++ term ∷ []) blanks ends.1 said.1 once.2
    ∙ ap (λ (cs : List Term). Ok cs) (append_assoc front (term ∷ []) terms)
parts_read (part ∷ next ∷ parts) (term ∷ terms) front ending ends said once =
    first_read front part (next ∷ parts) ending term said.0 ends once.0 once.1
    ∙ parts_read (next ∷ parts) terms (front ++ term ∷ []) ending ends said.1 once.2
    ∙ ap (λ (cs : List Term). Ok cs) (append_assoc front (term ∷ []) terms)

-- a text that isn't too long has the rule of its terms
pub rule_at-tree : (text : List ℕ) → length text ≤ 1024 → rule_at text ≡ tree_at text
rule_at-tree text short = rw (le-ltb 1024 (length text) short) refl

-- a text that reads as a rule is read as that
pub read_of : (text : List ℕ) (rule : RuleTree) → ReadsAs text rule → rule_at text ≡ Ok rule
read_of text rule is =
    let terms : terms_at text ≡ Ok is.terms = ap terms_at is.spelled ∙ parts_read is.parts is.terms [] is.ending is.ends is.said is.once in
    rule_at-tree text is.short ∙ ap (λ read. read >>= λ ts. Ok (rule_with ts)) terms ∙ ap (λ r. Ok r) (sym is.says)

pub ReadsAs-unique : (text : List ℕ) (rule other : RuleTree) → ReadsAs text rule → ReadsAs text other → rule ≡ other
ReadsAs-unique text rule other is also =
    let same = sym (read_of text rule is) ∙ read_of text other also in
    cc
