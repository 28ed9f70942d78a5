-- What is read is spelled.
use Rattle.std.proofs.Common.{◌≡◌, ℕ, zero, suc, ◌≤◌, Bool, true, false, cond, List, [], ◌∷◌, ◌++◌, length, refl, sym, ap, ◌∙◌, append_assoc, subst, arith}
use Rattle.std.specs.Prelude.{Ok, Option, Some, None, not, nat_lt, ◌==◌, ◌&&◌, ◌||◌}
use Rattle.std.specs.List.{list_all}
use Rattle.std.specs.Cmp.Derive.{both_true}
use Rattle.std.proofs.lemmas.Bool.{eqb-true, ltb-false}
use Rattle.std.proofs.lemmas.List.{append-nil}
use Rattle.match_key.specs.declared.error.RuleError.TheVariants.{TooLong}
use Rattle.match_rule.specs.declared.term.Term.{Term}
use Rattle.match_rule.specs.declared.quoting.Quoting.TheVariants.{Outside, Inside, Escaped}
use Rattle.match_rule.specs.declared.quoting.Step.TheVariants.{End, Skip, Take}
use Rattle.match_rule.specs.Bytes.{begins_with}
use Rattle.match_rule.specs.Condition.{term_key, has_key, has_path, term_with}
use Rattle.match_rule.specs.RuleTree.{RuleTree}
use Rattle.match_rule.specs.Gathering.{tree_at}
use Rattle.match_rule.specs.Grammar.{is_blank, apostrophe, backslash, comma, equals, Piece, quoted, escaped, plain, pieces_bytes, pieces_value, ArePieces, Part, part_bytes, IsPart, AreParts, HaveOwnKeys, parts_bytes, IsEnding, rule_with, ReadsAs}
use Rattle.match_rule.specs.Reading.{◌>>=◌, after_blanks, after_step, value_from, with_byte, part_at, parts_from, terms_at, rule_at}
use Rattle.match_rule.proofs.PartReads.{ok, bind_ok, pair_ok, guard_ok, reads_from, word_is, term_is, take_ok, part_len}
use Rattle.match_rule.proofs.Turns.{blanks_len, parts_from-nil}
use Rattle.match_rule.proofs.Spelled.{tail_bytes, tail_rest, begins_tail, quoted_regroup, part_regroup}

-- ---- values

record Value (bytes value rest : List ℕ) : Type 0 where
  pub pieces : List Piece
  pub tail : Option (List ℕ)
  pub are : ArePieces pieces
  pub spelled : bytes ≡ pieces_bytes pieces ++ tail_bytes tail
  pub means : value ≡ pieces_value pieces
  pub ends : rest ≡ tail_rest tail

-- a section that is open, and then a value
record Section (bytes value rest : List ℕ) : Type 0 where
  pub inside : List ℕ
  pub back : List ℕ
  pub later : List ℕ
  pub closed : list_all (λ byte. not (byte == apostrophe)) inside ≡ true
  pub spelled : bytes ≡ inside ++ apostrophe ∷ back
  pub means : value ≡ inside ++ later
  pub more : Value back later rest

byte_taken : (b : ℕ) (bs value rest : List ℕ) → (b == apostrophe || b == comma || b == backslash && begins_with apostrophe bs) ≡ false → (value_from Outside bs >>= λ found. Ok (with_byte b found)) ≡ Ok (value, rest) → ((v r : List ℕ) → value_from Outside bs ≡ Ok (v, r) → Value bs v r) → Value (b ∷ bs) value rest
byte_taken b bs value rest is e more =
    let t = take_ok b (value_from Outside bs) value rest e in
    let v = more t.0 rest t.2 in
    record {
      pieces = plain b ∷ v.pieces;
      tail = v.tail;
      are = (ap (λ follows. b == apostrophe || b == comma || b == backslash && follows) (sym (begins_tail (pieces_bytes v.pieces) v.tail) ∙ sym (ap (begins_with apostrophe) v.spelled)) ∙ is, v.are);
      spelled = ap (λ (x : List ℕ). b ∷ x) v.spelled;
      means = t.1 ∙ ap (λ (x : List ℕ). b ∷ x) v.means;
      ends = v.ends;
    }

outside : (b : ℕ) (bs value rest : List ℕ) (ends opens slash follows : Bool) → (b == comma) ≡ ends → (b == apostrophe) ≡ opens → (b == backslash) ≡ slash → begins_with apostrophe bs ≡ follows
    → after_step (cond ends End (cond opens (Skip Inside) (cond slash (cond follows (Skip Escaped) (Take Outside)) (Take Outside)))) b bs (λ next. value_from next bs) ≡ Ok (value, rest)
    → ((v r : List ℕ) → value_from Outside bs ≡ Ok (v, r) → Value bs v r) → ((v r : List ℕ) → value_from Inside bs ≡ Ok (v, r) → Section bs v r)
    → ((v r : List ℕ) → value_from Escaped bs ≡ Ok (v, r) → begins_with apostrophe bs ≡ true → Value (backslash ∷ bs) v r) → Value (b ∷ bs) value rest
outside b bs value rest true opens slash follows p q r s e more section escape =
    let h = pair_ok ([], bs) (value, rest) e in
    record { pieces = []; tail = Some bs; are = tt; spelled = ap (λ (x : ℕ). x ∷ bs) (eqb-true b comma p); means = sym h.0; ends = sym h.1 }
outside b bs value rest false true slash follows p q r s e more section escape =
    let found = section value rest e in
    let regroup = quoted_regroup found.inside (pieces_bytes found.more.pieces) (tail_bytes found.more.tail) in
    record {
      pieces = quoted found.inside ∷ found.more.pieces;
      tail = found.more.tail;
      are = (found.closed, found.more.are);
      spelled = ap (λ (x : ℕ). x ∷ bs) (eqb-true b apostrophe q) ∙ ap (λ (x : List ℕ). apostrophe ∷ x) (found.spelled ∙ ap (λ (x : List ℕ). found.inside ++ apostrophe ∷ x) found.more.spelled ∙ sym regroup);
      means = found.means ∙ ap (λ (x : List ℕ). found.inside ++ x) found.more.means;
      ends = found.more.ends;
    }
outside b bs value rest false false true true p q r s e more section escape = rw (eqb-true b backslash r) (escape value rest e s)
outside b bs value rest false false true false p q r s e more section escape = byte_taken b bs value rest (rw (q, p, r, s) refl) e more
outside b bs value rest false false false follows p q r s e more section escape = byte_taken b bs value rest (rw (q, p, r) refl) e more

inside : (b : ℕ) (bs value rest : List ℕ) (closing : Bool) → (b == apostrophe) ≡ closing → after_step (cond closing (Skip Outside) (Take Inside)) b bs (λ next. value_from next bs) ≡ Ok (value, rest) → ((v r : List ℕ) → value_from Outside bs ≡ Ok (v, r) → Value bs v r) → ((v r : List ℕ) → value_from Inside bs ≡ Ok (v, r) → Section bs v r) → Section (b ∷ bs) value rest
inside b bs value rest true is e more section = record {
  inside = [];
  back = bs;
  later = value;
  closed = refl;
  spelled = ap (λ (x : ℕ). x ∷ bs) (eqb-true b apostrophe is);
  means = refl;
  more = more value rest e;
}
inside b bs value rest false is e more section =
    let t = take_ok b (value_from Inside bs) value rest e in
    let s = section t.0 rest t.2 in
    record {
      inside = b ∷ s.inside;
      back = s.back;
      later = s.later;
      closed = rw is s.closed;
      spelled = ap (λ (x : List ℕ). b ∷ x) s.spelled;
      means = t.1 ∙ ap (λ (x : List ℕ). b ∷ x) s.means;
      more = s.more;
    }

mutual
  outside_found : (bs value rest : List ℕ) → value_from Outside bs ≡ Ok (value, rest) → Value bs value rest
  outside_found [] value rest e =
      let h = pair_ok ([], []) (value, rest) e in
      record { pieces = []; tail = None; are = tt; spelled = refl; means = sym h.0; ends = sym h.1 }
  outside_found (b ∷ bs) value rest e = outside b bs value rest (b == comma) (b == apostrophe) (b == backslash) (begins_with apostrophe bs) refl refl refl refl e (λ v r. outside_found bs v r) (λ v r. inside_found bs v r) (λ v r. escaped_found bs v r)

  inside_found : (bs value rest : List ℕ) → value_from Inside bs ≡ Ok (value, rest) → Section bs value rest
  inside_found [] value rest e = absurd cc
  inside_found (b ∷ bs) value rest e = inside b bs value rest (b == apostrophe) refl e (λ v r. outside_found bs v r) (λ v r. inside_found bs v r)

  -- a backslash came before, and an apostrophe follows
  escaped_found : (bs value rest : List ℕ) → value_from Escaped bs ≡ Ok (value, rest) → begins_with apostrophe bs ≡ true → Value (backslash ∷ bs) value rest
  escaped_found [] value rest e begun = absurd cc
  escaped_found (b ∷ bs) value rest e begun =
      let t = take_ok b (value_from Outside bs) value rest e in
      let is = eqb-true b apostrophe begun in
      let more = outside_found bs t.0 rest t.2 in
      record {
        pieces = escaped ∷ more.pieces;
        tail = more.tail;
        are = (tt, more.are);
        spelled = ap (λ (x : ℕ). backslash ∷ x ∷ bs) is ∙ ap (λ (x : List ℕ). backslash ∷ apostrophe ∷ x) more.spelled;
        means = t.1 ∙ ap (λ (x : ℕ). x ∷ t.0) is ∙ ap (λ (x : List ℕ). apostrophe ∷ x) more.means;
        ends = more.ends;
      }

-- ---- parts

blanks_found : (bytes : List ℕ) → (blanks : List ℕ) × (list_all is_blank blanks ≡ true) × (bytes ≡ blanks ++ after_blanks bytes)
blanks_found [] = ([], refl, refl)
blanks_found (b ∷ bs) = go (is_blank b) refl (blanks_found bs)
  where
    go : (blank : Bool) → is_blank b ≡ blank → (blanks : List ℕ) × (list_all is_blank blanks ≡ true) × (bs ≡ blanks ++ after_blanks bs) → (blanks : List ℕ) × (list_all is_blank blanks ≡ true) × (b ∷ bs ≡ blanks ++ cond blank (after_blanks bs) (b ∷ bs))
    go true is found = (b ∷ found.0, both_true is found.1, ap (λ (x : List ℕ). b ∷ x) found.2)
    go false is found = ([], refl, refl)

-- terms after those in front are the parts of a text
record Rest (front : List Term) (bytes : List ℕ) (terms : List Term) : Type 0 where
  pub own : List Term
  pub parts : List Part
  pub ending : List ℕ
  pub joined : terms ≡ front ++ own
  pub spelled : bytes ≡ parts_bytes parts ending
  pub ends : IsEnding parts ending
  pub said : AreParts parts own
  pub once : HaveOwnKeys front own

none_found : (front : List Term) (bytes : List ℕ) (terms : List Term) → after_blanks bytes ≡ [] → front ≡ terms → Rest front bytes terms
none_found front bytes terms none same =
    let found = blanks_found bytes in
    let blank : bytes ≡ found.0 = found.2 ∙ ap (λ (x : List ℕ). found.0 ++ x) none ∙ append-nil found.0 in
    record {
      own = [];
      parts = [];
      ending = bytes;
      joined = sym same ∙ sym (append-nil front);
      spelled = refl;
      ends = ap (list_all is_blank) blank ∙ found.1;
      said = tt;
      once = tt;
    }

-- a part, and what follows its value
record First (front : List Term) (bytes : List ℕ) (term : Term) (rest : List ℕ) : Type 0 where
  pub part : Part
  pub tail : Option (List ℕ)
  pub says : IsPart part term
  pub new : has_key (term_key term) front ≡ false
  pub apart : has_path (term_key term) front ≡ false
  pub spelled : bytes ≡ part_bytes part ++ tail_bytes tail
  pub ends : rest ≡ tail_rest tail

first_found : (front : List Term) (bytes : List ℕ) (term : Term) (rest : List ℕ) → part_at front (after_blanks bytes) ≡ Ok (term, rest) → First front bytes term rest
first_found front bytes term rest e =
    let r = reads_from front (after_blanks bytes) term rest e in
    let is = term_is r.key r.value term r.allowed in
    let v = outside_found r.spelling r.value rest r.spelled in
    let blanks = blanks_found bytes in
    let word = word_is (after_blanks bytes) r.word r.spelling r.has_word in
    record {
      part = record { blanks = blanks.0; word = r.word; pieces = v.pieces };
      tail = v.tail;
      says = record {
        blank = blanks.1;
        known = r.known ∙ ap (λ k. Ok k) (sym is.0);
        spelled = v.are;
        allowed = ap (term_with (term_key term)) (sym v.means) ∙ ap (λ k. term_with k r.value) is.0 ∙ r.allowed;
      };
      new = ap (λ k. has_key k front) is.0 ∙ r.new;
      apart = ap (λ k. has_path k front) is.0 ∙ r.apart;
      spelled = blanks.2 ∙ ap (λ (x : List ℕ). blanks.0 ++ x) (word ∙ ap (λ (x : List ℕ). r.word ++ equals ∷ x) v.spelled) ∙ sym (part_regroup blanks.0 r.word (pieces_bytes v.pieces) (tail_bytes v.tail));
      ends = v.ends;
    }

-- a part with a comma, before what follows
more_found : (front : List Term) (bytes rest : List ℕ) (term : Term) (part : Part) (terms : List Term) → IsPart part term → has_key (term_key term) front ≡ false → has_path (term_key term) front ≡ false → bytes ≡ part_bytes part ++ comma ∷ rest → Rest (front ++ term ∷ []) rest terms → Rest front bytes terms
more_found front bytes rest term part terms says new apart is more = go more.parts more.ending more.spelled more.ends more.said
  where
    joined : terms ≡ front ++ (term ∷ more.own)
    joined = more.joined ∙ append_assoc front (term ∷ []) more.own

    go : (parts : List Part) (ending : List ℕ) → rest ≡ parts_bytes parts ending → IsEnding parts ending → AreParts parts more.own → Rest front bytes terms
    go [] ending spelled ends said = record { own = term ∷ more.own; parts = part ∷ []; ending = comma ∷ ending; joined = joined; spelled = is ∙ ap (λ (x : List ℕ). part_bytes part ++ comma ∷ x) spelled; ends = (refl, ends); said = (says, said); once = (new, apart, more.once) }
    go (next ∷ parts) ending spelled ends said = record { own = term ∷ more.own; parts = part ∷ next ∷ parts; ending = ending; joined = joined; spelled = is ∙ ap (λ (x : List ℕ). part_bytes part ++ comma ∷ x) spelled; ends = ends; said = (says, said); once = (new, apart, more.once) }

after_first : (n : ℕ) (front : List Term) (bytes : List ℕ) (terms : List Term) (term : Term) (rest : List ℕ) → First front bytes term rest → parts_from n (front ++ term ∷ []) (after_blanks rest) ≡ Ok terms → Rest (front ++ term ∷ []) rest terms → Rest front bytes terms
after_first n front bytes terms term rest first e more = go first.tail first.spelled first.ends
  where
    go : (tail : Option (List ℕ)) → bytes ≡ part_bytes first.part ++ tail_bytes tail → rest ≡ tail_rest tail → Rest front bytes terms
    go None spelled ends =
        let last : ok (front ++ term ∷ []) ≡ ok terms = sym (parts_from-nil n (front ++ term ∷ [])) ∙ ap (λ (x : List ℕ). parts_from n (front ++ term ∷ []) (after_blanks x)) (sym ends) ∙ e in
        let same : front ++ term ∷ [] ≡ terms = cc in
        record {
          own = term ∷ [];
          parts = first.part ∷ [];
          ending = [];
          joined = sym same;
          spelled = spelled;
          ends = tt;
          said = (first.says, tt);
          once = (first.new, first.apart, tt);
        }
    go (Some r) spelled ends = more_found front bytes r term first.part terms first.says first.new first.apart spelled (let P : List ℕ → Type 0 = λ x. Rest (front ++ term ∷ []) x terms in subst P ends more)

parts_found : (n : ℕ) (front : List Term) (bytes : List ℕ) (terms : List Term) → length (after_blanks bytes) ≤ n → parts_from n front (after_blanks bytes) ≡ Ok terms → Rest front bytes terms
parts_found zero front bytes terms enough e = go (after_blanks bytes) refl enough
  where
    go : (text : List ℕ) → after_blanks bytes ≡ text → length text ≤ 0 → Rest front bytes terms
    go [] is fits = none_found front bytes terms is cc
    go (b ∷ bs) is fits = absurd (omega arith)
parts_found (suc n) front bytes terms enough e = go (after_blanks bytes) refl enough e (λ f rest. parts_found n f rest terms)
  where
    go : (text : List ℕ) → after_blanks bytes ≡ text → length text ≤ suc n → parts_from (suc n) front text ≡ Ok terms → ((f : List Term) (rest : List ℕ) → length (after_blanks rest) ≤ n → parts_from n f (after_blanks rest) ≡ Ok terms → Rest f rest terms) → Rest front bytes terms
    go [] is fits e more = none_found front bytes terms is cc
    go (b ∷ bs) is fits e more =
        let p = bind_ok (part_at front (b ∷ bs)) _ terms e in
        let shorter = part_len front (b ∷ bs) p.0.0 p.0.1 p.1 in
        let blanks = blanks_len p.0.1 in
        after_first n front bytes terms p.0.0 p.0.1 (first_found front bytes p.0.0 p.0.1 (ap (part_at front) is ∙ p.1)) p.2 (more (front ++ p.0.0 ∷ []) p.0.1 (omega arith) p.2)

-- what is read as a rule reads as it
pub rule_found : (text : List ℕ) (rule : RuleTree) → rule_at text ≡ Ok rule → ReadsAs text rule
rule_found text rule e =
    let g = guard_ok (nat_lt 1024 (length text)) TooLong (tree_at text) rule e in
    let f = bind_ok (terms_at text) _ rule g.1 in
    let r = parts_found (length (after_blanks text)) [] text f.0 (omega arith) f.1 in
    let same : rule_with f.0 ≡ rule = let is = f.2 in cc in
    record {
      parts = r.parts;
      terms = r.own;
      ending = r.ending;
      short = ltb-false 1024 (length text) g.0;
      spelled = r.spelled;
      ends = r.ends;
      said = r.said;
      once = r.once;
      says = sym same ∙ ap rule_with r.joined;
    }
