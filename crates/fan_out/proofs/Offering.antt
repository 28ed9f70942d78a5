-- The entries that a message is offered to are those that can match, and no more than the candidates.
use Rattle.std.proofs.Common.{◌≡◌, ◌≢◌, inl, inr, ◌↔◌, ℕ, ◌<◌, ◌≤◌, Bool, true, false, cond, List, [], ◌∷◌, length, get_or, map, filter, Option, Some, None, refl, ap, subst, ◌∙◌, arith}
use Rattle.std.specs.Prelude.{IfSome, Contains, AllPairs, nat_eq}
use Rattle.std.specs.Cmp.{IsEquivalence}
use Rattle.std.proofs.lemmas.Bool.{eqb-true, eq-eqb, ne_eqb, and_from}
use Rattle.std.proofs.lemmas.Bool.Decides.{nat_tests}
use Rattle.std.proofs.lemmas.List.{length-map, get_or-map}
use Rattle.std.proofs.lemmas.Map.Keys.{IsDistinct-from_apart}
use Rattle.std.proofs.lemmas.Map.Made.{length-le_from_is_member}
use Rattle.std.proofs.lemmas.Map.Views.{Contains-from_any, list_any-from_Contains}
use Rattle.std.proofs.lemmas.Slice.Eq.{bytes_eq-Decides}
use Rattle.message_view.specs.Message.{Message}
use Rattle.match_rule.specs.FixedTexts.{texts_of, AreFound}
use Rattle.entry_table.specs.declared.entry.Entry.{Entry}
use Rattle.entry_table.specs.declared.entry.Filter.{Filter}
use Rattle.entry_table.specs.declared.entry.Filter.TheVariants.{Rule, Attached}
use Rattle.entry_table.specs.Namespaces.{AreInside}
use Rattle.entry_table.specs.OfferedEntries.{texts_fixed, namespaces_fixed, OfferedWhereItHolds, AreOffered}
use Rattle.program_table.specs.Registrations.{Registrations}
use Rattle.program_table.specs.State.{State}
use Rattle.program_table.specs.Recipients.{FilterMatches, IsRecipient}
use Rattle.program_table.specs.Candidates.{is_text_found, is_candidate, candidates}
use Rattle.fan_out.specs.Marking.{MatchesAmong}
use Rattle.fan_out.proofs.Places.{contains_here, contains_later, contains_cases, contains_none}

matches_offered : (r : Registrations) (sender : Option ℕ) (m : Message) (filter : Filter) → OfferedWhereItHolds → FilterMatches r sender m filter → AreFound (texts_fixed filter) (texts_of m) × AreInside (namespaces_fixed filter) (texts_of m)
matches_offered r sender m (Rule compiled) law matches = law compiled.rule m _ matches
matches_offered r sender m (Attached attached) law matches = matches.0

module _ {M : Type 0} where
  pub among_offered : (s : State M) (sender : Option ℕ) (m : Message) (offers : List Entry) (n : ℕ) → OfferedWhereItHolds → AreOffered s.registrations.entries (texts_of m) offers → (MatchesAmong s sender m offers n ↔ IsRecipient s sender m n)
  among_offered s sender m offers n found are = (
    (λ (e, there, of, matches). (e, ((are.exact e).0 there).0, of, matches)),
    (λ (e, there, of, matches). (let fits = matches_offered s.registrations sender m e.filter found matches in (e, (are.exact e).1 (there, fits), of, matches))),
  )

text_found : (asked found : Option (List ℕ)) → IfSome asked (λ text. found ≡ Some text) → is_text_found asked found ≡ true
text_found None found h = refl
text_found (Some text) found h = rw h ((bytes_eq-Decides text text).1 refl)

offered_candidate : (m : Message) (filter : Filter) → AreFound (texts_fixed filter) (texts_of m) → is_candidate m filter ≡ true
offered_candidate m (Rule compiled) found = and_from _ _ (text_found _ _ found.member) (text_found _ _ found.interface)
offered_candidate m (Attached attached) found = refl

kept_in : {X : Type 0} (keep : X → Bool) (x : X) (xs : List X) → Contains xs x → keep x ≡ true → Contains (filter keep xs) x
kept_in keep x [] there e = there
kept_in keep x (y ∷ xs) there e = elim (contains_cases y x xs there) [
  | inl same ↦ rw (ap keep same ∙ e) (subst (λ (z : _). Contains (y ∷ filter keep xs) z) same (contains_here y (filter keep xs)))
  | inr later ↦ go (keep y) (kept_in keep x xs later e)
]
  where
    go : (b : Bool) → Contains (filter keep xs) x → Contains (cond b (y ∷ filter keep xs) (filter keep xs)) x
    go true rest = contains_later y x (filter keep xs) rest
    go false rest = rest

abbrev ids : List Entry → List ℕ
ids entries = map (λ (e : Entry). e.id) entries

id_in : (e : Entry) (entries : List Entry) → Contains entries e → Contains (ids entries) e.id
id_in e [] there = absurd (contains_none e there)
id_in e (f ∷ entries) there = elim (contains_cases f e entries there) [
  | inl same ↦ subst (λ (n : ℕ). Contains (f.id ∷ ids entries) n) (ap (λ (x : Entry). x.id) same) (contains_here f.id (ids entries))
  | inr later ↦ contains_later f.id e.id (ids entries) (id_in e entries later)
]

in_ids : (n : ℕ) (entries : List Entry) → Contains (ids entries) n → (e : Entry) × Contains entries e × (e.id ≡ n)
in_ids n [] there = absurd (contains_none n there)
in_ids n (f ∷ entries) there = elim (contains_cases f.id n (ids entries) there) [
  | inl same ↦ (f, contains_here f entries, same)
  | inr later ↦ let found = in_ids n entries later in (found.0, contains_later f found.0 entries found.1, found.2)
]

same_numbers : IsEquivalence nat_eq
same_numbers = record {
  refl = λ x. eq-eqb x x refl;
  symm = λ x y. symmetric x y;
  congr = λ x y z e. ap (λ (n : ℕ). nat_eq n z) (eqb-true x y e);
}
  where
    symmetric : (x y : ℕ) → nat_eq x y ≡ nat_eq y x
    symmetric x y = grind (arith, nat_tests)

ids_apart : (entries : List Entry) → AllPairs (λ (e f : Entry). e.id ≢ f.id) entries → (i j : ℕ) (d : ℕ) → i < j → j < length (ids entries) → nat_eq (get_or (ids entries) i d) (get_or (ids entries) j d) ≡ false
ids_apart [] once i j d less within = absurd (omega arith)
ids_apart (e ∷ entries) once i j d less within =
    let same = length-map (e ∷ entries) (λ (x : Entry). x.id) in
    rw (get_or-map (λ (x : Entry). x.id) (e ∷ entries) i e d (omega arith), get_or-map (λ (x : Entry). x.id) (e ∷ entries) j e d (omega arith))
    (ne_eqb _ _ (once i j e less (omega arith)))

-- entries with different ids, each of which is among others, are no more than those
few_among : (some others : List Entry) → AllPairs (λ (e f : Entry). e.id ≢ f.id) some → ((e : Entry) → Contains some e → Contains others e) → length some ≤ length others
few_among some others once among =
    let few = length-le_from_is_member {eq = nat_eq} same_numbers (ids some) (ids others) (IsDistinct-from_apart nat_eq (ids some) (ids_apart some once)) (λ n member.
    let found = in_ids n some (Contains-from_any {eq = nat_eq} (λ x y e. eqb-true x y e) n (ids some) member) in
    list_any-from_Contains {eq = nat_eq} same_numbers n (ids others) (subst (λ (k : ℕ). Contains (ids others) k) found.2 (id_in found.0 others (among found.0 found.1)))) in
    omega (arith, few, length-map some (λ (x : Entry). x.id), length-map others (λ (x : Entry). x.id))

module _ {M : Type 0} where
  pub offered_few : (s : State M) (m : Message) (offers : List Entry) → AreOffered s.registrations.entries (texts_of m) offers → length offers ≤ length (candidates s m)
  offered_few s m offers are =
      few_among offers (candidates s m) are.once (λ e there.
      let of = (are.exact e).0 there in
      kept_in (λ (x : Entry). is_candidate m x.filter) e s.registrations.entries of.0 (offered_candidate m e.filter of.1.0))
