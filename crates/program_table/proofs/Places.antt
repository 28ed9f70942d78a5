-- What follows where the place of a connection is known.
use Rattle.std.proofs.Common.{◌≡◌, ◌≢◌, ℕ, zero, suc, ◌+◌, ◌<◌, ◌≤◌, ◌==◌, Bool, true, false, not, cond, List, [], ◌∷◌, ◌++◌, length, get_or, set, map, filter, Option, Some, None, refl, sym, ap, subst, ◌∙◌, arith, length-set}
use Rattle.std.specs.Prelude.{find, remove, is_some, slice_get, MatchOption, All}
use Rattle.std.specs.List.Sorted.{IsStrictlyIncreasing}
use Rattle.std.proofs.lemmas.Bool.{eq-eqb, ne_eqb}
use Rattle.std.proofs.lemmas.List.{get_or-map, length-map}
use Rattle.std.proofs.lemmas.List.Elements.{All-filter}
use Rattle.std.proofs.lemmas.List.Sums.{length-filter, count_by-le-length}
use Rattle.std.proofs.Math.Seq.{map-set_same}
use Rattle.program_table.specs.ConnectionList.{IsConnectionList}
use Rattle.std.proofs.lemmas.List.Kept.{AllPairs-from_increasing, IsStrictlyIncreasing-filter}
use Rattle.std.proofs.Math.Seq.{get_or-append_seam, set-append_seam}
use Rattle.program_table.specs.declared.connection.Connection.{Connection}
use Rattle.program_table.specs.Connections.{numbers_of, has_number, connection_of, one_more_if, with_command, without_connection, is_connected, commands_of, mailbox_of}
use Rattle.program_table.specs.Places.{HaveOtherNumbers, IsPlaceOf}

apart : (xs : List ℕ) (i j : ℕ) → IsStrictlyIncreasing xs → i < length xs → j < length xs → j ≢ i → get_or xs j 0 ≢ get_or xs i 0
apart xs i j h less within ne e = grind (arith, AllPairs-from_increasing xs h i j 0, AllPairs-from_increasing xs h j i 0)

-- numbers before a place are below this one, those from there on aren't, and the one there isn't it; so none is it
none_there : (xs : List ℕ) (n k : ℕ) → IsStrictlyIncreasing xs → ((j : ℕ) → j < k → get_or xs j 0 < n) → (k < length xs → n ≤ get_or xs k 0) → (k < length xs → get_or xs k 0 ≢ n) → (j : ℕ) → j < length xs → get_or xs j 0 ≢ n
none_there xs n k h below above here j less = grind (arith, below j, above, here, AllPairs-from_increasing xs h k j 0)

shorter_or_not : {X : Type 0} (f : X → ℕ) (n : ℕ) (x : X) (xs : List X) (ys : List ℕ) (b : Bool) → map f xs ≡ ys → map f (cond b (x ∷ xs) xs) ≡ cond b (f x ∷ ys) ys
shorter_or_not f n x xs ys true e = ap (λ (zs : List ℕ). f x ∷ zs) e
shorter_or_not f n x xs ys false e = e

module _ {M : Type 0} where
  pub find-differ : (n : ℕ) (cs ds : List (Connection M)) → HaveOtherNumbers n cs → find (has_number n) (cs ++ ds) ≡ find (has_number n) ds
  find-differ n [] ds h = refl
  find-differ n (c ∷ cs) ds h = rw (ne_eqb c.number n h.0) (find-differ n cs ds h.1)

  pub find-none : (n : ℕ) (cs : List (Connection M)) → HaveOtherNumbers n cs → connection_of n cs ≡ None
  find-none n [] h = refl
  find-none n (c ∷ cs) h = rw (ne_eqb c.number n h.0) (find-none n cs h.1)

  same_command : (c : Connection M) → one_more_if false c ≡ c
  same_command c = let e : c.commands + 0 ≡ c.commands = omega arith in ap (λ (k : ℕ). record { number = c.number; mailbox = c.mailbox; commands = k }) e

  pub with_command-differ : (n : ℕ) (cs : List (Connection M)) → HaveOtherNumbers n cs → with_command n cs ≡ cs
  with_command-differ n [] h = refl
  with_command-differ n (c ∷ cs) h = rw (ne_eqb c.number n h.0) (rw (with_command-differ n cs h.1) (ap (λ (d : Connection M). d ∷ cs) (same_command c)))

  pub without-differ : (n : ℕ) (cs : List (Connection M)) → HaveOtherNumbers n cs → without_connection n cs ≡ cs
  without-differ n [] h = refl
  without-differ n (c ∷ cs) h = rw (ne_eqb c.number n h.0) (ap (λ (ds : List (Connection M)). c ∷ ds) (without-differ n cs h.1))

  pub found_here : (n k : ℕ) (cs : List (Connection M)) (p : IsPlaceOf n cs k) → connection_of n cs ≡ Some p.here
  found_here n k cs p = rw p.parts (find-differ n p.front (p.here ∷ p.back) p.front_differs ∙ rw (eq-eqb p.here.number n p.number_is) refl)

  pub read_here : (n k : ℕ) (cs : List (Connection M)) (p : IsPlaceOf n cs k) (d : Connection M) → get_or cs k d ≡ p.here
  read_here n k cs p d = rw (p.parts, ← p.place_is) (get_or-append_seam p.front p.here p.back d)

  counted_from : (n : ℕ) (front back : List (Connection M)) (c : Connection M) → HaveOtherNumbers n front → HaveOtherNumbers n back → c.number ≡ n → with_command n (front ++ c ∷ back) ≡ front ++ one_more_if true c ∷ back
  counted_from n [] back c f b e = rw (eq-eqb c.number n e, with_command-differ n back b) refl
  counted_from n (d ∷ front) back c f b e = rw (ne_eqb d.number n f.0, counted_from n front back c f.1 b e) (ap (λ (x : Connection M). x ∷ (front ++ one_more_if true c ∷ back)) (same_command d))

  pub counted_here : (n k : ℕ) (cs : List (Connection M)) (p : IsPlaceOf n cs k) → with_command n cs ≡ set cs k (one_more_if true p.here)
  counted_here n k cs p = rw (p.parts, ← p.place_is) (counted_from n p.front p.back p.here p.front_differs p.back_differs p.number_is ∙ sym (set-append_seam p.front p.here p.back (one_more_if true p.here)))

  removed_from : (n : ℕ) (front back : List (Connection M)) (c : Connection M) → HaveOtherNumbers n front → HaveOtherNumbers n back → c.number ≡ n → without_connection n (front ++ c ∷ back) ≡ front ++ back
  removed_from n [] back c f b e = rw (eq-eqb c.number n e) (without-differ n back b)
  removed_from n (d ∷ front) back c f b e = rw (ne_eqb d.number n f.0) (ap (λ (ds : List (Connection M)). d ∷ ds) (removed_from n front back c f.1 b e))

  remove_seam : (front back : List (Connection M)) (c : Connection M) → remove (front ++ c ∷ back) (length front) ≡ front ++ back
  remove_seam [] back c = refl
  remove_seam (d ∷ front) back c = ap (λ (ds : List (Connection M)). d ∷ ds) (remove_seam front back c)

  pub removed_here : (n k : ℕ) (cs : List (Connection M)) (p : IsPlaceOf n cs k) → without_connection n cs ≡ remove cs k
  removed_here n k cs p = rw (p.parts, ← p.place_is) (removed_from n p.front p.back p.here p.front_differs p.back_differs p.number_is ∙ sym (remove_seam p.front p.back p.here))

  have_other : (n : ℕ) (cs : List (Connection M)) → ((k : ℕ) → k < length cs → get_or (numbers_of cs) k 0 ≢ n) → HaveOtherNumbers n cs
  have_other n [] h = tt
  have_other n (c ∷ cs) h = (h 0 (omega arith), have_other n cs (λ k less. h (suc k) (omega arith)))

  number_at : (cs : List (Connection M)) (k : ℕ) (d : Connection M) → k < length cs → get_or (numbers_of cs) k 0 ≡ (get_or cs k d).number
  number_at cs k d less = get_or-map (λ (x : Connection M). x.number) cs k d 0 less

  place_in : (n k : ℕ) (cs : List (Connection M)) (d : Connection M) → k < length cs → (get_or cs k d).number ≡ n → ((j : ℕ) → j < length cs → j ≢ k → get_or (numbers_of cs) j 0 ≢ n) → IsPlaceOf n cs k
  place_in n k [] d less e h = absurd (omega arith)
  place_in n zero (c ∷ cs) d less e h = record {
    front = [];
    here = c;
    back = cs;
    parts = refl;
    place_is = refl;
    number_is = e;
    front_differs = tt;
    back_differs = have_other n cs (λ j l. h (suc j) (omega arith) (omega arith));
  }
  place_in n (suc k) (c ∷ cs) d less e h =
      let p = place_in n k cs d (omega arith) e (λ j l ne. h (suc j) (omega arith) (omega arith)) in
      record {
        front = c ∷ p.front;
        here = p.here;
        back = p.back;
        parts = ap (λ (ds : List (Connection M)). c ∷ ds) p.parts;
        place_is = ap suc p.place_is;
        number_is = p.number_is;
        front_differs = (h 0 (omega arith) (omega arith), p.front_differs);
        back_differs = p.back_differs;
      }

  -- the connection of this number stands here
  pub place_found : (n k : ℕ) (cs : List (Connection M)) (d : Connection M) → IsStrictlyIncreasing (numbers_of cs) → k < length cs → (get_or cs k d).number ≡ n → IsPlaceOf n cs k
  place_found n k cs d h less e =
      let same : length (numbers_of cs) ≡ length cs = length-map cs (λ (x : Connection M). x.number) in
      place_in n k cs d less e (λ j l ne is. apart (numbers_of cs) k j h (omega arith) (omega arith) ne (is ∙ sym e ∙ sym (number_at cs k d less)))

  -- numbers before a place are below this one, those from there on aren't, and the first of those isn't it
  pub none_found : (n k : ℕ) (cs : List (Connection M)) → ((j : ℕ) → j < k → get_or (numbers_of cs) j 0 < n) → ((j : ℕ) → k ≤ j → j < length cs → n ≤ get_or (numbers_of cs) j 0) → IsStrictlyIncreasing (numbers_of cs) → (k < length cs → get_or (numbers_of cs) k 0 ≢ n) → HaveOtherNumbers n cs
  none_found n k cs below above h here =
      let same : length (numbers_of cs) ≡ length cs = length-map cs (λ (x : Connection M). x.number) in
      have_other n cs (λ j less. none_there (numbers_of cs) n k h below (λ within. above k (omega arith) (omega arith)) (λ within. here (omega arith)) j (omega arith))

  -- what a filter leaves rises as before
  pub rising_without : (n : ℕ) (cs : List (Connection M)) → numbers_of (without_connection n cs) ≡ filter (λ (m : ℕ). not (m == n)) (numbers_of cs)
  rising_without n [] = refl
  rising_without n (c ∷ cs) = shorter_or_not (λ (x : Connection M). x.number) n c (without_connection n cs) (filter (λ (m : ℕ). not (m == n)) (numbers_of cs)) (not (has_number n c)) (rising_without n cs)

  pub numbers-with_command : (n : ℕ) (cs : List (Connection M)) → numbers_of (with_command n cs) ≡ numbers_of cs
  numbers-with_command n [] = refl
  numbers-with_command n (c ∷ cs) = ap (λ (ms : List ℕ). c.number ∷ ms) (numbers-with_command n cs)

  pub not_there : (n k : ℕ) (cs : List (Connection M)) (d : Connection M) → k < length cs → (get_or cs k d).number ≢ n → get_or (numbers_of cs) k 0 ≢ n
  not_there n k cs d less ne e = ne (sym (number_at cs k d less) ∙ e)

  -- what a place, or none, tells of a number
  pub connected_at : (n : ℕ) (cs : List (Connection M)) (r : Option ℕ) → MatchOption r (HaveOtherNumbers n cs) (IsPlaceOf n cs) → is_some r ≡ is_connected n cs
  connected_at n cs None h = sym (ap is_some (find-none n cs h))
  connected_at n cs (Some k) p = sym (ap is_some (found_here n k cs p))

  pub commands_none : (n : ℕ) (cs : List (Connection M)) → HaveOtherNumbers n cs → commands_of n cs ≡ 0
  commands_none n cs h = rw (find-none n cs h) refl

  pub commands_here : (n k : ℕ) (cs : List (Connection M)) (d : Connection M) → IsPlaceOf n cs k → (get_or cs k d).commands ≡ commands_of n cs
  commands_here n k cs d p = rw (read_here n k cs p d, found_here n k cs p) refl

  pub mailbox_none : (n : ℕ) (cs : List (Connection M)) → HaveOtherNumbers n cs → mailbox_of n cs ≡ None
  mailbox_none n cs h = rw (find-none n cs h) refl

  pub mailbox_here : (n k : ℕ) (cs : List (Connection M)) (d : Connection M) → IsPlaceOf n cs k → Some (get_or cs k d).mailbox ≡ mailbox_of n cs
  mailbox_here n k cs d p = rw (read_here n k cs p d, found_here n k cs p) refl

  pub not_connected : (n : ℕ) (cs : List (Connection M)) → HaveOtherNumbers n cs → is_connected n cs ≡ true → ⊥
  not_connected n cs h e = let f = find-none n cs h in let g = ap is_some f in cc

  kept_numbers : (cs ds : List (Connection M)) (last : ℕ) → numbers_of ds ≡ numbers_of cs → length ds ≡ length cs → IsConnectionList (record { connections = cs; last = last }) → IsConnectionList (record { connections = ds; last = last })
  kept_numbers cs ds last e n h = record {
    rising = subst IsStrictlyIncreasing (sym e) h.rising;
    below_last = subst (λ (ns : List ℕ). All (λ m. m ≤ last) ns) (sym e) h.below_last;
    few = omega (arith, h.few, n);
  }

  -- the connection at a place has one more command
  pub counted_list : (n k last : ℕ) (cs : List (Connection M)) (c : Connection M) → c ≡ get_or cs k c → IsConnectionList (record { connections = cs; last = last }) → IsConnectionList (record { connections = set cs k (one_more_if true c); last = last })
  counted_list n k last cs c is h =
      kept_numbers cs (set cs k (one_more_if true c)) last (map-set_same (λ (x : Connection M). x.number) cs k (one_more_if true c) c (ap (λ (x : Connection M). x.number) is)) (length-set cs k (one_more_if true c)) h

  pub counted_at : (n k : ℕ) (cs : List (Connection M)) (c : Connection M) → IsPlaceOf n cs k → c ≡ get_or cs k c → set cs k (one_more_if true c) ≡ with_command n cs
  counted_at n k cs c p is =
      ap (λ (x : Connection M). set cs k (one_more_if true x)) (is ∙ read_here n k cs p c) ∙ sym (counted_here n k cs p)

  pub without_list : (n last : ℕ) (cs : List (Connection M)) → IsConnectionList (record { connections = cs; last = last }) → IsConnectionList (record { connections = without_connection n cs; last = last })
  without_list n last cs h = record {
    rising = subst IsStrictlyIncreasing (sym (rising_without n cs)) (IsStrictlyIncreasing-filter (λ (m : ℕ). not (m == n)) (numbers_of cs) h.rising);
    below_last = subst (λ (ns : List ℕ). All (λ m. m ≤ last) ns) (sym (rising_without n cs)) (All-filter (λ (m : ℕ). not (m == n)) (λ m. m ≤ last) (numbers_of cs) h.below_last);
    few = omega (arith, h.few, length-filter (λ (c : Connection M). not (has_number n c)) cs, count_by-le-length (λ (c : Connection M). not (has_number n c)) cs);
  }

  number_get : (front : List (Connection M)) (here : Connection M) (back : List (Connection M)) → slice_get (numbers_of (front ++ here ∷ back)) (length front) ≡ Some here.number
  number_get [] here back = refl
  number_get (c ∷ front) here back = number_get front here back

  pub number_here : (n k : ℕ) (cs : List (Connection M)) → IsPlaceOf n cs k → slice_get (numbers_of cs) k ≡ Some n
  number_here n k cs p = rw (p.parts, ← p.place_is) (number_get p.front p.here p.back ∙ ap (λ (m : ℕ). Some m) p.number_is)

  pub place_told : (n : ℕ) (cs : List (Connection M)) (r : Option ℕ) → MatchOption r (HaveOtherNumbers n cs) (IsPlaceOf n cs) → MatchOption r (is_connected n cs ≡ false) (λ place. slice_get (numbers_of cs) place ≡ Some n)
  place_told n cs None h = ap is_some (find-none n cs h)
  place_told n cs (Some k) p = number_here n k cs p
