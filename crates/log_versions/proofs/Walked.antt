-- One walk along the opposite pairs decides the pairs and the hints.
use Rattle.std.proofs.Common.{◌≡◌, ℕ, ◌⊎◌, inl, inr, List, [], ◌∷◌, refl, sym, ap, ◌∙◌, subst, Bool, true, false, true≢false, not, ◌&&◌, ◌==◌, map, filter, drop, cond, All, AllPairs, Contains, None, if◌then◌else◌}
use Rattle.std.specs.List.{list_all}
use Rattle.std.proofs.lemmas.Bool.{eqb-true, eq-eqb}
use Rattle.std.proofs.lemmas.List.Elements.{All-nil, All-cons, All-head, All-tail}
use Rattle.exact_field.specs.Rational.{ℚ}
use Rattle.polyhedra.specs.LiveList.{Numbered, LivePair, is_uncovered_live}
use Rattle.polyhedra.proofs.Lists.{Contains-here, Contains-there, Contains-cases, Contains-nil}
use Rattle.polyhedra.proofs.Members.{all_of_members, member_of, Contains-map_source, Contains-filter_source, pairs-nil, pairs-cons, pairs-head, pairs-tail}
use Rattle.polyhedra.proofs.Tests.{both_true, both_hold, list_all-true, true-list_all, same_tests}
use Rattle.word_lines.specs.declared.part.LogPair.{LogPair}
use Rattle.log_rules.specs.Live.{required_pairs}
use Rattle.log_versions.specs.Hints.{opposite_pairs, named_pair, same_pair, lists, pairs_rise, is_hint, are_hints}
use Rattle.log_versions.specs.Walk.{is_next, next_covers, walk, all_listed, all_hinted, WalkDecides}
use Rattle.log_versions.proofs.HintedPairs.{Before, never_before, before_through, listed_is, lists_passes, opposite_rise, required_names, names_required}
use Rattle.log_versions.proofs.WrittenMeets.{rise_says, rise_passes}

same_is : (p q : LogPair) → same_pair p q ≡ true → p ≡ q
same_is p q h =
    let b = both_true (p.plus == q.plus) (p.minus == q.minus) h in
    λ i. record { plus = eqb-true p.plus q.plus b.0 i; minus = eqb-true p.minus q.minus b.1 i }

same_self : (p : LogPair) → same_pair p p ≡ true
same_self p = both_hold (p.plus == p.plus) (p.minus == p.minus) (eq-eqb p.plus p.plus refl) (eq-eqb p.minus p.minus refl)

and_assoc : (a b c : Bool) → ((a && b) && c) ≡ (a && (b && c))
and_assoc true b c = refl
and_assoc false b c = refl

and_false : (a : Bool) → (a && false) ≡ false
and_false true = refl
and_false false = refl

module _ (rows : List (List ℚ)) (live : List Numbered) where
  -- the names of those of some pairs that no third generator covers
  abbrev Free : List LivePair → List LogPair
  Free opposite = map named_pair (filter (is_uncovered_live rows live) opposite)

  -- the pairs rise by their names
  abbrev Rising : List LivePair → Type 0
  Rising opposite = AllPairs (λ a b. Before (named_pair a) (named_pair b)) opposite

  -- a name among those of a list stands after that of the pair before the list
  named_after : (o : LivePair) (opposite : List LivePair) (p : LogPair) → Rising (o ∷ opposite) → Contains (Free opposite) p → Before (named_pair o) p
  named_after o opposite p rise c =
      let s : (x : LivePair) × Contains (filter (is_uncovered_live rows live) opposite) x × (named_pair x ≡ p) =
      Contains-map_source named_pair (filter (is_uncovered_live rows live) opposite) p c in
      let m : Contains opposite s.0 = (Contains-filter_source (is_uncovered_live rows live) opposite s.0 s.1).0 in
      subst (λ (q : LogPair). Before (named_pair o) q) s.2
      (member_of (λ b. Before (named_pair o) (named_pair b)) opposite s.0 (pairs-head (λ a b. Before (named_pair a) (named_pair b)) o opposite rise) m)

  -- one of the first list is the first, uncovered, or one of the others
  free_cases : (o : LivePair) (opposite : List LivePair) (p : LogPair) → Contains (Free (o ∷ opposite)) p →
      ((named_pair o ≡ p) × (is_uncovered_live rows live o ≡ true)) ⊎ Contains (Free opposite) p
  free_cases o opposite p c = go (is_uncovered_live rows live o) c
    where
      go : (b : Bool) → Contains (map named_pair (cond b (o ∷ filter (is_uncovered_live rows live) opposite) (filter (is_uncovered_live rows live) opposite))) p →
          ((named_pair o ≡ p) × (b ≡ true)) ⊎ Contains (Free opposite) p
      go false d = inr d
      go true d = by (Contains-cases (named_pair o) (Free opposite) p d)
        where
          by : (named_pair o ≡ p) ⊎ Contains (Free opposite) p → ((named_pair o ≡ p) × (true ≡ true)) ⊎ Contains (Free opposite) p
          by (inl e) = inl (e, refl)
          by (inr e) = inr e

  free_there : (o : LivePair) (opposite : List LivePair) (p : LogPair) → Contains (Free opposite) p → Contains (Free (o ∷ opposite)) p
  free_there o opposite p c = go (is_uncovered_live rows live o)
    where
      go : (b : Bool) → Contains (map named_pair (cond b (o ∷ filter (is_uncovered_live rows live) opposite) (filter (is_uncovered_live rows live) opposite))) p
      go false = c
      go true = Contains-there (named_pair o) (Free opposite) p c

  free_here : (o : LivePair) (opposite : List LivePair) → is_uncovered_live rows live o ≡ true → Contains (Free (o ∷ opposite)) (named_pair o)
  free_here o opposite e = subst (λ (b : Bool). Contains (map named_pair (cond b (o ∷ filter (is_uncovered_live rows live) opposite) (filter (is_uncovered_live rows live) opposite))) (named_pair o))
      (sym e) (Contains-here (named_pair o) (Free opposite) (named_pair o) refl)

  -- what a walk that ends with all pairs says of them
  abbrev AreRight : List LivePair → List LogPair → Type 0
  AreRight opposite pairs = AllPairs Before pairs × All (λ p. Contains (Free opposite) p) pairs

  abbrev Ends : List LivePair → List LogPair → List ℕ → Bool → Type 0
  Ends opposite pairs hints right = all_listed (walk rows live opposite pairs hints right) ≡ true

  sound : (opposite : List LivePair) (pairs : List LogPair) (hints : List ℕ) (right : Bool) → Rising opposite → Ends opposite pairs hints right → AreRight opposite pairs
  sound [] [] hints right rise h = (pairs-nil Before, All-nil (λ p. Contains (Free []) p))
  sound [] (p ∷ pairs) hints right rise h = absurd (true≢false (sym h))
  sound (o ∷ opposite) [] hints right rise h = (pairs-nil Before, All-nil (λ p. Contains (Free (o ∷ opposite)) p))
  sound (o ∷ opposite) (p ∷ pairs) hints right rise h =
      go (same_pair p (named_pair o)) (is_uncovered_live rows live o) refl refl h
      (sound opposite pairs hints right (pairs-tail (λ a b. Before (named_pair a) (named_pair b)) o opposite rise))
      (sound opposite (p ∷ pairs) (drop 1 hints) (right && next_covers rows live o hints) (pairs-tail (λ a b. Before (named_pair a) (named_pair b)) o opposite rise))
    where
      go : (b u : Bool) → same_pair p (named_pair o) ≡ b → is_uncovered_live rows live o ≡ u →
          all_listed (if b then (if u then walk rows live opposite pairs hints right else None)
          else walk rows live opposite (p ∷ pairs) (drop 1 hints) (right && next_covers rows live o hints)) ≡ true →
          (Ends opposite pairs hints right → AreRight opposite pairs) →
          (Ends opposite (p ∷ pairs) (drop 1 hints) (right && next_covers rows live o hints) → AreRight opposite (p ∷ pairs)) → AreRight (o ∷ opposite) (p ∷ pairs)
      go true false e f k again other = absurd (true≢false (sym k))
      go true true e f k again other =
          let r = again k in
          let name : p ≡ named_pair o = same_is p (named_pair o) e in (
            pairs-cons Before p pairs (all_of_members (Before p) pairs (λ q c. subst (λ (x : LogPair). Before x q) (sym name)
                (named_after o opposite q rise (member_of (λ x. Contains (Free opposite) x) pairs q r.1 c)))) r.0,
            All-cons (λ x. Contains (Free (o ∷ opposite)) x) p pairs (subst (λ (x : LogPair). Contains (Free (o ∷ opposite)) x) (sym name) (free_here o opposite f))
                (all_of_members (λ x. Contains (Free (o ∷ opposite)) x) pairs (λ q c. free_there o opposite q (member_of (λ x. Contains (Free opposite) x) pairs q r.1 c))),
          )
      go false u e f k again other =
          let r = other k in (
            r.0,
            all_of_members (λ x. Contains (Free (o ∷ opposite)) x) (p ∷ pairs) (λ q c. free_there o opposite q (member_of (λ x. Contains (Free opposite) x) (p ∷ pairs) q r.1 c)),
          )

  complete : (opposite : List LivePair) (pairs : List LogPair) (hints : List ℕ) (right : Bool) → Rising opposite → AreRight opposite pairs → Ends opposite pairs hints right
  complete [] [] hints right rise r = refl
  complete [] (p ∷ pairs) hints right rise r = absurd (Contains-nil p (All-head (λ x. Contains (Free []) x) p pairs r.1))
  complete (o ∷ opposite) [] hints right rise r =
      complete opposite [] (drop 1 hints) (right && next_covers rows live o hints) (pairs-tail (λ a b. Before (named_pair a) (named_pair b)) o opposite rise)
      (pairs-nil Before, All-nil (λ p. Contains (Free opposite) p))
  complete (o ∷ opposite) (p ∷ pairs) hints right rise r =
      go (same_pair p (named_pair o)) refl (free_cases o opposite p (All-head (λ x. Contains (Free (o ∷ opposite)) x) p pairs r.1))
      (complete opposite pairs hints right (pairs-tail (λ a b. Before (named_pair a) (named_pair b)) o opposite rise))
      (complete opposite (p ∷ pairs) (drop 1 hints) (right && next_covers rows live o hints) (pairs-tail (λ a b. Before (named_pair a) (named_pair b)) o opposite rise))
    where
      -- what comes after a pair of the rest, or after the first, is in the rest
      rest_of : (q : LogPair) → Contains (Free (o ∷ opposite)) q → Before (named_pair o) q → Contains (Free opposite) q
      rest_of q c b = by (free_cases o opposite q c)
        where
          by : ((named_pair o ≡ q) × (is_uncovered_live rows live o ≡ true)) ⊎ Contains (Free opposite) q → Contains (Free opposite) q
          by (inl e) = absurd (never_before q (subst (λ (x : LogPair). Before x q) e.0 b))
          by (inr e) = e

      later : (q : LogPair) → Contains pairs q → Before p q
      later q c = member_of (Before p) pairs q (pairs-head Before p pairs r.0) c

      go : (b : Bool) → same_pair p (named_pair o) ≡ b → ((named_pair o ≡ p) × (is_uncovered_live rows live o ≡ true)) ⊎ Contains (Free opposite) p →
          (AreRight opposite pairs → Ends opposite pairs hints right) →
          (AreRight opposite (p ∷ pairs) → Ends opposite (p ∷ pairs) (drop 1 hints) (right && next_covers rows live o hints)) →
          all_listed (if b then (if is_uncovered_live rows live o then walk rows live opposite pairs hints right else None)
          else walk rows live opposite (p ∷ pairs) (drop 1 hints) (right && next_covers rows live o hints)) ≡ true
      go true e (inr m) again other =
          absurd (never_before p (subst (λ (x : LogPair). Before x p) (sym (same_is p (named_pair o) e)) (named_after o opposite p rise m)))
      go true e (inl f) again other =
          subst (λ (u : Bool). all_listed (if u then walk rows live opposite pairs hints right else None) ≡ true) (sym f.1)
          (again (
            pairs-tail Before p pairs r.0,
            all_of_members (λ x. Contains (Free opposite) x) pairs (λ q c. rest_of q
                (member_of (λ x. Contains (Free (o ∷ opposite)) x) pairs q (All-tail (λ x. Contains (Free (o ∷ opposite)) x) p pairs r.1) c)
                (subst (λ (x : LogPair). Before x q) (sym f.0) (later q c))),
          ))
      go false e (inl f) again other = absurd (true≢false (sym (ap (λ (x : LogPair). same_pair p x) f.0 ∙ same_self p) ∙ e))
      go false e (inr m) again other = other (
        r.0,
        All-cons (λ x. Contains (Free opposite) x) p pairs m (all_of_members (λ x. Contains (Free opposite) x) pairs (λ q c. rest_of q
            (member_of (λ x. Contains (Free (o ∷ opposite)) x) pairs q (All-tail (λ x. Contains (Free (o ∷ opposite)) x) p pairs r.1) c)
            (before_through (named_pair o) p q (named_after o opposite p rise m) (later q c)))),
      )

  -- ---- hints
  -- those of the pairs that are not listed
  abbrev Unlisted : List LogPair → List LivePair → List LivePair
  Unlisted pairs opposite = filter (λ o. not (lists pairs (named_pair o))) opposite

  filter_same : (test test' : LivePair → Bool) (xs : List LivePair) → ((x : LivePair) → Contains xs x → test x ≡ test' x) → filter test xs ≡ filter test' xs
  filter_same test test' [] h = refl
  filter_same test test' (x ∷ xs) h =
      ap (λ (b : Bool). cond b (x ∷ filter test xs) (filter test xs)) (h x (Contains-here x xs x refl))
      ∙ ap (λ (ys : List LivePair). cond (test' x) (x ∷ ys) ys) (filter_same test test' xs (λ y c. h y (Contains-there x xs y c)))

  not_listed : (pairs : List LogPair) (q : LogPair) → (Contains pairs q → ⊥) → lists pairs q ≡ false
  not_listed pairs q h = go (lists pairs q) refl
    where
      go : (b : Bool) → lists pairs q ≡ b → lists pairs q ≡ false
      go true e = absurd (h (listed_is pairs q e))
      go false e = e

  counted : (opposite : List LivePair) (pairs : List LogPair) (hints : List ℕ) (right : Bool) → Rising opposite → Ends opposite pairs hints right →
      all_hinted (walk rows live opposite pairs hints right) ≡ (right && are_hints rows live (Unlisted pairs opposite) hints)
  counted [] [] [] right rise h = refl
  counted [] [] (k ∷ hints) right rise h = refl
  counted [] (p ∷ pairs) hints right rise h = absurd (true≢false (sym h))
  counted (o ∷ opposite) pairs hints right rise h =
      go (is_next pairs (named_pair o)) (is_uncovered_live rows live o) refl h
      (counted opposite (drop 1 pairs) hints right tail)
      (counted opposite pairs (drop 1 hints) (right && next_covers rows live o hints) tail)
    where
      tail : Rising opposite
      tail = pairs-tail (λ a b. Before (named_pair a) (named_pair b)) o opposite rise

      ahead : (x : LivePair) → Contains opposite x → Before (named_pair o) (named_pair x)
      ahead x c = member_of (λ b. Before (named_pair o) (named_pair b)) opposite x (pairs-head (λ a b. Before (named_pair a) (named_pair b)) o opposite rise) c

      -- the pair is the next listed one
      listed_now : (ps : List LogPair) → is_next ps (named_pair o) ≡ true → Unlisted ps (o ∷ opposite) ≡ Unlisted (drop 1 ps) opposite
      listed_now [] e = absurd (true≢false (sym e))
      listed_now (p ∷ ps) e =
          let name : p ≡ named_pair o = same_is p (named_pair o) e in
          let here : lists (p ∷ ps) (named_pair o) ≡ true = lists_passes (p ∷ ps) (named_pair o) (Contains-here p ps (named_pair o) name) in
          ap (λ (b : Bool). cond (not b) (o ∷ Unlisted (p ∷ ps) opposite) (Unlisted (p ∷ ps) opposite)) here
          ∙ filter_same (λ x. not (lists (p ∷ ps) (named_pair x))) (λ x. not (lists ps (named_pair x))) opposite
          (λ x c. ap not (same_tests (lists (p ∷ ps) (named_pair x)) (lists ps (named_pair x))
          (λ t. by x c (Contains-cases p ps (named_pair x) (listed_is (p ∷ ps) (named_pair x) t)))
          (λ t. lists_passes (p ∷ ps) (named_pair x) (Contains-there p ps (named_pair x) (listed_is ps (named_pair x) t)))))
        where
          by : (x : LivePair) → Contains opposite x → (p ≡ named_pair x) ⊎ Contains ps (named_pair x) → lists ps (named_pair x) ≡ true
          by x c (inl f) = absurd (never_before (named_pair x) (subst (λ (q : LogPair). Before q (named_pair x)) (sym (same_is p (named_pair o) e) ∙ f) (ahead x c)))
          by x c (inr m) = lists_passes ps (named_pair x) m

      -- the pair is not listed, since all listed ones are further on
      skipped : Ends opposite pairs (drop 1 hints) (right && next_covers rows live o hints) → Unlisted pairs (o ∷ opposite) ≡ o ∷ Unlisted pairs opposite
      skipped k =
          let r : AreRight opposite pairs = sound opposite pairs (drop 1 hints) (right && next_covers rows live o hints) tail k in
          ap (λ (b : Bool). cond (not b) (o ∷ Unlisted pairs opposite) (Unlisted pairs opposite))
          (not_listed pairs (named_pair o) (λ c. never_before (named_pair o) (named_after o opposite (named_pair o) rise (member_of (λ x. Contains (Free opposite) x) pairs (named_pair o) r.1 c))))

      -- one hint
      one : (hs : List ℕ) → ((right && next_covers rows live o hs) && are_hints rows live (Unlisted pairs opposite) (drop 1 hs))
          ≡ (right && are_hints rows live (o ∷ Unlisted pairs opposite) hs)
      one [] = ap (λ (b : Bool). b && are_hints rows live (Unlisted pairs opposite) []) (and_false right) ∙ sym (and_false right)
      one (k ∷ hs) = and_assoc right (is_hint rows live o k) (are_hints rows live (Unlisted pairs opposite) hs)

      go : (b u : Bool) → is_next pairs (named_pair o) ≡ b →
          all_listed (if b then (if u then walk rows live opposite (drop 1 pairs) hints right else None)
          else walk rows live opposite pairs (drop 1 hints) (right && next_covers rows live o hints)) ≡ true →
          (Ends opposite (drop 1 pairs) hints right → all_hinted (walk rows live opposite (drop 1 pairs) hints right) ≡ (right && are_hints rows live (Unlisted (drop 1 pairs) opposite) hints)) →
          (Ends opposite pairs (drop 1 hints) (right && next_covers rows live o hints) → all_hinted (walk rows live opposite pairs (drop 1 hints) (right && next_covers rows live o hints))
          ≡ ((right && next_covers rows live o hints) && are_hints rows live (Unlisted pairs opposite) (drop 1 hints))) →
          all_hinted (if b then (if u then walk rows live opposite (drop 1 pairs) hints right else None)
          else walk rows live opposite pairs (drop 1 hints) (right && next_covers rows live o hints))
          ≡ (right && are_hints rows live (Unlisted pairs (o ∷ opposite)) hints)
      go true false e k again other = absurd (true≢false (sym k))
      go true true e k again other = again k ∙ ap (λ (os : List LivePair). right && are_hints rows live os hints) (sym (listed_now pairs e))
      go false u e k again other = other k ∙ one hints ∙ ap (λ (os : List LivePair). right && are_hints rows live os hints) (sym (skipped k))

pub walk_decides : WalkDecides
walk_decides rows list row pairs hints rising =
    let rise = opposite_rise list row rising in
    let required : List LogPair = required_pairs rows list.live row in
    record {
      listed = same_tests (all_listed (walk rows list.live (opposite_pairs list.live row) pairs hints true)) (pairs_rise pairs && list_all (lists required) pairs)
          (λ h. let r = sound rows list.live (opposite_pairs list.live row) pairs hints true rise h in
          both_hold (pairs_rise pairs) (list_all (lists required) pairs) (rise_passes pairs r.0)
          (true-list_all (lists required) pairs (all_of_members (λ p. lists required p ≡ true) pairs
          (λ p c. lists_passes required p (names_required rows list row p (member_of (λ q. Contains (Free rows list.live (opposite_pairs list.live row)) q) pairs p r.1 c))))))
          (λ h. let b = both_true (pairs_rise pairs) (list_all (lists required) pairs) h in
          complete rows list.live (opposite_pairs list.live row) pairs hints true rise (
            rise_says pairs b.0,
            all_of_members (λ q. Contains (Free rows list.live (opposite_pairs list.live row)) q) pairs (λ p c. required_names rows list row p (listed_is required p (member_of (λ q. lists required q ≡ true) pairs p (list_all-true (lists required) pairs b.1) c))),
          ));
      hinted = λ h. counted rows list.live (opposite_pairs list.live row) pairs hints true rise h;
    }
