-- What is kept of the vectors of a log, after one entry more.
use Rattle.std.proofs.Common.{◌≡◌, ℕ, zero, suc, ◌+◌, ◌<◌, List, [], ◌∷◌, ◌++◌, refl, sym, ap, ◌∙◌, subst, append-nil, arith, length, Bool, true, false, true≢false, not, ◌==◌, ◌&&◌, cond, if◌then◌else◌, nat_lt, lt-ltb, Option, None, Some, add-zero, add-one, length-append}
use Rattle.std.specs.BTreeMap.{BTreeMap, get, Updates, is_at}
use Rattle.std.specs.List.{filter_map, cons_option, count_by, sum_by}
use Rattle.std.proofs.lemmas.Bool.{ne_eqb}
use Rattle.std.proofs.lemmas.List.Elements.{filter_map-append}
use Rattle.std.proofs.lemmas.List.Sums.{sum_by-append}
use Rattle.frac128.specs.declared.vectors.Spot.{Spot}
use Rattle.deriv_log.specs.declared.entry.Entry.{Entry}
use Rattle.log_versions.specs.Upgrade.{body, same_spots, is_repeated, number_from}
use Rattle.log_upgrade.specs.Vectors.{cmp_keys}
use Rattle.log_upgrade.specs.Repeats.{AreStandings, standing_of, standing, place_of, with_place}
use Rattle.log_upgrade.specs.declared.repeats.Place.{Place}
use Rattle.log_upgrade.specs.declared.repeats.Place.TheVariants.{Own, First, Again}
use Rattle.log_upgrade.specs.declared.repeats.Repeats.{Repeats}
use Rattle.log_upgrade.specs.declared.repeats.Standing.{Standing}
use Rattle.log_upgrade.specs.declared.repeats.Standing.TheVariants.{Once, Several, Shared}
use Rattle.log_upgrade.specs.declared.vectors.VectorKey.{VectorKey}
use Rattle.log_upgrade.proofs.SameVectors.{same_decides, order_same}

-- ---- one entry more
counted : (all : List Entry) (e : Entry) (u v : List Spot) → body e ≡ Some u →
    count_by (same_spots v) (filter_map body (all ++ e ∷ [])) ≡ count_by (same_spots v) (filter_map body all) + cond (same_spots v u) 1 0
counted all e u v h =
    let test = λ (w : List Spot). cond (same_spots v w) 1 0 in
    let one : filter_map body (e ∷ []) ≡ u ∷ [] = last (body e) h in
    ap (λ (vs : List (List Spot)). sum_by test vs) (filter_map-append body all (e ∷ []) ∙ ap (λ (vs : List (List Spot)). filter_map body all ++ vs) one)
    ∙ sum_by-append test (filter_map body all) (u ∷ []) ∙ ap (λ (n : ℕ). sum_by test (filter_map body all) + n) (omega arith)
  where
    last : (o : Option (List Spot)) → o ≡ Some u → cons_option o [] ≡ u ∷ []
    last (Some w) i = cc
    last None i = absurd cc

-- what stands of a vector that stands in one entry more
abbrev pub met : Option Standing → Standing
met None = Once
met (Some s) = Several

unmet : (all : List Entry) (e : Entry) (u v : List Spot) → body e ≡ Some u → same_spots v u ≡ false → standing (all ++ e ∷ []) [] v ≡ standing all [] v
unmet all e u [] h k = refl
unmet all e u (s ∷ v) h k =
    ap (λ (n : ℕ). standing_of n 0)
    (counted all e u (s ∷ v) h ∙ ap (λ (b : Bool). count_by (same_spots (s ∷ v)) (filter_map body all) + cond b 1 0) k
    ∙ add-zero (count_by (same_spots (s ∷ v)) (filter_map body all)))

more_of : (n : ℕ) → standing_of (suc n) 0 ≡ Some (met (standing_of n 0))
more_of zero = refl
more_of (suc zero) = refl
more_of (suc (suc n)) = refl

met_again : (all : List Entry) (e : Entry) (s : Spot) (u : List Spot) → body e ≡ Some (s ∷ u) →
    standing (all ++ e ∷ []) [] (s ∷ u) ≡ Some (met (standing all [] (s ∷ u)))
met_again all e s u h =
    ap (λ (n : ℕ). standing_of n 0)
    (counted all e (s ∷ u) (s ∷ u) h
    ∙ ap (λ (b : Bool). count_by (same_spots (s ∷ u)) (filter_map body all) + cond b 1 0) ((same_decides (s ∷ u) (s ∷ u)).1 refl)
    ∙ add-one (count_by (same_spots (s ∷ u)) (filter_map body all)))
    ∙ more_of (count_by (same_spots (s ∷ u)) (filter_map body all))

met_here : (all : List Entry) (e : Entry) (u : List Spot) → body e ≡ Some u → (u ≡ [] → ⊥) →
    standing (all ++ e ∷ []) [] u ≡ Some (met (standing all [] u))
met_here all e [] h n = absurd (n refl)
met_here all e (s ∷ u) h n = met_again all e s u h

empty_met : (all : List Entry) (e : Entry) (v : List Spot) → body e ≡ Some [] → standing (all ++ e ∷ []) [] v ≡ standing all [] v
empty_met all e [] h = refl
empty_met all e (s ∷ v) h = unmet all e [] (s ∷ v) h refl

none_met : (all : List Entry) (e : Entry) (v : List Spot) → body e ≡ None → standing (all ++ e ∷ []) [] v ≡ standing all [] v
none_met all e [] h = refl
none_met all e (s ∷ v) h =
    ap (λ (vs : List (List Spot)). standing_of (count_by (same_spots (s ∷ v)) vs) 0)
    (filter_map-append body all (e ∷ []) ∙ ap (λ (o : Option (List Spot)). filter_map body all ++ cons_option o []) h ∙ append-nil (filter_map body all))

-- ---- a place and what is shared after it, by what stands of the vector
abbrev pub place_from : Option Standing → ℕ → Place
place_from None n = Own
place_from (Some Once) n = Own
place_from (Some Several) n = First (suc n)
place_from (Some (Shared k)) n = Again k

abbrev pub with_from : Option Standing → List (List Spot) → List Spot → List (List Spot)
with_from None vectors u = vectors
with_from (Some Once) vectors u = vectors
with_from (Some Several) vectors u = vectors ++ u ∷ []
with_from (Some (Shared k)) vectors u = vectors

two : (n : ℕ) → nat_lt 1 (suc (suc n)) ≡ true
two n = lt-ltb 1 (suc (suc n)) (omega arith)

place_by : (n k l : ℕ) → (if nat_lt 1 n then elim k as (λ _. Place) [ zero ↦ First (suc l) | suc j ↦ Again (suc j) ] else Own) ≡ place_from (standing_of n k) l
place_by zero k l = refl
place_by (suc zero) k l = refl
place_by (suc (suc n)) zero l = ap (λ (b : Bool). if b then First (suc l) else Own) (two n)
place_by (suc (suc n)) (suc k) l = ap (λ (b : Bool). if b then Again (suc k) else Own) (two n)

place_is : (all : List Entry) (vectors : List (List Spot)) (u : List Spot) → place_of all vectors u ≡ place_from (standing all vectors u) (length vectors)
place_is all vectors [] = refl
place_is all vectors (s ∷ u) = place_by (count_by (same_spots (s ∷ u)) (filter_map body all)) (number_from 1 (s ∷ u) vectors) (length vectors)

positive : (k : ℕ) → (suc k == 0) ≡ false
positive k = ne_eqb (suc k) 0 (λ e. absurd (omega (arith, e)))

with_by : (n k : ℕ) (vectors : List (List Spot)) (u : List Spot) →
    (if nat_lt 1 n && k == 0 then vectors ++ u ∷ [] else vectors) ≡ with_from (standing_of n k) vectors u
with_by zero k vectors u = refl
with_by (suc zero) k vectors u = refl
with_by (suc (suc n)) zero vectors u = ap (λ (b : Bool). if b && true then vectors ++ u ∷ [] else vectors) (two n)
with_by (suc (suc n)) (suc k) vectors u =
    ap (λ (b : Bool). if nat_lt 1 (suc (suc n)) && b then vectors ++ u ∷ [] else vectors) (positive k)
    ∙ ap (λ (b : Bool). if b && false then vectors ++ u ∷ [] else vectors) (two n)

with_is : (all : List Entry) (vectors : List (List Spot)) (u : List Spot) → with_place all vectors u ≡ with_from (standing all vectors u) vectors u
with_is all vectors [] = refl
with_is all vectors (s ∷ u) = with_by (count_by (same_spots (s ∷ u)) (filter_map body all)) (number_from 1 (s ∷ u) vectors) vectors (s ∷ u)

-- ---- one shared vector more
numbered : (k : ℕ) (v : List Spot) (vectors : List (List Spot)) (u : List Spot) →
    number_from (suc k) v (vectors ++ u ∷ []) ≡ elim (number_from (suc k) v vectors) [ zero ↦ cond (same_spots v u) (suc k + length vectors) 0 | suc j ↦ suc j ]
numbered k v [] u = alone (same_spots v u)
  where
    alone : (b : Bool) → ◌≡◌ {A = ℕ} (elim b [ true ↦ suc k | false ↦ 0 ]) (cond b (suc k + 0) 0)
    alone true = sym (add-zero (suc k))
    alone false = refl
numbered k v (w ∷ vectors) u = by_test (same_spots v w) (numbered (suc k) v vectors u)
  where
    sum : (j : ℕ) → suc (suc k) + j ≡ suc k + suc j
    sum j = omega arith

    by_test : (b : Bool) →
        number_from (suc (suc k)) v (vectors ++ u ∷ []) ≡
        elim (number_from (suc (suc k)) v vectors) [ zero ↦ cond (same_spots v u) (suc (suc k) + length vectors) 0 | suc j ↦ suc j ] →
        ◌≡◌ {A = ℕ} (elim b [ true ↦ suc k | false ↦ number_from (suc (suc k)) v (vectors ++ u ∷ []) ])
        (elim (elim b as (λ _. ℕ) [ true ↦ suc k | false ↦ number_from (suc (suc k)) v vectors ])
        [ zero ↦ cond (same_spots v u) (suc k + suc (length vectors)) 0 | suc j ↦ suc j ])
    by_test true i = refl
    by_test false i =
        i ∙ ap (λ (n : ℕ). elim (number_from (suc (suc k)) v vectors) as (λ _. ℕ) [ zero ↦ cond (same_spots v u) n 0 | suc j ↦ suc j ]) (sum (length vectors))

unshared : (all : List Entry) (vectors : List (List Spot)) (u v : List Spot) → same_spots v u ≡ false →
    standing all (vectors ++ u ∷ []) v ≡ standing all vectors v
unshared all vectors u [] h = refl
unshared all vectors u (s ∷ v) h =
    ap (λ (k : ℕ). standing_of (count_by (same_spots (s ∷ v)) (filter_map body all)) k)
    (numbered 0 (s ∷ v) vectors u
    ∙ ap (λ (b : Bool). elim (number_from 1 (s ∷ v) vectors) as (λ _. ℕ) [ zero ↦ cond b (1 + length vectors) 0 | suc j ↦ suc j ]) h
    ∙ same (number_from 1 (s ∷ v) vectors))
  where
    same : (n : ℕ) → ◌≡◌ {A = ℕ} (elim n [ zero ↦ 0 | suc j ↦ suc j ]) n
    same zero = refl
    same (suc j) = refl

shared_now : (all : List Entry) (vectors : List (List Spot)) (u : List Spot) → standing all vectors u ≡ Some Several →
    standing all (vectors ++ u ∷ []) u ≡ Some (Shared (suc (length vectors)))
shared_now all vectors [] h = absurd cc
shared_now all vectors (s ∷ u) h =
    let n : ℕ = count_by (same_spots (s ∷ u)) (filter_map body all) in
    let e : number_from 1 (s ∷ u) (vectors ++ (s ∷ u) ∷ []) ≡
    elim (number_from 1 (s ∷ u) vectors) as (λ _. ℕ) [ zero ↦ 1 + length vectors | suc j ↦ suc j ] =
    numbered 0 (s ∷ u) vectors (s ∷ u)
    ∙ ap (λ (b : Bool). elim (number_from 1 (s ∷ u) vectors) as (λ _. ℕ) [ zero ↦ cond b (1 + length vectors) 0 | suc j ↦ suc j ]) ((same_decides (s ∷ u) (s ∷ u)).1 refl) in
    ap (standing_of n) e ∙ go n (number_from 1 (s ∷ u) vectors) h
  where
    first : (n l : ℕ) → standing_of (suc (suc n)) (1 + l) ≡ Some (Shared (suc l))
    first n l = let e : 1 + l ≡ suc l = omega arith in rw e refl

    go : (n k : ℕ) → standing_of n k ≡ Some Several →
        standing_of n (elim k as (λ _. ℕ) [ zero ↦ 1 + length vectors | suc j ↦ suc j ]) ≡ Some (Shared (suc (length vectors)))
    go zero k i = absurd cc
    go (suc zero) k i = absurd cc
    go (suc (suc n)) zero i = first n (length vectors)
    go (suc (suc n)) (suc k) i = absurd cc

-- ---- the map
-- where one vector's standing is written, each standing is that of the new state
written : (old new : List Spot → Option Standing) (map after : BTreeMap VectorKey Standing) (key : VectorKey) (s : Standing) →
    Updates cmp_keys map after key (Some s) → new key.spots.now ≡ Some s → ((v : List Spot) → same_spots v key.spots.now ≡ false → new v ≡ old v) →
    ((q : VectorKey) → get cmp_keys map q ≡ old q.spots.now) → (q : VectorKey) → get cmp_keys after q ≡ new q.spots.now
written old new map after key s h here others is q =
    h.0 q ∙ go (is_at (cmp_keys key) q) refl
  where
    same : is_at (cmp_keys key) q ≡ same_spots q.spots.now key.spots.now
    same = order_same key.spots.now q.spots.now

    go : (b : Bool) → is_at (cmp_keys key) q ≡ b → cond b (Some s) (get cmp_keys map q) ≡ new q.spots.now
    go true e = sym (ap new ((same_decides q.spots.now key.spots.now).0 (sym same ∙ e)) ∙ here)
    go false e = is q ∙ sym (others q.spots.now (sym same ∙ e))

-- ---- the value
pub without_vector : (all : List Entry) (e : Entry) (r : Repeats) → body e ≡ None → AreStandings all [] r → AreStandings (all ++ e ∷ []) [] r
without_vector all e r h a = record { standings = λ q. a.standings q ∙ sym (none_met all e q.spots.now h); shared = a.shared }

pub empty_vector : (all : List Entry) (e : Entry) (r : Repeats) → body e ≡ Some [] → AreStandings all [] r → AreStandings (all ++ e ∷ []) [] r
empty_vector all e r h a = record { standings = λ q. a.standings q ∙ sym (empty_met all e q.spots.now h); shared = a.shared }

pub one_vector : (all : List Entry) (e : Entry) (r : Repeats) (after : BTreeMap VectorKey Standing) (key : VectorKey) (s : Standing) →
    body e ≡ Some key.spots.now → (key.spots.now ≡ [] → ⊥) → Updates cmp_keys r.standings after key (Some s) →
    s ≡ met (get cmp_keys r.standings key) → AreStandings all [] r → AreStandings (all ++ e ∷ []) [] (record { standings = after; shared = r.shared })
one_vector all e r after key s h some written_at is a = record {
  standings = written (standing all []) (standing (all ++ e ∷ []) []) r.standings after key s written_at
      (met_here all e key.spots.now h some ∙ ap (λ (o : Option Standing). Some (met o)) (sym (a.standings key)) ∙ ap Some (sym is))
      (λ v other. unmet all e key.spots.now v h other) a.standings;
  shared = a.shared;
}

pub place_at : (all : List Entry) (vectors : List (List Spot)) (r : Repeats) (key : VectorKey) (o : Option Standing) →
    o ≡ get cmp_keys r.standings key → AreStandings all vectors r → place_of all vectors key.spots.now ≡ place_from o r.shared
place_at all vectors r key o h a =
    place_is all vectors key.spots.now
    ∙ ap (λ (p : Option Standing). place_from p (length vectors)) (sym (h ∙ a.standings key)) ∙ ap (place_from o) (sym a.shared)

pub same_shared : (all : List Entry) (vectors : List (List Spot)) (r : Repeats) (key : VectorKey) (o : Option Standing) →
    o ≡ get cmp_keys r.standings key → (o ≡ Some Several → ⊥) → AreStandings all vectors r → AreStandings all (with_place all vectors key.spots.now) r
same_shared all vectors r key o h n a =
    subst (λ (vs : List (List Spot)). AreStandings all vs r) (sym (with_is all vectors key.spots.now ∙ ap (λ (p : Option Standing). with_from p vectors key.spots.now) (sym (h ∙ a.standings key)) ∙ go o n)) a
  where
    go : (o : Option Standing) → (o ≡ Some Several → ⊥) → with_from o vectors key.spots.now ≡ vectors
    go None k = refl
    go (Some Once) k = refl
    go (Some Several) k = absurd (k refl)
    go (Some (Shared j)) k = refl

pub one_shared : (all : List Entry) (vectors : List (List Spot)) (r : Repeats) (after : BTreeMap VectorKey Standing) (key : VectorKey) →
    Some Several ≡ get cmp_keys r.standings key → Updates cmp_keys r.standings after key (Some (Shared (r.shared + 1))) →
    AreStandings all vectors r → AreStandings all (with_place all vectors key.spots.now) (record { standings = after; shared = r.shared + 1 })
one_shared all vectors r after key h written_at a =
    let u : List Spot = key.spots.now in
    let several : standing all vectors u ≡ Some Several = sym (h ∙ a.standings key) in
    let number : suc (length vectors) ≡ r.shared + 1 = ap suc (sym a.shared) ∙ sym (add-one r.shared) in
    subst (λ (vs : List (List Spot)). AreStandings all vs (record { standings = after; shared = r.shared + 1 }))
    (sym (with_is all vectors u ∙ ap (λ (p : Option Standing). with_from p vectors u) several))
    (record {
      standings = written (standing all vectors) (standing all (vectors ++ u ∷ [])) r.standings after key (Shared (r.shared + 1)) written_at
          (shared_now all vectors u several ∙ ap (λ (n : ℕ). Some (Shared n)) number) (λ v other. unshared all vectors u v other) a.standings;
      shared = omega (arith, a.shared, length-push vectors u);
    })
  where
    length-push : (vs : List (List Spot)) (u : List Spot) → length (vs ++ u ∷ []) ≡ length vs + 1
    length-push vs u = omega (arith, length-append vs (u ∷ []))
