use Rattle.std.proofs.Common.{◌≡◌, ℕ, ◌+◌, ◌<◌, List, ◌∷◌, ◌++◌, map, length, filter, drop, get_or, refl, sym, ap, ◌∙◌, subst, arith}
use Rattle.std.proofs.lemmas.List.{drop_all, length-map}
use Rattle.exact_field.specs.Rational.{ℚ, zero_ℚ, lt_ℚ, ◌<ℚ◌}
use Rattle.exact_field.specs.Vector.{dot}
use Rattle.polyhedra.specs.LiveList.{Numbered, LivePair}
use Rattle.double_descr.specs.State.{live_of, numbered_of}
use Rattle.double_descr.specs.Making.{AreValuesAt, IsMadeSoFar, negative_places, pair_at, with_negatives}
use Rattle.double_descr.specs.declared.generator.Generator.{Generator}
use Rattle.double_descr.proofs.ByRow.{within_sets}
use Rattle.double_descr.proofs.NegativePlaces.{IsPlaceOf, pair_of_place, place_of, places_count}
use Rattle.double_descr.proofs.made.meet_with.Goals as goal
use Rattle.lin_rows.proofs.Errors.{err_holds}

module _ {F : Type 0} (value : F → ℚ) (row : List ℚ) (gens : List (Generator F)) (vals : List F)
    (at_row : AreValuesAt value row gens vals) (below : List ℕ) (listed : below ≡ negative_places 0 (map value vals)) where
  listed_at : below ≡ negative_places 0 (map (λ (g : Numbered). dot row g.vector) (live_of value gens))
  listed_at = listed ∙ ap (negative_places 0) at_row

  count : (p : Numbered) → length (with_negatives row p (live_of value gens)) ≡ length below
  count p = length-map (filter (λ g. lt_ℚ (dot row g.vector) zero_ℚ) (live_of value gens)) (λ m. record { plus_side = p; minus_side = m })
      ∙ sym (ap length listed_at ∙ places_count (λ (g : Numbered). dot row g.vector) (live_of value gens) 0)

  module _ (p : Generator F) (k : ℕ) (l : k < length below) where
    at : IsPlaceOf (λ (g : Numbered). dot row g.vector) (live_of value gens) 0 (numbered_of value p) below (filter (λ g. lt_ℚ (dot row g.vector) zero_ℚ) (live_of value gens)) k
    at = subst (λ (b : List ℕ). IsPlaceOf (λ (g : Numbered). dot row g.vector) (live_of value gens) 0 (numbered_of value p) b (filter (λ g. lt_ℚ (dot row g.vector) zero_ℚ) (live_of value gens)) k)
        (sym listed_at) (place_of (λ (g : Numbered). dot row g.vector) (live_of value gens) 0 k (numbered_of value p) (subst (λ (b : List ℕ). k < length b) listed_at l))

    place_is : at.place ≡ get_or below k 0
    place_is = let h : get_or below k 0 ≡ 0 + at.place = at.is in omega (arith, h)

    inside : get_or below k 0 < length gens
    inside = subst (λ (i : ℕ). i < length gens) place_is (subst (λ (s : ℕ). at.place < s) (length-map gens (numbered_of value)) at.inside)

    negative : get_or (map value vals) (get_or below k 0) zero_ℚ <ℚ zero_ℚ
    negative = subst (λ (i : ℕ). get_or (map value vals) i zero_ℚ <ℚ zero_ℚ) place_is
        (subst (λ (vs : List ℚ). get_or vs at.place zero_ℚ <ℚ zero_ℚ) (sym at_row) at.below)

    -- the first candidate that is left
    first_left : (left : List LivePair) → drop k (with_negatives row (numbered_of value p) (live_of value gens)) ++ left
        ≡ pair_at value gens p (get_or below k 0) ∷ (drop (k + 1) (with_negatives row (numbered_of value p) (live_of value gens)) ++ left)
    first_left left = ap (λ l. l ++ left) (pair_of_place (numbered_of value p) (filter (λ g. lt_ℚ (dot row g.vector) zero_ℚ) (live_of value gens)) k
        (get_or (live_of value gens) at.place (numbered_of value p)) at.here)
        ∙ ap (λ i. record { plus_side = numbered_of value p; minus_side = get_or (live_of value gens) i (numbered_of value p) }
        ∷ (drop (k + 1) (with_negatives row (numbered_of value p) (live_of value gens)) ++ left)) place_is

pub loop-j-preserved : goal.loop-j-preserved
loop-j-preserved g c = record {
  bound = c.in_ok-meet_at.ensures.bound ∙ c.loop-j.invariant.bound;
  so_far = λ left h.
      let value = g.F.Field.value in
      let holds = g.F.Field.holds in
      let d = g.addition in
      let gens = c.args.generators.now in
      let vals = c.args.values.now in
      let p = c.args.plus.now in
      let P = c.requires.1.0 in
      let places = c.requires.1.1.1.0 in
      let k = c.loop-j.j-index in
      c.in_ok-meet_at.ensures.ok (drop (k + 1) (with_negatives d.row (numbered_of value p) (live_of value gens)) ++ left)
      (subst (λ (q : List LivePair). IsMadeSoFar value holds d gens q c.loop-j.so_far)
      (first_left value d.row gens vals P.at_row c.args.below.now places p k c.loop-j-test.true left)
      (c.loop-j.invariant.so_far left h));
}

pub meet_at-requires : goal.meet_at-requires
meet_at-requires g c κs within =
    let value = g.F.Field.value in
    let holds = g.F.Field.holds in
    let d = g.addition in
    let gens = c.args.generators.now in
    let vals = c.args.values.now in
    let p = c.args.plus.now in
    let P = c.requires.1.0 in
    let places = c.requires.1.1.1.0 in
    let k = c.loop-j.j-index in (
      within,
      (
        P,
        (
          c.requires.1.1.0,
          (
            c.loop-j.invariant.bound ∙ c.requires.1.1.1.1.0,
            (
              inside value d.row gens vals P.at_row c.args.below.now places p k c.loop-j-test.true,
              (
                negative value d.row gens vals P.at_row c.args.below.now places p k c.loop-j-test.true,
                (
                  c.requires.1.1.1.1.1,
                  λ m place within is two down closed. c.in_ok-possible.ensures (length d.row) d.rows gens m place c.requires.1.1.1.1.1.indexed two
                      (c.requires.1.1.1.1.1.reach m (place, within, sym is) down) within is closed,
                ),
              ),
            ),
          ),
        ),
      ),
    )

pub returns-in_err-meet_at-clause-left : goal.returns-in_err-meet_at-clause-left
returns-in_err-meet_at-clause-left g c = λ left h.
    let value = g.F.Field.value in
    let holds = g.F.Field.holds in
    let d = g.addition in
    let gens = c.args.generators.now in
    let vals = c.args.values.now in
    let p = c.args.plus.now in
    let P = c.requires.1.0 in
    let places = c.requires.1.1.1.0 in
    let k = c.loop-j.j-index in
    err_holds c.from_residual-in_err-meet_at.result c.in_err-meet_at.field-0.0 _ c.from_residual-in_err-meet_at.ensures.1
    (c.in_err-meet_at.ensures.left (drop (k + 1) (with_negatives d.row (numbered_of value p) (live_of value gens)) ++ left)
    (subst (λ (q : List LivePair). IsMadeSoFar value holds d gens q c.loop-j.so_far)
    (first_left value d.row gens vals P.at_row c.args.below.now places p k c.loop-j-test.true left)
    (c.loop-j.invariant.so_far left h)))

pub returns-clause-ok : goal.returns-clause-ok
returns-clause-ok g c = λ left h.
    let value = g.F.Field.value in
    let holds = g.F.Field.holds in
    let d = g.addition in
    let gens = c.args.generators.now in
    let vals = c.args.values.now in
    let p = c.args.plus.now in
    let P = c.requires.1.0 in
    let places = c.requires.1.1.1.0 in
    let k = c.loop-j.j-index in
    subst (λ (l : List LivePair). IsMadeSoFar value holds d gens (l ++ left) c.loop-j.so_far)
    (drop_all k (with_negatives d.row (numbered_of value p) (live_of value gens))
    (omega (arith, count value d.row gens vals P.at_row c.args.below.now places (numbered_of value p))))
    (c.loop-j.invariant.so_far left h)

pub possible_places-requires-clause-within : goal.possible_places-requires-clause-within
possible_places-requires-clause-within g c = within_sets c.args.generators.now c.args.search.now.reach c.args.search.now.by_row (length c.args.search.now.reach) (length c.args.search.now.all)
    c.requires.1.1.1.1.1.indexed.by_row refl c.requires.1.1.1.1.1.indexed.bound
