-- The cone of some rows is that of the same rows in another order, and so are its generators.
use Rattle.std.proofs.Common.{◌≡◌, ℕ, ◌+◌, ◌-◌, ◌<◌, ◌≤◌, List, [], ◌∷◌, length, map, All, Bool, true, false, true≢false, refl, sym, ap, ◌∙◌, subst, arith, inl, inr, slice_index_or}
use Rattle.std.specs.Prelude.{Contains, not, ◌==◌, ◌||◌}
use Rattle.std.specs.List.{range_with_len}
use Rattle.std.proofs.lemmas.Bool.{eqb-true}
use Rattle.std.proofs.lemmas.List.Elements.{All-filter, All-from_get_or, All-get_or, Contains-append_cases, Contains-append_left, Contains-append_right, Contains-get_or}
use Rattle.std.proofs.lemmas.List.FromFn.{get_or-range_with_len, length-range_with_len}
use Rattle.exact_field.specs.Rational.{ℚ, zero_ℚ, ◌≤ℚ◌}
use Rattle.exact_field.specs.Vector.{dot}
use Rattle.polyhedra.specs.Cone.{HasFullRank, IsInCone}
use Rattle.polyhedra.specs.Hull.{IsExtremeDirection}
use Rattle.polyhedra.specs.LiveList.{LiveList, vectors}
use Rattle.polyhedra.specs.LiveSteps.{IsLive}
use Rattle.polyhedra.proofs.Generators.{described_are_distinct}
use Rattle.polyhedra.proofs.Lists.{Contains-here, Contains-there}
use Rattle.polyhedra.proofs.LiveSteps.{are_live}
use Rattle.polyhedra.proofs.Members.{Contains-filter, Contains-map, Contains-map_source, all_of_members, member_of}
use Rattle.tableaux.specs.Table.{Table, row_of}
use Rattle.tableaux.specs.Elimination.{AreIndependent}
use Rattle.log_rules.specs.Live.{contains}
use Rattle.cone_dual.specs.Generators.{AreGenerators, begun_with, others}

-- ---- numbers
-- a number is from 1 to n
abbrev pub IsPlace : ℕ → ℕ → Type 0
IsPlace n k = (1 ≤ k) × (k ≤ n)

pub range_places : (n : ℕ) → All (IsPlace n) (range_with_len 1 n)
range_places n = All-from_get_or (IsPlace n) (range_with_len 1 n) 0 (λ i l.
    let many : length (range_with_len 1 n) ≡ n = length-range_with_len 1 n in
    let inside : i < n = omega arith in
    subst (IsPlace n) (sym (get_or-range_with_len 1 n i 0 inside)) (omega arith, omega arith))

pub other_places : (n : ℕ) (picks : List ℕ) → All (IsPlace n) (others n picks)
other_places n picks = All-filter (λ k. not (contains picks k)) (IsPlace n) (range_with_len 1 n) (range_places n)

in_range : (n k : ℕ) → IsPlace n k → Contains (range_with_len 1 n) k
in_range n k p =
    let many : length (range_with_len 1 n) ≡ n = length-range_with_len 1 n in
    let inside : k - 1 < n = omega (arith, p.0, p.1) in
    let is : 1 + (k - 1) ≡ k = omega (arith, p.0) in
    subst (Contains (range_with_len 1 n)) (get_or-range_with_len 1 n (k - 1) 0 inside ∙ is)
    (Contains-get_or (range_with_len 1 n) (k - 1) 0 (omega (arith, inside, many)))

listed : (picks : List ℕ) (k : ℕ) → contains picks k ≡ true → Contains picks k
listed [] k h = absurd (true≢false (sym h))
listed (j ∷ picks) k h = go (j == k) refl h (listed picks k)
  where
    go : (b : Bool) → (j == k) ≡ b → contains (j ∷ picks) k ≡ true → (contains picks k ≡ true → Contains picks k) → Contains (j ∷ picks) k
    go true e h further = Contains-here j picks k (eqb-true j k e)
    go false e h further = Contains-there j picks k (further (sym (ap (λ (b : Bool). b || contains picks k) e) ∙ h))

-- ---- rows
module _ (rows : Table) (picks : List ℕ) (within : All (IsPlace (length rows)) picks) where
  row_listed : (k : ℕ) → IsPlace (length rows) k → Contains rows (row_of rows k)
  row_listed k p = Contains-get_or rows (k - 1) [] (omega (arith, p.0, p.1))

  of_places : (ks : List ℕ) → All (IsPlace (length rows)) ks → (r : List ℚ) → Contains (map (row_of rows) ks) r → Contains rows r
  of_places ks all r h =
      let k = Contains-map_source (row_of rows) ks r h in
      subst (Contains rows) k.2 (row_listed k.0 (member_of (IsPlace (length rows)) ks k.0 all k.1))

  pub begun_listed : (r : List ℚ) → Contains (begun_with picks rows) r → Contains rows r
  begun_listed r h = elim (Contains-append_cases (map (row_of rows) picks) (map (row_of rows) (others (length rows) picks)) r h) [
    | inl a ↦ of_places picks within r a
    | inr b ↦ of_places (others (length rows) picks) (other_places (length rows) picks) r b
  ]

  row_begun : (k : ℕ) → IsPlace (length rows) k → (b : Bool) → contains picks k ≡ b → Contains (begun_with picks rows) (row_of rows k)
  row_begun k p true e = Contains-append_left (map (row_of rows) picks) (map (row_of rows) (others (length rows) picks)) (row_of rows k)
      (Contains-map (row_of rows) picks k (listed picks k e))
  row_begun k p false e = Contains-append_right (map (row_of rows) picks) (map (row_of rows) (others (length rows) picks)) (row_of rows k)
      (Contains-map (row_of rows) (others (length rows) picks) k
      (Contains-filter (λ j. not (contains picks j)) (range_with_len 1 (length rows)) k (in_range (length rows) k p) (ap not e)))

  pub rows_begun : All (Contains (begun_with picks rows)) rows
  rows_begun = All-from_get_or (Contains (begun_with picks rows)) rows [] (λ i l.
      let back : i + 1 - 1 ≡ i = omega arith in
      subst (Contains (begun_with picks rows)) (ap (λ k. slice_index_or rows k []) back)
      (row_begun (i + 1) (omega arith, omega arith) (contains picks (i + 1)) refl))

-- ---- the rows as a whole
pub picked_places : (n : ℕ) (rows : Table) (picks : List ℕ) → AreIndependent n rows picks → All (IsPlace (length rows)) picks
picked_places n rows picks h = All-from_get_or (IsPlace (length rows)) picks 0
    (λ i l. (All-get_or (λ k. 1 ≤ k) picks i 0 l h.from_one, All-get_or (λ k. k ≤ length rows) picks i 0 l h.to_end))

-- ---- cones
module _ (n : ℕ) (rows begun : List (List ℚ)) (there : (r : List ℚ) → Contains begun r → Contains rows r) (back : All (Contains begun) rows) where
  pub in_begun : (z : List ℚ) → IsInCone n rows z → IsInCone n begun z
  in_begun z h = record {
    wide = h.wide;
    within = all_of_members (λ r. zero_ℚ ≤ℚ dot r z) begun (λ r k. member_of (λ r. zero_ℚ ≤ℚ dot r z) rows r h.within (there r k));
  }

  pub of_begun : (z : List ℚ) → IsInCone n begun z → IsInCone n rows z
  of_begun z h = record {
    wide = h.wide;
    within = all_of_members (λ r. zero_ℚ ≤ℚ dot r z) rows (λ r k. member_of (λ r. zero_ℚ ≤ℚ dot r z) begun r h.within (member_of (Contains begun) rows r back k));
  }

  extreme_of : (g : List ℚ) → IsExtremeDirection n (IsInCone n begun) g → IsExtremeDirection n (IsInCone n rows) g
  extreme_of g h = record { member = of_begun g h.member; not_zero = h.not_zero; no_sum = λ a b p q e. h.no_sum a b (in_begun a p) (in_begun b q) e }

  extreme_in : (g : List ℚ) → IsExtremeDirection n (IsInCone n rows) g → IsExtremeDirection n (IsInCone n begun) g
  extreme_in g h = record { member = in_begun g h.member; not_zero = h.not_zero; no_sum = λ a b p q e. h.no_sum a b (of_begun a p) (of_begun b q) e }

  pub generators_are : (list : LiveList) → HasFullRank n rows → IsLive n begun list → AreGenerators n rows (vectors list.live)
  generators_are list rank live = record {
    each = λ g. (
      (λ c. let e = (are_live.extreme n begun list live g).0 c in record { pointed = rank; extreme = extreme_of g e.0; normed = e.1 }),
      (λ h. (are_live.extreme n begun list live g).1 (extreme_in g h.extreme, h.normed)),
    );
    once = (described_are_distinct n begun (vectors list.live) live.described).once;
  }
