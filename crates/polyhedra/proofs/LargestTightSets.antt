-- Each cut's tight generators lie in those of a largest one: a larger set leaves fewer generators that are not tight.
use Rattle.std.proofs.Common.{◌≡◌, ℕ, zero, suc, List, map, All, Contains, sym, ◌∙◌, subst, arith, ◌⊎◌, inl, inr, ◌<◌}
use Rattle.exact_field.specs.Rational.{ℚ, zero_ℚ}
use Rattle.exact_field.specs.Vector.{dot}
use Rattle.polyhedra.specs.TightSets.{IsTight, LiesIn}
use Rattle.polyhedra.specs.Inequality.{Inequality}
use Rattle.polyhedra.specs.Exactness.{level, row_of, rows_of, TightLiesIn, IsNamed, IsAccounted, LargestAccount}
use Rattle.polyhedra.proofs.Linear.{dot_comm}
use Rattle.polyhedra.proofs.Lists.{Contains-cases}
use Rattle.polyhedra.proofs.Members.{all_or_not, all_of_members, member_of, Contains-map_source}
use Rattle.polyhedra.proofs.TightRows.{loose, loose-lt, IsApartAt, lies_or_not}

-- the same with the generators in the place of rows
as_rows : (gens : List (List ℚ)) (a b : List ℚ) → TightLiesIn gens a b → LiesIn gens a b
as_rows gens a b h = all_of_members (λ v. IsTight v a → IsTight v b) gens (λ v k e. dot_comm v b
    ∙ member_of (λ w. dot a w ≡ zero_ℚ → dot b w ≡ zero_ℚ) gens v h k (dot_comm a v ∙ e))

from_rows : (gens : List (List ℚ)) (a b : List ℚ) → LiesIn gens a b → TightLiesIn gens a b
from_rows gens a b h = all_of_members (λ v. dot a v ≡ zero_ℚ → dot b v ≡ zero_ℚ) gens (λ v k e. dot_comm b v
    ∙ member_of (λ w. IsTight w a → IsTight w b) gens v h k (dot_comm v a ∙ e))

tight_or_apart : (gens : List (List ℚ)) (a b : List ℚ) → TightLiesIn gens a b ⊎ IsApartAt gens a b
tight_or_apart gens a b = go (lies_or_not gens a b)
  where
    go : LiesIn gens a b ⊎ IsApartAt gens a b → TightLiesIn gens a b ⊎ IsApartAt gens a b
    go (inl h) = inl (from_rows gens a b h)
    go (inr s) = inr s

not_apart : (gens : List (List ℚ)) (a b : List ℚ) → IsApartAt gens a b → TightLiesIn gens a b → ⊥
not_apart gens a b s h = s.loose_there (dot_comm s.row b ∙ member_of (λ w. dot a w ≡ zero_ℚ → dot b w ≡ zero_ℚ) gens s.row h s.listed
    (dot_comm a s.row ∙ s.tight))

pub tight_through : (gens : List (List ℚ)) (a b d : List ℚ) → TightLiesIn gens a b → TightLiesIn gens b d → TightLiesIn gens a d
tight_through gens a b d h k = all_of_members (λ v. dot a v ≡ zero_ℚ → dot d v ≡ zero_ℚ) gens
    (λ v m e. member_of (λ w. dot b w ≡ zero_ℚ → dot d w ≡ zero_ℚ) gens v k m (member_of (λ w. dot a w ≡ zero_ℚ → dot b w ≡ zero_ℚ) gens v h m e))

module _ (n : ℕ) (cuts : List Inequality) (gens : List (List ℚ)) where
  -- a cut that may be named, whose tight generators take in those of e
  record IsUnder (e : Inequality) : Type 0 where
    larger : Inequality
    name : IsNamed n cuts gens larger
    lies : TightLiesIn gens (row_of e) (row_of larger)

  -- no row has properly more tight generators than e
  Largest : Inequality → List ℚ → Type 0
  Largest e row = TightLiesIn gens (row_of e) row → TightLiesIn gens row (row_of e)

  largest_or_not : (e : Inequality) (row : List ℚ) → Largest e row ⊎ (Largest e row → ⊥)
  unfolding Largest
  largest_or_not e row = go (tight_or_apart gens (row_of e) row) (tight_or_apart gens row (row_of e))
    where
      go : TightLiesIn gens (row_of e) row ⊎ IsApartAt gens (row_of e) row → TightLiesIn gens row (row_of e) ⊎ IsApartAt gens row (row_of e) →
          (TightLiesIn gens (row_of e) row → TightLiesIn gens row (row_of e)) ⊎ ((TightLiesIn gens (row_of e) row → TightLiesIn gens row (row_of e)) → ⊥)
      go (inr s) k = inl (λ h. absurd (not_apart gens (row_of e) row s h))
      go (inl h) (inl k) = inl (λ _. k)
      go (inl h) (inr s) = inr (λ f. not_apart gens row (row_of e) s (f h))

  -- one step: e itself, or a cut with more tight generators
  climb : (e : Inequality) → Contains cuts e → (TightLiesIn gens (row_of e) (level n) → ⊥) →
      ((d : Inequality) → loose gens (row_of d) < loose gens (row_of e) → Contains cuts d → (TightLiesIn gens (row_of d) (level n) → ⊥) → IsUnder d) → IsUnder e
  unfolding Largest
  climb e listed touches again = go (all_or_not (Largest e) (largest_or_not e) (rows_of n cuts))
    where
      to_cut : (d : Inequality) → Contains cuts d → TightLiesIn gens (row_of e) (row_of d) → IsApartAt gens (row_of d) (row_of e) → IsUnder e
      to_cut d c lies s =
          let u : IsUnder d = again d
          (loose-lt gens (row_of e) (row_of d) s.row (as_rows gens (row_of e) (row_of d) lies) s.listed s.loose_there s.tight) c
          (λ h. touches (tight_through gens (row_of e) (row_of d) (level n) lies h)) in
          record { larger = u.larger; name = u.name; lies = tight_through gens (row_of e) (row_of d) (row_of u.larger) lies u.lies }

      by_row : (row : List ℚ) → TightLiesIn gens (row_of e) row → IsApartAt gens row (row_of e) → (level n ≡ row) ⊎ Contains (map row_of cuts) row → IsUnder e
      by_row row lies s (inl q) = absurd (touches (subst (λ (v : List ℚ). TightLiesIn gens (row_of e) v) (sym q) lies))
      by_row row lies s (inr k) =
          let t : (d : Inequality) × Contains cuts d × (row_of d ≡ row) = Contains-map_source row_of cuts row k in
          to_cut t.0 t.1 (subst (λ (v : List ℚ). TightLiesIn gens (row_of e) v) (sym t.2) lies)
          (subst (λ (v : List ℚ). IsApartAt gens v (row_of e)) (sym t.2) s)

      not_largest : (row : List ℚ) → Contains (rows_of n cuts) row → (Largest e row → ⊥) → TightLiesIn gens (row_of e) row ⊎ IsApartAt gens (row_of e) row →
          TightLiesIn gens row (row_of e) ⊎ IsApartAt gens row (row_of e) → IsUnder e
      not_largest row c bad (inr s) k = absurd (bad (λ h. absurd (not_apart gens (row_of e) row s h)))
      not_largest row c bad (inl h) (inl k) = absurd (bad (λ _. k))
      not_largest row c bad (inl h) (inr s) = by_row row h s (Contains-cases (level n) (map row_of cuts) row c)

      go : All (Largest e) (rows_of n cuts) ⊎ ((row : List ℚ) × Contains (rows_of n cuts) row × (Largest e row → ⊥)) → IsUnder e
      go (inl h) = record {
        larger = e;
        name = record { cut = listed; touches = touches; largest = h };
        lies = all_of_members
            (λ v. dot (row_of e) v ≡ zero_ℚ → dot (row_of e) v ≡ zero_ℚ) gens (λ v k q. q);
      }
      go (inr (row, c, bad)) = not_largest row c bad (tight_or_apart gens (row_of e) row) (tight_or_apart gens row (row_of e))

  climb_by : (k : ℕ) (e : Inequality) → loose gens (row_of e) < k → Contains cuts e → (TightLiesIn gens (row_of e) (level n) → ⊥) → IsUnder e
  climb_by zero e l c t = absurd (omega arith)
  climb_by (suc k) e l c t = climb e c t (λ d m. climb_by k d (omega arith))

pub largest_account : LargestAccount
largest_account n cuts gens named covers = all_of_members (IsAccounted n named gens) cuts
    (λ e c. record { within = at e c (tight_or_apart gens (row_of e) (level n)) })
  where
    at : (e : Inequality) → Contains cuts e → TightLiesIn gens (row_of e) (level n) ⊎ IsApartAt gens (row_of e) (level n) →
        TightLiesIn gens (row_of e) (level n) ⊎ ((f : Inequality) × Contains named f × TightLiesIn gens (row_of e) (row_of f))
    at e c (inl h) = inl h
    at e c (inr s) =
        let u : IsUnder n cuts gens e = climb_by n cuts gens (suc (loose gens (row_of e))) e (omega arith) c (not_apart gens (row_of e) (level n) s) in
        let g : (f : Inequality) × Contains named f × TightLiesIn gens (row_of u.larger) (row_of f) = covers u.larger u.name in
        inr (g.0, g.1, tight_through gens (row_of e) (row_of u.larger) (row_of g.0) u.lies g.2)
