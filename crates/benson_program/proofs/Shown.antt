-- What the tests of membership in a cone ask of a vector, beyond the places and the signs of its multipliers.
use Rattle.std.proofs.Common.{◌≡◌, ℕ, List, length, All, refl, sym, ap, ◌∙◌, subst}
use Rattle.std.specs.Prelude.{⊤, IsTrue}
use Rattle.exact_field.specs.Rational.{ℚ, zero_ℚ, ◌+ℚ◌, ◌≤ℚ◌}
use Rattle.exact_field.specs.Vector.{dot}
use Rattle.frac128.specs.declared.vectors.Spot.{Spot}
use Rattle.polyhedra.specs.Vectors.{AtLeastZero, combination, plus, values}
use Rattle.polyhedra.proofs.Linear.{dot-combination, dot-plus, length-combination, same_wide}
use Rattle.polyhedra.proofs.Lists.{HoldsAt, all_from_map}
use Rattle.vlp_problem.specs.Cones.{cone_fits}
use Rattle.vlp_problem.specs.declared.problem.Cone.{Cone}
use Rattle.vlp_problem.specs.declared.problem.Cone.TheVariants.{Orthant, Gens, Dual}
use Rattle.upper_image.specs.OrderingCone.{IsIn}
use Rattle.upper_image.specs.Shows.{ShowsIn}
use Rattle.upper_image.specs.Spots.{dense, IsVector}
use Rattle.upper_image.proofs.ConvexCones.{cone_convex}
use Rattle.lp_form.specs.Programs.{dual_equations, generators}
use Rattle.lp_form.proofs.Systems.{IsWideCone, cone_wide}
use Rattle.benson_program.proofs.Priced.{pulled, pushed}
use Rattle.benson_program.proofs.Spots.{positive_values, without_places}

-- e is in the cone: by its entries, by its products, or as the combination of the generators with the multipliers m, by the products of
-- both with each vector
abbrev pub IsHeld : Cone → List ℚ → List Spot → Type 0
IsHeld Orthant e m = AtLeastZero e
IsHeld (Gens vectors) e m =
    AtLeastZero (dense (length vectors) m) × ((r : List ℚ) → dot r e ≡ dot (dense (length vectors) m) (values vectors r))
IsHeld (Dual vectors) e m = All (HoldsAt e) vectors

pub shows : (q : ℕ) (cone : Cone) (e : List ℚ) (m : List Spot) → IsWideCone q cone → length e ≡ q → IsVector (length (generators cone)) m →
    IsHeld cone e m → ShowsIn cone e m
shows q Orthant e m wide long v h = record { lengths = without_places m v; cone = h }
shows q (Dual vectors) e m wide long v h = record { lengths = without_places m v; cone = h }
shows q (Gens vectors) e m wide long v h = record {
  index = v.places;
  sign = positive_values (length vectors) m v h.0;
  cone = subst (λ (k : ℕ). combination k (dense (length vectors) m) vectors ≡ e) (sym long)
      (same_wide q (combination q (dense (length vectors) m) vectors) e (length-combination q (dense (length vectors) m) vectors wide) long
      (λ r. dot-combination q r (dense (length vectors) m) vectors ∙ sym (h.1 r)));
}

-- ---- multipliers of the cone's equations
-- n, priced after w, is at least 0: so what it gives at the places of w is in the cone, and with another member k it makes e
pub record IsMade (q : ℕ) (cone : Cone) (n k e : List ℚ) : Type 0 where
  pub wide : length e ≡ q
  pub one_each : length n ≡ dual_equations q cone
  pub at_least_zero : AtLeastZero (pushed cone n)
  pub beside : IsIn q cone k
  pub value : (r : List ℚ) → dot r e ≡ dot r (pulled q cone n) +ℚ dot r k

given_member : (q : ℕ) (cone : Cone) (n : List ℚ) → length n ≡ dual_equations q cone → AtLeastZero (pushed cone n) → IsIn q cone (pulled q cone n)
given_member q Orthant n l h = record { wide = l; entries = h }
given_member q (Gens vectors) n l h = record { multipliers = n; one_each = l; at_least_zero = h; combined = refl }
given_member q (Dual vectors) n l h = record { wide = l; within = all_from_map (λ s. zero_ℚ ≤ℚ s) (λ g. dot g n) vectors h }

pub made_member : (q : ℕ) (cone : Cone) (n k e : List ℚ) → IsTrue (cone_fits q cone) → IsMade q cone n k e → IsIn q cone e
made_member q cone n k e fits h =
    subst (IsIn q cone)
    (same_wide q (plus (pulled q cone n) k) e ((cone_convex q cone fits).wide (plus (pulled q cone n) k) both) h.wide
    (λ r. dot-plus r (pulled q cone n) k ∙ sym (h.value r))) both
  where
    both : IsIn q cone (plus (pulled q cone n) k)
    both = (cone_convex q cone fits).sum (pulled q cone n) k (given_member q cone n h.one_each h.at_least_zero) h.beside

-- the multipliers m of the generators, where there are any, are at least 0 and make e
abbrev pub AreMade : Cone → (n k : List ℚ) → List Spot → Type 0
AreMade Orthant n k m = ⊤
AreMade (Gens vectors) n k m =
    AtLeastZero (dense (length vectors) m) × ((r : List ℚ) → dot n (values vectors r) +ℚ dot r k ≡ dot (dense (length vectors) m) (values vectors r))
AreMade (Dual vectors) n k m = ⊤

held : (q : ℕ) (cone : Cone) (n k e : List ℚ) (m : List Spot) → IsTrue (cone_fits q cone) → IsMade q cone n k e → AreMade cone n k m → IsHeld cone e m
held q Orthant n k e m fits h made = (made_member q Orthant n k e fits h).entries
held q (Gens vectors) n k e m fits h made = (made.0, λ r. h.value r ∙ ap (λ s. s +ℚ dot r k) (dot-combination q r n vectors) ∙ made.1 r)
held q (Dual vectors) n k e m fits h made = (made_member q (Dual vectors) n k e fits h).within

pub shows_made : (q : ℕ) (cone : Cone) (n k e : List ℚ) (m : List Spot) → IsTrue (cone_fits q cone) → IsVector (length (generators cone)) m →
    IsMade q cone n k e → AreMade cone n k m → ShowsIn cone e m
shows_made q cone n k e m fits v h made = shows q cone e m (cone_wide q cone fits) h.wide v (held q cone n k e m fits h made)
