-- What is found among points.
use Rattle.std.proofs.Common.{◌≡◌, ◌⊎◌, inl, inr, ℕ, suc, List, [], ◌∷◌, map, All, Contains, Bool, true, false, refl, sym, ap, ap₂, ◌∙◌, subst}
use Rattle.exact_field.specs.Order.{same_ℚ}
use Rattle.exact_field.specs.Rational.{ℚ, zero_ℚ, ◌-ℚ◌, ◌≤ℚ◌}
use Rattle.exact_field.specs.Vector.{dot}
use Rattle.exact_field.proofs.Comparison.{same_ℚ-is}
use Rattle.polyhedra.proofs.Lists.{all_from_map, Contains-cases, Contains-nil}
use Rattle.std.proofs.lemmas.List.Elements.{All-weaker}
use Rattle.vlp_problem.specs.declared.problem.Dir.{Dir}
use Rattle.upper_image.specs.UpperImage.{signed}
use Rattle.log_rules.specs.Right.{places_from}
use Rattle.log_rules.specs.declared.answer.Gen.{Gen}
use Rattle.weighing.specs.Stages.{IsPassed, EndsLeast, point_items}
use Rattle.weighing.specs.Walk.{IsNoLess}
use Rattle.weighing.proofs.Below.{no_less_difference}

-- where a list has a value that passes a test, there is a place
some_place : (t : ℚ → Bool) (vs : List ℚ) (v : ℚ) (k : ℕ) → Contains vs v → t v ≡ true → places_from k (map t vs) ≡ [] → ⊥
some_place t [] v k c e h = Contains-nil v c
some_place t (x ∷ vs) v k c e h =
    by (t x) refl (Contains-cases x vs v c) h (λ d g. some_place t vs v (suc k) d e g)
  where
    by : (b : Bool) → t x ≡ b → (x ≡ v) ⊎ Contains vs v → places_from k (b ∷ map t vs) ≡ [] → (Contains vs v → places_from (suc k) (map t vs) ≡ [] → ⊥) → ⊥
    by true q s g again = cc
    by false q (inl s) g again = Rattle.std.proofs.Common.true≢false (sym e ∙ sym (ap t s) ∙ q)
    by false q (inr s) g again = again s g

tests_of : (f : Gen → ℚ) (value : ℚ) (ps : List Gen) → map (λ q. same_ℚ q value) (map f ps) ≡ map (λ p. same_ℚ (f p) value) ps
tests_of f value [] = refl
tests_of f value (p ∷ ps) = ap (λ bs. same_ℚ (f p) value ∷ bs) (tests_of f value ps)

pub ends_least : (dir : Dir) (w : List ℚ) (points : List Gen) (values : List ℚ) (value : ℚ) (listed : List ℕ) → values ≡ map (λ (g : Gen). dot w g.y) points →
    All (IsPassed dir w) (point_items points) → All (λ v. IsNoLess dir v value) values → Contains values value →
    listed ≡ places_from 1 (map (λ q. same_ℚ q value) values) → EndsLeast dir w (point_items points) points value listed
ends_least dir w points values value listed is passed least one have = record {
  passed = passed;
  least = All-weaker (λ (g : Gen). IsNoLess dir (dot w g.y) value) (λ (g : Gen). zero_ℚ ≤ℚ signed dir (dot w g.y -ℚ value))
      (λ g h. no_less_difference dir (dot w g.y) value h) points
      (all_from_map (λ v. IsNoLess dir v value) (λ (g : Gen). dot w g.y) points (subst (λ (vs : List ℚ). All (λ v. IsNoLess dir v value) vs) is least));
  have = have ∙ ap (λ vs. places_from 1 (map (λ q. same_ℚ q value) vs)) is ∙ ap (places_from 1) (tests_of (λ (g : Gen). dot w g.y) value points);
  some = λ none. some_place (λ q. same_ℚ q value) values value 1 one ((same_ℚ-is value value).1 refl) (sym have ∙ none);
}
