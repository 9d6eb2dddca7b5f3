-- The tests and steps of a vector: in a cone, feasible, in the recession cone, above a value.
use Rattle.std.specs.Prelude.{ℕ, ◌==◌, nat_le, List, [], ◌∷◌, ◌++◌, length, flat_map}
use Rattle.std.specs.List.{list_all}
use Rattle.exact_field.specs.Rational.{ℚ, zero_ℚ, le_ℚ, lt_ℚ}
use Rattle.exact_field.specs.Order.{same_ℚ}
use Rattle.exact_field.specs.Vector.{dot, entry}
use Rattle.exact_field.specs.declared.op.Op.TheVariants as op
use Rattle.upper_image.specs.Spots.{dense, product, column}
use Rattle.upper_image.specs.UpperImage.{objective, rest}
use Rattle.frac128.specs.declared.vectors.Spot.{Spot}
use Rattle.vlp_problem.specs.Sides.{sides, numbers_from}
use Rattle.vlp_problem.specs.declared.problem.Problem.{Problem}
use Rattle.vlp_problem.specs.declared.problem.Cone.{Cone}
use Rattle.vlp_problem.specs.declared.problem.Cone.TheVariants.{Orthant, Gens, Dual}
use Rattle.log_rules.specs.declared.rule.Rule.TheVariants as rule
use Rattle.log_rules.specs.Events.{Event, dot_steps, product_steps}
use Rattle.log_rules.specs.Events.Event.{test, step}

-- the places are at most n
abbrev pub places_within : ℕ → List Spot → Event
places_within n spots = test rule.Index (list_all (λ s. nat_le s.at n) spots)

-- the values are positive
abbrev pub values_positive : List Spot → Event
values_positive spots = test rule.Sign (list_all (λ s. lt_ℚ zero_ℚ s.value) spots)

-- there are no multipliers
abbrev pub none_given : List Spot → Event
none_given m = test rule.Length (length m == 0)

-- each vector has a product of at least 0 with e
abbrev pub products_events : List (List ℚ) → List ℚ → List Event
products_events vectors e = flat_map (λ v. dot_steps v e ++ test rule.Cone (le_ℚ zero_ℚ (dot v e)) ∷ []) vectors

-- e is in the cone, with the multipliers m
abbrev pub in_cone : Cone → List ℚ → List Spot → List Event
in_cone Orthant e m = none_given m ∷ test rule.Cone (list_all (le_ℚ zero_ℚ) e) ∷ []
in_cone (Dual vectors) e m = none_given m ∷ products_events vectors e
in_cone (Gens vectors) e m =
    places_within (length vectors) m ∷ values_positive m
    ∷ flat_map (λ i. product_steps (column vectors i) m ++ test rule.Cone (same_ℚ (product (column vectors i) m) (entry e i)) ∷ [])
    (numbers_from 1 (length e))

-- x meets each side
abbrev pub in_feasible : Problem → List Spot → List Event
in_feasible file x =
    places_within file.cols x
    ∷ flat_map (λ side. product_steps side.normal x ++ test rule.Side (le_ℚ side.bound (product side.normal x)) ∷ []) (sides file)

-- no side falls along x
abbrev pub in_recession : Problem → List Spot → List Event
in_recession file x =
    places_within file.cols x
    ∷ flat_map (λ side. product_steps side.normal x ++ test rule.Side (le_ℚ zero_ℚ (product side.normal x)) ∷ []) (sides file)

-- y minus the objectives' value at x, entry by entry, and then the test that it is in the cone,
-- with the multipliers m
abbrev pub above : Problem → List ℚ → List Spot → List Spot → List Event
above file y x m =
    flat_map (λ i. product_steps (objective file i) x ++ step op.Sub (entry y i) (product (objective file i) x) ∷ []) (numbers_from 1 file.objs)
    ++ in_cone file.cone (rest file y (dense file.cols x)) m
