-- The tests and steps of `duality`, `cut` and `farkas` entries.
use Rattle.std.specs.Prelude.{ℕ, ◌*◌, ◌==◌, Bool, true, ◌&&◌, nat_le, nat_lt, if◌then◌else◌, List, [], ◌∷◌, ◌++◌, length, flat_map, Option, None, Some}
use Rattle.std.specs.List.{list_all, enumerate_from}
use Rattle.exact_field.specs.Rational.{ℚ, zero_ℚ, one_ℚ, ◌/ℚ◌, lt_ℚ}
use Rattle.exact_field.specs.Order.{same_ℚ}
use Rattle.exact_field.specs.Vector.{dot, entry}
use Rattle.exact_field.specs.declared.op.Op.TheVariants as op
use Rattle.upper_image.specs.OrderingCone.{dual_of}
use Rattle.upper_image.specs.Shows.{picked}
use Rattle.upper_image.specs.Spots.{pieces, product, column}
use Rattle.upper_image.specs.UpperImage.{objective_column}
use Rattle.log_rules.specs.Live.{duality_vector}
use Rattle.log_rules.specs.Events.{Event, dot_steps, product_steps}
use Rattle.log_rules.specs.Events.Event.{test, step}
use Rattle.log_rules.specs.VectorEvents.{places_within, values_positive, in_cone}
use Rattle.frac128.specs.Sparse.{is_zero}
use Rattle.frac128.specs.declared.vectors.Spot.{Spot}
use Rattle.vlp_problem.specs.Sides.{sides, side_column, side_bounds, numbers_from}
use Rattle.vlp_problem.specs.declared.problem.Problem.{Problem}
use Rattle.vlp_problem.specs.declared.problem.Cone.{Cone}
use Rattle.vlp_problem.specs.declared.problem.Cone.TheVariants.{Orthant, Gens, Dual}
use Rattle.deriv_log.specs.declared.entry.Entry.{Entry}
use Rattle.log_rules.specs.declared.rule.Rule.TheVariants as rule

-- ---- lists of numbers
-- the numbers rise
abbrev pub rises : List ℕ → Bool
rises [] = true
rises (k ∷ ks) = list_all (nat_lt k) ks && rises ks

-- each number is from 1 to n
abbrev pub all_within : ℕ → List ℕ → Bool
all_within n ks = list_all (λ k. nat_le 1 k && nat_le k n) ks

-- ---- duality
-- c is f divided by its last entry, which is positive; or all ones for the orthant
abbrev pub follows_given : ℕ → Cone → Option (List ℚ) → List ℚ → List Event
follows_given q cone (Some f) c =
    test rule.Scaled (lt_ℚ zero_ℚ (entry f q))
    ∷ flat_map (λ i. step op.Div (entry f i) (entry f q) ∷ test rule.Scaled (same_ℚ (entry c i) (entry f i /ℚ entry f q)) ∷ []) (numbers_from 1 q)
follows_given q Orthant None c = test rule.Scaled (list_all (same_ℚ one_ℚ) c) ∷ []
follows_given q _ None c = []

-- the lists have their lengths
abbrev pub has_lengths : ℕ → Cone → List ℚ → List ℕ → List ℚ → Bool
has_lengths q (Gens vectors) weights picks inverse = length weights == length vectors && length picks == q && length inverse == q * q
has_lengths q _ weights picks inverse = length weights == 0 && length picks == 0 && length inverse == 0

-- each picked generator, times each row of the inverse, is 1 or 0
abbrev pub inverse_steps : ℕ → List (List ℚ) → List ℕ → List ℚ → List Event
inverse_steps q vectors picks inverse =
    flat_map (λ a. flat_map (λ b. dot_steps b.1 a.1 ++ test rule.Interior (same_ℚ (dot b.1 a.1) (if a.0 == b.0 then one_ℚ else zero_ℚ)) ∷ [])
    (enumerate_from 1 (picked vectors picks)))
    (enumerate_from 1 (pieces q q inverse))

-- c is interior to the cone
abbrev pub interior : ℕ → Cone → List ℚ → List ℚ → List ℕ → List ℚ → List Event
interior q Orthant c weights picks inverse = test rule.Interior (list_all (lt_ℚ zero_ℚ) c) ∷ []
interior q (Dual vectors) c weights picks inverse =
    flat_map (λ v. if list_all is_zero v then [] else dot_steps v c ++ test rule.Interior (lt_ℚ zero_ℚ (dot v c)) ∷ []) vectors
interior q (Gens vectors) c weights picks inverse =
    test rule.Sign (list_all (lt_ℚ zero_ℚ) weights)
    ∷ flat_map (λ i. dot_steps (column vectors i) weights ++ test rule.Interior (same_ℚ (dot (column vectors i) weights) (entry c i)) ∷ []) (numbers_from 1 q)
    ++ test rule.Index (rises picks && all_within (length vectors) picks)
    ∷ inverse_steps q vectors picks inverse

-- `duality`: the lengths, c scaled and as the file gives it, and then that it is interior
abbrev pub duality_events : Problem → List ℚ → List ℚ → List ℕ → List ℚ → List Event
duality_events file c weights picks inverse =
    test rule.Length (length c == file.objs && has_lengths file.objs file.cone weights picks inverse)
    ∷ test rule.Scaled (same_ℚ (entry c file.objs) one_ℚ)
    ∷ follows_given file.objs file.cone file.duality c
    ++ interior file.objs file.cone c weights picks inverse

-- ---- cut
-- in column j, the sum over the sides and then that over the objectives
abbrev pub balance : Problem → List ℚ → List Spot → ℕ → List Event
balance file w u j =
    product_steps (side_column file j) u ++ dot_steps (objective_column file j) w
    ++ test rule.Balance (same_ℚ (product (side_column file j) u) (dot (objective_column file j) w)) ∷ []

-- `cut`: nonnegative multipliers u of the sides that balance w; then that w is in the dual cone,
-- that its product with the duality vector is 1, and the bound
abbrev pub cut_events : Problem → List Entry → List ℚ → ℚ → List Spot → List Spot → List Event
cut_events file before w gamma u v =
    test rule.Length (length w == file.objs)
    ∷ places_within (length (sides file)) u
    ∷ values_positive u
    ∷ flat_map (balance file w u) (numbers_from 1 file.cols)
    ++ in_cone (dual_of file.cone) w v
    ++ dot_steps w (duality_vector before)
    ++ test rule.Scaled (same_ℚ (dot w (duality_vector before)) one_ℚ)
    ∷ product_steps (side_bounds file) u
    ++ test rule.Bound (same_ℚ (product (side_bounds file) u) gamma) ∷ []

-- ---- farkas
-- `farkas`: nonnegative multipliers of the sides that combine the normals to 0, and the bounds to
-- more than 0
abbrev pub farkas_events : Problem → List Spot → List Event
farkas_events file u =
    places_within (length (sides file)) u
    ∷ values_positive u
    ∷ flat_map (λ j. product_steps (side_column file j) u ++ test rule.Balance (is_zero (product (side_column file j) u)) ∷ []) (numbers_from 1 file.cols)
    ++ product_steps (side_bounds file) u
    ++ test rule.Bound (lt_ℚ zero_ℚ (product (side_bounds file) u)) ∷ []
