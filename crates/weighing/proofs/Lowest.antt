-- What is lowest over a hull is lowest over its points.
use Rattle.std.proofs.Common.{◌≡◌, ℕ, List, [], ◌∷◌, map, length, All, refl, sym, ap, ap₂, ◌∙◌, subst, arith}
use Rattle.std.proofs.lemmas.List.Elements.{All-head, All-tail, All-map}
use Rattle.exact_field.specs.Rational.{ℚ, zero_ℚ, ◌+ℚ◌, ◌*ℚ◌, neg_ℚ, ◌-ℚ◌, ◌≤ℚ◌}
use Rattle.exact_field.specs.Order.{same_ℚ}
use Rattle.exact_field.specs.Vector.{dot, sum_ℚ}
use Rattle.exact_field.specs.Ring.{v0, v1, ◌⊕◌, ◌⊝◌}
use Rattle.exact_field.proofs.RingTool.{ring}
use Rattle.exact_field.proofs.Rationals.{rationals, neg-zero_ℚ}
use Rattle.exact_field.proofs.Comparison.{same_ℚ-is}
use Rattle.polyhedra.specs.Vectors.{values, AtLeastZero}
use Rattle.polyhedra.specs.Hull.{IsInHull}
use Rattle.polyhedra.proofs.Laws.{add_zero}
use Rattle.polyhedra.proofs.Algebra.{zero_mul, mul_zero, add_mul, one_mul, neg_add, neg_neg}
use Rattle.polyhedra.proofs.Order.{mul_le, add_le_both, le_of_eq, difference_nonneg, le_of_difference}
use Rattle.polyhedra.proofs.Linear.{dot_comm, dot-nil}
use Rattle.polyhedra.proofs.Lists.{nonneg-head, nonneg-tail}
use Rattle.polyhedra.proofs.Members.{all_of_members, member_of}
use Rattle.polyhedra.proofs.Tests.{same_tests}
use Rattle.representations.proofs.Faces.{hull_value}
use Rattle.upper_image.specs.UpperImage.{signed, turned}
use Rattle.upper_image.proofs.Coordinates.{dot-turned}
use Rattle.vlp_problem.specs.declared.problem.Dir.{Dir}
use Rattle.vlp_problem.specs.declared.problem.Dir.TheVariants.{Min, Max}
use Rattle.log_rules.specs.declared.answer.Gen.{Gen}
use Rattle.log_rules.specs.declared.answer.LineGen.{LineGen}
use Rattle.weighing.specs.Laws.{PointsAreEnough}

-- ---- signs
pub signed_difference : (dir : Dir) (a b : ℚ) → signed dir (a -ℚ b) ≡ signed dir a +ℚ neg_ℚ (signed dir b)
signed_difference Min a b = refl
signed_difference Max a b = neg_add a (neg_ℚ b)

pub signed_value : (dir : Dir) (w v : List ℚ) → dot (turned dir w) v ≡ signed dir (dot w v)
signed_value dir w v = dot_comm (turned dir w) v ∙ dot-turned dir v w ∙ ap (signed dir) (dot_comm v w)

pub signed_same : (dir : Dir) (a b : ℚ) → same_ℚ (signed dir a) (signed dir b) ≡ same_ℚ a b
signed_same Min a b = refl
signed_same Max a b = same_tests (same_ℚ (neg_ℚ a) (neg_ℚ b)) (same_ℚ a b)
    (λ h. (same_ℚ-is a b).1 (sym (neg_neg a) ∙ ap neg_ℚ ((same_ℚ-is (neg_ℚ a) (neg_ℚ b)).0 h) ∙ neg_neg b))
    (λ h. (same_ℚ-is (neg_ℚ a) (neg_ℚ b)).1 (ap neg_ℚ ((same_ℚ-is a b).0 h)))

pub nonneg_difference : (b a : ℚ) → zero_ℚ ≤ℚ a +ℚ neg_ℚ b → b ≤ℚ a
nonneg_difference b a h = le_of_difference b a (a +ℚ neg_ℚ b) h (ring rationals (a ∷ b ∷ []) (v1 ⊕ (v0 ⊝ v1)) v0 refl)

-- ---- the value of a combination
combination_value : (f : List ℚ) (b : ℚ) (ms : List ℚ) (vs : List (List ℚ)) → length ms ≡ length vs → AtLeastZero ms → All (λ v. b ≤ℚ dot f v) vs →
    sum_ℚ ms *ℚ b ≤ℚ dot ms (values vs f)
combination_value f b [] vs k m h = le_of_eq _ _ (zero_mul b)
combination_value f b (m ∷ ms) [] k n h = absurd (omega arith)
combination_value f b (m ∷ ms) (v ∷ vs) k n h = subst (λ (x : ℚ). x ≤ℚ dot (m ∷ ms) (values (v ∷ vs) f)) (sym (add_mul m (sum_ℚ ms) b))
    (add_le_both (m *ℚ b) (m *ℚ dot v f) (sum_ℚ ms *ℚ b) (dot ms (values vs f))
    (mul_le m b (dot v f) (nonneg-head m ms n) (subst (λ (x : ℚ). b ≤ℚ x) (dot_comm f v) (All-head (λ x. b ≤ℚ dot f x) v vs h)))
    (combination_value f b ms vs (omega arith) (nonneg-tail m ms n) (All-tail (λ x. b ≤ℚ dot f x) v vs h)))

-- a combination of vectors with the product 0 has it too
level_value : (f : List ℚ) (ms : List ℚ) (vs : List (List ℚ)) → All (λ v. dot f v ≡ zero_ℚ) vs → dot ms (values vs f) ≡ zero_ℚ
level_value f ms [] h = dot-nil ms
level_value f [] (v ∷ vs) h = refl
level_value f (m ∷ ms) (v ∷ vs) h =
    ap₂ (λ a b. m *ℚ a +ℚ b) (dot_comm v f ∙ All-head (λ x. dot f x ≡ zero_ℚ) v vs h) (level_value f ms vs (All-tail (λ x. dot f x ≡ zero_ℚ) v vs h))
    ∙ ap (λ a. a +ℚ zero_ℚ) (mul_zero m) ∙ add_zero zero_ℚ

hull_least : (n : ℕ) (points directions lines : List (List ℚ)) (y f : List ℚ) (b : ℚ) → IsInHull n points directions lines y → All (λ p. b ≤ℚ dot f p) points →
    All (λ d. zero_ℚ ≤ℚ dot f d) directions → All (λ l. dot f l ≡ zero_ℚ) lines → b ≤ℚ dot f y
hull_least n points directions lines y f b h at_points at_directions at_lines =
    subst (λ (x : ℚ). x ≤ℚ dot f y) whole
    (subst (λ (x : ℚ). sum_ℚ h.weights *ℚ b +ℚ sum_ℚ h.shares *ℚ zero_ℚ ≤ℚ x) (sym value)
    (add_le_both (sum_ℚ h.weights *ℚ b) (dot h.weights (values points f)) (sum_ℚ h.shares *ℚ zero_ℚ) (dot h.shares (values directions f))
    (combination_value f b h.weights points h.weight_each h.weights_at_least_zero at_points)
    (combination_value f zero_ℚ h.shares directions h.share_each h.shares_at_least_zero at_directions)))
  where
    whole : sum_ℚ h.weights *ℚ b +ℚ sum_ℚ h.shares *ℚ zero_ℚ ≡ b
    whole = ap₂ (λ u v. u *ℚ b +ℚ v) h.weights_whole (mul_zero (sum_ℚ h.shares)) ∙ ap (λ x. x +ℚ zero_ℚ) (one_mul b) ∙ add_zero b

    value : dot f y ≡ dot h.weights (values points f) +ℚ dot h.shares (values directions f)
    value = hull_value n points directions lines y h f
        ∙ ap (λ x. dot h.weights (values points f) +ℚ (dot h.shares (values directions f) +ℚ x)) (level_value f h.slopes lines at_lines)
        ∙ ap (λ x. dot h.weights (values points f) +ℚ x) (add_zero (dot h.shares (values directions f)))

pub signed_zero : (dir : Dir) → signed dir zero_ℚ ≡ zero_ℚ
signed_zero Min = refl
signed_zero Max = neg-zero_ℚ

pub points_are_enough : PointsAreEnough
points_are_enough file c ls points directions facets s w value at_points at_directions at_lines y y_in =
    subst (λ (x : ℚ). zero_ℚ ≤ℚ x) (sym (signed_difference file.dir (dot w y) value))
    (difference_nonneg (signed file.dir value) (signed file.dir (dot w y))
    (subst (λ (x : ℚ). signed file.dir value ≤ℚ x) (signed_value file.dir w y)
    (hull_least file.objs (map (λ g. g.y) points) (map (λ g. g.y) directions) (map (λ l. l.d) ls) y (turned file.dir w) (signed file.dir value) ((s.exact.hull y).0 y_in)
    (All-map (λ p. signed file.dir value ≤ℚ dot (turned file.dir w) p) (λ (g : Gen). g.y) points
    (all_of_members (λ (g : Gen). signed file.dir value ≤ℚ dot (turned file.dir w) g.y) points (λ g k.
    at_least (dot w g.y) (dot (turned file.dir w) g.y) (sym (signed_value file.dir w g.y)) (member_of (λ (g : Gen). zero_ℚ ≤ℚ signed file.dir (dot w g.y -ℚ value)) points g at_points k))))
    (All-map (λ d. zero_ℚ ≤ℚ dot (turned file.dir w) d) (λ (g : Gen). g.y) directions
    (all_of_members (λ (g : Gen). zero_ℚ ≤ℚ dot (turned file.dir w) g.y) directions (λ g k.
    subst (λ (x : ℚ). zero_ℚ ≤ℚ x) (sym (signed_value file.dir w g.y)) (member_of (λ (g : Gen). zero_ℚ ≤ℚ signed file.dir (dot w g.y)) directions g at_directions k))))
    (All-map (λ l. dot (turned file.dir w) l ≡ zero_ℚ) (λ (l : LineGen). l.d) ls
    (all_of_members (λ (l : LineGen). dot (turned file.dir w) l.d ≡ zero_ℚ) ls (λ l k.
    signed_value file.dir w l.d ∙ ap (signed file.dir) (member_of (λ (l : LineGen). dot w l.d ≡ zero_ℚ) ls l at_lines k) ∙ signed_zero file.dir))))))
  where
    at_least : (a q : ℚ) → signed file.dir a ≡ q → zero_ℚ ≤ℚ signed file.dir (a -ℚ value) → signed file.dir value ≤ℚ q
    at_least a q e h = subst (λ (x : ℚ). signed file.dir value ≤ℚ x) e
        (nonneg_difference (signed file.dir value) (signed file.dir a) (subst (λ (x : ℚ). zero_ℚ ≤ℚ x) (signed_difference file.dir a value) h))
