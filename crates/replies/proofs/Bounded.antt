-- Where the feasible set is bounded and not empty and the cone is the orthant, the image is no whole
-- space and has no line.
use Rattle.std.proofs.Common.{◌≡◌, ℕ, zero, suc, ◌-◌, List, [], ◌∷◌, map, length, slice_index_or, refl, sym, ap, ap₂, ◌∙◌, subst, arith, IsTrue}
use Rattle.std.proofs.lemmas.Bool.{cond_both}
use Rattle.std.proofs.lemmas.List.{length-map}
use Rattle.std.proofs.lemmas.List.Elements.{All-head}
use Rattle.exact_field.specs.Rational.{ℚ, zero_ℚ, one_ℚ, ◌+ℚ◌, neg_ℚ, le_ℚ, ◌≤ℚ◌}
use Rattle.exact_field.proofs.Inequalities.{zero_between, lt-not-le, lt-not-same, zero-lt-one, neg-le}
use Rattle.exact_field.proofs.Rationals.{add-zero_ℚ, neg-zero_ℚ, neg-neg_ℚ}
use Rattle.polyhedra.specs.DoubleDescription.{is_zero, leading}
use Rattle.polyhedra.specs.Vectors.{AtLeastZero, plus, values, zeros}
use Rattle.polyhedra.proofs.Linear.{dot-zeros}
use Rattle.polyhedra.proofs.Lists.{nonneg-head, nonneg-tail}
use Rattle.vlp_problem.specs.declared.problem.Problem.{Problem}
use Rattle.vlp_problem.specs.declared.problem.Cone.{Cone}
use Rattle.vlp_problem.specs.declared.problem.Cone.TheVariants.{Orthant}
use Rattle.vlp_problem.specs.declared.problem.Dir.{Dir}
use Rattle.vlp_problem.specs.declared.problem.Dir.TheVariants.{Min, Max}
use Rattle.upper_image.specs.OrderingCone.{IsNonnegative, IsIn, IsInOrderingCone}
use Rattle.upper_image.specs.Spots.{dense}
use Rattle.upper_image.specs.Witnesses.{IsShownLine}
use Rattle.upper_image.specs.UpperImage.{objectives, rest, signed, turned, IsDirectionPreimage}
use Rattle.upper_image.proofs.Coordinates.{length-turned}
use Rattle.upper_image.proofs.WorkingImage.{objectives_many, infeasible_is_empty}
use Rattle.log_rules.specs.declared.answer.Answer.TheVariants.{Infeasible, Whole, Solved}
use Rattle.log_rules.specs.declared.answer.LineGen.{LineGen}
use Rattle.replies.specs.SampleLaws.{BoundedAreSolved, IsBounded}

-- ---- numbers
pub at_most_zero : (q : ℚ) → zero_ℚ ≤ℚ neg_ℚ q → q ≤ℚ zero_ℚ
at_most_zero q h = subst IsTrue (ap (λ z. le_ℚ z (neg_ℚ q)) (sym neg-zero_ℚ) ∙ neg-le q zero_ℚ) h

not_minus_one : zero_ℚ ≤ℚ neg_ℚ one_ℚ → ⊥
not_minus_one h = lt-not-le zero_ℚ one_ℚ zero-lt-one (at_most_zero one_ℚ h)

zero_entry : (dir : Dir) (q : ℚ) → zero_ℚ ≤ℚ signed dir q → zero_ℚ ≤ℚ signed dir (neg_ℚ q) → q ≡ zero_ℚ
zero_entry Min q h k = zero_between q h (at_most_zero q k)
zero_entry Max q h k = zero_between q (subst (λ (p : ℚ). zero_ℚ ≤ℚ p) (neg-neg_ℚ q) k) (at_most_zero q h)

-- ---- vectors of the orthant
-- no vector with an entry 1 has its negative there
against_one : (c : List ℚ) (k : ℕ) → AtLeastZero (map neg_ℚ c) → slice_index_or c k zero_ℚ ≡ one_ℚ → ⊥
against_one [] k h e = lt-not-same zero_ℚ one_ℚ zero-lt-one e
against_one (x ∷ c) zero h e = not_minus_one (subst (λ (q : ℚ). zero_ℚ ≤ℚ neg_ℚ q) e (nonneg-head (neg_ℚ x) (map neg_ℚ c) h))
against_one (x ∷ c) (suc k) h e = against_one c k (nonneg-tail (neg_ℚ x) (map neg_ℚ c) h) e

-- a vector that is there with its negative has no leading entry
no_leading : (dir : Dir) (d : List ℚ) → AtLeastZero (turned dir d) → AtLeastZero (turned dir (map neg_ℚ d)) → leading d ≡ zero_ℚ
no_leading dir [] h k = refl
no_leading dir (x ∷ d) h k =
    cond_both (is_zero x) (leading d) x (λ q. q ≡ zero_ℚ)
    (λ _. no_leading dir d (nonneg-tail (signed dir x) (turned dir d) h) (nonneg-tail (signed dir (neg_ℚ x)) (turned dir (map neg_ℚ d)) k))
    (λ _. zero_entry dir x (nonneg-head (signed dir x) (turned dir d) h) (nonneg-head (signed dir (neg_ℚ x)) (turned dir (map neg_ℚ d)) k))

-- ---- nothing is taken off at x = 0
nothing_taken : (y : List ℚ) (rows : List (List ℚ)) (n : ℕ) → length y ≡ length rows → plus y (map neg_ℚ (values rows (zeros n))) ≡ y
nothing_taken [] [] n h = refl
nothing_taken [] (r ∷ rows) n h = absurd (omega (arith, h))
nothing_taken (x ∷ y) [] n h = absurd (omega (arith, h))
nothing_taken (x ∷ y) (r ∷ rows) n h =
    ap₂ (λ a b. a ∷ b) (ap (λ e. x +ℚ neg_ℚ e) (dot-zeros r n) ∙ ap (λ e. x +ℚ e) neg-zero_ℚ ∙ add-zero_ℚ x)
    (nothing_taken y rows n (omega (arith, h)))

rest_there : (file : Problem) (y x : List ℚ) → length y ≡ file.objs → x ≡ zeros file.cols → rest file y x ≡ y
rest_there file y x wide e = ap (rest file y) e ∙ nothing_taken y (objectives file) file.cols (wide ∙ sym (objectives_many file))

in_orthant : (file : Problem) (y : List ℚ) → file.cone ≡ Orthant → IsInOrderingCone file y → IsNonnegative file.objs y
in_orthant file y e h = subst (λ (cone : Cone). IsIn file.objs cone y) e h

-- a direction of the image is in the orthant
direction_in : (file : Problem) (d x : List ℚ) → file.cone ≡ Orthant → IsBounded file → IsDirectionPreimage file d x → AtLeastZero (turned file.dir d)
direction_in file d x cone bounded h =
    let y = turned file.dir d in
    (in_orthant file y cone
    (subst (IsInOrderingCone file) (rest_there file y x (length-turned file.dir d ∙ h.wide) (bounded x h.recedes)) h.above)).entries

-- no vector with 1 as its first entry is there with its negative
no_line : (file : Problem) (l : LineGen) → file.cone ≡ Orthant → IsBounded file → IsShownLine file l.d l.ray l.back → leading l.d ≡ one_ℚ → ⊥
no_line file l cone bounded h e =
    lt-not-same zero_ℚ one_ℚ zero-lt-one
    (sym (no_leading file.dir l.d (direction_in file l.d (dense file.cols l.ray) cone bounded h.forth.shown)
    (direction_in file (map neg_ℚ l.d) (dense file.cols l.back) cone bounded h.back_too.shown)) ∙ e)

pub bounded_are_solved : BoundedAreSolved
bounded_are_solved file x (Infeasible u) cone feasible bounded right = absurd (infeasible_is_empty file u right x feasible)
bounded_are_solved file x (Whole c point ray) cone feasible bounded right =
    let wide : length c ≡ file.objs = (in_orthant file c cone right.fits.interior.member).wide in
    let minus : List ℚ = map neg_ℚ c in
    let there = rest_there file minus (dense file.cols ray) (length-map c neg_ℚ ∙ wide) (bounded (dense file.cols ray) right.recedes) in
    absurd (against_one c (file.objs - 1) (in_orthant file minus cone (subst (IsInOrderingCone file) there right.against)).entries right.fits.last)
bounded_are_solved file x (Solved c [] points directions facets) cone feasible bounded right =
    record { c = c; points = points; directions = directions; facets = facets; same = refl }
bounded_are_solved file x (Solved c (l ∷ ls) points directions facets) cone feasible bounded right =
    absurd (no_line file l cone bounded
    (All-head (λ (k : LineGen). IsShownLine file k.d k.ray k.back) l ls right.lines_shown)
    (All-head (λ (d : List ℚ). leading d ≡ one_ℚ) l.d (map (λ (k : LineGen). k.d) ls) right.lines_are.leading_one))
