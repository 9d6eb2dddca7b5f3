-- How many steps the events of an entry have at most.
use Rattle.std.proofs.Common.{◌≡◌, ℕ, suc, ◌+◌, ◌*◌, ◌≤◌, ◌<◌, ◌^◌, List, [], ◌∷◌, ◌++◌, ◌∙◌, arith, Bool, true, false, ◌||◌, length, if◌then◌else◌, All, map, zip, None, zero, ◌-◌, take, drop, slice_index_or}
use Rattle.std.specs.List.{flat_map, list_all, enumerate_from}
use Rattle.std.proofs.lemmas.List.{length-map, length-take}
use Rattle.std.specs.Prelude.{Option, Some, ◌==◌}
use Rattle.entry_checks.proofs.RisingNumbers.{length-numbered, length-pieces}
use Rattle.upper_image.specs.Shows.{picked}
use Rattle.std.proofs.lemmas.List.Elements.{All-nil, All-cons, All-head, All-tail}
use Rattle.exact_field.specs.Rational.{ℚ, zero_ℚ, ◌+ℚ◌, ◌*ℚ◌, neg_ℚ}
use Rattle.exact_field.specs.Vector.{dot, entry, are_wide}
use Rattle.exact_field.specs.declared.op.Op.TheVariants as op
use Rattle.frac128.specs.Sparse.{is_zero}
use Rattle.frac128.specs.declared.vectors.Spot.{Spot}
use Rattle.polyhedra.proofs.Tests.{both_true}
use Rattle.std.proofs.lemmas.Bool.{leb-true, eqb-true}
use Rattle.exact_field.specs.Order.{same_ℚ}
use Rattle.exact_field.specs.Rational.{lt_ℚ, le_ℚ, one_ℚ}
use Rattle.std.specs.Prelude.{nat_le, nat_lt, ◌&&◌}
use Rattle.upper_image.specs.OrderingCone.{dual_of}
use Rattle.upper_image.specs.Spots.{column, pieces, dense, product}
use Rattle.upper_image.specs.UpperImage.{objective, objective_column, rest}
use Rattle.upper_image.proofs.Widths.{wide_sides, length-objective, length-rest}
use Rattle.vlp_problem.specs.Cones.{cone_fits}
use Rattle.vlp_problem.specs.Sides.{sides, side_column, side_bounds, numbers_from}
use Rattle.vlp_problem.specs.declared.problem.Problem.{Problem}
use Rattle.vlp_problem.specs.declared.problem.Cone.{Cone}
use Rattle.vlp_problem.specs.declared.problem.Cone.TheVariants.{Orthant, Gens, Dual}
use Rattle.vlp_problem.proofs.Numbers.{length-numbers}
use Rattle.frac128.specs.Held.{is_held}
use Rattle.entry_checks.proofs.Going.{places-passed}
use Rattle.vlp_matrices.proofs.Cells.{few_sides}
use Rattle.log_rules.specs.AnswerEvents.{whole_events, line_events}
use Rattle.log_rules.specs.CutEvents.{balance, farkas_events, cut_events, duality_events, follows_given, interior, inverse_steps, has_lengths, rises, all_within}
use Rattle.log_rules.specs.Events.{Event, first_failure, sum_from, dot_steps, product_steps}
use Rattle.log_rules.specs.Events.Event.{test, step}
use Rattle.log_rules.specs.Live.{duality_vector}
use Rattle.log_rules.specs.VectorEvents.{in_cone, in_feasible, in_recession, above}
use Rattle.deriv_log.specs.declared.entry.Entry.{Entry}
use Rattle.log_rules.specs.Runs.{steps}
use Rattle.log_rules.specs.declared.rule.Rule.{Rule}
use Rattle.log_rules.specs.declared.rule.Rule.TheVariants as rule
use Rattle.entry_checks.specs.Parts.{product_events, entry_events, unit_events, units_events, row_events, weight_events, quotient_events}
use Rattle.log_rules.proofs.Failures.{steps-append}

-- ---- sums
steps-sum : (t : ℚ) (fs : List (ℚ × ℚ)) → steps (sum_from t fs) ≤ 2 * length fs
steps-sum t [] = omega arith
steps-sum t ((a, b) ∷ fs) = go (is_zero a || is_zero b) (steps-sum t fs) (steps-sum (t +ℚ a *ℚ b) fs)
  where
    go : (x : Bool) → steps (sum_from t fs) ≤ 2 * length fs → steps (sum_from (t +ℚ a *ℚ b) fs) ≤ 2 * length fs →
        steps (if x then sum_from t fs else step op.Mul a b ∷ step op.Add t (a *ℚ b) ∷ sum_from (t +ℚ a *ℚ b) fs) ≤ 2 * suc (length fs)
    go true h k = omega (arith, h)
    go false h k = omega (arith, k)

zip-short : (v w : List ℚ) → length (zip v w) ≤ length v
zip-short [] w = omega arith
zip-short (x ∷ v) [] = omega arith
zip-short (x ∷ v) (y ∷ w) = let h = zip-short v w in omega (arith, h)

zip-short_right : (v w : List ℚ) → length (zip v w) ≤ length w
zip-short_right [] w = omega arith
zip-short_right (x ∷ v) [] = omega arith
zip-short_right (x ∷ v) (y ∷ w) = let h = zip-short_right v w in omega (arith, h)

pub steps-dot : (v w : List ℚ) → steps (dot_steps v w) ≤ 2 * length v
steps-dot v w = let h = steps-sum zero_ℚ (zip v w) in let k = zip-short v w in omega (arith, h, k)

pub steps-dot_right : (v w : List ℚ) → steps (dot_steps v w) ≤ 2 * length w
steps-dot_right v w = let h = steps-sum zero_ℚ (zip v w) in let k = zip-short_right v w in omega (arith, h, k)

pub steps-product : (v : List ℚ) (u : List Spot) → steps (product_steps v u) ≤ 2 * length v
steps-product v u = steps-dot v (dense (length v) u)

-- ---- items
pub steps-each : {X : Type 0} (f : X → List Event) (P : X → Type 0) (k : ℕ) → ((x : X) → P x → steps (f x) ≤ k) → (xs : List X) → All P xs →
    steps (flat_map f xs) ≤ length xs * k
steps-each f P k h [] all = omega arith
steps-each f P k h (x ∷ xs) all =
    let one = h x (All-head P x xs all) in
    let more = steps-each f P k h xs (All-tail P x xs all) in
    let both = steps-append (f x) (flat_map f xs) in
    let split : suc (length xs) * k ≡ k + length xs * k = omega arith in
    omega (arith, one, more, both, split)

pub steps-all : {X : Type 0} (f : X → List Event) (k : ℕ) → ((x : X) → steps (f x) ≤ k) → (xs : List X) → steps (flat_map f xs) ≤ length xs * k
steps-all f k h [] = omega arith
steps-all f k h (x ∷ xs) =
    let one = h x in
    let more = steps-all f k h xs in
    let both = steps-append (f x) (flat_map f xs) in
    let split : suc (length xs) * k ≡ k + length xs * k = omega arith in
    omega (arith, one, more, both, split)

-- ---- a cone
few_vectors : (n : ℕ) (vs : List (List ℚ)) → (nat_lt 0 (length vs) && (nat_le (length vs) 100000 && are_wide n vs)) ≡ true → length vs ≤ 100000
few_vectors n vs h = leb-true (length vs) 100000 (both_true (nat_le (length vs) 100000) (are_wide n vs) (both_true (nat_lt 0 (length vs)) _ h).1).0

-- steps and then a test
pub steps-tested : (A : List Event) (r : Rule) (b : Bool) (k : ℕ) → steps A ≤ k → steps (A ++ test r b ∷ []) ≤ k
steps-tested A r b k h = let both = steps-append A (test r b ∷ []) in omega (arith, both, h)

generated : (vs : List (List ℚ)) (e : List ℚ) (m : List Spot) → length vs ≤ 100000 → length e ≤ 100000 → steps (in_cone (Gens vs) e m) ≤ 20000000000
generated vs e m h k =
    let few = steps-all (λ i. entry_events vs m (entry e i) i) 200000 (λ i.
    steps-tested (product_steps (column vs i) m) _ _ 200000 (go i (steps-product (column vs i) m))) (numbers_from 1 (length e)) in
    let long = length-numbers 1 (length e) in
    omega (arith, few, long, k)
  where
    go : (i : ℕ) → steps (product_steps (column vs i) m) ≤ 2 * length (column vs i) → steps (product_steps (column vs i) m) ≤ 200000
    go i l = let wide = length-map vs (λ v. entry v i) in omega (arith, l, wide, h)

by_rows : (vs : List (List ℚ)) (e : List ℚ) (m : List Spot) → length vs ≤ 100000 → length e ≤ 100000 → steps (in_cone (Dual vs) e m) ≤ 20000000000
by_rows vs e m h k =
    let few = steps-all (product_events e) 200000 (λ v. steps-tested (dot_steps v e) _ _ 200000 (go v (steps-dot_right v e))) vs in
    omega (arith, few, h)
  where
    go : (v : List ℚ) → steps (dot_steps v e) ≤ 2 * length e → steps (dot_steps v e) ≤ 200000
    go v l = omega (arith, l, k)

pub steps-cone : (n : ℕ) (cone : Cone) (e : List ℚ) (m : List Spot) → cone_fits n cone ≡ true → length e ≤ 100000 → steps (in_cone cone e m) ≤ 20000000000
steps-cone n Orthant e m fits k = omega arith
steps-cone n (Gens vs) e m fits k = generated vs e m (few_vectors n vs fits) k
steps-cone n (Dual vs) e m fits k = by_rows vs e m (few_vectors n vs fits) k

pub steps-dual_cone : (n : ℕ) (cone : Cone) (e : List ℚ) (m : List Spot) → cone_fits n cone ≡ true → length e ≤ 100000 → steps (in_cone (dual_of cone) e m) ≤ 20000000000
steps-dual_cone n Orthant e m fits k = omega arith
steps-dual_cone n (Gens vs) e m fits k = by_rows vs e m (few_vectors n vs fits) k
steps-dual_cone n (Dual vs) e m fits k = generated vs e m (few_vectors n vs fits) k

-- ---- farkas and cut
pub steps-farkas : (file : Problem) (u : List Spot) → steps (farkas_events file u) < 2 ^ 63
steps-farkas file u =
    let h = few_sides file in
    let few = steps-all (λ j. product_steps (side_column file j) u ++ test rule.Balance (is_zero (product (side_column file j) u)) ∷ []) 800000
    (λ j. steps-tested (product_steps (side_column file j) u) _ _ 800000 (wide (side_column file j) (length-map (sides file) (λ s. entry s.normal j)) (steps-product (side_column file j) u)))
    (numbers_from 1 file.cols) in
    let long = length-numbers 1 file.cols in
    let cols = file.cols_bounded in
    let last = wide (side_bounds file) (length-map (sides file) (λ s. s.bound)) (steps-product (side_bounds file) u) in
    let first = steps-append (flat_map (λ j. product_steps (side_column file j) u ++ test rule.Balance (is_zero (product (side_column file j) u)) ∷ []) (numbers_from 1 file.cols)) (product_steps (side_bounds file) u) in
    let both = steps-append (flat_map (λ j. product_steps (side_column file j) u ++ test rule.Balance (is_zero (product (side_column file j) u)) ∷ []) (numbers_from 1 file.cols) ++ product_steps (side_bounds file) u)
    (test rule.Bound (lt_ℚ zero_ℚ (product (side_bounds file) u)) ∷ []) in
    omega (arith, few, long, cols, last, first, both)
  where
    wide : (v : List ℚ) {n : ℕ} → length v ≡ length (sides file) → n ≤ 2 * length v → n ≤ 800000
    wide v {n} e l = let h = few_sides file in omega (arith, e, l, h)

pub steps-cut : (file : Problem) (before : List Entry) (w : List ℚ) (gamma : ℚ) (u v : List Spot) → length w ≤ 100000 →
    steps (cut_events file before w gamma u v) < 2 ^ 63
steps-cut file before w gamma u v k =
    let h = few_sides file in
    let few = steps-all (balance file w u) 1000000
    (λ j. steps-tested (product_steps (side_column file j) u ++ dot_steps (objective_column file j) w) _ _ 1000000
    (column_of j (steps-append (product_steps (side_column file j) u) (dot_steps (objective_column file j) w))
    (steps-product (side_column file j) u) (length-map (sides file) (λ s. entry s.normal j)) (steps-dot_right (objective_column file j) w)))
    (numbers_from 1 file.cols) in
    let long = length-numbers 1 file.cols in
    let cols = file.cols_bounded in
    let cone = steps-dual_cone file.objs file.cone w v file.cone_vectors k in
    let scale = steps-dot w (duality_vector before) in
    let bound = steps-product (side_bounds file) u in
    let sides_long = length-map (sides file) (λ s. s.bound) in
    let B = flat_map (balance file w u) (numbers_from 1 file.cols) in
    let I = in_cone (dual_of file.cone) w v in
    let D = dot_steps w (duality_vector before) in
    let P = product_steps (side_bounds file) u in
    let first = steps-append B I in
    let second = steps-append (B ++ I) D in
    let third = steps-append (B ++ I ++ D) (test rule.Scaled (same_ℚ (dot w (duality_vector before)) one_ℚ) ∷ P) in
    let fourth = steps-append (B ++ I ++ D ++ (test rule.Scaled (same_ℚ (dot w (duality_vector before)) one_ℚ) ∷ P)) (test rule.Bound (same_ℚ (product (side_bounds file) u) gamma) ∷ []) in
    omega (arith, few, long, cols, cone, scale, bound, sides_long, first, second, third, fourth, h, k)
  where
    column_of : (j : ℕ) {n m l : ℕ} → l ≡ n + m → n ≤ 2 * length (side_column file j) → length (side_column file j) ≡ length (sides file) → m ≤ 2 * length w → l ≤ 1000000
    column_of j {n} {m} {l} e a b d = let h = few_sides file in omega (arith, e, a, b, d, h, k)

-- ---- points and directions
pub steps-feasible : (file : Problem) (x : List Spot) → steps (in_feasible file x) ≤ 80000000000
steps-feasible file x =
    let h = few_sides file in
    let few = steps-each (λ s. product_steps s.normal x ++ test rule.Side (le_ℚ s.bound (product s.normal x)) ∷ []) (λ s. length s.normal ≡ file.cols) 200000
    (λ s w. steps-tested (product_steps s.normal x) _ _ 200000 (row_of w (steps-product s.normal x))) (sides file) (wide_sides file) in
    omega (arith, few, h)
  where
    row_of : {l n : ℕ} → l ≡ file.cols → n ≤ 2 * l → n ≤ 200000
    row_of {l} {n} e a = let cols = file.cols_bounded in omega (arith, e, a, cols)

pub steps-recession : (file : Problem) (x : List Spot) → steps (in_recession file x) ≤ 80000000000
steps-recession file x =
    let h = few_sides file in
    let few = steps-each (λ s. product_steps s.normal x ++ test rule.Side (le_ℚ zero_ℚ (product s.normal x)) ∷ []) (λ s. length s.normal ≡ file.cols) 200000
    (λ s w. steps-tested (product_steps s.normal x) _ _ 200000 (row_of w (steps-product s.normal x))) (sides file) (wide_sides file) in
    omega (arith, few, h)
  where
    row_of : {l n : ℕ} → l ≡ file.cols → n ≤ 2 * l → n ≤ 200000
    row_of {l} {n} e a = let cols = file.cols_bounded in omega (arith, e, a, cols)

pub steps-above : (file : Problem) (y : List ℚ) (x m : List Spot) → length y ≡ file.objs → steps (above file y x m) ≤ 40000100000
steps-above file y x m h =
    let few = steps-all (λ i. product_steps (objective file i) x ++ step op.Sub (entry y i) (product (objective file i) x) ∷ []) 200001
    (λ i. entry_of i (steps-append (product_steps (objective file i) x) (step op.Sub (entry y i) (product (objective file i) x) ∷ []))
    (steps-product (objective file i) x) (length-objective file i)) (numbers_from 1 file.objs) in
    let long = length-numbers 1 file.objs in
    let objs = file.objs_bounded in
    let wide = length-rest file y (dense file.cols x) (omega (arith, h)) in
    let cone = steps-cone file.objs file.cone (rest file y (dense file.cols x)) m file.cone_vectors (omega (arith, wide, objs)) in
    let both = steps-append (flat_map (λ i. product_steps (objective file i) x ++ step op.Sub (entry y i) (product (objective file i) x) ∷ []) (numbers_from 1 file.objs))
    (in_cone file.cone (rest file y (dense file.cols x)) m) in
    omega (arith, few, long, objs, cone, both)
  where
    entry_of : (i : ℕ) {n l : ℕ} → l ≡ n + 1 → n ≤ 2 * length (objective file i) → length (objective file i) ≡ file.cols → l ≤ 200001
    entry_of i {n} {l} e a b = let cols = file.cols_bounded in omega (arith, e, a, b, cols)

-- ---- whole and line
pub steps-whole : (file : Problem) (c : List ℚ) (x ray m : List Spot) → length c ≡ file.objs → steps (whole_events file c x ray m) < 2 ^ 63
steps-whole file c x ray m h =
    let a = steps-feasible file x in
    let b = steps-recession file ray in
    let d = steps-above file (map neg_ℚ c) ray m (length-map c neg_ℚ ∙ h) in
    let first = steps-append (in_feasible file x) (in_recession file ray) in
    let both = steps-append (in_feasible file x ++ in_recession file ray) (above file (map neg_ℚ c) ray m) in
    omega (arith, a, b, d, first, both)

pub steps-line : (file : Problem) (ls : List (List ℚ)) (d : List ℚ) (x ray m back n : List Spot) → length d ≡ file.objs → steps (line_events file ls d x ray m back n) < 2 ^ 63
steps-line file ls d x ray m back n h =
    let a = steps-feasible file x in
    let b = steps-recession file ray in
    let e = steps-above file d ray m h in
    let f = steps-recession file back in
    let g = steps-above file (map neg_ℚ d) back n (length-map d neg_ℚ ∙ h) in
    let F = in_feasible file x in
    let R = in_recession file ray in
    let A = above file d ray m in
    let B = in_recession file back in
    let first = steps-append F R in
    let second = steps-append (F ++ R) A in
    let third = steps-append (F ++ R ++ A) B in
    let fourth = steps-append (F ++ R ++ A ++ B) (above file (map neg_ℚ d) back n) in
    omega (arith, a, b, e, f, g, first, second, third, fourth)

-- what is in the recession cone names columns
pub recession-places : (taken : ℕ) (file : Problem) (x : List Spot) → first_failure is_held (suc taken) (in_recession file x) ≡ None → All (λ s. s.at ≤ file.cols) x
recession-places taken file x h =
    places-passed taken file.cols x (flat_map (λ s. product_steps s.normal x ++ test rule.Side (le_ℚ zero_ℚ (product s.normal x)) ∷ []) (sides file)) h

-- ---- duality
pub short_pieces : (n q : ℕ) (xs : List ℚ) → All (λ p. length p ≤ q) (pieces n q xs)
short_pieces zero q xs = All-nil (λ p. length p ≤ q)
short_pieces (suc n) q xs = All-cons (λ p. length p ≤ q) (take q xs) (pieces n q (drop q xs)) (let l = length-take q xs in omega (arith, l)) (short_pieces n q (drop q xs))

pub short_numbered : (k q : ℕ) (ps : List (List ℚ)) → All (λ p. length p ≤ q) ps → All (λ p. length p.1 ≤ q) (enumerate_from k ps)
short_numbered k q [] h = All-nil (λ p. length p.1 ≤ q)
short_numbered k q (p ∷ ps) h =
    All-cons (λ a. length a.1 ≤ q) (k, p) (enumerate_from (k + 1) ps) (All-head (λ u. length u ≤ q) p ps h) (short_numbered (k + 1) q ps (All-tail (λ u. length u ≤ q) p ps h))

steps-unit : (row : List ℚ) (own : Bool) (v : List ℚ) → length row ≤ 100000 → steps (unit_events row own v) ≤ 200000
steps-unit row own v h = steps-tested (dot_steps v row) _ _ 200000 (let l = steps-dot_right v row in omega (arith, l, h))

steps-inverse : (q : ℕ) (vs : List (List ℚ)) (picks : List ℕ) (inverse : List ℚ) → q ≤ 100000 → length picks ≡ q → steps (inverse_steps q vs picks inverse) ≤ 2000000000000000
steps-inverse q vs picks inverse few h =
    let outer = steps-each (λ a. units_events (picked vs picks) a.0 a.1) (λ a. length a.1 ≤ q) 20000000000 (λ a short.
    row_of (steps-all (λ b. unit_events a.1 (a.0 == b.0) b.1) 200000 (λ b. steps-unit a.1 (a.0 == b.0) b.1 (omega (arith, short, few))) (enumerate_from 1 (picked vs picks))))
    (enumerate_from 1 (pieces q q inverse)) (short_numbered 1 q (pieces q q inverse) (short_pieces q q inverse)) in
    let many = length-numbered 1 (pieces q q inverse) in
    let rows = length-pieces q q inverse in
    omega (arith, outer, many, rows, few)
  where
    row_of : {n : ℕ} → n ≤ length (enumerate_from 1 (picked vs picks)) * 200000 → n ≤ 20000000000
    row_of {n} l =
        let many = length-numbered 1 (picked vs picks) in
        let all = length-map picks (λ k. slice_index_or vs (k - 1) []) in
        omega (arith, l, many, all, h, few)

steps-row : (c v : List ℚ) → length c ≤ 100000 → steps (row_events c v) ≤ 200000
steps-row c v h = go (list_all is_zero v)
  where
    go : (b : Bool) → steps (if b then [] else dot_steps v c ++ test rule.Interior (lt_ℚ zero_ℚ (dot v c)) ∷ []) ≤ 200000
    go true = omega arith
    go false = steps-tested (dot_steps v c) _ _ 200000 (let l = steps-dot_right v c in omega (arith, l, h))

steps-interior : (q : ℕ) (cone : Cone) (c weights : List ℚ) (picks : List ℕ) (inverse : List ℚ) → q ≤ 100000 → length c ≡ q → cone_fits q cone ≡ true →
    has_lengths q cone weights picks inverse ≡ true → steps (interior q cone c weights picks inverse) ≤ 2000020000000000
steps-interior q Orthant c weights picks inverse few h fits l = omega arith
steps-interior q (Dual vs) c weights picks inverse few h fits l =
    let rows = steps-all (row_events c) 200000 (λ v. steps-row c v (omega (arith, h, few))) vs in
    let short = few_vectors q vs fits in
    omega (arith, rows, short)
steps-interior q (Gens vs) c weights picks inverse few h fits l =
    let short = few_vectors q vs fits in
    let a = both_true (length weights == length vs && length picks == q) (length inverse == q * q) l in
    let b = both_true (length weights == length vs) (length picks == q) a.0 in
    let sums = steps-all (λ i. weight_events vs weights (entry c i) i) 200000 (λ i. steps-tested (dot_steps (column vs i) weights) _ _ 200000 (column_of i (steps-dot (column vs i) weights) short)) (numbers_from 1 q) in
    let long = length-numbers 1 q in
    let inv = steps-inverse q vs picks inverse few (eqb-true (length picks) q b.1) in
    let both = steps-append (flat_map (λ i. weight_events vs weights (entry c i) i) (numbers_from 1 q)) (test rule.Index (rises picks && all_within (length vs) picks) ∷ inverse_steps q vs picks inverse) in
    omega (arith, sums, long, inv, both, few)
  where
    column_of : (i : ℕ) {n : ℕ} → n ≤ 2 * length (column vs i) → length vs ≤ 100000 → n ≤ 200000
    column_of i {n} e s = let wide = length-map vs (λ v. entry v i) in omega (arith, e, wide, s)

steps-quotients : (q : ℕ) (f c : List ℚ) → q ≤ 100000 → steps (flat_map (λ i. quotient_events (entry f q) (entry f i) (entry c i)) (numbers_from 1 q)) ≤ 100000
steps-quotients q f c few =
    let all = steps-all (λ i. quotient_events (entry f q) (entry f i) (entry c i)) 1 (λ i. omega arith) (numbers_from 1 q) in
    let long = length-numbers 1 q in
    omega (arith, all, long, few)

steps-follow : (q : ℕ) (cone : Cone) (f : Option (List ℚ)) (c : List ℚ) → q ≤ 100000 → steps (follows_given q cone f c) ≤ 100000
steps-follow q Orthant None c few = omega arith
steps-follow q (Gens vs) None c few = omega arith
steps-follow q (Dual vs) None c few = omega arith
steps-follow q Orthant (Some f) c few = steps-quotients q f c few
steps-follow q (Gens vs) (Some f) c few = steps-quotients q f c few
steps-follow q (Dual vs) (Some f) c few = steps-quotients q f c few

pub steps-duality : (file : Problem) (c weights : List ℚ) (picks : List ℕ) (inverse : List ℚ) → length c ≡ file.objs →
    has_lengths file.objs file.cone weights picks inverse ≡ true → steps (duality_events file c weights picks inverse) < 2 ^ 63
steps-duality file c weights picks inverse h l =
    let few = file.objs_bounded in
    let a = steps-follow file.objs file.cone file.duality c few in
    let b = steps-interior file.objs file.cone c weights picks inverse few h file.cone_vectors l in
    let both = steps-append (follows_given file.objs file.cone file.duality c) (interior file.objs file.cone c weights picks inverse) in
    omega (arith, a, b, both)
