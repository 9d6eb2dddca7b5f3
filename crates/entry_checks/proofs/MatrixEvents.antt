-- The events of an entry, as code goes through them by the rows and the columns of matrices.
use Rattle.std.proofs.Common.{◌≡◌, ◌≢◌, ℕ, zero, suc, ◌+◌, ◌-◌, ◌<◌, ◌≤◌, List, [], ◌∷◌, ◌++◌, refl, sym, ap, ap₂, ◌∙◌, subst, arith, Bool, true, false, length, map, if◌then◌else◌, All, nat_eq, replicate, ◌==◌}
use Rattle.std.specs.Prelude.{Some}
use Rattle.std.specs.List.{flat_map, zip}
use Rattle.std.proofs.Math.ListN.{set}
use Rattle.std.specs.Ordering.{as_partial_cmp, partial_le}
use Rattle.std.specs.declared.cmp.Ordering.TheVariants.{Less, Equal, Greater}
use Rattle.std.proofs.lemmas.Bool.{eq-eqb, ne_eqb}
use Rattle.std.proofs.lemmas.List.{length-map, append_assoc}
use Rattle.std.proofs.lemmas.List.Elements.{All-head, All-tail}
use Rattle.std.proofs.lemmas.List.Folds.{flat_map-map}
use Rattle.exact_field.specs.Order.{same_ℚ, cmp_ℚ}
use Rattle.exact_field.specs.Rational.{ℚ, zero_ℚ, one_ℚ, le_ℚ, lt_ℚ, neg_ℚ, ◌-ℚ◌}
use Rattle.exact_field.specs.Vector.{dot, entry}
use Rattle.exact_field.specs.declared.op.Op.TheVariants as op
use Rattle.frac128.specs.Sparse.{is_zero}
use Rattle.frac128.specs.declared.vectors.Spot.{Spot}
use Rattle.polyhedra.specs.Sparse.{value_at, values_from}
use Rattle.polyhedra.specs.Vectors.{plus, values}
use Rattle.upper_image.specs.Spots.{IsVector, dense, product, entry_of}
use Rattle.upper_image.specs.UpperImage.{objective, objectives, objective_column, rest}
use Rattle.upper_image.proofs.Widths.{wide_sides, length-objective, entry-made}
use Rattle.log_rules.proofs.ByEntries.{same_entries, entry-suc}
use Rattle.log_rules.specs.CutEvents.{balance, farkas_events, cut_events, follows_given}
use Rattle.log_rules.specs.Events.{Event, dot_steps, product_steps}
use Rattle.log_rules.specs.VectorEvents.{places_within, in_feasible, in_recession, in_cone, above, values_positive}
use Rattle.log_rules.specs.Live.{duality_vector}
use Rattle.deriv_log.specs.declared.entry.Entry.{Entry}
use Rattle.upper_image.specs.OrderingCone.{dual_of}
use Rattle.log_rules.specs.Events.Event.{test, step}
use Rattle.log_rules.specs.declared.rule.Rule.TheVariants as rule
use Rattle.vlp_problem.specs.Sides.{sides, side_column, side_bounds, numbers_from}
use Rattle.vlp_problem.specs.declared.problem.Problem.{Problem}
use Rattle.entry_checks.specs.Parts.{side_events, sides_events, recession_events, difference_events, rest_events, balance_events, balances_events, vanishing_events, contradiction_events, positive_events, bound_events, scaled_events, follow_events, quotient_events}
use Rattle.polyhedra.proofs.Tests.{not_true}
use Rattle.polyhedra.proofs.Laws.{le_refl}
use Rattle.vlp_problem.specs.declared.problem.Cone.{Cone}
use Rattle.vlp_problem.specs.declared.problem.Cone.TheVariants.{Orthant, Gens, Dual}
use Rattle.vlp_problem.proofs.Numbers.{length-numbers}
use Rattle.vlp_matrices.specs.Matrices.{AreMatricesOf}
use Rattle.vlp_matrices.specs.declared.matrices.Matrices.{Matrices}

-- ---- numbers
-- the test that code makes by the order of fractions
pub le-tells : (p q : ℚ) → partial_le (as_partial_cmp cmp_ℚ) p q ≡ le_ℚ p q
le-tells p q = go (le_ℚ p q) (le_ℚ q p)
  where
    go : (x y : Bool) → partial_le {X = ℚ} (λ a b. Some (if x then (if y then Equal else Less) else Greater)) p q ≡ x
    go true true = refl
    go true false = refl
    go false y = refl

-- ---- a sparse vector, written entry by entry
same_values : (n k : ℕ) (f g : ℕ → ℚ) → ((j : ℕ) → k ≤ j → f j ≡ g j) → values_from n k f ≡ values_from n k g
same_values zero k f g h = refl
same_values (suc n) k f g h = ap₂ (λ a b. a ∷ b) (h k (omega arith)) (same_values n (suc k) f g (λ j l. h j (omega (arith, l))))

unlike : (s j : ℕ) (v w : ℚ) → s ≢ j → (if nat_eq s j then v else w) ≡ w
unlike s j v w h = ap (λ (b : Bool). if b then v else w) (ne_eqb s j h)

set-values : (n k p s : ℕ) (f : ℕ → ℚ) (v : ℚ) → s ≡ k + p → p < n → set (values_from n k f) p v ≡ values_from n k (λ j. if nat_eq s j then v else f j)
set-values zero k p s f v e h = absurd (omega (arith, h))
set-values (suc n) k zero s f v e h =
    ap₂ (λ a b. a ∷ b) (sym (ap (λ (b : Bool). if b then v else f k) (eq-eqb s k (omega (arith, e)))))
    (same_values n (suc k) f (λ j. if nat_eq s j then v else f j) (λ j l. sym (unlike s j v (f j) (λ q. omega (arith, q, e, l)))))
set-values (suc n) k (suc p) s f v e h =
    ap₂ (λ a b. a ∷ b) (sym (unlike s k v (f k) (λ q. omega (arith, q, e))))
    (set-values n (suc k) p s f v (omega (arith, e)) (omega (arith, h)))

pub set-dense : (n : ℕ) (s : Spot) (spots : List Spot) → 1 ≤ s.at → s.at ≤ n → set (dense n spots) (s.at - 1) s.value ≡ dense n (s ∷ spots)
set-dense n s spots low high = set-values n 1 (s.at - 1) s.at (value_at (map entry_of spots)) s.value (omega (arith, low)) (omega (arith, low, high))

pub none-dense : (n : ℕ) → replicate n zero_ℚ ≡ dense n []
none-dense n = go n 1
  where
    go : (m k : ℕ) → replicate m zero_ℚ ≡ values_from m k (λ _. zero_ℚ)
    go zero k = refl
    go (suc m) k = ap (λ v. zero_ℚ ∷ v) (go m (suc k))

-- ---- lists
pub flat_map-same : {X A : Type 0} (f g : X → List A) (P : X → Type 0) → ((x : X) → P x → f x ≡ g x) → (xs : List X) → All P xs → flat_map f xs ≡ flat_map g xs
flat_map-same f g P h [] all = refl
flat_map-same {X} {A} f g P h (x ∷ xs) all =
    ap₂ (λ (a b : List A). a ++ b) (h x (All-head P x xs all)) (flat_map-same f g P h xs (All-tail P x xs all))

pub flat_map-equal : {X A : Type 0} (f g : X → List A) → ((x : X) → f x ≡ g x) → (xs : List X) → flat_map f xs ≡ flat_map g xs
flat_map-equal f g h [] = refl
flat_map-equal {X} {A} f g h (x ∷ xs) = ap₂ (λ (a b : List A). a ++ b) (h x) (flat_map-equal f g h xs)

pub zip-maps : {X Y Z : Type 0} (f : X → Y) (g : X → Z) (xs : List X) → zip (map f xs) (map g xs) ≡ map (λ x. (f x, g x)) xs
zip-maps f g [] = refl
zip-maps f g (x ∷ xs) = ap (λ ps. (f x, g x) ∷ ps) (zip-maps f g xs)

entries-made : (y : List ℚ) (n : ℕ) → length y ≡ n → map (entry y) (numbers_from 1 n) ≡ y
entries-made y n h =
    same_entries (map (entry y) (numbers_from 1 n)) y (length-map (numbers_from 1 n) (entry y) ∙ length-numbers 1 n ∙ sym h)
    (λ i l. sym (entry-suc (map (entry y) (numbers_from 1 n)) i) ∙ entry-made (entry y) n (suc i) (omega arith) (omega (arith, l, h)) ∙ entry-suc y i)

-- ---- sides
side_as : (n : ℕ) (v : List ℚ) (bound : ℚ) (x : List Spot) → length v ≡ n →
    side_events v (dense n x) bound ≡ product_steps v x ++ test rule.Side (le_ℚ bound (product v x)) ∷ []
side_as n v bound x h = ap (λ (k : ℕ). side_events v (dense k x) bound) (sym h)

pub feasible-matrices : (file : Problem) (matrices : Matrices) (x : List Spot) → AreMatricesOf file matrices →
    in_feasible file x ≡ places_within file.cols x ∷ sides_events (map (dense file.cols) matrices.sides.rows) matrices.bounds (dense file.cols x)
feasible-matrices file matrices x h =
    ap (λ es. places_within file.cols x ∷ es)
    (sym (ap₂ (λ vs bs. sides_events vs bs (dense file.cols x)) h.side_rows.stand h.bounds
    ∙ ap (λ ps. flat_map (λ p. side_events p.0 (dense file.cols x) p.1) ps) (zip-maps (λ s. s.normal) (λ s. s.bound) (sides file))
    ∙ flat_map-map (λ p. side_events p.0 (dense file.cols x) p.1) (λ s. (s.normal, s.bound)) (sides file)
    ∙ flat_map-same _ _ _ (λ s w. side_as file.cols s.normal s.bound x w) (sides file) (wide_sides file)))

pub recession-matrices : (file : Problem) (matrices : Matrices) (x : List Spot) → AreMatricesOf file matrices →
    in_recession file x ≡ places_within file.cols x ∷ recession_events (map (dense file.cols) matrices.sides.rows) (dense file.cols x)
recession-matrices file matrices x h =
    ap (λ es. places_within file.cols x ∷ es)
    (sym (ap (λ vs. recession_events vs (dense file.cols x)) h.side_rows.stand
    ∙ flat_map-map (λ v. side_events v (dense file.cols x) zero_ℚ) (λ s. s.normal) (sides file)
    ∙ flat_map-same _ _ _ (λ s w. side_as file.cols s.normal zero_ℚ x w) (sides file) (wide_sides file)))

-- ---- the image
difference_as : (n : ℕ) (v : List ℚ) (y : ℚ) (x : List Spot) → length v ≡ n →
    difference_events v (dense n x) y ≡ product_steps v x ++ step op.Sub y (product v x) ∷ []
difference_as n v y x h = ap (λ (k : ℕ). difference_events v (dense k x) y) (sym h)

pub above-matrices : (file : Problem) (matrices : Matrices) (y : List ℚ) (x m : List Spot) → AreMatricesOf file matrices → length y ≡ file.objs →
    above file y x m ≡ rest_events (map (dense file.cols) matrices.objectives.rows) y (dense file.cols x) ++ in_cone file.cone (rest file y (dense file.cols x)) m
above-matrices file matrices y x m h w =
    ap (λ es. es ++ in_cone file.cone (rest file y (dense file.cols x)) m)
    (sym (ap₂ (λ vs z. rest_events vs z (dense file.cols x)) h.objective_rows.stand (sym (entries-made y file.objs w))
    ∙ ap (λ ps. flat_map (λ p. difference_events p.0 (dense file.cols x) p.1) ps) (zip-maps (objective file) (entry y) (numbers_from 1 file.objs))
    ∙ flat_map-map (λ p. difference_events p.0 (dense file.cols x) p.1) (λ i. (objective file i, entry y i)) (numbers_from 1 file.objs)
    ∙ flat_map-equal _ _ (λ i. difference_as file.cols (objective file i) (entry y i) x (length-objective file i)) (numbers_from 1 file.objs)))

rest-zip : (rows : List (List ℚ)) (y x : List ℚ) → length rows ≡ length y →
    map (λ p. p.1 -ℚ dot p.0 x) (zip rows y) ≡ plus y (map neg_ℚ (values rows x))
rest-zip [] [] x h = refl
rest-zip [] (b ∷ y) x h = absurd (omega (arith, h))
rest-zip (r ∷ rows) [] x h = absurd (omega (arith, h))
rest-zip (r ∷ rows) (b ∷ y) x h = ap (λ v. (b -ℚ dot r x) ∷ v) (rest-zip rows y x (omega (arith, h)))

pub rest-matrices : (file : Problem) (matrices : Matrices) (y : List ℚ) (x : List Spot) → AreMatricesOf file matrices → length y ≡ file.objs →
    map (λ p. p.1 -ℚ dot p.0 (dense file.cols x)) (zip (map (dense file.cols) matrices.objectives.rows) y) ≡ rest file y (dense file.cols x)
rest-matrices file matrices y x h w =
    ap (λ (vs : List (List ℚ)). map (λ p. p.1 -ℚ dot p.0 (dense file.cols x)) (zip vs y)) h.objective_rows.stand
    ∙ rest-zip (objectives file) y (dense file.cols x) (length-map (numbers_from 1 file.objs) (objective file) ∙ length-numbers 1 file.objs ∙ sym w)

pub rows-objectives : (file : Problem) (matrices : Matrices) → AreMatricesOf file matrices → length matrices.objectives.rows ≡ file.objs
rows-objectives file matrices h =
    sym (length-map matrices.objectives.rows (dense file.cols)) ∙ ap (λ (vs : List (List ℚ)). length vs) h.objective_rows.stand
    ∙ length-map (numbers_from 1 file.objs) (objective file) ∙ length-numbers 1 file.objs

pub rows-bounds : (file : Problem) (matrices : Matrices) → AreMatricesOf file matrices → length matrices.sides.rows ≡ length matrices.bounds
rows-bounds file matrices h =
    sym (length-map matrices.sides.rows (dense file.cols)) ∙ ap (λ (vs : List (List ℚ)). length vs) h.side_rows.stand
    ∙ length-map (sides file) (λ s. s.normal) ∙ sym (length-map (sides file) (λ s. s.bound)) ∙ ap (λ (bs : List ℚ). length bs) (sym h.bounds)

-- ---- what code holds, for what the events say
pub vectors-as : (n : ℕ) (A D : List ℚ) (R R' : List (List Spot)) → A ≡ D → length D ≡ n → R ≡ R' → All (IsVector n) R' → All (IsVector (length A)) R
vectors-as n A D R R' a d r h =
    subst (λ (us : List (List Spot)). All (IsVector (length A)) us) (sym r) (subst (λ (k : ℕ). All (IsVector k) R') (sym (ap (λ (v : List ℚ). length v) a ∙ d)) h)

pub sides-as : (n : ℕ) (A D : List ℚ) (R R' : List (List Spot)) (B B' : List ℚ) → A ≡ D → length D ≡ n → R ≡ R' → B ≡ B' →
    sides_events (map (dense (length A)) R) B A ≡ sides_events (map (dense n) R') B' D
sides-as n A D R R' B B' a d r b =
    ap (λ (v : List ℚ). sides_events (map (dense (length v)) R) B v) a ∙ ap (λ (k : ℕ). sides_events (map (dense k) R) B D) d
    ∙ ap₂ (λ (us : List (List Spot)) (bs : List ℚ). sides_events (map (dense n) us) bs D) r b

pub recession-as : (n : ℕ) (A D : List ℚ) (R R' : List (List Spot)) → A ≡ D → length D ≡ n → R ≡ R' →
    recession_events (map (dense (length A)) R) A ≡ recession_events (map (dense n) R') D
recession-as n A D R R' a d r =
    ap (λ (v : List ℚ). recession_events (map (dense (length v)) R) v) a ∙ ap (λ (k : ℕ). recession_events (map (dense k) R) D) d
    ∙ ap (λ (us : List (List Spot)). recession_events (map (dense n) us) D) r

pub rest-as : (n : ℕ) (A D : List ℚ) (R R' : List (List Spot)) (y : List ℚ) → A ≡ D → length D ≡ n → R ≡ R' →
    rest_events (map (dense (length A)) R) y A ≡ rest_events (map (dense n) R') y D
rest-as n A D R R' y a d r =
    ap (λ (v : List ℚ). rest_events (map (dense (length v)) R) y v) a ∙ ap (λ (k : ℕ). rest_events (map (dense k) R) y D) d
    ∙ ap (λ (us : List (List Spot)). rest_events (map (dense n) us) y D) r

abbrev pub differences_of : List (List ℚ) → List ℚ → List ℚ → List ℚ
differences_of vs y x = map (λ p. p.1 -ℚ dot p.0 x) (zip vs y)

pub differences-as : (n : ℕ) (A D : List ℚ) (R R' : List (List Spot)) (y : List ℚ) → A ≡ D → length D ≡ n → R ≡ R' →
    differences_of (map (dense (length A)) R) y A ≡ differences_of (map (dense n) R') y D
differences-as n A D R R' y a d r =
    ap (λ (v : List ℚ). differences_of (map (dense (length v)) R) y v) a ∙ ap (λ (k : ℕ). differences_of (map (dense k) R) y D) d
    ∙ ap (λ (us : List (List Spot)). differences_of (map (dense n) us) y D) r

-- ---- columns
length-side_column : (file : Problem) (j : ℕ) → length (side_column file j) ≡ length (sides file)
length-side_column file j = length-map (sides file) (λ s. entry s.normal j)

balance_as : (file : Problem) (w : List ℚ) (u : List Spot) (j : ℕ) →
    balance_events (side_column file j) (objective_column file j) (dense (length (sides file)) u) w ≡ balance file w u j
balance_as file w u j = ap (λ (k : ℕ). balance_events (side_column file j) (objective_column file j) (dense k u) w) (sym (length-side_column file j))

pub balances-matrices : (file : Problem) (matrices : Matrices) (w : List ℚ) (u : List Spot) → AreMatricesOf file matrices →
    flat_map (balance file w u) (numbers_from 1 file.cols)
    ≡ balances_events (map (dense (length (sides file))) matrices.sides.columns) (map (dense file.objs) matrices.objectives.columns) (dense (length (sides file)) u) w
balances-matrices file matrices w u h =
    sym (ap₂ (λ gs ps. balances_events gs ps (dense (length (sides file)) u) w) h.side_columns.stand h.objective_columns.stand
    ∙ ap (λ ps. flat_map (λ p. balance_events p.0 p.1 (dense (length (sides file)) u) w) ps) (zip-maps (side_column file) (objective_column file) (numbers_from 1 file.cols))
    ∙ flat_map-map (λ p. balance_events p.0 p.1 (dense (length (sides file)) u) w) (λ j. (side_column file j, objective_column file j)) (numbers_from 1 file.cols)
    ∙ flat_map-equal _ _ (balance_as file w u) (numbers_from 1 file.cols))

pub contradiction-matrices : (file : Problem) (matrices : Matrices) (u : List Spot) → AreMatricesOf file matrices →
    flat_map (λ j. product_steps (side_column file j) u ++ test rule.Balance (is_zero (product (side_column file j) u)) ∷ []) (numbers_from 1 file.cols)
    ≡ contradiction_events (map (dense (length (sides file))) matrices.sides.columns) (dense (length (sides file)) u)
contradiction-matrices file matrices u h =
    sym (ap (λ gs. contradiction_events gs (dense (length (sides file)) u)) h.side_columns.stand
    ∙ flat_map-map (vanishing_events (dense (length (sides file)) u)) (side_column file) (numbers_from 1 file.cols)
    ∙ flat_map-equal _ _ (λ j. ap (λ (k : ℕ). vanishing_events (dense k u) (side_column file j)) (sym (length-side_column file j))) (numbers_from 1 file.cols))

pub contradiction-as : (n : ℕ) (A D : List ℚ) (R R' : List (List Spot)) → A ≡ D → length D ≡ n → R ≡ R' →
    contradiction_events (map (dense (length A)) R) A ≡ contradiction_events (map (dense n) R') D
contradiction-as n A D R R' a d r =
    ap (λ (v : List ℚ). contradiction_events (map (dense (length v)) R) v) a ∙ ap (λ (k : ℕ). contradiction_events (map (dense k) R) D) d
    ∙ ap (λ (us : List (List Spot)). contradiction_events (map (dense n) us) D) r

pub balances-as : (n q : ℕ) (A D w : List ℚ) (R R' P P' : List (List Spot)) → A ≡ D → length D ≡ n → length w ≡ q → R ≡ R' → P ≡ P' →
    balances_events (map (dense (length A)) R) (map (dense (length w)) P) A w ≡ balances_events (map (dense n) R') (map (dense q) P') D w
balances-as n q A D w R R' P P' a d e r p =
    ap (λ (v : List ℚ). balances_events (map (dense (length v)) R) (map (dense (length w)) P) v w) a
    ∙ ap₂ (λ (k j : ℕ). balances_events (map (dense k) R) (map (dense j) P) D w) d e
    ∙ ap₂ (λ (us vs : List (List Spot)). balances_events (map (dense n) us) (map (dense q) vs) D w) r p

pub columns-columns : (file : Problem) (matrices : Matrices) → AreMatricesOf file matrices → length matrices.sides.columns ≡ length matrices.objectives.columns
columns-columns file matrices h =
    sym (length-map matrices.sides.columns (dense (length (sides file)))) ∙ ap (λ (vs : List (List ℚ)). length vs) h.side_columns.stand
    ∙ length-map (numbers_from 1 file.cols) (side_column file) ∙ sym (length-map (numbers_from 1 file.cols) (objective_column file))
    ∙ ap (λ (vs : List (List ℚ)). length vs) (sym h.objective_columns.stand) ∙ length-map matrices.objectives.columns (dense file.objs)

pub length-bounds : (file : Problem) (matrices : Matrices) → AreMatricesOf file matrices → length matrices.bounds ≡ length (sides file)
length-bounds file matrices h = ap (λ (bs : List ℚ). length bs) h.bounds ∙ length-map (sides file) (λ s. s.bound)

-- ---- the parts of entries, one after the other
farkas-parts : (a b e : Event) (B P : List Event) → ((a ∷ b ∷ B) ++ P) ++ (e ∷ []) ≡ a ∷ b ∷ (B ++ (P ++ e ∷ []))
farkas-parts a b e B P = ap (λ es. a ∷ b ∷ es) (append_assoc B P (e ∷ []))

cut-parts : (a b c s e : Event) (B I D P : List Event) →
    ((((a ∷ b ∷ c ∷ B) ++ I) ++ D) ++ (s ∷ P)) ++ (e ∷ []) ≡ a ∷ b ∷ c ∷ (B ++ (I ++ ((D ++ s ∷ []) ++ (P ++ e ∷ []))))
cut-parts a b c s e B I D P =
    append_assoc (((a ∷ b ∷ c ∷ B) ++ I) ++ D) (s ∷ P) (e ∷ [])
    ∙ append_assoc ((a ∷ b ∷ c ∷ B) ++ I) D ((s ∷ P) ++ e ∷ [])
    ∙ append_assoc (a ∷ b ∷ c ∷ B) I (D ++ ((s ∷ P) ++ e ∷ []))
    ∙ ap (λ (es : List Event). a ∷ b ∷ c ∷ (B ++ (I ++ es))) (sym (append_assoc D (s ∷ []) (P ++ e ∷ [])))

pub farkas-matrices : (file : Problem) (matrices : Matrices) (u : List Spot) → AreMatricesOf file matrices →
    farkas_events file u
    ≡ places_within (length (sides file)) u ∷ values_positive u
    ∷ (contradiction_events (map (dense (length (sides file))) matrices.sides.columns) (dense (length (sides file)) u) ++ positive_events (side_bounds file) u)
farkas-matrices file matrices u h =
    farkas-parts (places_within (length (sides file)) u) (values_positive u) (test rule.Bound (lt_ℚ zero_ℚ (product (side_bounds file) u)))
    (flat_map (λ j. product_steps (side_column file j) u ++ test rule.Balance (is_zero (product (side_column file j) u)) ∷ []) (numbers_from 1 file.cols))
    (product_steps (side_bounds file) u)
    ∙ ap (λ (es : List Event). places_within (length (sides file)) u ∷ values_positive u ∷ (es ++ positive_events (side_bounds file) u)) (contradiction-matrices file matrices u h)

pub cut-matrices : (file : Problem) (matrices : Matrices) (before : List Entry) (c w : List ℚ) (gamma : ℚ) (u v : List Spot) → AreMatricesOf file matrices → duality_vector before ≡ c →
    cut_events file before w gamma u v
    ≡ test rule.Length (length w == file.objs) ∷ places_within (length (sides file)) u ∷ values_positive u
    ∷ (balances_events (map (dense (length (sides file))) matrices.sides.columns) (map (dense file.objs) matrices.objectives.columns) (dense (length (sides file)) u) w
    ++ (in_cone (dual_of file.cone) w v ++ (scaled_events w c ++ bound_events (side_bounds file) u gamma)))
cut-matrices file matrices before c w gamma u v h given =
    cut-parts (test rule.Length (length w == file.objs)) (places_within (length (sides file)) u) (values_positive u)
    (test rule.Scaled (same_ℚ (dot w (duality_vector before)) one_ℚ)) (test rule.Bound (same_ℚ (product (side_bounds file) u) gamma))
    (flat_map (balance file w u) (numbers_from 1 file.cols)) (in_cone (dual_of file.cone) w v) (dot_steps w (duality_vector before)) (product_steps (side_bounds file) u)
    ∙ ap₂ (λ (es : List Event) (d : List ℚ). test rule.Length (length w == file.objs) ∷ places_within (length (sides file)) u ∷ values_positive u
    ∷ (es ++ (in_cone (dual_of file.cone) w v ++ (scaled_events w d ++ bound_events (side_bounds file) u gamma))))
    (balances-matrices file matrices w u h) given

pub line-parts : (a b : Event) (F R A B C : List Event) → ((((a ∷ b ∷ F) ++ R) ++ A) ++ B) ++ C ≡ a ∷ b ∷ (F ++ (R ++ (A ++ (B ++ C))))
line-parts a b F R A B C =
    append_assoc (((a ∷ b ∷ F) ++ R) ++ A) B C ∙ append_assoc ((a ∷ b ∷ F) ++ R) A (B ++ C) ∙ append_assoc (a ∷ b ∷ F) R (A ++ (B ++ C))

-- ---- duality
pub follow-as : (f c : List ℚ) (cone : Cone) → length f ≡ length c → follow_events f c ≡ follows_given (length c) cone (Some f) c
follow-as f c Orthant h = ap (λ (n : ℕ). test rule.Scaled (lt_ℚ zero_ℚ (entry f n)) ∷ flat_map (λ i. quotient_events (entry f n) (entry f i) (entry c i)) (numbers_from 1 n)) h
follow-as f c (Gens vs) h = ap (λ (n : ℕ). test rule.Scaled (lt_ℚ zero_ℚ (entry f n)) ∷ flat_map (λ i. quotient_events (entry f n) (entry f i) (entry c i)) (numbers_from 1 n)) h
follow-as f c (Dual vs) h = ap (λ (n : ℕ). test rule.Scaled (lt_ℚ zero_ℚ (entry f n)) ∷ flat_map (λ i. quotient_events (entry f n) (entry f i) (entry c i)) (numbers_from 1 n)) h

pub positive-other : (d : ℚ) → lt_ℚ zero_ℚ d ≡ true → d ≢ zero_ℚ
positive-other d h e = not_true (le_ℚ zero_ℚ zero_ℚ) (ap (λ (z : ℚ). lt_ℚ zero_ℚ z) (sym e) ∙ h) (le_refl zero_ℚ)
