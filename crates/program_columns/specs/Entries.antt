-- The columns of the programs of the sides, as they are written: their numbers in each equation.
use Rattle.std.specs.Prelude.{ℕ, suc, ◌+◌, ◌-◌, ◌≤◌, ◌≡◌, List, [], ◌∷◌, ◌++◌, IsTrue, map, length, nat_eq, slice_index_or, if◌then◌else◌}
use Rattle.std.specs.List.{list_all}
use Rattle.exact_field.specs.Rational.{ℚ, zero_ℚ, one_ℚ, ◌+ℚ◌, neg_ℚ}
use Rattle.exact_field.specs.Vector.{entry}
use Rattle.polyhedra.specs.Negatives.{negated}
use Rattle.polyhedra.specs.Sparse.{Entry}
use Rattle.tableaux.specs.Table.{artificial_sign, column_of, listed, row_of}
use Rattle.lin_rows.specs.Lines.{Rises, entries, last_place, sum_at}
use Rattle.lin_rows.specs.declared.spots.Spot.{Spot}
use Rattle.vlp_problem.specs.declared.problem.Cone.{Cone}
use Rattle.vlp_problem.specs.declared.problem.Cone.TheVariants.{Orthant, Gens, Dual}
use Rattle.lp_form.specs.Data.{cone_of}
use Rattle.lp_form.specs.Programs.{dual_equations, dual_unknowns}
use Rattle.lp_form.specs.Shapes.{are_places}
use Rattle.lp_form.specs.declared.data.Data.{Data}

-- a number in one equation, and 0 in the others
abbrev pub single : ℕ → ℚ → ℕ → ℚ
single place x k = if nat_eq place k then x else zero_ℚ

-- the numbers of a list in the equations after `base`
abbrev pub placed : ℕ → List ℚ → ℕ → ℚ
placed base [] k = zero_ℚ
placed base (x ∷ xs) k = single (suc base) x k +ℚ placed (suc base) xs k

-- a sparse row has these numbers, and no others
pub record IsLineWith (n : ℕ) (f : ℕ → ℚ) (es : List Entry) : Type 0 where
  pub rises : Rises n 0 es
  pub sums : (k : ℕ) → sum_at es k ≡ f k

-- a sparse row gets these numbers in addition, and ends at the place `top` or before it
pub record IsLonger (n top : ℕ) (f : ℕ → ℚ) (old new : List Entry) : Type 0 where
  pub rises : Rises n 0 new
  pub last : last_place 0 new ≤ top
  pub sums : (k : ℕ) → sum_at new k ≡ sum_at old k +ℚ f k

-- the negative of each entry
abbrev pub negatives : List Entry → List Entry
negatives es = map (λ e. record { place = e.place; value = neg_ℚ e.value }) es

-- the artificial columns' entries, one for each right side
abbrev pub unit_entries : ℕ → List ℚ → List Entry
unit_entries k [] = []
unit_entries k (b ∷ right) =
    record { place = suc k; value = artificial_sign b } ∷ unit_entries (suc k) right

-- what unknown i of w has in the equations of the cone: they are on its entries, or on its
-- products with the generators
abbrev pub member : ℕ → Cone → ℕ → ℕ → ℚ
member cols Orthant i k = single (cols + i) one_ℚ k
member cols (Gens vectors) i k = placed cols (column_of vectors i) k
member cols (Dual vectors) i k = single (cols + i) one_ℚ k

-- what unknown d after w has in them
abbrev pub after_w : ℕ → Cone → ℕ → ℕ → ℚ
after_w cols Orthant d k = single (cols + d) (neg_ℚ one_ℚ) k
after_w cols (Gens vectors) d k = single (cols + d) (neg_ℚ one_ℚ) k
after_w cols (Dual vectors) d k = placed cols (negated (row_of vectors d)) k

-- how many equations Benson's program has: the last is that of the duality vector
abbrev pub benson_equations : {F : Type 0} → (F → ℚ) → Data F → ℕ
benson_equations value form =
    suc (form.cols + dual_equations (length form.p) (cone_of value form.cone))

-- what unknown i of w has in equation k
abbrev pub weight_entry : {F : Type 0} → (F → ℚ) → Data F → List F → ℕ → ℕ → ℚ
weight_entry value form c i k =
    (neg_ℚ (sum_at (entries value (slice_index_or form.p (i - 1) [])) k)
    +ℚ member form.cols (cone_of value form.cone) i k)
    +ℚ single (benson_equations value form) (entry (map value c) i) k

-- how many equations the program of a weight has, where the cone is not in dual form: the last ones
-- are those of the weight's entries
abbrev pub given_equations : {F : Type 0} → Data F → ℕ
given_equations form = form.cols + length form.p

-- what unknown i of w has in its equation k
abbrev pub given_entry : {F : Type 0} → (F → ℚ) → Data F → ℕ → ℕ → ℚ
given_entry value form i k =
    neg_ℚ (sum_at (entries value (slice_index_or form.p (i - 1) [])) k)
    +ℚ single (form.cols + i) one_ℚ k

-- the numbers of columns in equation k
abbrev pub across : {F : Type 0} → (F → ℚ) → ℕ → List (List (Spot F)) → List ℚ
across value k columns = map (λ spots. sum_at (entries value spots) k) columns

-- what the unknowns of w have in equation k, and those after it
abbrev pub weight_row : {F : Type 0} → (F → ℚ) → Data F → List F → ℕ → List ℚ
weight_row value form c k = listed (length form.p) (λ i. weight_entry value form c i k)

abbrev pub row_after_w : {F : Type 0} → (F → ℚ) → Data F → ℕ → List ℚ
row_after_w value form k =
    listed (dual_unknowns (length form.p) (cone_of value form.cone))
    (λ d. after_w form.cols (cone_of value form.cone) d k)

-- what the unknowns of w have in equation k of the program of a weight
abbrev pub given_row : {F : Type 0} → (F → ℚ) → Data F → ℕ → List ℚ
given_row value form k = listed (length form.p) (λ i. given_entry value form i k)

-- more columns of n places, which have these numbers in equation k
pub record AreAppended {F : Type 0} (value : F → ℚ) (n : ℕ) (more : ℕ → List ℚ)
    (old new : List (List (Spot F))) : Type 0 where
  pub numbers : (k : ℕ) → across value k new ≡ across value k old ++ more k
  pub places : IsTrue (list_all (are_places n 0) old) → IsTrue (list_all (are_places n 0) new)
