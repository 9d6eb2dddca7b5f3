-- The equations of Benson's program at a solution u, a, b, h, where w is a - b: the sides times u less the objectives times w, what the
-- ordering cone asks of w and h, and w . c.
use Rattle.std.proofs.Common.{◌≡◌, ℕ, List, [], ◌∷◌, ◌++◌, length, sym, ap, ap₂, ◌∙◌, arith, ◌≤◌, ◌-◌}
use Rattle.std.proofs.lemmas.List.{map-append, length-map}
use Rattle.exact_field.specs.Rational.{ℚ, zero_ℚ, ◌+ℚ◌, neg_ℚ}
use Rattle.exact_field.specs.Vector.{dot, entry}
use Rattle.polyhedra.specs.Negatives.{negated}
use Rattle.polyhedra.specs.Vectors.{zeros, plus, combination, values}
use Rattle.polyhedra.proofs.Laws.{add_zero, add_assoc}
use Rattle.polyhedra.proofs.Algebra.{zero_add}
use Rattle.polyhedra.proofs.Linear.{dot_comm, dot-zeros, length-combination, length-plus, length-zeros}
use Rattle.polyhedra.proofs.Entries.{entry-negated}
use Rattle.polyhedra.proofs.Negatives.{dot-negated_left}
use Rattle.tableaux.specs.Table.{Table, row_of, column_of, listed, unit, minus}
use Rattle.tableaux.proofs.Definition.{value_at}
use Rattle.tableaux.proofs.Found.{map-list_from}
use Rattle.tableaux.proofs.Places.{entry-plus, listed-is, row-wide}
use Rattle.tableaux.proofs.Unique.{dot-unit, entry-combination}
use Rattle.vlp_problem.specs.Sides.{side_column, numbers_from}
use Rattle.vlp_problem.specs.declared.problem.Problem.{Problem}
use Rattle.vlp_problem.specs.declared.problem.Cone.{Cone}
use Rattle.vlp_problem.specs.declared.problem.Cone.TheVariants.{Orthant, Gens, Dual}
use Rattle.vlp_problem.proofs.Numbers.{length-numbers}
use Rattle.upper_image.specs.UpperImage.{normals, objectives, objective_column}
use Rattle.upper_image.proofs.Widths.{wide_normals, wide_objectives, objective_columns, side_columns}
use Rattle.lp_form.specs.Programs.{side_total, on_parts, balances, dual_members, dual_unknowns, dual_equations}
use Rattle.lp_form.proofs.Systems.{IsWideCone, length-unit, length-negated, length-side_column}
use Rattle.overflows.proofs.Violated.{length-minus}
use Rattle.benson_program.proofs.Vectors.{dot-parts, dot-minus}

-- ---- one equation
pub on_parts-value : (p w k u a b h : List ℚ) → length p ≡ length u → length w ≡ length a → length w ≡ length b →
    dot (on_parts p w k) (u ++ a ++ b ++ h) ≡ dot p u +ℚ dot w (minus a b) +ℚ dot k h
on_parts-value p w k u a b h i j l =
    dot-parts p w (negated w) k u a b h i j (length-map w neg_ℚ ∙ l)
    ∙ ap (λ x. x +ℚ dot k h)
    (ap (λ x. dot p u +ℚ dot w a +ℚ x) (dot-negated_left w b) ∙ add_assoc (dot p u) (dot w a) (neg_ℚ (dot w b))
    ∙ ap (λ x. dot p u +ℚ x) (sym (dot-minus w a b (sym j ∙ l))))

none_left : (n : ℕ) (v : List ℚ) → dot (zeros n) v ≡ zero_ℚ
none_left n v = dot_comm (zeros n) v ∙ dot-zeros v n

-- rows by the function that numbers them, at z
pub values_listed : (n : ℕ) (f : ℕ → List ℚ) (z v : List ℚ) → length v ≡ n → ((j : ℕ) → 1 ≤ j → j ≤ n → dot (f j) z ≡ entry v j) → values (listed n f) z ≡ v
values_listed n f z v long h = map-list_from (λ r. dot r z) 1 n f ∙ listed-is n (λ j. dot (f j) z) v long h

-- ---- what the cone asks
-- the equations of the cone ask that the first is the second: w, or its products with the generators; and what stands after it, or the
-- combination of the dual form's vectors by it
abbrev pub asked : Cone → List ℚ → List ℚ
asked Orthant w = w
asked (Gens vectors) w = values vectors w
asked (Dual vectors) w = w

abbrev pub given : ℕ → Cone → List ℚ → List ℚ
given q Orthant h = h
given q (Gens vectors) h = h
given q (Dual vectors) h = combination q h vectors

pub length-asked : (q : ℕ) (cone : Cone) (w : List ℚ) → length w ≡ q → length (asked cone w) ≡ dual_equations q cone
length-asked q Orthant w l = l
length-asked q (Gens vectors) w l = length-map vectors (λ v. dot v w)
length-asked q (Dual vectors) w l = l

pub length-given : (q : ℕ) (cone : Cone) (h : List ℚ) → IsWideCone q cone → length h ≡ dual_unknowns q cone → length (given q cone h) ≡ dual_equations q cone
length-given q Orthant h wide l = l
length-given q (Gens vectors) h wide l = l
length-given q (Dual vectors) h wide l = length-combination q h vectors wide

module _ (q : ℕ) (u a b h : List ℚ) (a_long : length a ≡ q) (b_long : length b ≡ q) where
  abbrev w : List ℚ
  w = minus a b

  member_row : (p k : List ℚ) → length p ≡ q → dot (on_parts (zeros (length u)) p (negated k)) (u ++ a ++ b ++ h) ≡ dot p w +ℚ neg_ℚ (dot k h)
  member_row p k l =
      on_parts-value (zeros (length u)) p (negated k) u a b h (length-zeros (length u)) (l ∙ sym a_long) (l ∙ sym b_long)
      ∙ ap₂ (λ x y. x +ℚ y) (ap (λ x. x +ℚ dot p w) (none_left (length u) u) ∙ zero_add (dot p w)) (dot-negated_left k h)

  pub members-value : (cone : Cone) → IsWideCone q cone → length h ≡ dual_unknowns q cone →
      values (dual_members (length u) q cone) (u ++ a ++ b ++ h) ≡ plus (asked cone w) (negated (given q cone h))
  members-value Orthant wide l =
      values_listed q _ (u ++ a ++ b ++ h) (plus w (negated h)) (length-plus q w (negated h) w_long (length-negated h q l))
      (λ j low high. member_row (unit q j) (unit q j) (length-unit q j)
      ∙ ap₂ (λ x y. x +ℚ neg_ℚ y) (dot-unit q j w low high) (dot-unit q j h low high)
      ∙ sym (entry-plus w (negated h) j ∙ ap (λ y. entry w j +ℚ y) (entry-negated h j)))
    where
      w_long : length w ≡ q
      w_long = length-minus q a b a_long b_long
  members-value (Gens vectors) wide l =
      let n : ℕ = length vectors in
      values_listed n _ (u ++ a ++ b ++ h) (plus (values vectors w) (negated h)) (length-plus n (values vectors w) (negated h) (length-map vectors (λ v. dot v w)) (length-negated h n l))
      (λ j low high. member_row (row_of vectors j) (unit n j) (row-wide q vectors j wide low high)
      ∙ ap₂ (λ x y. x +ℚ neg_ℚ y) (sym (value_at vectors w (j - 1) (omega (arith, low, high)))) (dot-unit n j h low high)
      ∙ sym (entry-plus (values vectors w) (negated h) j ∙ ap (λ y. entry (values vectors w) j +ℚ y) (entry-negated h j)))
  members-value (Dual vectors) wide l =
      values_listed q _ (u ++ a ++ b ++ h) (plus w (negated (combination q h vectors)))
      (length-plus q w (negated (combination q h vectors)) (length-minus q a b a_long b_long) (length-negated (combination q h vectors) q (length-combination q h vectors wide)))
      (λ j low high. member_row (unit q j) (column_of vectors j) (length-unit q j)
      ∙ ap₂ (λ x y. x +ℚ neg_ℚ y) (dot-unit q j w low high) (dot_comm (column_of vectors j) h ∙ sym (entry-combination q h vectors j))
      ∙ sym (entry-plus w (negated (combination q h vectors)) j ∙ ap (λ y. entry w j +ℚ y) (entry-negated (combination q h vectors) j)))

-- ---- all equations
pub length-objective_column : (file : Problem) (j : ℕ) → length (objective_column file j) ≡ file.objs
length-objective_column file j = length-map (numbers_from 1 file.objs) _ ∙ length-numbers 1 file.objs

-- those of Benson's program, at whatever v
abbrev pub benson_equations : Problem → List ℚ → Table
benson_equations file c =
    let more = dual_unknowns file.objs file.cone in
    balances file more ++ dual_members (side_total file) file.objs file.cone ++ on_parts (zeros (side_total file)) c (zeros more) ∷ []

module _ (file : Problem) (c u a b h : List ℚ) (c_long : length c ≡ file.objs) (u_long : length u ≡ side_total file) (a_long : length a ≡ file.objs)
    (b_long : length b ≡ file.objs) where
  abbrev weight : List ℚ
  weight = minus a b

  abbrev more : ℕ
  more = dual_unknowns file.objs file.cone

  balances-value : values (balances file more) (u ++ a ++ b ++ h) ≡
      plus (combination file.cols u (normals file)) (negated (combination file.cols weight (objectives file)))
  balances-value =
      values_listed file.cols _ (u ++ a ++ b ++ h) (plus sides_part (negated objectives_part))
      (length-plus file.cols sides_part (negated objectives_part) (length-combination file.cols u (normals file) (wide_normals file))
      (length-negated objectives_part file.cols (length-combination file.cols weight (objectives file) (wide_objectives file))))
      (λ j low high.
      on_parts-value (side_column file j) (negated (objective_column file j)) (zeros more) u a b h (length-side_column file j ∙ sym u_long)
      (length-negated (objective_column file j) file.objs (length-objective_column file j) ∙ sym a_long)
      (length-negated (objective_column file j) file.objs (length-objective_column file j) ∙ sym b_long)
      ∙ ap (λ x. dot (side_column file j) u +ℚ dot (negated (objective_column file j)) weight +ℚ x) (none_left more h)
      ∙ add_zero (dot (side_column file j) u +ℚ dot (negated (objective_column file j)) weight)
      ∙ ap₂ (λ x y. x +ℚ y)
      (dot_comm (side_column file j) u ∙ ap (λ k. dot u k) (sym (side_columns file j)) ∙ sym (entry-combination file.cols u (normals file) j))
      (dot-negated_left (objective_column file j) weight
      ∙ ap neg_ℚ (dot_comm (objective_column file j) weight ∙ ap (λ k. dot weight k) (sym (objective_columns file j low high))
      ∙ sym (entry-combination file.cols weight (objectives file) j))
      ∙ sym (entry-negated objectives_part j))
      ∙ sym (entry-plus sides_part (negated objectives_part) j))
    where
      sides_part : List ℚ
      sides_part = combination file.cols u (normals file)

      objectives_part : List ℚ
      objectives_part = combination file.cols weight (objectives file)

  last-value : dot (on_parts (zeros (side_total file)) c (zeros more)) (u ++ a ++ b ++ h) ≡ dot c weight
  last-value =
      on_parts-value (zeros (side_total file)) c (zeros more) u a b h (length-zeros (side_total file) ∙ sym u_long) (c_long ∙ sym a_long) (c_long ∙ sym b_long)
      ∙ ap₂ (λ x y. x +ℚ y) (ap (λ x. x +ℚ dot c weight) (none_left (side_total file) u) ∙ zero_add (dot c weight)) (none_left more h)
      ∙ add_zero (dot c weight)

  pub equations-value : IsWideCone file.objs file.cone → length h ≡ more →
      values (benson_equations file c) (u ++ a ++ b ++ h)
      ≡ plus (combination file.cols u (normals file)) (negated (combination file.cols (minus a b) (objectives file)))
      ++ plus (asked file.cone (minus a b)) (negated (given file.objs file.cone h)) ++ dot c (minus a b) ∷ []
  equations-value wide l =
      map-append (λ r. dot r (u ++ a ++ b ++ h)) (balances file more ++ dual_members (side_total file) file.objs file.cone)
      (on_parts (zeros (side_total file)) c (zeros more) ∷ [])
      ∙ ap₂ (λ x y. x ++ y ∷ [])
      (map-append (λ r. dot r (u ++ a ++ b ++ h)) (balances file more) (dual_members (side_total file) file.objs file.cone)
      ∙ ap₂ (λ x y. x ++ y) balances-value
      (ap (λ n. values (dual_members n file.objs file.cone) (u ++ a ++ b ++ h)) (sym u_long) ∙ members-value file.objs u a b h a_long b_long file.cone wide l))
      last-value
