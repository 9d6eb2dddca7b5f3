-- The row that a solution of Benson's program says has the negated cost as its value at the start
-- vector: where the cost is positive, the cut is violated there.
use Rattle.std.proofs.Common.{◌≡◌, ℕ, List, [], ◌∷◌, ◌++◌, length, take, drop, refl, sym, ap, ap₂, ◌∙◌, subst, arith, ◌+◌, Bool, true, false}
use Rattle.std.specs.Prelude.{if◌then◌else◌}
use Rattle.std.proofs.Math.ListN.{length-append, length-map}
use Rattle.std.proofs.lemmas.List.{length-take-le, length-drop}
use Rattle.exact_field.specs.Rational.{ℚ, zero_ℚ, one_ℚ, ◌+ℚ◌, ◌-ℚ◌, ◌*ℚ◌, neg_ℚ, ◌<ℚ◌}
use Rattle.exact_field.specs.Vector.{dot}
use Rattle.polyhedra.specs.Vectors.{zeros, plus, scaled}
use Rattle.polyhedra.specs.Exactness.{homogenised}
use Rattle.polyhedra.proofs.Homogenised.{dot-homogenised}
use Rattle.polyhedra.proofs.Laws.{add_assoc, add_comm, add_zero, mul_one}
use Rattle.polyhedra.proofs.Algebra.{zero_add, one_mul, mul_zero, neg_mul, neg_neg, neg_add}
use Rattle.polyhedra.proofs.Order.{negative_of_neg}
use Rattle.polyhedra.proofs.Linear.{dot_comm, dot-plus, dot-nil, dot-zeros, length-plus}
use Rattle.tableaux.specs.Table.{minus}
use Rattle.vlp_problem.specs.Sides.{side_bounds}
use Rattle.vlp_problem.specs.declared.problem.Problem.{Problem}
use Rattle.polyhedra.specs.Negatives.{negated}
use Rattle.polyhedra.proofs.Negatives.{dot-negated_left}
use Rattle.lp_form.specs.Programs.{side_total, dual_unknowns, u_of, w_of}
use Rattle.overflows.specs.Turns.{said_row}
use Rattle.overflows.proofs.Cuts.{benson_cost, benson_unknowns, length-side_bounds, length-bounds_if}

pub dot-append : (a b z : List ℚ) → dot (a ++ b) z ≡ dot a z +ℚ dot b (drop (length a) z)
dot-append [] b z = sym (zero_add (dot b z))
dot-append (x ∷ a) b [] = sym (zero_add (dot b []) ∙ dot-nil b)
dot-append (x ∷ a) b (y ∷ z) = ap (λ q. x *ℚ y +ℚ q) (dot-append a b z) ∙ sym (add_assoc (x *ℚ y) (dot a z) (dot b (drop (length a) z)))

pub dot-take : (v z : List ℚ) → dot v (take (length v) z) ≡ dot v z
dot-take [] z = refl
dot-take (x ∷ v) [] = refl
dot-take (x ∷ v) (y ∷ z) = ap (λ q. x *ℚ y +ℚ q) (dot-take v z)

pub negated-is : (v : List ℚ) → negated v ≡ scaled (neg_ℚ one_ℚ) v
negated-is [] = refl
negated-is (x ∷ v) = ap₂ (λ a b. a ∷ b) (sym (neg_mul one_ℚ x ∙ ap neg_ℚ (one_mul x))) (negated-is v)

pub minus-is : (x y : List ℚ) → length x ≡ length y → minus x y ≡ plus x (negated y)
minus-is [] [] e = refl
minus-is [] (b ∷ y) e = absurd (omega arith)
minus-is (a ∷ x) [] e = refl
minus-is (a ∷ x) (b ∷ y) e = ap (λ u. (a -ℚ b) ∷ u) (minus-is x y (omega arith))

pub length-minus : (n : ℕ) (x y : List ℚ) → length x ≡ n → length y ≡ n → length (minus x y) ≡ n
length-minus n x y h k = ap length (minus-is x y (h ∙ sym k)) ∙ length-plus n x (negated y) h (length-map y neg_ℚ ∙ k)

sides_value : (file : Problem) (t : Bool) (z : List ℚ) →
    dot (if t then side_bounds file else zeros (side_total file)) z ≡ dot (side_bounds file) (u_of file z) *ℚ (if t then one_ℚ else zero_ℚ)
sides_value file true z =
    sym (mul_one (dot (side_bounds file) (u_of file z)) ∙ ap (λ n. dot (side_bounds file) (take n z)) (sym (length-side_bounds file)) ∙ dot-take (side_bounds file) z)
sides_value file false z = dot_comm (zeros (side_total file)) z ∙ dot-zeros z (side_total file) ∙ sym (mul_zero (dot (side_bounds file) (u_of file z)))

module _ (file : Problem) (v : List ℚ) (t : Bool) (z : List ℚ) (v_long : length v ≡ file.objs) (z_long : length z ≡ benson_unknowns file) where
  abbrev q : ℕ
  q = file.objs

  abbrev total : ℕ
  total = side_total file

  abbrev front : List ℚ
  front = if t then side_bounds file else zeros (side_total file)

  abbrev up : List ℚ
  up = take file.objs (drop (side_total file) z)

  abbrev down : List ℚ
  down = take file.objs (drop (side_total file + file.objs) z)

  up_long : length up ≡ q
  up_long = length-take-le q (drop total z) (omega (arith, length-drop total z, z_long))

  down_long : length down ≡ q
  down_long = length-take-le q (drop (total + q) z) (omega (arith, length-drop (total + q) z, z_long))

  negated_long : length (negated v) ≡ q
  negated_long = length-map v neg_ℚ ∙ v_long

  cost_value : dot (benson_cost file v t) z ≡ dot front z +ℚ neg_ℚ (dot v up) +ℚ dot v down
  cost_value =
      dot-append (front ++ negated v ++ negated (negated v)) (zeros (dual_unknowns file.objs file.cone)) z
      ∙ ap₂ (λ a b. a +ℚ b)
      (dot-append (front ++ negated v) (negated (negated v)) z
      ∙ ap₂ (λ a b. a +ℚ b)
      (dot-append front (negated v) z
      ∙ ap (λ a. dot front z +ℚ a)
      (ap (λ n. dot (negated v) (drop n z)) (length-bounds_if file t)
      ∙ sym (ap (λ n. dot (negated v) (take n (drop total z))) (sym negated_long) ∙ dot-take (negated v) (drop total z)) ∙ dot-negated_left v up))
      (ap (λ n. dot (negated (negated v)) (drop n z)) (length-append front (negated v) ∙ ap₂ (λ a b. a + b) (length-bounds_if file t) negated_long)
      ∙ sym (ap (λ n. dot (negated (negated v)) (take n (drop (total + q) z))) (sym (length-map (negated v) neg_ℚ ∙ negated_long))
      ∙ dot-take (negated (negated v)) (drop (total + q) z))
      ∙ dot-negated_left (negated v) down ∙ ap neg_ℚ (dot-negated_left v down) ∙ neg_neg (dot v down)))
      (dot_comm (zeros (dual_unknowns file.objs file.cone)) (drop (length (front ++ negated v ++ negated (negated v))) z)
      ∙ dot-zeros (drop (length (front ++ negated v ++ negated (negated v))) z) (dual_unknowns file.objs file.cone))
      ∙ add_zero (dot front z +ℚ neg_ℚ (dot v up) +ℚ dot v down)

  pub said_value : dot (said_row file z) (homogenised v (if t then one_ℚ else zero_ℚ)) ≡ neg_ℚ (dot (benson_cost file v t) z)
  said_value =
      dot-homogenised (w_of file z) v (neg_ℚ (dot (side_bounds file) (u_of file z))) (if t then one_ℚ else zero_ℚ)
      (length-minus q up down up_long down_long ∙ sym v_long)
      ∙ ap₂ (λ a b. a +ℚ b)
      (dot_comm (w_of file z) v ∙ ap (λ u. dot v u) (minus-is up down (up_long ∙ sym down_long)) ∙ dot-plus v up (negated down)
      ∙ ap (λ a. dot v up +ℚ a) (dot_comm v (negated down) ∙ dot-negated_left down v ∙ ap neg_ℚ (dot_comm down v)))
      (neg_mul (dot (side_bounds file) (u_of file z)) (if t then one_ℚ else zero_ℚ) ∙ ap neg_ℚ (sym (sides_value file t z)))
      ∙ turned (dot front z) (dot v up) (dot v down)
      ∙ ap neg_ℚ (sym cost_value)
    where
      turned : (g a b : ℚ) → a +ℚ neg_ℚ b +ℚ neg_ℚ g ≡ neg_ℚ (g +ℚ neg_ℚ a +ℚ b)
      turned g a b =
          add_comm (a +ℚ neg_ℚ b) (neg_ℚ g) ∙ sym (add_assoc (neg_ℚ g) a (neg_ℚ b))
          ∙ ap (λ x. neg_ℚ g +ℚ x +ℚ neg_ℚ b) (sym (neg_neg a))
          ∙ ap (λ x. x +ℚ neg_ℚ b) (sym (neg_add g (neg_ℚ a))) ∙ sym (neg_add (g +ℚ neg_ℚ a) b)

  -- a positive cost shows that the cut is violated
  pub said_violated : zero_ℚ <ℚ dot (benson_cost file v t) z → dot (said_row file z) (homogenised v (if t then one_ℚ else zero_ℚ)) <ℚ zero_ℚ
  said_violated h =
      negative_of_neg (dot (said_row file z) (homogenised v (if t then one_ℚ else zero_ℚ)))
      (subst (λ (x : ℚ). zero_ℚ <ℚ x) (sym (ap neg_ℚ said_value ∙ neg_neg (dot (benson_cost file v t) z))) h)
