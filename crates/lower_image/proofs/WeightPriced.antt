-- The columns of the program of a weight priced with multipliers x, p, f of its equations: the normals at x; at each place of w, and of its
-- negative, minus the objectives at x plus p plus, in the dual form, f; and minus the products of its vectors with f after it.
use Rattle.std.proofs.Common.{◌≡◌, ℕ, suc, List, [], ◌∷◌, ◌++◌, length, take, drop, refl, sym, ap, ap₂, ◌∙◌, subst, arith, ◌≤◌, ◌+◌, ◌-◌, slice_index_or, append_assoc, length-append}
use Rattle.std.specs.Prelude.{pos}
use Rattle.std.proofs.lemmas.List.{length-take-le, length-drop, length-map, take-append-drop}
use Rattle.exact_field.specs.Rational.{ℚ, zero_ℚ, ◌+ℚ◌, neg_ℚ, ◌≤ℚ◌}
use Rattle.exact_field.specs.Vector.{dot, entry}
use Rattle.exact_field.specs.Ring.{v0, v1, v2, v3, v4, v5, var, num, ◌⊕◌, ⊖}
use Rattle.exact_field.proofs.RingTool.{ring_by}
use Rattle.exact_field.proofs.Rationals.{rationals}
use Rattle.polyhedra.specs.Negatives.{negated}
use Rattle.polyhedra.specs.Vectors.{AreWide, AtLeastZero, zeros, plus, combination, values}
use Rattle.polyhedra.proofs.Laws.{add_zero}
use Rattle.polyhedra.proofs.Algebra.{neg_zero}
use Rattle.polyhedra.proofs.Linear.{dot_comm, dot-nil, dot-combination, dot-plus, dot-zeros, length-combination, length-plus, length-zeros}
use Rattle.polyhedra.proofs.Negatives.{dot-negated}
use Rattle.tableaux.specs.Table.{column_of, minus}
use Rattle.tableaux.proofs.Inverse.{dot-append}
use Rattle.tableaux.proofs.Unique.{entry-combination}
use Rattle.vlp_problem.specs.declared.problem.Problem.{Problem}
use Rattle.vlp_problem.specs.declared.problem.Cone.{Cone}
use Rattle.vlp_problem.specs.declared.problem.Cone.TheVariants.{Orthant, Gens, Dual}
use Rattle.upper_image.specs.UpperImage.{normals, objectives}
use Rattle.upper_image.proofs.WorkingImage.{value_wide}
use Rattle.log_rules.proofs.ByEntries.{entry-suc}
use Rattle.lp_form.specs.Programs.{side_total, on_parts, weight_unknowns, weight_equations, choice_of}
use Rattle.lp_form.proofs.Systems.{IsWideCone, cone_wide, weight_ok, length-negated}
use Rattle.overflows.proofs.Violated.{length-minus}
use Rattle.benson_program.proofs.Vectors.{AreAtMost, at_most_each, at_most_parts, at_most_both, at_least_zero, dot-minus_left, dot-parts, parts_of, same_on}
use Rattle.benson_program.proofs.SolutionParts.{u_long, a_long, b_long, after_long, columns_part, columns_part-long, columns_part-value, normals-long}
use Rattle.lower_image.proofs.WeightEquations.{tied, rows-value, weight_rows, weight_total, length-weight_cost}

-- ---- what the cone's equations, priced with f, give at the places of w, and after them
abbrev pub pulled : ℕ → Cone → List ℚ → List ℚ
pulled q Orthant f = zeros q
pulled q (Gens vectors) f = zeros q
pulled q (Dual vectors) f = f

abbrev pub pushed : Cone → List ℚ → List ℚ
pushed Orthant f = []
pushed (Gens vectors) f = []
pushed (Dual vectors) f = values vectors f

tied-priced : (q : ℕ) (cone : Cone) (f w h : List ℚ) → dot f (tied q cone w h) ≡ dot w (pulled q cone f) +ℚ neg_ℚ (dot h (pushed cone f))
tied-priced q Orthant f w h = dot-nil f ∙ sym (ap₂ (λ a b. a +ℚ neg_ℚ b) (dot-zeros w q) (dot-nil h) ∙ ap (λ a. zero_ℚ +ℚ a) neg_zero ∙ add_zero zero_ℚ)
tied-priced q (Gens vectors) f w h = dot-nil f ∙ sym (ap₂ (λ a b. a +ℚ neg_ℚ b) (dot-zeros w q) (dot-nil h) ∙ ap (λ a. zero_ℚ +ℚ a) neg_zero ∙ add_zero zero_ℚ)
tied-priced q (Dual vectors) f w h =
    dot-plus f w (negated (combination q h vectors))
    ∙ ap₂ (λ a b. a +ℚ b) (dot_comm f w) (dot-negated f (combination q h vectors) ∙ ap neg_ℚ (dot-combination q f h vectors))

length-pulled : (q : ℕ) (cone : Cone) (f : List ℚ) → length f ≡ weight_equations q cone → length (pulled q cone f) ≡ q
length-pulled q Orthant f l = length-zeros q
length-pulled q (Gens vectors) f l = length-zeros q
length-pulled q (Dual vectors) f l = l

length-pushed : (cone : Cone) (f : List ℚ) → length (pushed cone f) ≡ weight_unknowns cone
length-pushed Orthant f = refl
length-pushed (Gens vectors) f = refl
length-pushed (Dual vectors) f = length-map vectors (λ v. dot v f)

-- ---- the multipliers by their parts
-- those that fix the weight, and those of the dual form
abbrev pub prices_of : Problem → List ℚ → List ℚ
prices_of file y = take file.objs (drop file.cols y)

abbrev pub ties_of : Problem → List ℚ → List ℚ
ties_of file y = drop file.objs (drop file.cols y)

module _ (file : Problem) (y : List ℚ) (y_long : length y ≡ file.cols + file.objs + weight_equations file.objs file.cone) where
  abbrev x : List ℚ
  x = choice_of file y

  abbrev p : List ℚ
  p = prices_of file y

  abbrev f : List ℚ
  f = ties_of file y

  abbrev more : ℕ
  more = weight_unknowns file.cone

  pub x_long : length (choice_of file y) ≡ file.cols
  x_long = length-take-le file.cols y (omega (arith, y_long))

  pub p_long : length (prices_of file y) ≡ file.objs
  p_long = length-take-le file.objs (drop file.cols y) (omega (arith, length-drop file.cols y, y_long))

  pub f_long : length (ties_of file y) ≡ weight_equations file.objs file.cone
  f_long = omega (arith, length-drop file.objs (drop file.cols y), length-drop file.cols y, y_long)

  pub y_parts : choice_of file y ++ prices_of file y ++ ties_of file y ≡ y
  y_parts = append_assoc x p f ∙ ap (λ v. x ++ v) (take-append-drop file.objs (drop file.cols y)) ∙ take-append-drop file.cols y

  wide : IsWideCone file.objs file.cone
  wide = cone_wide file.objs file.cone file.cone_vectors

  -- what stands at the places of w
  at_weights : List ℚ
  at_weights = plus (plus (negated (values (objectives file) x)) p) (pulled file.objs file.cone f)

  at_weights-long : length at_weights ≡ file.objs
  unfolding at_weights
  at_weights-long =
      length-plus file.objs (plus (negated (values (objectives file) x)) p) (pulled file.objs file.cone f)
      (length-plus file.objs (negated (values (objectives file) x)) p (length-negated (values (objectives file) x) file.objs (value_wide file x)) p_long)
      (length-pulled file.objs file.cone f f_long)

  at_weights-value : (r : List ℚ) → dot r at_weights ≡
      neg_ℚ (dot r (values (objectives file) x)) +ℚ dot r p +ℚ dot r (pulled file.objs file.cone f)
  unfolding at_weights
  at_weights-value r =
      dot-plus r (plus (negated (values (objectives file) x)) p) (pulled file.objs file.cone f)
      ∙ ap (λ a. a +ℚ dot r (pulled file.objs file.cone f))
      (dot-plus r (negated (values (objectives file) x)) p ∙ ap (λ a. a +ℚ dot r p) (dot-negated r (values (objectives file) x)))

  abbrev priced : List ℚ
  priced = values (normals file) x ++ at_weights ++ negated at_weights ++ negated (pushed file.cone f)

  pushed-long : length (negated (pushed file.cone f)) ≡ more
  pushed-long = length-negated (pushed file.cone f) more (length-pushed file.cone f)

  priced-long : length priced ≡ weight_total file
  priced-long =
      omega (
        arith,
        normals-long file x,
        at_weights-long,
        pushed-long,
        length-negated at_weights file.objs at_weights-long,
        length-append (values (normals file) x) at_weights,
        length-append (values (normals file) x ++ at_weights) (negated at_weights),
        length-append (values (normals file) x ++ at_weights ++ negated at_weights) (negated (pushed file.cone f)),
      )

  module _ (u a b h : List ℚ) (u_is : length u ≡ side_total file) (a_is : length a ≡ file.objs) (b_is : length b ≡ file.objs)
      (h_is : length h ≡ weight_unknowns file.cone) where
    by_equations : dot y (values (weight_rows file) (u ++ a ++ b ++ h)) ≡
        (dot u (values (normals file) x) +ℚ neg_ℚ (dot (minus a b) (values (objectives file) x)))
        +ℚ dot (minus a b) p +ℚ (dot (minus a b) (pulled file.objs file.cone f) +ℚ neg_ℚ (dot h (pushed file.cone f)))
    unfolding columns_part
    by_equations =
        ap (λ v. dot v (values (weight_rows file) (u ++ a ++ b ++ h))) (sym y_parts)
        ∙ ap (λ v. dot (x ++ p ++ f) v) (rows-value file u a b h u_is a_is b_is wide h_is)
        ∙ dot-append (x ++ p) f (columns_part file u (minus a b) ++ minus a b) (tied file.objs file.cone (minus a b) h)
        (omega (arith, length-append x p, length-append (columns_part file u (minus a b)) (minus a b), x_long, p_long, columns_part-long file u (minus a b), length-minus file.objs a b a_is b_is))
        ∙ ap₂ (λ s t. s +ℚ t)
        (dot-append x p (columns_part file u (minus a b)) (minus a b) (x_long ∙ sym (columns_part-long file u (minus a b)))
        ∙ ap₂ (λ s t. s +ℚ t) (columns_part-value file u (minus a b) x) (dot_comm p (minus a b)))
        (tied-priced file.objs file.cone f (minus a b) h)

    -- the product with parts of a solution, by the columns and by the equations
    priced_at : dot (u ++ a ++ b ++ h) priced ≡ dot y (values (weight_rows file) (u ++ a ++ b ++ h))
    priced_at =
        dot-parts u a b h (values (normals file) x) at_weights (negated at_weights) (negated (pushed file.cone f)) (u_is ∙ sym (normals-long file x))
        (a_is ∙ sym at_weights-long) (b_is ∙ sym (length-negated at_weights file.objs at_weights-long))
        ∙ ap₂ (λ s t. dot u (values (normals file) x) +ℚ dot a at_weights +ℚ s +ℚ t) (dot-negated b at_weights) (dot-negated h (pushed file.cone f))
        ∙ same_sums (dot u (values (normals file) x)) (dot (minus a b) (values (objectives file) x)) (dot (minus a b) p)
        (dot h (pushed file.cone f)) (dot (minus a b) (pulled file.objs file.cone f)) (dot a at_weights) (dot b at_weights)
        (sym (dot-minus_left a b at_weights (a_is ∙ sym b_is)) ∙ at_weights-value (minus a b))
        ∙ sym by_equations
      where
        same_sums : (n o s d t e g : ℚ) → e +ℚ neg_ℚ g ≡ neg_ℚ o +ℚ s +ℚ t →
            n +ℚ e +ℚ neg_ℚ g +ℚ neg_ℚ d ≡ (n +ℚ neg_ℚ o) +ℚ s +ℚ (t +ℚ neg_ℚ d)
        same_sums n o s d t e g k =
            ring_by rationals (n ∷ o ∷ s ∷ d ∷ t ∷ e ∷ g ∷ []) (v0 ⊕ v5 ⊕ ⊖ (var 6) ⊕ ⊖ v3) ((v0 ⊕ ⊖ v1) ⊕ v2 ⊕ (v4 ⊕ ⊖ v3))
            (num (pos 1)) (v5 ⊕ ⊖ (var 6)) (⊖ v1 ⊕ v2 ⊕ v4) k refl

  equations_wide : AreWide (weight_total file) (weight_rows file)
  equations_wide =
      subst (λ (n : ℕ). AreWide n (weight_rows file)) (length-weight_cost file) (weight_ok file (zeros file.objs) (length-zeros file.objs)).wide

  priced_is : combination (weight_total file) y (weight_rows file) ≡ priced
  priced_is =
      same_on (combination (weight_total file) y (weight_rows file)) priced (long ∙ sym priced-long)
      (λ r l. dot-combination (weight_total file) r y (weight_rows file) ∙ by_parts r (l ∙ long))
    where
      long : length (combination (weight_total file) y (weight_rows file)) ≡ weight_total file
      long = length-combination (weight_total file) y (weight_rows file) equations_wide

      by_parts : (r : List ℚ) → length r ≡ weight_total file → dot y (values (weight_rows file) r) ≡ dot r priced
      by_parts r l =
          subst (λ (v : List ℚ). dot y (values (weight_rows file) v) ≡ dot v priced) (parts_of (side_total file) file.objs r)
          (sym (priced_at _ _ _ _ (u_long file (weight_unknowns file.cone) r l) (a_long file (weight_unknowns file.cone) r l) (b_long file (weight_unknowns file.cone) r l) (after_long file (weight_unknowns file.cone) r l)))

  -- what is at most the products with the columns is at most the priced columns
  at_most : (k : List ℚ) → length k ≡ weight_total file →
      ((j : ℕ) → 1 ≤ j → j ≤ weight_total file → entry k j ≤ℚ dot y (column_of (weight_rows file) j)) → AreAtMost k priced
  at_most k long h =
      at_most_each k priced (long ∙ sym priced-long)
      (λ i l. subst (λ (s : ℚ). slice_index_or k i zero_ℚ ≤ℚ s)
      (sym (entry-combination (weight_total file) y (weight_rows file) (suc i)) ∙ ap (λ v. entry v (suc i)) priced_is ∙ entry-suc priced i)
      (subst (λ (s : ℚ). s ≤ℚ dot y (column_of (weight_rows file) (suc i))) (entry-suc k i) (h (suc i) (omega arith) (omega (arith, l, long)))))

  -- what follows from prices that are at least a cost that has nothing on w and after it
  module _ (front : List ℚ) (front_long : length front ≡ side_total file)
      (bounds : (j : ℕ) → 1 ≤ j → j ≤ weight_total file →
      entry (on_parts front (zeros file.objs) (zeros (weight_unknowns file.cone))) j ≤ℚ dot y (column_of (weight_rows file) j)) where
    negated_long : length (negated (zeros file.objs)) ≡ file.objs
    negated_long = length-negated (zeros file.objs) file.objs (length-zeros file.objs)

    cost_long : length (on_parts front (zeros file.objs) (zeros more)) ≡ weight_total file
    cost_long =
        omega (
          arith,
          length-append front (zeros file.objs),
          length-append (front ++ zeros file.objs) (negated (zeros file.objs)),
          length-append (front ++ zeros file.objs ++ negated (zeros file.objs)) (zeros more),
          front_long,
          length-zeros file.objs,
          negated_long,
          length-zeros more,
        )

    four : AreAtMost (front ++ zeros file.objs ++ negated (zeros file.objs) ++ zeros more) priced
    four = at_most (front ++ zeros file.objs ++ negated (zeros file.objs) ++ zeros more) cost_long bounds

    three : AreAtMost (front ++ zeros file.objs ++ negated (zeros file.objs)) (values (normals file) x ++ at_weights ++ negated at_weights)
        × AreAtMost (zeros more) (negated (pushed file.cone f))
    three = at_most_parts (front ++ zeros file.objs ++ negated (zeros file.objs)) (zeros more) (values (normals file) x ++ at_weights ++ negated at_weights)
        (negated (pushed file.cone f))
        (omega (
          arith,
          front_long,
          length-zeros file.objs,
          negated_long,
          normals-long file x,
          at_weights-long,
          length-negated at_weights file.objs at_weights-long,
          length-append front (zeros file.objs),
          length-append (front ++ zeros file.objs) (negated (zeros file.objs)),
          length-append (values (normals file) x) at_weights,
          length-append (values (normals file) x ++ at_weights) (negated at_weights),
        )) four

    two : AreAtMost (front ++ zeros file.objs) (values (normals file) x ++ at_weights) × AreAtMost (negated (zeros file.objs)) (negated at_weights)
    two = at_most_parts (front ++ zeros file.objs) (negated (zeros file.objs)) (values (normals file) x ++ at_weights) (negated at_weights)
        (omega (arith, front_long, length-zeros file.objs, normals-long file x, at_weights-long, length-append front (zeros file.objs), length-append (values (normals file) x) at_weights))
        three.0

    one : AreAtMost front (values (normals file) x) × AreAtMost (zeros file.objs) at_weights
    one = at_most_parts front (zeros file.objs) (values (normals file) x) at_weights (front_long ∙ sym (normals-long file x)) two.0

    pub normals_at_least : AreAtMost front (values (normals file) (choice_of file y))
    normals_at_least = one.0

    weights_are : zeros file.objs ≡ at_weights
    weights_are = at_most_both (zeros file.objs) at_weights one.1 two.1

    pub after_at_least : AtLeastZero (negated (pushed file.cone (ties_of file y)))
    after_at_least = at_least_zero more (negated (pushed file.cone f)) pushed-long three.1

    -- the multipliers that fix the weight are the objectives at x, less what the cone's equations give
    pub price_value : (r : List ℚ) → dot r (prices_of file y) ≡
        dot r (values (objectives file) (choice_of file y)) +ℚ neg_ℚ (dot r (pulled file.objs file.cone (ties_of file y)))
    price_value r =
        solved (dot r (values (objectives file) x)) (dot r p) (dot r (pulled file.objs file.cone f))
        (sym (at_weights-value r) ∙ ap (λ v. dot r v) (sym weights_are) ∙ dot-zeros r file.objs)
      where
        solved : (o s t : ℚ) → neg_ℚ o +ℚ s +ℚ t ≡ zero_ℚ → s ≡ o +ℚ neg_ℚ t
        solved o s t e = ring_by rationals (o ∷ s ∷ t ∷ []) v1 (v0 ⊕ ⊖ v2) (num (pos 1)) (⊖ v0 ⊕ v1 ⊕ v2) (num (pos 0)) e refl
