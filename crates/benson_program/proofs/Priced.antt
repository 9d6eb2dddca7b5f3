-- The columns of Benson's program priced with multipliers x, p, theta of its equations: the normals at x; at each place of w, and of its
-- negative, minus the objectives at x plus what the cone's equations give with p plus theta c; and minus what they give after it.
use Rattle.std.proofs.Common.{◌≡◌, ℕ, suc, List, [], ◌∷◌, ◌++◌, length, take, drop, refl, sym, ap, ap₂, ◌∙◌, subst, arith, ◌≤◌, ◌+◌, slice_index_or, append_assoc, drop-drop, length-append, true}
use Rattle.std.specs.Prelude.{pos, negsuc}
use Rattle.std.proofs.lemmas.List.{length-take-le, length-drop, length-map, take-append-drop}
use Rattle.exact_field.specs.Rational.{ℚ, zero_ℚ, ◌+ℚ◌, ◌*ℚ◌, neg_ℚ, ◌≤ℚ◌}
use Rattle.exact_field.specs.Vector.{dot, entry}
use Rattle.exact_field.specs.Ring.{var, v0, v1, v2, v3, v4, v5, num, ◌⊕◌, ◌⊗◌, ⊖}
use Rattle.exact_field.proofs.RingTool.{ring_by}
use Rattle.exact_field.proofs.Rationals.{rationals}
use Rattle.polyhedra.specs.Negatives.{negated}
use Rattle.polyhedra.specs.Vectors.{AreWide, AtLeastZero, zeros, plus, scaled, combination, values}
use Rattle.polyhedra.proofs.Linear.{dot_comm, dot-combination, dot-plus, dot-scaled, length-combination, length-plus, length-scaled, length-zeros}
use Rattle.polyhedra.proofs.Negatives.{dot-negated}
use Rattle.polyhedra.proofs.Entries.{last_one}
use Rattle.tableaux.specs.Table.{column_of, minus}
use Rattle.tableaux.proofs.Inverse.{dot-append}
use Rattle.tableaux.proofs.Unique.{entry-combination}
use Rattle.vlp_problem.specs.declared.problem.Problem.{Problem}
use Rattle.vlp_problem.specs.declared.problem.Cone.{Cone}
use Rattle.vlp_problem.specs.declared.problem.Cone.TheVariants.{Orthant, Gens, Dual}
use Rattle.upper_image.specs.UpperImage.{normals, objectives, rest}
use Rattle.upper_image.proofs.WorkingImage.{value_wide}
use Rattle.log_rules.proofs.ByEntries.{entry-suc}
use Rattle.lp_form.specs.Programs.{side_total, on_parts, dual_unknowns, dual_equations, choice_of, value_of}
use Rattle.lp_form.proofs.Systems.{IsWideCone, cone_wide, benson_ok, length-negated}
use Rattle.overflows.proofs.Cuts.{benson_unknowns, length-benson_cost, length-on_parts}
use Rattle.overflows.proofs.Violated.{length-minus}
use Rattle.benson_program.proofs.Blocks.{asked, given, length-asked, length-given, benson_equations, equations-value}
use Rattle.benson_program.proofs.Vectors.{AreAtMost, at_most_each, at_most_parts, at_most_both, at_least_zero, dot-minus_left, dot-parts, parts_of, same_on}
use Rattle.benson_program.proofs.SolutionParts.{u_long, a_long, b_long, after_long, columns_part, columns_part-long, columns_part-value, normals-long}

-- ---- the cone's equations, priced with p
-- what they give at the places of w, and at those after them
abbrev pub pulled : ℕ → Cone → List ℚ → List ℚ
pulled q Orthant p = p
pulled q (Gens vectors) p = combination q p vectors
pulled q (Dual vectors) p = p

abbrev pub pushed : Cone → List ℚ → List ℚ
pushed Orthant p = p
pushed (Gens vectors) p = p
pushed (Dual vectors) p = values vectors p

pub pulled-value : (q : ℕ) (cone : Cone) (p w : List ℚ) → dot w (pulled q cone p) ≡ dot p (asked cone w)
pulled-value q Orthant p w = dot_comm w p
pulled-value q (Gens vectors) p w = dot-combination q w p vectors
pulled-value q (Dual vectors) p w = dot_comm w p

pushed-value : (q : ℕ) (cone : Cone) (p h : List ℚ) → dot p (given q cone h) ≡ dot h (pushed cone p)
pushed-value q Orthant p h = dot_comm p h
pushed-value q (Gens vectors) p h = dot_comm p h
pushed-value q (Dual vectors) p h = dot-combination q p h vectors

pub length-pulled : (q : ℕ) (cone : Cone) (p : List ℚ) → IsWideCone q cone → length p ≡ dual_equations q cone → length (pulled q cone p) ≡ q
length-pulled q Orthant p wide l = l
length-pulled q (Gens vectors) p wide l = length-combination q p vectors wide
length-pulled q (Dual vectors) p wide l = l

length-pushed : (q : ℕ) (cone : Cone) (p : List ℚ) → length p ≡ dual_equations q cone → length (pushed cone p) ≡ dual_unknowns q cone
length-pushed q Orthant p l = l
length-pushed q (Gens vectors) p l = l
length-pushed q (Dual vectors) p l = length-map vectors (λ v. dot v p)

-- the multipliers of a share are the negated ones
pub negated-pulled : (q : ℕ) (cone : Cone) (p r : List ℚ) → dot r (pulled q cone (negated p)) ≡ neg_ℚ (dot r (pulled q cone p))
negated-pulled q cone p r =
    pulled-value q cone (negated p) r ∙ dot_comm (negated p) (asked cone r) ∙ dot-negated (asked cone r) p
    ∙ ap neg_ℚ (dot_comm (asked cone r) p ∙ sym (pulled-value q cone p r))

pub negated-pushed : (cone : Cone) (p : List ℚ) → negated (pushed cone p) ≡ pushed cone (negated p)
negated-pushed Orthant p = refl
negated-pushed (Gens vectors) p = refl
negated-pushed (Dual vectors) p = go vectors
  where
    go : (vs : List (List ℚ)) → negated (values vs p) ≡ values vs (negated p)
    go [] = refl
    go (v ∷ vs) = ap₂ (λ a b. a ∷ b) (sym (dot-negated v p)) (go vs)

-- ---- the multipliers by their parts
module _ (file : Problem) (c y : List ℚ) (c_long : length c ≡ file.objs) (y_long : length y ≡ suc (file.cols + dual_equations file.objs file.cone)) where
  abbrev members : ℕ
  members = dual_equations file.objs file.cone

  abbrev x : List ℚ
  x = choice_of file y

  -- the multipliers of the cone's equations
  abbrev p : List ℚ
  p = take (dual_equations file.objs file.cone) (drop file.cols y)

  pub x_long : length (choice_of file y) ≡ file.cols
  x_long = length-take-le file.cols y (omega (arith, y_long))

  pub p_long : length (take (dual_equations file.objs file.cone) (drop file.cols y)) ≡ dual_equations file.objs file.cone
  p_long = length-take-le members (drop file.cols y) (omega (arith, length-drop file.cols y, y_long))

  y_parts : x ++ p ++ value_of y ∷ [] ≡ y
  y_parts =
      append_assoc x p (value_of y ∷ [])
      ∙ ap (λ v. x ++ v)
      (ap (λ v. p ++ v) (ap (λ k. slice_index_or y k zero_ℚ ∷ []) (omega (arith, y_long)) ∙ sym (last_one (file.cols + members) y y_long) ∙ sym (drop-drop members file.cols y))
      ∙ take-append-drop members (drop file.cols y))
      ∙ take-append-drop file.cols y

  wide : IsWideCone file.objs file.cone
  wide = cone_wide file.objs file.cone file.cone_vectors

  -- what stands at the places of w
  abbrev at_weights : List ℚ
  at_weights = plus (plus (negated (values (objectives file) x)) (pulled file.objs file.cone p)) (scaled (value_of y) c)

  at_weights-long : length at_weights ≡ file.objs
  at_weights-long =
      length-plus file.objs (plus (negated (values (objectives file) x)) (pulled file.objs file.cone p)) (scaled (value_of y) c)
      (length-plus file.objs (negated (values (objectives file) x)) (pulled file.objs file.cone p)
      (length-negated (values (objectives file) x) file.objs (value_wide file x)) (length-pulled file.objs file.cone p wide p_long))
      (length-scaled (value_of y) c ∙ c_long)

  at_weights-value : (r : List ℚ) → dot r at_weights ≡
      neg_ℚ (dot r (values (objectives file) x)) +ℚ dot r (pulled file.objs file.cone p) +ℚ value_of y *ℚ dot r c
  at_weights-value r =
      dot-plus r (plus (negated (values (objectives file) x)) (pulled file.objs file.cone p)) (scaled (value_of y) c)
      ∙ ap₂ (λ a b. a +ℚ b)
      (dot-plus r (negated (values (objectives file) x)) (pulled file.objs file.cone p)
      ∙ ap (λ a. a +ℚ dot r (pulled file.objs file.cone p)) (dot-negated r (values (objectives file) x)))
      (dot-scaled r (value_of y) c)

  abbrev priced : List ℚ
  priced = values (normals file) x ++ at_weights ++ negated at_weights ++ negated (pushed file.cone p)

  pushed-long : length (negated (pushed file.cone p)) ≡ dual_unknowns file.objs file.cone
  pushed-long = length-negated (pushed file.cone p) (dual_unknowns file.objs file.cone) (length-pushed file.objs file.cone p p_long)

  priced-long : length priced ≡ benson_unknowns file
  priced-long =
      omega (
        arith,
        normals-long file x,
        at_weights-long,
        pushed-long,
        length-negated at_weights file.objs at_weights-long,
        length-append (values (normals file) x) at_weights,
        length-append (values (normals file) x ++ at_weights) (negated at_weights),
        length-append (values (normals file) x ++ at_weights ++ negated at_weights) (negated (pushed file.cone p)),
      )

  members_part : (a b h : List ℚ) → List ℚ
  members_part a b h = plus (asked file.cone (minus a b)) (negated (given file.objs file.cone h))

  members_part-long : (a b h : List ℚ) → length a ≡ file.objs → length b ≡ file.objs → length h ≡ dual_unknowns file.objs file.cone →
      length (members_part a b h) ≡ members
  unfolding members_part
  members_part-long a b h j k l =
      length-plus members (asked file.cone (minus a b)) (negated (given file.objs file.cone h))
      (length-asked file.objs file.cone (minus a b) (length-minus file.objs a b j k))
      (length-negated (given file.objs file.cone h) members (length-given file.objs file.cone h wide l))

  members_part-value : (a b h : List ℚ) → dot p (members_part a b h) ≡
      dot (minus a b) (pulled file.objs file.cone p) +ℚ neg_ℚ (dot h (pushed file.cone p))
  unfolding members_part
  members_part-value a b h =
      dot-plus p (asked file.cone (minus a b)) (negated (given file.objs file.cone h))
      ∙ ap₂ (λ s t. s +ℚ t) (sym (pulled-value file.objs file.cone p (minus a b)))
      (dot-negated p (given file.objs file.cone h) ∙ ap neg_ℚ (pushed-value file.objs file.cone p h))

  module _ (u a b h : List ℚ) (u_is : length u ≡ side_total file) (a_is : length a ≡ file.objs) (b_is : length b ≡ file.objs)
      (h_is : length h ≡ dual_unknowns file.objs file.cone) where
    by_equations : dot y (values (benson_equations file c) (u ++ a ++ b ++ h)) ≡
        (dot u (values (normals file) x) +ℚ neg_ℚ (dot (minus a b) (values (objectives file) x)))
        +ℚ (dot (minus a b) (pulled file.objs file.cone p) +ℚ neg_ℚ (dot h (pushed file.cone p)))
        +ℚ (value_of y *ℚ dot (minus a b) c +ℚ zero_ℚ)
    unfolding columns_part members_part
    by_equations =
        ap (λ v. dot v (values (benson_equations file c) (u ++ a ++ b ++ h))) (sym y_parts)
        ∙ ap (λ v. dot (x ++ p ++ value_of y ∷ []) v) (equations-value file c u a b h c_long u_is a_is b_is wide h_is)
        ∙ dot-append (x ++ p) (value_of y ∷ []) (columns_part file u (minus a b) ++ members_part a b h) (dot c (minus a b) ∷ [])
        (omega (arith, length-append x p, length-append (columns_part file u (minus a b)) (members_part a b h), x_long, p_long, columns_part-long file u (minus a b), members_part-long a b h a_is b_is h_is))
        ∙ ap₂ (λ s t. s +ℚ t)
        (dot-append x p (columns_part file u (minus a b)) (members_part a b h) (x_long ∙ sym (columns_part-long file u (minus a b)))
        ∙ ap₂ (λ s t. s +ℚ t) (columns_part-value file u (minus a b) x) (members_part-value a b h))
        (ap (λ s. value_of y *ℚ s +ℚ zero_ℚ) (dot_comm c (minus a b)))

    -- the product with parts of a solution, by the columns and by the equations
    priced_at : dot (u ++ a ++ b ++ h) priced ≡ dot y (values (benson_equations file c) (u ++ a ++ b ++ h))
    priced_at =
        dot-parts u a b h (values (normals file) x) at_weights (negated at_weights) (negated (pushed file.cone p)) (u_is ∙ sym (normals-long file x))
        (a_is ∙ sym at_weights-long) (b_is ∙ sym (length-negated at_weights file.objs at_weights-long))
        ∙ ap₂ (λ s t. dot u (values (normals file) x) +ℚ dot a at_weights +ℚ s +ℚ t) (dot-negated b at_weights) (dot-negated h (pushed file.cone p))
        ∙ same_sums (dot u (values (normals file) x)) (dot (minus a b) (values (objectives file) x)) (dot (minus a b) (pulled file.objs file.cone p))
        (dot h (pushed file.cone p)) (value_of y *ℚ dot (minus a b) c) (dot a at_weights) (dot b at_weights)
        (sym (dot-minus_left a b at_weights (a_is ∙ sym b_is)) ∙ at_weights-value (minus a b))
        ∙ sym by_equations
      where
        same_sums : (n o s d t e f : ℚ) → e +ℚ neg_ℚ f ≡ neg_ℚ o +ℚ s +ℚ t →
            n +ℚ e +ℚ neg_ℚ f +ℚ neg_ℚ d ≡ (n +ℚ neg_ℚ o) +ℚ (s +ℚ neg_ℚ d) +ℚ (t +ℚ zero_ℚ)
        same_sums n o s d t e f g =
            ring_by rationals (n ∷ o ∷ s ∷ d ∷ t ∷ e ∷ f ∷ []) (v0 ⊕ v5 ⊕ ⊖ (var 6) ⊕ ⊖ v3) ((v0 ⊕ ⊖ v1) ⊕ (v2 ⊕ ⊖ v3) ⊕ (v4 ⊕ num (pos 0)))
            (num (pos 1)) (v5 ⊕ ⊖ (var 6)) (⊖ v1 ⊕ v2 ⊕ v4) g refl

  equations_wide : AreWide (benson_unknowns file) (benson_equations file c)
  equations_wide =
      subst (λ (n : ℕ). AreWide n (benson_equations file c)) (length-benson_cost file (zeros file.objs) true (length-zeros file.objs))
      (benson_ok file c (zeros file.objs) true c_long (length-zeros file.objs)).wide

  priced_is : combination (benson_unknowns file) y (benson_equations file c) ≡ priced
  priced_is =
      same_on (combination (benson_unknowns file) y (benson_equations file c)) priced (long ∙ sym priced-long)
      (λ r l. dot-combination (benson_unknowns file) r y (benson_equations file c) ∙ by_parts r (l ∙ long))
    where
      long : length (combination (benson_unknowns file) y (benson_equations file c)) ≡ benson_unknowns file
      long = length-combination (benson_unknowns file) y (benson_equations file c) equations_wide

      by_parts : (r : List ℚ) → length r ≡ benson_unknowns file → dot y (values (benson_equations file c) r) ≡ dot r priced
      by_parts r l =
          subst (λ (v : List ℚ). dot y (values (benson_equations file c) v) ≡ dot v priced) (parts_of (side_total file) file.objs r)
          (sym (priced_at _ _ _ _ (u_long file (dual_unknowns file.objs file.cone) r l) (a_long file (dual_unknowns file.objs file.cone) r l) (b_long file (dual_unknowns file.objs file.cone) r l) (after_long file (dual_unknowns file.objs file.cone) r l)))

  -- what is at most the products with the columns is at most the priced columns
  at_most : (f : List ℚ) → length f ≡ benson_unknowns file →
      ((j : ℕ) → 1 ≤ j → j ≤ benson_unknowns file → entry f j ≤ℚ dot y (column_of (benson_equations file c) j)) → AreAtMost f priced
  at_most f long h =
      at_most_each f priced (long ∙ sym priced-long)
      (λ i l. subst (λ (s : ℚ). slice_index_or f i zero_ℚ ≤ℚ s)
      (sym (entry-combination (benson_unknowns file) y (benson_equations file c) (suc i)) ∙ ap (λ v. entry v (suc i)) priced_is ∙ entry-suc priced i)
      (subst (λ (s : ℚ). s ≤ℚ dot y (column_of (benson_equations file c) (suc i))) (entry-suc f i) (h (suc i) (omega arith) (omega (arith, l, long)))))

  -- what follows from prices that are at least a cost
  module _ (front v : List ℚ) (front_long : length front ≡ side_total file) (v_long : length v ≡ file.objs)
      (bounds : (j : ℕ) → 1 ≤ j → j ≤ benson_unknowns file →
      entry (on_parts front (negated v) (zeros (dual_unknowns file.objs file.cone))) j ≤ℚ dot y (column_of (benson_equations file c) j)) where
    abbrev more : ℕ
    more = dual_unknowns file.objs file.cone

    negated_long : length (negated v) ≡ file.objs
    negated_long = length-negated v file.objs v_long

    twice_long : length (negated (negated v)) ≡ file.objs
    twice_long = length-negated (negated v) file.objs negated_long

    four : AreAtMost (front ++ negated v ++ negated (negated v) ++ zeros more) priced
    four = at_most (front ++ negated v ++ negated (negated v) ++ zeros more)
        (length-on_parts (side_total file) file.objs more front (negated v) (zeros more) front_long negated_long (length-zeros more)) bounds

    three : AreAtMost (front ++ negated v ++ negated (negated v)) (values (normals file) x ++ at_weights ++ negated at_weights)
        × AreAtMost (zeros more) (negated (pushed file.cone p))
    three = at_most_parts (front ++ negated v ++ negated (negated v)) (zeros more) (values (normals file) x ++ at_weights ++ negated at_weights)
        (negated (pushed file.cone p))
        (omega (
          arith,
          front_long,
          negated_long,
          twice_long,
          normals-long file x,
          at_weights-long,
          length-negated at_weights file.objs at_weights-long,
          length-append front (negated v),
          length-append (front ++ negated v) (negated (negated v)),
          length-append (values (normals file) x) at_weights,
          length-append (values (normals file) x ++ at_weights) (negated at_weights),
        )) four

    two : AreAtMost (front ++ negated v) (values (normals file) x ++ at_weights) × AreAtMost (negated (negated v)) (negated at_weights)
    two = at_most_parts (front ++ negated v) (negated (negated v)) (values (normals file) x ++ at_weights) (negated at_weights)
        (omega (arith, front_long, negated_long, normals-long file x, at_weights-long, length-append front (negated v), length-append (values (normals file) x) at_weights))
        three.0

    one : AreAtMost front (values (normals file) x) × AreAtMost (negated v) at_weights
    one = at_most_parts front (negated v) (values (normals file) x) at_weights (front_long ∙ sym (normals-long file x)) two.0

    pub normals_at_least : AreAtMost front (values (normals file) (choice_of file y))
    normals_at_least = one.0

    weights_are : negated v ≡ at_weights
    weights_are = at_most_both (negated v) at_weights one.1 two.1

    -- the shares are at least 0 in what the cone asks after w
    pub shares_positive : AtLeastZero (pushed file.cone (negated (take (dual_equations file.objs file.cone) (drop file.cols y))))
    shares_positive = subst AtLeastZero (negated-pushed file.cone p) (at_least_zero more (negated (pushed file.cone p)) pushed-long three.1)

    -- v less the objectives at x is what the shares give, less theta c
    pub rest_value : (r : List ℚ) → dot r (rest file v (choice_of file y)) ≡
        dot r (pulled file.objs file.cone (negated (take (dual_equations file.objs file.cone) (drop file.cols y)))) +ℚ neg_ℚ (value_of y) *ℚ dot r c
    rest_value r =
        dot-plus r v (negated (values (objectives file) x)) ∙ ap (λ s. dot r v +ℚ s) (dot-negated r (values (objectives file) x))
        ∙ solved (dot r v) (dot r (values (objectives file) x)) (dot r (pulled file.objs file.cone p)) (value_of y) (dot r c)
        (sym (dot-negated r v) ∙ ap (λ u. dot r u) weights_are ∙ at_weights-value r)
        ∙ ap (λ s. s +ℚ neg_ℚ (value_of y) *ℚ dot r c) (sym (negated-pulled file.objs file.cone p r))
      where
        solved : (g o s t e : ℚ) → neg_ℚ g ≡ neg_ℚ o +ℚ s +ℚ t *ℚ e → g +ℚ neg_ℚ o ≡ neg_ℚ s +ℚ neg_ℚ t *ℚ e
        solved g o s t e h =
            ring_by rationals (g ∷ o ∷ s ∷ t ∷ e ∷ []) (v0 ⊕ ⊖ v1) (⊖ v2 ⊕ ⊖ v3 ⊗ v4) (num (negsuc 0)) (⊖ v0) (⊖ v1 ⊕ v2 ⊕ v3 ⊗ v4) h refl
