-- The projection as a slice of the associated image; and what this image is not.
use Rattle.std.proofs.Common.{◌≡◌, ℕ, zero, suc, ◌≤◌, List, [], ◌∷◌, map, length, replicate, All, sym, ap, ap₂, ◌∙◌, subst, take, Option, None}
use Rattle.std.proofs.lemmas.List.Elements.{All-nil, All-cons, All-weaker}
use Rattle.exact_field.specs.Rational.{ℚ, zero_ℚ, one_ℚ, ◌+ℚ◌, neg_ℚ, ◌≤ℚ◌, ◌<ℚ◌}
use Rattle.exact_field.specs.Vector.{dot, sum_ℚ}
use Rattle.lineality.specs.Lines.{IsInLineality, RunsAlong, AreLines, IsReducedIn}
use Rattle.polyhedra.specs.Farkas.{Meets}
use Rattle.polyhedra.specs.Hull.{IsConvex, IsVertex, IsExtremeDirection}
use Rattle.polyhedra.specs.Image.{IsConvexCone}
use Rattle.polyhedra.specs.Inequality.{Inequality}
use Rattle.polyhedra.specs.Negatives.{negated}
use Rattle.polyhedra.specs.Vectors.{zeros, values}
use Rattle.polyhedra.proofs.Laws.{add_zero, zero_lt_one, le_of_lt}
use Rattle.polyhedra.proofs.Algebra.{neg_zero, neg_neg, neg_add}
use Rattle.polyhedra.proofs.Order.{add_positive, not_lt_of_le, negative_of_neg}
use Rattle.polyhedra.proofs.Cones.{sum_nonneg}
use Rattle.polyhedra.proofs.Lists.{nonneg-nil, nonneg-cons}
use Rattle.polyhedra.proofs.Members.{all_of_members}
use Rattle.polyhedra.specs.Vectors.{AtLeastZero}
use Rattle.vlp_problem.specs.Sides.{sides, side_bounds, IsFeasible, IsRecession}
use Rattle.vlp_problem.specs.declared.problem.Dir.{Dir}
use Rattle.vlp_problem.specs.declared.problem.Problem.{Problem}
use Rattle.vlp_problem.specs.declared.problem.Cone.{Cone}
use Rattle.vlp_problem.specs.declared.problem.Cone.TheVariants.{Orthant}
use Rattle.upper_image.specs.OrderingCone.{IsNonnegative, IsIn, IsInOrderingCone, FollowsFile}
use Rattle.upper_image.specs.Spots.{dense}
use Rattle.upper_image.specs.UpperImage.{normals, objectives, rest, turned, IsInImage, IsInWorkingImage, IsDirection, IsWorkingDirection}
use Rattle.upper_image.proofs.Coordinates.{unturned}
use Rattle.upper_image.proofs.ConvexCones.{ordering_cone_convex}
use Rattle.upper_image.proofs.Widths.{length-dense}
use Rattle.upper_image.proofs.WorkingImage.{objectives_many, feasible_meets, recession_meets, working_image_convex}
use Rattle.representations.specs.Projection.{AreAssociated, IsNonnegativeCone, IsProjection}
use Rattle.representations.proofs.Slices.{projection_is_slice, lines_are_in_slice, vertices_are_in_slice, spread-sum, sum-plus}
use Rattle.projection.specs.Associated.{IsAssociated, IsInProjection, IsInProjectedRecession}
use Rattle.projection.specs.Laws.{ProjectionIsSliceOf, NeverWhole, IsLevel, PointsAreLevel}
use Rattle.projection.proofs.Objectives.{associated_is_associated}

module _ (k : ℕ) (file made : Problem) (below : k ≤ file.cols) (s : IsAssociated k file made) where
  pub in_orthant : (d : List ℚ) → IsInOrderingCone made d → IsNonnegative (suc k) d
  in_orthant d h = subst (λ (c : Cone). IsIn (suc k) c d) s.cone (subst (λ (q : ℕ). IsIn q made.cone d) s.objs h)

  pub from_orthant : (d : List ℚ) → IsNonnegative (suc k) d → IsInOrderingCone made d
  from_orthant d h = subst (λ (q : ℕ). IsIn q made.cone d) (sym s.objs) (subst (λ (c : Cone). IsIn (suc k) c d) (sym s.cone) h)

  pub working_convex : IsConvex (suc k) (IsInWorkingImage made) (IsWorkingDirection made)
  working_convex = subst (λ (q : ℕ). IsConvex q (IsInWorkingImage made) (IsWorkingDirection made)) s.objs (working_image_convex made)

  -- what is feasible for the associated problem is so for the file, and so are its directions
  pub feasible_in_file : (x : List ℚ) → IsFeasible made x → IsFeasible file x
  feasible_in_file x h = record {
    width = h.width ∙ s.cols;
    meets = subst (λ (es : List Inequality). All (λ e. e.bound ≤ℚ dot e.normal x) es) (associated_is_associated k file made below s).same_sides h.meets;
  }

  pub recession_in_file : (x : List ℚ) → IsRecession made x → IsRecession file x
  recession_in_file x h = record {
    width = h.width ∙ s.cols;
    meets = subst (λ (es : List Inequality). All (λ e. zero_ℚ ≤ℚ dot e.normal x) es) (associated_is_associated k file made below s).same_sides h.meets;
  }

  pub cone : IsNonnegativeCone (suc k) (IsInOrderingCone made)
  cone = record {
    convex = subst (λ (q : ℕ). IsConvexCone q (IsInOrderingCone made)) s.objs (ordering_cone_convex made);
    at_least_zero = λ d h. (in_orthant d h).entries;
  }

  pub values_are : AreAssociated made.cols k (objectives made)
  values_are x width = (associated_is_associated k file made below s).values x (width ∙ s.cols)

  pub below_made : k ≤ made.cols
  below_made = subst (λ (n : ℕ). k ≤ n) (sym s.cols) below

  -- the associated problem minimises
  pub plain : (v : List ℚ) → turned made.dir v ≡ v
  plain v = ap (λ (d : Dir). turned d v) s.dir ∙ unturned v

  pub working_lineality : (d : List ℚ) → IsInLineality (IsDirection made) d → IsInLineality (IsWorkingDirection made) d
  working_lineality d h = record {
    forth = subst (λ (u : List ℚ). IsWorkingDirection made u) (plain d) h.forth;
    back = subst (λ (u : List ℚ). IsWorkingDirection made u) (plain (negated d)) h.back;
  }

  pub working_along : (lines : List (List ℚ)) → AreLines made.objs (IsDirection made) lines → RunsAlong (suc k) (IsWorkingDirection made) lines
  working_along lines h = subst (λ (q : ℕ). RunsAlong q (IsWorkingDirection made) lines) s.objs (record {
    echelon = h.along.echelon;
    each = All-weaker (IsInLineality (IsDirection made)) (IsInLineality (IsWorkingDirection made)) working_lineality lines h.along.each;
  })

  pub working_reduced : (lines : List (List ℚ)) (u : List ℚ) → IsReducedIn lines (IsInImage made) u → IsReducedIn lines (IsInWorkingImage made) u
  working_reduced lines u h = record { member = subst (λ (w : List ℚ). IsInWorkingImage made w) (plain u) h.member; reduced = h.reduced }

  reduced_back : (lines : List (List ℚ)) (u : List ℚ) → IsReducedIn lines (IsInWorkingImage made) u → IsReducedIn lines (IsInImage made) u
  reduced_back lines u h = record { member = subst (λ (w : List ℚ). IsInWorkingImage made w) (sym (plain u)) h.member; reduced = h.reduced }

  pub working_direction : (lines : List (List ℚ)) (u : List ℚ) → IsReducedIn lines (IsDirection made) u → IsReducedIn lines (IsWorkingDirection made) u
  working_direction lines u h = record { member = subst (λ (w : List ℚ). IsWorkingDirection made w) (plain u) h.member; reduced = h.reduced }

  direction_back : (lines : List (List ℚ)) (u : List ℚ) → IsReducedIn lines (IsWorkingDirection made) u → IsReducedIn lines (IsDirection made) u
  direction_back lines u h = record { member = subst (λ (w : List ℚ). IsWorkingDirection made w) (sym (plain u)) h.member; reduced = h.reduced }

  pub working_vertex : (lines : List (List ℚ)) (y : List ℚ) → IsVertex (IsReducedIn lines (IsInImage made)) y → IsVertex (IsReducedIn lines (IsInWorkingImage made)) y
  working_vertex lines y v = record {
    member = working_reduced lines y v.member;
    no_midpoint = λ a b a_in b_in e. v.no_midpoint a b (reduced_back lines a a_in) (reduced_back lines b b_in) e;
  }

  pub working_extreme : (lines : List (List ℚ)) (d : List ℚ) → IsExtremeDirection made.objs (IsReducedIn lines (IsDirection made)) d →
      IsExtremeDirection (suc k) (IsReducedIn lines (IsWorkingDirection made)) d
  working_extreme lines d x = record {
    member = working_direction lines d x.member;
    not_zero = λ e. x.not_zero (e ∙ ap zeros (sym s.objs));
    no_sum = λ a b a_in b_in e. x.no_sum a b (direction_back lines a a_in) (direction_back lines b b_in) e;
  }

-- ---- sides
meets_feasible : (es : List Inequality) (x : List ℚ) → Meets (map (λ e. e.normal) es) (map (λ e. e.bound) es) x → All (λ e. e.bound ≤ℚ dot e.normal x) es
meets_feasible [] x h = All-nil (λ e. e.bound ≤ℚ dot e.normal x)
meets_feasible (e ∷ es) x h = All-cons (λ e. e.bound ≤ℚ dot e.normal x) e es h.0 (meets_feasible es x h.1)

meets_recession : (es : List Inequality) (x : List ℚ) → Meets (map (λ e. e.normal) es) (zeros (length (map (λ e. e.normal) es))) x → All (λ e. zero_ℚ ≤ℚ dot e.normal x) es
meets_recession [] x h = All-nil (λ e. zero_ℚ ≤ℚ dot e.normal x)
meets_recession (e ∷ es) x h = All-cons (λ e. zero_ℚ ≤ℚ dot e.normal x) e es h.0 (meets_recession es x h.1)

pub projection_is_slice_of : ProjectionIsSliceOf
projection_is_slice_of k file made below s = record {
  points = λ z width.
      let slice = projection_is_slice (IsInOrderingCone made) made.cols k (normals made) (side_bounds made) (objectives made) (below_made k file made below s)
      (values_are k file made below s) (cone k file made below s) z width in
      (λ h. point_out z (slice.0 h), λ h. slice.1 (point_in z h));
  directions = λ d width.
      let slice = projection_is_slice (IsInOrderingCone made) made.cols k (normals made) (zeros (length (normals made))) (objectives made) (below_made k file made below s)
      (values_are k file made below s) (cone k file made below s) d width in
      (λ h. direction_out d (slice.0 h), λ h. slice.1 (direction_in d h));
}
  where
    same : sides made ≡ sides file
    same = (associated_is_associated k file made below s).same_sides

    point_out : (z : List ℚ) → IsProjection made.cols k (normals made) (side_bounds made) z → IsInProjection file k z
    point_out z p = record {
      choice = p.solution;
      feasible = record {
        width = p.wide ∙ s.cols;
        meets = subst (λ (es : List Inequality). All (λ e. e.bound ≤ℚ dot e.normal p.solution) es) same (meets_feasible (sides made) p.solution p.meets);
      };
      begins = p.begins;
    }

    point_in : (z : List ℚ) → IsInProjection file k z → IsProjection made.cols k (normals made) (side_bounds made) z
    point_in z p = record {
      solution = p.choice;
      wide = p.feasible.width ∙ sym s.cols;
      meets = feasible_meets made p.choice (record {
        width = p.feasible.width ∙ sym s.cols;
        meets = subst (λ (es : List Inequality). All (λ e. e.bound ≤ℚ dot e.normal p.choice) es) (sym same) p.feasible.meets;
      });
      begins = p.begins;
    }

    direction_out : (z : List ℚ) → IsProjection made.cols k (normals made) (zeros (length (normals made))) z → IsInProjectedRecession file k z
    direction_out z p = record {
      choice = p.solution;
      recedes = record {
        width = p.wide ∙ s.cols;
        meets = subst (λ (es : List Inequality). All (λ e. zero_ℚ ≤ℚ dot e.normal p.solution) es) same (meets_recession (sides made) p.solution p.meets);
      };
      begins = p.begins;
    }

    direction_in : (z : List ℚ) → IsInProjectedRecession file k z → IsProjection made.cols k (normals made) (zeros (length (normals made))) z
    direction_in z p = record {
      solution = p.choice;
      wide = p.recedes.width ∙ sym s.cols;
      meets = recession_meets made p.choice (record {
        width = p.recedes.width ∙ sym s.cols;
        meets = subst (λ (es : List Inequality). All (λ e. zero_ℚ ≤ℚ dot e.normal p.choice) es) (sym same) p.recedes.meets;
      });
      begins = p.begins;
    }

-- ---- not everything: the entries of minus c sum to less than 0
pub sum_negated : (v : List ℚ) → sum_ℚ (map neg_ℚ v) ≡ neg_ℚ (sum_ℚ v)
sum_negated [] = sym neg_zero
sum_negated (x ∷ v) = ap (λ q. neg_ℚ x +ℚ q) (sum_negated v) ∙ sym (neg_add x (sum_ℚ v))

ones_positive : (n : ℕ) → zero_ℚ <ℚ sum_ℚ (replicate (suc n) one_ℚ)
ones_positive n = add_positive one_ℚ (sum_ℚ (replicate n one_ℚ)) zero_lt_one (sum_nonneg (replicate n one_ℚ) (ones n))
  where
    ones : (m : ℕ) → AtLeastZero (replicate m one_ℚ)
    ones zero = nonneg-nil
    ones (suc m) = nonneg-cons one_ℚ (replicate m one_ℚ) (le_of_lt zero_ℚ one_ℚ zero_lt_one) (ones m)

pub never_whole : NeverWhole
never_whole k file made c x ray below s w =
    let v : List ℚ = dense made.cols ray in
    let inside : IsNonnegative (suc k) (rest made (map neg_ℚ c) v) = in_orthant k file made below s (rest made (map neg_ℚ c) v) w.against in
    let all_ones : c ≡ replicate (suc k) one_ℚ = ones_are made.cone made.duality s.cone s.duality w.fits.follows in
    let values_sum : sum_ℚ (values (objectives made) v) ≡ zero_ℚ =
    ap sum_ℚ (values_are k file made below s v (length-dense made.cols ray)) ∙ spread-sum (take k v) in
    let total : sum_ℚ (rest made (map neg_ℚ c) v) ≡ neg_ℚ (sum_ℚ (replicate (suc k) one_ℚ)) =
    sum-plus (map neg_ℚ c) (map neg_ℚ (values (objectives made) v))
    ∙ ap₂ (λ a b. a +ℚ b) (sum_negated c ∙ ap (λ u. neg_ℚ (sum_ℚ u)) all_ones) (sum_negated (values (objectives made) v) ∙ ap neg_ℚ values_sum ∙ neg_zero)
    ∙ add_zero (neg_ℚ (sum_ℚ (replicate (suc k) one_ℚ))) in
    not_lt_of_le zero_ℚ (neg_ℚ (sum_ℚ (replicate (suc k) one_ℚ)))
    (subst (λ (q : ℚ). zero_ℚ ≤ℚ q) total (sum_nonneg (rest made (map neg_ℚ c) v) inside.entries))
    (negative_of_neg (neg_ℚ (sum_ℚ (replicate (suc k) one_ℚ)))
    (subst (λ (q : ℚ). zero_ℚ <ℚ q) (sym (neg_neg (sum_ℚ (replicate (suc k) one_ℚ)))) (ones_positive k)))
  where
    ones_are : (o : Cone) (f : Option (List ℚ)) → o ≡ Orthant → f ≡ None → FollowsFile made.objs o f c → c ≡ replicate (suc k) one_ℚ
    ones_are o f e g h =
        subst (λ (p : Cone). FollowsFile made.objs p None c) e (subst (λ (p : Option (List ℚ)). FollowsFile made.objs o p c) g h)
        ∙ ap (λ q. replicate q one_ℚ) s.objs

-- ---- lines and vertices
pub points_are_level : PointsAreLevel
points_are_level k file made c lines points directions facets below s exact = record {
  lines_level = All-weaker (IsInLineality (IsDirection made)) IsLevel
      (λ d h. lines_are_in_slice (IsInOrderingCone made) made.cols k (normals made) (zeros (length (normals made))) (objectives made)
      (values_are k file made below s) (cone k file made below s) d (working_lineality k file made below s d h))
      lines exact.lines_are.along.each;
  points_level = all_of_members IsLevel points (λ y m.
      vertices_are_in_slice (IsInOrderingCone made) made.cols k (normals made) (side_bounds made) (objectives made)
      (objectives_many made ∙ s.objs) (values_are k file made below s) (cone k file made below s) lines
      (working_along k file made below s lines exact.lines_are) y (working_vertex k file made below s lines y ((exact.vertices y).0 m)));
}
