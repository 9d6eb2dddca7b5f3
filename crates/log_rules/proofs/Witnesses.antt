-- What the entries `farkas`, `whole`, `line` and `cut` show is what their answers say.
use Rattle.std.proofs.Common.{◌≡◌, ℕ, List, map, length, sym, ap, ◌∙◌, subst}
use Rattle.std.specs.Prelude.{All}
use Rattle.std.proofs.lemmas.List.{length-map}
use Rattle.exact_field.specs.Rational.{ℚ, zero_ℚ, neg_ℚ, ◌<ℚ◌}
use Rattle.exact_field.specs.Vector.{dot}
use Rattle.polyhedra.specs.Farkas.{IsDualVector}
use Rattle.polyhedra.specs.Vectors.{zeros, combination}
use Rattle.polyhedra.proofs.Negatives.{negated_twice}
use Rattle.upper_image.specs.OrderingCone.{IsInOrderingCone, Fits}
use Rattle.upper_image.specs.Shows.{ShowsRecession, ShowsAbove, ShowsCut}
use Rattle.upper_image.specs.Spots.{dense, product, IsVector}
use Rattle.upper_image.specs.UpperImage.{objectives, rest, turned, normals}
use Rattle.upper_image.specs.Witnesses.{HasDirectionPreimage, HasDualVector, IsInfeasible, IsWhole, IsShownLine}
use Rattle.upper_image.proofs.ConvexCones.{ordering_cone_convex}
use Rattle.upper_image.proofs.Coordinates.{length-turned, unturned, signed-twice}
use Rattle.upper_image.proofs.Shown.{nonneg-dense, cone_shown, dual_shown}
use Rattle.upper_image.proofs.Widths.{length-dense}
use Rattle.upper_image.proofs.WorkingImage.{rest_wide}
use Rattle.log_rules.specs.Live.{Stated}
use Rattle.log_rules.specs.Meets.{MeetsFarkas, MeetsWhole, MeetsLine}
use Rattle.log_rules.specs.Proves.{forth, facet_of}
use Rattle.log_rules.specs.Right.{stated}
use Rattle.frac128.specs.Sparse.{IsSparse}
use Rattle.frac128.specs.declared.vectors.Spot.{Spot}
use Rattle.vlp_problem.specs.Sides.{sides, side_bounds, IsRecession}
use Rattle.deriv_log.specs.declared.entry.Entry.{Entry}
use Rattle.vlp_problem.specs.declared.problem.Problem.{Problem}
use Rattle.vlp_problem.specs.declared.problem.Dir.{Dir}
use Rattle.vlp_problem.specs.declared.problem.Dir.TheVariants.{Min, Max}

dual_vector : (file : Problem) (w : List ℚ) (u : List Spot) → All (λ s. zero_ℚ <ℚ s.value) u →
    combination file.cols (dense (length (sides file)) u) (normals file) ≡ w → IsDualVector file.cols (normals file) w (dense (length (sides file)) u)
dual_vector file w u sign e = record {
  one_each = length-dense (length (sides file)) u ∙ sym (length-map (sides file) (λ s. s.normal));
  at_least_zero = nonneg-dense (length (sides file)) u sign;
  balanced = e;
}

bounds_product : (file : Problem) (u : List Spot) → product (side_bounds file) u ≡ dot (side_bounds file) (dense (length (sides file)) u)
bounds_product file u = ap (λ (n : ℕ). dot (side_bounds file) (dense n u)) (length-map (sides file) (λ s. s.bound))

pub farkas_right : (file : Problem) (u : List Spot) → IsSparse u → MeetsFarkas file u → IsInfeasible file u
farkas_right file u s h = record {
  vector = record { sparse = s; places = h.index };
  balanced = dual_vector file (zeros file.cols) u h.sign h.balance;
  bound = subst (λ (x : ℚ). zero_ℚ <ℚ x) (bounds_product file u) h.bound;
}

pub whole_right : (file : Problem) (c : List ℚ) (x ray m : List Spot) → Fits file c → IsSparse x → IsSparse ray → MeetsWhole file c x ray m →
    IsWhole file c x ray
whole_right file c x ray m f s t h = record {
  fits = f;
  x_vector = record { sparse = s; places = h.feasible.index };
  feasible = h.feasible.side;
  ray_vector = record { sparse = t; places = h.recedes.index };
  recedes = h.recedes.side;
  against = cone_shown file.objs file.cone _ m
      (rest_wide file (map neg_ℚ c) (dense file.cols ray) (length-map c neg_ℚ ∙ (ordering_cone_convex file).wide c f.interior.member)) h.above;
}

pub cut_right : (file : Problem) (c : List ℚ) (points directions : List (List ℚ)) (cut : Stated) (v : List Spot) → IsSparse cut.u →
    ShowsCut file c cut.w cut.gamma cut.u v → HasDualVector file (stated (facet_of file points directions cut)) cut.u
cut_right file c points directions cut v s h = record {
  vector = record { sparse = s; places = h.index };
  shown = record {
    balanced = dual_vector file (combination file.cols cut.w (objectives file)) cut.u h.sign h.balance;
    in_dual = dual_shown file.objs file.cone cut.w v file.cone_vectors h.lengths h.cone;
    bound = sym (bounds_product file cut.u) ∙ h.bound ∙ sym (signed-twice file.dir cut.gamma);
  };
}

-- what a log shows of d and of -d, in the coordinates of the file
swapped : (dir : Dir) (P : List ℚ → List Spot → Type 0) (d : List ℚ) (ray back : List Spot) → P d ray → P (map neg_ℚ d) back →
    P (turned dir d) (forth dir ray back) × P (turned dir (map neg_ℚ d)) (forth dir back ray)
swapped Min P d ray back h k =
    (subst (λ (e : List ℚ). P e ray) (sym (unturned d)) h, subst (λ (e : List ℚ). P e back) (sym (unturned (map neg_ℚ d))) k)
swapped Max P d ray back h k = (k, subst (λ (e : List ℚ). P e ray) (sym (negated_twice d)) h)

record ShowsDirection (file : Problem) (d : List ℚ) (x : List Spot) : Type 0 where
  pub wide : length d ≡ file.objs
  pub vector : IsVector file.cols x
  pub recedes : IsRecession file (dense file.cols x)
  pub above : IsInOrderingCone file (rest file d (dense file.cols x))

direction_shown : (file : Problem) (d : List ℚ) (x m : List Spot) → length d ≡ file.objs → IsSparse x → ShowsRecession file x → ShowsAbove file d x m →
    ShowsDirection file d x
direction_shown file d x m w s h k = record {
  wide = w;
  vector = record { sparse = s; places = h.index };
  recedes = h.side;
  above = cone_shown file.objs file.cone (rest file d (dense file.cols x)) m (rest_wide file d (dense file.cols x) w) k;
}

preimage_of : (file : Problem) (d : List ℚ) (x : List Spot) → ShowsDirection file (turned file.dir d) x → HasDirectionPreimage file d x
preimage_of file d x h = record { vector = h.vector; shown = record { wide = sym (length-turned file.dir d) ∙ h.wide; recedes = h.recedes; above = h.above } }

pub line_right : (file : Problem) (before : List Entry) (d : List ℚ) (x ray m back n : List Spot) → IsSparse ray → IsSparse back →
    MeetsLine file before d x ray m back n → IsShownLine file d (forth file.dir ray back) (forth file.dir back ray)
line_right file before d x ray m back n t u h =
    let both : ShowsDirection file (turned file.dir d) (forth file.dir ray back) × ShowsDirection file (turned file.dir (map neg_ℚ d)) (forth file.dir back ray) =
    swapped file.dir (ShowsDirection file) d ray back
    (direction_shown file d ray m h.lengths t h.recedes h.above)
    (direction_shown file (map neg_ℚ d) back n (length-map d neg_ℚ ∙ h.lengths) u h.back_recedes h.back_above) in
    record {
      forth = preimage_of file d (forth file.dir ray back) both.0;
      back_too = preimage_of file (map neg_ℚ d) (forth file.dir back ray) both.1;
    }
