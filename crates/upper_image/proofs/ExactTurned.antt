-- Exactness in working coordinates is exactness in the file's.
use Rattle.std.proofs.Common.{◌≡◌, ◌↔◌, List, sym, ap, ◌∙◌, subst, arith, map, Contains}
use Rattle.std.proofs.lemmas.List.{length-map}
use Rattle.exact_field.specs.Rational.{ℚ}
use Rattle.lineality.specs.Exactness.{IsExactAlong}
use Rattle.lineality.specs.Lines.{IsReducedIn}
use Rattle.polyhedra.specs.Hull.{IsInHull, IsVertex, IsExtremeDirection, IsNormedDirection, IsFacet}
use Rattle.polyhedra.specs.Inequality.{Inequality}
use Rattle.polyhedra.proofs.Members.{Contains-map, Contains-map_source}
use Rattle.upper_image.specs.Laws.{ExactInFile}
use Rattle.upper_image.specs.UpperImage.{IsInWorkingImage, IsWorkingDirection, IsInImage, IsDirection, IsExactFor, turned, working}
use Rattle.upper_image.proofs.Coordinates.{signed-twice}
use Rattle.upper_image.proofs.TurnedSets.{AreMapped, are_turned, turned-same}
use Rattle.vlp_problem.specs.declared.problem.Problem.{Problem}

-- ---- inequalities in working coordinates
pub working-twice : (file : Problem) (e : Inequality) → working file (working file e) ≡ e
working-twice file e = ap (λ (b : ℚ). record { normal = e.normal; bound = b }) (signed-twice file.dir e.bound)

-- ---- exactness in both coordinates
module _ (file : Problem) (c : List ℚ) (lines points directions : List (List ℚ)) (facets : List Inequality)
    (exact : IsExactAlong file.objs (IsInWorkingImage file) (IsWorkingDirection file) c lines (map (turned file.dir) points) (map (turned file.dir) directions)
    (map (working file) facets)) where
  there : AreMapped file.objs (IsInWorkingImage file) (IsWorkingDirection file) lines (turned file.dir)
  there = are_turned file.dir file.objs (IsInWorkingImage file) (IsWorkingDirection file) lines

  turned_back : (vs : List (List ℚ)) (v : List ℚ) → Contains (map (turned file.dir) vs) (turned file.dir v) → Contains vs v
  turned_back vs v h =
      let m : (u : List ℚ) × Contains vs u × (turned file.dir u ≡ turned file.dir v) = Contains-map_source (turned file.dir) vs (turned file.dir v) h in
      subst (λ (u : List ℚ). Contains vs u) (turned-same file.dir m.0 v m.2) m.1

  vertices_of : (y : List ℚ) → Contains points y ↔ IsVertex (IsReducedIn lines (IsInImage file)) y
  vertices_of y = (
    λ h. (there.vertices y).1 ((exact.vertices (turned file.dir y)).0 (Contains-map (turned file.dir) points y h)),
    λ h. turned_back points y ((exact.vertices (turned file.dir y)).1 ((there.vertices y).0 h)),
  )

  extreme_of : (d : List ℚ) → Contains directions d ↔ (IsExtremeDirection file.objs (IsReducedIn lines (IsDirection file)) d × IsNormedDirection d)
  extreme_of d = (
    λ h. let e = (exact.extreme (turned file.dir d)).0 (Contains-map (turned file.dir) directions d h) in
        ((there.extreme d).1 e.0, (there.normed d).1 e.1),
    λ h. turned_back directions d ((exact.extreme (turned file.dir d)).1 ((there.extreme d).0 h.0, (there.normed d).0 h.1)),
  )

  facets_of : (e : Inequality) → Contains facets e ↔ IsFacet file.objs (IsInWorkingImage file) c (working file e)
  facets_of e = (
    λ h. (exact.facets_are (working file e)).0 (Contains-map (working file) facets e h),
    λ h. let m : (f : Inequality) × Contains facets f × (working file f ≡ working file e) =
        Contains-map_source (working file) facets (working file e) ((exact.facets_are (working file e)).1 h) in
        subst (λ (f : Inequality). Contains facets f) (sym (working-twice file m.0) ∙ ap (working file) m.2 ∙ working-twice file e) m.1,
  )

  hull_of : (y : List ℚ) → IsInImage file y ↔ IsInHull file.objs points directions lines y
  hull_of y = (
    λ h. (there.hull points directions y).1 ((exact.hull (turned file.dir y)).0 h),
    λ h. (exact.hull (turned file.dir y)).1 ((there.hull points directions y).0 h),
  )

  pub exact_of : IsExactFor file c lines points directions facets
  exact_of = record {
    lines_are = there.lines_are.1 exact.lines_are;
    vertices = vertices_of;
    extreme = extreme_of;
    facets_are = facets_of;
    hull = hull_of;
    some_point = let many = length-map points (turned file.dir) in let some = exact.some_point in omega (arith, many, some);
  }

pub exact_in_file : ExactInFile
exact_in_file file c lines points directions facets exact = exact_of file c lines points directions facets exact
