-- The facets that are tight at a point, in the coordinates of the file.
use Rattle.std.proofs.Common.{◌≡◌, List, [], ◌∷◌, map, filter, cond, Bool, true, false, refl, sym, ap, ◌∙◌, subst}
use Rattle.exact_field.specs.Rational.{ℚ, zero_ℚ, one_ℚ, ◌-ℚ◌, ◌≤ℚ◌}
use Rattle.exact_field.specs.Order.{same_ℚ}
use Rattle.exact_field.specs.Vector.{dot}
use Rattle.polyhedra.specs.Hull.{IsInHull}
use Rattle.lineality.specs.Exactness.{IsSolvedAlong}
use Rattle.polyhedra.specs.Inequality.{Inequality}
use Rattle.polyhedra.proofs.Order.{difference_nonneg}
use Rattle.representations.specs.Facets.{tight_at, IsLeastFor}
use Rattle.representations.proofs.Weights.{weights_are_facets}
use Rattle.upper_image.specs.UpperImage.{signed, turned, working, IsInImage, IsInWorkingImage, IsWorkingDirection}
use Rattle.upper_image.proofs.Coordinates.{dot-turned, turned-twice}
use Rattle.upper_image.proofs.SameSolution.{solved_alike}
use Rattle.vlp_problem.specs.declared.problem.Problem.{Problem}
use Rattle.deriv_log.specs.declared.entry.Entry.{Entry}
use Rattle.log_rules.specs.Laws.{listed, named_cuts}
use Rattle.log_rules.specs.Live.{state, in_use, live_vectors, lines}
use Rattle.log_rules.specs.Proves.{PlainProves, GivesSolution}
use Rattle.log_rules.specs.Right.{stated}
use Rattle.log_rules.specs.declared.answer.Answer.TheVariants.{Solved}
use Rattle.log_rules.specs.declared.answer.Gen.{Gen}
use Rattle.log_rules.specs.declared.answer.LineGen.{LineGen}
use Rattle.log_rules.specs.declared.answer.Facet.{Facet}
use Rattle.log_rules.proofs.AnswerMembers.{same_listed, same_facets}
use Rattle.log_rules.proofs.ProvedIsRight.{log_is_solved}
use Rattle.weighing.specs.Laws.{tight_normals, WeightsAreHull}
use Rattle.weighing.specs.Weighing.{IsLowest}
use Rattle.weighing.proofs.Lowest.{signed_difference, signed_same, nonneg_difference}

same_normals : (file : Problem) (facets : List Facet) (y : List ℚ) →
    map (λ e. e.normal) (tight_at (turned file.dir y) (map (working file) (map stated facets))) ≡ tight_normals facets y
same_normals file [] y = refl
same_normals file (f ∷ facets) y =
    ap (λ b. map (λ (e : Inequality). e.normal) (cond b (working file (stated f) ∷ tight_at (turned file.dir y) (map (working file) (map stated facets)))
    (tight_at (turned file.dir y) (map (working file) (map stated facets)))))
    (ap (λ q. same_ℚ q (signed file.dir f.gamma)) (dot-turned file.dir f.w y) ∙ signed_same file.dir (dot f.w y) f.gamma)
    ∙ go (same_ℚ (dot f.w y) f.gamma) (same_normals file facets y)
  where
    go : (b : Bool) → map (λ (e : Inequality). e.normal) (tight_at (turned file.dir y) (map (working file) (map stated facets))) ≡ tight_normals facets y →
        map (λ (e : Inequality). e.normal) (cond b (working file (stated f) ∷ tight_at (turned file.dir y) (map (working file) (map stated facets)))
        (tight_at (turned file.dir y) (map (working file) (map stated facets))))
        ≡ map (λ (g : Facet). g.w) (cond b (f ∷ filter (λ (g : Facet). same_ℚ (dot g.w y) g.gamma) facets) (filter (λ (g : Facet). same_ℚ (dot g.w y) g.gamma) facets))
    go true e = ap (λ vs. f.w ∷ vs) e
    go false e = e

-- the facets of the answer solve the image
answer_solved : (file : Problem) (entries : List Entry) (c : List ℚ) (ls : List LineGen) (points directions : List Gen) (facets : List Facet) →
    PlainProves file entries (Solved c ls points directions facets) →
    IsSolvedAlong file.objs (IsInWorkingImage file) (IsWorkingDirection file) c (lines entries) (in_use (state file.objs entries)) (live_vectors (state file.objs entries))
    (map (turned file.dir) (map (λ (g : Gen). g.y) points)) (map (turned file.dir) (map (λ (g : Gen). g.y) directions)) (map (working file) (map stated facets))
answer_solved file entries c ls points directions facets proves =
    let given : GivesSolution file entries c ls points directions facets = proves.gives.1 in
    solved_alike file.objs (IsInWorkingImage file) (IsWorkingDirection file) c (lines entries) (in_use (state file.objs entries)) (live_vectors (state file.objs entries))
    (listed file.objs (state file.objs entries) one_ℚ) (map (turned file.dir) (map (λ (g : Gen). g.y) points))
    (listed file.objs (state file.objs entries) zero_ℚ) (map (turned file.dir) (map (λ (g : Gen). g.y) directions))
    (named_cuts (state file.objs entries) entries) (map (working file) (map stated facets))
    (same_listed file entries one_ℚ points given.points_are) (same_listed file entries zero_ℚ directions given.directions_are)
    (same_facets file entries (map (λ (g : Gen). g.y) points) (map (λ (g : Gen). g.y) directions) facets given.facets_are)
    (log_is_solved file entries c ls points directions facets proves)

pub weights_are_hull : WeightsAreHull
weights_are_hull file entries c ls points directions facets proves w y width one y_in = (
  λ h. subst (λ (vs : List (List ℚ)). IsInHull file.objs vs [] [] w) (same_normals file facets y) (known.0 (record { member = y_in; least = λ z z_in. least h z z_in })),
  λ h y' y_in'. lowest (known.1 (subst (λ (vs : List (List ℚ)). IsInHull file.objs vs [] [] w) (sym (same_normals file facets y)) h)) y' y_in',
)
  where
    known : (IsLeastFor (IsInWorkingImage file) w (turned file.dir y) →
        IsInHull file.objs (map (λ (e : Inequality). e.normal) (tight_at (turned file.dir y) (map (working file) (map stated facets)))) [] [] w)
        × (IsInHull file.objs (map (λ (e : Inequality). e.normal) (tight_at (turned file.dir y) (map (working file) (map stated facets)))) [] [] w →
        IsLeastFor (IsInWorkingImage file) w (turned file.dir y))
    known = weights_are_facets (IsInWorkingImage file) (IsWorkingDirection file) file.objs c (lines entries) (in_use (state file.objs entries)) (live_vectors (state file.objs entries))
        (map (turned file.dir) (map (λ (g : Gen). g.y) points)) (map (turned file.dir) (map (λ (g : Gen). g.y) directions)) (map (working file) (map stated facets))
        (answer_solved file entries c ls points directions facets proves) w (turned file.dir y) width one y_in

    least : IsLowest file w (dot w y) → (z : List ℚ) → IsInWorkingImage file z → dot w (turned file.dir y) ≤ℚ dot w z
    least h z z_in =
        subst (λ (x : ℚ). dot w (turned file.dir y) ≤ℚ x) (sym (dot-turned file.dir w (turned file.dir z)) ∙ ap (dot w) (turned-twice file.dir z))
        (subst (λ (x : ℚ). x ≤ℚ signed file.dir (dot w (turned file.dir z))) (sym (dot-turned file.dir w y))
        (nonneg_difference (signed file.dir (dot w y)) (signed file.dir (dot w (turned file.dir z)))
        (subst (λ (x : ℚ). zero_ℚ ≤ℚ x) (signed_difference file.dir (dot w (turned file.dir z)) (dot w y))
        (h (turned file.dir z) (subst (IsInWorkingImage file) (sym (turned-twice file.dir z)) z_in)))))

    lowest : IsLeastFor (IsInWorkingImage file) w (turned file.dir y) → (y' : List ℚ) → IsInImage file y' → zero_ℚ ≤ℚ signed file.dir (dot w y' -ℚ dot w y)
    lowest h y' y_in' =
        subst (λ (x : ℚ). zero_ℚ ≤ℚ x) (sym (signed_difference file.dir (dot w y') (dot w y)))
        (difference_nonneg (signed file.dir (dot w y)) (signed file.dir (dot w y'))
        (subst (λ (x : ℚ). x ≤ℚ signed file.dir (dot w y')) (dot-turned file.dir w y)
        (subst (λ (x : ℚ). dot w (turned file.dir y) ≤ℚ x) (dot-turned file.dir w y') (h.least (turned file.dir y') y_in'))))
