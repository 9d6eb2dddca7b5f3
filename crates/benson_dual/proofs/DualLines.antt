-- The lines `dual` of the report of a right solution tell the lower image.
use Rattle.std.proofs.Common.{◌≡◌, ℕ, zero, suc, ◌-◌, List, [], ◌∷◌, ◌++◌, map, length, Contains, refl, sym, ap, ap₂, ◌∙◌, subst, arith, pos}
use Rattle.std.specs.Fmt.{digits}
use Rattle.std.specs.Prelude.{codes, replicate, take}
use Rattle.std.proofs.lemmas.List.{length-take-le}
use Rattle.std.proofs.lemmas.Simd.{map-map}
use Rattle.exact_field.specs.Rational.{ℚ, zero_ℚ, one_ℚ, neg_ℚ, whole, ◌+ℚ◌, ◌*ℚ◌}
use Rattle.exact_field.specs.Ring.{v0, v1, num, ◌⊕◌, ◌⊗◌, ◌⊝◌}
use Rattle.exact_field.specs.Vector.{dot, entry, front}
use Rattle.exact_field.proofs.RingTool.{ring}
use Rattle.exact_field.proofs.Rationals.{rationals}
use Rattle.frac128.specs.Text.{frac_text}
use Rattle.polyhedra.specs.Exactness.{homogenised}
use Rattle.polyhedra.specs.Hull.{IsFacet, IsVertex}
use Rattle.polyhedra.specs.Inequality.{Inequality}
use Rattle.polyhedra.specs.LowerImage.{completed}
use Rattle.polyhedra.specs.Vectors.{zeros}
use Rattle.polyhedra.proofs.Homogenised.{IsHomogenised, dot-homogenised, unhomogenised}
use Rattle.polyhedra.proofs.Linear.{dot_comm}
use Rattle.polyhedra.proofs.Members.{Contains-map, Contains-map_source}
use Rattle.vlp_problem.specs.declared.problem.Dir.{Dir}
use Rattle.vlp_problem.specs.declared.problem.Dir.TheVariants.{Min, Max}
use Rattle.vlp_problem.specs.declared.problem.Problem.{Problem}
use Rattle.upper_image.specs.UpperImage.{IsInLowerImageOf, IsInWorkingImage, LowerImage, signed, working}
use Rattle.upper_image.proofs.ConvexCones.{ordering_cone_convex}
use Rattle.log_rules.specs.Laws.{DescribeLowerImage}
use Rattle.log_rules.specs.Report.{downward, vector_line}
use Rattle.log_rules.specs.Right.{IsSolution, stated}
use Rattle.log_rules.specs.declared.answer.Facet.{Facet}
use Rattle.log_rules.specs.declared.answer.Gen.{Gen}
use Rattle.log_rules.specs.declared.answer.LineGen.{LineGen}
use Rattle.log_rules.proofs.DualImage.{facets_describe_lower_image}
use Rattle.log_rules.proofs.NormedMembers.{front-homogenised, last-homogenised}
use Rattle.benson_dual.specs.Reports.{DualLinesTell, TellLowerImage}

-- ---- the last entry of a normal
-- it is fixed by the others where the product with a vector that ends in 1 is 1
last_fixed : (s t : ℚ) → s +ℚ t *ℚ one_ℚ ≡ one_ℚ → t ≡ one_ℚ +ℚ neg_ℚ s
last_fixed s t e = ring rationals (s ∷ t ∷ []) v1 ((v0 ⊕ (v1 ⊗ num (pos 1))) ⊝ v0) refl ∙ ap (λ x. x +ℚ neg_ℚ s) e

normal_fixed : (n : ℕ) (c w : List ℚ) (bound : ℚ) → length c ≡ suc n → length w ≡ suc n → entry c (suc n) ≡ one_ℚ → dot w c ≡ one_ℚ →
    (completed (front c) (take n w) bound).normal ≡ w
normal_fixed n c w bound c_wide w_wide last normed =
    let u : IsHomogenised n w = unhomogenised n w w_wide in
    let d : IsHomogenised n c = unhomogenised n c c_wide in
    let one : d.last ≡ one_ℚ = sym (last-homogenised n d.front d.last d.wide) ∙ ap (λ (v : List ℚ). entry v (suc n)) (sym d.same) ∙ last in
    let c_is : homogenised d.front one_ℚ ≡ c = ap (homogenised d.front) (sym one) ∙ sym d.same in
    let c_front : front c ≡ d.front =
    (let m : length c - 1 ≡ n = omega (arith, c_wide) in ap (λ (k : ℕ). take k c) m) ∙ ap (take n) d.same ∙ front-homogenised n d.front d.last d.wide in
    let w_front : take n w ≡ u.front = ap (take n) u.same ∙ front-homogenised n u.front u.last u.wide in
    let e : dot u.front d.front +ℚ u.last *ℚ one_ℚ ≡ one_ℚ =
    sym (dot-homogenised u.front d.front u.last one_ℚ (u.wide ∙ sym d.wide)) ∙ ap₂ (λ x y. dot x y) (sym u.same) c_is ∙ normed in
    ap₂ (λ (x y : List ℚ). homogenised x (one_ℚ +ℚ neg_ℚ (dot y x))) w_front c_front
    ∙ ap (λ x. homogenised u.front (one_ℚ +ℚ neg_ℚ x)) (dot_comm d.front u.front)
    ∙ ap (homogenised u.front) (sym (last_fixed (dot u.front d.front) u.last e))
    ∙ sym u.same

-- ---- members of the lower image
record Parts (n : ℕ) (v : List ℚ) : Type 0 where
  front : List ℚ
  bound : ℚ
  wide : length front ≡ n
  same : v ≡ front ++ bound ∷ []

parts_of : (dir : Dir) (n : ℕ) (Set : List ℚ → Type 0) (c v : List ℚ) → LowerImage dir n Set c v → Parts n v
parts_of Min n Set c v h = record { front = h.front; bound = h.bound; wide = h.wide; same = h.same }
parts_of Max n Set c v h = record { front = h.front; bound = h.bound; wide = h.wide; same = h.same }

-- ---- the texts of the direction
zero_text : codes "0" ≡ frac_text zero_ℚ
unfolding whole digits
zero_text = refl

down_text : (dir : Dir) → downward dir ≡ frac_text (signed dir (neg_ℚ one_ℚ))
unfolding neg_ℚ whole digits
down_text Min = refl
down_text Max = refl

texts : (n : ℕ) (dir : Dir) → replicate n (codes "0") ++ downward dir ∷ [] ≡ map frac_text (zeros n ++ signed dir (neg_ℚ one_ℚ) ∷ [])
texts zero dir = ap (λ (w : List ℕ). w ∷ []) (down_text dir)
texts (suc n) dir = ap₂ (λ (w : List ℕ) (ws : List (List ℕ)). w ∷ ws) zero_text (texts n dir)

-- ---- the law
module _ (file : Problem) (c : List ℚ) (ls : List LineGen) (points directions : List Gen) (facets : List Facet) (h : IsSolution file c ls points directions facets) where
  abbrev n : ℕ
  n = file.objs - 1

  abbrev Set : List ℚ → Type 0
  Set = IsInWorkingImage file

  abbrev vertex_of : Facet → List ℚ
  vertex_of f = take n f.w ++ f.gamma ∷ []

  q : suc n ≡ file.objs
  q = omega (arith, file.some_objective)

  c_wide : length c ≡ suc n
  c_wide = (ordering_cone_convex file).wide c h.fits.interior.member ∙ sym q

  c_last : entry c (suc n) ≡ one_ℚ
  c_last = ap (λ (k : ℕ). entry c k) q ∙ h.fits.last

  facet_at : (f : Facet) → Contains facets f → IsFacet file.objs Set c (working file (stated f))
  facet_at f k = (h.facets_are (stated f)).0 (Contains-map stated facets f k)

  stated_is : (f : Facet) → Contains facets f → completed (front c) (take n f.w) f.gamma ≡ stated f
  stated_is f k =
      ap (λ (w : List ℚ). record { normal = w; bound = f.gamma })
      (normal_fixed n c f.w f.gamma c_wide ((facet_at f k).valid.wide ∙ sym q) c_last (facet_at f k).valid.normed)

  describes : DescribeLowerImage file c facets
  describes = facets_describe_lower_image file c ls points directions facets h

  to_vertex : (v : List ℚ) → Contains (map vertex_of facets) v → IsVertex (IsInLowerImageOf file c) v
  to_vertex v k =
      let s : (f : Facet) × Contains facets f × (vertex_of f ≡ v) = Contains-map_source vertex_of facets v k in
      let f : Facet = s.0 in
      let wide : length (take n f.w) ≡ n = length-take-le n f.w (let w = (facet_at f s.1).valid.wide in omega (arith, w)) in
      subst (IsVertex (IsInLowerImageOf file c)) s.2
      ((describes.vertices (take n f.w) f.gamma wide).0
      (subst (λ (e : Inequality). Contains (map stated facets) e) (sym (stated_is f s.1)) (Contains-map stated facets f s.1)))

  from_vertex : (v : List ℚ) → IsVertex (IsInLowerImageOf file c) v → Contains (map vertex_of facets) v
  from_vertex v k =
      let p : Parts n v = parts_of file.dir n Set (front c) v k.member in
      let found : Contains (map stated facets) (completed (front c) p.front p.bound) =
      (describes.vertices p.front p.bound p.wide).1 (subst (IsVertex (IsInLowerImageOf file c)) p.same k) in
      let s : (f : Facet) × Contains facets f × (stated f ≡ completed (front c) p.front p.bound) =
      Contains-map_source stated facets (completed (front c) p.front p.bound) found in
      let f : Facet = s.0 in
      let fronts : take n f.w ≡ p.front =
      ap (λ (e : Inequality). take n e.normal) s.2 ∙ front-homogenised n p.front (one_ℚ +ℚ neg_ℚ (dot (front c) p.front)) p.wide in
      subst (Contains (map vertex_of facets))
      (ap₂ (λ (w : List ℚ) (b : ℚ). w ++ b ∷ []) fronts (ap (λ (e : Inequality). e.bound) s.2) ∙ sym p.same)
      (Contains-map vertex_of facets f s.1)

  tell : TellLowerImage file c facets
  tell = record {
    vertices = map vertex_of facets;
    exactly = λ v. (to_vertex v, from_vertex v);
    lines = sym (map-map (vector_line (codes "1")) vertex_of facets);
    last_line = ap (λ (ws : List (List ℕ)). codes "0" ∷ ws) (texts n file.dir);
    one_direction = describes.direction;
  }

pub dual_lines_tell : DualLinesTell
dual_lines_tell file c ls points directions facets h = tell file c ls points directions facets h
