-- Two right solutions for one file and one duality vector have the same report up to the witnesses.
use Rattle.std.proofs.Common.{◌≡◌, ◌-◌, ℕ, List, [], ◌∷◌, ◌++◌, map, length, refl, sym, ap, ap₂, ◌∙◌, arith}
use Rattle.std.specs.Prelude.{codes, decimal, take}
use Rattle.std.proofs.lemmas.List.{length-map}
use Rattle.std.proofs.lemmas.Simd.{map-map}
use Rattle.exact_field.specs.Rational.{ℚ}
use Rattle.polyhedra.specs.Inequality.{Inequality}
use Rattle.vlp_problem.specs.declared.problem.Problem.{Problem}
use Rattle.log_rules.specs.Report.{dual_direction_line, dual_line, facet_line, head_lines, incidence_line, line_lines, section, vector_line}
use Rattle.log_rules.specs.Right.{stated}
use Rattle.log_rules.specs.declared.answer.Answer.TheVariants.{Solved}
use Rattle.log_rules.specs.declared.answer.Facet.{Facet}
use Rattle.log_rules.specs.declared.answer.Gen.{Gen}
use Rattle.log_rules.specs.declared.answer.LineGen.{LineGen}
use Rattle.log_rules.proofs.SolutionsAgree.{right_solutions_agree}
use Rattle.benson_dual.specs.Reports.{ImagePartsAgree}

-- ---- sections
-- a section that tells a part of each thing is that of these parts
section_of : {X Y : Type 0} (name : List ℕ) (line : Y → List (List ℕ)) (part : X → Y) (xs : List X) →
    section name (λ x. line (part x)) xs ≡ section name line (map part xs)
section_of name line part xs =
    ap₂ (λ (n : ℕ) (ls : List (List (List ℕ))). (name ∷ decimal n ∷ []) ∷ ls) (sym (length-map xs part)) (sym (map-map line part xs))

-- so it is the same where these are
section_same : {X Y : Type 0} (name : List ℕ) (line : Y → List (List ℕ)) (part : X → Y) (xs ys : List X) → map part xs ≡ map part ys →
    section name (λ x. line (part x)) xs ≡ section name (λ x. line (part x)) ys
section_same name line part xs ys same = section_of name line part xs ∙ ap (section name line) same ∙ sym (section_of name line part ys)

lines_same : (ls ls' : List LineGen) → map (λ l. l.d) ls ≡ map (λ l. l.d) ls' → line_lines ls ≡ line_lines ls'
lines_same [] [] same = refl
lines_same [] (l ∷ ls) same = absurd (let n = ap length same in omega (arith, n))
lines_same (l ∷ ls) [] same = absurd (let n = ap length same in omega (arith, n))
lines_same (k ∷ ks) (l ∷ ls) same = section_same (codes "lines") (λ v. vector_line (codes "l") v) (λ (x : LineGen). x.d) (k ∷ ks) (l ∷ ls) same

-- ---- the lines of an image by its sections
together : Problem → List ℚ → (ls points directions facets dual incidence : List (List (List ℕ))) → List (List (List ℕ))
together file c ls points directions facets dual incidence =
    vector_line (codes "c") c ∷ ls ++ points ++ directions ++ facets ++ dual ++ dual_direction_line file ∷ incidence

together_same : (file : Problem) (c : List ℚ) (a a' b b' d d' e e' f f' g g' : List (List (List ℕ))) → a ≡ a' → b ≡ b' → d ≡ d' → e ≡ e' → f ≡ f' → g ≡ g' →
    together file c a b d e f g ≡ together file c a' b' d' e' f' g'
together_same file c a a' b b' d d' e e' f f' g g' p q r s t u =
    ap₂ (λ x y. together file c x y d e f g) p q ∙ ap₂ (λ x y. together file c a' b' x y f g) r s ∙ ap₂ (λ x y. together file c a' b' d' e' x y) t u

pub image_parts_agree : ImagePartsAgree
unfolding together
image_parts_agree file c ls ls' points points' directions directions' facets facets' h h' =
    let same = right_solutions_agree file c ls ls' points points' directions directions' facets facets' h h' in
    ap (λ (lines : List (List (List ℕ))). head_lines file (Solved c ls points directions facets) ++ lines)
    (together_same file c (line_lines ls) (line_lines ls')
    (section (codes "points") (λ (g : Gen). vector_line (codes "1") g.y) points) (section (codes "points") (λ (g : Gen). vector_line (codes "1") g.y) points')
    (section (codes "directions") (λ (g : Gen). vector_line (codes "0") g.y) directions) (section (codes "directions") (λ (g : Gen). vector_line (codes "0") g.y) directions')
    (section (codes "facets") facet_line facets) (section (codes "facets") facet_line facets')
    (section (codes "dual") (dual_line file.objs) facets) (section (codes "dual") (dual_line file.objs) facets')
    (section (codes "incidence") incidence_line facets) (section (codes "incidence") incidence_line facets')
    (lines_same ls ls' same.0)
    (section_same (codes "points") (vector_line (codes "1")) (λ (g : Gen). g.y) points points' same.1)
    (section_same (codes "directions") (vector_line (codes "0")) (λ (g : Gen). g.y) directions directions' same.2)
    (section_same (codes "facets") (λ (e : Inequality). vector_line (codes "f") (e.normal ++ e.bound ∷ [])) stated facets facets' same.3)
    (section_same (codes "dual") (λ (e : Inequality). vector_line (codes "1") (take (file.objs - 1) e.normal ++ e.bound ∷ [])) stated facets facets' same.3)
    (section_same (codes "incidence") (λ (ks : List ℕ). codes "n" ∷ decimal (length ks) ∷ map decimal ks) (λ (f : Facet). f.tight) facets facets' same.4))
