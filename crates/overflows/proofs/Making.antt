-- Live generators by their making: they grow by one step, describe the cone of the rows, and are
-- its generators.
use Rattle.std.proofs.Common.{◌≡◌, ℕ, List, [], ◌∷◌, ◌++◌, refl, sym, ap, ◌∙◌, subst, append_assoc, append-nil, Contains}
use Rattle.exact_field.specs.Rational.{ℚ}
use Rattle.polyhedra.specs.LiveList.{Numbered, LiveList, starting, step, steps}
use Rattle.polyhedra.specs.LiveSteps.{IsLive}
use Rattle.polyhedra.specs.Vectors.{AreWide}
use Rattle.polyhedra.proofs.Corners.{start}
use Rattle.polyhedra.proofs.Lists.{wide-tail}
use Rattle.polyhedra.proofs.LiveSteps.{are_live}
use Rattle.polyhedra.proofs.Members.{Contains-map}
use Rattle.overflows.specs.Base.{IsGeneratorOf}
use Rattle.overflows.specs.Generators.{IsMadeOver}
use Rattle.overflows.specs.Laws.{GeneratorLaws}

-- one row more is one step more
steps-push : (rows : List (List ℚ)) (list : LiveList) (more : List (List ℚ)) (row : List ℚ) →
    steps rows list (more ++ row ∷ []) ≡ step (rows ++ more) (steps rows list more) row
steps-push rows list [] row = ap (λ (rs : List (List ℚ)). step rs list row) (sym (append-nil rows))
steps-push rows list (r ∷ more) row =
    steps-push (rows ++ r ∷ []) (step rows list r) more row
    ∙ ap (λ (rs : List (List ℚ)). step rs (steps (rows ++ r ∷ []) (step rows list r) more) row) (append_assoc rows (r ∷ []) more)

grows : (n : ℕ) (rows : List (List ℚ)) (list : LiveList) (row : List ℚ) → IsMadeOver n rows list → IsMadeOver n (rows ++ row ∷ []) (step rows list row)
grows n rows list row h =
    record {
      first = h.first;
      more = h.more ++ row ∷ [];
      parted = ap (λ (rs : List (List ℚ)). rs ++ row ∷ []) h.parted ∙ append_assoc h.first h.more (row ∷ []);
      vectors = h.vectors;
      corners = h.corners;
      normed = h.normed;
      same = ap (λ (rs : List (List ℚ)). step rs list row) h.parted ∙ ap (λ (l : LiveList). step (h.first ++ h.more) l row) h.same
          ∙ sym (steps-push h.first (starting 1 h.vectors) h.more row);
    }

wide_after : (n : ℕ) (first more : List (List ℚ)) → AreWide n (first ++ more) → AreWide n more
wide_after n [] more w = w
wide_after n (r ∷ first) more w = wide_after n first more (wide-tail n r (first ++ more) w)

live : (n : ℕ) (rows : List (List ℚ)) (list : LiveList) → AreWide n rows → IsMadeOver n rows list → IsLive n rows list
live n rows list w h =
    let wide : AreWide n h.more = wide_after n h.first h.more (subst (λ (rs : List (List ℚ)). AreWide n rs) h.parted w) in
    let made : IsLive n (h.first ++ h.more) (steps h.first (starting 1 h.vectors) h.more) =
    are_live.after n h.first (starting 1 h.vectors) h.more wide (are_live.start n 1 h.first h.vectors (start n h.first h.vectors h.corners) h.normed) in
    subst (λ (rs : List (List ℚ)). IsLive n rs list) (sym h.parted)
    (subst (λ (l : LiveList). IsLive n (h.first ++ h.more) l) (sym h.same) made)

generator : (n : ℕ) (rows : List (List ℚ)) (list : LiveList) (g : Numbered) → IsLive n rows list → Contains list.live g → IsGeneratorOf n rows g.vector
generator n rows list g h c =
    let is = (are_live.extreme n rows list h g.vector).0 (Contains-map (λ (x : Numbered). x.vector) list.live g c) in
    record { pointed = h.described.pointed; extreme = is.0; normed = is.1 }

pub generator_laws : GeneratorLaws
generator_laws = record {
  starts = λ n rows vs corners normed. record {
    first = rows;
    more = [];
    parted = sym (append-nil rows);
    vectors = vs;
    corners = corners;
    normed = normed;
    same = refl;
  };
  grows = grows;
  live = live;
  generator = generator;
}
