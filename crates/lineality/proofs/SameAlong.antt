-- One description of a set with lines, and descriptions without lines.
use Rattle.std.proofs.Common.{◌≡◌, ◌↔◌, ℕ, List, [], sym, subst}
use Rattle.std.proofs.lemmas.List.Elements.{All-nil}
use Rattle.exact_field.specs.Rational.{ℚ, zero_ℚ}
use Rattle.exact_field.specs.Vector.{entry}
use Rattle.polyhedra.specs.Hull.{IsVertex, IsExtremeDirection}
use Rattle.lineality.specs.Exactness.{IsExactAlong}
use Rattle.lineality.specs.Laws.{OneDescriptionAlong, NoLines}
use Rattle.lineality.specs.Lines.{leading_place, IsReducedIn}
use Rattle.lineality.proofs.Lineality.{one_list_of_lines}

pub one_description_along : (Set Directions : List ℚ → Type 0) → OneDescriptionAlong Set Directions
one_description_along Set Directions n c lines lines' points points' directions directions' facets facets' cone a b =
    let e : lines ≡ lines' = one_list_of_lines Directions n lines lines' cone a.lines_are b.lines_are in
    let k : IsExactAlong n Set Directions c lines points' directions' facets' =
    subst (λ (ls : List (List ℚ)). IsExactAlong n Set Directions c ls points' directions' facets') (sym e) b in
    record {
      lines_same = e;
      points_same = λ y. (λ h. (k.vertices y).1 ((a.vertices y).0 h), λ h. (a.vertices y).1 ((k.vertices y).0 h));
      directions_same = λ d. (λ h. (k.extreme d).1 ((a.extreme d).0 h), λ h. (a.extreme d).1 ((k.extreme d).0 h));
      facets_same = λ f. (λ h. (k.facets_are f).1 ((a.facets_are f).0 h), λ h. (a.facets_are f).1 ((k.facets_are f).0 h));
    }

-- without lines each member is reduced
module _ (Set : List ℚ → Type 0) where
  plain : (y : List ℚ) → Set y → IsReducedIn [] Set y
  plain y h = record { member = h; reduced = All-nil (λ d. entry y (leading_place d) ≡ zero_ℚ) }

  vertex_plain : (y : List ℚ) → IsVertex (IsReducedIn [] Set) y ↔ IsVertex Set y
  vertex_plain y = (
    λ v. record { member = v.member.member; no_midpoint = λ a b h k e. v.no_midpoint a b (plain a h) (plain b k) e },
    λ v. record { member = plain y v.member; no_midpoint = λ a b h k e. v.no_midpoint a b h.member k.member e },
  )

  extreme_plain : (n : ℕ) (d : List ℚ) → IsExtremeDirection n (IsReducedIn [] Set) d ↔ IsExtremeDirection n Set d
  extreme_plain n d = (
    λ v. record { member = v.member.member; not_zero = v.not_zero; no_sum = λ a b h k e. v.no_sum a b (plain a h) (plain b k) e },
    λ v. record { member = plain d v.member; not_zero = v.not_zero; no_sum = λ a b h k e. v.no_sum a b h.member k.member e },
  )

pub no_lines : (Set Directions : List ℚ → Type 0) → NoLines Set Directions
no_lines Set Directions n c points directions facets h = record {
  representation = record {
    vertices = λ y. (λ k. (vertex_plain Set y).0 ((h.vertices y).0 k), λ v. (h.vertices y).1 ((vertex_plain Set y).1 v));
    extreme = λ d. (
      λ k. ((extreme_plain Directions n d).0 ((h.extreme d).0 k).0, ((h.extreme d).0 k).1),
      λ v. (h.extreme d).1 ((extreme_plain Directions n d).1 v.0, v.1),
    );
    hull = h.hull;
    some_point = h.some_point;
  };
  facets_are = h.facets_are;
}
