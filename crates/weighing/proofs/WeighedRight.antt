-- What a weighing answers is right for the image.
use Rattle.std.proofs.Common.{◌≡◌, ◌⊎◌, inl, inr, ℕ, List, ◌∷◌, ◌++◌, All, Contains, refl, sym, subst}
use Rattle.std.proofs.lemmas.List.Elements.{Contains-append_left, Contains-append_right, Contains-append_cases}
use Rattle.exact_field.specs.Rational.{ℚ, zero_ℚ, ◌≤ℚ◌}
use Rattle.exact_field.specs.Vector.{dot}
use Rattle.lineality.specs.Lines.{IsInLineality}
use Rattle.polyhedra.specs.Negatives.{negated}
use Rattle.polyhedra.proofs.Lists.{all_from_map, Contains-here}
use Rattle.polyhedra.proofs.Members.{all_of_members, member_of, Contains-map, Contains-map_source}
use Rattle.upper_image.specs.UpperImage.{signed, IsDirection}
use Rattle.vlp_problem.specs.declared.problem.Problem.{Problem}
use Rattle.log_rules.specs.Right.{IsSolution}
use Rattle.log_rules.specs.declared.answer.Answer.TheVariants.{Infeasible, Whole as WholeImage, Solved}
use Rattle.log_rules.specs.declared.answer.Facet.{Facet}
use Rattle.log_rules.specs.declared.answer.Gen.{Gen}
use Rattle.log_rules.specs.declared.answer.LineGen.{LineGen}
use Rattle.weighing.specs.Laws.{WeighedIsRight}
use Rattle.weighing.specs.Stages.{Item, line, direction, point, line_items, direction_items, point_items, IsPassed, IsWay, EndsDown, EndsLeast}
use Rattle.weighing.specs.Walk.{all_items}
use Rattle.weighing.specs.Weighing.{GoesDown, IsLeast}
use Rattle.weighing.specs.declared.weighed.Weighed.TheVariants.{Empty, Whole, Unbounded, Least}
use Rattle.weighing.proofs.Lowest.{points_are_enough}

module _ (file : Problem) (c : List ℚ) (ls : List LineGen) (points directions : List Gen) (facets : List Facet)
    (s : IsSolution file c ls points directions facets) (w : List ℚ) where
  -- the way down along an item is a direction of the image
  way_of_line : (item : Item) → Contains (line_items ls) item → (d : List ℚ) → IsWay item d → IsDirection file d
  way_of_line item k d way = go m.0 m.1 (subst (λ (i : Item). IsWay i d) (sym m.2) way)
    where
      m : (l : LineGen) × Contains ls l × (line l.d ≡ item)
      m = Contains-map_source (λ (l : LineGen). line l.d) ls item k

      along : (l : LineGen) → Contains ls l → IsInLineality (IsDirection file) l.d
      along l i = member_of (λ (l : LineGen). IsInLineality (IsDirection file) l.d) ls l (all_from_map (IsInLineality (IsDirection file)) (λ (l : LineGen). l.d) ls s.lines_are.each) i

      go : (l : LineGen) → Contains ls l → (d ≡ l.d) ⊎ (d ≡ negated l.d) → IsDirection file d
      go l i (inl e) = subst (λ (v : List ℚ). IsDirection file v) (sym e) (along l i).forth
      go l i (inr e) = subst (λ (v : List ℚ). IsDirection file v) (sym e) (along l i).back

  way_of_direction : (item : Item) → Contains (direction_items directions) item → (d : List ℚ) → IsWay item d → IsDirection file d
  way_of_direction item k d way = subst (λ (v : List ℚ). IsDirection file v) (sym same) there
    where
      m : (g : Gen) × Contains directions g × (direction g.y ≡ item)
      m = Contains-map_source (λ (g : Gen). direction g.y) directions item k

      same : d ≡ m.0.y
      same = subst (λ (i : Item). IsWay i d) (sym m.2) way

      there : IsDirection file m.0.y
      there = ((s.extreme m.0.y).0 (Contains-map (λ (g : Gen). g.y) directions m.0 m.1)).0.member.member

  no_way_of_point : (item : Item) → Contains (point_items points) item → (d : List ℚ) → IsWay item d → ⊥
  no_way_of_point item k d way =
      let m : (g : Gen) × Contains points g × (point g.y ≡ item) = Contains-map_source (λ (g : Gen). point g.y) points item k in
      subst (λ (i : Item). IsWay i d) (sym m.2) way

  way_of_item : (item : Item) → Contains (all_items ls directions points) item → (d : List ℚ) → IsWay item d → IsDirection file d
  way_of_item item k d way = by_lines (Contains-append_cases (line_items ls) (direction_items directions ++ point_items points) item k)
    where
      by_directions : Contains (direction_items directions) item ⊎ Contains (point_items points) item → IsDirection file d
      by_directions (inl i) = way_of_direction item i d way
      by_directions (inr i) = absurd (no_way_of_point item i d way)

      by_lines : Contains (line_items ls) item ⊎ Contains (direction_items directions ++ point_items points) item → IsDirection file d
      by_lines (inl i) = way_of_line item i d way
      by_lines (inr i) = by_directions (Contains-append_cases (direction_items directions) (point_items points) item i)

  goes_down : (d : List ℚ) → EndsDown file.dir w (all_items ls directions points) d → GoesDown file w d
  goes_down d h = record {
    direction = way_of_item h.item
        (subst (λ (is : List Item). Contains is h.item) (sym h.reached.split)
        (Contains-append_right h.reached.before (h.item ∷ h.reached.after) h.item (Contains-here h.item h.reached.after h.item refl)))
        d h.way;
    down = h.down;
  }

  -- what is passed
  passed_lines : All (IsPassed file.dir w) (all_items ls directions points) → All (λ (l : LineGen). dot w l.d ≡ zero_ℚ) ls
  passed_lines h = all_of_members (λ (l : LineGen). dot w l.d ≡ zero_ℚ) ls (λ l k.
      (member_of (IsPassed file.dir w) (all_items ls directions points) (line l.d) h
      (Contains-append_left (line_items ls) (direction_items directions ++ point_items points) (line l.d) (Contains-map (λ (l : LineGen). line l.d) ls l k))).on)

  passed_directions : All (IsPassed file.dir w) (all_items ls directions points) → All (λ (g : Gen). zero_ℚ ≤ℚ signed file.dir (dot w g.y)) directions
  passed_directions h = all_of_members (λ (g : Gen). zero_ℚ ≤ℚ signed file.dir (dot w g.y)) directions (λ g k.
      (member_of (IsPassed file.dir w) (all_items ls directions points) (direction g.y) h
      (Contains-append_right (line_items ls) (direction_items directions ++ point_items points) (direction g.y)
      (Contains-append_left (direction_items directions) (point_items points) (direction g.y) (Contains-map (λ (g : Gen). direction g.y) directions g k)))).on)

  is_least : (value : ℚ) (listed : List ℕ) → EndsLeast file.dir w (all_items ls directions points) points value listed → IsLeast file points w value listed
  is_least value listed h = record {
    lowest = points_are_enough file c ls points directions facets s w value h.least (passed_directions h.passed) (passed_lines h.passed);
    have = h.have;
    some = h.some;
  }

pub weighed_is_right : WeighedIsRight
weighed_is_right file (Infeasible u) w Empty s h = tt
weighed_is_right file (WholeImage c x ray) w Whole s h = tt
weighed_is_right file (Solved c ls points directions facets) w (Unbounded d) s h = goes_down file c ls points directions facets s w d h
weighed_is_right file (Solved c ls points directions facets) w (Least value listed) s h = is_least file c ls points directions facets s w value listed h
weighed_is_right file answer w weighed s h = absurd h
