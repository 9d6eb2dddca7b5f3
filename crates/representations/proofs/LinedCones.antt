-- Cones with lines, and the two representations of a polyhedron by them.
use Rattle.std.proofs.Common.{◌≡◌, ℕ, suc, List, [], ◌∷◌, ◌++◌, map, length, All, Contains, refl, sym, ap, ap₂, ◌∙◌, subst, arith, inl, inr, pos}
use Rattle.std.proofs.lemmas.List.{length-map}
use Rattle.std.proofs.lemmas.List.Elements.{All-nil, All-cons, All-map, All-append, All-weaker, Contains-append_left, Contains-append_right}
use Rattle.exact_field.specs.Rational.{ℚ, zero_ℚ, one_ℚ, ◌+ℚ◌, ◌*ℚ◌, neg_ℚ, ◌≤ℚ◌}
use Rattle.exact_field.specs.Vector.{dot, sum_ℚ}
use Rattle.exact_field.specs.Ring.{v0, v1, v2, v3, ◌⊕◌, ◌⊗◌, ◌⊝◌, ⊖, num}
use Rattle.exact_field.proofs.RingTool.{ring}
use Rattle.exact_field.proofs.Rationals.{rationals, difference_self}
use Rattle.polyhedra.specs.Vectors.{AreWide, zeros, plus, scaled, values, combination}
use Rattle.polyhedra.specs.Cone.{IsGenerated, IsInCone, IsInDual}
use Rattle.polyhedra.specs.TightSets.{IsTight}
use Rattle.polyhedra.specs.Negatives.{negated}
use Rattle.polyhedra.specs.Hull.{IsInHull}
use Rattle.polyhedra.specs.Exactness.{homogenised, IsOneOf}
use Rattle.polyhedra.proofs.Laws.{add_zero, add_assoc, mul_one}
use Rattle.polyhedra.proofs.Algebra.{zero_add, zero_mul, mul_zero, one_mul, add_mul, neg_zero, neg_neg}
use Rattle.polyhedra.proofs.Order.{add_nonneg, le_of_eq}
use Rattle.polyhedra.proofs.Linear.{dot_comm, dot-plus, dot-plus_left, dot-combination, length-plus, length-scaled, length-combination, same_wide}
use Rattle.polyhedra.proofs.Lists.{HoldsAt, HasWidth, wide-head, wide-tail, values_nonneg}
use Rattle.polyhedra.proofs.Members.{all_of_members, member_of, Contains-map}
use Rattle.polyhedra.proofs.LeastQuotient.{less, less_value, less_back, less_width}
use Rattle.polyhedra.proofs.Generated.{generated_width, generated_generator}
use Rattle.polyhedra.proofs.Support.{dot_nonneg}
use Rattle.polyhedra.proofs.Duality.{dual_cones}
use Rattle.polyhedra.proofs.Homogenised.{length-homogenised, plus-homogenised, scaled-homogenised, zeros-homogenised, homogenised-same}
use Rattle.polyhedra.proofs.Cones.{IsSumOf, generated_append, generated_through}
use Rattle.polyhedra.proofs.Negatives.{negated_values, dot-negated_left}
use Rattle.lineality.proofs.Lineality.{length-negated}
use Rattle.representations.specs.Lined.{pinned, AreReaders, IsSpanned, AreLined, LinedCone, AreSidesOf, SidesAreHull, generator_rows, HoldsFor, EqualFor, HullIsSides}
use Rattle.representations.proofs.Faces.{hull_by_values}
use Rattle.representations.proofs.Pinned.{values_none, tight_negated, both_ways, pinned_cases, pinned_row}

-- ---- sums of products
-- the readers read off the slopes
pub slopes_read : (z : List ℚ) (readers lines : List (List ℚ)) → AreReaders readers lines →
    All (λ r. dot (values readers z) (values lines r) ≡ dot r z) readers
slopes_read z [] lines h = All-nil (λ r. dot (values [] z) (values lines r) ≡ dot r z)
slopes_read z (r ∷ readers) [] h = absurd h
slopes_read z (r ∷ readers) (l ∷ lines) h =
    All-cons (λ s. dot (dot r z ∷ values readers z) (dot l s ∷ values lines s) ≡ dot s z) r readers
    (ap₂ (λ a b. dot r z *ℚ a +ℚ b) (dot_comm l r ∙ h.0)
    (values_none (values readers z) lines r (All-weaker (λ k. dot r k ≡ zero_ℚ) (λ k. dot k r ≡ zero_ℚ) (λ k e. dot_comm k r ∙ e) lines h.1))
    ∙ add_zero (dot r z *ℚ one_ℚ) ∙ mul_one (dot r z))
    (all_of_members (λ s. dot (dot r z ∷ values readers z) (dot l s ∷ values lines s) ≡ dot s z) readers (λ s k.
    ap₂ (λ a b. dot r z *ℚ a +ℚ b) (dot_comm l s ∙ member_of (λ t. IsTight t l) readers s h.2 k)
    (member_of (λ t. dot (values readers z) (values lines t) ≡ dot t z) readers s (slopes_read z readers lines h.3) k)
    ∙ ap (λ x. x +ℚ dot s z) (mul_zero (dot r z)) ∙ zero_add (dot s z)))

pub readers_many : (readers lines : List (List ℚ)) → AreReaders readers lines → length readers ≡ length lines
readers_many [] [] h = refl
readers_many [] (l ∷ lines) h = absurd h
readers_many (r ∷ readers) [] h = absurd h
readers_many (r ∷ readers) (l ∷ lines) h = ap suc (readers_many readers lines h.3)

-- ---- a cone with lines
module _ (n : ℕ) (readers rows gens lines : List (List ℚ)) (d : AreLined n readers rows gens lines) where
  -- a row at a combination of lines
  row_at_lines : (r ms : List ℚ) → Contains rows r → dot ms (values lines r) ≡ zero_ℚ
  row_at_lines r ms k = values_none ms lines r (all_of_members (λ l. dot l r ≡ zero_ℚ) lines (λ l m.
      dot_comm l r ∙ member_of (λ s. IsTight s l) rows r (member_of (λ v. All (λ s. IsTight s v) rows) lines l d.at_lines m) k))

  pub gen_holds : (g r : List ℚ) → Contains gens g → Contains rows r → zero_ℚ ≤ℚ dot r g
  gen_holds g r k m = member_of (HoldsAt g) (pinned readers rows) r (member_of (IsInCone n (pinned readers rows)) gens g d.described.inside k).within (pinned_row readers rows r m)

  spanned_value : (z : List ℚ) (s : IsSpanned n gens lines z) (r : List ℚ) → dot r z ≡ dot s.multipliers (values gens r) +ℚ dot s.slopes (values lines r)
  spanned_value z s r = ap (λ v. dot r v) s.combined ∙ dot-plus r (combination n s.multipliers gens) (combination n s.slopes lines)
      ∙ ap₂ (λ a b. a +ℚ b) (dot-combination n r s.multipliers gens) (dot-combination n r s.slopes lines)

  spanned_holds : (z : List ℚ) → IsSpanned n gens lines z → All (HoldsAt z) rows
  spanned_holds z s = all_of_members (HoldsAt z) rows (λ r k.
      subst (λ (x : ℚ). zero_ℚ ≤ℚ x) (sym (spanned_value z s r ∙ ap (λ x. dot s.multipliers (values gens r) +ℚ x) (row_at_lines r s.slopes k)
      ∙ add_zero (dot s.multipliers (values gens r))))
      (dot_nonneg s.multipliers (values gens r) s.at_least_zero
      (values_nonneg gens r (all_of_members (HoldsAt r) gens (λ g m. subst (λ (x : ℚ). zero_ℚ ≤ℚ x) (dot_comm r g) (gen_holds g r m k))))))

  holds_spanned : (z : List ℚ) → length z ≡ n → All (HoldsAt z) rows → IsSpanned n gens lines z
  holds_spanned z width h =
      let slopes : List ℚ = values readers z in
      let along : List ℚ = combination n slopes lines in
      let along_width : length along ≡ n = length-combination n slopes lines d.lines_wide in
      let rest : List ℚ = less z one_ℚ along in
      let rest_width : length rest ≡ n = less_width n z along one_ℚ width along_width in
      let at_row : (r : List ℚ) → Contains rows r → zero_ℚ ≤ℚ dot r rest = λ r k.
      subst (λ (x : ℚ). zero_ℚ ≤ℚ x)
      (sym (less_value z along r one_ℚ ∙ ap (λ x. dot r z +ℚ neg_ℚ x) (one_mul (dot r along) ∙ dot-combination n r slopes lines ∙ row_at_lines r slopes k)
      ∙ ring rationals (dot r z ∷ []) (v0 ⊝ num (pos 0)) v0 refl)) (member_of (HoldsAt z) rows r h k) in
      let at_reader : (r : List ℚ) → Contains readers r → dot r rest ≡ zero_ℚ = λ r k.
      less_value z along r one_ℚ ∙ ap (λ x. dot r z +ℚ neg_ℚ x) (one_mul (dot r along) ∙ dot-combination n r slopes lines
      ∙ member_of (λ t. dot (values readers z) (values lines t) ≡ dot t z) readers r (slopes_read z readers lines d.reads) k) ∙ difference_self (dot r z) in
      let g : IsGenerated n gens rest = d.described.generates rest (record {
        wide = rest_width;
        within = all_of_members (HoldsAt rest) (pinned readers rows) (λ r k. elim (pinned_cases readers rows r k) [
          | inl m ↦ le_of_eq zero_ℚ (dot r rest) (sym (at_reader r m))
          | inr q ↦ elim q [
            | inl t ↦ le_of_eq zero_ℚ (dot r rest) (sym (ap (λ v. dot v rest) (sym t.2) ∙ tight_negated t.0 rest (at_reader t.0 t.1)))
            | inr m ↦ at_row r m
          ]
        ]);
      }) in
      record {
        multipliers = g.multipliers;
        slopes = slopes;
        one_each = g.one_each;
        slope_each = length-map readers (λ r. dot r z) ∙ readers_many readers lines d.reads;
        at_least_zero = g.at_least_zero;
        combined = same_wide n z (plus (combination n g.multipliers gens) along) width
            (length-plus n (combination n g.multipliers gens) along (length-combination n g.multipliers gens d.described.generators_wide) along_width)
            (λ r. less_back z along r one_ℚ ∙ ap₂ (λ a b. a +ℚ b) (ap (λ v. dot r v) g.combined) (one_mul (dot r along))
            ∙ sym (dot-plus r (combination n g.multipliers gens) along));
      }

pub lined_cone : LinedCone
lined_cone n readers rows gens lines d z width = (holds_spanned n readers rows gens lines d z width, spanned_holds n readers rows gens lines d z)

-- ---- homogenised combinations
raised : ℚ → List (List ℚ) → List (List ℚ)
raised t vs = map (λ v. homogenised v t) vs

homogenised_combination : (n : ℕ) (t : ℚ) (ms : List ℚ) (vs : List (List ℚ)) → length ms ≡ length vs → AreWide n vs →
    combination (suc n) ms (map (λ v. homogenised v t) vs) ≡ homogenised (combination n ms vs) (sum_ℚ ms *ℚ t)
homogenised_combination n t [] vs l w = zeros-homogenised n ∙ ap (λ x. homogenised (zeros n) x) (sym (zero_mul t))
homogenised_combination n t (m ∷ ms) [] l w = absurd (omega arith)
homogenised_combination n t (m ∷ ms) (v ∷ vs) l w =
    ap₂ (λ a b. plus a b) (scaled-homogenised m v t) (homogenised_combination n t ms vs (omega arith) (wide-tail n v vs w))
    ∙ plus-homogenised (scaled m v) (combination n ms vs) (m *ℚ t) (sum_ℚ ms *ℚ t) (length-scaled m v ∙ wide-head n v vs w
    ∙ sym (length-combination n ms vs (wide-tail n v vs w)))
    ∙ ap (λ x. homogenised (plus (scaled m v) (combination n ms vs)) x) (sym (add_mul m (sum_ℚ ms) t))

pub raised_wide : (n : ℕ) (t : ℚ) (vs : List (List ℚ)) → AreWide n vs → AreWide (suc n) (map (λ v. homogenised v t) vs)
raised_wide n t vs w = record {
  wide = All-map (HasWidth (suc n)) (λ v. homogenised v t) vs
      (All-weaker (HasWidth n) (λ v. HasWidth (suc n) (homogenised v t)) (λ v h. length-homogenised n v t h) vs w.wide);
}

-- weights of whole 1, shares and slopes, raised to the height t, 0 and 0
pub raised_sum : (n : ℕ) (t : ℚ) (points directions lines : List (List ℚ)) (y : List ℚ) → AreWide n points → AreWide n directions → AreWide n lines →
    (h : IsInHull n points directions lines y) → homogenised y t ≡
    plus (combination (suc n) h.weights (map (λ v. homogenised v t) points))
    (plus (combination (suc n) h.shares (map (λ v. homogenised v zero_ℚ) directions)) (combination (suc n) h.slopes (map (λ v. homogenised v zero_ℚ) lines)))
raised_sum n t points directions lines y p d l h =
    let A : List ℚ = combination n h.weights points in
    let B : List ℚ = combination n h.shares directions in
    let C : List ℚ = combination n h.slopes lines in
    let a : length A ≡ n = length-combination n h.weights points p in
    let b : length B ≡ n = length-combination n h.shares directions d in
    let c : length C ≡ n = length-combination n h.slopes lines l in
    ap₂ homogenised h.combined
    (ring rationals (t ∷ sum_ℚ h.shares ∷ sum_ℚ h.slopes ∷ []) v0 (num (pos 1) ⊗ v0 ⊕ (v1 ⊗ num (pos 0) ⊕ v2 ⊗ num (pos 0))) refl
    ∙ ap (λ x. x *ℚ t +ℚ (sum_ℚ h.shares *ℚ zero_ℚ +ℚ sum_ℚ h.slopes *ℚ zero_ℚ)) (sym h.weights_whole))
    ∙ sym (plus-homogenised A (plus B C) (sum_ℚ h.weights *ℚ t) (sum_ℚ h.shares *ℚ zero_ℚ +ℚ sum_ℚ h.slopes *ℚ zero_ℚ) (a ∙ sym (length-plus n B C b c)))
    ∙ ap₂ (λ u v. plus u v) (sym (homogenised_combination n t h.weights points h.weight_each p))
    (sym (plus-homogenised B C (sum_ℚ h.shares *ℚ zero_ℚ) (sum_ℚ h.slopes *ℚ zero_ℚ) (b ∙ sym c))
    ∙ ap₂ (λ u v. plus u v) (sym (homogenised_combination n zero_ℚ h.shares directions h.share_each d))
    (sym (homogenised_combination n zero_ℚ h.slopes lines h.slope_each l)))

pub raised_value : (n : ℕ) (t : ℚ) (points directions lines : List (List ℚ)) (y : List ℚ) → AreWide n points → AreWide n directions → AreWide n lines →
    (h : IsInHull n points directions lines y) (r : List ℚ) → dot r (homogenised y t) ≡
    dot h.weights (values (map (λ v. homogenised v t) points) r)
    +ℚ (dot h.shares (values (map (λ v. homogenised v zero_ℚ) directions) r) +ℚ dot h.slopes (values (map (λ v. homogenised v zero_ℚ) lines) r))
raised_value n t points directions lines y p d l h r =
    ap (λ v. dot r v) (raised_sum n t points directions lines y p d l h)
    ∙ dot-plus r _ _ ∙ ap₂ (λ a b. a +ℚ b) (dot-combination (suc n) r h.weights (map (λ v. homogenised v t) points))
    (dot-plus r _ _ ∙ ap₂ (λ a b. a +ℚ b) (dot-combination (suc n) r h.shares (map (λ v. homogenised v zero_ℚ) directions))
    (dot-combination (suc n) r h.slopes (map (λ v. homogenised v zero_ℚ) lines)))

-- ---- from inequalities
module _ (n : ℕ) (readers rows gens points directions lines : List (List ℚ)) (s : AreSidesOf n readers rows gens points directions lines) where
  high : List (List ℚ)
  high = map (λ v. homogenised v one_ℚ) points

  low : List (List ℚ)
  low = map (λ v. homogenised v zero_ℚ) directions

  level_lines : List (List ℚ)
  level_lines = map (λ v. homogenised v zero_ℚ) lines

  both_wide : AreWide (suc n) (high ++ low)
  unfolding high low
  both_wide = record { wide = All-append (HasWidth (suc n)) high low (raised_wide n one_ℚ points s.points_wide).wide (raised_wide n zero_ℚ directions s.directions_wide).wide }

  listed : (g : List ℚ) → IsOneOf points directions g → Contains (high ++ low) g
  unfolding high low
  listed g (inl (y, k, e)) = Contains-append_left high low g (subst (λ (v : List ℚ). Contains high v) (sym e) (Contains-map (λ v. homogenised v one_ℚ) points y k))
  listed g (inr (d, k, e)) = Contains-append_right high low g (subst (λ (v : List ℚ). Contains low v) (sym e) (Contains-map (λ v. homogenised v zero_ℚ) directions d k))

  to_hull : (y : List ℚ) → length y ≡ n → IsSpanned (suc n) gens level_lines (homogenised y one_ℚ) → IsInHull n points directions lines y
  unfolding high low level_lines
  to_hull y width t =
      let v : List ℚ = combination (suc n) t.multipliers gens in
      let g : IsGenerated (suc n) gens v = record { multipliers = t.multipliers; one_each = t.one_each; at_least_zero = t.at_least_zero; combined = refl } in
      let p : IsSumOf (suc n) high low v =
      generated_append (suc n) high low v (raised_wide n one_ℚ points s.points_wide) (raised_wide n zero_ℚ directions s.directions_wide)
      (length-combination (suc n) t.multipliers gens s.lined.described.generators_wide)
      (generated_through (suc n) gens (high ++ low) v both_wide (all_of_members (IsGenerated (suc n) (high ++ low)) gens (λ u k.
      generated_generator (suc n) (high ++ low) u both_wide (listed u (member_of (IsOneOf points directions) gens u s.each k)))) g) in
      let ws : List ℚ = p.first_is.multipliers in
      let ss : List ℚ = p.second_is.multipliers in
      let ws_each : length ws ≡ length points = p.first_is.one_each ∙ length-map points (λ u. homogenised u one_ℚ) in
      let ss_each : length ss ≡ length directions = p.second_is.one_each ∙ length-map directions (λ u. homogenised u zero_ℚ) in
      let ls_each : length t.slopes ≡ length lines = t.slope_each ∙ length-map lines (λ u. homogenised u zero_ℚ) in
      let A : List ℚ = combination n ws points in
      let B : List ℚ = combination n ss directions in
      let C : List ℚ = combination n t.slopes lines in
      let a : length A ≡ n = length-combination n ws points s.points_wide in
      let b : length B ≡ n = length-combination n ss directions s.directions_wide in
      let c : length C ≡ n = length-combination n t.slopes lines s.lines_wide in
      let whole : homogenised y one_ℚ ≡ homogenised (plus (plus A B) C) ((sum_ℚ ws *ℚ one_ℚ +ℚ sum_ℚ ss *ℚ zero_ℚ) +ℚ sum_ℚ t.slopes *ℚ zero_ℚ) =
      t.combined ∙ ap₂ (λ x z. plus x z)
      (p.same ∙ ap₂ (λ x z. plus x z) (p.first_is.combined ∙ homogenised_combination n one_ℚ ws points ws_each s.points_wide)
      (p.second_is.combined ∙ homogenised_combination n zero_ℚ ss directions ss_each s.directions_wide)
      ∙ plus-homogenised A B (sum_ℚ ws *ℚ one_ℚ) (sum_ℚ ss *ℚ zero_ℚ) (a ∙ sym b))
      (homogenised_combination n zero_ℚ t.slopes lines ls_each s.lines_wide)
      ∙ plus-homogenised (plus A B) C (sum_ℚ ws *ℚ one_ℚ +ℚ sum_ℚ ss *ℚ zero_ℚ) (sum_ℚ t.slopes *ℚ zero_ℚ) (length-plus n A B a b ∙ sym c) in
      let both : (y ≡ plus (plus A B) C) × (one_ℚ ≡ (sum_ℚ ws *ℚ one_ℚ +ℚ sum_ℚ ss *ℚ zero_ℚ) +ℚ sum_ℚ t.slopes *ℚ zero_ℚ) =
      homogenised-same y (plus (plus A B) C) one_ℚ ((sum_ℚ ws *ℚ one_ℚ +ℚ sum_ℚ ss *ℚ zero_ℚ) +ℚ sum_ℚ t.slopes *ℚ zero_ℚ) whole in
      hull_by_values n points directions lines y ws ss t.slopes s.points_wide s.directions_wide s.lines_wide width ws_each ss_each ls_each
      p.first_is.at_least_zero p.second_is.at_least_zero
      (sym (both.1 ∙ ring rationals (sum_ℚ ws ∷ sum_ℚ ss ∷ sum_ℚ t.slopes ∷ []) ((v0 ⊗ num (pos 1) ⊕ v1 ⊗ num (pos 0)) ⊕ v2 ⊗ num (pos 0)) v0 refl))
      (λ r. ap (λ u. dot r u) both.0 ∙ dot-plus r (plus A B) C ∙ ap (λ x. x +ℚ dot r C) (dot-plus r A B)
      ∙ add_assoc (dot r A) (dot r B) (dot r C)
      ∙ ap₂ (λ x z. x +ℚ z) (dot-combination n r ws points) (ap₂ (λ x z. x +ℚ z) (dot-combination n r ss directions) (dot-combination n r t.slopes lines)))

  from_hull : (y : List ℚ) → IsInHull n points directions lines y → All (HoldsAt (homogenised y one_ℚ)) rows
  from_hull y h = all_of_members (HoldsAt (homogenised y one_ℚ)) rows (λ r k.
      subst (λ (x : ℚ). zero_ℚ ≤ℚ x) (sym (raised_value n one_ℚ points directions lines y s.points_wide s.directions_wide s.lines_wide h r))
      (add_nonneg (dot h.weights (values (map (λ v. homogenised v one_ℚ) points) r))
      (dot h.shares (values (map (λ v. homogenised v zero_ℚ) directions) r) +ℚ dot h.slopes (values (map (λ v. homogenised v zero_ℚ) lines) r))
      (dot_nonneg h.weights (values (map (λ v. homogenised v one_ℚ) points) r) h.weights_at_least_zero
      (values_nonneg (map (λ v. homogenised v one_ℚ) points) r (All-map (HoldsAt r) (λ v. homogenised v one_ℚ) points
      (all_of_members (λ y'. HoldsAt r (homogenised y' one_ℚ)) points (λ y' m. at r (homogenised y' one_ℚ) k (member_of (λ u. Contains gens (homogenised u one_ℚ)) points y' s.point_listed m))))))
      (add_nonneg (dot h.shares (values (map (λ v. homogenised v zero_ℚ) directions) r)) (dot h.slopes (values (map (λ v. homogenised v zero_ℚ) lines) r))
      (dot_nonneg h.shares (values (map (λ v. homogenised v zero_ℚ) directions) r) h.shares_at_least_zero
      (values_nonneg (map (λ v. homogenised v zero_ℚ) directions) r (All-map (HoldsAt r) (λ v. homogenised v zero_ℚ) directions
      (all_of_members (λ d'. HoldsAt r (homogenised d' zero_ℚ)) directions (λ d' m. at r (homogenised d' zero_ℚ) k (member_of (λ u. Contains gens (homogenised u zero_ℚ)) directions d' s.direction_listed m))))))
      (le_of_eq zero_ℚ (dot h.slopes (values (map (λ v. homogenised v zero_ℚ) lines) r))
      (sym (row_at_lines (suc n) readers rows gens (map (λ v. homogenised v zero_ℚ) lines) s.lined r h.slopes k))))))
    where
      at : (r g : List ℚ) → Contains rows r → Contains gens g → zero_ℚ ≤ℚ dot g r
      at r g k m = subst (λ (x : ℚ). zero_ℚ ≤ℚ x) (dot_comm r g) (gen_holds (suc n) readers rows gens (map (λ v. homogenised v zero_ℚ) lines) s.lined g r m k)

pub sides_are_hull : SidesAreHull
unfolding level_lines
sides_are_hull n readers rows gens points directions lines s y width = (
  λ h. to_hull n readers rows gens points directions lines s y width
      (holds_spanned (suc n) readers rows gens (map (λ v. homogenised v zero_ℚ) lines) s.lined (homogenised y one_ℚ) (length-homogenised n y one_ℚ width) h),
  λ h. from_hull n readers rows gens points directions lines s y h,
)

-- ---- from points, directions and lines
module _ (n : ℕ) (points directions lines rows readers gens equations : List (List ℚ)) (p : AreWide n points) (d : AreWide n directions) (l : AreWide n lines)
    (same : (r : List ℚ) → (Contains rows r → Contains (generator_rows points directions lines) r) × (Contains (generator_rows points directions lines) r → Contains rows r))
    (lined : AreLined (suc n) readers rows gens equations) where
  minus : ℚ
  minus = neg_ℚ one_ℚ

  at_points : List (List ℚ)
  at_points = map (λ y. homogenised y (neg_ℚ one_ℚ)) points

  at_directions : List (List ℚ)
  at_directions = map (λ y. homogenised y zero_ℚ) directions

  forth : List (List ℚ)
  forth = map (λ y. homogenised y zero_ℚ) lines

  back : List (List ℚ)
  back = map (λ y. homogenised (negated y) zero_ℚ) lines

  point_row : (y : List ℚ) → Contains points y → Contains rows (homogenised y (neg_ℚ one_ℚ))
  unfolding at_points at_directions forth back
  point_row y k = (same (homogenised y (neg_ℚ one_ℚ))).1 (Contains-append_left at_points (at_directions ++ (forth ++ back)) (homogenised y (neg_ℚ one_ℚ))
      (Contains-map (λ u. homogenised u (neg_ℚ one_ℚ)) points y k))

  direction_row : (y : List ℚ) → Contains directions y → Contains rows (homogenised y zero_ℚ)
  unfolding at_points at_directions forth back
  direction_row y k = (same (homogenised y zero_ℚ)).1 (Contains-append_right at_points (at_directions ++ (forth ++ back)) (homogenised y zero_ℚ)
      (Contains-append_left at_directions (forth ++ back) (homogenised y zero_ℚ) (Contains-map (λ u. homogenised u zero_ℚ) directions y k)))

  forth_row : (y : List ℚ) → Contains lines y → Contains rows (homogenised y zero_ℚ)
  unfolding at_points at_directions forth back
  forth_row y k = (same (homogenised y zero_ℚ)).1 (Contains-append_right at_points (at_directions ++ (forth ++ back)) (homogenised y zero_ℚ)
      (Contains-append_right at_directions (forth ++ back) (homogenised y zero_ℚ) (Contains-append_left forth back (homogenised y zero_ℚ) (Contains-map (λ u. homogenised u zero_ℚ) lines y k))))

  back_row : (y : List ℚ) → Contains lines y → Contains rows (homogenised (negated y) zero_ℚ)
  unfolding at_points at_directions forth back
  back_row y k = (same (homogenised (negated y) zero_ℚ)).1 (Contains-append_right at_points (at_directions ++ (forth ++ back)) (homogenised (negated y) zero_ℚ)
      (Contains-append_right at_directions (forth ++ back) (homogenised (negated y) zero_ℚ)
      (Contains-append_right forth back (homogenised (negated y) zero_ℚ) (Contains-map (λ u. homogenised (negated u) zero_ℚ) lines y k))))

  negated_homogenised : (y : List ℚ) → homogenised (negated y) zero_ℚ ≡ negated (homogenised y zero_ℚ)
  negated_homogenised [] = ap (λ x. x ∷ []) (sym neg_zero)
  negated_homogenised (x ∷ y) = ap (λ w. neg_ℚ x ∷ w) (negated_homogenised y)

  -- a vector at which each row is at least 0 is 0 at each line
  line_value : (e y : List ℚ) → Contains lines y → ((r : List ℚ) → Contains rows r → zero_ℚ ≤ℚ dot r e) → dot (homogenised y zero_ℚ) e ≡ zero_ℚ
  line_value e y k h = both_ways (dot (homogenised y zero_ℚ) e) (h (homogenised y zero_ℚ) (forth_row y k))
      (subst (λ (x : ℚ). zero_ℚ ≤ℚ x) (ap (λ v. dot v e) (negated_homogenised y) ∙ dot-negated_left (homogenised y zero_ℚ) e) (h (homogenised (negated y) zero_ℚ) (back_row y k)))

  pub hull_meets : (z : List ℚ) → IsInHull n points directions lines z → (e : List ℚ) → ((r : List ℚ) → Contains rows r → zero_ℚ ≤ℚ dot r e) → HoldsFor z e
  hull_meets z h e k =
      subst (λ (x : ℚ). zero_ℚ ≤ℚ x) (sym (raised_value n (neg_ℚ one_ℚ) points directions lines z p d l h e))
      (add_nonneg (dot h.weights (values (map (λ v. homogenised v (neg_ℚ one_ℚ)) points) e))
      (dot h.shares (values (map (λ v. homogenised v zero_ℚ) directions) e) +ℚ dot h.slopes (values (map (λ v. homogenised v zero_ℚ) lines) e))
      (dot_nonneg h.weights (values (map (λ v. homogenised v (neg_ℚ one_ℚ)) points) e) h.weights_at_least_zero
      (values_nonneg (map (λ v. homogenised v (neg_ℚ one_ℚ)) points) e (All-map (HoldsAt e) (λ v. homogenised v (neg_ℚ one_ℚ)) points
      (all_of_members (λ y. HoldsAt e (homogenised y (neg_ℚ one_ℚ))) points (λ y m. k (homogenised y (neg_ℚ one_ℚ)) (point_row y m))))))
      (add_nonneg (dot h.shares (values (map (λ v. homogenised v zero_ℚ) directions) e)) (dot h.slopes (values (map (λ v. homogenised v zero_ℚ) lines) e))
      (dot_nonneg h.shares (values (map (λ v. homogenised v zero_ℚ) directions) e) h.shares_at_least_zero
      (values_nonneg (map (λ v. homogenised v zero_ℚ) directions) e (All-map (HoldsAt e) (λ v. homogenised v zero_ℚ) directions
      (all_of_members (λ y. HoldsAt e (homogenised y zero_ℚ)) directions (λ y m. k (homogenised y zero_ℚ) (direction_row y m))))))
      (le_of_eq zero_ℚ (dot h.slopes (values (map (λ v. homogenised v zero_ℚ) lines) e))
      (sym (values_none h.slopes (map (λ v. homogenised v zero_ℚ) lines) e (All-map (λ v. dot v e ≡ zero_ℚ) (λ v. homogenised v zero_ℚ) lines
      (all_of_members (λ y. dot (homogenised y zero_ℚ) e ≡ zero_ℚ) lines (λ y m. line_value e y m k))))))))

  hull_equal : (z : List ℚ) → IsInHull n points directions lines z → (e : List ℚ) → ((r : List ℚ) → Contains rows r → dot r e ≡ zero_ℚ) → EqualFor z e
  hull_equal z h e k =
      raised_value n (neg_ℚ one_ℚ) points directions lines z p d l h e
      ∙ ap₂ (λ a b. a +ℚ b) (values_none h.weights (map (λ v. homogenised v (neg_ℚ one_ℚ)) points) e (All-map (λ v. dot v e ≡ zero_ℚ) (λ v. homogenised v (neg_ℚ one_ℚ)) points
      (all_of_members (λ y. dot (homogenised y (neg_ℚ one_ℚ)) e ≡ zero_ℚ) points (λ y m. k (homogenised y (neg_ℚ one_ℚ)) (point_row y m)))))
      (ap₂ (λ a b. a +ℚ b) (values_none h.shares (map (λ v. homogenised v zero_ℚ) directions) e (All-map (λ v. dot v e ≡ zero_ℚ) (λ v. homogenised v zero_ℚ) directions
      (all_of_members (λ y. dot (homogenised y zero_ℚ) e ≡ zero_ℚ) directions (λ y m. k (homogenised y zero_ℚ) (direction_row y m)))))
      (values_none h.slopes (map (λ v. homogenised v zero_ℚ) lines) e (All-map (λ v. dot v e ≡ zero_ℚ) (λ v. homogenised v zero_ℚ) lines
      (all_of_members (λ y. dot (homogenised y zero_ℚ) e ≡ zero_ℚ) lines (λ y m. k (homogenised y zero_ℚ) (forth_row y m))))))
      ∙ ring rationals [] (num (pos 0) ⊕ (num (pos 0) ⊕ num (pos 0))) (num (pos 0)) refl

  -- ---- back
  lines_back_wide : AreWide n (map negated lines)
  lines_back_wide = record { wide = All-map (HasWidth n) negated lines (All-weaker (HasWidth n) (λ v. length (negated v) ≡ n) (λ v h. length-negated v ∙ h) lines l.wide) }

  raised_back : (vs : List (List ℚ)) → map (λ y. homogenised (negated y) zero_ℚ) vs ≡ map (λ y. homogenised y zero_ℚ) (map negated vs)
  raised_back [] = refl
  raised_back (v ∷ vs) = ap (λ w. homogenised (negated v) zero_ℚ ∷ w) (raised_back vs)

  to_member : (z : List ℚ) → length z ≡ n → IsGenerated (suc n) (generator_rows points directions lines) (homogenised z (neg_ℚ one_ℚ)) →
      IsInHull n points directions lines z
  unfolding at_points at_directions forth back
  to_member z width g =
      let back_wide : AreWide (suc n) back = subst (λ (v : List (List ℚ)). AreWide (suc n) v) (sym (raised_back lines)) (raised_wide n zero_ℚ (map negated lines) lines_back_wide) in
      let forth_wide : AreWide (suc n) forth = raised_wide n zero_ℚ lines l in
      let low_wide : AreWide (suc n) at_directions = raised_wide n zero_ℚ directions d in
      let high_wide : AreWide (suc n) at_points = raised_wide n (neg_ℚ one_ℚ) points p in
      let ends_wide : AreWide (suc n) (forth ++ back) = record { wide = All-append (HasWidth (suc n)) forth back forth_wide.wide back_wide.wide } in
      let rest_wide : AreWide (suc n) (at_directions ++ (forth ++ back)) = record { wide = All-append (HasWidth (suc n)) at_directions (forth ++ back) low_wide.wide ends_wide.wide } in
      let one : IsSumOf (suc n) at_points (at_directions ++ (forth ++ back)) (homogenised z (neg_ℚ one_ℚ)) =
      generated_append (suc n) at_points (at_directions ++ (forth ++ back)) (homogenised z (neg_ℚ one_ℚ)) high_wide rest_wide (length-homogenised n z (neg_ℚ one_ℚ) width) g in
      let two : IsSumOf (suc n) at_directions (forth ++ back) one.second =
      generated_append (suc n) at_directions (forth ++ back) one.second low_wide ends_wide (generated_width (suc n) (at_directions ++ (forth ++ back)) one.second rest_wide one.second_is) one.second_is in
      let three : IsSumOf (suc n) forth back two.second =
      generated_append (suc n) forth back two.second forth_wide back_wide (generated_width (suc n) (forth ++ back) two.second ends_wide two.second_is) two.second_is in
      let ws : List ℚ = one.first_is.multipliers in
      let ss : List ℚ = two.first_is.multipliers in
      let fs : List ℚ = three.first_is.multipliers in
      let bs : List ℚ = three.second_is.multipliers in
      let ws_each : length ws ≡ length points = one.first_is.one_each ∙ length-map points (λ u. homogenised u (neg_ℚ one_ℚ)) in
      let ss_each : length ss ≡ length directions = two.first_is.one_each ∙ length-map directions (λ u. homogenised u zero_ℚ) in
      let fs_each : length fs ≡ length lines = three.first_is.one_each ∙ length-map lines (λ u. homogenised u zero_ℚ) in
      let bs_each : length bs ≡ length lines = three.second_is.one_each ∙ length-map lines (λ u. homogenised (negated u) zero_ℚ) in
      let A : List ℚ = combination n ws points in
      let B : List ℚ = combination n ss directions in
      let C : List ℚ = combination n fs lines in
      let D : List ℚ = combination n bs (map negated lines) in
      let a : length A ≡ n = length-combination n ws points p in
      let b : length B ≡ n = length-combination n ss directions d in
      let c : length C ≡ n = length-combination n fs lines l in
      let e : length D ≡ n = length-combination n bs (map negated lines) lines_back_wide in
      let last : two.second ≡ homogenised (plus C D) (sum_ℚ fs *ℚ zero_ℚ +ℚ sum_ℚ bs *ℚ zero_ℚ) =
      three.same ∙ ap₂ (λ u v. plus u v) (three.first_is.combined ∙ homogenised_combination n zero_ℚ fs lines fs_each l)
      (three.second_is.combined ∙ ap (λ u. combination (suc n) bs u) (raised_back lines)
      ∙ homogenised_combination n zero_ℚ bs (map negated lines) (bs_each ∙ sym (length-map lines negated)) lines_back_wide)
      ∙ plus-homogenised C D (sum_ℚ fs *ℚ zero_ℚ) (sum_ℚ bs *ℚ zero_ℚ) (c ∙ sym e) in
      let cd : length (plus C D) ≡ n = length-plus n C D c e in
      let middle : one.second ≡ homogenised (plus B (plus C D)) (sum_ℚ ss *ℚ zero_ℚ +ℚ (sum_ℚ fs *ℚ zero_ℚ +ℚ sum_ℚ bs *ℚ zero_ℚ)) =
      two.same ∙ ap₂ (λ u v. plus u v) (two.first_is.combined ∙ homogenised_combination n zero_ℚ ss directions ss_each d) last
      ∙ plus-homogenised B (plus C D) (sum_ℚ ss *ℚ zero_ℚ) (sum_ℚ fs *ℚ zero_ℚ +ℚ sum_ℚ bs *ℚ zero_ℚ) (b ∙ sym cd) in
      let whole : homogenised z (neg_ℚ one_ℚ) ≡ homogenised (plus A (plus B (plus C D))) (sum_ℚ ws *ℚ neg_ℚ one_ℚ +ℚ (sum_ℚ ss *ℚ zero_ℚ +ℚ (sum_ℚ fs *ℚ zero_ℚ +ℚ sum_ℚ bs *ℚ zero_ℚ))) =
      one.same ∙ ap₂ (λ u v. plus u v) (one.first_is.combined ∙ homogenised_combination n (neg_ℚ one_ℚ) ws points ws_each p) middle
      ∙ plus-homogenised A (plus B (plus C D)) (sum_ℚ ws *ℚ neg_ℚ one_ℚ) (sum_ℚ ss *ℚ zero_ℚ +ℚ (sum_ℚ fs *ℚ zero_ℚ +ℚ sum_ℚ bs *ℚ zero_ℚ)) (a ∙ sym (length-plus n B (plus C D) b cd)) in
      let both : (z ≡ plus A (plus B (plus C D))) × (neg_ℚ one_ℚ ≡ sum_ℚ ws *ℚ neg_ℚ one_ℚ +ℚ (sum_ℚ ss *ℚ zero_ℚ +ℚ (sum_ℚ fs *ℚ zero_ℚ +ℚ sum_ℚ bs *ℚ zero_ℚ))) =
      homogenised-same z (plus A (plus B (plus C D))) (neg_ℚ one_ℚ) (sum_ℚ ws *ℚ neg_ℚ one_ℚ +ℚ (sum_ℚ ss *ℚ zero_ℚ +ℚ (sum_ℚ fs *ℚ zero_ℚ +ℚ sum_ℚ bs *ℚ zero_ℚ))) whole in
      let total : sum_ℚ ws ≡ one_ℚ =
      sym (ring rationals (sum_ℚ ws ∷ sum_ℚ ss ∷ sum_ℚ fs ∷ sum_ℚ bs ∷ []) (⊖ (v0 ⊗ ⊖ (num (pos 1)) ⊕ (v1 ⊗ num (pos 0) ⊕ (v2 ⊗ num (pos 0) ⊕ v3 ⊗ num (pos 0))))) v0 refl)
      ∙ ap neg_ℚ (sym both.1) ∙ neg_neg one_ℚ in
      hull_by_values n points directions lines z ws ss (plus fs (negated bs)) p d l width ws_each ss_each
      (length-plus (length lines) fs (negated bs) fs_each (length-negated bs ∙ bs_each)) one.first_is.at_least_zero two.first_is.at_least_zero total
      (λ r. ap (λ u. dot r u) both.0 ∙ dot-plus r A (plus B (plus C D)) ∙ ap₂ (λ x y. x +ℚ y) (dot-combination n r ws points)
      (dot-plus r B (plus C D) ∙ ap₂ (λ x y. x +ℚ y) (dot-combination n r ss directions)
      (dot-plus r C D ∙ ap₂ (λ x y. x +ℚ y) (dot-combination n r fs lines) (dot-combination n r bs (map negated lines) ∙ negated_values bs lines r)
      ∙ sym (dot-plus_left fs (negated bs) (values lines r)))))

  member : (z : List ℚ) → length z ≡ n → All (HoldsFor z) gens → All (EqualFor z) equations → IsInHull n points directions lines z
  member z width h k =
      let dual : IsInDual (suc n) (IsInCone (suc n) rows) (homogenised z (neg_ℚ one_ℚ)) = record {
        wide = length-homogenised n z (neg_ℚ one_ℚ) width;
        within = λ v v_in.
            let s : IsSpanned (suc n) gens equations v = holds_spanned (suc n) readers rows gens equations lined v v_in.wide v_in.within in
            subst (λ (x : ℚ). zero_ℚ ≤ℚ x) (sym (spanned_value (suc n) readers rows gens equations lined v s (homogenised z (neg_ℚ one_ℚ))
            ∙ ap (λ x. dot s.multipliers (values gens (homogenised z (neg_ℚ one_ℚ))) +ℚ x) (values_none s.slopes equations (homogenised z (neg_ℚ one_ℚ)) k)
            ∙ add_zero (dot s.multipliers (values gens (homogenised z (neg_ℚ one_ℚ))))))
            (dot_nonneg s.multipliers (values gens (homogenised z (neg_ℚ one_ℚ))) s.at_least_zero (values_nonneg gens (homogenised z (neg_ℚ one_ℚ)) h));
      } in
      to_member z width (generated_through (suc n) rows (generator_rows points directions lines) (homogenised z (neg_ℚ one_ℚ)) rows_wide'
      (all_of_members (IsGenerated (suc n) (generator_rows points directions lines)) rows (λ r m.
      generated_generator (suc n) (generator_rows points directions lines) r rows_wide' ((same r).0 m)))
      ((dual_cones.of_rows (suc n) rows (homogenised z (neg_ℚ one_ℚ)) rows_wide).0 dual))
    where
      rows_wide : AreWide (suc n) rows
      rows_wide = record { wide = all_of_members (HasWidth (suc n)) rows (λ r m. member_of (HasWidth (suc n)) (pinned readers rows) r lined.described.rows_wide.wide (pinned_row readers rows r m)) }

      rows_wide' : AreWide (suc n) (generator_rows points directions lines)
      rows_wide' = record { wide = all_of_members (HasWidth (suc n)) (generator_rows points directions lines) (λ r m. member_of (HasWidth (suc n)) rows r rows_wide.wide ((same r).1 m)) }

pub hull_is_sides : HullIsSides
hull_is_sides n points directions lines rows readers gens equations p d l same lined z width = (
  λ h. (
    all_of_members (HoldsFor z) gens (λ e k. hull_meets n points directions lines rows readers gens equations p d l same lined z h e
        (λ r m. gen_holds (suc n) readers rows gens equations lined e r k m)),
    all_of_members (EqualFor z) equations (λ e k. hull_equal n points directions lines rows readers gens equations p d l same lined z h e
        (λ r m. member_of (λ s. IsTight s e) rows r (member_of (λ v. All (λ s. IsTight s v) rows) equations e lined.at_lines k) m)),
  ),
  λ h. member n points directions lines rows readers gens equations p d l same lined z width h.0 h.1,
)
