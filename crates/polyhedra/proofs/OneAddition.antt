-- The generators after one more row describe the cone of the rows and the new one.
use Rattle.std.proofs.Common.{◌≡◌, ℕ, zero, suc, List, [], ◌∷◌, ◌++◌, map, length, All, AllPairs, Contains, refl, sym, ap, ap₂, ◌∙◌, subst, arith, ◌⊎◌, inl, inr, ◌<◌, ◌≤◌, filter}
use Rattle.std.proofs.lemmas.List.Elements.{Contains-append_left, Contains-append_cases, Contains-push, All-push}
use Rattle.exact_field.specs.Rational.{ℚ, zero_ℚ, ◌+ℚ◌, ◌*ℚ◌, neg_ℚ, inverse_ℚ, le_ℚ, ◌≤ℚ◌, ◌<ℚ◌}
use Rattle.exact_field.specs.Vector.{dot}
use Rattle.polyhedra.specs.Vectors.{AreWide, zeros, plus, scaled}
use Rattle.polyhedra.specs.Cone.{IsInCone, IsGenerated}
use Rattle.polyhedra.specs.TightSets.{IsTight, LiesIn, Covers, AreApart, IsDoubleDescriptionPair}
use Rattle.polyhedra.specs.DoubleDescription.{normed, meeting, Pair, IsNewPair, ArePairs, kept, made, added, OneAddition, IsNormed, MadeAreNormed}
use Rattle.polyhedra.proofs.Laws.{le_of_lt, mul_nonneg}
use Rattle.polyhedra.proofs.Order.{zero_or_positive, le_of_eq, lt_irrefl, lt_trans, not_zero_of_positive, not_zero_of_negative, mul_positive, product_zero}
use Rattle.polyhedra.proofs.Linear.{dot_comm, dot-plus, dot-scaled, dot-zeros, length-plus, length-scaled, same_wide}
use Rattle.polyhedra.proofs.Lists.{HoldsAt, HasWidth}
use Rattle.polyhedra.proofs.Members.{all_of_members, member_of, Contains-map_source, Contains-filter_source, pairs_of_members, pairs-append, pairs-filter, pairs-map, pairs-weaker}
use Rattle.polyhedra.proofs.TightRows.{loose, loose-lt, tight_or_positive, same_vector_or_not}
use Rattle.polyhedra.proofs.LeastQuotient.{IsPositiveSomewhere, IsLeastQuotient, least_quotient, less, less_back, less_width, less_tight, less_holds, less_reached}
use Rattle.polyhedra.proofs.Generated.{generated_value, generated_zero, generated_plus, generated_scaled, generated_generator}
use Rattle.polyhedra.proofs.Support.{InSupport, support_listed, support_positive}
use Rattle.polyhedra.proofs.Norming.{norm_factor, norm_factor-positive, normed_is_normed}
use Rattle.polyhedra.proofs.CoveredPairs.{moved_value, moved_tight, moved_tight_left, moved_tight_right, moved_in}
use Rattle.polyhedra.proofs.NewGenerators.{crossing, factor_positive, normed_tight, IsFound, found, kept_listed, support_lies}

module _ (n : ℕ) (rows gens : List (List ℚ)) (row : List ℚ) (pairs : List Pair) (d : IsDoubleDescriptionPair n rows gens) (row_wide : length row ≡ n) (exact : ArePairs rows gens row pairs) where
  all_rows : List (List ℚ)
  all_rows = rows ++ row ∷ []

  old : (r : List ℚ) → Contains rows r → Contains all_rows r
  unfolding all_rows
  old r c = Contains-append_left rows (row ∷ []) r c

  -- ---- a meeting point
  module _ (pair : Pair) (new : IsNewPair rows gens row pair) where
    point : List ℚ
    point = meeting row pair.plus_side pair.minus_side

    t : ℚ
    t = dot row pair.plus_side *ℚ inverse_ℚ (neg_ℚ (dot row pair.minus_side))

    t_positive : zero_ℚ <ℚ t
    unfolding t
    t_positive = factor_positive row pair.plus_side pair.minus_side new.positive new.negative

    plus_in : IsInCone n rows pair.plus_side
    plus_in = member_of (IsInCone n rows) gens pair.plus_side d.inside new.plus_listed

    minus_in : IsInCone n rows pair.minus_side
    minus_in = member_of (IsInCone n rows) gens pair.minus_side d.inside new.minus_listed

    at_plus : (r : List ℚ) → Contains rows r → zero_ℚ ≤ℚ dot r pair.plus_side
    at_plus r c = member_of (HoldsAt pair.plus_side) rows r plus_in.within c

    at_minus : (r : List ℚ) → Contains rows r → zero_ℚ ≤ℚ dot r pair.minus_side
    at_minus r c = member_of (HoldsAt pair.minus_side) rows r minus_in.within c

    point_in : IsInCone n rows point
    unfolding point t
    point_in = moved_in n rows pair.plus_side pair.minus_side t t_positive plus_in minus_in

    point_zero : IsTight row point
    unfolding point
    point_zero = moved_value pair.plus_side pair.minus_side row _ ∙ crossing row pair.plus_side pair.minus_side new.negative

    point_left : (r : List ℚ) → Contains rows r → IsTight r point → IsTight r pair.plus_side
    unfolding point t
    point_left r c e = moved_tight_left pair.plus_side pair.minus_side r t t_positive (at_plus r c) (at_minus r c) e

    point_right : (r : List ℚ) → Contains rows r → IsTight r point → IsTight r pair.minus_side
    unfolding point t
    point_right r c e = moved_tight_right pair.plus_side pair.minus_side r t t_positive (at_plus r c) (at_minus r c) e

    point_tight : (r : List ℚ) → IsTight r pair.plus_side → IsTight r pair.minus_side → IsTight r point
    unfolding point
    point_tight r h k = moved_tight pair.plus_side pair.minus_side r _ h k

    not_same : pair.plus_side ≡ pair.minus_side → ⊥
    not_same e = lt_irrefl zero_ℚ (lt_trans zero_ℚ (dot row pair.minus_side) zero_ℚ (subst (λ v. zero_ℚ <ℚ dot row v) e new.positive) new.negative)

    -- were every row tight at the meeting point, all would be at both
    point_somewhere : IsPositiveSomewhere rows point
    point_somewhere = go (tight_or_positive rows point point_in.within)
      where
        go : All (λ r. IsTight r point) rows ⊎ IsPositiveSomewhere rows point → IsPositiveSomewhere rows point
        go (inl h) = absurd ((pairs_of_members (AreApart rows)
            (λ a b k. record { first = k.second; second = k.first }) gens pair.plus_side pair.minus_side d.apart new.plus_listed new.minus_listed not_same).first
            (all_of_members (λ r. IsTight r pair.plus_side → IsTight r pair.minus_side) rows
            (λ r c e. point_right r c (member_of (λ w. IsTight w point) rows r h c))))
        go (inr s) = s

    factor : ℚ
    factor = norm_factor point

    normed_factor : zero_ℚ <ℚ factor
    unfolding factor
    normed_factor = norm_factor-positive point point_somewhere.row (λ e. not_zero_of_positive (dot point_somewhere.row point) point_somewhere.positive e)

    new_point : List ℚ
    new_point = normed point

    new_value : (r : List ℚ) → dot r new_point ≡ factor *ℚ dot r point
    unfolding new_point factor
    new_value r = dot-scaled r (norm_factor point) point

    new_tight_back : (r : List ℚ) → IsTight r new_point → IsTight r point
    new_tight_back r e = product_zero factor (dot r point) normed_factor (sym (new_value r) ∙ e)

    new_tight : (r : List ℚ) → IsTight r point → IsTight r new_point
    unfolding new_point
    new_tight r e = normed_tight point r e

    new_width : length new_point ≡ n
    unfolding new_point
    new_width = length-scaled (norm_factor point) point ∙ point_in.wide

    new_in : IsInCone n all_rows new_point
    unfolding all_rows
    new_in = record {
      wide = new_width;
      within = All-push (HoldsAt new_point) rows row
          (all_of_members (HoldsAt new_point) rows (λ r c. subst (λ (x : ℚ). zero_ℚ ≤ℚ x) (sym (new_value r))
          (mul_nonneg factor (dot r point) (le_of_lt zero_ℚ factor normed_factor) (member_of (HoldsAt point) rows r point_in.within c))))
          (le_of_eq zero_ℚ (dot row new_point) (sym (new_tight row point_zero)));
    }

    new_somewhere : IsPositiveSomewhere rows new_point
    new_somewhere = record {
      row = point_somewhere.row;
      listed = point_somewhere.listed;
      positive = subst (λ (x : ℚ). zero_ℚ <ℚ x)
          (sym (new_value point_somewhere.row)) (mul_positive factor (dot point_somewhere.row point) normed_factor point_somewhere.positive);
    }

  -- ---- the new list
  record IsFit (g : List ℚ) : Type 0 where
    in_cone : IsInCone n all_rows g
    somewhere : IsPositiveSomewhere rows g

  kept_fit : (g : List ℚ) → Contains (kept row gens) g → IsFit g
  unfolding all_rows
  kept_fit g c = record {
    in_cone = record { wide = old_in.wide; within = All-push (HoldsAt g) rows row old_in.within source.1 };
    somewhere = go (tight_or_positive rows g old_in.within);
  }
    where
      source : Contains gens g × (le_ℚ zero_ℚ (dot row g) ≡ Rattle.std.proofs.Common.true)
      source = Contains-filter_source (λ v. le_ℚ zero_ℚ (dot row v)) gens g c

      old_in : IsInCone n rows g
      old_in = member_of (IsInCone n rows) gens g d.inside source.0

      go : All (λ r. IsTight r g) rows ⊎ IsPositiveSomewhere rows g → IsPositiveSomewhere rows g
      go (inl h) = absurd (member_of (λ v. v ≡ zeros n → ⊥) gens g d.not_zero source.0 (d.pointed g old_in.wide h))
      go (inr s) = s

  made_source : (g : List ℚ) → Contains (made row pairs) g → (pair : Pair) × IsNewPair rows gens row pair ×
      (normed (meeting row pair.plus_side pair.minus_side) ≡ g)
  made_source g c =
      let s : (pair : Pair) × Contains pairs pair × (normed (meeting row pair.plus_side pair.minus_side) ≡ g) = Contains-map_source
      (λ q. normed (meeting row q.plus_side q.minus_side)) pairs g c in
      (s.0, member_of (IsNewPair rows gens row) pairs s.0 exact.each s.1, s.2)

  made_fit : (g : List ℚ) → Contains (made row pairs) g → IsFit g
  unfolding new_point point
  made_fit g c =
      let s : (pair : Pair) × IsNewPair rows gens row pair × (normed (meeting row pair.plus_side pair.minus_side) ≡ g) = made_source g c in
      subst IsFit s.2 (record { in_cone = new_in s.0 s.1; somewhere = new_somewhere s.0 s.1 })

  fit : (g : List ℚ) → Contains (added row gens pairs) g → IsFit g
  fit g c = go (Contains-append_cases (kept row gens) (made row pairs) g c)
    where
      go : Contains (kept row gens) g ⊎ Contains (made row pairs) g → IsFit g
      go (inl h) = kept_fit g h
      go (inr h) = made_fit g h

  -- ---- each member is generated
  -- a new generator that is tight at each row at which z is
  record IsNear (z : List ℚ) : Type 0 where
    generator : List ℚ
    listed : Contains (added row gens pairs) generator
    lies : LiesIn all_rows z generator

  old_in_cone : (z : List ℚ) → IsInCone n all_rows z → IsInCone n rows z
  unfolding all_rows
  old_in_cone z h = record { wide = h.wide; within = all_of_members (HoldsAt z) rows (λ r c. member_of (HoldsAt z) all_rows r h.within (old r c)) }

  near : (z : List ℚ) → IsInCone n all_rows z → IsPositiveSomewhere rows z → IsNear z
  unfolding all_rows
  near z h s = go (zero_or_positive (dot row z) (member_of (HoldsAt z) all_rows row h.within (Contains-push rows row)))
    where
      from_found : IsTight row z → IsFound n rows gens row pairs d exact z → IsNear z
      from_found e f = record {
        generator = f.generator;
        listed = f.listed;
        lies = All-push (λ r. IsTight r z → IsTight r f.generator) rows row f.lies (λ _. f.zero_there);
      }

      from_support : (g : IsGenerated n gens z) → zero_ℚ <ℚ dot row z → ((v : List ℚ) × InSupport g.multipliers gens v × (zero_ℚ <ℚ dot v row)) → IsNear z
      from_support g p (v, m, q) = record {
        generator = v;
        listed = kept_listed n rows gens row pairs d exact v (support_listed g.multipliers gens v m)
            (le_of_lt zero_ℚ (dot row v) (subst (λ (x : ℚ). zero_ℚ <ℚ x) (dot_comm v row) q));
        lies = All-push (λ r. IsTight r z → IsTight r v) rows row (support_lies n rows gens row pairs d exact z v g m)
            (λ e. absurd (not_zero_of_positive (dot row z) p e));
      }

      go : (dot row z ≡ zero_ℚ) ⊎ (zero_ℚ <ℚ dot row z) → IsNear z
      go (inl e) = from_found e (found n rows gens row pairs d exact z (old_in_cone z h) e s)
      go (inr p) =
          let g : IsGenerated n gens z = d.generates z (old_in_cone z h) in
          from_support g p (support_positive g.multipliers gens row g.at_least_zero (subst (λ (x : ℚ). zero_ℚ <ℚ x) (generated_value n gens z g row) p))

  new_wide : AreWide n (added row gens pairs)
  new_wide = record { wide = all_of_members (HasWidth n) (added row gens pairs) (λ g c. (fit g c).in_cone.wide) }

  generates_step : (z : List ℚ) → ((v : List ℚ) → loose all_rows v < loose all_rows z → IsInCone n all_rows v → IsGenerated n
      (added row gens pairs) v) → IsInCone n all_rows z → IsGenerated n (added row gens pairs) z
  generates_step z again h = go (tight_or_positive rows z (old_in_cone z h).within)
    where
      peeled : (g : IsNear z) → IsLeastQuotient all_rows z g.generator → IsGenerated n (added row gens pairs) z
      peeled g q =
          let rest : List ℚ = less z q.quotient g.generator in
          let rest_in : IsInCone n all_rows rest = record {
            wide = less_width n z g.generator q.quotient h.wide
                (fit g.generator g.listed).in_cone.wide;
            within = less_holds z g.generator q.quotient all_rows q.bound;
          } in
          let rest_lies : LiesIn all_rows z rest = all_of_members (λ r. IsTight r z → IsTight r rest) all_rows
          (λ r c e. less_tight z g.generator r q.quotient e (member_of (λ w. IsTight w z → IsTight w g.generator) all_rows r g.lies c e)) in
          let fewer : loose all_rows rest < loose all_rows z = loose-lt all_rows z rest q.row rest_lies q.listed
          (λ e. not_zero_of_positive (q.quotient *ℚ dot q.row g.generator) (mul_positive q.quotient (dot q.row g.generator) q.above_zero q.positive)
          (q.reached ∙ e))
          (less_reached z g.generator q.row q.quotient q.reached) in
          let sum : IsGenerated n (added row gens pairs) (plus rest (scaled q.quotient g.generator)) =
          generated_plus n (added row gens pairs) rest (scaled q.quotient g.generator) new_wide (again rest fewer rest_in)
          (generated_scaled n (added row gens pairs) q.quotient g.generator new_wide (le_of_lt zero_ℚ q.quotient q.above_zero)
          (generated_generator n (added row gens pairs) g.generator new_wide g.listed)) in
          subst (λ (v : List ℚ). IsGenerated n (added row gens pairs) v)
          (same_wide n (plus rest (scaled q.quotient g.generator)) z
          (length-plus n rest (scaled q.quotient g.generator) rest_in.wide (length-scaled q.quotient g.generator
          ∙ (fit g.generator g.listed).in_cone.wide)) h.wide
          (λ r. dot-plus r rest (scaled q.quotient g.generator) ∙ ap (λ x. dot r rest +ℚ x) (dot-scaled r q.quotient g.generator) ∙ sym
          (less_back z g.generator r q.quotient)))
          sum

      with_near : IsNear z → IsGenerated n (added row gens pairs) z
      with_near g =
          let f : IsFit g.generator = fit g.generator g.listed in
          peeled g (least_quotient z g.generator all_rows h.within f.in_cone.within g.lies
          (record { row = f.somewhere.row; listed = old f.somewhere.row f.somewhere.listed; positive = f.somewhere.positive }))

      go : All (λ r. IsTight r z) rows ⊎ IsPositiveSomewhere rows z → IsGenerated n (added row gens pairs) z
      go (inl t) = subst (λ (v : List ℚ). IsGenerated n (added row gens pairs) v) (sym (d.pointed z h.wide t))
          (generated_zero n (added row gens pairs) new_wide)
      go (inr s) = with_near (near z h s)

  generates_by : (k : ℕ) (z : List ℚ) → loose all_rows z < k → IsInCone n all_rows z → IsGenerated n (added row gens pairs) z
  generates_by zero z l h = absurd (omega arith)
  generates_by (suc k) z l h = generates_step z (λ v m. generates_by k v (omega arith)) h

  -- ---- no tight set lies in another's
  in_rows : (a b : List ℚ) → LiesIn all_rows a b → LiesIn rows a b
  in_rows a b h = all_of_members (λ r. IsTight r a → IsTight r b) rows (λ r c. member_of (λ w. IsTight w a → IsTight w b) all_rows r h (old r c))

  at_row : (a b : List ℚ) → LiesIn all_rows a b → IsTight row a → IsTight row b
  unfolding all_rows
  at_row a b h = member_of (λ w. IsTight w a → IsTight w b) all_rows row h (Contains-push rows row)

  apart_or_same : (a b : List ℚ) → Contains gens a → Contains gens b → LiesIn rows a b → a ≡ b
  apart_or_same a b h k l = go (same_vector_or_not a b)
    where
      go : (a ≡ b) ⊎ (a ≡ b → ⊥) → a ≡ b
      go (inl e) = e
      go (inr e) = absurd ((pairs_of_members (AreApart rows) (λ x y m. record { first = m.second; second = m.first }) gens a b d.apart h k e).first l)

  kept_apart : AllPairs (AreApart all_rows) (kept row gens)
  kept_apart = pairs-weaker (AreApart rows) (AreApart all_rows) (kept row gens)
      (λ a b h k m. record { first = λ l. m.first (in_rows a b l); second = λ l. m.second (in_rows b a l) })
      (pairs-filter (AreApart rows) (λ v. le_ℚ zero_ℚ (dot row v)) gens d.apart)

  module _ (pair : Pair) (new : IsNewPair rows gens row pair) where
    not_in_point : (g : List ℚ) → Contains gens g → LiesIn all_rows g (new_point pair new) → ⊥
    not_in_point g c l =
        let to_plus : g ≡ pair.plus_side = apart_or_same g pair.plus_side c new.plus_listed
        (all_of_members (λ r. IsTight r g → IsTight r pair.plus_side) rows (λ r k e.
        point_left pair new r k (new_tight_back pair new r (member_of (λ w. IsTight w g → IsTight w (new_point pair new)) all_rows r l (old r k) e)))) in
        let to_minus : g ≡ pair.minus_side = apart_or_same g pair.minus_side c new.minus_listed
        (all_of_members (λ r. IsTight r g → IsTight r pair.minus_side) rows (λ r k e.
        point_right pair new r k (new_tight_back pair new r (member_of (λ w. IsTight w g → IsTight w (new_point pair new)) all_rows r l (old r k) e)))) in
        not_same pair new (sym to_plus ∙ to_minus)

    -- a generator that is tight wherever the meeting point is covers the pair, so it is one of the two
    covered : (g : List ℚ) → Contains gens g → LiesIn rows (new_point pair new) g → (g ≡ pair.plus_side → ⊥) → (g ≡ pair.minus_side → ⊥) → ⊥
    covered g c l x y = member_of (λ v. (v ≡ pair.plus_side → ⊥) → (v ≡ pair.minus_side → ⊥) → Covers rows pair.plus_side pair.minus_side v →
        ⊥) gens g new.uncovered c x y
        (all_of_members (λ r. IsTight r pair.plus_side → IsTight r pair.minus_side → IsTight r g) rows (λ r k e f.
        member_of (λ w. IsTight w (new_point pair new) → IsTight w g) rows r l k (new_tight pair new r (point_tight pair new r e f))))

    point_not_in : (g : List ℚ) → Contains gens g → LiesIn all_rows (new_point pair new) g → ⊥
    point_not_in g c l =
        let zero_there : IsTight row g = at_row (new_point pair new) g l (new_tight pair new row (point_zero pair new)) in
        covered g c (in_rows (new_point pair new) g l)
        (λ e. not_zero_of_positive (dot row pair.plus_side) new.positive (ap (λ v. dot row v) (sym e) ∙ zero_there))
        (λ e. not_zero_of_negative (dot row pair.minus_side) new.negative (ap (λ v. dot row v) (sym e) ∙ zero_there))

  points_not_in : (a b : Pair) (a_new : IsNewPair rows gens row a) (b_new : IsNewPair rows gens row b) → (a ≡ b → ⊥) → LiesIn all_rows
      (new_point a a_new) (new_point b b_new) → ⊥
  points_not_in a b a_new b_new other l = go (same_vector_or_not b.plus_side a.plus_side) (same_vector_or_not b.minus_side a.minus_side)
    where
      lies_plus : LiesIn rows (new_point a a_new) b.plus_side
      lies_plus = all_of_members (λ r. IsTight r (new_point a a_new) → IsTight r b.plus_side) rows (λ r k e.
          point_left b b_new r k (new_tight_back b b_new r (member_of
          (λ w. IsTight w (new_point a a_new) → IsTight w (new_point b b_new)) all_rows r l (old r k) e)))

      lies_minus : LiesIn rows (new_point a a_new) b.minus_side
      lies_minus = all_of_members (λ r. IsTight r (new_point a a_new) → IsTight r b.minus_side) rows (λ r k e.
          point_right b b_new r k (new_tight_back b b_new r (member_of
          (λ w. IsTight w (new_point a a_new) → IsTight w (new_point b b_new)) all_rows r l (old r k) e)))

      cross : (p m : List ℚ) → zero_ℚ <ℚ dot row p → dot row m <ℚ zero_ℚ → p ≡ m → ⊥
      cross p m h k e = lt_irrefl zero_ℚ (lt_trans zero_ℚ (dot row m) zero_ℚ (subst (λ (v : List ℚ). zero_ℚ <ℚ dot row v) e h) k)

      go : (b.plus_side ≡ a.plus_side) ⊎ (b.plus_side ≡ a.plus_side → ⊥) → (b.minus_side ≡ a.minus_side) ⊎ (b.minus_side ≡ a.minus_side → ⊥) → ⊥
      go (inr e) f = covered a a_new b.plus_side b_new.plus_listed lies_plus e (cross b.plus_side a.minus_side b_new.positive a_new.negative)
      go (inl e) (inr f) = covered a a_new b.minus_side b_new.minus_listed lies_minus
          (λ k. cross a.plus_side b.minus_side a_new.positive b_new.negative (sym k)) f
      go (inl e) (inl f) = other (λ i. record { plus_side = sym e i; minus_side = sym f i })

  is_new : (pair : Pair) → Contains pairs pair → IsNewPair rows gens row pair
  is_new pair c = member_of (IsNewPair rows gens row) pairs pair exact.each c

  made_apart : AllPairs (AreApart all_rows) (made row pairs)
  unfolding new_point point
  made_apart = pairs-map (AreApart all_rows) (λ q. normed (meeting row q.plus_side q.minus_side)) pairs
      (pairs-weaker (λ a b. a ≡ b → ⊥) (λ a b. AreApart all_rows (normed (meeting row a.plus_side a.minus_side))
      (normed (meeting row b.plus_side b.minus_side))) pairs
      (λ a b h k other. record {
        first = points_not_in a b (is_new a h) (is_new b k) other;
        second = points_not_in b a (is_new b k) (is_new a h) (λ e. other (sym e));
      }) exact.once)

  mixed_apart : (g x : List ℚ) → Contains (kept row gens) g → Contains (made row pairs) x → AreApart all_rows g x
  unfolding new_point point
  mixed_apart g x c k =
      let s : (pair : Pair) × IsNewPair rows gens row pair × (normed (meeting row pair.plus_side pair.minus_side) ≡ x) = made_source x k in
      let in_gens : Contains gens g = (Contains-filter_source (λ v. le_ℚ zero_ℚ (dot row v)) gens g c).0 in
      subst (λ (v : List ℚ). AreApart all_rows g v) s.2 (record { first = not_in_point s.0 s.1 g in_gens; second = point_not_in s.0 s.1 g in_gens })

  pub described : IsDoubleDescriptionPair n (rows ++ row ∷ []) (added row gens pairs)
  unfolding all_rows
  described = record {
    rows_wide = record { wide = All-push (HasWidth n) rows row d.rows_wide.wide row_wide };
    generators_wide = new_wide;
    pointed = λ z h k. d.pointed z h (all_of_members (λ r. IsTight r z) rows (λ r c. member_of (λ w. IsTight w z) all_rows r k (old r c)));
    inside = all_of_members (IsInCone n all_rows) (added row gens pairs) (λ g c. (fit g c).in_cone);
    generates = λ z h. generates_by (suc (loose all_rows z)) z (omega arith) h;
    not_zero = all_of_members (λ g. g ≡ zeros n → ⊥) (added row gens pairs) (λ g c e.
        let f : IsFit g = fit g c in
        not_zero_of_positive (dot f.somewhere.row g) f.somewhere.positive (ap (λ v. dot f.somewhere.row v) e ∙ dot-zeros f.somewhere.row n));
    apart = pairs-append (AreApart all_rows) (kept row gens) (made row pairs) kept_apart made_apart mixed_apart;
  }

pub one_addition : OneAddition
one_addition n rows gens row pairs d h exact = described n rows gens row pairs d h exact

pub made_are_normed : MadeAreNormed
unfolding point
made_are_normed n rows gens row pairs d h exact =
    Rattle.std.proofs.lemmas.List.Elements.All-map IsNormed (λ q. normed (meeting row q.plus_side q.minus_side)) pairs
    (all_of_members (λ q. IsNormed (normed (meeting row q.plus_side q.minus_side))) pairs (λ q c.
    let new : IsNewPair rows gens row q = member_of (IsNewPair rows gens row) pairs q exact.each c in
    let s : IsPositiveSomewhere rows (meeting row q.plus_side q.minus_side) = point_somewhere n rows gens row pairs d h exact q new in
    normed_is_normed (meeting row q.plus_side q.minus_side) s.row (λ e. not_zero_of_positive (dot s.row (meeting row q.plus_side q.minus_side)) s.positive e)))
