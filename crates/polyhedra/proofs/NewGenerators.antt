-- What one more row does: wherever a member of the cut cone is tight, so is one of the new generators.
use Rattle.std.proofs.Common.{◌≡◌, ℕ, zero, suc, List, [], ◌∷◌, ◌++◌, map, length, All, AllPairs, Contains, refl, sym, ap, ap₂, ◌∙◌, subst, arith, ◌⊎◌, inl, inr, ◌<◌, ◌≤◌, filter}
use Rattle.std.proofs.lemmas.List.Elements.{Contains-append_left, Contains-append_right}
use Rattle.exact_field.specs.Rational.{ℚ, zero_ℚ, ◌+ℚ◌, ◌*ℚ◌, neg_ℚ, inverse_ℚ, le_ℚ, ◌≤ℚ◌, ◌<ℚ◌}
use Rattle.exact_field.specs.Vector.{dot}
use Rattle.polyhedra.specs.Vectors.{values}
use Rattle.polyhedra.specs.Cone.{IsInCone, IsGenerated}
use Rattle.polyhedra.specs.TightSets.{IsTight, LiesIn, Covers, AreApart, IsDoubleDescriptionPair}
use Rattle.polyhedra.specs.DoubleDescription.{normed, meeting, Pair, IsNewPair, ArePairs, kept, made, added}
use Rattle.polyhedra.proofs.Laws.{add_neg, mul_comm}
use Rattle.polyhedra.proofs.Algebra.{mul_zero, mul_neg, neg_neg}
use Rattle.polyhedra.proofs.Order.{Sign, negative, none, positive, sign_of, le_of_eq, mul_positive, neg_positive, inverse_positive, mul_inverse_cancel}
use Rattle.polyhedra.proofs.Linear.{dot_comm, dot-scaled}
use Rattle.polyhedra.proofs.Lists.{HoldsAt}
use Rattle.polyhedra.proofs.Members.{all_or_not, all_of_members, member_of, Contains-map, Contains-filter, pairs_of_members}
use Rattle.polyhedra.proofs.TightRows.{loose, loose-le, covers_or_not, same_vector_or_not}
use Rattle.polyhedra.proofs.LeastQuotient.{IsPositiveSomewhere}
use Rattle.polyhedra.proofs.Generated.{generated_value}
use Rattle.polyhedra.proofs.Support.{InSupport, support_listed, support_zero, support_positive, support_opposite, support_opposite_negative}
use Rattle.polyhedra.proofs.CoveredPairs.{moved, moved_value, moved_tight, IsShrunk, shrunk_is}

-- the factor at which the row is 0: at p and at m it has opposite signs
pub crossing : (row p m : List ℚ) → dot row m <ℚ zero_ℚ → dot row p +ℚ (dot row p *ℚ inverse_ℚ (neg_ℚ (dot row m))) *ℚ dot row m ≡ zero_ℚ
crossing row p m h =
    let n : ℚ = neg_ℚ (dot row m) in
    ap (λ x. dot row p +ℚ x)
    (ap (λ x. (dot row p *ℚ inverse_ℚ n) *ℚ x) (sym (neg_neg (dot row m)))
    ∙ mul_neg (dot row p *ℚ inverse_ℚ n) n
    ∙ ap neg_ℚ (mul_comm (dot row p *ℚ inverse_ℚ n) n ∙ ap (λ x. n *ℚ x) (mul_comm (dot row p) (inverse_ℚ n)) ∙ mul_inverse_cancel n (dot row p)
    (neg_positive (dot row m) h)))
    ∙ add_neg (dot row p)

pub crossing_negative : (row p m : List ℚ) → zero_ℚ <ℚ dot row p → dot row m +ℚ (neg_ℚ (dot row m) *ℚ inverse_ℚ (dot row p)) *ℚ dot row p ≡ zero_ℚ
crossing_negative row p m h =
    ap (λ x. dot row m +ℚ x)
    (mul_comm (neg_ℚ (dot row m) *ℚ inverse_ℚ (dot row p)) (dot row p) ∙ ap (λ x. dot row p *ℚ x)
    (mul_comm (neg_ℚ (dot row m)) (inverse_ℚ (dot row p))) ∙ mul_inverse_cancel (dot row p) (neg_ℚ (dot row m)) h)
    ∙ add_neg (dot row m)

pub factor_positive : (row p m : List ℚ) → zero_ℚ <ℚ dot row p → dot row m <ℚ zero_ℚ → zero_ℚ <ℚ dot row p *ℚ inverse_ℚ (neg_ℚ (dot row m))
factor_positive row p m h k = mul_positive (dot row p) (inverse_ℚ (neg_ℚ (dot row m))) h (inverse_positive (neg_ℚ (dot row m)) (neg_positive (dot row m) k))

pub factor_negative : (row p m : List ℚ) → zero_ℚ <ℚ dot row p → dot row m <ℚ zero_ℚ → zero_ℚ <ℚ neg_ℚ (dot row m) *ℚ inverse_ℚ (dot row p)
factor_negative row p m h k = mul_positive (neg_ℚ (dot row m)) (inverse_ℚ (dot row p)) (neg_positive (dot row m) k) (inverse_positive (dot row p) h)

pub normed_tight : (v r : List ℚ) → IsTight r v → IsTight r (normed v)
normed_tight v r h = dot-scaled r _ v ∙ ap (λ x. Rattle.polyhedra.proofs.Norming.norm_factor v *ℚ x) h ∙ mul_zero _

pub lies_through : (rows : List (List ℚ)) (a b c : List ℚ) → LiesIn rows a b → LiesIn rows b c → LiesIn rows a c
lies_through rows a b c h k = all_of_members (λ r. IsTight r a → IsTight r c) rows
    (λ r m e. member_of (λ w. IsTight w b → IsTight w c) rows r k m (member_of (λ w. IsTight w a → IsTight w b) rows r h m e))

-- a generator other than the two that covers them
pub record IsThird (rows gens : List (List ℚ)) (a b : List ℚ) : Type 0 where
  pub third : List ℚ
  pub listed : Contains gens third
  pub not_first : third ≡ a → ⊥
  pub not_second : third ≡ b → ⊥
  pub covers : Covers rows a b third

abbrev pub Uncovered : List (List ℚ) → List (List ℚ) → List ℚ → List ℚ → Type 0
Uncovered rows gens a b = All (λ g. (g ≡ a → ⊥) → (g ≡ b → ⊥) → Covers rows a b g → ⊥) gens

pub third_or_uncovered : (rows gens : List (List ℚ)) (a b : List ℚ) → IsThird rows gens a b ⊎ Uncovered rows gens a b
third_or_uncovered rows gens a b = go (all_or_not Free test gens)
  where
    Free : List ℚ → Type 0
    Free g = (g ≡ a → ⊥) → (g ≡ b → ⊥) → Covers rows a b g → ⊥

    choose : (g : List ℚ) → (g ≡ a) ⊎ (g ≡ a → ⊥) → (g ≡ b) ⊎ (g ≡ b → ⊥) → Covers rows a b g ⊎ (Covers rows a b g → ⊥) → Free g ⊎ (Free g → ⊥)
    choose g (inl e) s t = inl (λ x y z. x e)
    choose g (inr e) (inl f) t = inl (λ x y z. y f)
    choose g (inr e) (inr f) (inl k) = inr (λ h. h e f k)
    choose g (inr e) (inr f) (inr k) = inl (λ x y z. k z)

    test : (g : List ℚ) → Free g ⊎ (Free g → ⊥)
    test g = choose g (same_vector_or_not g a) (same_vector_or_not g b) (covers_or_not rows a b g)

    found : (g : List ℚ) → Contains gens g → (Free g → ⊥) → (g ≡ a) ⊎ (g ≡ a → ⊥) → (g ≡ b) ⊎ (g ≡ b → ⊥) → Covers rows a b g ⊎
        (Covers rows a b g → ⊥) → IsThird rows gens a b
    found g c bad (inl e) s t = absurd (bad (λ x y z. x e))
    found g c bad (inr e) (inl f) t = absurd (bad (λ x y z. y f))
    found g c bad (inr e) (inr f) (inr k) = absurd (bad (λ x y z. k z))
    found g c bad (inr e) (inr f) (inl k) = record { third = g; listed = c; not_first = e; not_second = f; covers = k }

    go : All Free gens ⊎ ((g : List ℚ) × Contains gens g × (Free g → ⊥)) → IsThird rows gens a b ⊎ Uncovered rows gens a b
    go (inl h) = inr h
    go (inr (g, c, bad)) = inl (found g c bad (same_vector_or_not g a) (same_vector_or_not g b) (covers_or_not rows a b g))

module _ (n : ℕ) (rows gens : List (List ℚ)) (row : List ℚ) (pairs : List Pair) (d : IsDoubleDescriptionPair n rows gens) (exact : ArePairs rows gens row pairs) where
  -- a new generator at which the row is 0, tight wherever z is
  pub record IsFound (z : List ℚ) : Type 0 where
    pub generator : List ℚ
    pub listed : Contains (added row gens pairs) generator
    pub lies : LiesIn rows z generator
    pub zero_there : IsTight row generator

  pub kept_listed : (g : List ℚ) → Contains gens g → zero_ℚ ≤ℚ dot row g → Contains (added row gens pairs) g
  kept_listed g c h = Contains-append_left (kept row gens) (made row pairs) g (Contains-filter (λ v. le_ℚ zero_ℚ (dot row v)) gens g c h)

  kept_found : (z g : List ℚ) → Contains gens g → LiesIn rows z g → IsTight row g → IsFound z
  kept_found z g c h e = record { generator = g; listed = kept_listed g c (le_of_eq zero_ℚ (dot row g) (sym e)); lies = h; zero_there = e }

  -- the members of a support are tight wherever the sum is
  pub support_lies : (z g : List ℚ) (s : IsGenerated n gens z) → InSupport s.multipliers gens g → LiesIn rows z g
  support_lies z g s m = all_of_members (λ r. IsTight r z → IsTight r g) rows (λ r c e.
      dot_comm r g ∙ support_zero s.multipliers gens g r s.at_least_zero
      (all_of_members (HoldsAt r) gens (λ v k. subst (λ (x : ℚ). zero_ℚ ≤ℚ x) (dot_comm r v)
      (member_of (HoldsAt v) rows r (member_of (IsInCone n rows) gens v d.inside k).within c)))
      (sym (generated_value n gens z s r) ∙ e) m)

  gen_in : (g : List ℚ) → Contains gens g → IsInCone n rows g
  gen_in g c = member_of (IsInCone n rows) gens g d.inside c

  flip : (a b : List ℚ) → AreApart rows a b → AreApart rows b a
  flip a b h = record { first = h.second; second = h.first }

  gens_apart : (a b : List ℚ) → Contains gens a → Contains gens b → (a ≡ b → ⊥) → AreApart rows a b
  gens_apart a b h k e = pairs_of_members (AreApart rows) flip gens a b d.apart h k e

  -- one step of the search, from which the search at vectors with more tight rows goes on
  module _ (z : List ℚ) (again : (v : List ℚ) → loose rows v < loose rows z → IsInCone n rows v → IsTight row v → IsPositiveSomewhere rows v → IsFound v) where
    later : (x y v : List ℚ) → LiesIn rows z x → IsTight row x → IsTight row y → IsShrunk n rows x y v → IsFound z
    later x y v h e f s =
        let found : IsFound v = again v (Rattle.std.proofs.Common.lt_of_lt_of_le s.fewer (loose-le rows z x h)) s.in_cone (s.zero_where row e f) s.somewhere in
        record {
          generator = found.generator;
          listed = found.listed;
          lies = lies_through rows z x found.generator h (lies_through rows x v found.generator s.lies found.lies);
          zero_there = found.zero_there;
        }

    module _ (p m : List ℚ) (p_listed : Contains gens p) (m_listed : Contains gens m) (p_lies : LiesIn rows z p) (m_lies : LiesIn rows z m) (p_positive : zero_ℚ <ℚ dot row p) (m_negative : dot row m <ℚ zero_ℚ) where
      both_lie : (a b : List ℚ) (t : ℚ) → LiesIn rows z a → LiesIn rows z b → LiesIn rows z (moved a t b)
      both_lie a b t h k = all_of_members (λ r. IsTight r z → IsTight r (moved a t b)) rows (λ r c e.
          moved_tight a b r t (member_of (λ w. IsTight w z → IsTight w a) rows r h c e) (member_of (λ w. IsTight w z → IsTight w b) rows r k c e))

      new_found : Uncovered rows gens p m → IsFound z
      new_found u =
          let pair : Pair = record { plus_side = p; minus_side = m } in
          let is_new : IsNewPair rows gens row pair = record { plus_listed = p_listed; minus_listed = m_listed; positive = p_positive; negative = m_negative; uncovered = u } in
          record {
            generator = normed (meeting row p m);
            listed = Contains-append_right (kept row gens) (made row pairs) (normed (meeting row p m))
                (Contains-map (λ q. normed (meeting row q.plus_side q.minus_side)) pairs pair (exact.every pair is_new));
            lies = all_of_members (λ r. IsTight r z → IsTight r (normed (meeting row p m))) rows (λ r c e.
                normed_tight (meeting row p m) r (member_of (λ w. IsTight w z → IsTight w (meeting row p m)) rows r (both_lie p m _ p_lies m_lies) c e));
            zero_there = normed_tight (meeting row p m) row (moved_value p m row _ ∙ crossing row p m m_negative);
          }

      third_found : (s : IsThird rows gens p m) → Sign (dot row s.third) → IsFound z
      third_found s (none e) = kept_found z s.third s.listed (all_of_members (λ r. IsTight r z → IsTight r s.third) rows (λ r c h.
          member_of (λ w. IsTight w p → IsTight w m → IsTight w s.third) rows r s.covers c
          (member_of (λ w. IsTight w z → IsTight w p) rows r p_lies c h) (member_of (λ w. IsTight w z → IsTight w m) rows r m_lies c h))) e
      third_found s (positive h) =
          later (moved p (dot row p *ℚ inverse_ℚ (neg_ℚ (dot row m))) m) (moved s.third (dot row s.third *ℚ inverse_ℚ (neg_ℚ (dot row m))) m) _
          (both_lie p m _ p_lies m_lies)
          (moved_value p m row _ ∙ crossing row p m m_negative)
          (moved_value s.third m row _ ∙ crossing row s.third m m_negative)
          (shrunk_is n rows p m s.third (dot row p *ℚ inverse_ℚ (neg_ℚ (dot row m))) (dot row s.third *ℚ inverse_ℚ (neg_ℚ (dot row m)))
          (factor_positive row p m p_positive m_negative) (factor_positive row s.third m h m_negative)
          (gen_in p p_listed) (gen_in m m_listed) (gen_in s.third s.listed) s.covers
          (gens_apart p s.third p_listed s.listed (λ e. s.not_first (sym e))))
      third_found s (negative h) =
          later (moved m (neg_ℚ (dot row m) *ℚ inverse_ℚ (dot row p)) p) (moved s.third (neg_ℚ (dot row s.third) *ℚ inverse_ℚ (dot row p)) p) _
          (both_lie m p _ m_lies p_lies)
          (moved_value m p row _ ∙ crossing_negative row p m p_positive)
          (moved_value s.third p row _ ∙ crossing_negative row p s.third p_positive)
          (shrunk_is n rows m p s.third (neg_ℚ (dot row m) *ℚ inverse_ℚ (dot row p)) (neg_ℚ (dot row s.third) *ℚ inverse_ℚ (dot row p))
          (factor_negative row p m p_positive m_negative) (factor_negative row p s.third p_positive h)
          (gen_in m m_listed) (gen_in p p_listed) (gen_in s.third s.listed)
          (all_of_members (λ w. IsTight w m → IsTight w p → IsTight w s.third) rows
          (λ r c x y. member_of (λ w. IsTight w p → IsTight w m → IsTight w s.third) rows r s.covers c y x))
          (gens_apart m s.third m_listed s.listed (λ e. s.not_second (sym e))))

      pair_found : IsFound z
      pair_found = go (third_or_uncovered rows gens p m)
        where
          go : IsThird rows gens p m ⊎ Uncovered rows gens p m → IsFound z
          go (inl s) = third_found s (sign_of (dot row s.third))
          go (inr u) = new_found u

    step_found : IsInCone n rows z → IsTight row z → IsPositiveSomewhere rows z → IsFound z
    step_found h e s = start (d.generates z h)
      where
        start : IsGenerated n gens z → IsFound z
        start g = first (support_positive g.multipliers gens s.row g.at_least_zero
            (subst (λ (x : ℚ). zero_ℚ <ℚ x) (generated_value n gens z g s.row) s.positive))
          where
            sum_zero : dot g.multipliers (values gens row) ≡ zero_ℚ
            sum_zero = sym (generated_value n gens z g row) ∙ e

            listed_of : (v : List ℚ) → InSupport g.multipliers gens v → Contains gens v
            listed_of v m = support_listed g.multipliers gens v m

            with_negative : (v : List ℚ) → InSupport g.multipliers gens v → zero_ℚ <ℚ dot row v →
                ((w : List ℚ) × InSupport g.multipliers gens w × (dot w row <ℚ zero_ℚ)) → IsFound z
            with_negative v m q (w, k, l) = pair_found v w (listed_of v m) (listed_of w k) (support_lies z v g m) (support_lies z w g k) q
                (subst (λ (x : ℚ). x <ℚ zero_ℚ) (dot_comm w row) l)

            with_positive : (v : List ℚ) → InSupport g.multipliers gens v → dot row v <ℚ zero_ℚ →
                ((w : List ℚ) × InSupport g.multipliers gens w × (zero_ℚ <ℚ dot w row)) → IsFound z
            with_positive v m q (w, k, l) = pair_found w v (listed_of w k) (listed_of v m) (support_lies z w g k) (support_lies z v g m)
                (subst (λ (x : ℚ). zero_ℚ <ℚ x) (dot_comm w row) l) q

            by_sign : (v : List ℚ) → InSupport g.multipliers gens v → Sign (dot row v) → IsFound z
            by_sign v m (none q) = kept_found z v (listed_of v m) (support_lies z v g m) q
            by_sign v m (positive q) = with_negative v m q (support_opposite g.multipliers gens v row g.at_least_zero
                (le_of_eq (dot g.multipliers (values gens row)) zero_ℚ sum_zero) m (subst (λ (x : ℚ). zero_ℚ <ℚ x) (dot_comm row v) q))
            by_sign v m (negative q) = with_positive v m q (support_opposite_negative g.multipliers gens v row g.at_least_zero
                (le_of_eq zero_ℚ (dot g.multipliers (values gens row)) (sym sum_zero)) m (subst (λ (x : ℚ). x <ℚ zero_ℚ) (dot_comm row v) q))

            first : ((v : List ℚ) × InSupport g.multipliers gens v × (zero_ℚ <ℚ dot v s.row)) → IsFound z
            first (v, m, q) = by_sign v m (sign_of (dot row v))

  find_by : (k : ℕ) (z : List ℚ) → loose rows z < k → IsInCone n rows z → IsTight row z → IsPositiveSomewhere rows z → IsFound z
  find_by zero z l h e s = absurd (omega arith)
  find_by (suc k) z l h e s = step_found z (λ v m. find_by k v (omega arith)) h e s

  pub found : (z : List ℚ) → IsInCone n rows z → IsTight row z → IsPositiveSomewhere rows z → IsFound z
  found z h e s = find_by (suc (loose rows z)) z (omega arith) h e s
