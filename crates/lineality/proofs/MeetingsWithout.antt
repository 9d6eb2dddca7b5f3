-- Meeting points of generators that are 0 at some places, and vectors of which no place is marked.
use Rattle.std.proofs.Common.{◌≡◌, ℕ, zero, suc, List, [], ◌∷◌, map, length, All, Contains, Bool, refl, sym, ap, ap₂, ◌∙◌, subst, ◌⊎◌, inl, inr}
use Rattle.exact_field.specs.Rational.{ℚ, zero_ℚ, ◌/ℚ◌, neg_ℚ, ◌<ℚ◌}
use Rattle.exact_field.specs.Vector.{dot}
use Rattle.polyhedra.specs.Vectors.{AreWide, zeros, plus, scaled}
use Rattle.polyhedra.specs.DoubleDescription.{norming, normed, meeting}
use Rattle.polyhedra.specs.Generators.{IsTightAtBoth}
use Rattle.polyhedra.specs.TightSets.{IsDoubleDescriptionPair}
use Rattle.polyhedra.proofs.Generators.{tight_at_meeting}
use Rattle.polyhedra.proofs.NewGenerators.{normed_tight}
use Rattle.polyhedra.proofs.Lists.{HasWidth}
use Rattle.polyhedra.proofs.Linear.{length-scaled}
use Rattle.polyhedra.proofs.Members.{all_of_members, member_of, Contains-map}
use Rattle.polyhedra.proofs.Norming.{norming-other}
use Rattle.polyhedra.proofs.Order.{same_or_not}
use Rattle.lineality.specs.Without.{marks_from, open_count, without, with_zeros}
use Rattle.lineality.specs.Steps.{IsClear, MeetingsWithout, NoneMarked}
use Rattle.lineality.proofs.Masks.{without-plus, without-scaled}
use Rattle.lineality.proofs.StepsWithout.{IsGood, same_dot, norming-same, normed-same, good-scaled, good-plus}

module _ (n : ℕ) (bs : List Bool) (rows gens : List (List ℚ)) (row p m : List ℚ) (wide : AreWide (suc (length bs)) gens) (clear : All (IsClear bs) gens)
    (d : IsDoubleDescriptionPair n (map (without bs) rows) (map (without bs) gens)) (p_listed : Contains gens p) (m_listed : Contains gens m)
    (up : zero_ℚ <ℚ dot row p) (down : dot row m <ℚ zero_ℚ) where
  abbrev W : List ℚ → List ℚ
  W = without bs

  good : (g : List ℚ) → Contains gens g → IsGood bs g
  good g c = record { wide = member_of (HasWidth (suc (length bs))) gens g wide.wide c; clear = member_of (IsClear bs) gens g clear c }

  point_good : IsGood bs (meeting row p m)
  point_good = good-plus bs p (scaled (dot row p /ℚ neg_ℚ (dot row m)) m) (good p p_listed)
      (good-scaled bs (dot row p /ℚ neg_ℚ (dot row m)) m (good m m_listed))

  point_same : meeting (W row) (W p) (W m) ≡ W (meeting row p m)
  point_same = ap₂ (λ a b. plus (W p) (scaled (a /ℚ neg_ℚ b) (W m))) (same_dot bs row p (good p p_listed)) (same_dot bs row m (good m m_listed))
      ∙ ap (λ v. plus (W p) v) (sym (without-scaled bs (dot row p /ℚ neg_ℚ (dot row m)) m))
      ∙ sym (without-plus bs p (scaled (dot row p /ℚ neg_ℚ (dot row m)) m)
      ((good p p_listed).wide ∙ sym (length-scaled (dot row p /ℚ neg_ℚ (dot row m)) m ∙ (good m m_listed).wide)))

  normed_good : IsGood bs (normed (meeting row p m))
  normed_good = good-scaled bs _ (meeting row p m) point_good

  new_same : normed (meeting (W row) (W p) (W m)) ≡ W (normed (meeting row p m))
  new_same = ap normed point_same ∙ normed-same bs (meeting row p m) point_good

  law : IsTightAtBoth (map W rows) (W row) (W p) (W m)
  law = tight_at_meeting n (map W rows) (map W gens) (W row) (W p) (W m) d (Contains-map W gens p p_listed) (Contains-map W gens m m_listed)
      (subst (λ (a : ℚ). zero_ℚ <ℚ a) (sym (same_dot bs row p (good p p_listed))) up)
      (subst (λ (a : ℚ). a <ℚ zero_ℚ) (sym (same_dot bs row m (good m m_listed))) down)

  -- a row at the new vector
  at_new : (r : List ℚ) → dot (W r) (normed (meeting (W row) (W p) (W m))) ≡ dot r (normed (meeting row p m))
  at_new r = ap (dot (W r)) new_same ∙ same_dot bs r (normed (meeting row p m)) normed_good

  both : IsTightAtBoth rows row p m
  both = record {
    new_row = sym (at_new row) ∙ law.new_row;
    in_use = λ r c. (
      λ t. let h = (law.in_use (W r) (Contains-map W rows r c)).0 (at_new r ∙ t) in
          (sym (same_dot bs r p (good p p_listed)) ∙ h.0, sym (same_dot bs r m (good m m_listed)) ∙ h.1),
      λ h. sym (at_new r) ∙ (law.in_use (W r) (Contains-map W rows r c)).1 (same_dot bs r p (good p p_listed) ∙ h.0, same_dot bs r m (good m m_listed) ∙ h.1),
    );
  }

  not_zero : norming (meeting row p m) ≡ zero_ℚ → ⊥
  not_zero e =
      member_of (λ g. g ≡ zeros n → ⊥) (map W gens) (W p) d.not_zero (Contains-map W gens p p_listed)
      (d.pointed (W p) (member_of (HasWidth n) (map W gens) (W p) d.generators_wide.wide (Contains-map W gens p p_listed))
      (all_of_members (λ r. dot r (W p) ≡ zero_ℚ) (map W rows)
      (λ r c. ((law.in_use r c).0 (by r (same_or_not (dot r (normed (meeting (W row) (W p) (W m)))) zero_ℚ))).0)))
    where
      gone : norming (meeting (W row) (W p) (W m)) ≡ zero_ℚ
      gone = ap norming point_same ∙ norming-same bs (meeting row p m) point_good ∙ e

      by : (r : List ℚ) → (dot r (normed (meeting (W row) (W p) (W m))) ≡ zero_ℚ) ⊎ (dot r (normed (meeting (W row) (W p) (W m))) ≡ zero_ℚ → ⊥) →
          dot r (normed (meeting (W row) (W p) (W m))) ≡ zero_ℚ
      by r (inl t) = t
      by r (inr o) = absurd (norming-other (meeting (W row) (W p) (W m)) r (λ z. o (normed_tight (meeting (W row) (W p) (W m)) r z)) gone)

pub meetings_without : MeetingsWithout
meetings_without n bs rows gens row p m wide clear d pl ml up down = record {
  both = both n bs rows gens row p m wide clear d pl ml up down;
  not_zero = not_zero n bs rows gens row p m wide clear d pl ml up down;
}

-- ---- no lines
count_none : (k n : ℕ) → open_count (marks_from k n []) ≡ n
count_none k zero = refl
count_none k (suc n) = ap suc (count_none (suc k) n)

without_none : (k n : ℕ) (v : List ℚ) → without (marks_from k n []) v ≡ v
without_none k zero v = refl
without_none k (suc n) [] = refl
without_none k (suc n) (x ∷ v) = ap (λ w. x ∷ w) (without_none (suc k) n v)

with_none : (k n : ℕ) (v : List ℚ) → with_zeros (marks_from k n []) v ≡ v
with_none k zero v = refl
with_none k (suc n) [] = refl
with_none k (suc n) (x ∷ v) = ap (λ w. x ∷ w) (with_none (suc k) n v)

pub none_marked : NoneMarked
none_marked n v = record { all_open = count_none 1 n; without_none = without_none 1 n v; with_none = with_none 1 n v }
