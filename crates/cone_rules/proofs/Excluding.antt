-- Each fault excludes what a file without it has: so no sound file has a fault, and two faults of a
-- file are of one kind.
use Rattle.std.proofs.Common.{◌≡◌, ◌≢◌, ℕ, List, [], ◌∷◌, length, map, All, refl, sym, ap, ap₂, ◌∙◌, subst, arith, ◌<◌, ◌≤◌, ◌-◌, Option, None, Some}
use Rattle.std.specs.Prelude.{IsTrue, slice_index_or}
use Rattle.std.proofs.lemmas.List.Elements.{All-head}
use Rattle.exact_field.specs.Rational.{ℚ, zero_ℚ, one_ℚ, inverse_ℚ, ◌*ℚ◌, ◌/ℚ◌, neg_ℚ, ◌≤ℚ◌, ◌<ℚ◌}
use Rattle.exact_field.specs.Vector.{entry, dot}
use Rattle.frac128.specs.declared.vectors.Spot.{Spot}
use Rattle.polyhedra.specs.Cone.{IsGenerated, IsInCone, IsInDual, IsInterior}
use Rattle.polyhedra.specs.Negatives.{negated}
use Rattle.polyhedra.specs.Vectors.{AreWide, zeros, scaled, values}
use Rattle.polyhedra.proofs.Algebra.{mul_zero, neg_zero}
use Rattle.polyhedra.proofs.Duality.{dual_cones}
use Rattle.polyhedra.proofs.Generated.{generated_value, generated_generator}
use Rattle.polyhedra.proofs.Laws.{le_of_lt, mul_comm, zero_lt_one}
use Rattle.polyhedra.proofs.Linear.{dot-scaled, dot-combination_left}
use Rattle.polyhedra.proofs.Lists.{HasWidth, values_nonneg}
use Rattle.polyhedra.proofs.Members.{member_of}
use Rattle.polyhedra.proofs.Negatives.{dot-negated, dot-negated_left}
use Rattle.polyhedra.proofs.Order.{lt_irrefl, le_of_eq, mul_le, not_lt_of_le, inverse_positive}
use Rattle.polyhedra.proofs.Support.{InSupport, support_listed, support_zero, support_positive, dot_nonneg}
use Rattle.tableaux.specs.Table.{row_of, unit}
use Rattle.tableaux.proofs.Unique.{dot-unit, slice-zeros}
use Rattle.vlp_problem.specs.Cones.{cone_fits}
use Rattle.vlp_problem.specs.declared.problem.Problem.{Problem}
use Rattle.vlp_problem.specs.declared.problem.Cone.{Cone}
use Rattle.vlp_problem.specs.declared.problem.Cone.TheVariants.{Orthant, Gens, Dual}
use Rattle.upper_image.specs.OrderingCone.{IsIn, FollowsFile}
use Rattle.upper_image.specs.Spots.{dense}
use Rattle.upper_image.proofs.Shown.{nonneg-dense, dual_shown}
use Rattle.upper_image.proofs.Widths.{vectors_wide, length-dense}
use Rattle.cone_rules.specs.Faults.{HasInterior, HasNoLine, IsSound, IsZeroCombination, IsAcross, ShowsFlat, ShowsLine, ShowsOutside, ShowsLast, IsGivenOutside, IsGivenInside, HasFault, place_of}
use Rattle.cone_rules.specs.Laws.{FaultsExclude}
use Rattle.cone_rules.specs.declared.fault.ConeFault.{ConeFault}
use Rattle.cone_rules.specs.declared.fault.ConeFault.TheVariants.{NotSolid, HasLine, NotInterior, LastNotPositive}
use Rattle.cone_rules.proofs.Lineality.{negative_in, support_at}
use Rattle.cone_rules.proofs.Parts.{all_rows, zero_of_both, dot-zeros_left, dot-unit_right}
use Rattle.cone_rules.proofs.Rows.{dense-at, spots_of, IsSpotOf}

-- ---- vectors across, and combinations to 0
across_not_zero : (q : ℕ) (vectors : List (List ℚ)) (w : List ℚ) (m : List Spot) → IsAcross q vectors w m → w ≢ zeros q
across_not_zero q vectors w m h e =
    lt_irrefl zero_ℚ (subst (λ (x : ℚ). zero_ℚ <ℚ x)
    (sym h.orthogonal.one ∙ ap (λ v. entry v h.orthogonal.place) e ∙ slice-zeros q (h.orthogonal.place - 1)) zero_lt_one)

across_all : (q : ℕ) (vectors : List (List ℚ)) (w : List ℚ) (m : List Spot) → IsAcross q vectors w m → All (λ v. dot v w ≡ zero_ℚ) vectors
across_all q vectors w m h = all_rows (λ v. dot v w ≡ zero_ℚ) vectors h.orthogonal.products

first_supported : (q : ℕ) (vectors : List (List ℚ)) (m : List Spot) (first : List ℚ) → IsZeroCombination q vectors m first →
    InSupport (dense (length vectors) m) vectors first × (first ≢ zeros q)
first_supported q vectors [] first h = absurd h.leads
first_supported q vectors (s ∷ m) first h = (
  subst (λ (v : List ℚ). InSupport (dense (length vectors) (s ∷ m)) vectors v) (sym h.leads)
      (support_at (dense (length vectors) (s ∷ m)) vectors (s.at - 1) (omega (arith, low, high)) positive),
  λ e. All-head (λ t. row_of vectors t.at ≢ zeros q) s m h.named (sym h.leads ∙ e),
)
  where
    spot : IsSpotOf (s ∷ m) 0 s
    spot = All-head (IsSpotOf (s ∷ m) 0) s m (spots_of (s ∷ m) 0 h.vector.sparse)

    low : 0 < s.at
    low = spot.above

    high : s.at ≤ length vectors
    high = All-head (λ t. t.at ≤ length vectors) s m h.vector.places

    positive : zero_ℚ <ℚ slice_index_or (dense (length vectors) (s ∷ m)) (s.at - 1) zero_ℚ
    positive =
        subst (λ (x : ℚ). zero_ℚ <ℚ x) (sym (dense-at (length vectors) (s ∷ m) s.at (omega (arith, low)) high ∙ spot.value))
        (All-head (λ t. zero_ℚ <ℚ t.value) s m h.sign)

-- the vectors combine to 0 with multipliers of at least 0
zero_generated : (q : ℕ) (vectors : List (List ℚ)) (m : List Spot) (first : List ℚ) → IsZeroCombination q vectors m first → IsGenerated q vectors (zeros q)
zero_generated q vectors m first h =
    record {
      multipliers = dense (length vectors) m;
      one_each = length-dense (length vectors) m;
      at_least_zero = nonneg-dense (length vectors) m h.sign;
      combined = sym h.combined;
    }

-- ---- no interior
flat_not_solid : (q : ℕ) (cone : Cone) (w : List ℚ) (m : List Spot) → IsTrue (cone_fits q cone) → ShowsFlat q cone w m → HasInterior q cone → ⊥
flat_not_solid q Orthant w m f h s = absurd h
flat_not_solid q (Gens vectors) w m f h s = go (support_positive member.multipliers vectors w member.at_least_zero value_positive)
  where
    member : IsGenerated q vectors s.0
    member = s.1.member

    dual : IsInDual q (IsGenerated q vectors) w
    dual = (dual_cones.of_generated q vectors w (vectors_wide q vectors f)).1 record {
      wide = h.orthogonal.wide;
      within = λ i d l. le_of_eq zero_ℚ (dot (slice_index_or vectors i d) w) (sym (across_all q vectors w m h i d l));
    }

    value_positive : zero_ℚ <ℚ dot member.multipliers (values vectors w)
    value_positive =
        subst (λ (x : ℚ). zero_ℚ <ℚ x) (generated_value q vectors s.0 member w) (s.1.inside w dual (across_not_zero q vectors w m h))

    go : (g : List ℚ) × InSupport member.multipliers vectors g × (zero_ℚ <ℚ dot g w) → ⊥
    go t =
        lt_irrefl zero_ℚ (subst (λ (x : ℚ). zero_ℚ <ℚ x)
        (member_of (λ v. dot v w ≡ zero_ℚ) vectors t.0 (across_all q vectors w m h) (support_listed member.multipliers vectors t.0 t.1)) t.2)
flat_not_solid q (Dual vectors) w m f h s =
    let wide : AreWide q vectors = vectors_wide q vectors f in
    let inner : IsInterior q (IsInCone q vectors) s.0 = s.1 in
    let first : InSupport (dense (length vectors) m) vectors w × (w ≢ zeros q) = first_supported q vectors m w h in
    let positive : zero_ℚ <ℚ dot w s.0 =
    inner.inside w ((dual_cones.of_rows q vectors w wide).1 (generated_generator q vectors w wide (support_listed (dense (length vectors) m) vectors w first.0))) first.1 in
    let none : dot w s.0 ≡ zero_ℚ =
    support_zero (dense (length vectors) m) vectors w s.0 (nonneg-dense (length vectors) m h.sign) inner.member.within
    (sym (dot-combination_left q (dense (length vectors) m) vectors s.0) ∙ ap (λ v. dot v s.0) h.combined ∙ dot-zeros_left q s.0) first.0 in
    lt_irrefl zero_ℚ (subst (λ (x : ℚ). zero_ℚ <ℚ x) none positive)

-- ---- a line
line_not_pointed : (q : ℕ) (cone : Cone) (d : List ℚ) (m : List Spot) → IsTrue (cone_fits q cone) → ShowsLine q cone d m → HasNoLine q cone → ⊥
unfolding zero_generated
line_not_pointed q Orthant d m f h p = absurd h
line_not_pointed q (Gens vectors) d m f h p =
    let wide : AreWide q vectors = vectors_wide q vectors f in
    let first : InSupport (dense (length vectors) m) vectors d × (d ≢ zeros q) = first_supported q vectors m d h in
    let listed = support_listed (dense (length vectors) m) vectors d first.0 in
    first.1 (p d (generated_generator q vectors d wide listed)
    (negative_in q vectors d wide (zero_generated q vectors m d h) first.0 (member_of (HasWidth q) vectors d wide.wide listed)))
line_not_pointed q (Dual vectors) d m f h p =
    across_not_zero q vectors d m h (p d
    record {
      wide = h.orthogonal.wide;
      within = λ i e l. le_of_eq zero_ℚ (dot (slice_index_or vectors i e) d) (sym (across_all q vectors d m h i e l));
    }
    record {
      wide = Rattle.std.proofs.lemmas.List.length-map d neg_ℚ ∙ h.orthogonal.wide;
      within = λ i e l. le_of_eq zero_ℚ (dot (slice_index_or vectors i e) (negated d))
          (sym (dot-negated (slice_index_or vectors i e) d ∙ ap neg_ℚ (across_all q vectors d m h i e l) ∙ neg_zero));
    })

-- ---- a duality vector that is not interior
outside_not_inside : (q : ℕ) (cone : Cone) (f w : List ℚ) (v : List Spot) → IsTrue (cone_fits q cone) → ShowsOutside q cone f w v → IsInterior q (IsIn q cone) f → ⊥
outside_not_inside q cone f w v fits h inner =
    not_lt_of_le (dot w f) zero_ℚ h.sign (inner.inside w (dual_shown q cone w v fits h.lengths h.cone) h.not_zero)

given_both : (q : ℕ) (cone : Cone) (duality : Option (List ℚ)) (w : List ℚ) (v : List Spot) → IsTrue (cone_fits q cone) → IsGivenOutside q cone duality w v →
    IsGivenInside q cone duality → ⊥
given_both q cone None w v fits h k = absurd h
given_both q cone (Some f) w v fits h k = outside_not_inside q cone f w v fits h (k f refl)

-- what fits is the vector that the file gives, times a positive number
pub quotients : (d : ℚ) (v : List ℚ) → map (λ x. x /ℚ d) v ≡ scaled (inverse_ℚ d) v
quotients d [] = refl
quotients d (x ∷ v) = ap₂ (λ a b. a ∷ b) (mul_comm x (inverse_ℚ d)) (quotients d v)

follows_given : (q : ℕ) (cone : Cone) (f c : List ℚ) → FollowsFile q cone (Some f) c → (zero_ℚ <ℚ entry f q) × (c ≡ scaled (inverse_ℚ (entry f q)) f)
follows_given q Orthant f c h = (h.0, h.1 ∙ quotients (entry f q) f)
follows_given q (Gens vectors) f c h = (h.0, h.1 ∙ quotients (entry f q) f)
follows_given q (Dual vectors) f c h = (h.0, h.1 ∙ quotients (entry f q) f)

outside_not_fitting : (q : ℕ) (cone : Cone) (duality : Option (List ℚ)) (w c : List ℚ) (v : List Spot) → IsTrue (cone_fits q cone) → IsGivenOutside q cone duality w v →
    IsInterior q (IsIn q cone) c → FollowsFile q cone duality c → ⊥
outside_not_fitting q cone None w c v fits h inner follows = absurd h
outside_not_fitting q cone (Some f) w c v fits h inner follows =
    let given : (zero_ℚ <ℚ entry f q) × (c ≡ scaled (inverse_ℚ (entry f q)) f) = follows_given q cone f c follows in
    let value : dot w c ≡ inverse_ℚ (entry f q) *ℚ dot w f = ap (λ u. dot w u) given.1 ∙ dot-scaled w (inverse_ℚ (entry f q)) f in
    not_lt_of_le (dot w c) zero_ℚ
    (subst (λ (x : ℚ). x ≤ℚ zero_ℚ) (sym value)
    (subst (λ (x : ℚ). inverse_ℚ (entry f q) *ℚ dot w f ≤ℚ x) (mul_zero (inverse_ℚ (entry f q)))
    (mul_le (inverse_ℚ (entry f q)) (dot w f) zero_ℚ (le_of_lt zero_ℚ (inverse_ℚ (entry f q)) (inverse_positive (entry f q) given.0)) h.sign)))
    (inner.inside w (dual_shown q cone w v fits h.lengths h.cone) h.not_zero)

-- ---- no positive last entry
last_not_fitting : (q : ℕ) (cone : Cone) (duality : Option (List ℚ)) (m : List Spot) (c : List ℚ) → 1 ≤ q → ShowsLast q cone duality m →
    IsInterior q (IsIn q cone) c → entry c q ≡ one_ℚ → FollowsFile q cone duality c → ⊥
last_not_fitting q Orthant (Some f) m c some h inner one follows = not_lt_of_le (entry f q) zero_ℚ h.1 follows.0
last_not_fitting q (Gens vectors) (Some f) m c some h inner one follows = not_lt_of_le (entry f q) zero_ℚ h.1 follows.0
last_not_fitting q (Dual vectors) (Some f) m c some h inner one follows = not_lt_of_le (entry f q) zero_ℚ h.1 follows.0
last_not_fitting q Orthant None m c some h inner one follows = absurd h
last_not_fitting q (Gens vectors) None m c some h inner one follows = go (support_positive member.multipliers vectors (unit q q) member.at_least_zero value_positive)
  where
    member : IsGenerated q vectors c
    member = inner.member

    value_positive : zero_ℚ <ℚ dot member.multipliers (values vectors (unit q q))
    value_positive =
        subst (λ (x : ℚ). zero_ℚ <ℚ x) (sym (dot-unit q q c some (omega arith) ∙ one) ∙ generated_value q vectors c member (unit q q)) zero_lt_one

    go : (g : List ℚ) × InSupport member.multipliers vectors g × (zero_ℚ <ℚ dot g (unit q q)) → ⊥
    go t =
        not_lt_of_le (entry t.0 q) zero_ℚ
        (member_of (λ v. entry v q ≤ℚ zero_ℚ) vectors t.0 h.1 (support_listed member.multipliers vectors t.0 t.1))
        (subst (λ (x : ℚ). zero_ℚ <ℚ x) (dot-unit_right q q t.0 some (omega arith)) t.2)
last_not_fitting q (Dual vectors) None m c some h inner one follows =
    let member : IsInCone q vectors c = inner.member in
    let below : zero_ℚ ≤ℚ neg_ℚ one_ℚ =
    subst (λ (x : ℚ). zero_ℚ ≤ℚ x)
    (sym (dot-combination_left q (dense (length vectors) m) vectors c) ∙ ap (λ v. dot v c) h.combined ∙ dot-negated_left (unit q q) c
    ∙ ap neg_ℚ (dot-unit q q c some (omega arith) ∙ one))
    (dot_nonneg (dense (length vectors) m) (values vectors c) (nonneg-dense (length vectors) m h.sign) (values_nonneg vectors c member.within)) in
    lt_irrefl zero_ℚ (subst (λ (x : ℚ). zero_ℚ <ℚ x) (zero_of_both one_ℚ (le_of_lt zero_ℚ one_ℚ zero_lt_one) below) zero_lt_one)

-- ---- the faults of a file
some_objective : (file : Problem) → 1 ≤ file.objs
some_objective file = let one : 0 < file.objs = file.some_objective in omega (arith, one)

sound : (file : Problem) (fault : ConeFault) → HasFault file fault → IsSound file → ⊥
sound file (NotSolid w m) h s = flat_not_solid file.objs file.cone w m file.cone_vectors h s.solid
sound file (HasLine d m) h s = line_not_pointed file.objs file.cone d m file.cone_vectors h.1 s.pointed
sound file (NotInterior w v) h s =
    outside_not_fitting file.objs file.cone file.duality w s.duality.0 v file.cone_vectors h.2 s.duality.1.interior s.duality.1.follows
sound file (LastNotPositive m) h s =
    last_not_fitting file.objs file.cone file.duality m s.duality.0 (some_objective file) h.3 s.duality.1.interior s.duality.1.last s.duality.1.follows

one_kind : (file : Problem) (a b : ConeFault) → HasFault file a → HasFault file b → place_of a ≡ place_of b
one_kind file (NotSolid w m) (NotSolid w' m') h k = refl
one_kind file (NotSolid w m) (HasLine d m') h k = absurd (flat_not_solid file.objs file.cone w m file.cone_vectors h k.0)
one_kind file (NotSolid w m) (NotInterior w' v) h k = absurd (flat_not_solid file.objs file.cone w m file.cone_vectors h k.0)
one_kind file (NotSolid w m) (LastNotPositive m') h k = absurd (flat_not_solid file.objs file.cone w m file.cone_vectors h k.0)
one_kind file (HasLine d m) (NotSolid w m') h k = absurd (flat_not_solid file.objs file.cone w m' file.cone_vectors k h.0)
one_kind file (HasLine d m) (HasLine d' m') h k = refl
one_kind file (HasLine d m) (NotInterior w v) h k = absurd (line_not_pointed file.objs file.cone d m file.cone_vectors h.1 k.1)
one_kind file (HasLine d m) (LastNotPositive m') h k = absurd (line_not_pointed file.objs file.cone d m file.cone_vectors h.1 k.1)
one_kind file (NotInterior w v) (NotSolid w' m) h k = absurd (flat_not_solid file.objs file.cone w' m file.cone_vectors k h.0)
one_kind file (NotInterior w v) (HasLine d m) h k = absurd (line_not_pointed file.objs file.cone d m file.cone_vectors k.1 h.1)
one_kind file (NotInterior w v) (NotInterior w' v') h k = refl
one_kind file (NotInterior w v) (LastNotPositive m) h k = absurd (given_both file.objs file.cone file.duality w v file.cone_vectors h.2 k.2)
one_kind file (LastNotPositive m) (NotSolid w m') h k = absurd (flat_not_solid file.objs file.cone w m' file.cone_vectors k h.0)
one_kind file (LastNotPositive m) (HasLine d m') h k = absurd (line_not_pointed file.objs file.cone d m' file.cone_vectors k.1 h.1)
one_kind file (LastNotPositive m) (NotInterior w v) h k = absurd (given_both file.objs file.cone file.duality w v file.cone_vectors k.2 h.2)
one_kind file (LastNotPositive m) (LastNotPositive m') h k = refl

pub faults_exclude : FaultsExclude
faults_exclude =
    record {
      flat = λ file w m h s. flat_not_solid file.objs file.cone w m file.cone_vectors h s;
      line = λ file d m h p. line_not_pointed file.objs file.cone d m file.cone_vectors h p;
      outside = λ file f w v h k. outside_not_inside file.objs file.cone f w v file.cone_vectors h k;
      last = λ file c m h k. last_not_fitting file.objs file.cone file.duality m c (some_objective file) h k.interior k.last k.follows;
      sound = sound;
      one_kind = one_kind;
    }
