-- A set that is enclosed along lines, without the entries at their places: it meets the conditions
-- of exactness without lines.
use Rattle.std.proofs.Common.{◌≡◌, ℕ, zero, suc, List, [], ◌∷◌, map, length, All, Contains, Bool, refl, sym, ap, ap₂, ◌∙◌, subst, arith, ◌<◌, ◌⊎◌, inl, inr}
use Rattle.std.proofs.lemmas.List.Elements.{All-head, All-tail, All-map}
use Rattle.exact_field.specs.Rational.{ℚ, zero_ℚ, one_ℚ, ◌+ℚ◌, neg_ℚ, ◌≤ℚ◌}
use Rattle.exact_field.specs.Vector.{dot}
use Rattle.polyhedra.specs.Vectors.{zeros, plus, scaled}
use Rattle.polyhedra.specs.DoubleDescription.{magnitude, leading}
use Rattle.polyhedra.specs.TightSets.{IsTight, IsDoubleDescriptionPair}
use Rattle.polyhedra.specs.Inequality.{Inequality}
use Rattle.polyhedra.specs.Hull.{IsConvex, IsValidAt, IsNormedDirection}
use Rattle.polyhedra.specs.Exactness.{homogenised, level, row_of, rows_of, IsOneOf, TightLiesIn, IsNamed, IsAccounted, IsEnclosed, IsSolved, IsExact}
use Rattle.polyhedra.proofs.Linear.{length-plus, length-scaled, length-zeros}
use Rattle.polyhedra.proofs.Lists.{HasWidth, all_from_map}
use Rattle.polyhedra.proofs.Members.{all_of_members, member_of, Contains-map}
use Rattle.polyhedra.proofs.SolvedAreExact.{exactness}
use Rattle.lineality.specs.Lines.{IsReduced, IsReducedIn, reduction}
use Rattle.lineality.specs.Without.{marks, open_count, without, with_zeros}
use Rattle.lineality.specs.Exactness.{IsEnclosedAlong, IsSolvedAlong}
use Rattle.lineality.proofs.Echelon.{IsOne, IsEchelon, echelon_of}
use Rattle.lineality.proofs.Places.{at, first}
use Rattle.lineality.proofs.Masks.{length-without, length-with, dot-without, with-plus, with-scaled, with-zeros, leading-with, without-homogenised, with-homogenised, without-level, without-row, inequality_without}
use Rattle.lineality.proofs.Marks.{length-marks, flat_kept, with_flat, first_within}
use Rattle.lineality.proofs.Reduction.{flat_of, reduced_of, length-reduction, reduction_flat, level_reduction}

-- ---- vectors and sets without the entries at the places of lines
module _ (n : ℕ) (lines : List (List ℚ)) (form : IsEchelon n lines) where
  abbrev pub Bs : List Bool
  Bs = marks n lines

  abbrev pub less : ℕ
  less = open_count (marks n lines)

  pub long : length (marks n lines) ≡ n
  long = length-marks n lines

  pub erased_wide : (v : List ℚ) → length v ≡ n → length (without (marks n lines) v) ≡ less
  erased_wide v h = length-without (marks n lines) v (h ∙ sym long)

  pub filled_wide : (z : List ℚ) → length z ≡ less → length (with_zeros (marks n lines) z) ≡ n
  filled_wide z h = length-with (marks n lines) z h ∙ long

  pub filled_reduced : (z : List ℚ) → IsReduced lines (with_zeros (marks n lines) z)
  filled_reduced z = reduced_of lines (with_zeros (marks n lines) z) (with_flat n lines form z)

  pub kept : (y : List ℚ) → length y ≡ n → IsReduced lines y → with_zeros (marks n lines) (without (marks n lines) y) ≡ y
  kept y w h = flat_kept n lines form y w (flat_of lines y h)

  pub filled_sum : (p q : ℚ) (a b : List ℚ) → length a ≡ less → length b ≡ less →
      with_zeros (marks n lines) (plus (scaled p a) (scaled q b)) ≡ plus (scaled p (with_zeros (marks n lines) a)) (scaled q (with_zeros (marks n lines) b))
  filled_sum p q a b h k = with-plus (marks n lines) (scaled p a) (scaled q b) (length-scaled p a ∙ h ∙ sym (length-scaled q b ∙ k))
      ∙ ap₂ (λ u v. plus u v) (with-scaled (marks n lines) p a) (with-scaled (marks n lines) q b)

  -- the products stay, where the one vector is reduced
  pub same_product : (r y : List ℚ) → length y ≡ n → IsReduced lines y → dot (without (marks n lines) r) (without (marks n lines) y) ≡ dot r y
  same_product r y w h = dot-without (marks n lines) r (without (marks n lines) y) ∙ ap (dot r) (kept y w h)

  -- z is a member of the set with zeros at the places
  pub record IsErased (Set : List ℚ → Type 0) (z : List ℚ) : Type 0 where
    pub wide : length z ≡ less
    pub member : Set (with_zeros (marks n lines) z)

  module _ (Set : List ℚ → Type 0) (wide : (y : List ℚ) → Set y → length y ≡ n) where
    pub erased_in : (y : List ℚ) → IsReducedIn lines Set y → IsErased Set (without (marks n lines) y)
    erased_in y h = record { wide = erased_wide y (wide y h.member); member = subst Set (sym (kept y (wide y h.member) h.reduced)) h.member }

    pub filled_in : (z : List ℚ) → IsErased Set z → IsReducedIn lines Set (with_zeros (marks n lines) z)
    filled_in z h = record { member = h.member; reduced = filled_reduced z }

  pub erased_convex : (Set Directions : List ℚ → Type 0) → IsConvex n Set Directions → IsConvex less (IsErased Set) (IsErased Directions)
  erased_convex Set Directions h = record {
    wide = λ z k. k.wide;
    directions_wide = λ z k. k.wide;
    mean = λ l a b p q j k. record {
      wide = length-plus less (scaled (one_ℚ +ℚ neg_ℚ l) a) (scaled l b) (length-scaled (one_ℚ +ℚ neg_ℚ l) a ∙ j.wide) (length-scaled l b ∙ k.wide);
      member = subst Set (sym (filled_sum (one_ℚ +ℚ neg_ℚ l) l a b j.wide k.wide))
          (h.mean l (with_zeros (marks n lines) a) (with_zeros (marks n lines) b) p q j.member k.member);
    };
    recedes = λ y d j k. record {
      wide = length-plus less y d j.wide k.wide;
      member = subst Set (sym (with-plus (marks n lines) y d (j.wide ∙ sym k.wide))) (h.recedes (with_zeros (marks n lines) y) (with_zeros (marks n lines) d) j.member k.member);
    };
    direction_zero = record {
      wide = length-zeros less;
      member = subst Directions (ap zeros (sym long) ∙ sym (with-zeros (marks n lines))) h.direction_zero;
    };
    direction_sum = λ a b j k. record {
      wide = length-plus less a b j.wide k.wide;
      member = subst Directions (sym (with-plus (marks n lines) a b (j.wide ∙ sym k.wide))) (h.direction_sum (with_zeros (marks n lines) a) (with_zeros (marks n lines) b) j.member k.member);
    };
    direction_multiple = λ s d p k. record {
      wide = length-scaled s d ∙ k.wide;
      member = subst Directions (sym (with-scaled (marks n lines) s d)) (h.direction_multiple s (with_zeros (marks n lines) d) p k.member);
    };
  }

  pub erased_normed : (d : List ℚ) → length d ≡ n → IsReduced lines d → IsNormedDirection d → IsNormedDirection (without (marks n lines) d)
  erased_normed d w h k = ap magnitude (sym (leading-with (marks n lines) (without (marks n lines) d)) ∙ ap leading (kept d w h)) ∙ k

  pub filled_normed : (z : List ℚ) → IsNormedDirection z → IsNormedDirection (with_zeros (marks n lines) z)
  filled_normed z h = ap magnitude (leading-with (marks n lines) z) ∙ h

  -- an inequality that is valid, and level along the lines
  pub erased_valid : (Set : List ℚ → Type 0) (c : List ℚ) (e : Inequality) → length c ≡ n → IsValidAt n Set c e → All (λ d. dot e.normal d ≡ zero_ℚ) lines →
      IsValidAt less (IsErased Set) (without (marks n lines) (reduction n lines c)) (inequality_without (marks n lines) e)
  erased_valid Set c e w h flat = record {
    valid = record {
      wide = erased_wide e.normal h.wide;
      holds = λ z k. subst (λ (a : ℚ). e.bound ≤ℚ a) (sym (dot-without (marks n lines) e.normal z)) (h.holds (with_zeros (marks n lines) z) k.member);
    };
    normed = same_product e.normal (reduction n lines c) (length-reduction n lines c form.wide w) (reduction_flat n lines c form)
        ∙ level_reduction n lines e.normal c flat ∙ h.normed;
  }

  -- ---- homogenised vectors
  pub erased_homogenised : (y : List ℚ) (t : ℚ) → length y ≡ n → without (marks n lines) (homogenised y t) ≡ homogenised (without (marks n lines) y) t
  erased_homogenised y t w = without-homogenised (marks n lines) y t (w ∙ sym long)

  pub same_value : (r y : List ℚ) (t : ℚ) → length y ≡ n → IsReduced lines y →
      dot (without (marks n lines) r) (without (marks n lines) (homogenised y t)) ≡ dot r (homogenised y t)
  same_value r y t w h =
      dot-without (marks n lines) r (without (marks n lines) (homogenised y t))
      ∙ ap (dot r) (ap (with_zeros (marks n lines)) (erased_homogenised y t w)
      ∙ with-homogenised (marks n lines) (without (marks n lines) y) t (erased_wide y w) ∙ ap (λ v. homogenised v t) (kept y w h))

  pub clear_homogenised : (y : List ℚ) (t : ℚ) → length y ≡ n → IsReduced lines y → with_zeros (marks n lines) (without (marks n lines) (homogenised y t)) ≡ homogenised y t
  clear_homogenised y t w h = ap (with_zeros (marks n lines)) (erased_homogenised y t w)
      ∙ with-homogenised (marks n lines) (without (marks n lines) y) t (erased_wide y w) ∙ ap (λ v. homogenised v t) (kept y w h)

  at_front : (y : List ℚ) (t : ℚ) (k : ℕ) → k < length y → at (homogenised y t) k ≡ at y k
  at_front [] t k h = absurd (omega arith)
  at_front (x ∷ y) t zero h = refl
  at_front (x ∷ y) t (suc k) h = at_front y t k (omega arith)

  -- a homogenised vector that is 0 at the places of the lines is that of a reduced vector
  pub clear_reduced : (y : List ℚ) (t : ℚ) → length y ≡ n → with_zeros (marks n lines) (without (marks n lines) (homogenised y t)) ≡ homogenised y t → IsReduced lines y
  clear_reduced y t w h = reduced_of lines y (all_of_members (λ d. at y (first d) ≡ zero_ℚ) lines
      (λ d k. let low : first d < n = first_within n d (member_of (HasWidth n) lines d form.wide.wide k) (member_of IsOne lines d form.ones k) in
      sym (at_front y t (first d) (omega (arith, low, w))) ∙ ap (λ v. at v (first d)) (sym h)
      ∙ member_of (λ e. at (with_zeros (marks n lines) (without (marks n lines) (homogenised y t))) (first e) ≡ zero_ℚ) lines d (with_flat n lines form (without (marks n lines) (homogenised y t))) k))

  pub erased_level : without (marks n lines) (level n) ≡ level less
  erased_level = ap (λ k. without (marks n lines) (level k)) (sym long) ∙ without-level (marks n lines)

  pub erased_row : (e : Inequality) → length e.normal ≡ n → without (marks n lines) (row_of e) ≡ row_of (inequality_without (marks n lines) e)
  erased_row e w = without-row (marks n lines) e (w ∙ sym long)

  pub erased_cut_rows : (cuts : List Inequality) → All (λ e. length e.normal ≡ n) cuts →
      map (without (marks n lines)) (map row_of cuts) ≡ map row_of (map (inequality_without (marks n lines)) cuts)
  erased_cut_rows [] h = refl
  erased_cut_rows (e ∷ cuts) h =
      ap₂ (λ a b. a ∷ b) (erased_row e (All-head (λ e. length e.normal ≡ n) e cuts h)) (erased_cut_rows cuts (All-tail (λ e. length e.normal ≡ n) e cuts h))

  pub erased_rows : (cuts : List Inequality) → All (λ e. length e.normal ≡ n) cuts →
      map (without (marks n lines)) (rows_of n cuts) ≡ rows_of less (map (inequality_without (marks n lines)) cuts)
  erased_rows cuts h = ap₂ (λ a b. a ∷ b) erased_level (erased_cut_rows cuts h)

-- ---- the conditions
module _ (n : ℕ) (Set Directions : List ℚ → Type 0) (c : List ℚ) (lines : List (List ℚ)) (cuts : List Inequality) (gens points directions : List (List ℚ))
    (s : IsEnclosedAlong n Set Directions c lines cuts gens points directions) where
  abbrev pub form : IsEchelon n lines
  form = echelon_of n lines s.along.echelon

  abbrev pub W : List ℚ → List ℚ
  W = without (marks n lines)

  abbrev pub cut' : Inequality → Inequality
  cut' = inequality_without (marks n lines)

  abbrev pub m : ℕ
  m = open_count (marks n lines)

  abbrev pub Set' : List ℚ → Type 0
  Set' = IsErased n lines form Set

  abbrev pub Directions' : List ℚ → Type 0
  Directions' = IsErased n lines form Directions

  abbrev pub c' : List ℚ
  c' = W (reduction n lines c)

  pub normals_wide : All (λ e. length e.normal ≡ n) cuts
  normals_wide = all_of_members (λ e. length e.normal ≡ n) cuts (λ e k. (member_of (IsValidAt n Set c) cuts e s.cuts_valid k).wide)

  pub point_in : (y : List ℚ) → Contains points y → IsReducedIn lines Set y
  point_in y k = member_of (IsReducedIn lines Set) points y s.points_in k

  pub point_wide : (y : List ℚ) → Contains points y → length y ≡ n
  point_wide y k = s.convex.wide y (point_in y k).member

  pub direction_in : (d : List ℚ) → Contains directions d → IsReducedIn lines Directions d
  direction_in d k = member_of (IsReducedIn lines Directions) directions d s.directions_in k

  pub direction_wide : (d : List ℚ) → Contains directions d → length d ≡ n
  direction_wide d k = s.convex.directions_wide d (direction_in d k).member

  -- the value of a row at a generator
  pub generator_value : (g r : List ℚ) → Contains gens g → dot (W r) (W g) ≡ dot r g
  generator_value g r k = go (member_of (IsOneOf points directions) gens g s.each k)
    where
      go : IsOneOf points directions g → dot (W r) (W g) ≡ dot r g
      go (inl h) = subst (λ (v : List ℚ). dot (W r) (W v) ≡ dot r v) (sym h.2) (same_value n lines form r h.0 one_ℚ (point_wide h.0 h.1) (point_in h.0 h.1).reduced)
      go (inr h) = subst (λ (v : List ℚ). dot (W r) (W v) ≡ dot r v) (sym h.2) (same_value n lines form r h.0 zero_ℚ (direction_wide h.0 h.1) (direction_in h.0 h.1).reduced)

  each' : All (IsOneOf (map W points) (map W directions)) (map W gens)
  each' = All-map (IsOneOf (map W points) (map W directions)) W gens (all_of_members (λ g. IsOneOf (map W points) (map W directions) (W g)) gens
      (λ g k. go g (member_of (IsOneOf points directions) gens g s.each k)))
    where
      go : (g : List ℚ) → IsOneOf points directions g → IsOneOf (map W points) (map W directions) (W g)
      go g (inl h) = inl (W h.0, Contains-map W points h.0 h.1, ap W h.2 ∙ erased_homogenised n lines form h.0 one_ℚ (point_wide h.0 h.1))
      go g (inr h) = inr (W h.0, Contains-map W directions h.0 h.1, ap W h.2 ∙ erased_homogenised n lines form h.0 zero_ℚ (direction_wide h.0 h.1))

  pub enclosed' : IsEnclosed m Set' Directions' c' (map cut' cuts) (map W gens) (map W points) (map W directions)
  enclosed' = record {
    convex = erased_convex n lines form Set Directions s.convex;
    c_wide = erased_wide n lines form (reduction n lines c) (length-reduction n lines c (form).wide s.c_wide);
    cuts_valid = All-map (IsValidAt m Set' c') cut' cuts (all_of_members (λ e. IsValidAt m Set' c' (cut' e)) cuts
        (λ e k. erased_valid n lines form Set c e s.c_wide (member_of (IsValidAt n Set c) cuts e s.cuts_valid k) (member_of (λ e. All (λ d. dot e.normal d ≡ zero_ℚ) lines) cuts e s.cuts_level k)));
    described = subst (λ (rows : List (List ℚ)). IsDoubleDescriptionPair (suc m) rows (map W gens)) (erased_rows n lines form cuts normals_wide) s.described;
    each = each';
    point_listed = All-map (λ y. Contains (map W gens) (homogenised y one_ℚ)) W points (all_of_members (λ y. Contains (map W gens) (homogenised (W y) one_ℚ)) points
        (λ y k. subst (λ (v : List ℚ). Contains (map W gens) v) (erased_homogenised n lines form y one_ℚ (point_wide y k))
        (Contains-map W gens (homogenised y one_ℚ) (member_of (λ y. Contains gens (homogenised y one_ℚ)) points y s.point_listed k))));
    direction_listed = All-map (λ d. Contains (map W gens) (homogenised d zero_ℚ)) W directions (all_of_members (λ d. Contains (map W gens) (homogenised (W d) zero_ℚ)) directions
        (λ d k. subst (λ (v : List ℚ). Contains (map W gens) v) (erased_homogenised n lines form d zero_ℚ (direction_wide d k))
        (Contains-map W gens (homogenised d zero_ℚ) (member_of (λ d. Contains gens (homogenised d zero_ℚ)) directions d s.direction_listed k))));
    points_in = All-map Set' W points (all_of_members (λ y. Set' (W y)) points (λ y k. erased_in n lines form Set s.convex.wide y (point_in y k)));
    directions_in = All-map Directions' W directions (all_of_members (λ d. Directions' (W d)) directions (λ d k. erased_in n lines form Directions s.convex.directions_wide d (direction_in d k)));
    directions_normed = All-map IsNormedDirection W directions (all_of_members (λ d. IsNormedDirection (W d)) directions
        (λ d k. erased_normed n lines form d (direction_wide d k) (direction_in d k).reduced (member_of IsNormedDirection directions d s.directions_normed k)));
  }

  -- ---- tight sets
  pub lies_down : (a b : List ℚ) → TightLiesIn gens a b → TightLiesIn (map W gens) (W a) (W b)
  lies_down a b h = All-map (λ g. IsTight (W a) g → IsTight (W b) g) W gens (all_of_members (λ g. IsTight (W a) (W g) → IsTight (W b) (W g)) gens
      (λ g k t. generator_value g b k ∙ member_of (λ g. IsTight a g → IsTight b g) gens g h k (sym (generator_value g a k) ∙ t)))

  pub lies_up : (a b : List ℚ) → TightLiesIn (map W gens) (W a) (W b) → TightLiesIn gens a b
  lies_up a b h = all_of_members (λ g. IsTight a g → IsTight b g) gens
      (λ g k t. sym (generator_value g b k)
      ∙ member_of (λ g. IsTight (W a) (W g) → IsTight (W b) (W g)) gens g (all_from_map (λ g. IsTight (W a) g → IsTight (W b) g) W gens h) k (generator_value g a k ∙ t))

  row' : (e : Inequality) → Contains cuts e → W (row_of e) ≡ row_of (cut' e)
  row' e k = erased_row n lines form e (member_of (λ e. length e.normal ≡ n) cuts e normals_wide k)

  pub named' : (e : Inequality) → IsNamed n cuts gens e → IsNamed m (map cut' cuts) (map W gens) (cut' e)
  named' e h = record {
    cut = Contains-map cut' cuts e h.cut;
    touches = λ t. h.touches (lies_up (row_of e) (level n)
        (subst (λ (b : List ℚ). TightLiesIn (map W gens) (W (row_of e)) b) (sym (erased_level n lines form))
        (subst (λ (a : List ℚ). TightLiesIn (map W gens) a (level m)) (sym (row' e h.cut)) t)));
    largest = subst (λ (rows : List (List ℚ)). All (λ row. TightLiesIn (map W gens) (row_of (cut' e)) row → TightLiesIn (map W gens) row (row_of (cut' e))) rows)
        (erased_rows n lines form cuts normals_wide)
        (subst (λ (a : List ℚ). All (λ row. TightLiesIn (map W gens) a row → TightLiesIn (map W gens) row a) (map W (rows_of n cuts))) (row' e h.cut)
        (All-map (λ row. TightLiesIn (map W gens) (W (row_of e)) row → TightLiesIn (map W gens) row (W (row_of e))) W (rows_of n cuts)
        (all_of_members (λ row. TightLiesIn (map W gens) (W (row_of e)) (W row) → TightLiesIn (map W gens) (W row) (W (row_of e))) (rows_of n cuts)
        (λ row k t. lies_down row (row_of e)
        (member_of (λ row. TightLiesIn gens (row_of e) row → TightLiesIn gens row (row_of e)) (rows_of n cuts) row h.largest k (lies_up (row_of e) row t))))));
  }

  pub accounted' : (named : List Inequality) → All (IsNamed n cuts gens) named → (e : Inequality) → Contains cuts e → IsAccounted n named gens e →
      IsAccounted m (map cut' named) (map W gens) (cut' e)
  accounted' named names e k h = record { within = go h.within }
    where
      go : TightLiesIn gens (row_of e) (level n) ⊎ ((f : Inequality) × Contains named f × TightLiesIn gens (row_of e) (row_of f)) →
          TightLiesIn (map W gens) (row_of (cut' e)) (level m)
          ⊎ ((f : Inequality) × Contains (map cut' named) f × TightLiesIn (map W gens) (row_of (cut' e)) (row_of f))
      go (inl t) = inl (subst (λ (a : List ℚ). TightLiesIn (map W gens) a (level m)) (row' e k)
          (subst (λ (b : List ℚ). TightLiesIn (map W gens) (W (row_of e)) b) (erased_level n lines form) (lies_down (row_of e) (level n) t)))
      go (inr f) = inr (
        cut' f.0,
        Contains-map cut' named f.0 f.1,
        subst (λ (a : List ℚ). TightLiesIn (map W gens) a (row_of (cut' f.0))) (row' e k)
            (subst (λ (b : List ℚ). TightLiesIn (map W gens) (W (row_of e)) b) (row' f.0 (member_of (IsNamed n cuts gens) named f.0 names f.1).cut) (lies_down (row_of e) (row_of f.0) f.2)),
      )

-- the conditions hold without these entries, so what is exact then
module _ (n : ℕ) (Set Directions : List ℚ → Type 0) (c : List ℚ) (lines : List (List ℚ)) (cuts : List Inequality) (gens points directions : List (List ℚ))
    (named : List Inequality) (s : IsSolvedAlong n Set Directions c lines cuts gens points directions named) where
  abbrev bs : List Bool
  bs = marks n lines

  abbrev erased : (List ℚ → Type 0) → List ℚ → Type 0
  erased = IsErased n lines (echelon_of n lines s.enclosed.along.echelon)

  pub solved_erased : IsSolved (open_count bs) (erased Set) (erased Directions) (without bs (reduction n lines c)) (map (inequality_without bs) cuts) (map (without bs) gens)
      (map (without bs) points) (map (without bs) directions) (map (inequality_without bs) named)
  solved_erased = record {
    enclosed = enclosed' n Set Directions c lines cuts gens points directions s.enclosed;
    names = All-map (IsNamed (open_count bs) (map (inequality_without bs) cuts) (map (without bs) gens)) (inequality_without bs) named
        (all_of_members (λ e. IsNamed (open_count bs) (map (inequality_without bs) cuts) (map (without bs) gens) (inequality_without bs e)) named
        (λ e k. named' n Set Directions c lines cuts gens points directions s.enclosed e (member_of (IsNamed n cuts gens) named e s.names k)));
    accounted = All-map (IsAccounted (open_count bs) (map (inequality_without bs) named) (map (without bs) gens)) (inequality_without bs) cuts
        (all_of_members (λ e. IsAccounted (open_count bs) (map (inequality_without bs) named) (map (without bs) gens) (inequality_without bs e)) cuts
        (λ e k. accounted' n Set Directions c lines cuts gens points directions s.enclosed named s.names e k (member_of (IsAccounted n named gens) cuts e s.accounted k)));
  }

  pub exact_erased : IsExact (open_count bs) (erased Set) (erased Directions) (without bs (reduction n lines c)) (map (without bs) points) (map (without bs) directions)
      (map (inequality_without bs) named)
  exact_erased = exactness (erased Set) (erased Directions) (open_count bs) (without bs (reduction n lines c)) (map (inequality_without bs) cuts) (map (without bs) gens)
      (map (without bs) points) (map (without bs) directions) (map (inequality_without bs) named) solved_erased
