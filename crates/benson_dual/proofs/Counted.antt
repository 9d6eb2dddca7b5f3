-- Whether vectors are independent, by how many they are with those of their complement.
use Rattle.std.proofs.Common.{◌≡◌, ◌≢◌, ◌==◌, ℕ, ◌+◌, ◌<◌, ◌≤◌, List, [], ◌∷◌, ◌++◌, map, length, All, Bool, refl, sym, ap, ap₂, ◌∙◌, subst, arith, ◌⊎◌, inl, inr, true, false, true≢false, append-nil, append_assoc}
use Rattle.std.proofs.Math.Dec.{leb}
use Rattle.std.proofs.lemmas.Bool.Decides.{eqb_tells, leb_tells}
use Rattle.std.proofs.lemmas.List.{length-append, length-map}
use Rattle.std.proofs.lemmas.List.Elements.{All-map, All-push, Contains-append_left, Contains-append_right}
use Rattle.exact_field.specs.Rational.{ℚ, zero_ℚ}
use Rattle.exact_field.specs.Vector.{dot}
use Rattle.polyhedra.specs.Dependence.{AreDependent}
use Rattle.polyhedra.proofs.Dependence.{dependent_value, more_are_dependent, null_vector}
use Rattle.polyhedra.proofs.Lists.{HasWidth, all_from_map, Contains-here, all_front}
use Rattle.polyhedra.proofs.Members.{all_of_members, member_of}
use Rattle.lineality.specs.Lines.{IsCombined}
use Rattle.lineality.specs.Without.{marks, open_count, with_zeros, without}
use Rattle.lineality.proofs.Echelon.{IsEchelon, echelon_of}
use Rattle.lineality.proofs.Erased.{filled_wide}
use Rattle.lineality.proofs.Level.{IsLevel}
use Rattle.lineality.proofs.Masks.{dot-without}
use Rattle.lineality.proofs.OpenPlaces.{open_places}
use Rattle.lineality.proofs.Reduction.{level_combination}
use Rattle.lin_rows.specs.Complement.{AreComplement}
use Rattle.recession.specs.Further.{IsOffAcross}
use Rattle.recession.proofs.Free.{HasFree, has_free-more, has_free-none}
use Rattle.recession.proofs.Whole.{complement_by_rank, free_without, full_rank_without, many_together, rank_of_complement}
use Rattle.benson_dual.specs.Picking.{EachOffAcross, IsCount, IsWithin}

-- ---- lists. General
head_same : {X : Type 0} (x y : X) (xs ys : List X) → x ∷ xs ≡ y ∷ ys → x ≡ y
head_same x y xs ys e = cc

tail_same : {X : Type 0} (x y : X) (xs ys : List X) → x ∷ xs ≡ y ∷ ys → xs ≡ ys
tail_same x y xs ys e = cc

-- a member of a list with one more after it is one of the list, or the last
split_last : {X : Type 0} (before after vs : List X) (w last : X) → vs ++ last ∷ [] ≡ before ++ w ∷ after →
    ((rest : List X) × (vs ≡ before ++ w ∷ rest)) ⊎ ((before ≡ vs) × (w ≡ last))
split_last [] after [] w last e = inr (refl, sym (head_same last w [] after e))
split_last (b ∷ before) after [] w last e = absurd (let l = ap length e in let m = length-append before (w ∷ after) in omega (arith, l, m))
split_last [] after (v ∷ vs) w last e = inl (vs, ap (λ u. u ∷ vs) (head_same v w (vs ++ last ∷ []) after e))
split_last {X} (b ∷ before) after (v ∷ vs) w last e = go (split_last before after vs w last (tail_same v b (vs ++ last ∷ []) (before ++ w ∷ after) e))
  where
    same : v ≡ b
    same = head_same v b (vs ++ last ∷ []) (before ++ w ∷ after) e

    go : ((rest : List X) × (vs ≡ before ++ w ∷ rest)) ⊎ ((before ≡ vs) × (w ≡ last)) →
        ((rest : List X) × (v ∷ vs ≡ b ∷ (before ++ w ∷ rest))) ⊎ ((b ∷ before ≡ v ∷ vs) × (w ≡ last))
    go (inl (rest, k)) = inl (rest, ap₂ (λ (x : X) (xs : List X). x ∷ xs) same k)
    go (inr (k, l)) = inr (ap₂ (λ (x : X) (xs : List X). x ∷ xs) (sym same) k, l)

-- lists with one more after them
pub last_same : {X : Type 0} (xs ys : List X) (x y : X) → xs ++ x ∷ [] ≡ ys ++ y ∷ [] → (ys ≡ xs) × (y ≡ x)
last_same {X} xs ys x y e = go (split_last ys [] xs y x e)
  where
    go : ((rest : List X) × (xs ≡ ys ++ y ∷ rest)) ⊎ ((ys ≡ xs) × (y ≡ x)) → (ys ≡ xs) × (y ≡ x)
    go (inl (rest, k)) = absurd (
        let a = ap length e in
        let b = ap length k in
        omega (arith, a, b, length-append xs (x ∷ []), length-append ys (y ∷ []), length-append ys (y ∷ rest)))
    go (inr k) = k

-- ---- independent vectors
pub off_none : (q : ℕ) → EachOffAcross q []
off_none q before after w e = absurd (let l = ap length e in let m = length-append before (w ∷ after) in omega (arith, l, m))

pub off_more : (q : ℕ) (vs : List (List ℚ)) (w : List ℚ) → EachOffAcross q vs → IsOffAcross q vs w → EachOffAcross q (vs ++ w ∷ [])
off_more q vs w each off before after u e = go (split_last before after vs u w e)
  where
    go : ((rest : List (List ℚ)) × (vs ≡ before ++ u ∷ rest)) ⊎ ((before ≡ vs) × (u ≡ w)) → IsOffAcross q before u
    go (inl (rest, k)) = each before rest u k
    go (inr (k, l)) = subst (λ (ns : List (List ℚ)). IsOffAcross q ns u) (sym k) (subst (IsOffAcross q vs) (sym l) off)

free_from : (q : ℕ) (before after : List (List ℚ)) → All (HasWidth q) (before ++ after) → EachOffAcross q (before ++ after) → HasFree q before →
    HasFree q (before ++ after)
free_from q before [] wide each h = subst (HasFree q) (sym (append-nil before)) h
free_from q before (w ∷ after) wide each h =
    let same : (before ++ w ∷ []) ++ after ≡ before ++ w ∷ after = append_assoc before (w ∷ []) after in
    let long : length w ≡ q = member_of (HasWidth q) (before ++ w ∷ after) w wide (Contains-append_right before (w ∷ after) w (Contains-here w after w refl)) in
    subst (HasFree q) same
    (free_from q (before ++ w ∷ []) after (subst (All (HasWidth q)) (sym same) wide) (subst (EachOffAcross q) (sym same) each)
    (has_free-more q before w long h (each before after w refl)))

pub free_of : (q : ℕ) (vs : List (List ℚ)) → All (HasWidth q) vs → EachOffAcross q vs → HasFree q vs
free_of q vs wide each = free_from q [] vs wide each (has_free-none q)

-- they are no more than their entries
free_few : (n : ℕ) (vs : List (List ℚ)) → HasFree n vs → n < length vs → ⊥
free_few n vs h l =
    let d : AreDependent n h.rows = more_are_dependent n h.rows h.wide (let m = h.many in omega (arith, l, m)) in
    d.not_all_zero (h.are_free.free d.multipliers d.one_each (dependent_value n h.rows d))

enough_of : (q a b : ℕ) → b ≡ a + 1 → (b < q → ⊥) → (b ≡ q → ⊥) → q ≤ a
enough_of q a b more not_less other = go (leb_tells q a) (leb_tells q b)
  where
    go : ((leb q a ≡ true) × (q ≤ a)) ⊎ ((leb q a ≡ false) × (a < q)) → ((leb q b ≡ true) × (q ≤ b)) ⊎ ((leb q b ≡ false) × (b < q)) → q ≤ a
    go (inl (l, enough)) t = enough
    go (inr (l, few)) (inl (m, at_least)) = absurd (other (omega (arith, few, at_least, more)))
    go (inr (l, few)) (inr (m, less)) = absurd (not_less less)

-- ---- one vector after others
module _ (q : ℕ) (vs : List (List ℚ)) (w : List ℚ) (complement : List (List ℚ)) (h : AreComplement q (vs ++ w ∷ []) complement) where
  abbrev bs : List Bool
  bs = marks q complement

  places : open_count bs + length complement ≡ q
  places = open_places q complement h.echelon

  one_more : length (vs ++ w ∷ []) ≡ length vs + 1
  one_more = length-append vs (w ∷ [])

  -- where with the complement of all they are as many as entries, it is not 0 at some vector across the others
  pub off_by_count : length (vs ++ w ∷ []) + length complement ≡ q → IsOffAcross q vs w
  off_by_count many =
      let form : IsEchelon q complement = echelon_of q complement h.echelon in
      let z = null_vector (open_count bs) (map (without bs) vs) (let o = places in let m = one_more in omega (arith, many, o, m, length-map vs (without bs))) in
      let d : List ℚ = with_zeros bs z.0 in
      let flat : All (λ v. dot (without bs v) z.0 ≡ zero_ℚ) vs = all_from_map (λ v. dot v z.0 ≡ zero_ℚ) (without bs) vs z.1.tight in
      record {
        d = d;
        wide = filled_wide q complement form z.0 z.1.wide;
        across = all_of_members (λ v. dot v d ≡ zero_ℚ) vs (λ v c. sym (dot-without bs v z.0) ∙ member_of (λ v. dot (without bs v) z.0 ≡ zero_ℚ) vs v flat c);
        off = λ e. z.1.other (rank_of_complement q (vs ++ w ∷ []) complement h z.0 z.1.wide
            (All-map (λ v. dot v z.0 ≡ zero_ℚ) (without bs) (vs ++ w ∷ [])
            (All-push (λ v. dot (without bs v) z.0 ≡ zero_ℚ) vs w flat (dot-without bs w z.0 ∙ e))));
      }

  at_front : All (IsLevel complement) vs
  at_front = all_of_members (IsLevel complement) vs (λ v c. all_of_members (λ d. dot v d ≡ zero_ℚ) complement
      (λ d k. member_of (λ v. dot v d ≡ zero_ℚ) (vs ++ w ∷ []) v
      (member_of (λ d. All (λ v. dot v d ≡ zero_ℚ) (vs ++ w ∷ [])) complement d h.orthogonal k) (Contains-append_left vs (w ∷ []) v c)))

  at_last : All (λ d. dot w d ≡ zero_ℚ) complement
  at_last = all_of_members (λ d. dot w d ≡ zero_ℚ) complement
      (λ d k. member_of (λ v. dot v d ≡ zero_ℚ) (vs ++ w ∷ []) w
      (member_of (λ d. All (λ v. dot v d ≡ zero_ℚ) (vs ++ w ∷ [])) complement d h.orthogonal k)
      (Contains-append_right vs (w ∷ []) w (Contains-here w [] w refl)))

  across_front : All (λ d. All (λ v. dot v d ≡ zero_ℚ) vs) complement
  across_front = all_of_members (λ d. All (λ v. dot v d ≡ zero_ℚ) vs) complement
      (λ d k. all_front (λ v. dot v d ≡ zero_ℚ) vs (w ∷ []) (member_of (λ d. All (λ v. dot v d ≡ zero_ℚ) (vs ++ w ∷ [])) complement d h.orthogonal k))

  -- and where they are not, and the others are independent, it is 0 at each such vector
  module _ (free : HasFree q vs) (other : length (vs ++ w ∷ []) + length complement ≡ q → ⊥) where
    enough : q ≤ length vs + length complement
    enough = enough_of q (length vs + length complement) (length (vs ++ w ∷ []) + length complement) (let o = one_more in omega (arith, o))
        (many_together q (vs ++ w ∷ []) complement h) other

    not_more : length vs + length complement ≤ q
    not_more = go (leb_tells (length vs) (open_count bs))
      where
        go : ((leb (length vs) (open_count bs) ≡ true) × (length vs ≤ open_count bs)) ⊎ ((leb (length vs) (open_count bs) ≡ false) × (open_count bs < length vs)) →
            length vs + length complement ≤ q
        go (inl (l, m)) = let o = places in omega (arith, m, o)
        go (inr (l, m)) = absurd (free_few (open_count bs) (map (without bs) vs) (free_without q complement h.echelon vs at_front free)
            (omega (arith, m, length-map vs (without bs))))

    pub within_by_count : IsWithin q vs w
    within_by_count y wide across =
        let many : length vs + length complement ≡ q = let a = enough in let b = not_more in omega (arith, a, b) in
        let rank = full_rank_without q complement h.echelon vs at_front free many in
        let whole : AreComplement q vs complement = complement_by_rank q complement h.echelon vs at_front rank across_front in
        let m : IsCombined q complement y = whole.spans y wide across in
        ap (dot w) m.combined ∙ level_combination q complement m.multipliers w at_last

-- ---- what the answer tells
pub off_if_counted : (q : ℕ) (vs : List (List ℚ)) (w : List ℚ) (told : Bool) → IsCount q (vs ++ w ∷ []) told → told ≡ true → IsOffAcross q vs w
off_if_counted q vs w told h is = go (eqb_tells (length (vs ++ w ∷ []) + length h.complement) q)
  where
    go : (((length (vs ++ w ∷ []) + length h.complement == q) ≡ true) × (length (vs ++ w ∷ []) + length h.complement ≡ q))
        ⊎ (((length (vs ++ w ∷ []) + length h.complement == q) ≡ false) × (length (vs ++ w ∷ []) + length h.complement ≢ q)) → IsOffAcross q vs w
    go (inl (t, many)) = off_by_count q vs w h.complement h.is many
    go (inr (t, other)) = absurd (true≢false (sym is ∙ h.tells ∙ t))

pub within_if_counted : (q : ℕ) (vs : List (List ℚ)) (w : List ℚ) (told : Bool) → HasFree q vs → IsCount q (vs ++ w ∷ []) told → told ≡ false → IsWithin q vs w
within_if_counted q vs w told free h is = go (eqb_tells (length (vs ++ w ∷ []) + length h.complement) q)
  where
    go : (((length (vs ++ w ∷ []) + length h.complement == q) ≡ true) × (length (vs ++ w ∷ []) + length h.complement ≡ q))
        ⊎ (((length (vs ++ w ∷ []) + length h.complement == q) ≡ false) × (length (vs ++ w ∷ []) + length h.complement ≢ q)) → IsWithin q vs w
    go (inl (t, many)) = absurd (true≢false (sym t ∙ sym h.tells ∙ is))
    go (inr (t, other)) = within_by_count q vs w h.complement h.is free other
