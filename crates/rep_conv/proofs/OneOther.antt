-- What a conversion gives depends on the set alone.
use Rattle.std.proofs.Common.{◌≡◌, ℕ, suc, ◌==◌, not, Bool, true, false, true≢false, if◌then◌else◌, List, [], ◌∷◌, ◌++◌, map, length, take, filter, All, Contains, refl, sym, ap, ap₂, ◌∙◌, subst, ◌⊎◌, inl, inr}
use Rattle.std.specs.List.{list_all}
use Rattle.std.proofs.lemmas.List.Elements.{All-cons, All-tail}
use Rattle.exact_field.specs.Rational.{ℚ, zero_ℚ, one_ℚ, ◌+ℚ◌, ◌*ℚ◌, neg_ℚ, inverse_ℚ, ◌≤ℚ◌, ◌<ℚ◌}
use Rattle.exact_field.specs.Order.{same_ℚ}
use Rattle.exact_field.specs.Vector.{dot, entry}
use Rattle.exact_field.specs.Ring.{v0, v1, v2, ◌⊕◌, ◌⊗◌, ◌⊝◌, ⊖, num}
use Rattle.exact_field.proofs.RingTool.{ring}
use Rattle.exact_field.proofs.Rationals.{rationals, difference_self}
use Rattle.std.proofs.Common.{pos}
use Rattle.polyhedra.specs.Vectors.{zeros, plus, scaled, values, combination}
use Rattle.polyhedra.specs.TightSets.{IsTight, IsDoubleDescriptionPair}
use Rattle.polyhedra.specs.DoubleDescription.{is_zero}
use Rattle.polyhedra.specs.Cone.{IsInCone}
use Rattle.polyhedra.specs.Image.{IsConvexCone}
use Rattle.polyhedra.specs.Hull.{IsInHull}
use Rattle.lineality.specs.Lines.{IsInLineality, IsCombined, AreLines}
use Rattle.lineality.proofs.Lineality.{length-negated, one_list_of_lines}
use Rattle.std.proofs.lemmas.List.{length-map}
use Rattle.polyhedra.specs.Exactness.{homogenised, level, SameMembers}
use Rattle.polyhedra.specs.LiveList.{vectors}
use Rattle.polyhedra.specs.Negatives.{negated}
use Rattle.polyhedra.proofs.Laws.{add_zero, le_refl, le_of_lt, mul_comm, mul_one, mul_nonneg, zero_lt_one}
use Rattle.polyhedra.proofs.Algebra.{zero_add, mul_zero, zero_mul, one_mul, neg_neg, neg_zero}
use Rattle.polyhedra.proofs.Order.{le_of_eq, le_or_lt, add_nonneg, add_zero_left, zero_or_positive, not_zero_of_positive, not_lt_of_le, neg_positive, inverse_positive, mul_inverse_cancel, negative_of_neg}
use Rattle.polyhedra.proofs.Linear.{dot_comm, dot-plus, dot-scaled, dot-zeros, dot-combination, length-plus, length-scaled, length-zeros, length-combination, same_wide}
use Rattle.polyhedra.proofs.Lists.{HoldsAt, HasWidth, Contains-here}
use Rattle.polyhedra.proofs.Members.{all_of_members, member_of, Contains-map, Contains-map_source, Contains-filter, Contains-filter_source}
use Rattle.polyhedra.proofs.LeastQuotient.{less, less_value, less_back, less_width}
use Rattle.polyhedra.proofs.Homogenised.{IsHomogenised, unhomogenised, length-homogenised, level_value, plus-homogenised, scaled-homogenised}
use Rattle.polyhedra.proofs.Negatives.{dot-negated_left}
use Rattle.representations.specs.Lined.{pinned, places_of, HoldsFor, EqualFor, AreLined}
use Rattle.representations.proofs.LinedCones.{slopes_read, readers_many, hull_meets, gen_holds}
use Rattle.representations.proofs.Needed.{one_list_of_generators}
use Rattle.representations.proofs.Pinned.{tight_negated, values_none, both_ways, pinned_cases}
use Rattle.log_rules.specs.Proves.{IsSorting}
use Rattle.log_rules.proofs.Rising.{sorted_same}
use Rattle.rep_text.specs.Fits.{row_fits, kind_fits, row_length}
use Rattle.rep_conv.specs.Sets.{MeetsAllRows, IsInSet, IsMember, vectors_of}
use Rattle.rep_conv.specs.Rows.{rows_of_kind, rows_from, rows_under, text_rows}
use Rattle.rep_conv.specs.Live.{state, rows_in_use}
use Rattle.rep_conv.specs.Rows.{has_rows}
use Rattle.rep_conv.specs.Converted.{at_height, with_normal, GivesGenerators, GivesInequalities, GivesRows, Gives, nothing_meets, Converts, as_rows}
use Rattle.rep_text.specs.declared.rep.Rep.{Rep}
use Rattle.rep_text.specs.declared.rep.RepKind.{RepKind}
use Rattle.rep_text.specs.declared.rep.RepKind.TheVariants.{Side, Equal, Line, Point, Direction}
use Rattle.rep_text.specs.declared.rep.RepRow.{RepRow}
use Rattle.rep_text.specs.declared.conv.ConvEntry.{ConvEntry}
use Rattle.rep_conv.specs.Laws.{readers, OneOther}
use Rattle.rep_conv.proofs.Ends.{flat_source, negated_homogenised}
use Rattle.rep_conv.proofs.SameSets.{Same, three, fits_at, rows_meet, meets_all, sides_same, hull_met, same_rows, points_wide, directions_wide, lines_wide, without_point, height_source, no_points, inv, started, in_text, in_use, lined, gens_fit, pointed, pointed_text, point_in, some_rows, two_cases, one_case}

-- ---- numbers
far_nonneg : (a b : ℚ) → ((q : ℚ) → zero_ℚ ≤ℚ q → zero_ℚ ≤ℚ a +ℚ q *ℚ b) → zero_ℚ ≤ℚ b
far_nonneg a b h = go (le_or_lt zero_ℚ b)
  where
    go : (zero_ℚ ≤ℚ b) ⊎ (b <ℚ zero_ℚ) → zero_ℚ ≤ℚ b
    go (inl m) = m
    go (inr m) =
        let c : ℚ = neg_ℚ b in
        let c_positive : zero_ℚ <ℚ c = neg_positive b m in
        let a_nonneg : zero_ℚ ≤ℚ a = subst (λ (x : ℚ). zero_ℚ ≤ℚ x) (ap (λ x. a +ℚ x) (zero_mul b) ∙ add_zero a) (h zero_ℚ (le_refl zero_ℚ)) in
        let q : ℚ = inverse_ℚ c *ℚ (a +ℚ one_ℚ) in
        let q_nonneg : zero_ℚ ≤ℚ q = mul_nonneg (inverse_ℚ c) (a +ℚ one_ℚ) (le_of_lt zero_ℚ (inverse_ℚ c) (inverse_positive c c_positive))
        (add_nonneg a one_ℚ a_nonneg (le_of_lt zero_ℚ one_ℚ zero_lt_one)) in
        let value : a +ℚ q *ℚ b ≡ neg_ℚ one_ℚ =
        ring rationals (a ∷ q ∷ b ∷ []) (v0 ⊕ v1 ⊗ v2) (v0 ⊝ v1 ⊗ ⊖ v2) refl
        ∙ ap (λ y. a +ℚ neg_ℚ y) (mul_comm q c ∙ mul_inverse_cancel c (a +ℚ one_ℚ) c_positive)
        ∙ ring rationals (a ∷ []) (v0 ⊝ (v0 ⊕ num (pos 1))) (⊖ (num (pos 1))) refl in
        absurd (not_lt_of_le zero_ℚ (neg_ℚ one_ℚ) (subst (λ (x : ℚ). zero_ℚ ≤ℚ x) value (h q q_nonneg))
        (negative_of_neg (neg_ℚ one_ℚ) (subst (λ (y : ℚ). zero_ℚ <ℚ y) (sym (neg_neg one_ℚ)) zero_lt_one)))

more_than_one : (c : ℚ) → zero_ℚ ≤ℚ c → zero_ℚ <ℚ one_ℚ +ℚ c
more_than_one c k = go (zero_or_positive (one_ℚ +ℚ c) (add_nonneg one_ℚ c (le_of_lt zero_ℚ one_ℚ zero_lt_one) k))
  where
    go : (one_ℚ +ℚ c ≡ zero_ℚ) ⊎ (zero_ℚ <ℚ one_ℚ +ℚ c) → zero_ℚ <ℚ one_ℚ +ℚ c
    go (inl e) = absurd (not_zero_of_positive one_ℚ zero_lt_one (add_zero_left one_ℚ c (le_of_lt zero_ℚ one_ℚ zero_lt_one) k e))
    go (inr m) = m

-- ---- what the lines span
convex : (n : ℕ) (rows : List (List ℚ)) → IsConvexCone n (IsInCone n rows)
convex n rows = record {
  wide = λ d h. h.wide;
  zero = record { wide = length-zeros n; within = all_of_members (HoldsAt (zeros n)) rows (λ r c. le_of_eq zero_ℚ (dot r (zeros n)) (sym (dot-zeros r n))) };
  sum = λ a b h k. record {
    wide = length-plus n a b h.wide k.wide;
    within = all_of_members (HoldsAt (plus a b)) rows (λ r c. subst (λ (x : ℚ). zero_ℚ ≤ℚ x) (sym (dot-plus r a b))
        (add_nonneg (dot r a) (dot r b) (member_of (HoldsAt a) rows r h.within c) (member_of (HoldsAt b) rows r k.within c)));
  };
  multiple = λ s d p h. record {
    wide = length-scaled s d ∙ h.wide;
    within = all_of_members (HoldsAt (scaled s d)) rows (λ r c. subst (λ (x : ℚ). zero_ℚ ≤ℚ x) (sym (dot-scaled r s d))
        (mul_nonneg s (dot r d) p (member_of (HoldsAt d) rows r h.within c)));
  };
}

spanned : (rep : Rep) (entries : List ConvEntry) (done : Converts rep entries) → has_rows rep ≡ true → (v : List ℚ) → length v ≡ suc rep.width →
    All (λ r. IsTight r v) (text_rows rep) → IsCombined (suc rep.width) (state rep entries).lines v
spanned rep entries done rows v width tight =
    let n : ℕ = suc rep.width in
    let ls : List (List ℚ) = (state rep entries).lines in
    let rs : List (List ℚ) = readers rep (state rep entries) in
    let known : AreLined (suc rep.width) (readers rep (state rep entries)) (rows_in_use rep (state rep entries)) (vectors (state rep entries).list.live) ls = lined rep entries done rows in
    let ms : List ℚ = values rs v in
    let along : List ℚ = combination n ms ls in
    let along_width : length along ≡ n = length-combination n ms ls known.lines_wide in
    let rest : List ℚ = less v one_ℚ along in
    let rest_width : length rest ≡ n = less_width n v along one_ℚ width along_width in
    let at_row : (s : List ℚ) → Contains (rows_in_use rep (state rep entries)) s → dot s rest ≡ zero_ℚ = λ s k.
    less_value v along s one_ℚ
    ∙ ap₂ (λ a b. a +ℚ neg_ℚ b) (member_of (λ t. IsTight t v) (text_rows rep) s tight (in_text rep entries done rows s k))
    (one_mul (dot s along) ∙ dot-combination n s ms ls ∙ values_none ms ls s (all_of_members (λ l. dot l s ≡ zero_ℚ) ls (λ l m.
    dot_comm l s ∙ member_of (λ t. IsTight t l) (rows_in_use rep (state rep entries)) s (member_of (λ u. All (λ t. IsTight t u) (rows_in_use rep (state rep entries))) ls l known.at_lines m) k)))
    ∙ difference_self zero_ℚ in
    let at_reader : (s : List ℚ) → Contains rs s → dot s rest ≡ zero_ℚ = λ s k.
    less_value v along s one_ℚ ∙ ap (λ x. dot s v +ℚ neg_ℚ x) (one_mul (dot s along) ∙ dot-combination n s ms ls
    ∙ member_of (λ t. dot (values rs v) (values ls t) ≡ dot t v) rs s (slopes_read v rs ls known.reads) k) ∙ difference_self (dot s v) in
    let none : rest ≡ zeros n = known.described.pointed rest rest_width (all_of_members (λ s. dot s rest ≡ zero_ℚ) (pinned rs (rows_in_use rep (state rep entries))) (λ s k.
    elim (pinned_cases rs (rows_in_use rep (state rep entries)) s k) [
      | inl m ↦ at_reader s m
      | inr q ↦ elim q [
        | inl t ↦ ap (λ u. dot u rest) (sym t.2) ∙ tight_negated t.0 rest (at_reader t.0 t.1)
        | inr m ↦ at_row s m
      ]
    ])) in
    record {
      multipliers = ms;
      one_each = length-map rs (λ r. dot r v) ∙ readers_many rs ls known.reads;
      combined = same_wide n v along width along_width (λ r.
          less_back v along r one_ℚ ∙ ap₂ (λ a b. a +ℚ b) (ap (dot r) none ∙ dot-zeros r n) (one_mul (dot r along)) ∙ zero_add (dot r along));
    }

-- where a vector and its negative are in the cone, all rows are tight
tight_both : (rows : List (List ℚ)) (v : List ℚ) → All (HoldsAt v) rows → All (HoldsAt (negated v)) rows → All (λ r. IsTight r v) rows
tight_both rows v h k = all_of_members (λ r. IsTight r v) rows (λ r c. both_ways (dot r v) (member_of (HoldsAt v) rows r h c)
    (subst (λ (x : ℚ). zero_ℚ ≤ℚ x) (dot_comm r (negated v) ∙ dot-negated_left v r ∙ ap neg_ℚ (dot_comm v r)) (member_of (HoldsAt (negated v)) rows r k c)))

hold_both : (rows : List (List ℚ)) (v : List ℚ) → All (λ r. IsTight r v) rows → All (HoldsAt v) rows × All (HoldsAt (negated v)) rows
hold_both rows v h = (
  all_of_members (HoldsAt v) rows (λ r c. le_of_eq zero_ℚ (dot r v) (sym (member_of (λ s. IsTight s v) rows r h c))),
  all_of_members (HoldsAt (negated v)) rows (λ r c. le_of_eq zero_ℚ (dot r (negated v)) (sym (dot_comm r (negated v) ∙ dot-negated_left v r ∙ ap neg_ℚ (dot_comm v r ∙ member_of (λ s. IsTight s v) rows r h c)
      ∙ neg_zero))),
)

-- so the lines of a conversion are those of the cone of its rows
lines_are : (rep : Rep) (entries : List ConvEntry) (done : Converts rep entries) → has_rows rep ≡ true →
    AreLines (suc rep.width) (IsInCone (suc rep.width) (text_rows rep)) (state rep entries).lines
lines_are rep entries done rows = record {
  along = record {
    echelon = (inv rep entries done).lines.echelon;
    each = all_of_members (IsInLineality (IsInCone (suc rep.width) (text_rows rep))) (state rep entries).lines (λ l c.
        let width : length l ≡ suc rep.width = member_of (HasWidth (suc rep.width)) (state rep entries).lines l (inv rep entries done).lines.echelon.wide.wide c in
        let b = hold_both (text_rows rep) l (member_of (λ v. All (λ r. IsTight r v) (text_rows rep)) (state rep entries).lines l (inv rep entries done).lines.corner c) in
        record { forth = record { wide = width; within = b.0 }; back = record { wide = length-negated l ∙ width; within = b.1 } });
  };
  spans = λ d h. spanned rep entries done rows d h.forth.wide (tight_both (text_rows rep) d h.forth.within h.back.within);
}

-- lines of one cone are lines of another with the same members
lines_through : (n : ℕ) (C D : List ℚ → Type 0) (ls : List (List ℚ)) → ((v : List ℚ) → C v → D v) → ((v : List ℚ) → D v → C v) → AreLines n C ls → AreLines n D ls
lines_through n C D ls to from h = record {
  along = record {
    echelon = h.along.echelon;
    each = all_of_members (IsInLineality D) ls (λ l c.
        let i = member_of (IsInLineality C) ls l h.along.each c in
        record { forth = to l i.forth; back = to (negated l) i.back });
  };
  spans = λ d i. h.spans d (record { forth = from d i.forth; back = from (negated d) i.back });
}

-- ---- one cone, one list of lines and one of generators
module _ (rep rep' : Rep) (entries entries' : List ConvEntry) (done : Converts rep entries) (done' : Converts rep' entries') (wide : rep.width ≡ rep'.width)
    (rows : has_rows rep ≡ true) (rows' : has_rows rep' ≡ true)
    (onto : (v : List ℚ) → length v ≡ suc rep.width → All (HoldsAt v) (text_rows rep) → All (HoldsAt v) (text_rows rep'))
    (back : (v : List ℚ) → length v ≡ suc rep.width → All (HoldsAt v) (text_rows rep') → All (HoldsAt v) (text_rows rep)) where
  pub same_lines : (state rep entries).lines ≡ (state rep' entries').lines
  same_lines = one_list_of_lines (IsInCone (suc rep.width) (text_rows rep)) (suc rep.width) (state rep entries).lines (state rep' entries').lines
      (convex (suc rep.width) (text_rows rep)) (lines_are rep entries done rows)
      (lines_through (suc rep.width) (IsInCone (suc rep.width) (text_rows rep')) (IsInCone (suc rep.width) (text_rows rep)) (state rep' entries').lines
      (λ v h. record { wide = h.wide; within = back v h.wide h.within }) (λ v h. record { wide = h.wide; within = onto v h.wide h.within })
      (subst (λ (k : ℕ). AreLines (suc k) (IsInCone (suc k) (text_rows rep')) (state rep' entries').lines) (sym wide) (lines_are rep' entries' done' rows')))

  pub same_gens : SameMembers (vectors (state rep entries).list.live) (vectors (state rep' entries').list.live)
  same_gens = one_list_of_generators (suc rep.width) (readers rep (state rep entries)) (rows_in_use rep (state rep entries)) (rows_in_use rep' (state rep' entries'))
      (vectors (state rep entries).list.live) (vectors (state rep' entries').list.live) (started rep entries done rows).live.described
      (subst (λ (ls : List (List ℚ)). IsDoubleDescriptionPair (suc rep.width) (pinned (places_of (suc rep.width) ls) (rows_in_use rep' (state rep' entries'))) (vectors (state rep' entries').list.live)) (sym same_lines)
      (subst (λ (k : ℕ). IsDoubleDescriptionPair (suc k) (pinned (places_of (suc k) (state rep' entries').lines) (rows_in_use rep' (state rep' entries'))) (vectors (state rep' entries').list.live)) (sym wide)
      (started rep' entries' done' rows').live.described))
      (started rep entries done rows).live.normed (started rep' entries' done' rows').live.normed
      (λ z width. (
        λ h. all_of_members (HoldsAt z) (rows_in_use rep' (state rep' entries')) (λ r c. member_of (HoldsAt z) (text_rows rep') r
            (onto z width (all_of_members (HoldsAt z) (text_rows rep) (λ s k. member_of (HoldsAt z) (rows_in_use rep (state rep entries)) s h (in_use rep entries done s k))))
            (in_text rep' entries' done' rows' r c)),
        λ h. all_of_members (HoldsAt z) (rows_in_use rep (state rep entries)) (λ r c. member_of (HoldsAt z) (text_rows rep) r
            (back z width (all_of_members (HoldsAt z) (text_rows rep') (λ s k. member_of (HoldsAt z) (rows_in_use rep' (state rep' entries')) s h (in_use rep' entries' done' s k))))
            (in_text rep entries done rows r c)),
      ))

-- lists from lists with the same members
height_same : (w : ℕ) (t : ℚ) (gs gs' : List (List ℚ)) → SameMembers gs gs' →
    SameMembers (map (take w) (filter (λ g. same_ℚ (entry g (suc w)) t) gs)) (map (take w) (filter (λ g. same_ℚ (entry g (suc w)) t) gs'))
height_same w t gs gs' s y = (go gs gs' (λ g. (s g).0), go gs' gs (λ g. (s g).1))
  where
    go : (as_ bs : List (List ℚ)) → ((g : List ℚ) → Contains as_ g → Contains bs g) →
        Contains (map (take w) (filter (λ g. same_ℚ (entry g (suc w)) t) as_)) y → Contains (map (take w) (filter (λ g. same_ℚ (entry g (suc w)) t) bs)) y
    go as_ bs h c =
        let m : (g : List ℚ) × Contains (filter (λ g. same_ℚ (entry g (suc w)) t) as_) g × (take w g ≡ y) = Contains-map_source (take w) (filter (λ g. same_ℚ (entry g (suc w)) t) as_) y c in
        let f = Contains-filter_source (λ g. same_ℚ (entry g (suc w)) t) as_ m.0 m.1 in
        subst (λ (u : List ℚ). Contains (map (take w) (filter (λ g. same_ℚ (entry g (suc w)) t) bs)) u) m.2
        (Contains-map (take w) (filter (λ g. same_ℚ (entry g (suc w)) t) bs) m.0 (Contains-filter (λ g. same_ℚ (entry g (suc w)) t) bs m.0 (h m.0 f.0) f.1))

normal_same : (w : ℕ) (gs gs' : List (List ℚ)) → SameMembers gs gs' →
    SameMembers (filter (λ g. not (list_all is_zero (take w g))) gs) (filter (λ g. not (list_all is_zero (take w g))) gs')
normal_same w gs gs' s y = (go gs gs' (λ g. (s g).0), go gs' gs (λ g. (s g).1))
  where
    go : (as_ bs : List (List ℚ)) → ((g : List ℚ) → Contains as_ g → Contains bs g) →
        Contains (filter (λ g. not (list_all is_zero (take w g))) as_) y → Contains (filter (λ g. not (list_all is_zero (take w g))) bs) y
    go as_ bs h c =
        let f = Contains-filter_source (λ g. not (list_all is_zero (take w g))) as_ y c in
        Contains-filter (λ g. not (list_all is_zero (take w g))) bs y (h y f.0) f.1

sorted_alike : (found found' listed listed' : List (List ℚ)) → SameMembers found found' → IsSorting (λ (v : List ℚ). v) found listed → IsSorting (λ (v : List ℚ). v) found' listed' →
    listed ≡ listed'
sorted_alike found found' listed listed' m a b = sorted_same (λ (v : List ℚ). v) found listed listed' a
    (record { same = λ x. (λ c. (b.same x).0 ((m x).0 c), λ c. (m x).1 ((b.same x).1 c)); rise = b.rise })

-- ---- texts of inequalities
meets_text : (rep : Rep) → rep.gens ≡ false → (z : List ℚ) → length z ≡ rep.width → Same (MeetsAllRows rep z) (All (HoldsAt (homogenised z one_ℚ)) (text_rows rep))
meets_text rep is_sides z width = (
  λ m. subst (λ (rows : List (List ℚ)). All (HoldsAt (homogenised z one_ℚ)) rows) (sym text_is)
      (All-cons (HoldsAt (homogenised z one_ℚ)) (level rep.width) (rows_from rep)
      (subst (λ (x : ℚ). zero_ℚ ≤ℚ x) (sym (level_value rep.width z one_ℚ width)) (le_of_lt zero_ℚ one_ℚ zero_lt_one)) ((rows_meet rep.width rep.rows z fits width).0 m.meets)),
  λ h. record {
    wide = width;
    meets = (rows_meet rep.width rep.rows z fits width).1 (All-tail (HoldsAt (homogenised z one_ℚ)) (level rep.width) (rows_from rep)
        (subst (λ (rows : List (List ℚ)). All (HoldsAt (homogenised z one_ℚ)) rows) text_is h));
  },
)
  where
    text_is : text_rows rep ≡ level rep.width ∷ rows_from rep
    text_is = ap (λ b. rows_under b rep) is_sides

    fits : list_all (row_fits false rep.width) rep.rows ≡ true
    fits = subst (λ (b : Bool). list_all (row_fits b rep.width) rep.rows ≡ true) is_sides rep.fitting

level_listed : (rep : Rep) → rep.gens ≡ false → Contains (text_rows rep) (level rep.width)
level_listed rep is_sides = subst (λ (rows : List (List ℚ)). Contains rows (level rep.width)) (sym (ap (λ b. rows_under b rep) is_sides)) (Contains-here (level rep.width) (rows_from rep) (level rep.width) refl)

record IsRaised (n : ℕ) (v : List ℚ) : Type 0 where
  z : List ℚ
  width : length z ≡ n
  same : v ≡ homogenised z one_ℚ

raised : (n : ℕ) (v : List ℚ) → length v ≡ suc n → dot (level n) v ≡ one_ℚ → IsRaised n v
raised n v h e = go (unhomogenised n v h)
  where
    go : IsHomogenised n v → IsRaised n v
    go u = record { z = u.front; width = u.wide; same = u.same ∙ ap (λ t. homogenised u.front t) (sym (level_value n u.front u.last u.wide) ∙ ap (dot (level n)) (sym u.same) ∙ e) }

-- one set that is not empty has one cone
sides_cone : (rep rep' : Rep) → rep.gens ≡ false → rep'.gens ≡ false → ((z : List ℚ) → MeetsAllRows rep z → MeetsAllRows rep' z) →
    (p : List ℚ) → MeetsAllRows rep p → (v : List ℚ) → length v ≡ suc rep.width → All (HoldsAt v) (text_rows rep) → All (HoldsAt v) (text_rows rep')
sides_cone rep rep' e e' alike p p_in v width h = all_of_members (HoldsAt v) (text_rows rep') (λ r c. far_nonneg (dot r (homogenised p one_ℚ)) (dot r v) (λ q q_nonneg. at r c q q_nonneg))
  where
    at : (r : List ℚ) → Contains (text_rows rep') r → (q : ℚ) → zero_ℚ ≤ℚ q → zero_ℚ ≤ℚ dot r (homogenised p one_ℚ) +ℚ q *ℚ dot r v
    at r c q q_nonneg =
        let w : ℕ = rep.width in
        let high : List ℚ = homogenised p one_ℚ in
        let far : List ℚ = plus high (scaled q v) in
        let far_value : (s : List ℚ) → dot s far ≡ dot s high +ℚ q *ℚ dot s v = λ s. dot-plus s high (scaled q v) ∙ ap (λ y. dot s high +ℚ y) (dot-scaled s q v) in
        let far_width : length far ≡ suc w = length-plus (suc w) high (scaled q v) (length-homogenised w p one_ℚ p_in.wide) (length-scaled q v ∙ width) in
        let height : ℚ = dot (level w) far in
        let height_is : height ≡ one_ℚ +ℚ q *ℚ dot (level w) v = far_value (level w) ∙ ap (λ y. y +ℚ q *ℚ dot (level w) v) (level_value w p one_ℚ p_in.wide) in
        let height_positive : zero_ℚ <ℚ height = subst (λ (y : ℚ). zero_ℚ <ℚ y) (sym height_is)
        (more_than_one (q *ℚ dot (level w) v) (mul_nonneg q (dot (level w) v) q_nonneg (member_of (HoldsAt v) (text_rows rep) (level w) h (level_listed rep e)))) in
        let shrink : ℚ = inverse_ℚ height in
        let shrink_nonneg : zero_ℚ ≤ℚ shrink = le_of_lt zero_ℚ shrink (inverse_positive height height_positive) in
        let near : List ℚ = scaled shrink far in
        let near_height : dot (level w) near ≡ one_ℚ = dot-scaled (level w) shrink far ∙ mul_comm shrink height ∙ sym (ap (λ y. height *ℚ y) (mul_one shrink)) ∙ mul_inverse_cancel height one_ℚ height_positive in
        let up : IsRaised w near = raised w near (length-scaled shrink far ∙ far_width) near_height in
        let member : MeetsAllRows rep up.z = (meets_text rep e up.z up.width).1
        (all_of_members (HoldsAt (homogenised up.z one_ℚ)) (text_rows rep) (λ s k. subst (λ (u : List ℚ). zero_ℚ ≤ℚ dot s u) up.same
        (subst (λ (y : ℚ). zero_ℚ ≤ℚ y) (sym (dot-scaled s shrink far)) (mul_nonneg shrink (dot s far) shrink_nonneg (subst (λ (y : ℚ). zero_ℚ ≤ℚ y) (sym (far_value s))
        (add_nonneg (dot s high) (q *ℚ dot s v) (member_of (HoldsAt high) (text_rows rep) s ((meets_text rep e p p_in.wide).0 p_in) k)
        (mul_nonneg q (dot s v) q_nonneg (member_of (HoldsAt v) (text_rows rep) s h k)))))))) in
        let there : MeetsAllRows rep' up.z = alike up.z member in
        let held : zero_ℚ ≤ℚ dot r near = subst (λ (u : List ℚ). zero_ℚ ≤ℚ dot r u) (sym up.same)
        (member_of (HoldsAt (homogenised up.z one_ℚ)) (text_rows rep') r ((meets_text rep' e' up.z there.wide).0 there) c) in
        subst (λ (y : ℚ). zero_ℚ ≤ℚ y) (ap (λ y. height *ℚ y) (dot-scaled r shrink far) ∙ mul_inverse_cancel height (dot r far) height_positive ∙ far_value r)
        (mul_nonneg height (dot r near) (le_of_lt zero_ℚ height height_positive) held)

-- ---- texts of points, directions and lines
row_form : (w : ℕ) (kind : RepKind) (row : RepRow) (r : List ℚ) → kind_fits true kind ≡ true → length row.v ≡ row_length w kind → Contains (rows_of_kind kind row) r →
    ((y : List ℚ) × (length y ≡ w) × (r ≡ homogenised y (neg_ℚ one_ℚ))) ⊎ ((d : List ℚ) × (length d ≡ w) × (r ≡ homogenised d zero_ℚ))
row_form w Side row r f l c = absurd (true≢false (sym f))
row_form w Equal row r f l c = absurd (true≢false (sym f))
row_form w Line row r f l c = go (two_cases (homogenised row.v zero_ℚ) (negated (homogenised row.v zero_ℚ)) r c)
  where
    go : (homogenised row.v zero_ℚ ≡ r) ⊎ (negated (homogenised row.v zero_ℚ) ≡ r) →
        ((y : List ℚ) × (length y ≡ w) × (r ≡ homogenised y (neg_ℚ one_ℚ))) ⊎ ((d : List ℚ) × (length d ≡ w) × (r ≡ homogenised d zero_ℚ))
    go (inl e) = inr (row.v, l, sym e)
    go (inr e) = inr (negated row.v, length-negated row.v ∙ l, sym e ∙ sym (negated_homogenised row.v))
row_form w Point row r f l c = inl (row.v, l, sym (one_case (homogenised row.v (neg_ℚ one_ℚ)) r c))
row_form w Direction row r f l c = inr (row.v, l, sym (one_case (homogenised row.v zero_ℚ) r c))

module _ (rep : Rep) (entries : List ConvEntry) (done : Converts rep entries) (is_gens : rep.gens ≡ true) (rows : has_rows rep ≡ true)
    (sides : List (List ℚ)) (sides_are : IsSorting (λ (v : List ℚ). v) (with_normal rep.width (state rep entries)) sides) where
  abbrev Hull : List ℚ → Type 0
  Hull z = IsInHull rep.width (vectors_of Point rep) (vectors_of Direction rep) (vectors_of Line rep) z

  form_of : (r : List ℚ) → Contains (text_rows rep) r →
      ((y : List ℚ) × (length y ≡ rep.width) × (r ≡ homogenised y (neg_ℚ one_ℚ))) ⊎ ((d : List ℚ) × (length d ≡ rep.width) × (r ≡ homogenised d zero_ℚ))
  form_of r c =
      let x = flat_source (λ row. rows_of_kind row.kind row) rep.rows r
      (subst (λ (rs : List (List ℚ)). Contains rs r) (pointed_text rep is_gens (pointed rep is_gens rows)) c) in
      let f = fits_at true rep.width rep.rows (gens_fit rep is_gens) x.0 x.1 in
      row_form rep.width x.0.kind x.0 r f.0 f.1 x.2

  at_gen : (g r : List ℚ) → Contains (vectors (state rep entries).list.live) g → Contains (text_rows rep) r → zero_ℚ ≤ℚ dot g r
  at_gen g r c k = subst (λ (x : ℚ). zero_ℚ ≤ℚ x) (dot_comm r g)
      (gen_holds (suc rep.width) (readers rep (state rep entries)) (rows_in_use rep (state rep entries)) (vectors (state rep entries).list.live) (state rep entries).lines (lined rep entries done rows)
      g r c (in_use rep entries done r k))

  at_line : (l r : List ℚ) → Contains (state rep entries).lines l → Contains (text_rows rep) r → dot l r ≡ zero_ℚ
  at_line l r c k = dot_comm l r ∙ member_of (λ s. IsTight s l) (text_rows rep) r (member_of (λ v. All (λ s. IsTight s v) (text_rows rep)) (state rep entries).lines l (inv rep entries done).lines.corner c) k

  pub point_member : (y : List ℚ) → length y ≡ rep.width → Contains (text_rows rep) (homogenised y (neg_ℚ one_ℚ)) →
      IsInHull rep.width (vectors_of Point rep) (vectors_of Direction rep) (vectors_of Line rep) y
  point_member y width k = (hull_met rep entries done is_gens rows sides sides_are y width).1 (
    all_of_members (HoldsFor y) (vectors (state rep entries).list.live) (λ g c. at_gen g (homogenised y (neg_ℚ one_ℚ)) c k),
    all_of_members (EqualFor y) (state rep entries).lines (λ l c. at_line l (homogenised y (neg_ℚ one_ℚ)) c k),
  )

  moved_value : (e p d : List ℚ) (q : ℚ) → length p ≡ rep.width → length d ≡ rep.width →
      dot e (homogenised (plus p (scaled q d)) (neg_ℚ one_ℚ)) ≡ dot e (homogenised p (neg_ℚ one_ℚ)) +ℚ q *ℚ dot e (homogenised d zero_ℚ)
  moved_value e p d q p_width d_width =
      ap (dot e) (sym (ap (λ v. plus (homogenised p (neg_ℚ one_ℚ)) v) (scaled-homogenised q d zero_ℚ)
      ∙ plus-homogenised p (scaled q d) (neg_ℚ one_ℚ) (q *ℚ zero_ℚ) (p_width ∙ sym (length-scaled q d ∙ d_width))
      ∙ ap (λ x. homogenised (plus p (scaled q d)) x) (ap (λ x. neg_ℚ one_ℚ +ℚ x) (mul_zero q) ∙ add_zero (neg_ℚ one_ℚ))))
      ∙ dot-plus e (homogenised p (neg_ℚ one_ℚ)) (scaled q (homogenised d zero_ℚ)) ∙ ap (λ x. dot e (homogenised p (neg_ℚ one_ℚ)) +ℚ x) (dot-scaled e q (homogenised d zero_ℚ))

  far_member : (p d : List ℚ) (q : ℚ) → length p ≡ rep.width → length d ≡ rep.width → Contains (text_rows rep) (homogenised p (neg_ℚ one_ℚ)) →
      Contains (text_rows rep) (homogenised d zero_ℚ) → zero_ℚ ≤ℚ q →
      IsInHull rep.width (vectors_of Point rep) (vectors_of Direction rep) (vectors_of Line rep) (plus p (scaled q d))
  far_member p d q p_width d_width p_in d_in q_nonneg =
      (hull_met rep entries done is_gens rows sides sides_are (plus p (scaled q d)) (length-plus rep.width p (scaled q d) p_width (length-scaled q d ∙ d_width))).1 (
        all_of_members (HoldsFor (plus p (scaled q d))) (vectors (state rep entries).list.live) (λ g c. subst (λ (x : ℚ). zero_ℚ ≤ℚ x) (sym (moved_value g p d q p_width d_width))
            (add_nonneg _ _ (at_gen g (homogenised p (neg_ℚ one_ℚ)) c p_in) (mul_nonneg q (dot g (homogenised d zero_ℚ)) q_nonneg (at_gen g (homogenised d zero_ℚ) c d_in)))),
        all_of_members (EqualFor (plus p (scaled q d))) (state rep entries).lines (λ l c. moved_value l p d q p_width d_width
            ∙ ap₂ (λ a b. a +ℚ q *ℚ b) (at_line l (homogenised p (neg_ℚ one_ℚ)) c p_in) (at_line l (homogenised d zero_ℚ) c d_in) ∙ ap (λ x. zero_ℚ +ℚ x) (mul_zero q) ∙ add_zero zero_ℚ),
      )

  -- an inequality that holds for all members is in the cone
  pub from_members : (e : List ℚ) → ((z : List ℚ) → IsInHull rep.width (vectors_of Point rep) (vectors_of Direction rep) (vectors_of Line rep) z → HoldsFor z e) → All (HoldsAt e) (text_rows rep)
  from_members e h = all_of_members (HoldsAt e) (text_rows rep) (λ r c. go r c (form_of r c))
    where
      go : (r : List ℚ) → Contains (text_rows rep) r →
          ((y : List ℚ) × (length y ≡ rep.width) × (r ≡ homogenised y (neg_ℚ one_ℚ))) ⊎ ((d : List ℚ) × (length d ≡ rep.width) × (r ≡ homogenised d zero_ℚ)) → zero_ℚ ≤ℚ dot r e
      go r c (inl (y, width, same)) = subst (λ (x : ℚ). zero_ℚ ≤ℚ x) (dot_comm e (homogenised y (neg_ℚ one_ℚ)) ∙ ap (λ v. dot v e) (sym same))
          (h y (point_member y width (subst (λ (v : List ℚ). Contains (text_rows rep) v) same c)))
      go r c (inr (d, width, same)) =
          let p = point_in rep is_gens (pointed rep is_gens rows) in
          subst (λ (x : ℚ). zero_ℚ ≤ℚ x) (dot_comm e (homogenised d zero_ℚ) ∙ ap (λ v. dot v e) (sym same))
          (far_nonneg (dot e (homogenised p.0 (neg_ℚ one_ℚ))) (dot e (homogenised d zero_ℚ)) (λ q q_nonneg.
          subst (λ (x : ℚ). zero_ℚ ≤ℚ x) (moved_value e p.0 d q p.1 width)
          (h (plus p.0 (scaled q d)) (far_member p.0 d q p.1 width p.2 (subst (λ (v : List ℚ). Contains (text_rows rep) v) same c) q_nonneg))))

  -- and one of the cone holds for all members
  pub for_members : (e : List ℚ) → All (HoldsAt e) (text_rows rep) → (z : List ℚ) → IsInHull rep.width (vectors_of Point rep) (vectors_of Direction rep) (vectors_of Line rep) z → HoldsFor z e
  for_members e h z z_in = hull_meets rep.width (vectors_of Point rep) (vectors_of Direction rep) (vectors_of Line rep)
      (rows_in_use rep (state rep entries)) (readers rep (state rep entries)) (vectors (state rep entries).list.live) (state rep entries).lines
      (points_wide rep entries done is_gens rows sides sides_are) (directions_wide rep entries done is_gens rows sides sides_are) (lines_wide rep entries done is_gens rows sides sides_are)
      (same_rows rep entries done is_gens rows sides sides_are) (lined rep entries done rows) z z_in e (λ r c. member_of (HoldsAt e) (text_rows rep) r h (in_text rep entries done rows r c))

-- ---- the law
module _ (rep rep' : Rep) (entries entries' : List ConvEntry) (other other' : Rep) (wide : rep.width ≡ rep'.width)
    (alike : (z : List ℚ) → Same (IsMember rep z) (IsMember rep' z)) (done : Converts rep entries) (done' : Converts rep' entries') (g : Gives rep entries other) (g' : Gives rep' entries' other') where
  from_sides : rep.gens ≡ false → rep'.gens ≡ false → other.rows ≡ other'.rows
  from_sides e e' = go given.points refl given'.points refl
    where
      given : GivesGenerators rep.width (state rep entries) other.rows
      given = subst (λ (b : Bool). GivesRows b (has_rows rep) rep.width (state rep entries) other.rows) e g.rows

      given' : GivesGenerators rep'.width (state rep' entries') other'.rows
      given' = subst (λ (b : Bool). GivesRows b (has_rows rep') rep'.width (state rep' entries') other'.rows) e' g'.rows

      onto : (z : List ℚ) → MeetsAllRows rep z → MeetsAllRows rep' z
      onto z m = subst (λ (b : Bool). IsInSet b rep' z) e' ((alike z).0 (subst (λ (b : Bool). IsInSet b rep z) (sym e) m))

      back : (z : List ℚ) → MeetsAllRows rep' z → MeetsAllRows rep z
      back z m = subst (λ (b : Bool). IsInSet b rep z) e ((alike z).1 (subst (λ (b : Bool). IsInSet b rep' z) (sym e') m))

      -- a listed point is a member
      listed : (p : List ℚ) → Contains given.points p → MeetsAllRows rep p
      listed p c =
          let s = height_source rep entries done e p one_ℚ ((given.points_are.same p).1 c) in
          (meets_all rep entries done e p s.1).1 (all_of_members (HoldsAt (homogenised p one_ℚ)) (rows_in_use rep (state rep entries)) (λ r k.
          gen_holds (suc rep.width) (readers rep (state rep entries)) (rows_in_use rep (state rep entries)) (vectors (state rep entries).list.live) (state rep entries).lines
          (lined rep entries done (some_rows rep entries done e)) (homogenised p one_ℚ) r s.0 k))

      listed' : (p : List ℚ) → Contains given'.points p → MeetsAllRows rep' p
      listed' p c =
          let s = height_source rep' entries' done' e' p one_ℚ ((given'.points_are.same p).1 c) in
          (meets_all rep' entries' done' e' p s.1).1 (all_of_members (HoldsAt (homogenised p one_ℚ)) (rows_in_use rep' (state rep' entries')) (λ r k.
          gen_holds (suc rep'.width) (readers rep' (state rep' entries')) (rows_in_use rep' (state rep' entries')) (vectors (state rep' entries').list.live) (state rep' entries').lines
          (lined rep' entries' done' (some_rows rep' entries' done' e')) (homogenised p one_ℚ) r s.0 k))

      empty : given.points ≡ [] → (z : List ℚ) → MeetsAllRows rep z → ⊥
      empty none z m = no_points rep.width given.directions (map (take rep.width) (state rep entries).lines) z
          (subst (λ (ps : List (List ℚ)). IsInHull rep.width ps given.directions (map (take rep.width) (state rep entries).lines) z) none
          ((sides_same rep entries done e given.points given.directions given.points_are given.directions_are z).0 m))

      empty' : given'.points ≡ [] → (z : List ℚ) → MeetsAllRows rep' z → ⊥
      empty' none z m = no_points rep'.width given'.directions (map (take rep'.width) (state rep' entries').lines) z
          (subst (λ (ps : List (List ℚ)). IsInHull rep'.width ps given'.directions (map (take rep'.width) (state rep' entries').lines) z) none
          ((sides_same rep' entries' done' e' given'.points given'.directions given'.points_are given'.directions_are z).0 m))

      full : (p p' : List ℚ) → MeetsAllRows rep p → MeetsAllRows rep' p' → other.rows ≡ other'.rows
      full p p' p_in p_in' =
          let rows = some_rows rep entries done e in
          let rows' = some_rows rep' entries' done' e' in
          let cone_onto = sides_cone rep rep' e e' onto p p_in in
          let cone_back : (v : List ℚ) → length v ≡ suc rep.width → All (HoldsAt v) (text_rows rep') → All (HoldsAt v) (text_rows rep) =
          λ v width. sides_cone rep' rep e' e back p' p_in' v (width ∙ ap suc wide) in
          let ls : (state rep entries).lines ≡ (state rep' entries').lines = same_lines rep rep' entries entries' done done' wide rows rows' cone_onto cone_back in
          let gs : SameMembers (vectors (state rep entries).list.live) (vectors (state rep' entries').list.live) = same_gens rep rep' entries entries' done done' wide rows rows' cone_onto cone_back in
          let ps : given.points ≡ given'.points = sorted_alike (at_height rep.width one_ℚ (state rep entries)) (at_height rep.width one_ℚ (state rep' entries')) given.points given'.points
          (height_same rep.width one_ℚ (vectors (state rep entries).list.live) (vectors (state rep' entries').list.live) gs) given.points_are
          (subst (λ (k : ℕ). IsSorting (λ (v : List ℚ). v) (at_height k one_ℚ (state rep' entries')) given'.points) (sym wide) given'.points_are) in
          let ds : given.directions ≡ given'.directions = sorted_alike (at_height rep.width zero_ℚ (state rep entries)) (at_height rep.width zero_ℚ (state rep' entries')) given.directions given'.directions
          (height_same rep.width zero_ℚ (vectors (state rep entries).list.live) (vectors (state rep' entries').list.live) gs) given.directions_are
          (subst (λ (k : ℕ). IsSorting (λ (v : List ℚ). v) (at_height k zero_ℚ (state rep' entries')) given'.directions) (sym wide) given'.directions_are) in
          let fs : map (take rep.width) (state rep entries).lines ≡ map (take rep'.width) (state rep' entries').lines =
          ap (map (take rep.width)) ls ∙ ap (λ k. map (take k) (state rep' entries').lines) wide in
          given.all
          ∙ ap (λ us. if length us == 0 then [] else three (map (take rep.width) (state rep entries).lines) us given.directions) ps
          ∙ ap (λ us. if length given'.points == 0 then [] else three (map (take rep.width) (state rep entries).lines) given'.points us) ds
          ∙ ap (λ us. if length given'.points == 0 then [] else three us given'.points given'.directions) fs
          ∙ sym given'.all

      go : (ps : List (List ℚ)) → given.points ≡ ps → (ps' : List (List ℚ)) → given'.points ≡ ps' → other.rows ≡ other'.rows
      go [] a [] b = given.all ∙ ap (λ us. if length us == 0 then [] else three (map (take rep.width) (state rep entries).lines) us given.directions) a
          ∙ sym (given'.all ∙ ap (λ us. if length us == 0 then [] else three (map (take rep'.width) (state rep' entries').lines) us given'.directions) b)
      go [] a (p ∷ ps') b = absurd (empty a p (back p (listed' p (subst (λ (us : List (List ℚ)). Contains us p) (sym b) (Contains-here p ps' p refl)))))
      go (p ∷ ps) a [] b = absurd (empty' b p (onto p (listed p (subst (λ (us : List (List ℚ)). Contains us p) (sym a) (Contains-here p ps p refl)))))
      go (p ∷ ps) a (p' ∷ ps') b = full p p' (listed p (subst (λ (us : List (List ℚ)). Contains us p) (sym a) (Contains-here p ps p refl)))
          (listed' p' (subst (λ (us : List (List ℚ)). Contains us p') (sym b) (Contains-here p' ps' p' refl)))

  from_gens : rep.gens ≡ true → rep'.gens ≡ true → other.rows ≡ other'.rows
  from_gens e e' = go (has_rows rep) refl (has_rows rep') refl
    where
      given : GivesRows true (has_rows rep) rep.width (state rep entries) other.rows
      given = subst (λ (b : Bool). GivesRows b (has_rows rep) rep.width (state rep entries) other.rows) e g.rows

      given' : GivesRows true (has_rows rep') rep'.width (state rep' entries') other'.rows
      given' = subst (λ (b : Bool). GivesRows b (has_rows rep') rep'.width (state rep' entries') other'.rows) e' g'.rows

      onto : (z : List ℚ) → IsInHull rep.width (vectors_of Point rep) (vectors_of Direction rep) (vectors_of Line rep) z → IsInHull rep'.width (vectors_of Point rep') (vectors_of Direction rep') (vectors_of Line rep') z
      onto z m = subst (λ (b : Bool). IsInSet b rep' z) e' ((alike z).0 (subst (λ (b : Bool). IsInSet b rep z) (sym e) m))

      back : (z : List ℚ) → IsInHull rep'.width (vectors_of Point rep') (vectors_of Direction rep') (vectors_of Line rep') z → IsInHull rep.width (vectors_of Point rep) (vectors_of Direction rep) (vectors_of Line rep) z
      back z m = subst (λ (b : Bool). IsInSet b rep z) e ((alike z).1 (subst (λ (b : Bool). IsInSet b rep' z) (sym e') m))

      full : (rows : has_rows rep ≡ true) (rows' : has_rows rep' ≡ true) → GivesInequalities rep.width (state rep entries) other.rows → GivesInequalities rep'.width (state rep' entries') other'.rows → other.rows ≡ other'.rows
      full rows rows' a b =
          let cone_onto : (v : List ℚ) → length v ≡ suc rep.width → All (HoldsAt v) (text_rows rep) → All (HoldsAt v) (text_rows rep') =
          λ v width h. from_members rep' entries' done' e' rows' b.sides b.sides_are v (λ z m. for_members rep entries done e rows a.sides a.sides_are v h z (back z m)) in
          let cone_back : (v : List ℚ) → length v ≡ suc rep.width → All (HoldsAt v) (text_rows rep') → All (HoldsAt v) (text_rows rep) =
          λ v width h. from_members rep entries done e rows a.sides a.sides_are v (λ z m. for_members rep' entries' done' e' rows' b.sides b.sides_are v h z (onto z m)) in
          let ls : (state rep entries).lines ≡ (state rep' entries').lines = same_lines rep rep' entries entries' done done' wide rows rows' cone_onto cone_back in
          let gs : SameMembers (vectors (state rep entries).list.live) (vectors (state rep' entries').list.live) = same_gens rep rep' entries entries' done done' wide rows rows' cone_onto cone_back in
          let ss : a.sides ≡ b.sides = sorted_alike (with_normal rep.width (state rep entries)) (with_normal rep.width (state rep' entries')) a.sides b.sides
          (normal_same rep.width (vectors (state rep entries).list.live) (vectors (state rep' entries').list.live) gs) a.sides_are
          (subst (λ (k : ℕ). IsSorting (λ (v : List ℚ). v) (with_normal k (state rep' entries')) b.sides) (sym wide) b.sides_are) in
          a.all ∙ ap₂ (λ us vs. as_rows Equal us ++ as_rows Side vs) ls ss ∙ sym b.all

      go : (b : Bool) → has_rows rep ≡ b → (b' : Bool) → has_rows rep' ≡ b' → other.rows ≡ other'.rows
      go true a true b = full a b (subst (λ (x : Bool). GivesRows true x rep.width (state rep entries) other.rows) a given)
          (subst (λ (x : Bool). GivesRows true x rep'.width (state rep' entries') other'.rows) b given')
      go true a false b =
          let given_sides : GivesInequalities rep.width (state rep entries) other.rows = subst (λ (x : Bool). GivesRows true x rep.width (state rep entries) other.rows) a given in
          let p = point_in rep e (pointed rep e a) in
          absurd (without_point rep' entries' done' e' b p.0 (onto p.0 (point_member rep entries done e a given_sides.sides given_sides.sides_are p.0 p.1 p.2)))
      go false a true b =
          let given_sides : GivesInequalities rep'.width (state rep' entries') other'.rows = subst (λ (x : Bool). GivesRows true x rep'.width (state rep' entries') other'.rows) b given' in
          let p = point_in rep' e' (pointed rep' e' b) in
          absurd (without_point rep entries done e a p.0 (back p.0 (point_member rep' entries' done' e' b given_sides.sides given_sides.sides_are p.0 p.1 p.2)))
      go false a false b =
          let one : other.rows ≡ nothing_meets rep.width = subst (λ (x : Bool). GivesRows true x rep.width (state rep entries) other.rows) a given in
          let two : other'.rows ≡ nothing_meets rep'.width = subst (λ (x : Bool). GivesRows true x rep'.width (state rep' entries') other'.rows) b given' in
          one ∙ ap nothing_meets wide ∙ sym two

pub one_other : OneOther
one_other rep rep' entries entries' other other' kinds wide alike done done' g g' = go rep.gens refl
  where
    go : (b : Bool) → rep.gens ≡ b → other.rows ≡ other'.rows
    go true e = from_gens rep rep' entries entries' other other' wide alike done done' g g' e (sym kinds ∙ e)
    go false e = from_sides rep rep' entries entries' other other' wide alike done done' g g' e (sym kinds ∙ e)
