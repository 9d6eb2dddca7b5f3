-- A double description in full width beside lines, without the entries at the places of the lines.
use Rattle.std.proofs.Common.{◌≡◌, ℕ, zero, suc, ◌+◌, ◌<◌, ◌≤◌, ◌==◌, Bool, true, false, true≢false, List, [], ◌∷◌, ◌++◌, map, length, Contains, refl, sym, ap, ◌∙◌, subst, arith, ◌⊎◌, inl, inr}
use Rattle.std.specs.List.{list_any}
use Rattle.std.proofs.lemmas.Bool.{eqb-true}
use Rattle.std.proofs.lemmas.List.{length-map}
use Rattle.std.proofs.lemmas.List.Elements.{All-map}
use Rattle.exact_field.specs.Rational.{ℚ, zero_ℚ, ◌≤ℚ◌}
use Rattle.exact_field.specs.Vector.{dot}
use Rattle.lineality.specs.Lines.{leading_place, AreEchelon}
use Rattle.lineality.specs.Without.{is_line_place, marks_from, marks, open_count, without, with_zeros}
use Rattle.lineality.proofs.Echelon.{IsEchelon, echelon_of}
use Rattle.lineality.proofs.Marks.{length-marks, flat_kept, with_flat}
use Rattle.lineality.proofs.Masks.{length-without, length-with, without-with, dot-without, without-zeros, with-zeros, without-combination}
use Rattle.lineality.proofs.Reduction.{flat_of, reduced_of}
use Rattle.polyhedra.specs.Cone.{IsInCone, IsGenerated}
use Rattle.polyhedra.specs.Negatives.{negated}
use Rattle.polyhedra.specs.TightSets.{IsTight, AreApart, LiesIn, IsDoubleDescriptionPair}
use Rattle.polyhedra.specs.Vectors.{AreWide, zeros, combination}
use Rattle.polyhedra.proofs.Lists.{HoldsAt, HasWidth, Contains-here, Contains-there}
use Rattle.polyhedra.proofs.Members.{all_of_members, member_of, Contains-map, pairs-map, pairs-weaker}
use Rattle.polyhedra.proofs.Order.{le_of_eq}
use Rattle.polyhedra.proofs.Tests.{either_true}
use Rattle.representations.specs.Lined.{pinned, places_of, ArePlacesReaders}
use Rattle.representations.proofs.Needed.{gens_reduced}
use Rattle.representations.proofs.Pinned.{tight_negated, pinned_cases, pinned_row}
use Rattle.representations.proofs.Places.{places_are_readers}

module _ (n : ℕ) (lines rows gens : List (List ℚ)) (e : AreEchelon n lines) (d : IsDoubleDescriptionPair n (pinned (places_of n lines) rows) gens) where
  abbrev W : List ℚ → List ℚ
  W = without (marks n lines)

  form : IsEchelon n lines
  form = echelon_of n lines e

  places : ArePlacesReaders n lines
  places = places_are_readers n lines e

  many : length (marks n lines) ≡ n
  many = length-marks n lines

  gen_width : (g : List ℚ) → Contains gens g → length g ≡ n
  gen_width g c = member_of (HasWidth n) gens g d.generators_wide.wide c

  reader_tight : (g r : List ℚ) → Contains gens g → Contains (places_of n lines) r → IsTight r g
  reader_tight g r c k = gens_reduced n (places_of n lines) rows gens d g r c k

  -- the generators are 0 at the places
  pub kept : (g : List ℚ) → Contains gens g → with_zeros (marks n lines) (without (marks n lines) g) ≡ g
  kept g c = flat_kept n lines form g (gen_width g c)
      (flat_of lines g ((places.reduced g).1 (all_of_members (λ r. IsTight r g) (places_of n lines) (λ r k. reader_tight g r c k))))

  same : (r g : List ℚ) → Contains gens g → dot (W r) (W g) ≡ dot r g
  same r g c = dot-without (marks n lines) r (W g) ∙ ap (dot r) (kept g c)

  -- a shorter vector with zeros there
  filled_width : (z : List ℚ) → length z ≡ open_count (marks n lines) → length (with_zeros (marks n lines) z) ≡ n
  filled_width z h = length-with (marks n lines) z h ∙ many

  filled_read : (z r : List ℚ) → Contains (places_of n lines) r → IsTight r (with_zeros (marks n lines) z)
  filled_read z r c = member_of (λ s. IsTight s (with_zeros (marks n lines) z)) (places_of n lines) r
      ((places.reduced (with_zeros (marks n lines) z)).0 (reduced_of lines (with_zeros (marks n lines) z) (with_flat n lines form z))) c

  at_filled : (P : ℚ → Type 0) (z : List ℚ) → P zero_ℚ → ((r : List ℚ) → Contains rows r → P (dot (W r) z)) →
      (r : List ℚ) → Contains (pinned (places_of n lines) rows) r → P (dot r (with_zeros (marks n lines) z))
  at_filled P z none h r c = go (pinned_cases (places_of n lines) rows r c)
    where
      go : Contains (places_of n lines) r ⊎ (((s : List ℚ) × Contains (places_of n lines) s × (negated s ≡ r)) ⊎ Contains rows r) → P (dot r (with_zeros (marks n lines) z))
      go (inl k) = subst P (sym (filled_read z r k)) none
      go (inr (inl (s, k, same_as))) = subst P (sym (ap (λ v. dot v (with_zeros (marks n lines) z)) (sym same_as)
          ∙ tight_negated s (with_zeros (marks n lines) z) (filled_read z s k))) none
      go (inr (inr k)) = subst P (dot-without (marks n lines) r z) (h r k)

  lies_up : (a b : List ℚ) → Contains gens a → Contains gens b → LiesIn (map W rows) (W a) (W b) → LiesIn (pinned (places_of n lines) rows) a b
  lies_up a b a_in b_in lies = all_of_members (λ r. IsTight r a → IsTight r b) (pinned (places_of n lines) rows) (λ r c t. go r t (pinned_cases (places_of n lines) rows r c))
    where
      go : (r : List ℚ) → IsTight r a → Contains (places_of n lines) r ⊎ (((s : List ℚ) × Contains (places_of n lines) s × (negated s ≡ r)) ⊎ Contains rows r) → IsTight r b
      go r t (inl k) = reader_tight b r b_in k
      go r t (inr (inl (s, k, same_as))) = subst (λ (v : List ℚ). IsTight v b) same_as (tight_negated s b (reader_tight b s b_in k))
      go r t (inr (inr k)) = sym (same r b b_in)
          ∙ member_of (λ q. IsTight q (W a) → IsTight q (W b)) (map W rows) (W r) lies (Contains-map W rows r k) (same r a a_in ∙ t)

  pub described_without : IsDoubleDescriptionPair (open_count (marks n lines)) (map (without (marks n lines)) rows) (map (without (marks n lines)) gens)
  described_without = record {
    rows_wide = record {
      wide = All-map (HasWidth (open_count (marks n lines))) W rows (all_of_members (λ r. length (W r) ≡ open_count (marks n lines)) rows
          (λ r c. length-without (marks n lines) r
          (member_of (HasWidth n) (pinned (places_of n lines) rows) r d.rows_wide.wide (pinned_row (places_of n lines) rows r c) ∙ sym many)));
    };
    generators_wide = record {
      wide = All-map (HasWidth (open_count (marks n lines))) W gens (all_of_members (λ g. length (W g) ≡ open_count (marks n lines)) gens
          (λ g c. length-without (marks n lines) g (gen_width g c ∙ sym many)));
    };
    pointed = λ z wide tight.
        sym (without-with (marks n lines) z)
        ∙ ap W (d.pointed (with_zeros (marks n lines) z) (filled_width z wide)
        (all_of_members (λ r. dot r (with_zeros (marks n lines) z) ≡ zero_ℚ) (pinned (places_of n lines) rows) (at_filled (λ x. x ≡ zero_ℚ) z refl
        (λ r c. member_of (λ s. dot s z ≡ zero_ℚ) (map W rows) (W r) tight (Contains-map W rows r c)))))
        ∙ ap (λ k. without (marks n lines) (zeros k)) (sym many) ∙ without-zeros (marks n lines);
    inside = All-map (IsInCone (open_count (marks n lines)) (map W rows)) W gens (all_of_members (λ g. IsInCone (open_count (marks n lines)) (map W rows) (W g)) gens (λ g c. record {
      wide = length-without (marks n lines) g (gen_width g c ∙ sym many);
      within = All-map (HoldsAt (W g)) W rows (all_of_members (λ r. zero_ℚ ≤ℚ dot (W r) (W g)) rows (λ r k. subst (λ (x : ℚ). zero_ℚ ≤ℚ x) (sym (same r g c))
          (member_of (HoldsAt g) (pinned (places_of n lines) rows) r (member_of (IsInCone n (pinned (places_of n lines) rows)) gens g d.inside c).within (pinned_row (places_of n lines) rows r k))));
    }));
    generates = λ z h.
        let s : IsGenerated n gens (with_zeros (marks n lines) z) = d.generates (with_zeros (marks n lines) z) (record {
          wide = filled_width z h.wide;
          within = all_of_members (HoldsAt (with_zeros (marks n lines) z)) (pinned (places_of n lines) rows) (at_filled (λ x. zero_ℚ ≤ℚ x) z (le_of_eq zero_ℚ zero_ℚ refl)
              (λ r c. member_of (HoldsAt z) (map W rows) (W r) h.within (Contains-map W rows r c)));
        }) in
        record {
          multipliers = s.multipliers;
          one_each = s.one_each ∙ sym (length-map gens W);
          at_least_zero = s.at_least_zero;
          combined = sym (without-with (marks n lines) z) ∙ ap W s.combined ∙ combined s.multipliers;
        };
    not_zero = All-map (λ g. g ≡ zeros (open_count (marks n lines)) → ⊥) W gens (all_of_members (λ g. W g ≡ zeros (open_count (marks n lines)) → ⊥) gens (λ g c none.
        member_of (λ v. v ≡ zeros n → ⊥) gens g d.not_zero c
        (sym (kept g c) ∙ ap (with_zeros (marks n lines)) none ∙ with-zeros (marks n lines) ∙ ap zeros many)));
    apart = pairs-map (AreApart (map W rows)) W gens (pairs-weaker (AreApart (pinned (places_of n lines) rows)) (λ a b. AreApart (map W rows) (W a) (W b)) gens
        (λ a b a_in b_in two. record {
          first = λ lies. two.first (lies_up a b a_in b_in lies);
          second = λ lies. two.second (lies_up b a b_in a_in lies);
        }) d.apart);
  }
    where
      combined : (ms : List ℚ) → W (combination n ms gens) ≡ combination (open_count (marks n lines)) ms (map W gens)
      combined ms = subst (λ (k : ℕ). without (marks n lines) (combination k ms gens) ≡ combination (open_count (marks n lines)) ms (map (without (marks n lines)) gens)) many
          (without-combination (marks n lines) ms gens (subst (λ (k : ℕ). AreWide k gens) (sym many) d.generators_wide))

-- ---- where no line has the last place, its mark makes no difference
marks-last : (lines : List (List ℚ)) (k w : ℕ) → marks_from k (suc w) lines ≡ marks_from k w lines ++ is_line_place lines (k + w) ∷ []
marks-last lines k zero = ap (λ j. is_line_place lines j ∷ []) (none k)
  where
    none : (j : ℕ) → j ≡ j + 0
    none j = omega arith
marks-last lines k (suc w) = ap (λ bs. is_line_place lines k ∷ bs) (marks-last lines (suc k) w ∙ ap (λ j. marks_from (suc k) w lines ++ is_line_place lines j ∷ []) (next k w))
  where
    next : (j m : ℕ) → suc j + m ≡ j + suc m
    next j m = omega arith

without-last : (bs : List Bool) (v : List ℚ) → without (bs ++ false ∷ []) v ≡ without bs v
without-last [] [] = refl
without-last [] (x ∷ v) = refl
without-last (b ∷ bs) [] = refl
without-last (true ∷ bs) (x ∷ v) = without-last bs v
without-last (false ∷ bs) (x ∷ v) = ap (λ u. x ∷ u) (without-last bs v)

with-last : (bs : List Bool) (z : List ℚ) → with_zeros (bs ++ false ∷ []) z ≡ with_zeros bs z
with-last [] [] = refl
with-last [] (x ∷ z) = refl
with-last (true ∷ bs) z = ap (λ u. zero_ℚ ∷ u) (with-last bs z)
with-last (false ∷ bs) [] = refl
with-last (false ∷ bs) (x ∷ z) = ap (λ u. x ∷ u) (with-last bs z)

count-last : (bs : List Bool) → open_count (bs ++ false ∷ []) ≡ suc (open_count bs)
count-last [] = refl
count-last (true ∷ bs) = count-last bs
count-last (false ∷ bs) = ap suc (count-last bs)

found_place : (k : ℕ) (ls : List (List ℚ)) → list_any (λ d. leading_place d == k) ls ≡ true → ((l : List ℚ) → Contains ls l → leading_place l < k) → ⊥
found_place k [] t u = true≢false (sym t)
found_place k (l ∷ ls) t u = at (either_true (leading_place l == k) (list_any (λ d. leading_place d == k) ls) t) (λ s. found_place k ls s (λ m c. u m (Contains-there l ls m c)))
  where
    at : ((leading_place l == k) ≡ true) ⊎ (list_any (λ d. leading_place d == k) ls ≡ true) → (list_any (λ d. leading_place d == k) ls ≡ true → ⊥) → ⊥
    at (inl s) again = let e = eqb-true (leading_place l) k s in let low = u l (Contains-here l ls l refl) in omega (arith, e, low)
    at (inr s) again = again s

no_place : (lines : List (List ℚ)) (k : ℕ) → ((l : List ℚ) → Contains lines l → leading_place l < k) → is_line_place lines k ≡ false
no_place lines k h = go (is_line_place lines k) refl
  where
    go : (b : Bool) → is_line_place lines k ≡ b → is_line_place lines k ≡ false
    go true t = absurd (found_place k lines t h)
    go false t = t

pub marks_are : (lines : List (List ℚ)) (w : ℕ) → ((l : List ℚ) → Contains lines l → leading_place l ≤ w) → marks (suc w) lines ≡ marks w lines ++ false ∷ []
marks_are lines w h = marks-last lines 1 w ∙ ap (λ b. marks w lines ++ b ∷ [])
    (no_place lines (1 + w) (λ l c. let low = h l c in omega (arith, low)))

pub same_without : (lines : List (List ℚ)) (w : ℕ) → ((l : List ℚ) → Contains lines l → leading_place l ≤ w) → (v : List ℚ) → without (marks (suc w) lines) v ≡ without (marks w lines) v
same_without lines w h v = ap (λ bs. without bs v) (marks_are lines w h) ∙ without-last (marks w lines) v

pub same_with : (lines : List (List ℚ)) (w : ℕ) → ((l : List ℚ) → Contains lines l → leading_place l ≤ w) → (z : List ℚ) → with_zeros (marks (suc w) lines) z ≡ with_zeros (marks w lines) z
same_with lines w h z = ap (λ bs. with_zeros bs z) (marks_are lines w h) ∙ with-last (marks w lines) z

pub same_count : (lines : List (List ℚ)) (w : ℕ) → ((l : List ℚ) → Contains lines l → leading_place l ≤ w) → open_count (marks (suc w) lines) ≡ suc (open_count (marks w lines))
same_count lines w h = ap open_count (marks_are lines w h) ∙ count-last (marks w lines)
