-- Certified generators: they stay where a row is added, one more is certified, and all of them together are the facets.
use Rattle.std.proofs.Common.{◌≡◌, ◌≢◌, ◌∙◌, ◌||◌, ℕ, suc, Bool, true, false, List, [], ◌∷◌, ◌++◌, All, AllPairs, Contains, length, map, nat_eq, filter, not, refl, sym, ap, ap₂, subst, inl, inr, true≢false}
use Rattle.std.proofs.lemmas.Bool.Decides.{eqb_tells}
use Rattle.std.proofs.lemmas.List.{map-append}
use Rattle.std.proofs.lemmas.List.Elements.{All-nil, All-cons, All-append, Contains-append_cases, Contains-append_left, Contains-append_right}
use Rattle.exact_field.specs.Rational.{ℚ, zero_ℚ, ◌≤ℚ◌}
use Rattle.exact_field.specs.Vector.{dot, entry}
use Rattle.incid_sets.specs.Marks.{has}
use Rattle.polyhedra.specs.DoubleDescription.{is_zero}
use Rattle.polyhedra.specs.Exactness.{level, row_of, rows_of}
use Rattle.polyhedra.specs.Hull.{IsFacet}
use Rattle.polyhedra.specs.Inequality.{Inequality}
use Rattle.polyhedra.specs.LiveList.{Numbered, LiveList, numbers, step, vectors}
use Rattle.polyhedra.proofs.LiveList.{numbers_tell_apart}
use Rattle.polyhedra.proofs.Lists.{Contains-cases, Contains-here, Contains-nil, Contains-there}
use Rattle.polyhedra.proofs.Members.{Contains-filter, Contains-filter_source, Contains-map, Contains-map_source, all_of_members, member_of, pairs-append, pairs-cons, pairs-map, pairs-nil, pairs-weaker}
use Rattle.polyhedra.proofs.Tests.{test_of_zero, test_of_other}
use Rattle.double_descr.specs.State.{State as Description}
use Rattle.vlp_problem.specs.declared.problem.Problem.{Problem}
use Rattle.upper_image.specs.UpperImage.{IsInWorkingImage}
use Rattle.overflows.specs.Base.{IsBaseRow}
use Rattle.lp_form.specs.declared.shown.Cut.{Cut}
use Rattle.outer_approx.specs.Cuts.{IsCutFor, said_by}
use Rattle.outer_approx.specs.Task.{Task, IsFitting}
use Rattle.lower_image.specs.Facets.{AreFacetCuts}
use Rattle.lower_image.specs.Laws.{IsWeighted}
use Rattle.lower_image.specs.Lower.{AreAllFacets, IsCertified, IsLower, dual_vector, inequality_of, weighted}
use Rattle.lower_image.specs.Rows.{Certifies}
use Rattle.lower_image.specs.Search.{AreAllCertified, AreCertified, IsDone, StandsForOne}
use Rattle.lower_image.proofs.CertifiedFacets.{certified_are_facets}
use Rattle.lower_image.proofs.Generators.{in_cone, lower_generators}
use Rattle.lower_image.proofs.Start.{lower_start}
use Rattle.lower_image.proofs.Weights.{fits}

-- a list of one has no other
Contains-one : {X : Type 0} (x y : X) → Contains (x ∷ []) y → x ≡ y
Contains-one x y k = elim (Contains-cases x [] y k) [ inl e ↦ e | inr none ↦ absurd (Contains-nil y none) ]

-- ---- one row more, and one certified generator more
module _ {F : Type 0} (value : F → ℚ) (task : Task) where
  -- at the beginning none is certified
  pub none_certified : (live : List Numbered) → AreCertified value task live [] [] []
  none_certified live = record {
    generators = [];
    numbers_are = refl;
    listed = All-nil (Contains live);
    standing = All-nil (λ g. StandsForOne task g.vector);
    valid = All-nil (λ g. IsCertified task.file task.c g.vector);
    once = pairs-nil (λ a b. a.number ≡ b.number → ⊥);
    cuts_are = All-nil (IsCutFor value task);
    said = refl;
    marked = λ n. ((λ e. absurd (true≢false (sym e))), (λ k. absurd (Contains-nil n k)));
  }

  pub stays : (holds : ℚ → Bool) → IsFitting holds task → (rows : List (List ℚ)) (list : LiveList) (row : List ℚ) (nums : List ℕ) (cuts : List (Cut F))
      (marks : List Bool) → IsLower task.file task.c rows list → IsBaseRow task.file task.c row → AreCertified value task list.live nums cuts marks →
      AreCertified value task (step rows list row).live nums cuts marks
  stays holds fit rows list row nums cuts marks lower base h = record {
    generators = h.generators;
    numbers_are = h.numbers_are;
    listed = all_of_members (Contains (step rows list row).live) h.generators (λ g k.
        lower_start.stays task.file task.c rows list row g (fits task holds fit) lower base
        (member_of (Contains list.live) h.generators g h.listed k)
        (member_of (λ g. StandsForOne task g.vector) h.generators g h.standing k)
        (member_of (λ g. IsCertified task.file task.c g.vector) h.generators g h.valid k));
    standing = h.standing;
    valid = h.valid;
    once = h.once;
    cuts_are = h.cuts_are;
    said = h.said;
    marked = h.marked;
  }

  module _ (live : List Numbered) (nums : List ℕ) (cuts : List (Cut F)) (marks more : List Bool) (g : ℕ) (vector : List ℚ) (cut : Cut F)
      (h : AreCertified value task live nums cuts marks) (listed : Contains live (record { number = g; vector = vector }))
      (standing : StandsForOne task vector) (certifies : Certifies value task vector cut) (fresh : has marks g ≡ false)
      (marked : (k : ℕ) → has more k ≡ (nat_eq k g || has marks k)) where
    new : Numbered
    new = record { number = g; vector = vector }

    abbrev IsOther : Numbered → Numbered → Type 0
    IsOther a b = a.number ≡ b.number → ⊥

    -- no certified generator has its number, since that is not marked
    other : (x y : Numbered) → Contains h.generators x → Contains (record { number = g; vector = vector } ∷ []) y → x.number ≡ y.number → ⊥
    other x y k one e =
        let same : x.number ≡ g = e ∙ sym (ap (λ (z : Numbered). z.number) (Contains-one (record { number = g; vector = vector }) y one)) in
        let there : Contains nums g =
        subst (λ (ns : List ℕ). Contains ns g) (sym h.numbers_are)
        (subst (Contains (numbers h.generators)) same (Contains-map (λ (z : Numbered). z.number) h.generators x k)) in
        true≢false (sym ((h.marked g).1 there) ∙ fresh)

    forth : (n : ℕ) → has more n ≡ true → Contains (nums ++ g ∷ []) n
    forth n e = elim (eqb_tells n g) [
      | inl t ↦ subst (Contains (nums ++ g ∷ [])) (sym t.1) (Contains-append_right nums (g ∷ []) g (Contains-here g [] g refl))
      | inr f ↦ Contains-append_left nums (g ∷ []) n ((h.marked n).0 (sym (ap (λ (b : Bool). b || has marks n) f.0) ∙ sym (marked n) ∙ e))
    ]

    or_true : (b : Bool) → (b || true) ≡ true
    or_true true = refl
    or_true false = refl

    back : (n : ℕ) → Contains (nums ++ g ∷ []) n → has more n ≡ true
    back n k = elim (Contains-append_cases nums (g ∷ []) n k) [
      | inl a ↦ marked n ∙ ap (λ (b : Bool). nat_eq n g || b) ((h.marked n).1 a) ∙ or_true (nat_eq n g)
      | inr b ↦ marked n ∙ ap (λ (b : Bool). b || has marks n) (is_same n (Contains-one g n b))
    ]
      where
        is_same : (n : ℕ) → g ≡ n → nat_eq n g ≡ true
        is_same n e = elim (eqb_tells n g) [ inl t ↦ t.0 | inr f ↦ absurd (f.1 (sym e)) ]

    pub certified_more : AreCertified value task live (nums ++ g ∷ []) (cuts ++ cut ∷ []) more
    certified_more = record {
      generators = h.generators ++ record { number = g; vector = vector } ∷ [];
      numbers_are = ap (λ (ns : List ℕ). ns ++ g ∷ []) h.numbers_are
          ∙ sym (map-append (λ (z : Numbered). z.number) h.generators (record { number = g; vector = vector } ∷ []));
      listed = All-append (Contains live) h.generators (record { number = g; vector = vector } ∷ []) h.listed
          (All-cons (Contains live) (record { number = g; vector = vector }) [] listed (All-nil (Contains live)));
      standing = All-append (λ z. StandsForOne task z.vector) h.generators (record { number = g; vector = vector } ∷ []) h.standing
          (All-cons (λ z. StandsForOne task z.vector) (record { number = g; vector = vector }) [] standing (All-nil (λ z. StandsForOne task z.vector)));
      valid = All-append (λ z. IsCertified task.file task.c z.vector) h.generators (record { number = g; vector = vector } ∷ []) h.valid
          (All-cons (λ z. IsCertified task.file task.c z.vector) (record { number = g; vector = vector }) [] certifies.valid
          (All-nil (λ z. IsCertified task.file task.c z.vector)));
      once = pairs-append IsOther h.generators (record { number = g; vector = vector } ∷ []) h.once
          (pairs-cons IsOther (record { number = g; vector = vector }) [] (All-nil (IsOther (record { number = g; vector = vector }))) (pairs-nil IsOther)) other;
      cuts_are = All-append (IsCutFor value task) cuts (cut ∷ []) h.cuts_are
          (All-cons (IsCutFor value task) cut [] certifies.is (All-nil (IsCutFor value task)));
      said = map-append (said_by value) cuts (cut ∷ [])
          ∙ ap₂ (λ (es : List Inequality) (e : Inequality). es ++ e ∷ []) h.said certifies.says
          ∙ sym (map-append (λ (z : Numbered). inequality_of task.file.objs task.c z.vector) h.generators (record { number = g; vector = vector } ∷ []));
      marked = λ n. (forth n, back n);
    }

-- what is marked is done
pub done_of_mark : {F : Type 0} (value : F → ℚ) (task : Task) (dd : Description) (live : List Numbered) (nums : List ℕ) (cuts : List (Cut F)) (marks : List Bool) (g : ℕ) →
    AreCertified value task live nums cuts marks → has marks g ≡ true → IsDone task dd nums g
done_of_mark value task dd live nums cuts marks g h e = λ v listed stands. (h.marked g).0 e

-- ---- all facets
-- other inequalities with the same members, whatever their order
pub same_facets : (file : Problem) (c : List ℚ) (facets other : List Inequality) → AreAllFacets file c facets → AllPairs (λ a b. a ≡ b → ⊥) other →
    ((e : Inequality) → Contains facets e → Contains other e) → ((e : Inequality) → Contains other e → Contains facets e) → AreAllFacets file c other
same_facets file c facets other h distinct there back = record {
  each = all_of_members (IsFacet file.objs (IsInWorkingImage file) c) other
      (λ e k. member_of (IsFacet file.objs (IsInWorkingImage file) c) facets e h.each (back e k));
  distinct = distinct;
  enough = λ e valid z long within. h.enough e valid z long
      (all_of_members (λ r. zero_ℚ ≤ℚ dot r z) (rows_of file.objs facets) (λ r k. member_of (λ r. zero_ℚ ≤ℚ dot r z) (rows_of file.objs other) r within (among r k)));
}
  where
    among : (r : List ℚ) → Contains (rows_of file.objs facets) r → Contains (rows_of file.objs other) r
    among r k = elim (Contains-cases (level file.objs) (map row_of facets) r k) [
      | inl e ↦ Contains-here (level file.objs) (map row_of other) r e
      | inr m ↦
          let s : (e : Inequality) × Contains facets e × (row_of e ≡ r) = Contains-map_source row_of facets r m in
          Contains-there (level file.objs) (map row_of other) r (subst (Contains (map row_of other)) s.2 (Contains-map row_of other s.0 (there s.0 s.1)))
    ]

module _ {F : Type 0} (value : F → ℚ) (holds : ℚ → Bool) (task : Task) (fit : IsFitting holds task) (rows : List (List ℚ)) (list : LiveList)
    (nums : List ℕ) (cuts : List (Cut F)) (marks : List Bool) (lower : IsLower task.file task.c rows list)
    (h : AreCertified value task list.live nums cuts marks)
    (all : All (λ g. StandsForOne task g.vector → Contains nums g.number) list.live) where
  abbrev told_of : List ℚ → Inequality
  told_of v = inequality_of task.file.objs task.c v

  abbrev standing_ones : List (List ℚ)
  standing_ones = weighted (vectors list.live)

  listed_at : (g : Numbered) → Contains h.generators g → Contains list.live g
  listed_at g k = member_of (Contains list.live) h.generators g h.listed k

  stands_at : (g : Numbered) → Contains h.generators g → StandsForOne task g.vector
  stands_at g k = member_of (λ z. StandsForOne task z.vector) h.generators g h.standing k

  vector_at : (g : Numbered) → Contains list.live g → Contains (vectors list.live) g.vector
  vector_at g k = Contains-map (λ (z : Numbered). z.vector) list.live g k

  wide : (v : List ℚ) → Contains (vectors list.live) v → length v ≡ suc task.file.objs
  wide v k = (in_cone task.file task.c rows list v (fits task holds fit) lower k).wide

  apart : (a b : Numbered) → Contains list.live a → Contains list.live b → a.number ≡ b.number → a.vector ≡ b.vector
  apart a b k l e = (numbers_tell_apart (suc task.file.objs) rows list lower.live.rising lower.live.described a b k l).0 e

  -- a live generator that stands for an inequality is a certified one
  certified_one : (v : List ℚ) → Contains standing_ones v → (g : Numbered) × Contains h.generators g × (g.vector ≡ v)
  certified_one v k =
      let in_filter = Contains-filter_source (λ (u : List ℚ). not (is_zero (entry u (length u)))) (vectors list.live) v k in
      let s : (z : Numbered) × Contains list.live z × (z.vector ≡ v) = Contains-map_source (λ (z : Numbered). z.vector) list.live v in_filter.0 in
      let other : entry v (suc task.file.objs) ≢ zero_ℚ =
      λ e. true≢false (sym in_filter.1 ∙ ap not (test_of_zero (entry v (length v)) (ap (λ (n : ℕ). entry v n) (wide v in_filter.0) ∙ e))) in
      let there : Contains nums s.0.number =
      member_of (λ g. StandsForOne task g.vector → Contains nums g.number) list.live s.0 all s.1 (subst (StandsForOne task) (sym s.2) other) in
      let m : (z : Numbered) × Contains h.generators z × (z.number ≡ s.0.number) =
      Contains-map_source (λ (z : Numbered). z.number) h.generators s.0.number (subst (λ (ns : List ℕ). Contains ns s.0.number) h.numbers_are there) in
      (m.0, m.1, apart m.0 s.0 (listed_at m.0 m.1) s.1 m.2 ∙ s.2)

  -- and the other way round
  standing_one : (g : Numbered) → Contains h.generators g → Contains standing_ones g.vector
  standing_one g k =
      let at : Contains (vectors list.live) g.vector = vector_at g (listed_at g k) in
      Contains-filter (λ (u : List ℚ). not (is_zero (entry u (length u)))) (vectors list.live) g.vector at
      (ap not (test_of_other (entry g.vector (length g.vector))
      (λ e. stands_at g k (ap (λ (n : ℕ). entry g.vector n) (sym (wide g.vector at)) ∙ e))))

  all_certified : All (IsCertified task.file task.c) standing_ones
  all_certified = all_of_members (IsCertified task.file task.c) standing_ones (λ v k.
      let s = certified_one v k in
      subst (IsCertified task.file task.c) s.2 (member_of (λ g. IsCertified task.file task.c g.vector) h.generators s.0 h.valid s.1))

  -- two generators that stand for one inequality are the same
  once : (a b : Numbered) → Contains h.generators a → Contains h.generators b → (a.number ≡ b.number → ⊥) → told_of a.vector ≡ told_of b.vector → ⊥
  once a b k l other e =
      let at_a : IsWeighted task.file task.c a.vector =
      lower_generators.weighted task.file task.c rows list a.vector (fits task holds fit) lower (vector_at a (listed_at a k)) (stands_at a k) in
      let at_b : IsWeighted task.file task.c b.vector =
      lower_generators.weighted task.file task.c rows list b.vector (fits task holds fit) lower (vector_at b (listed_at b l)) (stands_at b l) in
      other ((numbers_tell_apart (suc task.file.objs) rows list lower.live.rising lower.live.described a b (listed_at a k) (listed_at b l)).1
      (at_a.same ∙ ap (dual_vector task.c) e ∙ sym at_b.same))

  pub facets_are : AreFacetCuts value task cuts
  facets_are = record {
    each = h.cuts_are;
    all = subst (AreAllFacets task.file task.c) (sym h.said)
        (same_facets task.file task.c (map told_of standing_ones) (map (λ g. told_of g.vector) h.generators)
        (certified_are_facets task.file task.c rows list (fits task holds fit) lower all_certified)
        (pairs-map (λ a b. a ≡ b → ⊥) (λ (g : Numbered). told_of g.vector) h.generators
        (pairs-weaker (λ a b. a.number ≡ b.number → ⊥) (λ a b. told_of a.vector ≡ told_of b.vector → ⊥) h.generators once h.once))
        there back);
  }
    where
      there : (e : Inequality) → Contains (map told_of standing_ones) e → Contains (map (λ g. told_of g.vector) h.generators) e
      there e k =
          let s : (v : List ℚ) × Contains standing_ones v × (told_of v ≡ e) = Contains-map_source told_of standing_ones e k in
          let m = certified_one s.0 s.1 in
          subst (Contains (map (λ g. told_of g.vector) h.generators)) (ap told_of m.2 ∙ s.2)
          (Contains-map (λ (g : Numbered). told_of g.vector) h.generators m.0 m.1)

      back : (e : Inequality) → Contains (map (λ g. told_of g.vector) h.generators) e → Contains (map told_of standing_ones) e
      back e k =
          let s : (g : Numbered) × Contains h.generators g × (told_of g.vector ≡ e) =
          Contains-map_source (λ (g : Numbered). told_of g.vector) h.generators e k in
          subst (Contains (map told_of standing_ones)) s.2 (Contains-map told_of standing_ones s.0.vector (standing_one s.0 s.1))
