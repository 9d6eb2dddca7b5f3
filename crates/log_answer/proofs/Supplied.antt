-- What stands after a solved log, for what a checker keeps of it.
use Rattle.std.proofs.Common.{◌≡◌, ◌≢◌, ℕ, suc, ◌≤◌, ◌-◌, List, [], sym, ap, ◌∙◌, subst, arith, refl, map, length, take, slice_index_or, true, not, All, Contains, Option, None, Some, ◌⊎◌, inl, inr}
use Rattle.std.specs.Prelude.{unwrap_or, IsSome}
use Rattle.std.proofs.lemmas.List.{length-map}
use Rattle.exact_field.specs.Rational.{ℚ, zero_ℚ, one_ℚ}
use Rattle.exact_field.specs.Order.{same_ℚ}
use Rattle.exact_field.specs.Vector.{entry, front, last}
use Rattle.exact_field.proofs.Comparison.{same_ℚ-is}
use Rattle.frac128.specs.declared.vectors.Spot.{Spot}
use Rattle.polyhedra.specs.Exactness.{homogenised}
use Rattle.polyhedra.specs.LiveList.{Numbered}
use Rattle.polyhedra.proofs.Members.{all_of_members, member_of, Contains-map}
use Rattle.polyhedra.proofs.Tests.{same_tests, refuted, not_true}
use Rattle.upper_image.specs.UpperImage.{turned}
use Rattle.vlp_problem.specs.declared.problem.Dir.{Dir}
use Rattle.vlp_problem.specs.declared.problem.Problem.{Problem}
use Rattle.deriv_log.specs.declared.entry.Entry.{Entry}
use Rattle.log_rules.specs.Laws.{Stands}
use Rattle.log_rules.specs.Live.{Stated, State, lines, state, y_of, t_of, preimages}
use Rattle.log_rules.specs.Meets.{MeetsSolved}
use Rattle.log_rules.specs.Order.{has}
use Rattle.log_rules.specs.Order as order
use Rattle.log_rules.specs.Proves.{shown}
use Rattle.log_rules.proofs.KeepsDescription.{IsKept, kept, rules_keep_description}
use Rattle.log_rules.proofs.NormedMembers.{IsPoint, IsNormedWay, one_standing, one_not_zero}
use Rattle.log_rules.proofs.SolvedIsSolved.{solved_met}
use Rattle.entry_checks.specs.Cuts.{stated}
use Rattle.entry_checks.specs.declared.corner.Cut.{Cut}
use Rattle.log_live.specs.Live.{numbered_of, HasPreimage, listed}
use Rattle.log_live.specs.declared.generator.Generator.{Generator}
use Rattle.log_answer.specs.Members.{is_point, IsReached, member, shown_of}
use Rattle.log_answer.specs.Supplies.{Supplies}
use Rattle.log_rules.proofs.NamedOnce.{named_once}

-- the one pre-image of a list of one or none
first_listed : (o : Option (List Spot)) → slice_index_or (listed o) 0 [] ≡ unwrap_or o []
first_listed None = refl
first_listed (Some x) = refl

some_listed : (o : Option (List Spot)) → listed o ≢ [] → IsSome o
some_listed None h = absurd (h refl)
some_listed (Some x) h = refl

module _ (file : Problem) (entries : List Entry) (dir : Dir) (c : List ℚ) (generators : List Generator) (cuts : List Cut) (used facets : List ℕ)
    (h : Supplies file entries dir c generators cuts used facets) where
  abbrev pub s : State
  s = state file.objs entries

  pub met : MeetsSolved file entries s
  met = solved_met file entries h.meet h.log.ends h.ended

  pub stands : Stands file (lines entries) s
  stands = rules_keep_description file entries h.meet met.started

  pub holds : IsKept file (lines entries) s (has order.start entries)
  holds = kept file entries h.meet

  pub is_live : (g : Generator) → Contains generators g → Contains s.list.live (numbered_of g)
  is_live g m = subst (λ (gs : List Numbered). Contains gs (numbered_of g)) h.live (Contains-map numbered_of generators g m)

  -- a kept generator is (y, 1) or (y, 0)
  pub kind_of : (g : Generator) → Contains generators g → IsPoint file.objs (numbered_of g) ⊎ IsNormedWay file.objs (numbered_of g)
  kind_of g m = one_standing file (lines entries) s stands (numbered_of g) (is_live g m)

  -- with an entry for each objective and one more
  pub wide_of : (g : Generator) → Contains generators g → length g.vector ≡ suc file.objs
  wide_of g m = member_of (λ (v : List ℚ). length v ≡ suc file.objs) (map (λ (x : Numbered). x.vector) s.list.live) g.vector stands.wide.wide
      (Contains-map (λ (x : Numbered). x.vector) s.list.live (numbered_of g) (is_live g m))

  pub front_of : (g : Generator) → Contains generators g → front g.vector ≡ y_of file.objs (numbered_of g)
  front_of g m = let w = wide_of g m in let n : length g.vector - 1 ≡ file.objs = omega (arith, w) in ap (λ (k : ℕ). take k g.vector) n

  pub front_wide : (g : Generator) → Contains generators g → length (front g.vector) ≡ file.objs
  front_wide g m = ap (λ (v : List ℚ). length v) (front_of g m) ∙ elim (kind_of g m) [ inl p ↦ p.wide | inr d ↦ d.wide ]

  pub last_of : (g : Generator) → Contains generators g → last g.vector ≡ t_of file.objs (numbered_of g)
  last_of g m = ap (entry g.vector) (wide_of g m)

  pub reached_of : (g : Generator) → Contains generators g → IsReached g
  reached_of g m = record {
    wide = let w = wide_of g m in omega (arith, w);
    reached = some_listed g.pre (λ e. member_of (λ (x : Numbered). preimages entries x.number ≢ []) s.list.live (numbered_of g) met.reached (is_live g m)
        (member_of (HasPreimage entries) generators g h.preimages m ∙ e));
  }

  pub all_reached : All IsReached generators
  all_reached = all_of_members IsReached generators reached_of

  -- points are told from directions
  pub point_test : (g : Generator) → Contains generators g → is_point g ≡ same_ℚ (t_of file.objs (numbered_of g)) one_ℚ
  point_test g m = ap (λ (t : ℚ). same_ℚ t one_ℚ) (last_of g m)

  pub direction_test : (g : Generator) → Contains generators g → not (is_point g) ≡ same_ℚ (t_of file.objs (numbered_of g)) zero_ℚ
  direction_test g m = go (kind_of g m)
    where
      t : ℚ
      t = t_of file.objs (numbered_of g)

      go : IsPoint file.objs (numbered_of g) ⊎ IsNormedWay file.objs (numbered_of g) → not (is_point g) ≡ same_ℚ (t_of file.objs (numbered_of g)) zero_ℚ
      go (inl p) = same_tests (not (is_point g)) (same_ℚ (t_of file.objs (numbered_of g)) zero_ℚ)
          (λ e. absurd (not_true (is_point g) e (point_test g m ∙ (same_ℚ-is (t_of file.objs (numbered_of g)) one_ℚ).1 p.level)))
          (λ e. absurd (one_not_zero (sym p.level ∙ (same_ℚ-is (t_of file.objs (numbered_of g)) zero_ℚ).0 e)))
      go (inr d) = same_tests (not (is_point g)) (same_ℚ (t_of file.objs (numbered_of g)) zero_ℚ)
          (λ e. (same_ℚ-is (t_of file.objs (numbered_of g)) zero_ℚ).1 d.level)
          (λ e. refuted (is_point g) (λ k. one_not_zero (sym ((same_ℚ-is (t_of file.objs (numbered_of g)) one_ℚ).0 (sym (point_test g m) ∙ k)) ∙ d.level)))

  -- with its y and t
  pub point_whole : (g : Generator) → Contains generators g → is_point g ≡ true → g.vector ≡ homogenised (front g.vector) one_ℚ
  point_whole g m e = go (kind_of g m)
    where
      go : IsPoint file.objs (numbered_of g) ⊎ IsNormedWay file.objs (numbered_of g) → g.vector ≡ homogenised (front g.vector) one_ℚ
      go (inl p) = p.same ∙ ap (λ (y : List ℚ). homogenised y one_ℚ) (sym (front_of g m))
      go (inr d) = absurd (one_not_zero (sym ((same_ℚ-is (t_of file.objs (numbered_of g)) one_ℚ).0 (sym (point_test g m) ∙ e)) ∙ d.level))

  pub direction_whole : (g : Generator) → Contains generators g → not (is_point g) ≡ true → g.vector ≡ homogenised (front g.vector) zero_ℚ
  direction_whole g m e = go (kind_of g m)
    where
      go : IsPoint file.objs (numbered_of g) ⊎ IsNormedWay file.objs (numbered_of g) → g.vector ≡ homogenised (front g.vector) zero_ℚ
      go (inl p) = absurd (not_true (is_point g) e (point_test g m ∙ (same_ℚ-is (t_of file.objs (numbered_of g)) one_ℚ).1 p.level))
      go (inr d) = d.same ∙ ap (λ (y : List ℚ). homogenised y zero_ℚ) (sym (front_of g m))

  pub shown_same : (g : Generator) → Contains generators g → shown file entries (numbered_of g) ≡ shown_of (member dir g)
  shown_same g m =
      let vector : turned file.dir (y_of file.objs (numbered_of g)) ≡ turned dir (front g.vector) =
      ap (λ (d : Dir). turned d (y_of file.objs (numbered_of g))) (sym h.direction) ∙ ap (turned dir) (sym (front_of g m)) in
      let pre : slice_index_or (preimages entries g.number) 0 [] ≡ unwrap_or g.pre [] =
      ap (λ (xs : List (List Spot)). slice_index_or xs 0 []) (member_of (HasPreimage entries) generators g h.preimages m) ∙ first_listed g.pre in
      cc

  -- the numbers of the rows in use are those of cuts, and a named cut is in use
  pub used_exist : All (λ k. (1 ≤ k) × (k ≤ length cuts)) used
  used_exist =
      let many : length s.cuts ≡ length cuts = sym (ap (λ (xs : List Stated). length xs) h.stands) ∙ length-map cuts stated in
      subst (λ (ks : List ℕ). All (λ k. (1 ≤ k) × (k ≤ length cuts)) ks) (sym h.used)
      (subst (λ (n : ℕ). All (λ k. (1 ≤ k) × (k ≤ n)) s.used) many holds.exist)

  pub named_used : All (Contains used) facets
  named_used =
      subst (λ (ks : List ℕ). All (Contains ks) facets) (sym h.used)
      (subst (λ (ks : List ℕ). All (Contains s.used) ks) (sym h.names) (named_once file entries h.meet).used)
