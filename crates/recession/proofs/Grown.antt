-- The first cuts and the lines as they grow.
use Rattle.std.proofs.Common.{◌≡◌, ◌+◌, List, [], ◌∷◌, ◌++◌, map, length, reverse, All, sym, ◌∙◌, subst, arith, ◌≤◌, ◌<◌, false}
use Rattle.std.proofs.lemmas.List.{length-map, length-append, map-append}
use Rattle.std.proofs.lemmas.List.Elements.{All-nil, All-cons, All-head, All-map, All-push}
use Rattle.exact_field.specs.Rational.{ℚ, zero_ℚ, neg_ℚ}
use Rattle.exact_field.specs.Vector.{dot}
use Rattle.exact_field.proofs.Rationals.{one-not-zero}
use Rattle.polyhedra.specs.Negatives.{negated}
use Rattle.polyhedra.proofs.Lists.{HasWidth, all_from_map}
use Rattle.polyhedra.proofs.Members.{all_of_members, member_of}
use Rattle.lineality.specs.Lines.{IsInLineality}
use Rattle.lineality.proofs.Level.{IsLevel}
use Rattle.lin_rows.specs.Complement.{AreComplement}
use Rattle.vlp_problem.specs.Sides.{IsFeasible}
use Rattle.upper_image.specs.UpperImage.{IsWorkingDirection}
use Rattle.upper_image.proofs.Lines.{cuts_are_level}
use Rattle.upper_image.proofs.WorkingImage.{ray_shown, working_image_convex}
use Rattle.overflows.specs.Base.{IsBaseChoice, IsSide}
use Rattle.overflows.specs.Preimages.{IsPreimageOf}
use Rattle.lp_form.specs.declared.shown.Cut.{Cut}
use Rattle.lp_form.specs.declared.shown.Preimage.{Preimage}
use Rattle.outer_approx.specs.Cuts.{IsCutFor}
use Rattle.outer_approx.specs.Lines.{RunsBothWays, told_by}
use Rattle.outer_approx.specs.Task.{Task}
use Rattle.outer_approx.specs.declared.log.Line.{Line}
use Rattle.recession.specs.First.{AreFirstCuts}
use Rattle.recession.specs.Asking.{IsProper}
use Rattle.recession.specs.Further.{AreFound, AreTail, IsNext, IsOffAcross, normals_of}
use Rattle.recession.specs.declared.further.Next.{Next}
use Rattle.recession.proofs.Asking_ends.{cut_normal, sparse_there}
use Rattle.recession.proofs.Free.{HasFree, has_free-none, has_free-more}
use Rattle.recession.proofs.Tail.{all_sides, tail_more, tail_none}
use Rattle.recession.proofs.Whole.{complement_by_rank, full_rank_without, lines_by_rank}

module _ {F : Type 0} (value : F → ℚ) (task : Task) where
  -- some cuts with independent normals, and lines that are found after them, together at most as many as there are objectives
  pub record AreGrown (cuts : List (Cut F)) (ls : List (Line F)) : Type 0 where
    pub each : All (IsCutFor value task) cuts
    pub some : 1 ≤ length cuts
    pub few : length cuts + length ls ≤ task.file.objs
    pub free : HasFree task.file.objs (normals_of value cuts)
    pub found : AreFound value task (normals_of value cuts) ls

  normal_wide : (cut : Cut F) → IsCutFor value task cut → length (map value cut.w) ≡ task.file.objs
  normal_wide cut h = length-map cut.w value ∙ h.wide

  -- ---- what is level
  -- the normal of a cut is 0 along each vector of the lineality space
  pub cut_level : (cut : Cut F) → IsCutFor value task cut → (d : List ℚ) → IsInLineality (IsWorkingDirection task.file) d → dot (map value cut.w) d ≡ zero_ℚ
  cut_level cut h d k =
      let u = sparse_there value cut.u in
      let v = sparse_there value cut.v in
      cuts_are_level task.file task.c (map value cut.w) (value cut.gamma) u.0 v.0 d (h.shown u.0 v.0 u.1 v.1) k

  direction : (d : List ℚ) (parts : Preimage F) → length d ≡ task.file.objs → IsPreimageOf value task.file task.c task.weights d false parts →
      IsWorkingDirection task.file d
  direction d parts wide h =
      let x = sparse_there value parts.x in
      let m = sparse_there value parts.m in
      ray_shown task.file d x.0 m.0 wide (h.chosen x.0 x.1) (h.above x.0 m.0 x.1 m.1)

  -- what runs both ways is in the lineality space
  line_lineal : (line : Line F) → length (told_by value line) ≡ task.file.objs → RunsBothWays value task line →
      IsInLineality (IsWorkingDirection task.file) (told_by value line)
  line_lineal line wide h =
      let d : List ℚ = told_by value line in
      record { forth = direction d line.forth wide h.forth_is; back = direction (negated d) line.back (length-map d neg_ℚ ∙ wide) h.back_is }

  found_lineal : (normals : List (List ℚ)) (ls : List (Line F)) → AreFound value task normals ls →
      All (IsInLineality (IsWorkingDirection task.file)) (map (told_by value) ls)
  found_lineal normals ls h =
      All-map (IsInLineality (IsWorkingDirection task.file)) (told_by value) ls
      (all_of_members (λ line. IsInLineality (IsWorkingDirection task.file) (told_by value line)) ls
      (λ line c. line_lineal line
      (member_of (λ line. length (told_by value line) ≡ task.file.objs) ls line (all_from_map (HasWidth task.file.objs) (told_by value) ls h.tail.echelon.wide.wide) c)
      (member_of (RunsBothWays value task) ls line h.both_ways c)))

  -- ---- as they grow
  -- the normal of a cut is not 0 at c
  pub grown_first : (cut : Cut F) → IsCutFor value task cut → length task.c ≡ task.file.objs → AreGrown (cut ∷ []) []
  grown_first cut h long =
      let u = sparse_there value cut.u in
      let v = sparse_there value cut.v in
      let off : IsOffAcross task.file.objs [] (map value cut.w) = record {
        d = task.c;
        wide = long;
        across = All-nil (λ n. dot n task.c ≡ zero_ℚ);
        off = λ e. one-not-zero (sym (h.shown u.0 v.0 u.1 v.1).scaled ∙ e);
      } in
      record {
        each = All-cons (IsCutFor value task) cut [] h (All-nil (IsCutFor value task));
        some = omega arith;
        few = omega (arith, task.file.some_objective);
        free = has_free-more task.file.objs [] (map value cut.w) (normal_wide cut h) (has_free-none task.file.objs) off;
        found = record { both_ways = All-nil (RunsBothWays value task); tail = tail_none task.file.objs (normals_of value (cut ∷ [])) };
      }

  pub grown_cut : (cuts : List (Cut F)) (ls : List (Line F)) (cut : Cut F) → AreGrown cuts ls → length cuts + length ls < task.file.objs →
      IsCutFor value task cut → IsOffAcross task.file.objs (normals_of value cuts) (map value cut.w) → AreGrown (cuts ++ cut ∷ []) ls
  grown_cut cuts ls cut g fewer h off =
      let more : normals_of value (cuts ++ cut ∷ []) ≡ normals_of value cuts ++ map value cut.w ∷ [] = map-append (λ (k : Cut F). map value k.w) cuts (cut ∷ []) in
      record {
        each = All-push (IsCutFor value task) cuts cut g.each h;
        some = omega (arith, g.some, length-append cuts (cut ∷ []));
        few = omega (arith, fewer, length-append cuts (cut ∷ []));
        free = subst (HasFree task.file.objs) (sym more) (has_free-more task.file.objs (normals_of value cuts) (map value cut.w) (normal_wide cut h) g.free off);
        found = record {
          both_ways = g.found.both_ways;
          tail = subst (λ (ns : List (List ℚ)). AreTail task.file.objs ns (map (told_by value) ls)) (sym more)
              (tail_more task.file.objs (normals_of value cuts) (map (told_by value) ls) (map value cut.w) g.found.tail
              (all_of_members (λ d. dot (map value cut.w) d ≡ zero_ℚ) (map (told_by value) ls)
              (λ d c. cut_level cut h d (member_of (IsInLineality (IsWorkingDirection task.file)) (map (told_by value) ls) d (found_lineal (normals_of value cuts) ls g.found) c))));
        };
      }

  pub grown_line : (cuts : List (Cut F)) (ls : List (Line F)) (line : Line F) → AreGrown cuts ls → length cuts + length ls < task.file.objs →
      AreFound value task (normals_of value cuts) (line ∷ ls) → AreGrown cuts (line ∷ ls)
  grown_line cuts ls line g fewer h = record { each = g.each; some = g.some; few = omega (arith, fewer); free = g.free; found = h }

  -- ---- as many as there are objectives
  pub grown_all : (cuts : List (Cut F)) (ls : List (Line F)) (x : List F) → AreGrown cuts ls → task.file.objs ≤ length cuts + length ls →
      IsBaseChoice task.file (map value x) → AreFirstCuts value task x ls cuts
  grown_all cuts ls x g enough choice =
      let q = task.file.objs in
      let normals : List (List ℚ) = normals_of value cuts in
      let ds : List (List ℚ) = map (told_by value) ls in
      let many : length cuts + length ls ≡ q = omega (arith, g.few, enough) in
      let tail : AreTail q normals ds = g.found.tail in
      let level : All (IsLevel ds) normals = all_of_members (IsLevel ds) normals
      (λ n c. all_of_members (λ d. dot n d ≡ zero_ℚ) ds (λ d k. member_of (λ n. dot n d ≡ zero_ℚ) normals n
      (member_of (λ v. All (λ n. dot n v ≡ zero_ℚ) normals) ds d tail.orthogonal k) c)) in
      let rank = full_rank_without q ds tail.echelon normals level g.free
      (let a = length-map cuts (λ (k : Cut F). map value k.w) in let b = length-map ls (told_by value) in omega (arith, many, a, b)) in
      let whole : AreComplement q normals ds = complement_by_rank q ds tail.echelon normals level rank tail.orthogonal in
      record {
        choice = choice;
        shown = record {
          sides = all_from_map (IsSide q normals) (told_by value) ls (all_sides q normals ds whole);
          both_ways = g.found.both_ways;
          echelon = tail.echelon;
        };
        lines_are = lines_by_rank q ds tail.echelon normals level (IsWorkingDirection task.file) rank (found_lineal normals ls g.found)
            (λ d h. (working_image_convex task.file).directions_wide d h.forth)
            (λ d h. All-map (λ n. dot n d ≡ zero_ℚ) (λ (k : Cut F). map value k.w) cuts
            (all_of_members (λ k. dot (map value k.w) d ≡ zero_ℚ) cuts (λ k c. cut_level k (member_of (IsCutFor value task) cuts k g.each c) d h)));
        each = g.each;
        some = g.some;
        many = many;
        rank = rank;
      }

  pub proper_of : (cuts : List (Cut F)) (x : List ℚ) → All (IsCutFor value task) cuts → 1 ≤ length cuts → IsFeasible task.file x → IsProper task
  proper_of [] x each some feasible = absurd (omega arith)
  proper_of (cut ∷ cuts) x each some feasible =
      record { feasible = (x, feasible); bounded = (map value cut.w, cut_normal value task cut (All-head (IsCutFor value task) cut cuts each)) }

  -- what is next, as it was read to be
  pub next_is : (seen cuts : List (Cut F)) (before ls : List (Line F)) (n m : Next F) → seen ≡ cuts → before ≡ ls → n ≡ m →
      IsNext value task seen (reverse before) n → IsNext value task cuts (reverse ls) m
  next_is seen cuts before ls n m same lines_same is h =
      subst (λ (k : Next F). IsNext value task cuts (reverse ls) k) is
      (subst (λ (l : List (Line F)). IsNext value task cuts (reverse l) n) lines_same
      (subst (λ (cs : List (Cut F)). IsNext value task cs (reverse before) n) same h))
