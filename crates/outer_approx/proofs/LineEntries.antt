-- The lines of a log, after its cuts.
use Rattle.std.proofs.Common.{◌≡◌, ℕ, ◌≤◌, ◌<◌, List, [], ◌∷◌, ◌++◌, map, length, All, AllPairs, Contains, IsTrue, true, false, true≢false, not, refl, sym, ap, ◌∙◌, subst}
use Rattle.std.proofs.lemmas.List.{length-map, map-append}
use Rattle.std.proofs.lemmas.List.Elements.{All-cons, All-nil, Contains-append_right}
use Rattle.std.proofs.lemmas.Simd.{map-map}
use Rattle.exact_field.specs.Rational.{ℚ, zero_ℚ}
use Rattle.exact_field.specs.Vector.{entry}
use Rattle.polyhedra.specs.Inequality.{Inequality}
use Rattle.polyhedra.proofs.Lists.{Contains-here}
use Rattle.polyhedra.proofs.Members.{member_of, pairs-head, pairs-tail}
use Rattle.polyhedra.proofs.Tests.{both_hold}
use Rattle.lineality.specs.Lines.{leading_place}
use Rattle.frac128.specs.declared.vectors.Spot.{Spot}
use Rattle.vlp_problem.specs.Sides.{IsFeasible}
use Rattle.upper_image.specs.Shows.{ShowsFeasible}
use Rattle.upper_image.specs.Spots.{dense}
use Rattle.deriv_log.specs.Formed.{is_formed}
use Rattle.word_lines.specs.Parts.{is_formed_part}
use Rattle.word_lines.specs.Parts.{sparse, vector}
use Rattle.deriv_log.specs.declared.entry.Entry.{Entry}
use Rattle.deriv_log.specs.declared.entry.Entry.TheVariants.{Line}
use Rattle.log_rules.specs.Live.{State, inequality, lines, preimages, state}
use Rattle.log_rules.specs.Meets.{Meets}
use Rattle.log_rules.specs.Order.{has, in_order}
use Rattle.log_rules.specs.Order as order
use Rattle.log_rules.proofs.Entries.{state-push}
use Rattle.overflows.specs.Base.{IsBaseChoice, IsSide, trail_normals}
use Rattle.overflows.specs.Trails.{IsBaseDirection, IsBaseLine}
use Rattle.lp_form.specs.Sparse.{IsSparseOf}
use Rattle.lp_form.specs.declared.shown.Cut.{Cut as CutOf}
use Rattle.outer_approx.specs.Cuts.{said_by}
use Rattle.outer_approx.specs.Lines.{AreLinesFor, RunsBothWays, told_by}
use Rattle.outer_approx.specs.Standing.{IsBegun}
use Rattle.outer_approx.specs.Task.{Task}
use Rattle.outer_approx.specs.declared.log.Line.{Line as LineOf}
use Rattle.outer_approx.specs.Lined.{SaysLine}
use Rattle.outer_approx.proofs.Growing.{grows, has_same, lines_more, preimages_stay}

-- ---- lists. General
-- each earlier element is related to one among others
pub earlier : {X : Type 0} (R : X → X → Type 0) (before : List X) (x : X) (rest : List X) → AllPairs R (before ++ x ∷ rest) → All (λ y. R y x) before
earlier R [] x rest h = All-nil (λ y. R y x)
earlier R (y ∷ before) x rest h = All-cons (λ z. R z x) y before
    (member_of (R y) (before ++ x ∷ rest) x (pairs-head R y (before ++ x ∷ rest) h) (Contains-append_right before (x ∷ rest) x (Contains-here x rest x refl)))
    (earlier R before x rest (pairs-tail R y (before ++ x ∷ rest) h))

-- a line may stand after a duality entry, and before a `start`
line_in_order : (trail : List Entry) → IsTrue (has order.duality trail) → has order.start trail ≡ false → IsTrue (in_order trail order.line)
line_in_order [] h k = absurd (true≢false (sym h))
line_in_order (t ∷ trail) h k = both_hold _ _ (both_hold _ _ (both_hold _ _ h refl) (ap not k)) refl

module _ {F : Type 0} (value : F → ℚ) where
  -- a list of the field's numbers in a slice, with its sparse vector
  pub of_slice : (list slice : List F) (spots : List Spot) → slice ≡ list → IsSparseOf value slice spots → IsSparseOf value list spots
  of_slice list slice spots same h = subst (λ (xs : List F). IsSparseOf value xs spots) same h

  -- the entry of a line, by its parts
  pub line_said : (point : List F) (line : LineOf F) (d : List ℚ) (x ray m back n : List Spot) → d ≡ map value line.d → IsTrue (is_formed_part (vector d)) →
      IsSparseOf value point x → IsTrue (is_formed_part (sparse x)) → IsSparseOf value line.forth.x ray → IsTrue (is_formed_part (sparse ray)) →
      IsSparseOf value line.forth.m m → IsTrue (is_formed_part (sparse m)) → IsSparseOf value line.back.x back → IsTrue (is_formed_part (sparse back)) →
      IsSparseOf value line.back.m n → IsTrue (is_formed_part (sparse n)) → SaysLine value point line (Line d x ray m back n)
  line_said point line d x ray m back n d_is d_written x_is x_written ray_is ray_written m_is m_written back_is back_written n_is n_written = record {
    x = x;
    ray = ray;
    m = m;
    back = back;
    n = n;
    is = ap (λ v. Line v x ray m back n) d_is;
    x_is = x_is;
    ray_is = ray_is;
    m_is = m_is;
    back_is = back_is;
    n_is = n_is;
    written = both_hold (is_formed_part (vector d)) _ d_written (both_hold (is_formed_part (sparse x)) _ x_written
        (both_hold (is_formed_part (sparse ray)) _ ray_written (both_hold (is_formed_part (sparse m)) _ m_written
        (both_hold (is_formed_part (sparse back)) _ back_written (both_hold (is_formed_part (sparse n)) true n_written refl)))));
  }

-- a trail with the cuts and the first lines, and the entry of the next line
module _ {F : Type 0} (value : F → ℚ) (task : Task) (point : List F) (choice : IsBaseChoice task.file (map value point)) (cuts : List (CutOf F))
    (before rest : List (LineOf F)) (line : LineOf F) (are : AreLinesFor value task (map (λ (cut : CutOf F). map value cut.w) cuts) (before ++ line ∷ rest))
    (trail : List Entry) (h : IsBegun task (map (told_by value) before) (map (said_by value) cuts) trail) (e : Entry)
    (s : SaysLine value point line e) where
  abbrev told : List ℚ
  told = told_by value line

  abbrev said : Entry
  said = Line (told_by value line) s.x s.ray s.m s.back s.n

  here : Contains (before ++ line ∷ rest) line
  here = Contains-append_right before (line ∷ rest) line (Contains-here line rest line refl)

  side : IsSide task.file.objs (map (λ (cut : CutOf F). map value cut.w) cuts) told
  side = member_of (λ (l : LineOf F). IsSide task.file.objs (map (λ (cut : CutOf F). map value cut.w) cuts) (told_by value l)) (before ++ line ∷ rest) line are.sides here

  runs : RunsBothWays value task line
  runs = member_of (RunsBothWays value task) (before ++ line ∷ rest) line are.both_ways here

  -- the normals of the trail are those of the cuts
  normals : trail_normals task.file.objs trail ≡ map (λ (cut : CutOf F). map value cut.w) cuts
  normals =
      sym (map-map (λ (i : Inequality). i.normal) inequality (state task.file.objs trail).cuts)
      ∙ ap (map (λ (i : Inequality). i.normal)) h.cuts_are
      ∙ map-map (λ (i : Inequality). i.normal) (said_by value) cuts

  wide : length point ≡ task.file.cols
  wide = sym (length-map point value) ∙ choice.feasible.width

  -- the point in full
  full : dense task.file.cols s.x ≡ map value point
  full = subst (λ (n : ℕ). dense n s.x ≡ map value point) wide s.x_is.same

  feasible : ShowsFeasible task.file s.x
  feasible = record {
    index = subst (λ (n : ℕ). All (λ t. t.at ≤ n) s.x) wide s.x_is.vector.places;
    side = subst (λ (v : List ℚ). IsFeasible task.file v) (sym full) choice.feasible;
  }

  told_all : map (told_by value) (before ++ line ∷ rest) ≡ map (told_by value) before ++ told ∷ map (told_by value) rest
  told_all = map-append (told_by value) before (line ∷ rest)

  rises : All (λ d. leading_place d < leading_place told) (lines trail)
  rises = subst (All (λ d. leading_place d < leading_place told)) (sym h.lines_are)
      (earlier (λ d d'. leading_place d < leading_place d') (map (told_by value) before) told (map (told_by value) rest)
      (subst (AllPairs (λ d d'. leading_place d < leading_place d')) told_all are.echelon.places_rise))

  clear : All (λ d. entry d (leading_place told) ≡ zero_ℚ) (lines trail)
  clear = subst (All (λ d. entry d (leading_place told) ≡ zero_ℚ)) (sym h.lines_are)
      (earlier (λ d d'. entry d (leading_place d') ≡ zero_ℚ) (map (told_by value) before) told (map (told_by value) rest)
      (subst (AllPairs (λ d d'. entry d (leading_place d') ≡ zero_ℚ)) told_all are.echelon.others_zero))

  meets : Meets task.file trail said
  meets = record {
    order = line_in_order trail h.open_trail.duality h.unstarted;
    rules = record {
      lengths = side.flat.wide;
      scaled = side.starts;
      rises = rises;
      clear = clear;
      feasible = feasible;
      recedes = runs.forth_is.chosen s.ray s.ray_is;
      above = runs.forth_is.above s.ray s.m s.ray_is s.m_is;
      back_recedes = runs.back_is.chosen s.back s.back_is;
      back_above = runs.back_is.above s.back s.n s.back_is s.n_is;
    };
  }

  base_line : IsBaseLine task.file task.c task.weights trail told s.x s.ray s.m s.back s.n
  base_line = record {
    side = subst (λ (ns : List (List ℚ)). IsSide task.file.objs ns told) (sym normals) side;
    chosen = subst (λ (v : List ℚ). IsBaseChoice task.file v) (sym full) choice;
    read_forth = IsBaseDirection.read (runs.forth_is.read s.ray s.m s.ray_is s.m_is);
    read_back = IsBaseDirection.read (runs.back_is.read s.back s.n s.back_is s.n_is);
  }

  stands : state task.file.objs (trail ++ said ∷ []) ≡ state task.file.objs trail
  stands = state-push task.file.objs trail said

  said_begun : IsBegun task (map (told_by value) (before ++ line ∷ [])) (map (said_by value) cuts) (trail ++ said ∷ [])
  said_begun = record {
    open_trail = grows task trail said h.open_trail meets base_line (subst (λ (d : Entry). IsTrue (is_formed d)) s.is s.written) refl refl;
    unstarted = has_same order.start trail said refl ∙ h.unstarted;
    cuts_are = ap (λ (a : State). map inequality a.cuts) stands ∙ h.cuts_are;
    lines_are = lines_more trail (said ∷ []) ∙ ap (λ (ds : List (List ℚ)). ds ++ told ∷ []) h.lines_are
        ∙ sym (map-append (told_by value) before (line ∷ []));
  }

  pub line_begun : IsBegun task (map (told_by value) (before ++ line ∷ [])) (map (said_by value) cuts) (trail ++ e ∷ [])
  line_begun = subst (λ (d : Entry). IsBegun task (map (told_by value) (before ++ line ∷ [])) (map (said_by value) cuts) (trail ++ d ∷ [])) (sym s.is) said_begun

  pub line_unreached : (k : ℕ) → preimages (trail ++ e ∷ []) k ≡ preimages trail k
  line_unreached k = ap (λ (d : Entry). preimages (trail ++ d ∷ []) k) s.is ∙ preimages_stay trail said k refl
