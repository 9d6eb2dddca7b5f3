-- An outer trail and its double description after one more cut.
use Rattle.std.proofs.Common.{◌≡◌, ℕ, suc, List, [], ◌∷◌, ◌++◌, map, length, refl, sym, ap, ap₂, ◌∙◌, subst, false, true≢false, not, IsTrue, Bool}
use Rattle.std.specs.List.{range_with_len}
use Rattle.std.proofs.lemmas.List.{length-map, map-append}
use Rattle.exact_field.specs.Rational.{ℚ}
use Rattle.polyhedra.specs.Exactness.{row_of}
use Rattle.polyhedra.specs.Inequality.{Inequality}
use Rattle.polyhedra.specs.LiveList.{LiveList, step}
use Rattle.polyhedra.specs.Vectors.{AreWide}
use Rattle.polyhedra.proofs.Tests.{both_hold}
use Rattle.lineality.specs.Steps.{IsStepWithout, list_without}
use Rattle.lineality.specs.Without.{marks, open_count, without}
use Rattle.lineality.proofs.Marks.{length-marks}
use Rattle.lineality.proofs.StepsWithout.{steps_without}
use Rattle.deriv_log.specs.Formed.{is_formed}
use Rattle.deriv_log.specs.declared.entry.Entry.{Entry}
use Rattle.deriv_log.specs.declared.entry.Entry.TheVariants.{Add}
use Rattle.word_lines.specs.declared.part.LogPair.{LogPair}
use Rattle.deriv_log.specs.declared.licence.Family.TheVariants.{Image}
use Rattle.double_descr.specs.State.{State as Description}
use Rattle.log_rules.specs.Live.{State, state, after, inequality, rows_in_use, lines, live_vectors, log_pair, preimages, required_pairs}
use Rattle.log_rules.specs.Order.{has, in_order}
use Rattle.log_rules.specs.Order as order
use Rattle.log_rules.proofs.Entries.{state-push}
use Rattle.overflows.specs.Generators.{IsAddition}
use Rattle.overflows.specs.Faults.{OnLicence}
use Rattle.overflows.specs.declared.fault.SolveFault.{SolveFault}
use Rattle.overflows.specs.declared.fault.SolveFault.TheVariants.{Left, NoMemory}
use Rattle.lp_form.specs.declared.shown.Cut.{Cut as CutOf}
use Rattle.outer_approx.specs.Cuts.{said_by}
use Rattle.outer_approx.specs.Lines.{line_places}
use Rattle.outer_approx.specs.Standing.{HasCutMore, IsOpenTrail, IsOuter, StandForSame, cuts_of, rows_of_trail}
use Rattle.outer_approx.specs.Task.{Task, setting}
use Rattle.outer_approx.proofs.Growing.{grows, has_same, lines_stay, open_stands, preimages_stay, same_for}
use Rattle.outer_approx.proofs.RowsOfCuts.{length-row}
use Rattle.outer_approx.proofs.Turned.{IsAfter, meets_add, new_exists, new_row, next_list, next_rows, next_used, rows_stay}

add_in_order : (trail : List Entry) → IsTrue (has order.duality trail) → IsTrue (has order.start trail) → has order.facet trail ≡ false →
    IsTrue (in_order trail order.add)
add_in_order [] h k l = absurd (true≢false (sym h))
add_in_order (t ∷ trail) h k l =
    both_hold _ _ (both_hold _ _ (both_hold _ _ (both_hold _ _ refl h) k) refl) (ap (λ (b : Bool). not b) l)

-- an addition states no cut
pub added_cuts : (task : Task) (trail : List Entry) (k : ℕ) (pairs : List LogPair) → cuts_of task (trail ++ Add k pairs ∷ []) ≡ cuts_of task trail
added_cuts task trail k pairs = ap (λ (s : State). map inequality s.cuts) (state-push task.file.objs trail (Add k pairs))

-- what holds without regard to a licence holds of each
pub on_any : (P : Type 0) (fault : SolveFault) → P → OnLicence fault (λ licence. P)
on_any P (Left licence) h = h
on_any P NoMemory h = tt

module _ (task : Task) (old mid : List Entry) (e : Inequality) (dd : Description) (h : IsOuter task old dd) (o : IsOpenTrail task mid)
    (m : HasCutMore task e old mid) (k : ℕ) (number : k ≡ length dd.rows) where
  abbrev q : ℕ
  q = task.file.objs

  abbrev s : State
  s = state q old

  abbrev t : State
  t = state q mid

  abbrev bs : List Bool
  bs = line_places task old

  is_after : IsAfter s t e
  is_after = record { all_used = h.all_used; cuts = m.cuts; used = m.used; list = m.list }

  numbered : k ≡ length (rows_in_use q s)
  numbered = number ∙ ap (λ (rows : List (List ℚ)). length rows) h.rows ∙ length-map (rows_in_use q s) (without bs)

  -- the cut is not in use yet, so the trail stands for the same cuts as the double description before
  still : StandForSame task mid dd
  still = same_for task old mid dd m.lines_stay (rows_stay q s t e is_after) m.list h.same

  pub stand_still : (new : Description) → new ≡ dd → StandForSame task mid new
  stand_still new kept = subst (λ (d : Description). StandForSame task mid d) (sym kept) still

  -- the cut is one that may be added
  pub is_addition : (row : List ℚ) → row ≡ without bs (row_of e) → IsAddition (setting task mid) dd.rows row dd.list Image
  is_addition row is =
      let exists = new_exists q s t e is_after k numbered in
      IsAddition.of_image k exists.0 exists.1 still.rows
      (is ∙ ap₂ (λ (ls : List (List ℚ)) (r : List ℚ). without (marks q ls) r) (sym m.lines_stay) (sym (new_row q s t e is_after k numbered)))
      still.list

  -- the step of the live generators of the trail, and that without the places of the lines
  both_steps : IsStepWithout bs (rows_in_use q s) s.list (row_of e)
  both_steps =
      let stands = open_stands task old h.open_trail h.started in
      steps_without bs (rows_in_use q s) s.list (row_of e)
      (subst (λ (n : ℕ). AreWide (suc n) (live_vectors s)) (sym (length-marks q (lines old))) stands.wide) stands.clear

  module _ (pairs : List LogPair) (paired : pairs ≡ required_pairs dd.rows dd.list.live (without bs (row_of e)))
      (written : IsTrue (is_formed (Add k pairs))) where
    started : IsTrue (has order.start mid)
    started = m.started ∙ h.started

    required : pairs ≡ required_pairs (rows_in_use q s) s.list.live (row_of e)
    required = paired
        ∙ ap₂ (λ (rows : List (List ℚ)) (list : LiveList). required_pairs rows list.live (without bs (row_of e))) h.rows h.list
        ∙ ap (map log_pair) (sym both_steps.same_pairs)

    -- the trail stays open
    pub turned_open : IsOpenTrail task (mid ++ Add k pairs ∷ [])
    turned_open = grows task mid (Add k pairs) o
        (record {
          order = add_in_order mid o.duality started o.unnamed;
          rules = meets_add q s t e is_after k numbered task.file pairs refl required;
        }) tt written refl refl

    stands : state q (mid ++ Add k pairs ∷ []) ≡ after q t (Add k pairs)
    stands = state-push q mid (Add k pairs)

    pub turned_lines : lines (mid ++ Add k pairs ∷ []) ≡ lines old
    turned_lines = lines_stay mid (Add k pairs) refl ∙ m.lines_stay

    -- one more row is in use
    pub turned_rows : rows_of_trail task (mid ++ Add k pairs ∷ []) ≡ rows_of_trail task old ++ row_of e ∷ []
    turned_rows = ap (λ (a : State). rows_in_use q a) stands ∙ next_rows q s t e is_after k numbered pairs

    turned_list : (state q (mid ++ Add k pairs ∷ [])).list ≡ step (rows_in_use q s) s.list (row_of e)
    turned_list = ap (λ (a : State). a.list) stands ∙ next_list q s t e is_after k numbered pairs

    -- and the trail stands beside the double description with the row
    pub turned : (row : List ℚ) → row ≡ without bs (row_of e) → (new : Description) →
        new ≡ record { width = dd.width; rows = dd.rows ++ row ∷ []; list = step dd.rows dd.list row } → IsOuter task (mid ++ Add k pairs ∷ []) new
    turned row is new grown = subst (λ (d : Description). IsOuter task (mid ++ Add k pairs ∷ []) d) (sym grown) (record {
      open_trail = turned_open;
      started = has_same order.start mid (Add k pairs) refl ∙ started;
      all_used = subst (λ (a : State). a.used ≡ range_with_len 1 (length a.cuts)) (sym stands) (next_used q s t e is_after k numbered pairs);
      same = record {
        width = h.width ∙ ap (λ (ls : List (List ℚ)). suc (open_count (marks q ls))) (sym turned_lines);
        rows = ap₂ (λ (rows : List (List ℚ)) (r : List ℚ). rows ++ r ∷ []) h.rows is
            ∙ sym (map-append (without bs) (rows_in_use q s) (row_of e ∷ []))
            ∙ ap₂ (λ (ls rows : List (List ℚ)). map (without (marks q ls)) rows) (sym turned_lines) (sym turned_rows);
        list = ap₂ (λ (rows : List (List ℚ)) (list : LiveList). step rows list row) h.rows h.list
            ∙ ap (step (map (without bs) (rows_in_use q s)) (list_without bs s.list)) is
            ∙ sym both_steps.same
            ∙ ap₂ (λ (ls : List (List ℚ)) (list : LiveList). list_without (marks q ls) list) (sym turned_lines) (sym turned_list);
      };
    })

    pub turned_preimages : (j : ℕ) → preimages (mid ++ Add k pairs ∷ []) j ≡ preimages old j
    turned_preimages j = preimages_stay mid (Add k pairs) j refl ∙ m.preimages_stay j

-- the row of a cut without the entries at the places of the lines may be added
pub row_wide : {F : Type 0} (value : F → ℚ) (task : Task) (trail : List Entry) (dd : Description) → IsOuter task trail dd → (places : List Bool) →
    places ≡ line_places task trail → (cut : CutOf F) → length cut.w ≡ task.file.objs → (row slice : List F) → slice ≡ row →
    map value row ≡ without places (row_of (said_by value cut)) → length slice ≡ dd.width
row_wide {F} value task trail dd h places is cut wide row slice same row_is =
    ap (λ (xs : List F). length xs) same ∙ sym (length-map row value) ∙ ap (λ (v : List ℚ). length v) row_is
    ∙ length-row places (said_by value cut)
    (length-map cut.w value ∙ wide ∙ sym (ap (λ (bs : List Bool). length bs) is ∙ length-marks task.file.objs (lines trail)))
    ∙ ap (λ (bs : List Bool). suc (open_count bs)) is ∙ sym h.width
