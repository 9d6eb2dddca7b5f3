-- What stands while a search for all facets goes on, and that it comes nearer to its end.
use Rattle.std.proofs.Common.{◌≡◌, ◌≢◌, ◌≤◌, ◌<◌, ◌+◌, ◌-◌, ◌∙◌, ◌||◌, ◌++◌, ℕ, suc, Bool, List, [], ◌∷◌, Option, Some, None, All, Contains, length, map, nat_eq, refl, sym, ap, subst, arith, slice_index_or}
use Rattle.std.specs.Prelude.{IfSome, IfOk, IsTrue}
use Rattle.std.specs.Option.{unwrap_or}
use Rattle.std.proofs.lemmas.List.{get_or-map, length-map}
use Rattle.std.proofs.lemmas.List.Elements.{Contains-get_or}
use Rattle.exact_field.specs.Rational.{ℚ, zero_ℚ}
use Rattle.exact_field.specs.Vector.{entry}
use Rattle.incid_sets.specs.Marks.{has}
use Rattle.polyhedra.specs.LiveList.{Numbered, numbers, step, vectors}
use Rattle.polyhedra.proofs.Members.{Contains-map, Contains-map_source, all_of_members, member_of}
use Rattle.double_descr.specs.State.{State as Description}
use Rattle.deriv_log.specs.declared.entry.Entry.{Entry}
use Rattle.deriv_log.specs.declared.licence.Family.TheVariants.{Exchanged}
use Rattle.overflows.specs.Base.{IsBaseRow}
use Rattle.overflows.specs.Generators.{IsAddition}
use Rattle.overflows.specs.Turns.{IsRowTurn}
use Rattle.overflows.proofs.RowTurns.{row_turns_end}
use Rattle.lp_form.specs.declared.shown.Cut.{Cut}
use Rattle.outer_approx.specs.Task.{Task, IsFitting, setting}
use Rattle.lower_image.specs.Rows.{IsWeighable}
use Rattle.lower_image.specs.Search.{AreAllCertified, AreCertified, HasRowMore, IsDone, IsNextCut, IsNextRow, IsSearching, IsWeighing, StandsForOne}
use Rattle.lower_image.specs.Starting.{IsLowerDescription}
use Rattle.lower_image.specs.declared.kept.KeptWeights.{KeptWeights}
use Rattle.lower_image.specs.declared.search.Search.{Search}
use Rattle.lower_image.proofs.Certified.{certified_more, none_certified, stays}
use Rattle.lower_image.proofs.Generators.{in_cone}
use Rattle.lower_image.proofs.LowerRows.{base_long, lower_rows}
use Rattle.lower_image.proofs.Weights.{c_wide, fits}

-- one row after the others
abbrev pub more_rows : Description → List ℚ → Description
more_rows d row = record { width = d.width; rows = d.rows ++ row ∷ []; list = step d.rows d.list row }

module _ {F : Type 0} (value : F → ℚ) (holds : ℚ → Bool) (task : Task) where
  -- a search begins
  pub starts : (s : Search F) → IsWeighing value holds task s.form.now s.c.now → IsLowerDescription task s.dd → s.cuts ≡ [] → s.certified ≡ [] →
      s.marks ≡ [] → IsSearching value holds task s
  starts s known described no_cuts none no_marks = record {
    known = known;
    described = described;
    certified = subst (λ (ns : List ℕ). AreCertified value task s.dd.list.live ns s.cuts s.marks) (sym none)
        (subst (λ (ks : List (Cut F)). AreCertified value task s.dd.list.live [] ks s.marks) (sym no_cuts)
        (subst (λ (bs : List Bool). AreCertified value task s.dd.list.live [] [] bs) (sym no_marks) (none_certified value task s.dd.list.live)));
  }

  -- what is kept alone is something else
  pub with_kept : (s : Search F) (kept : KeptWeights F) → IsSearching value holds task s → IsSearching value holds task (record s { kept = kept })
  with_kept s kept h = record { known = h.known; described = h.described; certified = h.certified }

  -- one more generator is certified
  pub with_cut : (s : Search F) (marks : List Bool) (nums : List ℕ) (cuts : List (Cut F)) (g : ℕ) (cut : Cut F) → IsSearching value holds task s →
      IsNextCut value task s g cut → ((k : ℕ) → has marks k ≡ (nat_eq k g || has s.marks k)) → nums ≡ s.certified ++ g ∷ [] → cuts ≡ s.cuts ++ cut ∷ [] →
      IsSearching value holds task (record s { marks = marks; certified = nums; cuts = cuts })
  with_cut s marks nums cuts g cut h n marked nums_are cuts_are = record {
    known = h.known;
    described = h.described;
    certified = subst (λ (ns : List ℕ). AreCertified value task s.dd.list.live ns cuts marks) (sym nums_are)
        (subst (λ (ks : List (Cut F)). AreCertified value task s.dd.list.live (s.certified ++ g ∷ []) ks marks) (sym cuts_are)
        (certified_more value task s.dd.list.live s.certified s.cuts s.marks marks g n.vector cut h.certified n.listed n.stands n.certifies n.fresh marked));
  }

  module _ (s : Search F) (h : IsSearching value holds task s) where
    -- ---- generators
    pub weighable : (g : ℕ) (v : List ℚ) → Contains s.dd.list.live (record { number = g; vector = v }) → StandsForOne task v → IsWeighable task s.dd.rows v
    weighable g v listed stands = record {
      list = s.dd.list;
      lower = h.described.lower;
      listed = Contains-map (λ (z : Numbered). z.vector) s.dd.list.live (record { number = g; vector = v }) listed;
      weighted = stands;
    }

    pub generator_long : (g : ℕ) (generator : List F) → Contains s.dd.list.live (record { number = g; vector = map value generator }) →
        length generator ≡ suc task.file.objs
    generator_long g generator listed =
        sym (length-map generator value)
        ∙ (in_cone task.file task.c s.dd.rows s.dd.list (map value generator) (fits task holds h.known.fitting) h.described.lower
        (Contains-map (λ (z : Numbered). z.vector) s.dd.list.live (record { number = g; vector = map value generator }) listed)).wide

    -- a generator that stands for no inequality is done
    pub done_left_out : (g : ℕ) (generator : List F) → Contains s.dd.list.live (record { number = g; vector = map value generator }) →
        ((v : List ℚ) → Contains s.dd.list.live (record { number = g; vector = v }) → map value generator ≡ v) →
        (entry (map value generator) (length generator) ≢ zero_ℚ → ⊥) → IsDone task s.dd s.certified g
    done_left_out g generator listed only none = λ v there stands.
        absurd (none (λ e. stands (ap (λ (u : List ℚ). entry u (suc task.file.objs)) (sym (only v there))
        ∙ ap (λ (n : ℕ). entry (map value generator) n) (sym (generator_long g generator listed)) ∙ e)))

    -- and the other ones do
    pub stands_at : (g : ℕ) (generator : List F) → Contains s.dd.list.live (record { number = g; vector = map value generator }) →
        ((v : List ℚ) → Contains s.dd.list.live (record { number = g; vector = v }) → map value generator ≡ v) →
        entry (map value generator) (length generator) ≢ zero_ℚ →
        (v : List ℚ) → Contains s.dd.list.live (record { number = g; vector = v }) → StandsForOne task v
    stands_at g generator listed only other = λ v there e.
        other (ap (λ (n : ℕ). entry (map value generator) n) (generator_long g generator listed)
        ∙ ap (λ (u : List ℚ). entry u (suc task.file.objs)) (only v there) ∙ e)

    -- the numbers of the certified generators are those of live ones
    pub certified_live : All (Contains (numbers s.dd.list.live)) s.certified
    certified_live = all_of_members (Contains (numbers s.dd.list.live)) s.certified (λ n k.
        let m : (z : Numbered) × Contains h.certified.generators z × (z.number ≡ n) =
        Contains-map_source (λ (z : Numbered). z.number) h.certified.generators n (subst (λ (ns : List ℕ). Contains ns n) h.certified.numbers_are k) in
        subst (Contains (numbers s.dd.list.live)) m.2
        (Contains-map (λ (z : Numbered). z.number) s.dd.list.live m.0 (member_of (Contains s.dd.list.live) h.certified.generators m.0 h.certified.listed m.1)))

    -- ---- rows
    pub row_long : (row : List F) → IsNextRow value task s.dd row → length row ≡ s.dd.width
    row_long row n =
        sym (length-map row value) ∙ base_long task.file task.c (map value row) (c_wide task holds h.known.fitting) n.base ∙ sym h.described.width

    pub row_may : (row : List F) (trail : List Entry) → IsNextRow value task s.dd row → IsAddition (setting task trail) s.dd.rows (map value row) s.dd.list Exchanged
    row_may row trail n = IsAddition.of_base task.c refl h.described.lower.rows_are.base n.base h.described.lower.made

    pub with_row : (d : Description) (row : List F) → IsNextRow value task s.dd row → d ≡ more_rows s.dd (map value row) →
        IsSearching value holds task (record s { dd = d })
    with_row d row n is = subst (λ (e : Description). IsSearching value holds task (record s { dd = e })) (sym is) (record {
      known = h.known;
      described = record {
        width = h.described.width;
        lower = lower_rows.step task.file task.c s.dd.rows s.dd.list (map value row) (c_wide task holds h.known.fitting) h.described.lower n.base;
      };
      certified = stays value task holds h.known.fitting s.dd.rows s.dd.list (map value row) s.certified s.cuts s.marks h.described.lower n.base h.certified;
    })

  pub with_same : (s : Search F) (d : Description) → IsSearching value holds task s → d ≡ s.dd → IsSearching value holds task (record s { dd = d })
  with_same s d h is = subst (λ (e : Description). IsSearching value holds task (record s { dd = e })) (sym is)
      (record { known = h.known; described = h.described; certified = h.certified })

  pub one_row_more : (old new : Description) (row : List F) → IsNextRow value task old row → new ≡ more_rows old (map value row) → HasRowMore task old new
  one_row_more old new row n is = record { row = map value row; turn = n.turn; rows = ap (λ (d : Description). d.rows) is }

-- ---- rounds
-- where each of n numbers is done, which are all, each generator that stands for an inequality is certified
pub all_done : (task : Task) (dd : Description) (nums : List ℕ) (n i : ℕ) → n ≡ length (numbers dd.list.live) → n ≤ i →
    ((j : ℕ) → n - i ≤ j → j < n → IsDone task dd nums (slice_index_or (numbers dd.list.live) j 0)) → AreAllCertified task dd nums
all_done task dd nums n i all past seen k d inside =
    let gs = dd.list.live in
    let long : n ≡ length gs = all ∙ length-map gs (λ (g : Numbered). g.number) in
    λ stands. subst (IsDone task dd nums) (get_or-map (λ (g : Numbered). g.number) gs k d 0 inside)
    (seen k (omega (arith, past)) (omega (arith, inside, long))) (slice_index_or gs k d).vector (Contains-get_or gs k d inside) stands

-- numbers stay, so what is done does
pub done_stays : (task : Task) (dd : Description) (old new : List ℕ) → ((n : ℕ) → Contains old n → Contains new n) → (k : ℕ) → IsDone task dd old k →
    IsDone task dd new k
done_stays task dd old new stay k done = λ v listed stands. stay k (done v listed stands)

-- what holds of the first, if there is one, and of a further one holds of the one that is kept
pub kept_holds : {X : Type 0} (P : X → Type 0) (first : Option X) (found : X) → IfSome first P → P found → P (unwrap_or first found)
kept_holds P None found h k = k
kept_holds P (Some x) found h k = h

-- a turn brings the search nearer to its end
pub turn_falls : (task : Task) (old new : Description) → HasRowMore task old new →
    (row_turns_end task.file task.c).0 new.rows < (row_turns_end task.file task.c).0 old.rows
turn_falls task old new h =
    let measure = (row_turns_end task.file task.c).0 in
    subst (λ (rs : List (List ℚ)). measure rs < measure old.rows) (sym h.rows) ((row_turns_end task.file task.c).1 old.rows h.row h.turn)
