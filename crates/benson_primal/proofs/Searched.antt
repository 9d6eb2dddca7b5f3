-- What stands while a search goes on, and what a fault leaves.
use Rattle.std.proofs.Common.{◌≡◌, ◌∙◌, ◌||◌, ◌++◌, ℕ, Bool, List, [], ◌∷◌, Option, Some, None, Result, Ok, Err, Contains, nat_eq, sym, ap, subst}
use Rattle.std.specs.Prelude.{IfErr, IfSome, IsErrAnd, OnOk}
use Rattle.std.specs.Option.{unwrap_or}
use Rattle.std.proofs.lemmas.Option.{IfSome_then}
use Rattle.exact_field.specs.Rational.{ℚ}
use Rattle.incid_sets.specs.Marks.{has}
use Rattle.lin_rows.proofs.Errors.{err_holds}
use Rattle.deriv_log.specs.declared.entry.Entry.{Entry}
use Rattle.double_descr.specs.State.{State as Description}
use Rattle.lineality.specs.Without.{marks}
use Rattle.log_rules.specs.Live.{State, lines, preimages, rows_in_use}
use Rattle.polyhedra.specs.Exactness.{row_of}
use Rattle.polyhedra.specs.LiveList.{numbers}
use Rattle.overflows.specs.Turns.{IsCutTurn}
use Rattle.lp_form.specs.declared.shown.Cut.{Cut}
use Rattle.outer_approx.specs.Cuts.{said_by}
use Rattle.outer_approx.specs.Lines.{line_places}
use Rattle.overflows.specs.Faults.{OnLicence, Overflows}
use Rattle.overflows.specs.declared.fault.SolveFault.{SolveFault}
use Rattle.overflows.specs.declared.fault.SolveFault.TheVariants.{Left, NoMemory}
use Rattle.outer_approx.specs.Preimages.{AreMarks}
use Rattle.outer_approx.specs.Standing.{HasPreimageMore, IsOpenTrail, IsOuter, rows_of_trail}
use Rattle.outer_approx.specs.Task.{Task, setting}
use Rattle.outer_approx.proofs.Growing.{outer_reached}
use Rattle.recession.specs.Asking.{IsKnown}
use Rattle.benson_primal.specs.Search.{HasGrown, HasSameRows, IsFound, IsNextCut, IsSearching, Stopped}
use Rattle.benson_primal.specs.declared.search.Found.{Found}
use Rattle.benson_primal.specs.declared.search.Search.{Search}
use Rattle.benson_primal.proofs.Marked.{marks_more, marks_stay}

-- what holds without regard to a licence holds of each fault
pub on_any : (P : Type 0) (fault : SolveFault) → P → OnLicence fault (λ licence. P)
on_any P (Left licence) p = p
on_any P NoMemory p = tt

-- an overflow beside a trail and a double description that stand for the same cuts stops a search
pub stops_at : {F T : Type 0} (holds : ℚ → Bool) (task : Task) (s : Search F) (r : Result T SolveFault) (fault : SolveFault) →
    IsErrAnd r (λ e. e ≡ fault) → IsOuter task s.trail s.dd → Overflows holds (setting task s.trail) [] fault → IfErr r (Stopped holds task s)
stops_at holds task s r fault is outer over = err_holds r fault (Stopped holds task s) is (record {
  trail = outer.open_trail;
  same = on_any _ fault outer.same;
  left = over;
})

-- where the lines are the same, so are their places
pub places_stay : (task : Task) (old new : List Entry) → lines new ≡ lines old → line_places task new ≡ line_places task old
places_stay task old new same = ap (λ (ls : List (List ℚ)). marks task.file.objs ls) same

-- a search with one more pre-image stands
pub reached_more : {F : Type 0} (value : F → ℚ) (holds : ℚ → Bool) (task : Task) (s t : Search F) (g : ℕ) → IsSearching value holds task s →
    IsKnown value holds task t.form.now t.c.now t.weights.now → t.places ≡ s.places → t.dd ≡ s.dd → IsOpenTrail task t.trail →
    HasPreimageMore task g s.trail t.trail → ((k : ℕ) → has t.reached k ≡ (nat_eq k g || has s.reached k)) → IsSearching value holds task t
reached_more value holds task s t g h known places dd open_trail more reached = record {
  known = known;
  outer = subst (λ (d : Description). IsOuter task t.trail d) (sym dd) (outer_reached task s.trail t.trail s.dd g h.outer more open_trail);
  places_are = places ∙ h.places_are ∙ sym (places_stay task s.trail t.trail more.lines_stay);
  marks = marks_more s.trail t.trail g s.reached t.reached h.marks reached more.here more.others;
}

-- one with a cut more stands
pub grown_more : {F : Type 0} (value : F → ℚ) (holds : ℚ → Bool) (task : Task) (s t : Search F) → IsSearching value holds task s →
    IsKnown value holds task t.form.now t.c.now t.weights.now → t.places ≡ s.places → IsOuter task t.trail t.dd → lines t.trail ≡ lines s.trail →
    t.reached ≡ s.reached → ((k : ℕ) → preimages t.trail k ≡ preimages s.trail k) → IsSearching value holds task t
grown_more value holds task s t h known places outer same_lines reached same = record {
  known = known;
  outer = outer;
  places_are = places ∙ h.places_are ∙ sym (places_stay task s.trail t.trail same_lines);
  marks = subst (λ m. AreMarks t.trail m) (sym reached) (marks_stay s.trail t.trail s.reached h.marks same);
}

-- ---- the rows in use
-- a pre-image more leaves the rows
pub rows_reached : (task : Task) (g : ℕ) (old new : List Entry) → HasPreimageMore task g old new → rows_of_trail task new ≡ rows_of_trail task old
rows_reached task g old new more = ap (λ (s : State). rows_in_use task.file.objs s) more.stands

pub rows_on : {F : Type 0} (task : Task) (r s t : Search F) → HasSameRows task r s → HasSameRows task s t → HasSameRows task r t
rows_on task r s t h k = record { dd_same = k.dd_same ∙ h.dd_same; rows_same = k.rows_same ∙ h.rows_same }

-- what comes next beside some rows does so beside the same ones
pub next_stays : {F : Type 0} (value : F → ℚ) (task : Task) (old new : List Entry) (cut : Cut F) → rows_of_trail task new ≡ rows_of_trail task old →
    IsNextCut value task old cut → IsNextCut value task new cut
next_stays value task old new cut same h = record {
  z = h.z;
  turn = subst (λ (rows : List (List ℚ)). IsCutTurn task.file task.c rows h.z) (sym same) h.turn;
  says = h.says;
  is = h.is;
}

pub grown_from : {F : Type 0} (value : F → ℚ) (task : Task) (r s t : List Entry) → rows_of_trail task s ≡ rows_of_trail task r →
    HasGrown value task s t → HasGrown value task r t
grown_from value task r s t same h = record {
  cut = h.cut;
  next = next_stays value task s r h.cut (sym same) h.next;
  rows = h.rows ∙ ap (λ (rows : List (List ℚ)). rows ++ row_of (said_by value h.cut) ∷ []) same;
}

found_stays : {F : Type 0} (value : F → ℚ) (task : Task) (s t : Search F) (found : Found F) → HasSameRows task s t → IsFound value task s found →
    IsFound value task t found
found_stays value task s t found same h = record {
  listed = subst (λ (d : Description). Contains (numbers d.list.live) found.generator) (sym same.dd_same) h.listed;
  next = next_stays value task s.trail t.trail found.cut same.rows_same h.next;
}

pub any_stays : {F : Type 0} (value : F → ℚ) (task : Task) (s t : Search F) (first : Option (Found F)) → HasSameRows task s t →
    IfSome first (IsFound value task s) → IfSome first (IsFound value task t)
any_stays value task s t first same h = IfSome_then first h (λ found. found_stays value task s t found same)

-- ---- answers
-- what holds of the first, if there is one, and of a further one holds of the one that is kept
kept_holds : {X : Type 0} (P : X → Type 0) (first : Option X) (found : X) → IfSome first P → P found → P (unwrap_or first found)
kept_holds P None found h k = k
kept_holds P (Some x) found h k = h

-- so it is of cuts that live generators violate, where no cut comes into use
pub kept_stays : {F : Type 0} (value : F → ℚ) (task : Task) (s t u : Search F) (first : Option (Found F)) (found : Found F) → HasSameRows task s t →
    HasSameRows task t u → IfSome first (IsFound value task s) → IsFound value task t found → IsFound value task u (unwrap_or first found)
kept_stays value task s t u first found h k old new =
    kept_holds (IsFound value task u) first found (any_stays value task s u first (rows_on task s t u h k) old) (found_stays value task t u found k new)

-- what two facts of a result that is no error say together
pub ok_both : {T E : Type 0} (r : Result T E) (A B C : Type 0) → OnOk r A → OnOk r B → (A → B → C) → OnOk r C
ok_both (Ok x) A B C a b f = f a b
ok_both (Err e) A B C a b f = tt
