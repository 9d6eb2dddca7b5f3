-- Where all facets of an image are in use no live generator violates a cut, and a solved log names each.
use Rattle.std.proofs.Common.{◌≡◌, List, [], length, All, Contains, IsTrue, refl, sym, ap, ◌∙◌, subst, arith, append-nil, Bool}
use Rattle.std.specs.List.{range_with_len}
use Rattle.std.proofs.lemmas.List.{length-map}
use Rattle.exact_field.specs.Rational.{ℚ, zero_ℚ, ◌≤ℚ◌}
use Rattle.exact_field.specs.Vector.{dot}
use Rattle.polyhedra.specs.Exactness.{homogenised, rows_of}
use Rattle.polyhedra.proofs.Order.{not_lt_of_le}
use Rattle.word_lines.specs.declared.part.EndKind.TheVariants as kind
use Rattle.deriv_log.specs.declared.entry.Entry.{Entry}
use Rattle.deriv_log.specs.declared.entry.Entry.TheVariants.{End}
use Rattle.log_rules.specs.Live.{State, inequality, state}
use Rattle.log_rules.specs.Order.{has}
use Rattle.log_rules.specs.Order as order
use Rattle.log_rules.proofs.DualityStays.{has_duality}
use Rattle.log_rules.proofs.SolvedIsSolved.{solved_met}
use Rattle.overflows.specs.Base.{last_of}
use Rattle.overflows.proofs.Growing.{trail_laws}
use Rattle.lp_form.specs.declared.shown.Cut.{Cut}
use Rattle.outer_approx.specs.Standing.{IsEnded, IsOuter, cuts_of, rows_of_trail}
use Rattle.outer_approx.specs.Task.{Task, IsFitting}
use Rattle.outer_approx.proofs.Used.{first_used}
use Rattle.double_descr.specs.State.{State as Description}
use Rattle.lower_image.proofs.FromAllFacets.{all_facets}
use Rattle.recession.specs.Asking.{IsAskedCut}
use Rattle.recession.proofs.Asking_ends.{fits}
use Rattle.recession.proofs.OwnLogs.{own_log}
use Rattle.benson_dual.specs.Images.{AreAllInUse}
use Rattle.benson_dual.specs.Logs.{AreAllNamed, IsFacetLog}

-- ---- a live generator
-- the rows in use are those of all cuts
rows_of_cuts : (task : Task) (trail : List Entry) → (state task.file.objs trail).used ≡ range_with_len 1 (length (state task.file.objs trail).cuts) →
    rows_of_trail task trail ≡ rows_of task.file.objs (cuts_of task trail)
rows_of_cuts task trail used =
    let s : State = state task.file.objs trail in
    ap (rows_of task.file.objs)
    (first_used s (cuts_of task trail) [] (sym (append-nil (cuts_of task trail)))
    (used ∙ ap (range_with_len 1) (sym (length-map s.cuts inequality))))

-- at a vector at which no row in use is negative no cut is found
pub none_asked : {F : Type 0} (value : F → ℚ) (holds : ℚ → Bool) (task : Task) → IsFitting holds task → (trail : List Entry) (dd : Description) → IsOuter task trail dd →
    AreAllInUse task trail → (v : List ℚ) (t : Bool) → length v ≡ task.file.objs →
    All (λ (row : List ℚ). zero_ℚ ≤ℚ dot row (homogenised v (last_of t))) (rows_of_trail task trail) → (cut : Cut F) → IsAskedCut value task v t cut → ⊥
none_asked value holds task fitting trail dd outer all v t wide within cut a =
    not_lt_of_le _ _
    (all_facets.reached task.file task.c v t (cuts_of task trail) a.z a.multipliers (fits holds task fitting) all wide a.optimum.optimal
    (subst (λ (rows : List (List ℚ)). All (λ (row : List ℚ). zero_ℚ ≤ℚ dot row (homogenised v (last_of t))) rows) (rows_of_cuts task trail outer.all_used) within))
    a.positive

-- ---- the whole log
all_named : (task : Task) (entries : List Entry) → IsEnded task entries → AreAllInUse task entries → Contains entries (End kind.Solved) →
    AreAllNamed task.file.objs entries
all_named task entries e all ended = λ k low high.
    let file = task.file in
    let started : IsTrue (has order.start entries) = (solved_met file entries e.base.meet e.log.ends ended).started in
    let given : IsTrue (has order.duality entries) = has_duality file entries e.base.meet started in
    all_facets.named file task.c (cuts_of task entries) entries all e.log e.base.meet ended refl
    (trail_laws.duality file task.c task.weights entries e.base given) k low
    (let n : length (cuts_of task entries) ≡ length (state file.objs entries).cuts = length-map (state file.objs entries).cuts inequality in omega (arith, high, n))

pub named_log : (holds : ℚ → Bool) (task : Task) → IsFitting holds task → (log : List Entry) → IsEnded task log → AreAllInUse task log →
    IsFacetLog holds task.file task.c task.weights log
named_log holds task h log e all = record { own = own_log holds task h log e; named = all_named task log e all }

-- a log without cuts names each
pub cutless_log : (holds : ℚ → Bool) (task : Task) → IsFitting holds task → (log : List Entry) → IsEnded task log → (state task.file.objs log).cuts ≡ [] →
    IsFacetLog holds task.file task.c task.weights log
cutless_log holds task h log e none = record {
  own = own_log holds task h log e;
  named = λ ended k low high. absurd (let n = ap length none in omega (arith, low, high, n));
}
