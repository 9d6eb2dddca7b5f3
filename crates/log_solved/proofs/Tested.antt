-- Calls after tests, and what an entry meets that was gone through.
use Rattle.std.proofs.Common.{◌≡◌, ℕ, zero, suc, ◌-◌, ◌<◌, ◌≤◌, List, [], ◌∷◌, refl, sym, ap, ◌∙◌, subst, arith, map, take, length, All, Bool, true, false, IsTrue, None, Contains, slice_index_or, get_or, inl, inr}
use Rattle.std.specs.Prelude.{Result}
use Rattle.std.proofs.lemmas.List.{length-take}
use Rattle.std.proofs.lemmas.List.Elements.{All-nil, Contains-get_or}
use Rattle.exact_field.specs.Rational.{zero_ℚ}
use Rattle.frac128.specs.Held.{is_held}
use Rattle.polyhedra.specs.LiveList.{Numbered}
use Rattle.polyhedra.proofs.Lists.{all_from_map}
use Rattle.polyhedra.proofs.Members.{Contains-map}
use Rattle.vlp_problem.specs.declared.problem.Problem.{Problem}
use Rattle.deriv_log.specs.declared.entry.Entry.{Entry}
use Rattle.log_rules.specs.Events.{Event, first_failure}
use Rattle.log_rules.specs.Events.Event.{test}
use Rattle.log_rules.specs.Live.{Stated, State, state, cut_at, lines}
use Rattle.log_rules.specs.LogEvents.{kind_events}
use Rattle.log_rules.specs.Meets.{Meets}
use Rattle.log_rules.specs.Order.{Kind, kind, in_order, has}
use Rattle.log_rules.specs.Order as order
use Rattle.log_rules.specs.Proves.{AllMeet}
use Rattle.log_rules.specs.Runs.{Runs, Stops}
use Rattle.log_rules.specs.declared.rule.Rule.{Rule}
use Rattle.log_rules.specs.declared.rule.Rule.TheVariants as rule
use Rattle.log_rules.specs.declared.stop.Stop.{Stop}
use Rattle.log_rules.specs.declared.stop.Stop.TheVariants as stopped
use Rattle.log_rules.proofs.Entries.{along}
use Rattle.log_rules.proofs.Failures.{runs-then, stops-then}
use Rattle.log_rules.proofs.KeepsDescription.{kept, rules_keep_description}
use Rattle.log_rules.proofs.LogMeets.{IsWide, entry-meets, next_wide}
use Rattle.log_rules.proofs.NormedMembers.{one_standing}
use Rattle.entry_checks.specs.Cuts as cuts
use Rattle.entry_checks.specs.declared.corner.Cut as held
use Rattle.log_live.specs.Live.{StandsFor, numbered_of}
use Rattle.log_live.specs.declared.generator.Generator.{Generator}
use Rattle.log_live.specs.declared.live.Live.{Live}
use Rattle.log_solved.specs.Solving.{StandsBefore}
use Rattle.log_solved.specs.declared.solving.Solving.{Solving}

-- ---- a test before a call
pub tested : {X : Type 0} (r : Rule) (b : Bool) (es : List Event) (n : ℕ) (V : X → Type 0) (result : Result X Stop) → b ≡ true → Runs is_held es 0 n V result →
    Runs is_held (test r b ∷ es) 0 n V result
tested r b es n V result h ran =
    runs-then is_held (test r b ∷ []) es 0 0 n V result (subst (λ (x : Bool). first_failure is_held 1 (test r x ∷ []) ≡ None) (sym h) refl) refl ran

pub fails_test : (r : Rule) (b : Bool) (es : List Event) → b ≡ false → Stops is_held (test r b ∷ es) 0 (stopped.Wrong r)
fails_test r b es h = subst (λ (x : Bool). Stops is_held (test r x ∷ es) 0 (stopped.Wrong r)) (sym h) refl

pub stops_at : (r : Rule) (b B : Bool) (es : List Event) (stop : Stop) → b ≡ B → Stops is_held (test r b ∷ []) 0 stop → Stops is_held (test r B ∷ es) 0 stop
stops_at r b B es stop same h = stops-then is_held (test r B ∷ []) es 0 stop (subst (λ (x : Bool). Stops is_held (test r x ∷ []) 0 stop) same h)

-- ---- an entry that was gone through meets its rules
pub wide_of : (file : Problem) (before : List Entry) → AllMeet file before → IsWide file before
wide_of file before meet =
    along file (IsWide file) (λ b e m w. next_wide file b e w m) before meet
    (record { c_wide = omega arith; cuts_wide = All-nil (λ (cut : Stated). length cut.w ≡ file.objs) })

pub meets_by : (file : Problem) (before : List Entry) (e : Entry) → AllMeet file before → IsTrue (in_order before (kind e)) →
    first_failure is_held 1 (kind_events file before (state file.objs before) e) ≡ None → Meets file before e
meets_by file before e meet ordered none =
    entry-meets is_held file before e (wide_of file before meet)
    (ap (λ (b : Bool). first_failure is_held 1 (test rule.Order b ∷ kind_events file before (state file.objs before) e)) ordered ∙ none)

-- ---- what stands
module _ (file : Problem) (before : List Entry) (k : Kind) (s : Solving) (h : StandsBefore file before k s) where
  pub widths : All (λ (cut : held.Cut). length cut.w ≡ file.objs) s.cuts.items
  widths = all_from_map (λ (c : Stated). length c.w ≡ file.objs) cuts.stated s.cuts.items
      (subst (λ (cs : List Stated). All (λ (c : Stated). length c.w ≡ file.objs) cs) (sym h.solving.cuts) (kept file before h.meet).wide)

  pub stands_for : IsTrue (has order.start before) → StandsFor file (state file.objs before) s.live
  stands_for started = record { lines = lines before; stands = rules_keep_description file before h.meet started; list = h.solving.live }

-- the cut of a number
pub cut_is : (items : List held.Cut) (all : List Stated) (k : ℕ) (c : held.Cut) → map cuts.stated items ≡ all → 1 ≤ k → k ≤ length items → c ≡ get_or items (k - 1) c →
    cut_at all k ≡ cuts.stated c
cut_is items all k c same low high is =
    ap (λ (cs : List Stated). cut_at cs k) (sym same) ∙ at items (k - 1) (omega (arith, low, high)) ∙ ap cuts.stated (sym is)
  where
    at : (xs : List held.Cut) (i : ℕ) → i < length xs → slice_index_or (map cuts.stated xs) i (record { w = []; gamma = zero_ℚ; u = [] }) ≡ cuts.stated (get_or xs i c)
    at [] i l = absurd (omega (arith, l))
    at (x ∷ xs) zero l = refl
    at (x ∷ xs) (suc i) l = at xs i (omega (arith, l))

-- ---- a generator that stands
module _ (file : Problem) (s : State) (live : Live) (h : StandsFor file s live) where
  pub y_wide : (place : ℕ) (g : Generator) → place < length live.generators.items → g ≡ get_or live.generators.items place g → length (take file.objs g.vector) ≡ file.objs
  y_wide place g l is =
      let there : Contains live.generators.items g = subst (λ (x : Generator). Contains live.generators.items x) (sym is) (Contains-get_or live.generators.items place g l) in
      let c : Contains s.list.live (numbered_of g) = subst (λ (ns : List Numbered). Contains ns (numbered_of g)) h.list.live (Contains-map numbered_of live.generators.items g there) in
      elim (one_standing file h.lines s h.stands (numbered_of g) c) [ inl a ↦ a.wide | inr a ↦ a.wide ]

  pub y_room : (place : ℕ) (g : Generator) → place < length live.generators.items → g ≡ get_or live.generators.items place g → file.objs ≤ length g.vector
  y_room place g l is =
      let wide = y_wide place g l is in
      let n = length-take file.objs g.vector in
      omega (arith, wide, n)
