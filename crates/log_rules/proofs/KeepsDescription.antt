-- Entries that meet their rules keep the description: the live generators describe the cone of the
-- rows in use.
use Rattle.std.proofs.Common.{◌≡◌, suc, List, [], ◌∷◌, ◌++◌, refl, sym, subst, Bool, false, true≢false, IsTrue, ◌==◌, ◌<◌, ap, ◌∙◌, append-nil, map, length, All, AllPairs, Contains, None, Option, inl, inr}
use Rattle.std.proofs.lemmas.List.Elements.{All-nil, All-append, All-cons, All-weaker, filter_map-append}
use Rattle.std.specs.List.{cons_option}
use Rattle.std.proofs.lemmas.List.{length-map}
use Rattle.exact_field.specs.Rational.{ℚ, zero_ℚ, one_ℚ, neg_ℚ}
use Rattle.exact_field.specs.Vector.{entry}
use Rattle.frac128.specs.declared.vectors.Spot.{Spot}
use Rattle.lineality.specs.Lines.{leading_place, IsInLineality, RunsAlong}
use Rattle.lineality.specs.Steps.{list_without}
use Rattle.lineality.specs.Without.{marks, open_count, without}
use Rattle.polyhedra.specs.DoubleDescription.{leading}
use Rattle.polyhedra.specs.Exactness.{rows_of}
use Rattle.polyhedra.specs.Inequality.{Inequality}
use Rattle.polyhedra.proofs.Lists.{HasWidth, Contains-cases, Contains-nil}
use Rattle.polyhedra.proofs.Members.{member_of, pairs-nil, pairs-cons, pairs-append}
use Rattle.polyhedra.proofs.Tests.{not_true}
use Rattle.upper_image.specs.UpperImage.{IsWorkingDirection}
use Rattle.upper_image.proofs.WorkingImage.{ray_shown}
use Rattle.log_rules.specs.Laws.{Stands, RulesKeepDescription, RulesKeepLines}
use Rattle.polyhedra.specs.LiveSteps.{IsLive}
use Rattle.log_rules.specs.Live.{Stated, State, state, after, line_in, lines}
use Rattle.log_rules.specs.Meets.{Meets, MeetsLine}
use Rattle.log_rules.specs.Order.{has, kind, place}
use Rattle.log_rules.specs.Proves.{AllMeet}
use Rattle.log_rules.proofs.AddDescribes.{stands-add}
use Rattle.log_rules.proofs.CutsStay.{Exists, exists_stays, stated_stay}
use Rattle.log_rules.proofs.Entries.{state-push, has_before, order_of, along}
use Rattle.log_rules.proofs.StartDescribes.{stands-start}
use Rattle.vlp_problem.specs.declared.problem.Problem.{Problem}
use Rattle.deriv_log.specs.declared.entry.Entry.{Entry}
use Rattle.deriv_log.specs.declared.entry.Entry.TheVariants.{Cut, Start, Add, Line}
use Rattle.log_rules.specs.Order as order

-- the cuts are wide, those in use exist, the image runs along the lines, and after a `start` the description stands
pub record IsKept (file : Problem) (ls : List (List ℚ)) (s : State) (started : Bool) : Type 0 where
  pub wide : All (λ (c : Stated). length c.w ≡ file.objs) s.cuts
  pub exist : All (Exists s.cuts) s.used
  pub runs : RunsAlong file.objs (IsWorkingDirection file) ls
  pub stands : IsTrue started → Stands file ls s

-- one more cut changes nothing of what stands
pub stands-cut : (file : Problem) (ls : List (List ℚ)) (s : State) (c : Stated) → All (Exists s.cuts) s.used → Stands file ls s →
    Stands file ls (record s { cuts = s.cuts ++ c ∷ [] })
stands-cut file ls s c exist h = record {
  is_live = subst (λ (es : List Inequality). IsLive (suc (open_count (marks file.objs ls))) (map (without (marks file.objs ls)) (rows_of file.objs es)) (list_without (marks file.objs ls) s.list))
      (sym (stated_stay s.cuts (c ∷ []) s.used (λ k m. member_of (Exists s.cuts) s.used k exist m))) h.is_live;
  wide = h.wide;
  clear = h.clear;
  kinds = h.kinds;
}

-- one more line
runs-line : (file : Problem) (before : List Entry) (d : List ℚ) (x ray m back n : List Spot) → MeetsLine file before d x ray m back n →
    RunsAlong file.objs (IsWorkingDirection file) (lines before) → RunsAlong file.objs (IsWorkingDirection file) (lines before ++ d ∷ [])
runs-line file before d x ray m back n h r = record {
  echelon = record {
    wide = record { wide = All-append (HasWidth file.objs) (lines before) (d ∷ []) r.echelon.wide.wide (one (HasWidth file.objs) h.lengths) };
    leading_one = All-append (λ v. leading v ≡ one_ℚ) (lines before) (d ∷ []) r.echelon.leading_one (one (λ v. leading v ≡ one_ℚ) h.scaled);
    places_rise = pairs-append (λ v u. leading_place v < leading_place u) (lines before) (d ∷ []) r.echelon.places_rise (alone (λ v u. leading_place v < leading_place u))
        (λ v u k l. same (λ u. leading_place v < leading_place u) u l (member_of (λ v. leading_place v < leading_place d) (lines before) v h.rises k));
    others_zero = pairs-append (λ v u. entry v (leading_place u) ≡ zero_ℚ) (lines before) (d ∷ []) r.echelon.others_zero (alone (λ v u. entry v (leading_place u) ≡ zero_ℚ))
        (λ v u k l. same (λ u. entry v (leading_place u) ≡ zero_ℚ) u l (member_of (λ v. entry v (leading_place d) ≡ zero_ℚ) (lines before) v h.clear k));
  };
  each = All-append (IsInLineality (IsWorkingDirection file)) (lines before) (d ∷ []) r.each (one (IsInLineality (IsWorkingDirection file)) record {
    forth = ray_shown file d ray m h.lengths h.recedes h.above;
    back = ray_shown file (map neg_ℚ d) back n (length-map d neg_ℚ ∙ h.lengths) h.back_recedes h.back_above;
  });
}
  where
    one : (P : List ℚ → Type 0) → P d → All P (d ∷ [])
    one P p = All-cons P d [] p (All-nil P)

    alone : (R : List ℚ → List ℚ → Type 0) → AllPairs R (d ∷ [])
    alone R = pairs-cons R d [] (All-nil (R d)) (pairs-nil R)

    same : (P : List ℚ → Type 0) (u : List ℚ) → Contains (d ∷ []) u → P d → P u
    same P u c p = elim (Contains-cases d [] u c) [ inl e ↦ subst P e p | inr k ↦ absurd (Contains-nil u k) ]

no_lines : (file : Problem) → RunsAlong file.objs (IsWorkingDirection file) []
no_lines file = record {
  echelon = record {
    wide = record { wide = All-nil (HasWidth file.objs) };
    leading_one = All-nil (λ v. leading v ≡ one_ℚ);
    places_rise = pairs-nil (λ v u. leading_place v < leading_place u);
    others_zero = pairs-nil (λ v u. entry v (leading_place u) ≡ zero_ℚ);
  };
  each = All-nil (IsInLineality (IsWorkingDirection file));
}

module _ (file : Problem) where
  abbrev pub KeptAt : List Entry → Type 0
  KeptAt entries = IsKept file (lines entries) (state file.objs entries) (has order.start entries)

  -- after one more entry, which is no line
  pushed : (before : List Entry) (e : Entry) → lines (before ++ e ∷ []) ≡ lines before →
      IsKept file (lines before) (after file.objs (state file.objs before) e) (has order.start (before ++ e ∷ [])) → KeptAt (before ++ e ∷ [])
  pushed before e same h =
      subst (λ (ls : List (List ℚ)). IsKept file ls (state file.objs (before ++ e ∷ [])) (has order.start (before ++ e ∷ []))) (sym same)
      (subst (λ (s : State). IsKept file (lines before) s (has order.start (before ++ e ∷ []))) (sym (state-push file.objs before e)) h)

  lines-same : (before : List Entry) (e : Entry) → line_in e ≡ None → lines (before ++ e ∷ []) ≡ lines before
  lines-same before e h = filter_map-append line_in before (e ∷ []) ∙ ap (λ (o : Option (List ℚ)). lines before ++ cons_option o []) h ∙ append-nil (lines before)

  -- an entry that changes no state and is no `start` and no line
  other : (before : List Entry) (e : Entry) → after file.objs (state file.objs before) e ≡ state file.objs before →
      (place (kind e) == place order.start) ≡ false → line_in e ≡ None → KeptAt before → KeptAt (before ++ e ∷ [])
  other before e same different plain h =
      pushed before e (lines-same before e plain) (subst (λ (s : State). IsKept file (lines before) s (has order.start (before ++ e ∷ []))) (sym same)
      (record { wide = h.wide; exist = h.exist; runs = h.runs; stands = λ b. h.stands (has_before order.start before e different b) }))

  pub kept-step : (before : List Entry) (e : Entry) → Meets file before e → KeptAt before → KeptAt (before ++ e ∷ [])
  kept-step before (Cut w gamma u v) m h =
      let s = state file.objs before in
      let c : Stated = record { w = w; gamma = gamma; u = u } in
      pushed before (Cut w gamma u v) (lines-same before (Cut w gamma u v) refl) (record {
        wide = All-append (λ (d : Stated). length d.w ≡ file.objs) s.cuts (c ∷ []) h.wide
            (All-cons (λ (d : Stated). length d.w ≡ file.objs) c [] m.rules.lengths (All-nil (λ (d : Stated). length d.w ≡ file.objs)));
        exist = All-weaker (Exists s.cuts) (Exists (s.cuts ++ c ∷ [])) (λ k e. exists_stays s.cuts (c ∷ []) k e) s.used h.exist;
        runs = h.runs;
        stands = λ b. stands-cut file (lines before) s c h.exist (h.stands (has_before order.start before (Cut w gamma u v) refl b));
      })
  kept-step before (Start cuts point directions) m h =
      let s = state file.objs before in
      pushed before (Start cuts point directions) (lines-same before (Start cuts point directions) refl) (record {
        wide = h.wide;
        exist = m.rules.exist;
        runs = h.runs;
        stands = λ b. stands-start file before s cuts point directions h.runs.echelon m.rules;
      })
  kept-step before (Add cut pairs) m h =
      let s = state file.objs before in
      pushed before (Add cut pairs) (lines-same before (Add cut pairs) refl) (record {
        wide = h.wide;
        exist = All-append (Exists s.cuts) s.used (cut ∷ []) h.exist (All-cons (Exists s.cuts) cut [] m.rules.exists (All-nil (Exists s.cuts)));
        runs = h.runs;
        stands = λ b. stands-add file (lines before) s cut pairs h.wide (h.stands (order_of before order.add m.order).start) m.rules;
      })
  kept-step before (Line d x ray m back n) e h =
      subst (λ (ls : List (List ℚ)). IsKept file ls (state file.objs (before ++ Line d x ray m back n ∷ [])) (has order.start (before ++ Line d x ray m back n ∷ [])))
      (sym (filter_map-append line_in before (Line d x ray m back n ∷ [])))
      (subst (λ (s : State). IsKept file (lines before ++ d ∷ []) s (has order.start (before ++ Line d x ray m back n ∷ []))) (sym (state-push file.objs before (Line d x ray m back n)))
      (record {
        wide = h.wide;
        exist = h.exist;
        runs = runs-line file before d x ray m back n e.rules h.runs;
        stands = λ b. absurd (not_true (has order.start before) (order_of before order.line e.order).unstarted (has_before order.start before (Line d x ray m back n) refl b));
      }))
  kept-step before e m h = other before e refl refl refl h

  pub kept : (entries : List Entry) → AllMeet file entries → KeptAt entries
  kept entries meet = along file KeptAt kept-step entries meet
      (record { wide = All-nil (λ (d : Stated). length d.w ≡ file.objs); exist = All-nil (Exists []); runs = no_lines file; stands = λ b. absurd (true≢false (sym b)) })

pub rules_keep_description : RulesKeepDescription
rules_keep_description file entries meet started = (kept file entries meet).stands started

pub rules_keep_lines : RulesKeepLines
rules_keep_lines file entries meet = (kept file entries meet).runs
