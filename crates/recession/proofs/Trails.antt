-- The trail after some cuts, and the licences of calls after it.
use Rattle.std.proofs.Common.{◌≡◌, ℕ, List, [], ◌∷◌, ◌++◌, map, All, refl, sym, ap, ◌∙◌, subst, append_assoc, Bool}
use Rattle.std.proofs.lemmas.List.{append-nil, map-append}
use Rattle.std.proofs.lemmas.List.Elements.{All-head, All-tail}
use Rattle.std.proofs.lemmas.List.Sums.{fold-append}
use Rattle.exact_field.specs.Rational.{ℚ}
use Rattle.frac128.specs.declared.vectors.Spot.{Spot}
use Rattle.deriv_log.specs.declared.entry.Entry.{Entry}
use Rattle.deriv_log.specs.declared.entry.Entry.TheVariants as line
use Rattle.log_rules.specs.Live.{after, nothing, state}
use Rattle.overflows.specs.Base.{trail_normals}
use Rattle.overflows.specs.Licence.{opening, Completes, Licensed, StandsFor}
use Rattle.overflows.specs.Trails.{IsBaseTrail}
use Rattle.overflows.proofs.Growing.{trail_laws}
use Rattle.overflows.proofs.Without.{licence_laws}
use Rattle.overflows.specs.Faults.{OnLicence, Overflows}
use Rattle.overflows.specs.declared.fault.SolveFault.{SolveFault}
use Rattle.overflows.specs.declared.fault.SolveFault.TheVariants.{Left, NoMemory}
use Rattle.lp_form.specs.declared.shown.Cut.{Cut}
use Rattle.outer_approx.specs.Cuts.{IsCutFor, SaysCut}
use Rattle.outer_approx.specs.Task.{Task, IsFitting, setting}
use Rattle.recession.specs.Further.{SayCuts, normals_of}

-- one more cut has its normal after the others
normals-more : (q : ℕ) (trail : List Entry) (w : List ℚ) (gamma : ℚ) (u v : List Spot) →
    trail_normals q (trail ++ line.Cut w gamma u v ∷ []) ≡ trail_normals q trail ++ w ∷ []
normals-more q trail w gamma u v =
    ap (λ s. map (λ cut. cut.w) s.cuts) (fold-append (after q) nothing trail (line.Cut w gamma u v ∷ []))
    ∙ map-append (λ cut. cut.w) (state q trail).cuts (record { w = w; gamma = gamma; u = u } ∷ [])

module _ (holds : ℚ → Bool) (task : Task) (fitting : IsFitting holds task) where
  abbrev start : List Entry
  start = opening task.c task.weights fitting.picks fitting.inverse

  -- the trail of these entries after the opening
  abbrev pub trail_of : List Entry → List Entry
  trail_of entries = start ++ entries

  pub opens : IsBaseTrail task.file task.c task.weights start
  opens = trail_laws.opened task.file task.c task.weights fitting.picks fitting.inverse fitting.fits fitting.base

  -- an overflow after such a trail is licensed
  pub licensed : (entries : List Entry) → IsBaseTrail task.file task.c task.weights (trail_of entries) → (fault : SolveFault) →
      Overflows holds (setting task (trail_of entries)) entries fault → OnLicence fault (Licensed holds task.file task.c)
  licensed entries base (Left licence) (same, overflow) =
      licence_laws.licensed holds task.file task.c task.weights (trail_of entries) licence
      (subst (λ (t : List Entry). StandsFor holds task.file task.c task.weights t (trail_of entries)) (sym same) record {
        possible = record { picks = fitting.picks; inverse = fitting.inverse; held = fitting.held; trail = opens };
        completes = Completes.after_opening fitting.picks fitting.inverse fitting.held refl;
        base = base;
      }) overflow
  licensed entries base NoMemory o = tt

  -- the entries of cuts follow
  module _ {F : Type 0} (value : F → ℚ) where
    record IsAfter (cuts : List (Cut F)) (before entries : List Entry) : Type 0 where
      base : IsBaseTrail task.file task.c task.weights (trail_of (before ++ entries))
      normals : trail_normals task.file.objs (trail_of (before ++ entries)) ≡ trail_normals task.file.objs (trail_of before) ++ normals_of value cuts

    follow : (cuts : List (Cut F)) (before entries : List Entry) → IsBaseTrail task.file task.c task.weights (trail_of before) →
        All (IsCutFor value task) cuts → SayCuts value cuts entries → IsAfter cuts before entries
    follow [] before [] base all says = record {
      base = subst (λ (es : List Entry). IsBaseTrail task.file task.c task.weights (trail_of es)) (sym (append-nil before)) base;
      normals = ap (λ (es : List Entry). trail_normals task.file.objs (trail_of es)) (append-nil before) ∙ sym (append-nil (trail_normals task.file.objs (trail_of before)));
    }
    follow [] before (e ∷ entries) base all says = absurd says
    follow (cut ∷ cuts) before [] base all says = absurd says
    follow (cut ∷ cuts) before (e ∷ entries) base all says =
        let q : ℕ = task.file.objs in
        let w : List ℚ = map value cut.w in
        let s : SaysCut value cut e = says.0 in
        let k : IsCutFor value task cut = All-head (IsCutFor value task) cut cuts all in
        let one : List Entry = line.Cut w (value cut.gamma) s.u s.v ∷ [] in
        let more : IsBaseTrail task.file task.c task.weights (trail_of (before ++ one)) =
        trail_laws.cut task.file task.c task.weights (trail_of before) w (value cut.gamma) s.u s.v base refl (k.shown s.u s.v s.u_is s.v_is)
        (k.base s.u s.v s.u_is s.v_is) in
        let rest = follow cuts (before ++ one) entries more (All-tail (IsCutFor value task) cut cuts all) says.1 in
        let same : (before ++ one) ++ entries ≡ before ++ e ∷ entries =
        append_assoc before one entries ∙ ap (λ (d : Entry). before ++ d ∷ entries) (sym s.is) in
        record {
          base = subst (λ (es : List Entry). IsBaseTrail task.file task.c task.weights (trail_of es)) same rest.base;
          normals =
              ap (λ (es : List Entry). trail_normals q (trail_of es)) (sym same) ∙ rest.normals
              ∙ ap (λ (ns : List (List ℚ)). ns ++ normals_of value cuts) (normals-more q (trail_of before) w (value cut.gamma) s.u s.v)
              ∙ append_assoc (trail_normals q (trail_of before)) (w ∷ []) (normals_of value cuts);
        }

    pub trail_base : (cuts : List (Cut F)) (entries : List Entry) → All (IsCutFor value task) cuts → SayCuts value cuts entries →
        IsBaseTrail task.file task.c task.weights (trail_of entries)
    trail_base cuts entries all says = (follow cuts [] entries opens all says).base

    pub trail_has : (cuts : List (Cut F)) (entries : List Entry) → All (IsCutFor value task) cuts → SayCuts value cuts entries →
        trail_normals task.file.objs (trail_of entries) ≡ normals_of value cuts
    trail_has cuts entries all says = (follow cuts [] entries opens all says).normals

-- one more entry says one more cut
pub say_more : {F : Type 0} (value : F → ℚ) (cuts : List (Cut F)) (cut : Cut F) (entries : List Entry) (e : Entry) → SayCuts value cuts entries →
    SaysCut value cut e → SayCuts value (cuts ++ cut ∷ []) (entries ++ e ∷ [])
say_more value [] cut [] e h says = (says, tt)
say_more value [] cut (d ∷ entries) e h says = absurd h
say_more value (k ∷ cuts) cut [] e h says = absurd h
say_more value (k ∷ cuts) cut (d ∷ entries) e h says = (h.0, say_more value cuts cut entries e h.1 says)
