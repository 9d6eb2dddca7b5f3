use Rattle.std.proofs.Common.{◌≡◌, ◌==◌, ◌||◌, Bool, true, false, [], ◌∷◌, refl, sym, ap, ap₂, ◌∙◌, subst}
use Rattle.std.specs.Prelude.{⊤, Result}
use Rattle.frac128.specs.Held.{is_held}
use Rattle.log_rules.specs.Events.Event.{test}
use Rattle.log_rules.specs.Runs.{Runs, steps}
use Rattle.log_rules.specs.declared.rule.Rule.{Rule}
use Rattle.log_rules.specs.declared.rule.Rule.TheVariants as rule
use Rattle.log_rules.specs.declared.stop.Stop.{Stop}
use Rattle.rep_conv.specs.Events.{all_used, kind_events}
use Rattle.rep_conv.specs.Live.{State, after}
use Rattle.rep_conv.specs.Meets.{is_start, needs_start}
use Rattle.rep_conv.specs.Progress.{Keeps}
use Rattle.rep_conv.specs.declared.progress.Standing.{Standing}
use Rattle.rep_text.specs.declared.rep.Rep.{Rep}
use Rattle.rep_text.specs.declared.conv.ConvEntry.{ConvEntry}
use Rattle.rep_text.specs.declared.conv.ConvEntry.TheVariants.{Conv, Line, Start, Add, End}
use Rattle.rep_conv.proofs.After.{or_false, or_true}
use Rattle.rep_conv.proofs.Pieces.{gives_more}
use Rattle.rep_conv.proofs.progress.Standing.take_kind.Goals as goal

-- what is shown of an entry
abbrev Goes : Rep → State → Bool → Standing → Result (Unit {0}) Stop → ConvEntry → Type 0
Goes rep s b new result e = Runs {X = Unit {0}} is_held (kind_events rep s e) 0 (steps (kind_events rep s e)) (λ _. Keeps rep (after rep s e) new × (new.started ≡ (b || is_start e))) result

-- an entry that has one test and changes nothing
tested : (r : Rule) (a b : Bool) (V : Type 0) (result : Result (Unit {0}) Stop) → a ≡ b → Runs {X = Unit {0}} is_held (test r a ∷ []) 0 0 (λ _. ⊤) result → V →
    Runs {X = Unit {0}} is_held (test r b ∷ []) 0 0 (λ _. V) result
tested r a b V result e h v = subst (λ (x : Bool). Runs {X = Unit {0}} is_held (test r x ∷ []) 0 0 (λ _. V) result) e (gives_more (test r a ∷ []) 0 ⊤ V result h (λ _ _. v))

pub returns-in-Conv : goal.returns-in-Conv
returns-in-Conv c s h k =
    let goes : Goes c.args.rep.now s c.args.self.now.started c.args.self.now c.pass.result (Conv c.in-Conv.version) =
    tested rule.Version (c.in-Conv.version == 1) (c.in-Conv.version == 1) (Keeps c.args.rep.now s c.args.self.now × (c.args.self.now.started ≡ (c.args.self.now.started || false))) c.pass.result refl
    (c.pass.ensures 0) (h.keeps, sym (or_false c.args.self.now.started)) in
    subst (Goes c.args.rep.now s c.args.self.now.started c.args.self.now c.pass.result) (sym c.in-Conv.is) goes

pub returns-in-Line : goal.returns-in-Line
returns-in-Line c s h k =
    let goes : Goes c.args.rep.now s c.args.self.now.started c.take_line.new.self c.take_line.result (Line c.as_slice.result.now) =
    gives_more (kind_events c.args.rep.now s (Line c.as_slice.result.now)) (steps (kind_events c.args.rep.now s (Line c.as_slice.result.now)))
    (Keeps c.args.rep.now (after c.args.rep.now s (Line c.as_slice.result.now)) c.take_line.new.self × (c.take_line.new.self.started ≡ c.args.self.now.started))
    (Keeps c.args.rep.now (after c.args.rep.now s (Line c.as_slice.result.now)) c.take_line.new.self × (c.take_line.new.self.started ≡ (c.args.self.now.started || false)))
    c.take_line.result (c.take_line.ensures s h.keeps) (λ _ v. (v.0, v.1 ∙ sym (or_false c.args.self.now.started))) in
    subst (Goes c.args.rep.now s c.args.self.now.started c.take_line.new.self c.take_line.result) (ap Line c.as_slice.ensures.items ∙ sym c.in-Line.is) goes

pub returns-in-Start : goal.returns-in-Start
returns-in-Start c s h k =
    let goes : Goes c.args.rep.now s c.args.self.now.started c.take_start.new.self c.take_start.result (Start c.as_slice-in-Start.result.now c.as_slice-in-Start-2.result.now) =
    gives_more (kind_events c.args.rep.now s (Start c.as_slice-in-Start.result.now c.as_slice-in-Start-2.result.now)) (steps (kind_events c.args.rep.now s (Start c.as_slice-in-Start.result.now c.as_slice-in-Start-2.result.now)))
    (Keeps c.args.rep.now (after c.args.rep.now s (Start c.as_slice-in-Start.result.now c.as_slice-in-Start-2.result.now)) c.take_start.new.self × (c.take_start.new.self.started ≡ true))
    (Keeps c.args.rep.now (after c.args.rep.now s (Start c.as_slice-in-Start.result.now c.as_slice-in-Start-2.result.now)) c.take_start.new.self × (c.take_start.new.self.started ≡ (c.args.self.now.started || true)))
    c.take_start.result (c.take_start.ensures s h.keeps) (λ _ v. (v.0, v.1 ∙ sym (or_true c.args.self.now.started))) in
    subst (Goes c.args.rep.now s c.args.self.now.started c.take_start.new.self c.take_start.result) (ap₂ Start c.as_slice-in-Start.ensures.items c.as_slice-in-Start-2.ensures.items ∙ sym c.in-Start.is) goes

pub returns-in-Add : goal.returns-in-Add
returns-in-Add c s h k =
    let same : ◌≡◌ {A = ConvEntry} (Add c.in-Add.row c.as_slice-in-Add.result.now) c.args.entry.now = ap (Add c.in-Add.row) c.as_slice-in-Add.ensures.items ∙ sym c.in-Add.is in
    let begun : c.args.self.now.started ≡ true = k (sym (ap needs_start same)) in
    let goes : Goes c.args.rep.now s c.args.self.now.started c.take_add.new.self c.take_add.result (Add c.in-Add.row c.as_slice-in-Add.result.now) =
    gives_more (kind_events c.args.rep.now s (Add c.in-Add.row c.as_slice-in-Add.result.now)) (steps (kind_events c.args.rep.now s (Add c.in-Add.row c.as_slice-in-Add.result.now)))
    (Keeps c.args.rep.now (after c.args.rep.now s (Add c.in-Add.row c.as_slice-in-Add.result.now)) c.take_add.new.self × (c.take_add.new.self.started ≡ true))
    (Keeps c.args.rep.now (after c.args.rep.now s (Add c.in-Add.row c.as_slice-in-Add.result.now)) c.take_add.new.self × (c.take_add.new.self.started ≡ (c.args.self.now.started || false)))
    c.take_add.result (c.take_add.ensures s h begun) (λ _ v. (v.0, v.1 ∙ sym (or_false c.args.self.now.started ∙ begun))) in
    subst (Goes c.args.rep.now s c.args.self.now.started c.take_add.new.self c.take_add.result) same goes

pub returns-in-End : goal.returns-in-End
returns-in-End c s h k =
    let goes : Goes c.args.rep.now s c.args.self.now.started c.args.self.now c.pass-in-End.result End =
    tested rule.Missing c.are_all_used.result (all_used c.args.rep.now s) (Keeps c.args.rep.now s c.args.self.now × (c.args.self.now.started ≡ (c.args.self.now.started || false))) c.pass-in-End.result
    (c.are_all_used.ensures c.args.rep.now s h.keeps) (c.pass-in-End.ensures 0) (h.keeps, sym (or_false c.args.self.now.started)) in
    subst (Goes c.args.rep.now s c.args.self.now.started c.args.self.now c.pass-in-End.result) (sym c.in-End.is) goes
