use Rattle.std.proofs.Common.{map, length, refl, sym, ◌∙◌, subst, ◌≡◌, ◌-◌, List, [], true≢false, ◌⊎◌, inl, inr, Bool, false, ◌↔◌, IsTrue}
use Rattle.std.proofs.lemmas.List.{length-map}
use Rattle.exact_field.specs.Rational.{ℚ, zero_ℚ, ◌<ℚ◌, ◌≤ℚ◌}
use Rattle.exact_field.proofs.Inequalities.{le_or_lt}
use Rattle.lin_rows.proofs.Errors.{err_holds}
use Rattle.upper_image.specs.Shows.{ShowsFitting}
use Rattle.outer_approx.specs.Task.{setting}
use Rattle.overflows.specs.Faults.{Overflows}
use Rattle.benson_program.specs.Cuts.{IsCutOf}
use Rattle.overflows.specs.Preimages.{IsPreimageOf}
use Rattle.recession.proofs.Asking_ends.{asked_cut, c_wide_in, last_in, low_in, optimum_in, weights_in, wide_in}
use Rattle.recession.proofs.asking.read_off.Goals as goal

-- a number that is tested not to be positive is at most 0
not_positive : (p q : ℚ) (b : Bool) → p ≡ q → IsTrue b ↔ (zero_ℚ <ℚ p) → b ≡ false → q ≤ℚ zero_ℚ
not_positive p q b same h none = go (le_or_lt q zero_ℚ)
  where
    go : (q ≤ℚ zero_ℚ) ⊎ (zero_ℚ <ℚ q) → q ≤ℚ zero_ℚ
    go (inl l) = l
    go (inr l) = absurd (true≢false (sym (h.1 (subst (λ (x : ℚ). zero_ℚ <ℚ x) (sym same) l)) ∙ none))

pub cut_of-requires-clause-c : goal.cut_of-requires-clause-c
cut_of-requires-clause-c g c =
    c_wide_in g.F.Field.value g.F.Field.holds g.task c.requires.1.1.1.1.0 c.args.form.now c.requires.1.0 c.args.c.now c.requires.1.1.0

pub cut_of-requires-clause-v : goal.cut_of-requires-clause-v
cut_of-requires-clause-v g c =
    wide_in g.F.Field.value g.F.Field.holds g.task c.requires.1.1.1.1.0 c.args.form.now c.requires.1.0 c.args.v.now c.requires.1.1.1.1.1.0

pub cut_of-requires-clause-optimum : goal.cut_of-requires-clause-optimum
cut_of-requires-clause-optimum g c = λ file stands.
    let value = g.F.Field.value in
    let o = c.requires.1.1.1.1.1.1 in (
      o.0,
      map value c.args.dual.now,
      optimum_in value g.F.Field.holds g.task c.requires.1.1.1.1.0 c.args.form.now c.requires.1.0 file stands (map value c.args.c.now) (map value c.args.v.now) c.args.t o.0
          (map value c.args.z.now) (map value c.args.dual.now) c.requires.1.1.0 o.1,
    )

pub preimage_of-requires-clause-weights : goal.preimage_of-requires-clause-weights
preimage_of-requires-clause-weights g c =
    weights_in g.F.Field.value g.F.Field.holds g.task c.requires.1.1.1.1.0 c.args.form.now c.requires.1.0 c.args.weights.now c.requires.1.1.1.0

pub preimage_of-requires-clause-dual : goal.preimage_of-requires-clause-dual
preimage_of-requires-clause-dual g c =
    let value = g.F.Field.value in
    let o = c.requires.1.1.1.1.1.1 in
    let dual = c.args.dual.now in
    let v = map value c.args.v.now in
    let v_long = length-map c.args.v.now value ∙ c.requires.1.1.1.1.1.0 in
    let last = last_in value g.F.Field.holds g.task c.requires.1.1.1.1.0 c.args.form.now c.requires.1.0 v c.args.t o.0 (map value c.args.z.now) dual v_long o.1 (length dual - 1)
    c.index-dual-dual.result c.index-dual-dual.is refl in (
      g.task.file,
      g.task.c,
      v,
      c.args.t,
      c.requires.1.0,
      low_in value g.F.Field.holds g.task c.requires.1.1.1.1.0 c.args.form.now c.requires.1.0 v c.args.t o.0 (map value c.args.z.now) dual v_long o.1
          (not_positive _ _ c.is_positive.result last c.is_positive.ensures.fact c.if-is_positive.false),
    )

pub returns-in_err-parts-clause-left : goal.returns-in_err-parts-clause-left
returns-in_err-parts-clause-left g c = λ trail start.
    let value = g.F.Field.value in
    let holds = g.F.Field.holds in
    let o = c.requires.1.1.1.1.1.1 in
    let dual = c.args.dual.now in
    let v = map value c.args.v.now in
    let v_long = length-map c.args.v.now value ∙ c.requires.1.1.1.1.1.0 in
    let last = last_in value holds g.task c.requires.1.1.1.1.0 c.args.form.now c.requires.1.0 v c.args.t o.0 (map value c.args.z.now) dual v_long o.1 (length dual - 1)
    c.index-dual-dual.result c.index-dual-dual.is refl in
    let low = low_in value holds g.task c.requires.1.1.1.1.0 c.args.form.now c.requires.1.0 v c.args.t o.0 (map value c.args.z.now) dual v_long o.1
    (not_positive _ _ c.is_positive.result last c.is_positive.ensures.fact c.if-is_positive.false) in
    err_holds c.from_residual-in_err-parts.result c.in_err-parts.field-0.0 (Overflows holds (setting g.task trail) []) c.from_residual-in_err-parts.ensures.1
    (c.in_err-parts.ensures.left (setting g.task trail) g.task.c v c.args.t c.requires.1.0 refl c.requires.1.1.1.0 start low)

pub returns-in_ok-cut-clause-ok : goal.returns-in_ok-cut-clause-ok
returns-in_ok-cut-clause-ok g c =
    let value = g.F.Field.value in
    let holds = g.F.Field.holds in
    let o = c.requires.1.1.1.1.1.1 in
    let dual = c.args.dual.now in
    let z = map value c.args.z.now in
    let v = map value c.args.v.now in
    let v_long = length-map c.args.v.now value ∙ c.requires.1.1.1.1.1.0 in
    let cut = c.in_ok-cut.cut in
    let last = last_in value holds g.task c.requires.1.1.1.1.0 c.args.form.now c.requires.1.0 v c.args.t o.0 z dual v_long o.1 (length dual - 1) c.index-dual-dual.result
    c.index-dual-dual.is refl in
    let of_z = subst (λ (d : List ℚ). IsCutOf value g.task.file d z cut) c.requires.1.1.0 (c.in_ok-cut.ensures.ok g.task.file c.requires.1.0) in
    asked_cut value g.task cut z of_z v c.args.t o.0 (map value dual) o.1
    (subst (λ (x : ℚ). zero_ℚ <ℚ x) last (c.is_positive.ensures.fact.0 c.if-is_positive.true))

pub returns-in_ok-parts-clause-ok : goal.returns-in_ok-parts-clause-ok
returns-in_ok-parts-clause-ok g c =
    let value = g.F.Field.value in
    let holds = g.F.Field.holds in
    let o = c.requires.1.1.1.1.1.1 in
    let dual = c.args.dual.now in
    let v = map value c.args.v.now in
    let v_long = length-map c.args.v.now value ∙ c.requires.1.1.1.1.1.0 in
    let last = last_in value holds g.task c.requires.1.1.1.1.0 c.args.form.now c.requires.1.0 v c.args.t o.0 (map value c.args.z.now) dual v_long o.1 (length dual - 1)
    c.index-dual-dual.result c.index-dual-dual.is refl in
    let low = low_in value holds g.task c.requires.1.1.1.1.0 c.args.form.now c.requires.1.0 v c.args.t o.0 (map value c.args.z.now) dual v_long o.1
    (not_positive _ _ c.is_positive.result last c.is_positive.ensures.fact c.if-is_positive.false) in
    let f = c.requires.1.1.1.1.0 in
    subst (λ (w : List ℚ). IsPreimageOf value g.task.file g.task.c w v c.args.t c.in_ok-parts.parts) c.requires.1.1.1.0
    (c.in_ok-parts.ensures.ok g.task.file g.task.c v c.args.t f.picks f.inverse c.requires.1.0 low
    (subst (λ (w : List ℚ). ShowsFitting g.task.file g.task.c w f.picks f.inverse) (sym c.requires.1.1.1.0) f.fits))
