use Rattle.std.proofs.Common.{◌≡◌, ℕ, [], sym, ap, ◌∙◌}
use Rattle.std.specs.Prelude.{IsTrue}
use Rattle.exact_field.specs.Rational.{one_ℚ, ◌+ℚ◌, ◌-ℚ◌, ◌*ℚ◌}
use Rattle.lin_rows.proofs.Errors.{err_holds}
use Rattle.double_descr.specs.Steps.{IsFirst}
use Rattle.double_descr.proofs.StepLists.{at_last, one_more, start, stopped, stopped_second, two_more}
use Rattle.geo_duality.specs.Coupling.{joined, joining_steps}
use Rattle.geo_duality.proofs.Dual.{when_done, when_err, when_ok}
use Rattle.geo_duality.proofs.coupling.join.Goals as goal

pub returns-in_err-rest-clause-left : goal.returns-in_err-rest-clause-left
returns-in_err-rest-clause-left g c =
    let value = g.F.Field.value in
    let holds = g.F.Field.holds in
    let steps = joining_steps (value c.args.direct) (value c.args.weight) (value c.args.height) (value c.args.bound) in
    let r : value c.one.result -ℚ value c.args.weight ≡ one_ℚ -ℚ value c.args.weight = ap (λ a. a -ℚ value c.args.weight) c.one.ensures in
    err_holds c.from_residual.result c.in_err-rest.field-0.0 (λ left. (number : ℕ) × IsFirst value holds steps number left) c.from_residual.ensures.1 (
      1,
      stopped value holds steps _ _ 0 c.in_err-rest.field-0.0 (start holds steps) (ap holds (sym r) ∙ c.in_err-rest.ensures.1)
          (ap (λ l. l.op) c.in_err-rest.ensures.0) (ap (λ l. value l.a) c.in_err-rest.ensures.0 ∙ c.one.ensures) (ap (λ l. value l.b) c.in_err-rest.ensures.0),
    )

pub returns-in_err-share-clause-left : goal.returns-in_err-share-clause-left
returns-in_err-share-clause-left g c =
    let value = g.F.Field.value in
    let holds = g.F.Field.holds in
    let steps = joining_steps (value c.args.direct) (value c.args.weight) (value c.args.height) (value c.args.bound) in
    let r : value c.one.result -ℚ value c.args.weight ≡ one_ℚ -ℚ value c.args.weight = ap (λ a. a -ℚ value c.args.weight) c.one.ensures in
    let rest : IsTrue (holds (one_ℚ -ℚ value c.args.weight)) = ap holds (sym r) ∙ c.in_ok-rest.ensures.1 in
    let s : value c.args.height *ℚ value c.in_ok-rest.rest ≡ value c.args.height *ℚ (one_ℚ -ℚ value c.args.weight) = ap (λ a. value c.args.height *ℚ a) (c.in_ok-rest.ensures.0 ∙ r) in
    err_holds c.from_residual-in_err-share.result c.in_err-share.field-0.0 (λ left. (number : ℕ) × IsFirst value holds steps number left) c.from_residual-in_err-share.ensures.1 (
      2,
      stopped_second value holds steps _ _ 0 c.in_err-share.field-0.0 (one_more holds steps _ _ 0 (start holds steps) rest) (ap holds (sym s) ∙ c.in_err-share.ensures.1)
          (ap (λ l. l.op) c.in_err-share.ensures.0) (ap (λ l. value l.a) c.in_err-share.ensures.0) (ap (λ l. value l.b) c.in_err-share.ensures.0 ∙ c.in_ok-rest.ensures.0 ∙ r),
    )

pub returns-in_err-total-clause-left : goal.returns-in_err-total-clause-left
returns-in_err-total-clause-left g c =
    let value = g.F.Field.value in
    let holds = g.F.Field.holds in
    let steps = joining_steps (value c.args.direct) (value c.args.weight) (value c.args.height) (value c.args.bound) in
    let r : value c.one.result -ℚ value c.args.weight ≡ one_ℚ -ℚ value c.args.weight = ap (λ a. a -ℚ value c.args.weight) c.one.ensures in
    let rest : IsTrue (holds (one_ℚ -ℚ value c.args.weight)) = ap holds (sym r) ∙ c.in_ok-rest.ensures.1 in
    let s : value c.args.height *ℚ value c.in_ok-rest.rest ≡ value c.args.height *ℚ (one_ℚ -ℚ value c.args.weight) = ap (λ a. value c.args.height *ℚ a) (c.in_ok-rest.ensures.0 ∙ r) in
    let share : IsTrue (holds (value c.args.height *ℚ (one_ℚ -ℚ value c.args.weight))) = ap holds (sym s) ∙ c.in_ok-share.ensures.1 in
    let t : value c.args.direct +ℚ value c.in_ok-share.share ≡ value c.args.direct +ℚ value c.args.height *ℚ (one_ℚ -ℚ value c.args.weight) = ap (λ a. value c.args.direct +ℚ a) (c.in_ok-share.ensures.0 ∙ s) in
    err_holds c.from_residual-in_err-total.result c.in_err-total.field-0.0 (λ left. (number : ℕ) × IsFirst value holds steps number left) c.from_residual-in_err-total.ensures.1 (
      3,
      stopped value holds steps _ _ 2 c.in_err-total.field-0.0 (two_more holds steps _ _ _ 0 (start holds steps) rest share) (ap holds (sym t) ∙ c.in_err-total.ensures.1)
          (ap (λ l. l.op) c.in_err-total.ensures.0) (ap (λ l. value l.a) c.in_err-total.ensures.0) (ap (λ l. value l.b) c.in_err-total.ensures.0 ∙ c.in_ok-share.ensures.0 ∙ s),
    )

pub returns-clause-value : goal.returns-clause-value
returns-clause-value g c =
    let value = g.F.Field.value in
    let holds = g.F.Field.holds in
    let steps = joining_steps (value c.args.direct) (value c.args.weight) (value c.args.height) (value c.args.bound) in
    let r : value c.one.result -ℚ value c.args.weight ≡ one_ℚ -ℚ value c.args.weight = ap (λ a. a -ℚ value c.args.weight) c.one.ensures in
    let rest : IsTrue (holds (one_ℚ -ℚ value c.args.weight)) = ap holds (sym r) ∙ c.in_ok-rest.ensures.1 in
    let s : value c.args.height *ℚ value c.in_ok-rest.rest ≡ value c.args.height *ℚ (one_ℚ -ℚ value c.args.weight) = ap (λ a. value c.args.height *ℚ a) (c.in_ok-rest.ensures.0 ∙ r) in
    let share : IsTrue (holds (value c.args.height *ℚ (one_ℚ -ℚ value c.args.weight))) = ap holds (sym s) ∙ c.in_ok-share.ensures.1 in
    let t : value c.args.direct +ℚ value c.in_ok-share.share ≡ value c.args.direct +ℚ value c.args.height *ℚ (one_ℚ -ℚ value c.args.weight) = ap (λ a. value c.args.direct +ℚ a) (c.in_ok-share.ensures.0 ∙ s) in
    let total : IsTrue (holds (value c.args.direct +ℚ value c.args.height *ℚ (one_ℚ -ℚ value c.args.weight))) = ap holds (sym t) ∙ c.in_ok-total.ensures.1 in
    let z : value c.in_ok-total.total -ℚ value c.args.bound ≡ joined (value c.args.direct) (value c.args.weight) (value c.args.height) (value c.args.bound) = ap (λ a. a -ℚ value c.args.bound) (c.in_ok-total.ensures.0 ∙ t) in
    when_ok c.sub-2.result _ _ _ c.sub-2.ensures (λ x h. h.0 ∙ z)

pub returns-clause-held : goal.returns-clause-held
returns-clause-held g c =
    let value = g.F.Field.value in
    let holds = g.F.Field.holds in
    let steps = joining_steps (value c.args.direct) (value c.args.weight) (value c.args.height) (value c.args.bound) in
    let r : value c.one.result -ℚ value c.args.weight ≡ one_ℚ -ℚ value c.args.weight = ap (λ a. a -ℚ value c.args.weight) c.one.ensures in
    let rest : IsTrue (holds (one_ℚ -ℚ value c.args.weight)) = ap holds (sym r) ∙ c.in_ok-rest.ensures.1 in
    let s : value c.args.height *ℚ value c.in_ok-rest.rest ≡ value c.args.height *ℚ (one_ℚ -ℚ value c.args.weight) = ap (λ a. value c.args.height *ℚ a) (c.in_ok-rest.ensures.0 ∙ r) in
    let share : IsTrue (holds (value c.args.height *ℚ (one_ℚ -ℚ value c.args.weight))) = ap holds (sym s) ∙ c.in_ok-share.ensures.1 in
    let t : value c.args.direct +ℚ value c.in_ok-share.share ≡ value c.args.direct +ℚ value c.args.height *ℚ (one_ℚ -ℚ value c.args.weight) = ap (λ a. value c.args.direct +ℚ a) (c.in_ok-share.ensures.0 ∙ s) in
    let total : IsTrue (holds (value c.args.direct +ℚ value c.args.height *ℚ (one_ℚ -ℚ value c.args.weight))) = ap holds (sym t) ∙ c.in_ok-total.ensures.1 in
    let z : value c.in_ok-total.total -ℚ value c.args.bound ≡ joined (value c.args.direct) (value c.args.weight) (value c.args.height) (value c.args.bound) = ap (λ a. a -ℚ value c.args.bound) (c.in_ok-total.ensures.0 ∙ t) in
    when_done c.sub-2.result _ _ _ c.sub-2.ensures (λ x h. at_last holds steps 4 (two_more holds steps _ _ [] 2 (two_more holds steps _ _ _ 0 (start holds steps) rest share) total (ap holds (sym z) ∙ h.1)))

pub returns-clause-left : goal.returns-clause-left
returns-clause-left g c =
    let value = g.F.Field.value in
    let holds = g.F.Field.holds in
    let steps = joining_steps (value c.args.direct) (value c.args.weight) (value c.args.height) (value c.args.bound) in
    let r : value c.one.result -ℚ value c.args.weight ≡ one_ℚ -ℚ value c.args.weight = ap (λ a. a -ℚ value c.args.weight) c.one.ensures in
    let rest : IsTrue (holds (one_ℚ -ℚ value c.args.weight)) = ap holds (sym r) ∙ c.in_ok-rest.ensures.1 in
    let s : value c.args.height *ℚ value c.in_ok-rest.rest ≡ value c.args.height *ℚ (one_ℚ -ℚ value c.args.weight) = ap (λ a. value c.args.height *ℚ a) (c.in_ok-rest.ensures.0 ∙ r) in
    let share : IsTrue (holds (value c.args.height *ℚ (one_ℚ -ℚ value c.args.weight))) = ap holds (sym s) ∙ c.in_ok-share.ensures.1 in
    let t : value c.args.direct +ℚ value c.in_ok-share.share ≡ value c.args.direct +ℚ value c.args.height *ℚ (one_ℚ -ℚ value c.args.weight) = ap (λ a. value c.args.direct +ℚ a) (c.in_ok-share.ensures.0 ∙ s) in
    let total : IsTrue (holds (value c.args.direct +ℚ value c.args.height *ℚ (one_ℚ -ℚ value c.args.weight))) = ap holds (sym t) ∙ c.in_ok-total.ensures.1 in
    let z : value c.in_ok-total.total -ℚ value c.args.bound ≡ joined (value c.args.direct) (value c.args.weight) (value c.args.height) (value c.args.bound) = ap (λ a. a -ℚ value c.args.bound) (c.in_ok-total.ensures.0 ∙ t) in
    when_err c.sub-2.result _ _ _ c.sub-2.ensures (λ left h. (
      4,
      stopped_second value holds steps _ _ 2 left
          (one_more holds steps _ _ 2 (two_more holds steps _ _ _ 0 (start holds steps) rest share) total) (ap holds (sym z) ∙ h.1)
          (ap (λ l. l.op) h.0) (ap (λ l. value l.a) h.0 ∙ c.in_ok-total.ensures.0 ∙ t) (ap (λ l. value l.b) h.0),
    ))
