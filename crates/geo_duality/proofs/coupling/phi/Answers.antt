use Rattle.std.proofs.Common.{◌≡◌, ◌-◌, List, length, map, take, All, refl, sym, ap, ap₂, ◌∙◌, subst, inl, inr, arith}
use Rattle.std.proofs.lemmas.List.{length-map}
use Rattle.exact_field.specs.Rational.{ℚ}
use Rattle.exact_field.specs.Vector.{dot, front, last}
use Rattle.lin_rows.specs.Sums.{IsDotLeft}
use Rattle.lin_rows.proofs.Errors.{err_holds}
use Rattle.double_descr.specs.Steps.{IsFirst, IsHeld, Step}
use Rattle.double_descr.proofs.StepLists.{if_err_map, if_ok_map, on_ok_map}
use Rattle.geo_duality.specs.Coupling.{IsCouplingLeft, IsProductHeld, joined, joining_steps, last_steps}
use Rattle.geo_duality.proofs.Dual.{coupling_is, mapped_front, mapped_last, product_held}
use Rattle.geo_duality.proofs.coupling.phi.Goals as goal

pub returns-in_err-direct-clause-left : goal.returns-in_err-direct-clause-left
returns-in_err-direct-clause-left g c =
    let value = g.F.Field.value in
    let holds = g.F.Field.holds in
    let y = map value c.args.y.now in
    let star = map value c.args.star.now in
    let normal = map value c.args.c.now in
    let n = length c.args.y.now - 1 in
    let fy : map value (take n c.args.y.now) ≡ front y = mapped_front value c.args.y.now n refl in
    let fs : map value (take n c.args.star.now) ≡ front star = mapped_front value c.args.star.now n (ap (λ m. m - 1) (sym c.requires.star)) in
    err_holds c.from_residual.result c.in_err-direct.field-0.0 (IsCouplingLeft value holds y star normal) c.from_residual.ensures.1
    (inl (subst (λ (p : List ℚ × List ℚ). IsDotLeft value holds p.0 p.1 c.in_err-direct.field-0.0) (λ i. (fy i, fs i)) c.in_err-direct.ensures.left))

pub returns-in_err-weight-clause-left : goal.returns-in_err-weight-clause-left
returns-in_err-weight-clause-left g c =
    let value = g.F.Field.value in
    let holds = g.F.Field.holds in
    let y = map value c.args.y.now in
    let star = map value c.args.star.now in
    let normal = map value c.args.c.now in
    let n = length c.args.y.now - 1 in
    let fy : map value (take n c.args.y.now) ≡ front y = mapped_front value c.args.y.now n refl in
    let fs : map value (take n c.args.star.now) ≡ front star = mapped_front value c.args.star.now n (ap (λ m. m - 1) (sym c.requires.star)) in
    let fc : map value (take n c.args.c.now) ≡ front normal = mapped_front value c.args.c.now n (ap (λ m. m - 1) (sym c.requires.c)) in
    let direct : IsProductHeld holds y star = product_held value holds c.args.y.now c.args.star.now n (front y) (front star) c.requires.some refl fy fs c.in_ok-direct.ensures.held in
    err_holds c.from_residual-in_err-weight.result c.in_err-weight.field-0.0 (IsCouplingLeft value holds y star normal) c.from_residual-in_err-weight.ensures.1
    (inr (inl (direct, subst (λ (p : List ℚ × List ℚ). IsDotLeft value holds p.0 p.1 c.in_err-weight.field-0.0) (λ i. (fc i, fs i)) c.in_err-weight.ensures.left)))

pub returns-clause-slack : goal.returns-clause-slack
returns-clause-slack g c =
    let value = g.F.Field.value in
    let holds = g.F.Field.holds in
    let y = map value c.args.y.now in
    let star = map value c.args.star.now in
    let normal = map value c.args.c.now in
    let n = length c.args.y.now - 1 in
    let fy : map value (take n c.args.y.now) ≡ front y = mapped_front value c.args.y.now n refl in
    let fs : map value (take n c.args.star.now) ≡ front star = mapped_front value c.args.star.now n (ap (λ m. m - 1) (sym c.requires.star)) in
    let fc : map value (take n c.args.c.now) ≡ front normal = mapped_front value c.args.c.now n (ap (λ m. m - 1) (sym c.requires.c)) in
    let d : value c.in_ok-direct.direct ≡ dot (front y) (front star) = c.in_ok-direct.ensures.ok ∙ ap₂ dot fy fs in
    let w : value c.in_ok-weight.weight ≡ dot (front normal) (front star) = c.in_ok-weight.ensures.ok ∙ ap₂ dot fc fs in
    let ly : value c.index-y-last.result ≡ last y = mapped_last value c.args.y.now n c.index-y-last.result (omega (arith, c.requires.some)) refl c.index-y-last.is in
    let ls : value c.index-star-last.result ≡ last star = mapped_last value c.args.star.now n c.index-star-last.result (omega (arith, c.requires.some, c.requires.star)) (ap (λ m. m - 1) (sym c.requires.star)) c.index-star-last.is in
    if_ok_map c.join.result _ _ c.join.ensures.value (λ x h. h ∙ (λ i. joined (d i) (w i) (ly i) (ls i))
    ∙ coupling_is y star normal (omega (arith, c.requires.some, length-map c.args.y.now value))
    (length-map c.args.star.now value ∙ c.requires.star ∙ sym (length-map c.args.y.now value)))

pub returns-clause-held : goal.returns-clause-held
returns-clause-held g c =
    let value = g.F.Field.value in
    let holds = g.F.Field.holds in
    let y = map value c.args.y.now in
    let star = map value c.args.star.now in
    let normal = map value c.args.c.now in
    let n = length c.args.y.now - 1 in
    let fy : map value (take n c.args.y.now) ≡ front y = mapped_front value c.args.y.now n refl in
    let fs : map value (take n c.args.star.now) ≡ front star = mapped_front value c.args.star.now n (ap (λ m. m - 1) (sym c.requires.star)) in
    let fc : map value (take n c.args.c.now) ≡ front normal = mapped_front value c.args.c.now n (ap (λ m. m - 1) (sym c.requires.c)) in
    let direct : IsProductHeld holds y star = product_held value holds c.args.y.now c.args.star.now n (front y) (front star) c.requires.some refl fy fs c.in_ok-direct.ensures.held in
    let weight : IsProductHeld holds normal star = product_held value holds c.args.c.now c.args.star.now n (front normal) (front star) (omega (arith, c.requires.some, c.requires.c)) (ap (λ m. m - 1) (sym c.requires.c)) fc fs c.in_ok-weight.ensures.held in
    let d : value c.in_ok-direct.direct ≡ dot (front y) (front star) = c.in_ok-direct.ensures.ok ∙ ap₂ dot fy fs in
    let w : value c.in_ok-weight.weight ≡ dot (front normal) (front star) = c.in_ok-weight.ensures.ok ∙ ap₂ dot fc fs in
    let ly : value c.index-y-last.result ≡ last y = mapped_last value c.args.y.now n c.index-y-last.result (omega (arith, c.requires.some)) refl c.index-y-last.is in
    let ls : value c.index-star-last.result ≡ last star = mapped_last value c.args.star.now n c.index-star-last.result (omega (arith, c.requires.some, c.requires.star)) (ap (λ m. m - 1) (sym c.requires.star)) c.index-star-last.is in
    let steps : joining_steps (value c.in_ok-direct.direct) (value c.in_ok-weight.weight) (value c.index-y-last.result) (value c.index-star-last.result) ≡ last_steps y star normal =
    λ i. joining_steps (d i) (w i) (ly i) (ls i) in
    on_ok_map c.join.result _ _ c.join.ensures.held (λ h. record {
      direct = direct;
      weight = weight;
      rest = subst (λ (ss : List Step). All (IsHeld holds) ss) steps h;
    })

pub returns-clause-left : goal.returns-clause-left
returns-clause-left g c =
    let value = g.F.Field.value in
    let holds = g.F.Field.holds in
    let y = map value c.args.y.now in
    let star = map value c.args.star.now in
    let normal = map value c.args.c.now in
    let n = length c.args.y.now - 1 in
    let fy : map value (take n c.args.y.now) ≡ front y = mapped_front value c.args.y.now n refl in
    let fs : map value (take n c.args.star.now) ≡ front star = mapped_front value c.args.star.now n (ap (λ m. m - 1) (sym c.requires.star)) in
    let fc : map value (take n c.args.c.now) ≡ front normal = mapped_front value c.args.c.now n (ap (λ m. m - 1) (sym c.requires.c)) in
    let direct : IsProductHeld holds y star = product_held value holds c.args.y.now c.args.star.now n (front y) (front star) c.requires.some refl fy fs c.in_ok-direct.ensures.held in
    let weight : IsProductHeld holds normal star = product_held value holds c.args.c.now c.args.star.now n (front normal) (front star) (omega (arith, c.requires.some, c.requires.c)) (ap (λ m. m - 1) (sym c.requires.c)) fc fs c.in_ok-weight.ensures.held in
    let d : value c.in_ok-direct.direct ≡ dot (front y) (front star) = c.in_ok-direct.ensures.ok ∙ ap₂ dot fy fs in
    let w : value c.in_ok-weight.weight ≡ dot (front normal) (front star) = c.in_ok-weight.ensures.ok ∙ ap₂ dot fc fs in
    let ly : value c.index-y-last.result ≡ last y = mapped_last value c.args.y.now n c.index-y-last.result (omega (arith, c.requires.some)) refl c.index-y-last.is in
    let ls : value c.index-star-last.result ≡ last star = mapped_last value c.args.star.now n c.index-star-last.result (omega (arith, c.requires.some, c.requires.star)) (ap (λ m. m - 1) (sym c.requires.star)) c.index-star-last.is in
    let steps : joining_steps (value c.in_ok-direct.direct) (value c.in_ok-weight.weight) (value c.index-y-last.result) (value c.index-star-last.result) ≡ last_steps y star normal =
    λ i. joining_steps (d i) (w i) (ly i) (ls i) in
    if_err_map c.join.result _ _ c.join.ensures.left
    (λ left h. inr (inr (direct, weight, (h.0, subst (λ (ss : List Step). IsFirst value holds ss h.0 left) steps h.1))))
