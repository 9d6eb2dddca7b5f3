use Rattle.std.proofs.Common.{◌≡◌, ◌+◌, ◌-◌, [], ◌++◌, length, map, drop, refl, sym, ap, ◌∙◌, arith}
use Rattle.std.proofs.lemmas.List.{drop_all, length-map}
use Rattle.exact_field.specs.Vector.{dot, entry, front, last}
use Rattle.lin_rows.proofs.Errors.{err_holds}
use Rattle.double_descr.proofs.StepLists.{at_last, at_number, same_left, write_on, written_all}
use Rattle.geo_duality.specs.Exchange.{IsExchangeFault, difference_steps, dual_vector, exchange_steps}
use Rattle.geo_duality.proofs.Dual.{difference_at, differences, exchanged_is, front_from, length-front, mapped_last, row_done, row_is, steps_at}
use Rattle.geo_duality.proofs.exchanged.exchange.Goals as goal

pub returns-in_err-less_product-clause-left : goal.returns-in_err-less_product-clause-left
returns-in_err-less_product-clause-left g c =
    let value = g.F.Field.value in
    let holds = g.F.Field.holds in
    let y = map value c.args.y.now in
    let normal = map value c.args.c.now in
    let i = c.loop-i.i in
    let n = length c.args.y.now - 1 in
    let ly : value c.index-y-last.result ≡ last y = mapped_last value c.args.y.now n c.index-y-last.result (omega (arith, c.requires.some)) refl c.index-y-last.is in
    let ey = front_from value c.args.y.now i c.index-y-i.result (omega (arith, c.loop-i-test.true)) c.index-y-i.is in
    let ec = front_from value c.args.c.now i c.index-c-i.result (omega (arith, c.loop-i-test.true, c.requires.same)) c.index-c-i.is in
    let steps = exchange_steps y normal in
    err_holds c.from_residual.result c.in_err-less_product.field-0.0 (λ fault. IsExchangeFault value holds steps fault) c.from_residual.ensures.1
    (c.in_err-less_product.ensures.runs steps (difference_steps (last y) (drop (i + 1) (front y)) (drop (i + 1) (front normal)))
    (same_left holds steps _ _ _ (steps_at (last y) (value c.index-y-last.result) (value c.index-y-i.result) (value c.index-c-i.result) (drop i (front y)) (drop i (front normal))
    (drop (i + 1) (front y)) (drop (i + 1) (front normal)) ly ey ec) c.loop-i.invariant.so_far))

pub loop-i-preserved : goal.loop-i-preserved
loop-i-preserved g c =
    let value = g.F.Field.value in
    let holds = g.F.Field.holds in
    let y = map value c.args.y.now in
    let normal = map value c.args.c.now in
    let i = c.loop-i.i in
    let n = length c.args.y.now - 1 in
    let ly : value c.index-y-last.result ≡ last y = mapped_last value c.args.y.now n c.index-y-last.result (omega (arith, c.requires.some)) refl c.index-y-last.is in
    let ey = front_from value c.args.y.now i c.index-y-i.result (omega (arith, c.loop-i-test.true)) c.index-y-i.is in
    let ec = front_from value c.args.c.now i c.index-c-i.result (omega (arith, c.loop-i-test.true, c.requires.same)) c.index-c-i.is in
    let steps = exchange_steps y normal in
    record {
      so_far = at_number holds steps _ _ _ (omega arith)
          (c.in_ok-less_product.ensures.runs steps (difference_steps (last y) (drop (i + 1) (front y)) (drop (i + 1) (front normal)))
          (same_left holds steps _ _ _ (steps_at (last y) (value c.index-y-last.result) (value c.index-y-i.result) (value c.index-c-i.result) (drop i (front y)) (drop i (front normal))
          (drop (i + 1) (front y)) (drop (i + 1) (front normal)) ly ey ec) c.loop-i.invariant.so_far));
      written = write_on value c.loop-i.row _ _ _ _ c.push.new.self c.in_ok-push.ensures.ok c.in_ok-less_product.ensures.value
          (ap (λ l. map value c.loop-i.row ++ l) (difference_at (last y) (value c.index-y-last.result) (value c.index-y-i.result) (value c.index-c-i.result) (drop i (front y)) (drop i (front normal))
          (drop (i + 1) (front y)) (drop (i + 1) (front normal)) ly ey ec) ∙ c.loop-i.invariant.written);
    }

pub returns-clause-row : goal.returns-clause-row
returns-clause-row g c =
    let value = g.F.Field.value in
    let y = map value c.args.y.now in
    let normal = map value c.args.c.now in
    let i = c.loop-i.i in
    let n = length c.args.y.now - 1 in
    let ly : value c.index-y-last-2.result ≡ last y = mapped_last value c.args.y.now n c.index-y-last-2.result (omega (arith, c.requires.some)) refl c.index-y-last-2.is in
    let long : length (front y) ≡ n = length-front y (omega (arith, c.requires.some, length-map c.args.y.now value)) ∙ ap (λ m. m - 1) (length-map c.args.y.now value) in
    let end : drop i (front y) ≡ [] = drop_all i (front y) (omega (arith, long, c.loop-i-test.false)) in
    let front_row : map value c.loop-i.row ≡ differences (last y) (front y) (front normal) =
    written_all value c.loop-i.row _ _ (ap (λ l. differences (last y) l (drop i (front normal))) end) c.loop-i.invariant.written in
    row_done value c.loop-i.row c.push-2.new.self c.push-3.new.self c.at_bound.result c.index-y-last-2.result _ _ _ c.in_ok-push-2.ensures.ok c.in_ok-push-3.ensures.ok front_row
    c.at_bound.ensures ly
    ∙ row_is y normal c.args.t (length-map c.args.c.now value ∙ c.requires.same ∙ sym (length-map c.args.y.now value))

pub returns-clause-slack : goal.returns-clause-slack
returns-clause-slack g c = λ normal bound wide.
    let value = g.F.Field.value in
    let long : length (map value c.args.y.now) ≡ length c.args.y.now = length-map c.args.y.now value in
    let also : length (map value c.args.c.now) ≡ length c.args.c.now = length-map c.args.c.now value in
    ap (λ r. dot r (dual_vector normal bound (map value c.args.c.now))) (returns-clause-row g c)
    ∙ exchanged_is (map value c.args.y.now) (map value c.args.c.now) c.args.t normal bound (omega (arith, long, c.requires.some)) (also ∙ c.requires.same ∙ sym long)
    (ap (entry (map value c.args.c.now)) also ∙ c.requires.normed) (wide ∙ sym long)

pub returns-clause-held : goal.returns-clause-held
returns-clause-held g c =
    let value = g.F.Field.value in
    let holds = g.F.Field.holds in
    let y = map value c.args.y.now in
    let normal = map value c.args.c.now in
    let i = c.loop-i.i in
    let n = length c.args.y.now - 1 in
    let long : length (front y) ≡ n = length-front y (omega (arith, c.requires.some, length-map c.args.y.now value)) ∙ ap (λ m. m - 1) (length-map c.args.y.now value) in
    let end : drop i (front y) ≡ [] = drop_all i (front y) (omega (arith, long, c.loop-i-test.false)) in
    at_last holds (exchange_steps y normal) _ (same_left holds (exchange_steps y normal) _ _ _ (ap (λ l. difference_steps (last y) l (drop i (front normal))) end) c.loop-i.invariant.so_far)
