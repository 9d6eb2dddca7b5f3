use Rattle.std.proofs.Common.{◌≡◌, ◌+◌, ◌∷◌, ◌++◌, List, [], drop, map, sym, ap, ◌∙◌, append_assoc, append-nil}
use Rattle.exact_field.specs.Rational.{ℚ}
use Rattle.lineality.specs.Without.{without}
use Rattle.lineality.proofs.Masks.{without-nil}
use Rattle.lineality.proofs.Reading.{kept, left_out, values_end, values_more, values_rest}
use Rattle.lineality.proofs.line_places.row_without.Goals as goal
use Rattle.lineality.proofs.line_places.row_without.Goals.{then-not-is_marked+in_ok-push, else-not-is_marked}

pub loop-k-preserved : goal.loop-k-preserved
loop-k-preserved g c =
    let value = g.F.Field.value in
    let bs = c.args.places.now in
    let row = c.args.row.now in
    let k = c.loop-k.k in
    let old = map value c.loop-k.short in
    let more = map value (drop (k + 1) row) in
    let rest = without (drop (k + 1) bs) more in
    let x = c.index-row-k.result in
    let here : map value (drop k row) ≡ value x ∷ more = values_rest value row k x c.loop-k-test.true c.index-row-k.is in
    elim c.if-not-is_marked.branch [
      | then-not-is_marked+in_ok-push w ↦ c.loop-k.invariant
          ∙ ap (λ (us : List ℚ). old ++ us) (kept bs (map value (drop k row)) more k (value x) c.is_marked.result here c.is_marked.ensures w.if-not-is_marked.true)
          ∙ sym (append_assoc old (value x ∷ []) rest)
          ∙ ap (λ (us : List ℚ). us ++ rest) (sym (values_more value c.loop-k.short c.if-not-is_marked.short x (w.short-is ∙ w.in_ok-push.ensures.ok)))
      | else-not-is_marked w ↦ c.loop-k.invariant
          ∙ ap (λ (us : List ℚ). old ++ us) (left_out bs (map value (drop k row)) more k (value x) c.is_marked.result here c.is_marked.ensures w.if-not-is_marked.false)
          ∙ ap (λ (short : List g.row.F.Denot). map value short ++ rest) (sym w.short-is)
    ]

pub returns : goal.returns
returns g c =
    let value = g.F.Field.value in
    let bs = c.args.places.now in
    let k = c.loop-k.k in
    let short = map value c.loop-k.short in
    sym (c.loop-k.invariant
    ∙ ap (λ (us : List ℚ). short ++ us) (ap (without (drop k bs)) (values_end value c.args.row.now k c.loop-k-test.false) ∙ without-nil (drop k bs))
    ∙ append-nil short)
