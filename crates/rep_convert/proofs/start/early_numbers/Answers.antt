use Rattle.std.proofs.Common.{◌≢◌, ◌-◌, ◌<◌, List, ℕ, All, AllPairs, length, map, slice_index_or, sym, ap, ◌∙◌, subst}
use Rattle.std.specs.List.Sorted.{IsPermutation}
use Rattle.std.proofs.lemmas.List.Elements.{All-take}
use Rattle.exact_field.specs.Rational.{ℚ}
use Rattle.lin_rows.specs.Answers.{IsIndep}
use Rattle.lin_rows.specs.Read.{numbers}
use Rattle.rep_convert.proofs.Calls.{named_once_here, starts_among_here}
use Rattle.rep_convert.proofs.Ordered.{once_first}
use Rattle.rep_convert.proofs.start.early_numbers.Goals as goal

pub rising-requires : goal.rising-requires
rising-requires c =
    let short = c.args.short.now in
    let order = c.args.order.now in
    let first = c.in-Some.first.now in
    let rows = c.in_ok-rows.rows in
    let taken = c.in-Some.ensures.lookup.0.2 in
    let picked = c.in_ok-picks-in-Ok-Basis.ensures ∙ ap (λ (ps : List ℕ). map (λ i. slice_index_or first (i - 1) 0) ps) c.as_slice.ensures.items in
    subst (AllPairs (λ (j k : ℕ). j ≢ k)) (sym picked)
    (named_once_here c.args.rep.now c.args.lines.now c.requires.lines short.width short.list c.requires.width c.requires.rows first
    (subst (AllPairs (λ (j k : ℕ). j ≢ k)) (sym taken) (once_first (c.args.most - 0) order c.requires.order.once))
    (subst (All (λ (k : ℕ). k < length short.list)) (sym taken) (All-take (λ k. k < length short.list) (c.args.most - 0) order c.requires.order.exist))
    c.width.result rows.list (c.width.ensures ∙ c.in_ok-rows.ensures.width) c.in_ok-rows.ensures.rows c.in-Ok-Basis.places
    (subst (IsIndep (λ (q : ℚ). q) c.width.result (numbers (λ (q : ℚ). q) rows.list)) c.in-Ok-Basis.field-0-is c.in-Ok-Basis.ensures.ok))

pub returns-in-Ok-Basis : goal.returns-in-Ok-Basis
returns-in-Ok-Basis c =
    let short = c.args.short.now in
    let order = c.args.order.now in
    let first = c.in-Some.first.now in
    let rows = c.in_ok-rows.rows in
    let taken = c.in-Some.ensures.lookup.0.2 in
    let picked = c.in_ok-picks-in-Ok-Basis.ensures ∙ ap (λ (ps : List ℕ). map (λ i. slice_index_or first (i - 1) 0) ps) c.as_slice.ensures.items in
    record {
      starts = starts_among_here c.args.rep.now c.args.lines.now c.requires.lines short.width short.list c.requires.width c.requires.rows first
          (subst (AllPairs (λ (j k : ℕ). j ≢ k)) (sym taken) (once_first (c.args.most - 0) order c.requires.order.once))
          (subst (All (λ (k : ℕ). k < length short.list)) (sym taken) (All-take (λ k. k < length short.list) (c.args.most - 0) order c.requires.order.exist))
          c.width.result rows.list (c.width.ensures ∙ c.in_ok-rows.ensures.width) c.in_ok-rows.ensures.rows c.in-Ok-Basis.places
          (subst (IsIndep (λ (q : ℚ). q) c.width.result (numbers (λ (q : ℚ). q) rows.list)) c.in-Ok-Basis.field-0-is c.in-Ok-Basis.ensures.ok)
          c.rising.result (subst (λ (ps : List ℕ). IsPermutation ps c.rising.result) picked c.rising.ensures.same) c.rising.ensures.rise;
    }
