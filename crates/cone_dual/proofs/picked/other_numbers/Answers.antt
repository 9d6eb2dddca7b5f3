use Rattle.std.proofs.Common.{ℕ, Bool, List, [], ◌∷◌, ◌++◌, ◌+◌, ap, sym, ◌∙◌, arith, ◌≡◌, filter}
use Rattle.std.specs.Prelude.{not}
use Rattle.std.specs.List.{range_with_len}
use Rattle.std.proofs.lemmas.List.Elements.{filter-append}
use Rattle.log_rules.specs.Live.{contains}
use Rattle.cone_dual.proofs.Reading.{range_more}
use Rattle.cone_dual.proofs.picked.other_numbers.Goals as goal

pub loop-k-preserved : goal.loop-k-preserved
loop-k-preserved c =
    let k = c.loop-k.k in
    let kept : ℕ → Bool = λ j. not (contains c.args.picks.now j) in
    let next : 1 + k ≡ k + 1 = omega arith in
    c.in_ok-push_other.ensures ∙ ap (λ (ks : List ℕ). ks ++ filter kept ((k + 1) ∷ [])) c.loop-k.invariant
    ∙ sym (filter-append kept (range_with_len 1 k) ((k + 1) ∷ [])) ∙ ap (filter kept) (sym (range_more 1 k ∙ ap (λ (j : ℕ). range_with_len 1 k ++ j ∷ []) next))
