use Rattle.std.proofs.Common.{◌≢◌, [], List, map, subst, sym, ◌∙◌, arith}
use Rattle.std.proofs.lemmas.List.{length-map}
use Rattle.deriv_log.specs.declared.entry.Entry.{Entry}
use Rattle.log_rules.specs.Live.{preimages}
use Rattle.outer_approx.proofs.LiveVectors.{short_wide}
use Rattle.benson_primal.proofs.Marked.{done_left_out}
use Rattle.benson_primal.proofs.search.Search.reach.Goals as goal

pub is_left_out-requires : goal.is_left_out-requires
is_left_out-requires g c =
    let s = c.args.self.now in
    let value = g.F.Field.value in
    let short = c.generator.result.now in
    let l = sym (length-map short value) ∙ short_wide g.task s.trail s.dd c.requires.1.0.outer c.args.g (map value short) c.generator.ensures.listed in
    omega (arith, l)

pub returns-then-is_left_out-clause-done : goal.returns-then-is_left_out-clause-done
returns-then-is_left_out-clause-done g c =
    done_left_out g.F.Field.value c.args.scope c.args.self.now.trail c.args.self.now.dd c.args.g c.generator.result.now c.generator.ensures.only
    (c.is_left_out.ensures c.if-is_left_out.true)

pub returns-in-None-clause-stay : goal.returns-in-None-clause-stay
returns-in-None-clause-stay g c =
    λ k had. c.in_ok-own_cut.ensures.stay k (subst (λ (t : List Entry). preimages t k ≢ []) (sym c.in_ok-cut.ensures.trail) had)

pub returns-in-Some-2-clause-stay : goal.returns-in-Some-2-clause-stay
returns-in-Some-2-clause-stay g c =
    λ k had. c.in_ok-own_cut.ensures.stay k (subst (λ (t : List Entry). preimages t k ≢ []) (sym c.in_ok-cut.ensures.trail) had)
