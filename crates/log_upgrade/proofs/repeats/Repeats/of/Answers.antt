use Rattle.std.proofs.Common.{◌≡◌, ◌++◌, [], ◌∷◌, List, sym, ap, ◌∙◌, subst, take, arith}
use Rattle.std.specs.Option.{option_copied}
use Rattle.std.proofs.lemmas.List.{take_more}
use Rattle.deriv_log.specs.declared.entry.Entry.{Entry}
use Rattle.log_upgrade.specs.Repeats.{AreStandings}
use Rattle.log_upgrade.specs.declared.repeats.Repeats.{Repeats}
use Rattle.log_upgrade.proofs.Standings.{without_vector}
use Rattle.log_upgrade.proofs.repeats.Repeats.of.Goals.{in-Some+in_ok-meet, in_default}
use Rattle.log_upgrade.proofs.repeats.Repeats.of.Goals as goal

pub loop-entry-preserved : goal.loop-entry-preserved
loop-entry-preserved c =
    let all = c.args.entries.now in
    let i = c.loop-entry.entry-index in
    let e = c.entry-item.result in
    let more = take_more all i e (omega arith) ∙ ap (λ (x : Entry). take i all ++ x ∷ []) (sym c.entry-item.is) in
    elim c.match-vector_of.branch [
      | in-Some+in_ok-meet w ↦
          subst (λ (es : List Entry). AreStandings es [] c.match-vector_of.repeats) (sym more)
          (subst (λ (r : Repeats). AreStandings (take i all ++ e ∷ []) [] r) (sym w.repeats-is)
          (w.in_ok-meet.ensures (take i all) e (sym c.vector_of.ensures ∙ ap option_copied w.in-Some.is) c.loop-entry.invariant))
      | in_default w ↦
          subst (λ (es : List Entry). AreStandings es [] c.match-vector_of.repeats) (sym more)
          (subst (λ (r : Repeats). AreStandings (take i all ++ e ∷ []) [] r) (sym w.repeats-is)
          (without_vector (take i all) e c.loop-entry.repeats (sym c.vector_of.ensures ∙ ap option_copied w.in_default.is) c.loop-entry.invariant))
    ]
