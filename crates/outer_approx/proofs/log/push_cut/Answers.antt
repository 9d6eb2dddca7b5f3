use Rattle.std.proofs.Common.{◌≡◌, List, [], ◌∷◌, ◌++◌, sym, subst}
use Rattle.deriv_log.specs.declared.entry.Entry.{Entry as EntryOf}
use Rattle.overflows.proofs.Sparse.{on_ok}
use Rattle.outer_approx.specs.Cuts.{SaysCut, said_by}
use Rattle.outer_approx.specs.Standing.{HasCutMore, IsOpenTrail}
use Rattle.outer_approx.proofs.Pushed.{cut_more, cut_open}
use Rattle.outer_approx.proofs.log.push_cut.Goals as goal

pub returns-clause-trail : goal.returns-clause-trail
returns-clause-trail g c =
    let value = g.F.Field.value in
    let cut = c.args.cut.now in
    let old = c.args.trail.now in
    let new = c.push_cut_entry.new.entries in
    on_ok c.push_cut_entry.result ((x : EntryOf) × SaysCut value cut x × (new ≡ old ++ x ∷ [])) (IsOpenTrail g.task new)
    (λ h. subst (λ (es : List EntryOf). IsOpenTrail g.task es) (sym h.2) (cut_open value g.task cut old h.0 c.requires.1.0 h.1 c.requires.1.1))
    c.push_cut_entry.ensures.ok

pub returns-clause-more : goal.returns-clause-more
returns-clause-more g c =
    let value = g.F.Field.value in
    let cut = c.args.cut.now in
    let old = c.args.trail.now in
    let new = c.push_cut_entry.new.entries in
    on_ok c.push_cut_entry.result ((x : EntryOf) × SaysCut value cut x × (new ≡ old ++ x ∷ [])) (HasCutMore g.task (said_by value cut) old new)
    (λ h. subst (λ (es : List EntryOf). HasCutMore g.task (said_by value cut) old es) (sym h.2) (cut_more value g.task cut old h.0 c.requires.1.0 h.1))
    c.push_cut_entry.ensures.ok
