use Rattle.std.proofs.Common.{◌≡◌, ◌+◌, List, [], ◌∷◌, ◌++◌, map, take, drop, sym, ap, ◌∙◌, subst}
use Rattle.std.proofs.lemmas.List.{take-append-drop, take_all, take_more}
use Rattle.lp_form.specs.declared.shown.Cut.{Cut}
use Rattle.deriv_log.specs.declared.entry.Entry.{Entry as EntryOf}
use Rattle.log_rules.specs.Live.{preimages}
use Rattle.outer_approx.specs.Cuts.{said_by}
use Rattle.outer_approx.specs.Lines.{AreLinesFor, told_by}
use Rattle.outer_approx.specs.Standing.{IsBegun}
use Rattle.outer_approx.specs.declared.log.Line.{Line}
use Rattle.outer_approx.proofs.LineEntries.{line_begun, line_unreached}
use Rattle.lineality.proofs.Reading.{rest_is}
use Rattle.outer_approx.proofs.log.open_trail.Goals as goal

pub loop-line-preserved : goal.loop-line-preserved
loop-line-preserved g c =
    let F = g.row.F.Denot in
    let value = g.F.Field.value in
    let task = g.task in
    let ls = c.args.lines.now in
    let cuts = c.args.cuts.now in
    let i = c.loop-line.line-index in
    let line = c.line-item.result in
    let old = c.loop-line.trail in
    let new = c.push_line.new.trail in
    let entry = c.in_ok-push_line.ensures in
    let parted : ls ≡ take i ls ++ line ∷ drop (i + 1) ls =
    sym (take-append-drop i ls) ∙ ap (λ (rest : List (Line F)). take i ls ++ rest) (rest_is ls i line c.loop-line-test.true c.line-item.is) in
    let are : AreLinesFor value task (map (λ (cut : Cut F). map value cut.w) cuts) (take i ls ++ line ∷ drop (i + 1) ls) =
    subst (λ (all : List (Line F)). AreLinesFor value task (map (λ (cut : Cut F). map value cut.w) cuts) all) parted c.requires.1.1.1.1 in
    let longer : take (i + 1) ls ≡ take i ls ++ line ∷ [] =
    take_more ls i line c.loop-line-test.true ∙ ap (λ (x : Line F). take i ls ++ x ∷ []) (sym c.line-item.is) in
    record {
      begun = subst (λ (all : List (Line F)). IsBegun task (map (told_by value) all) (map (said_by value) cuts) new) (sym longer)
          (subst (λ (es : List EntryOf). IsBegun task (map (told_by value) (take i ls ++ line ∷ [])) (map (said_by value) cuts) es) (sym entry.2)
          (line_begun value task c.args.x.now c.requires.1.1.1.0 cuts (take i ls) (drop (i + 1) ls) line are old c.loop-line.invariant.begun entry.0 entry.1));
      unreached = λ k. ap (λ (es : List EntryOf). preimages es k) entry.2
          ∙ line_unreached value task c.args.x.now c.requires.1.1.1.0 cuts (take i ls) (drop (i + 1) ls) line are old c.loop-line.invariant.begun entry.0 entry.1 k
          ∙ c.loop-line.invariant.unreached k;
    }

pub returns-clause-begun : goal.returns-clause-begun
returns-clause-begun g c =
    let F = g.row.F.Denot in
    let value = g.F.Field.value in
    subst (λ (all : List (Line F)). IsBegun g.task (map (told_by value) all) (map (said_by value) c.args.cuts.now) c.loop-line.trail)
    (take_all c.loop-line.line-index c.args.lines.now c.loop-line-test.false) c.loop-line.invariant.begun
