use Rattle.std.proofs.Common.{refl, ap, ◌∙◌}
use Rattle.outer_approx.proofs.Pushed.{sparse_of}
use Rattle.log_rules.specs.Live.{state}
use Rattle.outer_approx.specs.Unstarted.{whole_entries}
use Rattle.recession.proofs.OwnLogs.{read_whole, shows_whole}
use Rattle.recession.proofs.logs.everything_log.Goals as goal

pub returns-clause-ended : goal.returns-clause-ended
returns-clause-ended g c =
    let value = g.F.Field.value in
    let task = g.task in
    let o = c.requires.1.1.0 in
    let list = c.args.x.now in
    let parts = c.args.parts.now in
    let x = c.in_ok-x.x in
    let ray = c.in_ok-ray.ray in
    let m = c.in_ok-m.m in
    let x_is = sparse_of value list list x refl c.in_ok-x.ensures.vector c.in_ok-x.ensures.numbers in
    let ray_is = sparse_of value parts.ray c.as_slice.result.now ray c.as_slice.ensures.items c.in_ok-ray.ensures.vector c.in_ok-ray.ensures.numbers in
    let m_is = sparse_of value parts.m c.as_slice-2.result.now m c.as_slice-2.ensures.items c.in_ok-m.ensures.vector c.in_ok-m.ensures.numbers in
    let shows = shows_whole value task c.args.opening o.0 o.1 o.2 o.3 o.4 list c.requires.1.1.1.0 parts c.requires.1.1.1.1 x ray m x_is ray_is m_is in
    let made = c.in_ok-log.ensures in
    record {
      log = made.log task.c task.weights o.0 o.1 o.2 x_is.vector.sparse ray_is.vector.sparse m_is.vector.sparse;
      base = made.base task.file task.c task.weights shows
          (read_whole value task c.args.opening o.0 o.1 o.2 o.3 o.4 list c.requires.1.1.1.0 parts c.requires.1.1.1.1 x ray m x_is ray_is m_is);
    }

-- a log that tells that the image is everything has no cut
pub returns-clause-cuts : goal.returns-clause-cuts
returns-clause-cuts g c = λ q.
    ap (λ es. (state q es).cuts) c.in_ok-log.ensures.entries
    ∙ ap (λ e. (state q (whole_entries e c.in_ok-x.x c.in_ok-ray.ray c.in_ok-m.m)).cuts) c.requires.1.1.0.2
