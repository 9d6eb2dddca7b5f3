use Rattle.std.proofs.Common.{◌∷◌, [], codes}
use Rattle.std.proofs.lemmas.List.{map-append}
use Rattle.frac128.specs.Text.{frac_text}
use Rattle.sol_writer.proofs.Written.{begun, entries, number, ended, same_line}
use Rattle.projection.proofs.set.put_side.Goals as goal

pub returns : goal.returns
returns c =
    same_line c.args.into.now (codes "h") (map-append frac_text c.args.side.now.w (c.args.side.now.gamma ∷ []))
    (ended (number c.args.side.now.gamma (entries c.args.side.now.w (begun c.in_ok-push.ensures.ok) (rw c.as_slice.ensures.items at c.in_ok-put_entries.ensures)) c.in_ok-put_number.ensures) c.in_ok-push-2.ensures.ok)
