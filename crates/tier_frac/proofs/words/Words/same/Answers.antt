use mir.Syntax.{w64}
use Rattle.std.proofs.Common.{ap, sym, ◌∙◌}
use mir.Val.{to_z}
use Rattle.frac128.proofs.Compared.{same_by_den, other_by_num}
use Rattle.frac128.proofs.Lowest.{stored}
use Rattle.tier_frac.proofs.Fitting.{kept_word}
use Rattle.tier_frac.proofs.words.Words.same.Goals as goal

pub returns-then-self-other : goal.returns-then-self-other
returns-then-self-other c =
    same_by_den c.args.self c.args.other c.self.inside.num c.other.inside.num c.self.inside.den c.other.inside.den
    (stored _ _ c.self.view_is) (stored _ _ c.other.view_is)
    (sym (kept_word c.self.inside.num c.self.inside.den c.self.invariant) ∙ ap (to_z w64) c.if-self-other.true ∙ kept_word c.other.inside.num c.other.inside.den c.other.invariant)

pub returns-else-self-other : goal.returns-else-self-other
returns-else-self-other c =
    other_by_num w64 c.args.self c.args.other c.self.inside.num c.other.inside.num c.self.inside.den c.other.inside.den
    (stored _ _ c.self.view_is) (stored _ _ c.other.view_is) c.if-self-other.false
