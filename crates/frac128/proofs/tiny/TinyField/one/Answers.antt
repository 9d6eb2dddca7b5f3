use Rattle.std.proofs.Common.{refl}
use Rattle.frac128.proofs.Whole.{is_whole}
use Rattle.frac128.proofs.tiny.TinyField.one.Goals as goal

pub returns : goal.returns
returns c = is_whole _ _ refl refl
