use Rattle.std.proofs.Common.{◌≡◌, ◌++◌, take}
use Rattle.rep_conv.specs.Live.{state}
use Rattle.rep_convert.specs.Standing.{StandsAt}
use Rattle.rep_convert.proofs.turn.take_all.Given as goal

abbrev pub invariant-loop-number : goal.invariant-loop-number
invariant-loop-number l = record {
  stands : StandsAt l.rep l.log l.dd;
  used : (state l.rep l.log).used ≡ (state l.rep l.initial.log).used ++ take l.number-index l.order;
  lines_stay : (state l.rep l.log).lines ≡ (state l.rep l.initial.log).lines;
}
