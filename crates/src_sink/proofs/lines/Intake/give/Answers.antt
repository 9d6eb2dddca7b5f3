use Rattle.std.proofs.Common.{◌==◌, ◌+◌, ◌∷◌, ◌++◌, take, drop, length, arith, refl, sym, ap, ◌∙◌}
use Rattle.std.proofs.lemmas.Bool.{false≢true}
use Rattle.std.proofs.lemmas.List.{drop_all}
use Rattle.src_sink.proofs.Cutting.{parts_at, lacks_in_front, lacks}
use Rattle.src_sink.proofs.lines.Intake.give.Goals as goal

pub returns-in_ok-append-in-Some-clause-ok : goal.returns-in_ok-append-in-Some-clause-ok
returns-in_ok-append-in-Some-clause-ok c =
    let bytes = c.as_slice-piece.result.now in
    let found = sym c.in-Some.ensures in
    let rest = ap (drop (c.in-Some.at + 1)) c.as_slice-piece.ensures.bytes ∙ sym c.advance.ensures in (
      refl,
      take c.in-Some.at bytes,
      c.in_ok-append-in-Some.ensures.ok,
      lacks_in_front (λ b. b == 10) bytes c.in-Some.at found,
      λ _. sym c.as_slice-piece.ensures.bytes ∙ parts_at 10 bytes c.in-Some.at found ∙ ap (λ r. take c.in-Some.at bytes ++ 10 ∷ r) rest,
      λ e. absurd (false≢true (sym e)),
    )

pub returns-in_ok-append-in-None-clause-ok : goal.returns-in_ok-append-in-None-clause-ok
returns-in_ok-append-in-None-clause-ok c =
    let bytes = c.as_slice-piece.result.now in (
      refl,
      bytes,
      c.in_ok-append-in-None.ensures.ok,
      lacks (λ b. b == 10) bytes (sym c.in-None.ensures),
      λ e. absurd (false≢true e),
      λ _. (sym c.as_slice-piece.ensures.bytes, c.advance-in-None.ensures ∙ drop_all (length bytes) c.args.self.now.piece (omega (arith, ap length c.as_slice-piece.ensures.bytes))),
    )
