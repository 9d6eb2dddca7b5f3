use Rattle.std.proofs.Common.{◌≡◌, ℕ, ◌+◌, ◌-◌, ◌≤◌, List, take, drop, length, arith, sym, ap, ◌∙◌}
use Rattle.std.proofs.lemmas.List.{drop-drop, drop-take, length-take}
use Rattle.src_sink.proofs.lines.Piece.advance.Goals as goal

-- bytes after a front of those from one place to another
later : (bytes view : List ℕ) (start end count : ℕ) → take (end - start) (drop start bytes) ≡ view → count ≤ length view → take (end - (start + count)) (drop (start + count) bytes) ≡ drop count view
later bytes view start end count is fits =
    let size : count ≤ end - start = omega (arith, ap length is, length-take (end - start) (drop start bytes)) in
    let rest : end - start ≡ count + (end - (start + count)) = omega arith in
    ap (take (end - (start + count))) (sym (drop-drop count start bytes))
    ∙ sym (drop-take count (end - (start + count)) (drop start bytes))
    ∙ ap (λ n. drop count (take n (drop start bytes))) (sym rest)
    ∙ ap (drop count) is

pub returns : goal.returns
returns c = later c.self.inside.bytes c.args.self.now c.self.inside.start c.self.inside.end c.args.count c.self.view_is c.requires
