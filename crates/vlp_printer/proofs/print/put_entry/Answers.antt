use Rattle.std.proofs.Common.{◌∷◌, [], decimal}
use Rattle.vlp_printer.specs.Decimal.{number_text}
use Rattle.vlp_printer.proofs.WordByWord.{Has, first_word, next_word, ended_line}
use Rattle.vlp_printer.proofs.print.put_entry.Goals as goal

pub returns : goal.returns
returns c =
    let into = c.args.into.now in
    let w = c.args.letter ∷ [] in
    let i = decimal c.args.row in
    let j = decimal c.args.col in
    let q = number_text c.args.value in
    let h0 : Has into c.push.new.self w [] = first_word into c.push.new.self w c.in_ok-push.ensures.ok in
    let h1 : Has into c.put_natural.new.into w (i ∷ []) = next_word into c.push.new.self c.put_natural.new.into w [] i h0 c.in_ok-put_natural.ensures in
    let h2 : Has into c.put_natural-2.new.into w (i ∷ j ∷ []) = next_word into c.put_natural.new.into c.put_natural-2.new.into w (i ∷ []) j h1 c.in_ok-put_natural-2.ensures in
    let h3 : Has into c.put_number.new.into w (i ∷ j ∷ q ∷ []) = next_word into c.put_natural-2.new.into c.put_number.new.into w (i ∷ j ∷ []) q h2 c.in_ok-put_number.ensures in
    ended_line into c.put_number.new.into c.push-2.new.self w (i ∷ j ∷ q ∷ []) h3 c.in_ok-push-2.ensures.ok
