use Rattle.std.proofs.Common.{◌∙◌, ◌++◌, ◌∷◌, [], ap, codes, decimal, length, List, ℕ}
use Rattle.vlp_printer.specs.Printing.{cone_words, direction_word}
use Rattle.vlp_printer.proofs.WordByWord.{Has, next_word, more_words, ended_line}
use Rattle.vlp_printer.proofs.print.put_heading.Goals as goal

pub returns : goal.returns
returns c =
    let file = c.args.problem.now in
    let into = c.args.into.now in
    let h0 : Has into c.append.new.self (codes "p") (codes "vlp" ∷ []) = c.in_ok-append.ensures.ok ∙ ap (λ (l : List ℕ). into ++ l) c.as_slice.ensures in
    let h1 : Has into c.put_word.new.into (codes "p") (codes "vlp" ∷ direction_word file.dir ∷ []) = next_word into c.append.new.self c.put_word.new.into (codes "p") (codes "vlp" ∷ []) (direction_word file.dir) h0 (c.in_ok-put_word.ensures ∙ ap (λ (l : List ℕ). c.append.new.self ++ 32 ∷ l) c.direction.ensures) in
    let h2 : Has into c.put_natural.new.into (codes "p") (codes "vlp" ∷ direction_word file.dir ∷ decimal file.rows ∷ []) = next_word into c.put_word.new.into c.put_natural.new.into (codes "p") (codes "vlp" ∷ direction_word file.dir ∷ []) (decimal file.rows) h1 (c.in_ok-put_natural.ensures ∙ ap (λ (n : ℕ). c.put_word.new.into ++ 32 ∷ decimal n) c.from.ensures) in
    let h3 : Has into c.put_natural-2.new.into (codes "p") (codes "vlp" ∷ direction_word file.dir ∷ decimal file.rows ∷ decimal file.cols ∷ []) = next_word into c.put_natural.new.into c.put_natural-2.new.into (codes "p") (codes "vlp" ∷ direction_word file.dir ∷ decimal file.rows ∷ []) (decimal file.cols) h2 (c.in_ok-put_natural-2.ensures ∙ ap (λ (n : ℕ). c.put_natural.new.into ++ 32 ∷ decimal n) c.from-2.ensures) in
    let h4 : Has into c.put_natural-3.new.into (codes "p") (codes "vlp" ∷ direction_word file.dir ∷ decimal file.rows ∷ decimal file.cols ∷ decimal (length file.a) ∷ []) = next_word into c.put_natural-2.new.into c.put_natural-3.new.into (codes "p") (codes "vlp" ∷ direction_word file.dir ∷ decimal file.rows ∷ decimal file.cols ∷ []) (decimal (length file.a)) h3 (c.in_ok-put_natural-3.ensures ∙ ap (λ (n : ℕ). c.put_natural-2.new.into ++ 32 ∷ decimal n) c.len.ensures.value) in
    let h5 : Has into c.put_natural-4.new.into (codes "p") (codes "vlp" ∷ direction_word file.dir ∷ decimal file.rows ∷ decimal file.cols ∷ decimal (length file.a) ∷ decimal file.objs ∷ []) = next_word into c.put_natural-3.new.into c.put_natural-4.new.into (codes "p") (codes "vlp" ∷ direction_word file.dir ∷ decimal file.rows ∷ decimal file.cols ∷ decimal (length file.a) ∷ []) (decimal file.objs) h4 (c.in_ok-put_natural-4.ensures ∙ ap (λ (n : ℕ). c.put_natural-3.new.into ++ 32 ∷ decimal n) c.from-3.ensures) in
    let h6 : Has into c.put_natural-5.new.into (codes "p") (codes "vlp" ∷ direction_word file.dir ∷ decimal file.rows ∷ decimal file.cols ∷ decimal (length file.a) ∷ decimal file.objs ∷ decimal (length file.o) ∷ []) = next_word into c.put_natural-4.new.into c.put_natural-5.new.into (codes "p") (codes "vlp" ∷ direction_word file.dir ∷ decimal file.rows ∷ decimal file.cols ∷ decimal (length file.a) ∷ decimal file.objs ∷ []) (decimal (length file.o)) h5 (c.in_ok-put_natural-5.ensures ∙ ap (λ (n : ℕ). c.put_natural-4.new.into ++ 32 ∷ decimal n) c.len-2.ensures.value) in
    let h : Has into c.put_cone.new.into (codes "p") (codes "vlp" ∷ direction_word file.dir ∷ decimal file.rows ∷ decimal file.cols ∷ decimal (length file.a) ∷ decimal file.objs ∷ decimal (length file.o) ∷ cone_words file.cone) = more_words into c.put_natural-5.new.into c.put_cone.new.into (codes "p") (codes "vlp" ∷ direction_word file.dir ∷ decimal file.rows ∷ decimal file.cols ∷ decimal (length file.a) ∷ decimal file.objs ∷ decimal (length file.o) ∷ []) (cone_words file.cone) h6 c.in_ok-put_cone.ensures in
    ended_line into c.put_cone.new.into c.push.new.self (codes "p") (codes "vlp" ∷ direction_word file.dir ∷ decimal file.rows ∷ decimal file.cols ∷ decimal (length file.a) ∷ decimal file.objs ∷ decimal (length file.o) ∷ cone_words file.cone) h c.in_ok-push.ensures.ok
