use Rattle.std.proofs.Common.{rules, ℕ, List, set, ap, ◌∙◌, arith}
use Rattle.std.proofs.lemmas.List.Edits.{fill_none, fill_more}
use Rattle.incid_sets.proofs.words.clear_words.Goals as goal

pub loop-i-init : goal.loop-i-init
loop-i-init c = record { room = search rules; done = fill_none c.args.words.now.items 0 }

pub loop-i-preserved : goal.loop-i-preserved
loop-i-preserved c = record {
  room = search rules;
  done = ap (λ (w : List ℕ). set w c.loop-i.i 0) c.loop-i.invariant.done
      ∙ fill_more c.loop-i.i 0 c.args.words.now.items (omega (arith, c.args.words.now.ok, c.loop-i.invariant.room));
}
