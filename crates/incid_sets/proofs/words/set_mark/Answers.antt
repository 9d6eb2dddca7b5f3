use Rattle.std.proofs.Common.{◌^◌, ℕ, sym, ◌∙◌, arith, ◌/◌, ◌<◌, length, subst, set, bit_or, ◌*◌, ◌%◌}
use Rattle.std.proofs.lemmas.List.{get_or_default}
use Rattle.incid_sets.proofs.words.set_mark.Goals as goal
use Rattle.incid_sets.specs.Words.{AddsMark}
use Rattle.incid_sets.proofs.Bits.{set_marked}

pub returns : goal.returns
returns c = let h : c.args.k / 64 < length c.args.words.now.items = omega (arith, c.args.words.now.ok) in
    subst (λ (w : ℕ). AddsMark c.args.words.now.items (set c.args.words.now.items (c.args.k / 64) (bit_or w (1 * 2 ^ (c.args.k % 64) % 2 ^ 64))) c.args.k)
    (sym (c.index_mut.ensures.value ∙ get_or_default c.args.words.now.items (c.args.k / 64) c.index_mut.result.now 0 h))
    (set_marked c.args.words.now.items c.args.k h)
