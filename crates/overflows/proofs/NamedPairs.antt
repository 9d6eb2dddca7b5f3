-- Pairs of generators as entries name them: they can be written, and those of a change are the required ones.
use Rattle.std.proofs.Common.{◌≡◌, ℕ, ◌≤◌, List, [], ◌∷◌, map, length, All, IsTrue, true, refl, ap, ◌∙◌, arith}
use Rattle.std.specs.List.{list_all}
use Rattle.std.proofs.lemmas.Bool.{lt-ltb}
use Rattle.exact_field.specs.Rational.{ℚ}
use Rattle.polyhedra.specs.LiveList.{LiveList}
use Rattle.polyhedra.proofs.Tests.{both_hold, true-list_all}
use Rattle.double_descr.specs.Adding.{IsChange}
use Rattle.double_descr.specs.declared.fault.Change.{Change}
use Rattle.double_descr.specs.declared.fault.Pair.{Pair}
use Rattle.word_lines.specs.Parts.{is_formed_pair, is_formed_part, is_short, pairs}
use Rattle.word_lines.specs.declared.part.LogPair.{LogPair}
use Rattle.log_rules.specs.Live.{log_pair, required_pairs}
use Rattle.overflows.specs.Pairs.{named}

pub pairs_written : (ps : List LogPair) → length ps ≤ 4294967294 → All (λ p. IsTrue (is_formed_pair p)) ps → is_formed_part (pairs ps) ≡ true
pairs_written ps bound all =
    both_hold (is_short (length ps)) (list_all is_formed_pair ps) (lt-ltb (length ps) 4294967296 (omega (arith, bound))) (true-list_all is_formed_pair ps all)

named_each : (ps : List Pair) → map named ps ≡ map log_pair (map (λ (p : Pair). (p.plus, p.minus)) ps)
named_each [] = refl
named_each (p ∷ ps) = ap (λ (list : List LogPair). named p ∷ list) (named_each ps)

-- the pairs of a change are those that are required
pub named_required : (rows : List (List ℚ)) (list : LiveList) (row same : List ℚ) (change : Change) (ps : List Pair) → ps ≡ change.pairs →
    IsChange rows list row change → row ≡ same → map named ps ≡ required_pairs rows list.live same
named_required rows list row same change ps is h row_is =
    named_each ps ∙ ap (λ (all : List Pair). map log_pair (map (λ (p : Pair). (p.plus, p.minus)) all)) is ∙ ap (map log_pair) h.paired
    ∙ ap (required_pairs rows list.live) row_is
