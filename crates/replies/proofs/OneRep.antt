-- Bytes are the text of one representation.
use Rattle.std.proofs.Common.{◌≡◌, ℕ, ◌≤◌, List, IsTrue}
use Rattle.std.specs.Coded.{le_prop}
use Rattle.std.specs.List.{list_all}
use Rattle.std.proofs.Math.Bool.{Bool-set}
use mathlib.Core.HLevel.{is_prop→PathP}
use Rattle.rep_text.specs.Fits.{row_fits}
use Rattle.rep_text.specs.Laws.{AreAlike}
use Rattle.rep_text.specs.RepText.{IsRepText}
use Rattle.rep_text.specs.declared.rep.Rep.{Rep}
use Rattle.rep_text.proofs.RepLaws.{one_rep_reading}

-- those that say the same are one
pub same_rep : (rep other : Rep) → AreAlike rep other → rep ≡ other
same_rep rep other alike = λ i.
    record {
      gens = alike.gens i;
      width = alike.width i;
      rows = alike.rows i;
      some_entry = is_prop→PathP (λ j. 1 ≤ alike.width j) (λ j. le_prop) rep.some_entry other.some_entry i;
      few_entries = is_prop→PathP (λ j. alike.width j ≤ 19) (λ j. le_prop) rep.few_entries other.few_entries i;
      fitting = is_prop→PathP (λ j. IsTrue (list_all (row_fits (alike.gens j) (alike.width j)) (alike.rows j))) (λ j. hlevel (Bool-set)) rep.fitting other.fitting i;
    }

pub one_rep : (bytes : List ℕ) (rep other : Rep) → IsRepText bytes rep → IsRepText bytes other →
    rep ≡ other
one_rep bytes rep other h k = same_rep rep other (one_rep_reading.one_rep bytes rep other h k)
