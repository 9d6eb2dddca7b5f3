-- The entries of a log as lines of words.
use Rattle.std.specs.Prelude.{◌≡◌, refl, nat_lt, length, map, codes, Some, IsTrue}
use Rattle.std.specs.List.{list_all}
use Rattle.word_lines.specs.Grammar.{Grammar}
use Rattle.word_lines.specs.LineFault.{form_of}
use Rattle.word_lines.specs.Numerals.{same_word}
use Rattle.deriv_log.specs.Formed.{is_end}
use Rattle.deriv_log.specs.LineFault.{forms_of}
use Rattle.deriv_log.specs.LogText.{entry_name, entry_parts}
use Rattle.deriv_log.specs.declared.entry.Entry.{Entry}
use Rattle.deriv_log.specs.declared.entry.Entry.TheVariants.{Version, Duality, Cut, Start, Add, Point, Ray, Farkas, Whole, Line, Facet, End, Share, CutOf, PointOf, RayOf, AddHints}

-- no name is empty,
pub some_name : (e : Entry) → IsTrue (nat_lt 0 (length (entry_name e)))
some_name (Version n) = refl
some_name (Duality c weights picks inverse) = refl
some_name (Cut w gamma u v) = refl
some_name (Start cuts point directions) = refl
some_name (Add cut ps) = refl
some_name (Point generator x m) = refl
some_name (Ray generator x m) = refl
some_name (Farkas u) = refl
some_name (Whole x ray m) = refl
some_name (Line d x ray m back n) = refl
some_name (Facet cut) = refl
some_name (End k) = refl
some_name (Share v) = refl
some_name (CutOf w gamma share v) = refl
some_name (PointOf generator share m) = refl
some_name (RayOf generator share m) = refl
some_name (AddHints cut ps hints) = refl

-- its bytes are above `,`,
pub letters : (e : Entry) → IsTrue (list_all (nat_lt 44) (entry_name e))
letters (Version n) = refl
letters (Duality c weights picks inverse) = refl
letters (Cut w gamma u v) = refl
letters (Start cuts point directions) = refl
letters (Add cut ps) = refl
letters (Point generator x m) = refl
letters (Ray generator x m) = refl
letters (Farkas u) = refl
letters (Whole x ray m) = refl
letters (Line d x ray m back n) = refl
letters (Facet cut) = refl
letters (End k) = refl
letters (Share v) = refl
letters (CutOf w gamma share v) = refl
letters (PointOf generator share m) = refl
letters (RayOf generator share m) = refl
letters (AddHints cut ps hints) = refl

-- only an entry that ends a log has the name `end`,
pub end_name : (e : Entry) → same_word (entry_name e) (codes "end") ≡ is_end e
end_name (Version n) = refl
end_name (Duality c weights picks inverse) = refl
end_name (Cut w gamma u v) = refl
end_name (Start cuts point directions) = refl
end_name (Add cut ps) = refl
end_name (Point generator x m) = refl
end_name (Ray generator x m) = refl
end_name (Farkas u) = refl
end_name (Whole x ray m) = refl
end_name (Line d x ray m back n) = refl
end_name (Facet cut) = refl
end_name (End k) = refl
end_name (Share v) = refl
end_name (CutOf w gamma share v) = refl
end_name (PointOf generator share m) = refl
end_name (RayOf generator share m) = refl
end_name (AddHints cut ps hints) = refl

-- and the forms after a name are those of its entry's parts
pub forms_known : (e : Entry) → forms_of (entry_name e) ≡ Some (map form_of (entry_parts e))
forms_known (Version n) = refl
forms_known (Duality c weights picks inverse) = refl
forms_known (Cut w gamma u v) = refl
forms_known (Start cuts point directions) = refl
forms_known (Add cut ps) = refl
forms_known (Point generator x m) = refl
forms_known (Ray generator x m) = refl
forms_known (Farkas u) = refl
forms_known (Whole x ray m) = refl
forms_known (Line d x ray m back n) = refl
forms_known (Facet cut) = refl
forms_known (End k) = refl
forms_known (Share v) = refl
forms_known (CutOf w gamma share v) = refl
forms_known (PointOf generator share m) = refl
forms_known (RayOf generator share m) = refl
forms_known (AddHints cut ps hints) = refl

-- the entries of logs as lines of words
abbrev pub log_grammar : Grammar Entry
log_grammar = record {
  name_of = entry_name;
  parts_of = entry_parts;
  is_end = is_end;
  forms_of = forms_of;
  some_name = some_name;
  letters = letters;
  ends = end_name;
  known = forms_known;
}
