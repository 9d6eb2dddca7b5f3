-- The text of a log: a line for each entry, its words separated by one blank.
use Rattle.std.specs.Prelude.{ℕ, List, [], ◌∷◌, codes}
use Rattle.std.specs.List.{flat_map}
use Rattle.src_sink.specs.Texts.{words_text, line_text}
use Rattle.word_lines.specs.Parts.{Part, natural, number, vector, naturals, sparse, pairs, kind, part_words}
use Rattle.deriv_log.specs.declared.entry.Entry.{Entry}
use Rattle.deriv_log.specs.declared.entry.Entry.TheVariants.{Version, Duality, Cut, Start, Add, Point, Ray, Farkas, Whole, Line, Facet, End, Share, CutOf, PointOf, RayOf, AddHints}

-- the first word of an entry's line
abbrev pub entry_name : Entry → List ℕ
entry_name (Version n) = codes "version"
entry_name (Duality c weights picks inverse) = codes "duality"
entry_name (Cut w gamma u v) = codes "cut"
entry_name (Start cuts point directions) = codes "start"
entry_name (Add cut ps) = codes "add"
entry_name (Point generator x m) = codes "point"
entry_name (Ray generator x m) = codes "ray"
entry_name (Farkas u) = codes "farkas"
entry_name (Whole x ray m) = codes "whole"
entry_name (Line d x ray m back n) = codes "line"
entry_name (Facet cut) = codes "facet"
entry_name (End k) = codes "end"
entry_name (Share v) = codes "share"
entry_name (CutOf w gamma share v) = codes "cutof"
entry_name (PointOf generator share m) = codes "pointof"
entry_name (RayOf generator share m) = codes "rayof"
entry_name (AddHints cut ps hints) = codes "addh"

-- what stands after it, in order
abbrev pub entry_parts : Entry → List Part
entry_parts (Version n) = natural n ∷ []
entry_parts (Duality c weights picks inverse) = vector c ∷ vector weights ∷ naturals picks ∷ vector inverse ∷ []
entry_parts (Cut w gamma u v) = vector w ∷ number gamma ∷ sparse u ∷ sparse v ∷ []
entry_parts (Start cuts point directions) = naturals cuts ∷ vector point ∷ vector directions ∷ []
entry_parts (Add cut ps) = natural cut ∷ pairs ps ∷ []
entry_parts (Point generator x m) = natural generator ∷ sparse x ∷ sparse m ∷ []
entry_parts (Ray generator x m) = natural generator ∷ sparse x ∷ sparse m ∷ []
entry_parts (Farkas u) = sparse u ∷ []
entry_parts (Whole x ray m) = sparse x ∷ sparse ray ∷ sparse m ∷ []
entry_parts (Line d x ray m back n) = vector d ∷ sparse x ∷ sparse ray ∷ sparse m ∷ sparse back ∷ sparse n ∷ []
entry_parts (Facet cut) = natural cut ∷ []
entry_parts (End k) = kind k ∷ []
entry_parts (Share v) = sparse v ∷ []
entry_parts (CutOf w gamma share v) = vector w ∷ number gamma ∷ natural share ∷ sparse v ∷ []
entry_parts (PointOf generator share m) = natural generator ∷ natural share ∷ sparse m ∷ []
entry_parts (RayOf generator share m) = natural generator ∷ natural share ∷ sparse m ∷ []
entry_parts (AddHints cut ps hints) = natural cut ∷ pairs ps ∷ naturals hints ∷ []

-- the words of an entry's line
abbrev pub entry_words : Entry → List (List ℕ)
entry_words e = entry_name e ∷ flat_map part_words (entry_parts e)

-- the line of an entry, without its line feed
abbrev pub entry_text : Entry → List ℕ
entry_text e = words_text (entry_words e)

-- the text of a log
abbrev pub log_text : List Entry → List ℕ
log_text entries = flat_map (λ e. line_text (entry_words e)) entries
