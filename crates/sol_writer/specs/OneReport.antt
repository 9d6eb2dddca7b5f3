-- What a report tells of its answer.
use Rattle.std.specs.Prelude.{◌≡◌, Bool, ◌&&◌, List, length, IsTrue}
use Rattle.std.specs.List.{list_all}
use Rattle.frac128.specs.Held.{is_held}
use Rattle.frac128.specs.declared.vectors.Spot.{Spot}
use Rattle.vlp_problem.specs.declared.problem.Problem.{Problem}
use Rattle.word_lines.specs.Parts.{is_short, is_formed_spot}
use Rattle.log_rules.specs.Report.{report_text}
use Rattle.log_rules.specs.declared.answer.Answer.{Answer}
use Rattle.log_rules.specs.declared.answer.Answer.TheVariants.{Infeasible, Whole, Solved}
use Rattle.log_rules.specs.declared.answer.Facet.{Facet}
use Rattle.log_rules.specs.declared.answer.Gen.{Gen}
use Rattle.log_rules.specs.declared.answer.LineGen.{LineGen}

-- ---- which numbers are written
-- a list of such things, whose length has 32 bits
abbrev pub is_short_list : {X : Type 0} → (X → Bool) → List X → Bool
is_short_list good xs = is_short (length xs) && list_all good xs

-- a sparse vector whose places have 32 bits and whose values are held
abbrev pub is_held_sparse : List Spot → Bool
is_held_sparse u = is_short_list is_formed_spot u

-- the numbers of a line are written,
abbrev pub is_held_line : LineGen → Bool
is_held_line l = list_all is_held l.d && (is_held_sparse l.ray && is_held_sparse l.back)

-- those of a point or direction,
abbrev pub is_held_gen : Gen → Bool
is_held_gen g = list_all is_held g.y && is_held_sparse g.pre

-- and those of a facet
abbrev pub is_held_facet : Facet → Bool
is_held_facet f =
    list_all is_held f.w
    && (is_held f.gamma && (is_held_sparse f.u && is_short_list is_short f.tight))

-- each fraction of the answer is held, and each natural number and length has 32 bits
abbrev pub is_held_answer : Answer → Bool
is_held_answer (Infeasible u) = is_held_sparse u
is_held_answer (Whole c x ray) = list_all is_held c && (is_held_sparse x && is_held_sparse ray)
is_held_answer (Solved c ls points directions facets) =
    list_all is_held c
    && (is_short_list is_held_line ls
    && (is_short_list is_held_gen points
    && (is_short_list is_held_gen directions && is_short_list is_held_facet facets)))

-- ---- the law
-- answers with one report are equal, whatever their files
abbrev pub OneAnswerToAReport : Type 0
OneAnswerToAReport = (f g : Problem) (a b : Answer) →
    IsTrue (is_held_answer a) → IsTrue (is_held_answer b) →
    report_text f a ≡ report_text g b → a ≡ b
