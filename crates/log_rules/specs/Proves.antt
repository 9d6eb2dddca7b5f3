-- What a plain log proves: each entry meets its rules, and the answer is the one that the entries
-- give.
use Rattle.std.specs.Prelude.{◌≡◌, List, [], ◌∷◌, ◌++◌, map, Contains, filter, slice_index_or, Option, None, Some}
use Rattle.std.specs.List.{filter_map}
use Rattle.exact_field.specs.Rational.{ℚ, zero_ℚ, one_ℚ}
use Rattle.exact_field.specs.Order.{same_ℚ}
use Rattle.polyhedra.specs.Exactness.{SameMembers}
use Rattle.upper_image.specs.UpperImage.{signed, turned}
use Rattle.polyhedra.specs.LiveList.{Numbered}
use Rattle.log_rules.specs.Live.{Stated, state, y_of, t_of, cut_at, duality_vector, preimages, named}
use Rattle.log_rules.specs.Meets.{Meets}
use Rattle.log_rules.specs.Right.{stated, key, tight_numbers, Rise}
use Rattle.frac128.specs.declared.vectors.Spot.{Spot}
use Rattle.vlp_problem.specs.declared.problem.Problem.{Problem}
use Rattle.vlp_problem.specs.declared.problem.Dir.{Dir}
use Rattle.vlp_problem.specs.declared.problem.Dir.TheVariants.{Min, Max}
use Rattle.deriv_log.specs.Formed.{IsLog}
use Rattle.log_rules.specs.declared.answer.Answer.{Answer}
use Rattle.log_rules.specs.declared.answer.Answer.TheVariants.{Infeasible, Whole, Solved}
use Rattle.log_rules.specs.declared.answer.Gen.{Gen}
use Rattle.log_rules.specs.declared.answer.LineGen.{LineGen}
use Rattle.log_rules.specs.declared.answer.Facet.{Facet}
use Rattle.word_lines.specs.declared.part.EndKind.TheVariants as kind
use Rattle.deriv_log.specs.declared.entry.Entry.{Entry}
use Rattle.deriv_log.specs.declared.entry.Entry.TheVariants as entry

-- each entry meets its rules after those before it
abbrev pub AllMeet : Problem → List Entry → Type 0
AllMeet file entries = (before : List Entry) (e : Entry) (after : List Entry) → entries ≡ before ++ e ∷ after → Meets file before e

-- ---- the parts of the answer, in the coordinates of the file
-- a live generator with its pre-image
abbrev pub shown : Problem → List Entry → Numbered → Gen
shown file entries g = record { y = turned file.dir (y_of file.objs g); pre = slice_index_or (preimages entries g.number) 0 [] }

-- the live generators of this t, in the order of their numbers
abbrev pub live_at : Problem → List Entry → ℚ → List Gen
live_at file entries t = map (shown file entries) (filter (λ g. same_ℚ (t_of file.objs g) t) (state file.objs entries).list.live)

-- a cut as a facet of the file, with the numbers of its tight points and directions
abbrev pub facet_of : Problem → List (List ℚ) → List (List ℚ) → Stated → Facet
facet_of file points directions cut =
    let gamma = signed file.dir cut.gamma in
    record { w = cut.w; gamma = gamma; u = cut.u; tight = tight_numbers points directions record { normal = cut.w; bound = gamma } }

-- the named cuts as facets, in the order in which they are named
abbrev pub named_facets : Problem → List Entry → List (List ℚ) → List (List ℚ) → List Facet
named_facets file entries points directions =
    map (λ k. facet_of file points directions (cut_at (state file.objs entries).cuts k)) (named entries)

-- the listed things are those that were found, in rising order of their vectors
pub record IsSorting {X : Type 0} (vector : X → List ℚ) (found listed : List X) : Type 0 where
  pub same : SameMembers found listed
  pub rise : Rise (map vector listed)

-- the pre-images of d and of -d in the coordinates of the file: for a maximising file the log's two
-- change places
abbrev pub forth : Dir → List Spot → List Spot → List Spot
forth Min ray back = ray
forth Max ray back = back

-- the line that an entry tells, with its pre-images; d stands as in the log, for a maximising file too
abbrev pub shown_line : Dir → Entry → Option LineGen
shown_line dir (entry.Line d _ ray _ back _) = Some (record { d = d; ray = forth dir ray back; back = forth dir back ray })
shown_line dir _ = None

-- the lines, in their order
abbrev pub shown_lines : Problem → List Entry → List LineGen
shown_lines file entries = filter_map (shown_line file.dir) entries

-- the lines, points, directions and facets of the answer are those of the log
pub record GivesSolution (file : Problem) (entries : List Entry) (c : List ℚ) (ls : List LineGen) (points directions : List Gen) (facets : List Facet) : Type 0 where
  pub c_given : c ≡ duality_vector entries
  pub lines_are : ls ≡ shown_lines file entries
  pub points_are : IsSorting (λ g. g.y) (live_at file entries one_ℚ) points
  pub directions_are : IsSorting (λ g. g.y) (live_at file entries zero_ℚ) directions
  pub facets_are : IsSorting (λ f. key (stated f)) (named_facets file entries (map (λ g. g.y) points) (map (λ g. g.y) directions)) facets

-- the feasible point and the direction of the log
pub record GivesWhole (entries : List Entry) (c : List ℚ) (x ray : List Spot) : Type 0 where
  pub c_given : c ≡ duality_vector entries
  pub m : List Spot
  pub stands : Contains entries (entry.Whole x ray m)

-- the answer that the entries give
abbrev pub Gives : Problem → List Entry → Answer → Type 0
Gives file entries (Infeasible u) = Contains entries (entry.End kind.Infeasible) × Contains entries (entry.Farkas u)
Gives file entries (Whole c x ray) = Contains entries (entry.End kind.Whole) × GivesWhole entries c x ray
Gives file entries (Solved c ls points directions facets) =
    Contains entries (entry.End kind.Solved) × GivesSolution file entries c ls points directions facets

-- the entries prove the answer for the file, as a plain log
pub record PlainProves (file : Problem) (entries : List Entry) (answer : Answer) : Type 0 where
  pub log : IsLog entries
  pub meet : AllMeet file entries
  pub gives : Gives file entries answer
