-- The tests of a line, by its words.
use Rattle.std.proofs.Common.{◌≡◌, refl, ℕ, ◌≤◌, Bool, true, false, not, ◌==◌, nat_lt, List, [], ◌∷◌, ◌++◌, length, Option, None, Some, unwrap_or, ap, sym, ◌∙◌, subst}
use Rattle.std.specs.Option.{option_map}
use Rattle.std.proofs.lemmas.Bool.{cond-true, cond-false, le-ltb, ne_eqb, eq-eqb}
use Rattle.vlp_reader.specs.Drafts.{Has, HasRead, Begins}
use Rattle.vlp_reader.specs.FirstFault.{is_end}
use Rattle.vlp_reader.specs.Grammar.{first_given, given_sizes, line_fault, words_fault, kind_fault, statement_fault, sizes_fault, formed, is_kind, closing_fault}
use Rattle.vlp_reader.specs.Lines.{words_of, letter}
use Rattle.vlp_reader.specs.Reading.{TakesLine, TakesWords}
use Rattle.vlp_reader.specs.Statements.{statement_on, statement_of, words_statement, sizes_of}
use Rattle.vlp_reader.specs.declared.draft.Draft.{Draft}
use Rattle.vlp_reader.specs.declared.fault.FileKind.TheVariants.{NoProblem, BadLine, Twice, LineLong}
use Rattle.vlp_reader.specs.declared.sizes.Sizes.{Sizes}
use Rattle.vlp_reader.specs.declared.statement.Statement.{Statement}
use Rattle.vlp_reader.specs.declared.statement.Statement.TheVariants.{Silent, Heading}
use Rattle.vlp_reader.proofs.Drafts.{has_silent}
use Rattle.vlp_reader.proofs.MoreStatements.{silent_gives, silent_push}

short_line : (earlier : List Statement) (line : List ℕ) → length line ≤ 4096 → line_fault earlier line ≡ words_fault earlier (words_of line)
short_line earlier line h = cond-false (nat_lt 4096 (length line)) (Some LineLong) (words_fault earlier (words_of line)) (le-ltb 4096 (length line) h)

has_read_silent : (draft : Option Draft) (earlier : List Statement) → HasRead draft earlier → HasRead draft (earlier ++ Silent ∷ [])
has_read_silent None earlier has = silent_push earlier Silent has refl
has_read_silent (Some draft) earlier has = has_silent draft earlier has

takes_silent : (draft : Option Draft) (earlier : List Statement) (line : List ℕ) → HasRead draft earlier → line_fault earlier line ≡ None → statement_on line ≡ Silent → TakesLine line earlier draft false
takes_silent draft earlier line has fault says =
    record { passes = fault; has = subst (λ (s : Statement). HasRead draft (earlier ++ s ∷ [])) (sym says) (has_read_silent draft earlier has); end = sym (ap is_end says) }

-- a line without a word
pub takes_blank : (draft : Option Draft) (earlier : List Statement) (line : List ℕ) → HasRead draft earlier → length line ≤ 4096 → words_of line ≡ [] → TakesLine line earlier draft false
takes_blank draft earlier line has short words = takes_silent draft earlier line has (short_line earlier line short ∙ ap (words_fault earlier) words) (ap words_statement words)

-- a comment
pub takes_comment : (draft : Option Draft) (earlier : List Statement) (line first : List ℕ) (rest : List (List ℕ)) → HasRead draft earlier → length line ≤ 4096 → words_of line ≡ first ∷ rest → letter first ≡ 99
    → TakesLine line earlier draft false
takes_comment draft earlier line first rest has short words c =
    takes_silent draft earlier line has
    (short_line earlier line short ∙ ap (words_fault earlier) words ∙ cond-true (letter first == 99) None _ (eq-eqb (letter first) 99 c))
    (ap words_statement words ∙ ap (λ k. unwrap_or (statement_of k rest) Silent) c)

-- a line of a kind that has tests
pub kind_line : (earlier : List Statement) (line first : List ℕ) (rest : List (List ℕ)) → length line ≤ 4096 → words_of line ≡ first ∷ rest → (letter first ≡ 99 → ⊥) → is_kind (letter first) ≡ true
    → line_fault earlier line ≡ kind_fault earlier (first_given given_sizes earlier) (letter first) rest
kind_line earlier line first rest short words no_comment kind =
    short_line earlier line short ∙ ap (words_fault earlier) words
    ∙ cond-false (letter first == 99) None _ (ne_eqb (letter first) 99 no_comment)
    ∙ cond-false (not (is_kind (letter first))) (Some BadLine) _ (ap not kind)

-- before the sizes
pub opening_line : (earlier : List Statement) (line first : List ℕ) (rest : List (List ℕ)) → length line ≤ 4096 → words_of line ≡ first ∷ rest → (letter first ≡ 99 → ⊥) → is_kind (letter first) ≡ true
    → HasRead None earlier → letter first ≡ 112 → line_fault earlier line ≡ formed (sizes_of rest) sizes_fault
opening_line earlier line first rest short words no_comment kind has p =
    kind_line earlier line first rest short words no_comment kind
    ∙ ap (λ o. kind_fault earlier o (letter first) rest) (silent_gives given_sizes refl earlier has)
    ∙ cond-true (letter first == 112) (formed (sizes_of rest) sizes_fault) (Some NoProblem) (eq-eqb (letter first) 112 p)

pub too_early : (earlier : List Statement) (line first : List ℕ) (rest : List (List ℕ)) → length line ≤ 4096 → words_of line ≡ first ∷ rest → (letter first ≡ 99 → ⊥) → is_kind (letter first) ≡ true
    → HasRead None earlier → (letter first ≡ 112 → ⊥) → line_fault earlier line ≡ Some NoProblem
too_early earlier line first rest short words no_comment kind has no_p =
    kind_line earlier line first rest short words no_comment kind
    ∙ ap (λ o. kind_fault earlier o (letter first) rest) (silent_gives given_sizes refl earlier has)
    ∙ cond-false (letter first == 112) (formed (sizes_of rest) sizes_fault) (Some NoProblem) (ne_eqb (letter first) 112 no_p)

-- after them
pub second_line : (draft : Draft) (earlier : List Statement) (line first : List ℕ) (rest : List (List ℕ)) → length line ≤ 4096 → words_of line ≡ first ∷ rest → (letter first ≡ 99 → ⊥) → is_kind (letter first) ≡ true
    → Has draft earlier → letter first ≡ 112 → line_fault earlier line ≡ Some Twice
second_line draft earlier line first rest short words no_comment kind has p =
    kind_line earlier line first rest short words no_comment kind
    ∙ ap (λ o. kind_fault earlier o (letter first) rest) has.given
    ∙ cond-true (letter first == 112) (Some Twice) (formed (statement_of (letter first) rest) (statement_fault earlier draft.sizes)) (eq-eqb (letter first) 112 p)

pub further_line : (draft : Draft) (earlier : List Statement) (line first : List ℕ) (rest : List (List ℕ)) → length line ≤ 4096 → words_of line ≡ first ∷ rest → (letter first ≡ 99 → ⊥) → is_kind (letter first) ≡ true
    → Has draft earlier → (letter first ≡ 112 → ⊥) → line_fault earlier line ≡ formed (statement_of (letter first) rest) (statement_fault earlier draft.sizes)
further_line draft earlier line first rest short words no_comment kind has no_p =
    kind_line earlier line first rest short words no_comment kind
    ∙ ap (λ o. kind_fault earlier o (letter first) rest) has.given
    ∙ cond-false (letter first == 112) (Some Twice) (formed (statement_of (letter first) rest) (statement_fault earlier draft.sizes)) (ne_eqb (letter first) 112 no_p)

-- what a line says, by its words
pub opening_says : (line first : List ℕ) (rest : List (List ℕ)) (s : Sizes) → words_of line ≡ first ∷ rest → letter first ≡ 112 → sizes_of rest ≡ Some s → statement_on line ≡ Heading s
opening_says line first rest s words p is =
    ap words_statement words ∙ ap (λ k. unwrap_or (statement_of k rest) Silent) p ∙ ap (λ o. unwrap_or (option_map Heading o) Silent) is

pub line_says : (line first : List ℕ) (rest : List (List ℕ)) → words_of line ≡ first ∷ rest → statement_on line ≡ unwrap_or (statement_of (letter first) rest) Silent
line_says line first rest words = ap words_statement words

-- no line has given the sizes
pub no_problem : (statements : List Statement) → HasRead None statements → closing_fault (first_given given_sizes statements) statements ≡ Some NoProblem
no_problem statements has = ap (λ o. closing_fault o statements) (silent_gives given_sizes refl statements has)

pub takes_opening : (draft : Draft) (earlier : List Statement) (line first : List ℕ) (rest : List (List ℕ)) → length line ≤ 4096 → words_of line ≡ first ∷ rest → (letter first ≡ 99 → ⊥) → is_kind (letter first) ≡ true
    → HasRead None earlier → letter first ≡ 112 → Begins rest draft → TakesLine line earlier (Some draft) false
takes_opening draft earlier line first rest short words no_comment kind has p begins =
    let says : statement_on line ≡ Heading draft.sizes = opening_says line first rest draft.sizes words p begins.sizes in
    record {
      passes = opening_line earlier line first rest short words no_comment kind has p ∙ begins.passes;
      has = subst (λ (s : Statement). HasRead (Some draft) (earlier ++ s ∷ [])) (sym says) (begins.has earlier has);
      end = sym (ap is_end says);
    }

pub takes_further : (old new : Draft) (earlier : List Statement) (line first : List ℕ) (rest : List (List ℕ)) (ended : Bool) → length line ≤ 4096 → words_of line ≡ first ∷ rest → (letter first ≡ 99 → ⊥)
    → is_kind (letter first) ≡ true → Has old earlier → (letter first ≡ 112 → ⊥) → TakesWords (letter first) rest earlier old new ended → TakesLine line earlier (Some new) ended
takes_further old new earlier line first rest ended short words no_comment kind has no_p takes =
    let says : statement_on line ≡ unwrap_or (statement_of (letter first) rest) Silent = line_says line first rest words in
    record {
      passes = further_line old earlier line first rest short words no_comment kind has no_p ∙ takes.passes;
      has = subst (λ (s : Statement). HasRead (Some new) (earlier ++ s ∷ [])) (sym says) takes.has;
      end = takes.end ∙ sym (ap is_end says);
    }
