-- What is told of a sample file and of its answer.
use Rattle.std.proofs.Common.{◌≡◌, ℕ, List, [], length, Result, Ok, Err, IfOk, sym, subst, ap, ◌∙◌}
use Rattle.exact_field.specs.Rational.{ℚ}
use Rattle.src_sink.specs.declared.items.NoMemory.{NoMemory}
use Rattle.log_rules.specs.declared.answer.Answer.{Answer}
use Rattle.log_rules.specs.declared.answer.Answer.TheVariants.{Solved}
use Rattle.log_rules.specs.declared.answer.Gen.{Gen}
use Rattle.log_rules.specs.declared.answer.Facet.{Facet}
use Rattle.log_rules.specs.declared.answer.LineGen.{LineGen}
use Rattle.vlp_reader.specs.FirstFault.{Reads}
use Rattle.vlp_problem.specs.declared.problem.Problem.{Problem}
use Rattle.vlp_printer.specs.Printing.{problem_text}
use Rattle.replies.specs.Sample.{IsSample, IsSampleText}
use Rattle.replies.specs.Summary.{IsSolved, Sums, summary_text}
use Rattle.replies.proofs.Printed.{reads}

-- the text of a file is that of the sample
pub sample_told : (number : ℕ) (file : Problem) (r : Result (List ℕ) NoMemory) → IsSample number file → IfOk r (λ text. text ≡ problem_text file) → IfOk r (IsSampleText number)
sample_told number file (Ok text) s h = record {
  file = file;
  sample = s;
  printed = h;
  reads = subst (λ (t : List ℕ). Reads t file) (sym h) (reads number file s);
}
sample_told number file (Err e) s h = tt

-- the lines of an answer's counts are its summary
pub sums : (number : ℕ) (answer : Answer) (c : List ℚ) (ls : List LineGen) (points directions : List Gen) (facets : List Facet) (k l m : ℕ) (r : Result (List ℕ) NoMemory) →
    IsSolved answer → answer ≡ Solved c ls points directions facets → k ≡ length points → l ≡ length directions → m ≡ length facets →
    IfOk r (λ text. text ≡ summary_text number k l m) → IfOk r (Sums number answer)
sums number answer c ls points directions facets k l m (Ok text) s is a b d h = record {
  solved = record { c = c; points = points; directions = directions; facets = facets; same = is ∙ ap (λ ks. Solved c ks points directions facets) none };
  lines = h ∙ ap (λ n. summary_text number n l m) a ∙ ap (λ n. summary_text number (length points) n m) b
      ∙ ap (λ n. summary_text number (length points) (length directions) n) d;
}
  where
    two : Solved c ls points directions facets ≡ Solved s.c [] s.points s.directions s.facets
    two = sym is ∙ s.same

    none : ls ≡ []
    none = cc
sums number answer c ls points directions facets k l m (Err e) s is a b d h = tt
