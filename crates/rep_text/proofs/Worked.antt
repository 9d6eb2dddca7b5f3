-- First faults of small texts.
use Rattle.std.proofs.Common.{◌≡◌, refl, ℕ, zero, suc, ◌+◌, ◌-◌, ◌<◌, ◌≤◌, List, [], length, codes, None, arith, subst, inl, inr, ⊎_elim}
use Rattle.std.proofs.lemmas.Bool.{cases_lt}
use Rattle.src_sink.specs.Texts.{TextLine, lines_of}
use Rattle.word_lines.specs.FirstFault.{Pass, fault_at}
use Rattle.word_lines.proofs.Laws.{past}
use Rattle.word_lines.proofs.Lines.{pass_more}
use Rattle.rep_text.specs.Examples.{RepExamples}
use Rattle.rep_text.specs.RepFault.{rep_test}

none_pass : (lines : List TextLine) → Pass rep_test lines 0
none_pass lines i low high = absurd (omega (arith, low, high))

one_passes : (lines : List TextLine) → fault_at rep_test lines 1 ≡ None → Pass rep_test lines 1
one_passes lines h = pass_more rep_test lines 0 (none_pass lines) h

two_pass : (lines : List TextLine) → fault_at rep_test lines 1 ≡ None → fault_at rep_test lines 2 ≡ None → Pass rep_test lines 2
two_pass lines h k = pass_more rep_test lines 1 (one_passes lines h) k

-- all lines pass, and none stands after them
all_pass : (lines : List TextLine) (n : ℕ) → length lines ≡ n → Pass rep_test lines n → fault_at rep_test lines 0 ≡ None → (i : ℕ) → fault_at rep_test lines i ≡ None
all_pass lines n count h first zero = first
all_pass lines n count h first (suc i) =
    ⊎_elim (λ below. past rep_test lines (suc i) below) (λ above. h (suc i) (omega arith) (omega (arith, count, above))) (cases_lt (length lines) (suc i))

pub rep_examples : RepExamples
rep_examples = record {
  empty = inr (none_pass (lines_of (codes "")), refl, refl);
  no_first = inl (omega arith, none_pass (lines_of (codes "end\n")), refl);
  too_narrow = inl (omega arith, none_pass (lines_of (codes "sides 0\nend\n")), refl);
  too_wide = inl (omega arith, none_pass (lines_of (codes "gens 20\nend\n")), refl);
  wide_before_more = inl (omega arith, none_pass (lines_of (codes "gens 20 1\nend\n")), refl);
  one_more = inl (omega arith, none_pass (lines_of (codes "gens 2 1\nend\n")), refl);
  width_word = inl (omega arith, none_pass (lines_of (codes "gens 02\nend\n")), refl);
  other_kind = inl (omega arith, one_passes (lines_of (codes "gens 1\nh 0 0\nend\n")) refl, refl);
  other_text = inl (omega arith, one_passes (lines_of (codes "sides 1\n1 0\nend\n")) refl, refl);
  no_gamma = inl (omega arith, one_passes (lines_of (codes "sides 1\nh 0\nend\n")) refl, refl);
  left_over = inl (omega arith, one_passes (lines_of (codes "gens 1\nl 0 0\nend\n")) refl, refl);
  number_first = inl (omega arith, one_passes (lines_of (codes "gens 1\n0 00 0\nend\n")) refl, refl);
  no_end = inr (two_pass (lines_of (codes "gens 1\n1 0\n")) refl refl, refl, refl);
  two_ends = inl (omega arith, two_pass (lines_of (codes "sides 1\nend\nend\n")) refl refl, refl);
  torn = inl (omega arith, one_passes (lines_of (codes "gens 19\nend")) refl, refl);
  points = all_pass (lines_of (codes "gens 1\nl 0\n1 0\n0 0\nend\n")) 5 refl (pass_more rep_test (lines_of (codes "gens 1\nl 0\n1 0\n0 0\nend\n")) 4 (pass_more rep_test (lines_of (codes "gens 1\nl 0\n1 0\n0 0\nend\n")) 3 (pass_more rep_test (lines_of (codes "gens 1\nl 0\n1 0\n0 0\nend\n")) 2 (pass_more rep_test (lines_of (codes "gens 1\nl 0\n1 0\n0 0\nend\n")) 1 (pass_more rep_test (lines_of (codes "gens 1\nl 0\n1 0\n0 0\nend\n")) 0 (none_pass (lines_of (codes "gens 1\nl 0\n1 0\n0 0\nend\n"))) refl) refl) refl) refl) refl) refl;
  sides = all_pass (lines_of (codes "sides 2\nh 0 0 0\ne 0 0 0\nend\n")) 4 refl (pass_more rep_test (lines_of (codes "sides 2\nh 0 0 0\ne 0 0 0\nend\n")) 3 (pass_more rep_test (lines_of (codes "sides 2\nh 0 0 0\ne 0 0 0\nend\n")) 2 (pass_more rep_test (lines_of (codes "sides 2\nh 0 0 0\ne 0 0 0\nend\n")) 1 (pass_more rep_test (lines_of (codes "sides 2\nh 0 0 0\ne 0 0 0\nend\n")) 0 (none_pass (lines_of (codes "sides 2\nh 0 0 0\ne 0 0 0\nend\n"))) refl) refl) refl) refl) refl;
  none = all_pass (lines_of (codes "sides 19\nend\n")) 2 refl (pass_more rep_test (lines_of (codes "sides 19\nend\n")) 1 (pass_more rep_test (lines_of (codes "sides 19\nend\n")) 0 (none_pass (lines_of (codes "sides 19\nend\n"))) refl) refl) refl;
}
