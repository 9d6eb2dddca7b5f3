use Rattle.vlp_reader.proofs.Faults.{never_both, one_fault}
use Rattle.vlp_reader.proofs.OneProblem.{one_problem}
use Rattle.vlp_reader.proofs.SomeProblem.{read_or_fault, read_within}
use Rattle.vlp_reader.proofs.laws.a_file_reads_or_has_a_first_fault.Goals as goal

pub returns : goal.returns
returns c = record { read_or_fault = read_or_fault; never_both = never_both; one_problem = one_problem; one_fault = one_fault; within = read_within }
