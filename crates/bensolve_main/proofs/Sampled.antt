-- `sample`: from what its steps tell to its verdict.
use Rattle.std.proofs.Common.{◌≡◌, ℕ, None, Result, Ok, Err, IfOk, subst, sym, inl, inr}
use Rattle.vlp_problem.specs.declared.problem.Problem.{Problem}
use Rattle.vlp_problem.specs.declared.problem.Cone.{Cone}
use Rattle.upper_image.proofs.Solid.{duality_fits}
use Rattle.cone_rules.specs.Faults.{IsSound, HasInterior, HasNoLine}
use Rattle.cone_rules.proofs.Excluding.{faults_exclude}
use Rattle.cone_rules.proofs.Fitting.{fitting_laws}
use Rattle.cone_rules.proofs.Ranks.{orthant_laws}
use Rattle.src_sink.specs.declared.items.NoMemory.{NoMemory}
use Rattle.solver.specs.Replies.{Unsolved}
use Rattle.solver.specs.Solving.{IsSolutionOf}
use Rattle.solver.specs.declared.end.Solution.{Solution}
use Rattle.replies.specs.Sample.{IsSample}
use Rattle.replies.specs.Summary.{IsSolved, Sums}
use Rattle.replies.proofs.Printed.{reads}
use Rattle.replies.proofs.Samples.{samples_are_solved}
use Rattle.commands.specs.declared.reply.Reply.{Reply}
use Rattle.commands.specs.declared.status.Status.TheVariants.{Done}
use Rattle.bensolve_main.specs.Sample.{SampleVerdict}

-- the orthant is a sound cone
sound : (number : ℕ) (file : Problem) → IsSample number file → IsSound file
sound number file s = record {
  solid = subst (λ (k : Cone). HasInterior file.objs k) (sym s.cone) (orthant_laws.solid file.objs);
  pointed = subst (λ (k : Cone). HasNoLine file.objs k) (sym s.cone) (orthant_laws.pointed file.objs);
  duality = (_, duality_fits file _ _ _ _ (fitting_laws.orthant file s.cone s.duality));
}

-- the answer of a sample file lists its image
pub answer_solved : (number : ℕ) (file : Problem) (s : Solution) → IsSample number file → IsSolutionOf file s → IsSolved s.answer
answer_solved number file s is right = samples_are_solved number file s.answer is right.accepts.right

-- what is told of a solution
solution_told : (number : ℕ) (file : Problem) (s : Solution) (r : Reply) → IsSample number file → IsSolutionOf file s → r.status ≡ Done → Sums number s.answer r.text → r.log ≡ None →
    SampleVerdict number r
solution_told number file s r is right done sums no_log =
    inl (record {
      status = done;
      file = file;
      sample = is;
      reads = reads number file is;
      solution = s;
      right = right;
      summary = sums;
      no_log = no_log;
    })

pub solved_told : (number : ℕ) (file : Problem) (s : Solution) (x : Result Reply NoMemory) → IsSample number file → IsSolutionOf file s →
    IfOk x (λ r. r.status ≡ Done) → IfOk x (λ r. Sums number s.answer r.text) → IfOk x (λ r. r.log ≡ None) → IfOk x (SampleVerdict number)
solved_told number file s (Ok r) is right done sums no_log = solution_told number file s r is right done sums no_log
solved_told number file s (Err e) is right done sums no_log = tt

-- what is told where there is none: the cone has no fault
pub end_told : (number : ℕ) (file : Problem) (x : Result Reply NoMemory) → IsSample number file → IfOk x (Unsolved file) → IfOk x (SampleVerdict number)
end_told number file (Ok r) is (inl refused) = absurd (faults_exclude.sound file refused.fault refused.has (sound number file is))
end_told number file (Ok r) is (inr left) = inr (record { file = file; sample = is; overflow = left })
end_told number file (Err e) is unsolved = tt
