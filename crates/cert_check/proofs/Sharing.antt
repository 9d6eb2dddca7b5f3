-- An entry that names a shared vector.
use Rattle.std.proofs.Common.{◌≡◌, ℕ, ◌≤◌, List, [], ◌∷◌, ◌++◌, length, refl, sym, ap, ◌∙◌, subst, Bool, ◌&&◌, nat_le, None}
use Rattle.std.specs.Prelude.{Result}
use Rattle.std.proofs.lemmas.Bool.{leb-true}
use Rattle.frac128.specs.Held.{is_held}
use Rattle.frac128.specs.declared.vectors.Spot.{Spot}
use Rattle.polyhedra.proofs.Tests.{both_true}
use Rattle.vlp_problem.specs.declared.problem.Problem.{Problem}
use Rattle.deriv_log.specs.declared.entry.Entry.{Entry}
use Rattle.deriv_log.specs.declared.entry.Entry.TheVariants as entry
use Rattle.log_rules.specs.Events.{Event, first_failure}
use Rattle.log_rules.specs.Events.Event.{test}
use Rattle.log_rules.specs.Live.{state}
use Rattle.log_rules.specs.Runs.{Runs, Stops, steps}
use Rattle.log_rules.specs.declared.rule.Rule.TheVariants as rule
use Rattle.log_rules.specs.declared.stop.Stop.{Stop}
use Rattle.entry_checks.proofs.Going.{test-passed}
use Rattle.log_solved.specs.Shown.{entry_of, preimage_events}
use Rattle.log_solved.specs.Solving.{Enters, IsSolving}
use Rattle.log_solved.specs.declared.shown.GenKind.{GenKind}
use Rattle.log_solved.specs.declared.shown.GenKind.TheVariants.{Point, Direction}
use Rattle.log_solved.specs.declared.solving.Solving.{Solving}
use Rattle.log_versions.specs.Plain.{shares, shared, plain_entry, plain}
use Rattle.log_versions.specs.WrittenEvents.{is_there, written_kind_events}
use Rattle.log_versions.proofs.PlainLogs.{plain-push}
use Rattle.cert_check.specs.Taking.{Takes, sharing_entry}
use Rattle.cert_check.proofs.OneEntry.{took_as, took_plainly}
use Rattle.cert_check.proofs.Taking.{stops_first, runs_after}

-- a number that passed its test
pub is_number : (b : Bool) (k n : ℕ) → b ≡ (nat_le 1 k && nat_le k n) →
    first_failure is_held 1 (test rule.Index b ∷ []) ≡ None → (1 ≤ k) × (k ≤ n)
is_number b k n same none =
    let both = both_true (nat_le 1 k) (nat_le k n) (sym same ∙ test-passed 1 rule.Index b none) in
    (leb-true 1 k both.0, leb-true k n both.1)

-- the test among the vectors that are kept is that among those of the entries
pub there : (b : Bool) (k : ℕ) (before : List Entry) (vectors : List (List Spot)) →
    b ≡ (nat_le 1 k && nat_le k (length vectors)) → vectors ≡ shares before →
    b ≡ (nat_le 1 k && nat_le k (length (shares before)))
there b k before vectors h same =
    h ∙ ap (λ (vs : List (List Spot)). nat_le 1 k && nat_le k (length vs)) same

pub not_there : (b : Bool) (k : ℕ) (before : List Entry) (vectors : List (List Spot)) →
    b ≡ (nat_le 1 k && nat_le k (length vectors)) → vectors ≡ shares before →
    (es : List Event) (stop : Stop) → Stops is_held (test rule.Index b ∷ []) 0 stop →
    Stops is_held (is_there before k ∷ es) 0 stop
not_there b k before vectors h same es stop stops =
    stops_first rule.Index b (nat_le 1 k && nat_le k (length (shares before)))
    (there b k before vectors h same) es stop stops

-- the entry does what its plain entry does, after the test that the vector is there
pub took_sharing : (file : Problem) (before : List Entry) (e p : Entry) (k : ℕ) (solving : Solving)
    (result : Result (Unit {0}) Stop) →
    plain_entry (shares before) e ≡ p ∷ [] → plain_entry (shares before) p ≡ p ∷ [] →
    written_kind_events file before e ≡ is_there before k ∷ written_kind_events file before p →
    (b : Bool) → b ≡ (nat_le 1 k && nat_le k (length (shares before))) →
    first_failure is_held 1 (test rule.Index b ∷ []) ≡ None →
    Takes file before p solving result → Takes file before e solving result
took_sharing file before e p k solving result plainly itself tests b same none h =
    let plain_same : plain (before ++ p ∷ []) ≡ plain (before ++ e ∷ []) =
    plain-push before p ∙ ap (λ (es : List Entry). plain before ++ es) (itself ∙ sym plainly)
    ∙ sym (plain-push before e) in
    let after = runs_after rule.Index b (nat_le 1 k && nat_le k (length (shares before))) same
    (written_kind_events file before p) none
    (IsSolving file (plain (before ++ p ∷ [])) solving) result h in
    subst (λ (es : List Event). Runs is_held es 0 (steps es)
    (λ _. IsSolving file (plain (before ++ e ∷ [])) solving) result) (sym tests)
    (subst (λ (es : List Entry). Runs is_held
    (is_there before k ∷ written_kind_events file before p) 0
    (steps (written_kind_events file before p)) (λ _. IsSolving file es solving) result)
    plain_same after)

-- ---- pre-images that name a shared vector, of points and directions
pub preimage_not_there : (kind : GenKind) (file : Problem) (before : List Entry)
    (generator k : ℕ) (m : List Spot) (b : Bool) (vectors : List (List Spot)) →
    b ≡ (nat_le 1 k && nat_le k (length vectors)) → vectors ≡ shares before → (stop : Stop) →
    Stops is_held (test rule.Index b ∷ []) 0 stop →
    Stops is_held (written_kind_events file before (sharing_entry kind generator k m)) 0 stop
preimage_not_there Point file before generator k m b vectors h same stop stops =
    not_there b k before vectors h same
    (written_kind_events file before (entry.Point generator (shared (shares before) k) m)) stop stops
preimage_not_there Direction file before generator k m b vectors h same stop stops =
    not_there b k before vectors h same
    (written_kind_events file before (entry.Ray generator (shared (shares before) k) m)) stop stops

pub took_preimage : (kind : GenKind) (file : Problem) (before : List Entry) (generator k : ℕ)
    (x m read : List Spot) (solving : Solving) (result : Result (Unit {0}) Stop) →
    x ≡ shared (shares before) k → read ≡ m →
    (b : Bool) → b ≡ (nat_le 1 k && nat_le k (length (shares before))) →
    first_failure is_held 1 (test rule.Index b ∷ []) ≡ None →
    Enters file (plain before) (entry_of kind generator x read)
    (preimage_events kind file (plain before) (state file.objs (plain before)) generator x read)
    solving result →
    Takes file before (sharing_entry kind generator k m) solving result
took_preimage Point file before generator k x m read solving result is same b there none h =
    took_sharing file before (entry.PointOf generator k m)
    (entry.Point generator (shared (shares before) k) m) k solving result refl refl refl b there none
    (took_as file before (entry.Point generator x read)
    (entry.Point generator (shared (shares before) k) m) solving result
    (λ i. entry.Point generator (is i) (same i))
    (took_plainly file before (entry.Point generator x read)
    (entry.Point generator x read ∷ []) solving result refl h))
took_preimage Direction file before generator k x m read solving result is same b there none h =
    took_sharing file before (entry.RayOf generator k m)
    (entry.Ray generator (shared (shares before) k) m) k solving result refl refl refl b there none
    (took_as file before (entry.Ray generator x read)
    (entry.Ray generator (shared (shares before) k) m) solving result
    (λ i. entry.Ray generator (is i) (same i))
    (took_plainly file before (entry.Ray generator x read)
    (entry.Ray generator x read ∷ []) solving result refl h))

pub took_own_preimage : (kind : GenKind) (file : Problem) (before : List Entry) (generator : ℕ)
    (x own m read : List Spot) (solving : Solving) (result : Result (Unit {0}) Stop) →
    x ≡ own → read ≡ m →
    Enters file (plain before) (entry_of kind generator x read)
    (preimage_events kind file (plain before) (state file.objs (plain before)) generator x read)
    solving result →
    Takes file before (entry_of kind generator own m) solving result
took_own_preimage Point file before generator x own m read solving result is same h =
    took_as file before (entry.Point generator x read) (entry.Point generator own m) solving result
    (λ i. entry.Point generator (is i) (same i))
    (took_plainly file before (entry.Point generator x read)
    (entry.Point generator x read ∷ []) solving result refl h)
took_own_preimage Direction file before generator x own m read solving result is same h =
    took_as file before (entry.Ray generator x read) (entry.Ray generator own m) solving result
    (λ i. entry.Ray generator (is i) (same i))
    (took_plainly file before (entry.Ray generator x read)
    (entry.Ray generator x read ∷ []) solving result refl h)
