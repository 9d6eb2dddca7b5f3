-- Logs and licences of the task of a file.
use Rattle.std.proofs.Common.{◌≡◌, ℕ, List, map, length, refl, sym, ap, ◌∙◌, subst, Bool, Result, Ok, Err}
use Rattle.std.specs.Prelude.{IfOk}
use Rattle.std.proofs.lemmas.List.{length-map}
use Rattle.frac128.specs.declared.vectors.Spot.{Spot}
use Rattle.vlp_problem.specs.Sides.{IsFeasible}
use Rattle.upper_image.specs.Shows.{ShowsFitting}
use Rattle.upper_image.specs.Spots.{dense, IsVector}
use Rattle.deriv_log.specs.declared.entry.Entry.TheVariants.{Duality as Opening}
use Rattle.log_rules.specs.Meets.{MeetsFarkas}
use Rattle.log_rules.proofs.SomeAnswer.{some_answer}
use Rattle.lp_form.specs.Programs.{side_total, feasible_system}
use Rattle.overflows.specs.Base.{IsBaseChoice, IsRayOff}
use Rattle.overflows.specs.Trails.{IsBaseDuality}
use Rattle.benson_program.specs.Ends.{IsContradiction}
use Rattle.lp_form.specs.Sparse.{IsSparseOf}
use Rattle.benson_program.specs.Wholes.{IsWholeOf}
use Rattle.benson_program.specs.declared.whole.WholeParts.{WholeParts}
use Rattle.outer_approx.specs.Unstarted.{IsReadWhole, ShowsWhole}
use Rattle.exact_field.specs.Rational.{ℚ}
use Rattle.vlp_problem.specs.declared.problem.Problem.{Problem}
use Rattle.deriv_log.specs.declared.entry.Entry.{Entry}
use Rattle.overflows.specs.Licence.{Completes, IsHeldDuality, IsPossible, Licensed, StandsFor}
use Rattle.overflows.proofs.Growing.{trail_laws}
use Rattle.overflows.proofs.Without.{licence_laws}
use Rattle.overflows.specs.Faults.{OnLicence, Overflows, with_trail}
use Rattle.overflows.specs.declared.fault.SolveFault.{SolveFault}
use Rattle.overflows.specs.declared.fault.SolveFault.TheVariants.{Left, NoMemory}
use Rattle.cone_dual.specs.Fitting.{IsDualityOf}
use Rattle.cone_dual.specs.declared.duality.Duality.{Duality}
use Rattle.outer_approx.specs.Standing.{IsEnded, IsOpenTrail}
use Rattle.outer_approx.specs.Task.{Task, IsFitting, setting}
use Rattle.outer_approx.specs.declared.log.Line.{Line}
use Rattle.lp_form.specs.Data.{IsDataOf}
use Rattle.lp_form.specs.declared.data.Data.{Data}
use Rattle.recession.specs.First.{AreFirstCuts}
use Rattle.recession.proofs.Grown.{proper_of}
use Rattle.lp_form.specs.declared.shown.Cut.{Cut}
use Rattle.recession.specs.Asking.{IsKnown}
use Rattle.recession.specs.Logs.{IsOwnLog, task_of}

-- a duality vector and its weights, as the lists that they are read as
module _ {F : Type 0} (value : F → ℚ) (holds : ℚ → Bool) (file : Problem) (d : Duality F) (h : IsDualityOf value holds file d) (c weights : List F)
    (c_is : c ≡ d.c) (weights_is : weights ≡ d.weights) where
  abbrev pub task : Task
  task = record { file = file; c = map value c; weights = map value weights }

  at : (P : List ℚ → List ℚ → Type 0) → P (map value d.c) (map value d.weights) → P (map value c) (map value weights)
  at P k = subst (λ (l : List F). P (map value l) (map value weights)) (sym c_is) (subst (λ (l : List F). P (map value d.c) (map value l)) (sym weights_is) k)

  -- and what holds with these lists holds with those that were handed
  pub handed : (P : List ℚ → List ℚ → Type 0) → P task.c task.weights → P (map value d.c) (map value d.weights)
  handed P k = subst (λ (l : List F). P (map value d.c) (map value l)) weights_is (subst (λ (l : List F). P (map value l) (map value weights)) c_is k)

  pub opens : d.entry ≡ Opening (map value c) (map value weights) h.picks h.inverse
  opens = at (λ c' weights'. d.entry ≡ Opening c' weights' h.picks h.inverse) h.entry_is

  pub fits : ShowsFitting file (map value c) (map value weights) h.picks h.inverse
  fits = at (λ c' weights'. ShowsFitting file c' weights' h.picks h.inverse) h.fits

  pub base : IsBaseDuality file file.cone file.duality (map value c) (map value weights)
  base = at (λ c' weights'. IsBaseDuality file file.cone file.duality c' weights') h.base

  pub fitting : IsFitting holds task
  fitting = record {
    picks = h.picks;
    inverse = h.inverse;
    fits = fits;
    base = base;
    held = at (λ c' weights'. IsHeldDuality holds c' weights' h.inverse) h.held;
  }

  -- the task is that of the entry
  pub task_is : task_of file d.entry ≡ task
  task_is = ap (task_of file) opens

  pub known : (form : Data F) → IsDataOf value file form → (x : List F) (ls : List (Line F)) (cuts : List (Cut F)) → AreFirstCuts value task x ls cuts →
      IsKnown value holds task form c weights
  known form stands x ls cuts first = record {
    stands = stands;
    c_is = refl;
    weights_is = refl;
    fitting = fitting;
    proper = proper_of value task cuts (map value x) first.each first.some first.choice.feasible;
  }

pub possible : (holds : ℚ → Bool) (task : Task) → IsFitting holds task → IsPossible holds task.file task.c task.weights
possible holds task h =
    record { picks = h.picks; inverse = h.inverse; held = h.held; trail = trail_laws.opened task.file task.c task.weights h.picks h.inverse h.fits h.base }

pub own_log : (holds : ℚ → Bool) (task : Task) → IsFitting holds task → (log : List Entry) → IsEnded task log →
    IsOwnLog holds task.file task.c task.weights log
own_log holds task h log e =
    let proved = some_answer task.file log e.log e.base.meet in
    record { log = e.log; meet = e.base.meet; answer = proved.0; gives = proved.1.gives; possible = possible holds task h; base = e.base }

-- an overflow after an open trail, which is that of its licence
pub licensed : (holds : ℚ → Bool) (task : Task) → IsFitting holds task → (trail : List Entry) (fault : SolveFault) → OnLicence fault (λ licence. IsOpenTrail task trail) →
    Overflows holds (setting task trail) trail fault → OnLicence fault (Licensed holds task.file task.c)
licensed holds task h trail (Left licence) open_trail (own, overflow) =
    licence_laws.licensed holds task.file task.c task.weights trail licence
    (subst (λ (t : List Entry). StandsFor holds task.file task.c task.weights t trail) (sym own)
    (record { possible = possible holds task h; completes = Completes.itself refl; base = open_trail.base }))
    overflow
licensed holds task h trail NoMemory open_trail o = tt

pub own_ok : (holds : ℚ → Bool) (task : Task) → IsFitting holds task → (r : Result (List Entry) SolveFault) → IfOk r (IsEnded task) →
    IfOk r (IsOwnLog holds task.file task.c task.weights)
own_ok holds task h (Ok log) e = own_log holds task h log e
own_ok holds task h (Err fault) e = tt

-- what holds of a licence without regard to it holds of one with another trail
pub carried : (P : Type 0) (fault : SolveFault) (trail : List Entry) → OnLicence fault (λ licence. P) → OnLicence (with_trail fault trail) (λ licence. P)
carried P (Left licence) trail h = h
carried P NoMemory trail h = tt

-- multipliers that show a contradiction, as spots
module _ (file : Problem) (u : List ℚ) (spots : List Spot) (h : IsContradiction file u) (vector : IsVector (length u) spots) (same : dense (length u) spots ≡ u) where
  spots_vector : IsVector (side_total file) spots
  spots_vector = subst (λ (n : ℕ). IsVector n spots) h.wide vector

  spots_same : dense (side_total file) spots ≡ u
  spots_same = ap (λ (n : ℕ). dense n spots) (sym h.wide) ∙ same

  pub meets_farkas : MeetsFarkas file spots
  meets_farkas = h.meets spots spots_vector spots_same

  pub ray_read : IsRayOff (feasible_system file) (dense (side_total file) spots)
  ray_read = subst (IsRayOff (feasible_system file)) (sym spots_same) h.read

-- what shows that the image is everything, as the parts of a log
module _ {F : Type 0} (value : F → ℚ) (task : Task) (opening : Entry) (picks : List ℕ) (inverse : List ℚ)
    (opens : opening ≡ Opening task.c task.weights picks inverse) (fits : ShowsFitting task.file task.c task.weights picks inverse)
    (base : IsBaseDuality task.file task.file.cone task.file.duality task.c task.weights) (list : List F) (choice : IsBaseChoice task.file (map value list))
    (parts : WholeParts F) (w : IsWholeOf value task.file task.c parts) (x ray m : List Spot) (x_is : IsSparseOf value list x)
    (ray_is : IsSparseOf value parts.ray ray) (m_is : IsSparseOf value parts.m m) where
  cols : length list ≡ task.file.cols
  cols = sym (length-map list value) ∙ choice.feasible.width

  x_vector : IsVector task.file.cols x
  x_vector = subst (λ (n : ℕ). IsVector n x) cols x_is.vector

  x_same : dense task.file.cols x ≡ map value list
  x_same = ap (λ (n : ℕ). dense n x) (sym cols) ∙ x_is.same

  pub shows_whole : ShowsWhole task.file task.c task.weights opening x ray m
  shows_whole = record {
    picks = picks;
    inverse = inverse;
    opens = opens;
    fits = fits;
    rules = record {
      feasible = record { index = x_vector.places; side = subst (IsFeasible task.file) (sym x_same) choice.feasible };
      recedes = w.recedes ray ray_is;
      above = w.above ray m ray_is m_is;
    };
  }

  pub read_whole : IsReadWhole task.file task.c task.weights x ray m
  read_whole = record { duality = base; choice = subst (IsBaseChoice task.file) (sym x_same) choice; whole = w.base ray m ray_is m_is }
