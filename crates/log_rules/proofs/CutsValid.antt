-- Each cut of a log meets the rules of its entry at the log's duality vector, so it is valid for
-- the image.
use Rattle.std.proofs.Common.{◌≡◌, ℕ, List, [], ◌∷◌, ◌++◌, sym, subst, IsTrue, All}
use Rattle.std.proofs.lemmas.List.Elements.{All-nil, All-head, All-push, All-weaker, All-map, Contains-push, Contains-append_left}
use Rattle.exact_field.specs.Rational.{ℚ, zero_ℚ}
use Rattle.exact_field.specs.Vector.{dot}
use Rattle.lineality.specs.Lines.{IsInLineality}
use Rattle.polyhedra.specs.Inequality.{Inequality}
use Rattle.frac128.specs.Sparse.{IsSparse}
use Rattle.frac128.specs.declared.vectors.Spot.{Spot}
use Rattle.polyhedra.specs.Hull.{IsValidAt}
use Rattle.polyhedra.proofs.Members.{all_of_members, member_of}
use Rattle.upper_image.specs.Shows.{ShowsCut}
use Rattle.upper_image.specs.UpperImage.{IsInWorkingImage, IsWorkingDirection}
use Rattle.log_rules.specs.Live.{Stated, State, state, after, duality_vector, inequality, cut_at}
use Rattle.log_rules.specs.Meets.{Meets}
use Rattle.log_rules.specs.Order.{has}
use Rattle.log_rules.specs.Proves.{AllMeet}
use Rattle.log_rules.proofs.CutsStay.{Exists, cut_of, stated}
use Rattle.log_rules.proofs.DualityStays.{duality_stays}
use Rattle.log_rules.proofs.Entries.{state-push, has_more, order_of, along}
use Rattle.log_rules.proofs.Sound.{AreSound}
use Rattle.log_rules.proofs.SparseEntries.{AreSparse, sparse_parts}
use Rattle.vlp_problem.specs.declared.problem.Problem.{Problem}
use Rattle.deriv_log.specs.declared.entry.Entry.{Entry}
use Rattle.deriv_log.specs.declared.entry.Entry.TheVariants.{Cut}
use Rattle.log_rules.specs.Order as order

-- the cut meets its rules at the duality vector that these entries give
pub record IsStatedBy (file : Problem) (entries : List Entry) (cut : Stated) : Type 0 where
  pub given : IsTrue (has order.duality entries)
  pub multipliers : List Spot
  pub meets : ShowsCut file (duality_vector entries) cut.w cut.gamma cut.u multipliers

module _ (file : Problem) where
  still_stated : (before rest : List Entry) (cut : Stated) → IsStatedBy file before cut → IsStatedBy file (before ++ rest) cut
  still_stated before rest cut h = record {
    given = has_more order.duality before rest h.given;
    multipliers = h.multipliers;
    meets = subst (λ (c : List ℚ). ShowsCut file c cut.w cut.gamma cut.u h.multipliers) (sym (duality_stays before rest h.given)) h.meets;
  }

  -- what holds of the cuts so far and of a new one holds after the entry
  pushed : (P : Stated → Type 0) (before : List Entry) (e : Entry) → All P (after file.objs (state file.objs before) e).cuts →
      All P (state file.objs (before ++ e ∷ [])).cuts
  pushed P before e h = subst (λ (s : State). All P s.cuts) (sym (state-push file.objs before e)) h

  stated_step : (before : List Entry) (e : Entry) → Meets file before e → All (IsStatedBy file before) (state file.objs before).cuts →
      All (IsStatedBy file (before ++ e ∷ [])) (state file.objs (before ++ e ∷ [])).cuts
  stated_step before (Cut w gamma u v) m h =
      let e : Entry = Cut w gamma u v in
      pushed (IsStatedBy file (before ++ e ∷ [])) before e
      (All-weaker (IsStatedBy file before) (IsStatedBy file (before ++ e ∷ [])) (still_stated before (e ∷ [])) _
      (All-push (IsStatedBy file before) (state file.objs before).cuts (record { w = w; gamma = gamma; u = u }) h
      (record { given = (order_of before order.cut m.order).duality; multipliers = v; meets = m.rules })))
  stated_step before e m h =
      pushed (IsStatedBy file (before ++ e ∷ [])) before e
      (All-weaker (IsStatedBy file before) (IsStatedBy file (before ++ e ∷ [])) (still_stated before (e ∷ [])) (state file.objs before).cuts h)

  pub cuts_stated : (entries : List Entry) → AllMeet file entries → All (IsStatedBy file entries) (state file.objs entries).cuts
  cuts_stated entries meet =
      along file (λ es. All (IsStatedBy file es) (state file.objs es).cuts) stated_step entries meet (All-nil (IsStatedBy file []))

  -- of a log their dual vectors are sparse
  abbrev SparseAt : List Entry → Type 0
  SparseAt es = AreSparse es → All (λ (cut : Stated). IsSparse cut.u) (state file.objs es).cuts

  front : (before rest : List Entry) → AreSparse (before ++ rest) → AreSparse before
  front before rest h = all_of_members (λ e. All IsSparse (sparse_parts e)) before
      (λ e c. member_of (λ d. All IsSparse (sparse_parts d)) (before ++ rest) e h (Contains-append_left before rest e c))

  sparse_step : (before : List Entry) (e : Entry) → Meets file before e → SparseAt before → SparseAt (before ++ e ∷ [])
  sparse_step before (Cut w gamma u v) m h all =
      let e : Entry = Cut w gamma u v in
      pushed (λ (cut : Stated). IsSparse cut.u) before e (All-push (λ (cut : Stated). IsSparse cut.u) (state file.objs before).cuts
      (record { w = w; gamma = gamma; u = u }) (h (front before (e ∷ []) all))
      (All-head IsSparse u (v ∷ []) (member_of (λ d. All IsSparse (sparse_parts d)) (before ++ e ∷ []) e all (Contains-push before e))))
  sparse_step before e m h all = pushed (λ (cut : Stated). IsSparse cut.u) before e (h (front before (e ∷ []) all))

  pub cuts_sparse : (entries : List Entry) → AllMeet file entries → AreSparse entries → All (λ (cut : Stated). IsSparse cut.u) (state file.objs entries).cuts
  cuts_sparse entries meet = along file SparseAt sparse_step entries meet (λ all. All-nil (λ (cut : Stated). IsSparse cut.u))

-- each is valid
pub cuts_valid : (file : Problem) → AreSound file → (entries : List Entry) → AllMeet file entries →
    All (λ (cut : Stated). IsValidAt file.objs (IsInWorkingImage file) (duality_vector entries) (inequality cut)) (state file.objs entries).cuts
cuts_valid file sound entries meet =
    All-weaker (IsStatedBy file entries) (λ (cut : Stated). IsValidAt file.objs (IsInWorkingImage file) (duality_vector entries) (inequality cut))
    (λ cut h. sound.cut (duality_vector entries) cut.w cut.gamma cut.u h.multipliers h.meets) (state file.objs entries).cuts (cuts_stated file entries meet)

-- so are the inequalities of numbers that exist
pub numbered_valid : (file : Problem) → AreSound file → (entries : List Entry) → AllMeet file entries → (ks : List ℕ) →
    All (Exists (state file.objs entries).cuts) ks →
    All (IsValidAt file.objs (IsInWorkingImage file) (duality_vector entries)) (stated (state file.objs entries).cuts ks)
numbered_valid file sound entries meet ks exist =
    let cuts = (state file.objs entries).cuts in
    All-map (IsValidAt file.objs (IsInWorkingImage file) (duality_vector entries)) (λ k. inequality (cut_at cuts k)) ks
    (All-weaker (Exists cuts) (λ k. IsValidAt file.objs (IsInWorkingImage file) (duality_vector entries) (inequality (cut_at cuts k)))
    (cut_of (λ (cut : Stated). IsValidAt file.objs (IsInWorkingImage file) (duality_vector entries) (inequality cut)) cuts (cuts_valid file sound entries meet))
    ks exist)

-- they are level along each vector of the lineality space
pub numbered_level : (file : Problem) → AreSound file → (entries : List Entry) → AllMeet file entries → (ks : List ℕ) →
    All (Exists (state file.objs entries).cuts) ks → (ls : List (List ℚ)) → All (IsInLineality (IsWorkingDirection file)) ls →
    All (λ e. All (λ d. dot e.normal d ≡ zero_ℚ) ls) (stated (state file.objs entries).cuts ks)
numbered_level file sound entries meet ks exist ls each =
    let cuts = (state file.objs entries).cuts in
    All-map (λ (e : Inequality). All (λ d. dot e.normal d ≡ zero_ℚ) ls) (λ k. inequality (cut_at cuts k)) ks
    (All-weaker (Exists cuts) (λ k. All (λ d. dot (inequality (cut_at cuts k)).normal d ≡ zero_ℚ) ls)
    (cut_of (λ (cut : Stated). All (λ d. dot cut.w d ≡ zero_ℚ) ls) cuts
    (All-weaker (IsStatedBy file entries) (λ (cut : Stated). All (λ d. dot cut.w d ≡ zero_ℚ) ls)
    (λ cut h. all_of_members (λ d. dot cut.w d ≡ zero_ℚ) ls
    (λ d k. sound.level (duality_vector entries) cut.w cut.gamma cut.u h.multipliers d h.meets (member_of (IsInLineality (IsWorkingDirection file)) ls d each k)))
    cuts (cuts_stated file entries meet)))
    ks exist)
