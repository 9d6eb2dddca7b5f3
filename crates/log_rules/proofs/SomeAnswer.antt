-- A log whose entries meet their rules proves some answer.
use Rattle.std.proofs.Common.{◌≡◌, ℕ, List, [], ◌∷◌, ◌++◌, refl, sym, ap, ap₂, ◌∙◌, subst, arith, Bool, true, true≢false, not, IsTrue, ◌⊎◌, inl, inr, map, filter, All, Contains}
use Rattle.std.proofs.lemmas.List.{same_from_push}
use Rattle.std.proofs.lemmas.List.Elements.{All-cons, Contains-append_left, Contains-append_right}
use Rattle.exact_field.specs.Rational.{ℚ, zero_ℚ, one_ℚ}
use Rattle.exact_field.specs.Order.{same_ℚ}
use Rattle.exact_field.proofs.Comparison.{same_ℚ-is}
use Rattle.lineality.specs.Steps.{numbered_without, list_without}
use Rattle.lineality.specs.Without.{marks, without}
use Rattle.polyhedra.specs.Exactness.{homogenised}
use Rattle.polyhedra.specs.LiveList.{Numbered}
use Rattle.polyhedra.proofs.LiveList.{numbers_tell_apart}
use Rattle.polyhedra.proofs.Lists.{Contains-here, Contains-there, Contains-cases, Contains-nil}
use Rattle.polyhedra.proofs.Members.{all_of_members, member_of, Contains-map, Contains-map_source, Contains-filter_source, pairs-nil, pairs-cons, pairs-head, pairs-tail}
use Rattle.polyhedra.proofs.Tests.{both_true}
use Rattle.upper_image.specs.UpperImage.{working}
use Rattle.upper_image.proofs.TurnedSets.{turned-same}
use Rattle.frac128.specs.declared.vectors.Spot.{Spot}
use Rattle.vlp_problem.specs.declared.problem.Problem.{Problem}
use Rattle.deriv_log.specs.Formed.{IsLog, is_end, ends_once}
use Rattle.word_lines.specs.declared.part.EndKind.{EndKind}
use Rattle.word_lines.specs.declared.part.EndKind.TheVariants as ending
use Rattle.deriv_log.specs.declared.entry.Entry.{Entry}
use Rattle.deriv_log.specs.declared.entry.Entry.TheVariants.{Farkas, Whole, End}
use Rattle.log_rules.specs.Laws.{Stands, SomeAnswer}
use Rattle.log_rules.specs.Live.{State, state, y_of, t_of, cut_at, inequality, duality_vector, named, lines}
use Rattle.log_rules.specs.Meets.{MeetsEnd}
use Rattle.log_rules.specs.Order.{has}
use Rattle.log_rules.specs.Proves.{AllMeet, PlainProves, Gives, IsSorting, shown, live_at, facet_of, named_facets, shown_lines}
use Rattle.log_rules.specs.Right.{Rise, is_before, key, stated}
use Rattle.log_rules.specs.declared.answer.Answer.{Answer}
use Rattle.log_rules.specs.declared.answer.Answer.TheVariants as answer
use Rattle.log_rules.specs.declared.answer.Facet.{Facet}
use Rattle.log_rules.specs.declared.answer.Gen.{Gen}
use Rattle.log_rules.proofs.AnswerMembers.{stated-cut}
use Rattle.log_rules.proofs.KeepsDescription.{rules_keep_description}
use Rattle.log_rules.proofs.Kept.{state-rises}
use Rattle.log_rules.proofs.LiveNumbers.{same_number}
use Rattle.log_rules.proofs.NamedOnce.{named_once}
use Rattle.log_rules.proofs.NormedMembers.{one_standing}
use Rattle.log_rules.proofs.Rising.{before_or_same, before_through}
use Rattle.log_rules.proofs.SolvedIsSolved.{solved_met}
use Rattle.log_rules.specs.Order as order

-- ---- sorting
module _ {X : Type 0} (vector : X → List ℚ) where
  abbrev Before : List ℚ → List ℚ → Type 0
  Before u v = IsTrue (is_before u v)

  -- a rising list with one thing more, which is one of its things where the vectors are equal
  record IsInserted (x : X) (old new : List X) : Type 0 where
    pub to : (z : X) → Contains new z → (x ≡ z) ⊎ Contains old z
    pub from : (z : X) → (x ≡ z) ⊎ Contains old z → Contains new z
    pub rise : Rise (map vector new)

  inserted : (x : X) (old : List X) → Rise (map vector old) → ((y : X) → Contains old y → vector x ≡ vector y → x ≡ y) →
      (new : List X) × IsInserted x old new
  inserted x [] r same = (
    x ∷ [],
    record {
      to = λ z c. Contains-cases x [] z c;
      from = λ z. alone z;
      rise = pairs-cons Before (vector x) [] (λ i d l. absurd (omega (arith, l))) (pairs-nil Before);
    },
  )
    where
      alone : (z : X) → (x ≡ z) ⊎ Contains [] z → Contains (x ∷ []) z
      alone z (inl e) = Contains-here x [] z e
      alone z (inr c) = absurd (Contains-nil z c)
  inserted x (y ∷ old) r same =
      go (before_or_same (vector x) (vector y)) (inserted x old (pairs-tail Before (vector y) (map vector old) r) (λ z c. same z (Contains-there y old z c)))
    where
      front : (z : X) → (x ≡ z) ⊎ Contains (y ∷ old) z → Contains (x ∷ y ∷ old) z
      front z (inl e) = Contains-here x (y ∷ old) z e
      front z (inr c) = Contains-there x (y ∷ old) z c

      after_y : All (Before (vector y)) (map vector old)
      after_y = pairs-head Before (vector y) (map vector old) r

      here : vector x ≡ vector y → x ≡ y
      here e = same y (Contains-here y old y refl) e

      go : Before (vector x) (vector y) ⊎ (Before (vector y) (vector x) ⊎ (vector x ≡ vector y)) → (new : List X) × IsInserted x old new →
          (new : List X) × IsInserted x (y ∷ old) new
      go (inl b) again = (
        x ∷ y ∷ old,
        record {
          to = λ z c. Contains-cases x (y ∷ old) z c;
          from = front;
          rise = pairs-cons Before (vector x) (map vector (y ∷ old))
              (All-cons (Before (vector x)) (vector y) (map vector old) b
              (all_of_members (Before (vector x)) (map vector old)
              (λ v c. before_through (vector x) (vector y) v b (member_of (Before (vector y)) (map vector old) v after_y c)))) r;
        },
      )
      go (inr (inl b)) (new, h) = (
        y ∷ new,
        record {
          to = λ z c. to_cases z (Contains-cases y new z c);
          from = λ z c. from_cases z c;
          rise = pairs-cons Before (vector y) (map vector new) (all_of_members (Before (vector y)) (map vector new) rises) h.rise;
        },
      )
        where
          to_old : (z : X) → (x ≡ z) ⊎ Contains old z → (x ≡ z) ⊎ Contains (y ∷ old) z
          to_old z (inl e) = inl e
          to_old z (inr c) = inr (Contains-there y old z c)

          to_cases : (z : X) → (y ≡ z) ⊎ Contains new z → (x ≡ z) ⊎ Contains (y ∷ old) z
          to_cases z (inl e) = inr (Contains-here y old z e)
          to_cases z (inr c) = to_old z (h.to z c)

          from_old : (z : X) → (y ≡ z) ⊎ Contains old z → Contains (y ∷ new) z
          from_old z (inl e) = Contains-here y new z e
          from_old z (inr c) = Contains-there y new z (h.from z (inr c))

          from_cases : (z : X) → (x ≡ z) ⊎ Contains (y ∷ old) z → Contains (y ∷ new) z
          from_cases z (inl e) = Contains-there y new z (h.from z (inl e))
          from_cases z (inr c) = from_old z (Contains-cases y old z c)

          by_case : (z : X) → (x ≡ z) ⊎ Contains old z → Before (vector y) (vector z)
          by_case z (inl e) = subst (λ (w : X). Before (vector y) (vector w)) e b
          by_case z (inr c) = member_of (Before (vector y)) (map vector old) (vector z) after_y (Contains-map vector old z c)

          rises : (v : List ℚ) → Contains (map vector new) v → Before (vector y) v
          rises v c =
              let m : (z : X) × Contains new z × (vector z ≡ v) = Contains-map_source vector new v c in
              subst (Before (vector y)) m.2 (by_case m.0 (h.to m.0 m.1))
      go (inr (inr e)) again = (y ∷ old, record { to = λ z c. inr c; from = within; rise = r })
        where
          within : (z : X) → (x ≡ z) ⊎ Contains (y ∷ old) z → Contains (y ∷ old) z
          within z (inl k) = Contains-here y old z (sym (here e) ∙ k)
          within z (inr c) = c

  -- a sorting of a list with one thing more
  more : (x : X) (found : List X) → ((a b : X) → Contains (x ∷ found) a → Contains (x ∷ found) b → vector a ≡ vector b → a ≡ b) →
      (listed : List X) × IsSorting vector found listed → (listed : List X) × IsSorting vector (x ∷ found) listed
  more x found same rest = (added.0, record { same = λ z. (there_to z, λ c. back_to z (added.1.to z c)); rise = added.1.rise })
    where
      added : (listed : List X) × IsInserted x rest.0 listed
      added = inserted x rest.0 rest.1.rise (λ y c. same x y (Contains-here x found x refl) (Contains-there x found y ((rest.1.same y).1 c)))

      in_rest : (z : X) → (x ≡ z) ⊎ Contains found z → Contains added.0 z
      in_rest z (inl e) = added.1.from z (inl e)
      in_rest z (inr c) = added.1.from z (inr ((rest.1.same z).0 c))

      there_to : (z : X) → Contains (x ∷ found) z → Contains added.0 z
      there_to z c = in_rest z (Contains-cases x found z c)

      back_to : (z : X) → (x ≡ z) ⊎ Contains rest.0 z → Contains (x ∷ found) z
      back_to z (inl e) = Contains-here x found z e
      back_to z (inr c) = Contains-there x found z ((rest.1.same z).1 c)

  -- a list of which two things with equal vectors are equal has a sorting
  sorting : (found : List X) → ((a b : X) → Contains found a → Contains found b → vector a ≡ vector b → a ≡ b) → (listed : List X) × IsSorting vector found listed
  sorting [] same = ([], record { same = λ x. (λ c. c, λ c. c); rise = pairs-nil Before })
  sorting (x ∷ found) same = more x found same (sorting found (λ a b c d. same a b (Contains-there x found a c) (Contains-there x found b d)))

-- ---- entries that stand
end_of_log : (entries : List Entry) → IsTrue (ends_once entries) → (k : EndKind) × (before : List Entry) × (entries ≡ before ++ End k ∷ [])
end_of_log [] h = absurd (true≢false (sym h))
end_of_log (End k ∷ []) h = (k, [], refl)
end_of_log (e ∷ []) h = absurd (true≢false (sym h))
end_of_log (e ∷ d ∷ entries) h =
    let r = end_of_log (d ∷ entries) (both_true (not (is_end e)) (ends_once (d ∷ entries)) h).1 in
    (r.0, e ∷ r.1, ap (λ (es : List Entry). e ∷ es) r.2)

farkas_in : (entries : List Entry) → IsTrue (has order.farkas entries) → (u : List Spot) × Contains entries (Farkas u)
farkas_in [] h = absurd (true≢false (sym h))
farkas_in (Farkas u ∷ entries) h = (u, Contains-here (Farkas u) entries (Farkas u) refl)
farkas_in (e ∷ entries) h = let r = farkas_in entries h in (r.0, Contains-there e entries (Farkas r.0) r.1)

whole_in : (entries : List Entry) → IsTrue (has order.whole entries) → (x ray m : List Spot) × Contains entries (Whole x ray m)
whole_in [] h = absurd (true≢false (sym h))
whole_in (Whole x ray m ∷ entries) h = (x, ray, m, Contains-here (Whole x ray m) entries (Whole x ray m) refl)
whole_in (e ∷ entries) h = let r = whole_in entries h in (r.0, r.1, r.2, Contains-there e entries (Whole r.0 r.1 r.2) r.3)

-- ---- the lists of a solved log
module _ (file : Problem) (entries : List Entry) (meet : AllMeet file entries) where
  abbrev s : State
  s = state file.objs entries

  -- two live generators with one vector are one
  module _ (stands : Stands file (lines entries) s) where
    whole : (g : Numbered) → Contains s.list.live g → g.vector ≡ homogenised (y_of file.objs g) (t_of file.objs g)
    whole g c = elim (one_standing file (lines entries) s stands g c) [
      | inl a ↦ a.same ∙ ap (λ u. homogenised (y_of file.objs g) u) (sym a.level)
      | inr a ↦ a.same ∙ ap (λ u. homogenised (y_of file.objs g) u) (sym a.level)
    ]

    live_same : (t : ℚ) (a b : Gen) → Contains (live_at file entries t) a → Contains (live_at file entries t) b → a.y ≡ b.y → a ≡ b
    live_same t a b c d e =
        let live : List Numbered = s.list.live in
        let bs : List Bool = marks file.objs (lines entries) in
        let test : Numbered → Bool = λ g. same_ℚ (t_of file.objs g) t in
        let m : (g : Numbered) × Contains (filter test live) g × (shown file entries g ≡ a) = Contains-map_source (shown file entries) (filter test live) a c in
        let n : (g : Numbered) × Contains (filter test live) g × (shown file entries g ≡ b) = Contains-map_source (shown file entries) (filter test live) b d in
        let f : Contains live m.0 × (test m.0 ≡ true) = Contains-filter_source test live m.0 m.1 in
        let g : Contains live n.0 × (test n.0 ≡ true) = Contains-filter_source test live n.0 n.1 in
        let level : t_of file.objs m.0 ≡ t_of file.objs n.0 = (same_ℚ-is (t_of file.objs m.0) t).0 f.1 ∙ sym ((same_ℚ-is (t_of file.objs n.0) t).0 g.1) in
        let y : y_of file.objs m.0 ≡ y_of file.objs n.0 =
        turned-same file.dir (y_of file.objs m.0) (y_of file.objs n.0) (ap (λ (p : Gen). p.y) m.2 ∙ e ∙ sym (ap (λ (p : Gen). p.y) n.2)) in
        let vector : m.0.vector ≡ n.0.vector = whole m.0 f.0 ∙ ap₂ homogenised y level ∙ sym (whole n.0 g.0) in
        let number : m.0.number ≡ n.0.number =
        (numbers_tell_apart _ _ (list_without bs s.list) stands.is_live.rising stands.is_live.described (numbered_without bs m.0) (numbered_without bs n.0)
        (Contains-map (numbered_without bs) live m.0 f.0) (Contains-map (numbered_without bs) live n.0 g.0)).1 (ap (without bs) vector) in
        let same : m.0 ≡ n.0 = same_number live (state-rises file.objs entries).rises m.0 n.0 f.0 g.0 number in
        sym m.2 ∙ ap (shown file entries) same ∙ n.2

  -- two named facets that state one inequality are one
  facet_same : (points directions : List (List ℚ)) (f g : Facet) → Contains (named_facets file entries points directions) f →
      Contains (named_facets file entries points directions) g → key (stated f) ≡ key (stated g) → f ≡ g
  facet_same points directions f g c d e =
      let shown_facet : ℕ → Facet = λ k. facet_of file points directions (cut_at s.cuts k) in
      let m : (k : ℕ) × Contains (named entries) k × (shown_facet k ≡ f) = Contains-map_source shown_facet (named entries) f c in
      let n : (k : ℕ) × Contains (named entries) k × (shown_facet k ≡ g) = Contains-map_source shown_facet (named entries) g d in
      let parts : (f.w ≡ g.w) × (f.gamma ≡ g.gamma) = same_from_push f.w g.w f.gamma g.gamma e in
      let says : stated f ≡ stated g = ap₂ (λ (w : List ℚ) (b : ℚ). record { normal = w; bound = b }) parts.0 parts.1 in
      let same : inequality (cut_at s.cuts m.0) ≡ inequality (cut_at s.cuts n.0) =
      sym (stated-cut file entries points directions (cut_at s.cuts m.0)) ∙ ap (working file) (ap stated m.2 ∙ says ∙ sym (ap stated n.2))
      ∙ stated-cut file entries points directions (cut_at s.cuts n.0) in
      sym m.2 ∙ ap shown_facet ((named_once file entries meet).once m.0 n.0 m.1 n.1 same) ∙ n.2

-- ---- the law
module _ (file : Problem) (entries : List Entry) (log : IsLog entries) (meet : AllMeet file entries) where
  abbrev q : ℕ
  q = file.objs

  end_is : (k : EndKind) × (before : List Entry) × (entries ≡ before ++ End k ∷ [])
  end_is = end_of_log entries log.ends

  abbrev before : List Entry
  before = end_is.1

  stands_before : (e : Entry) → Contains before e → Contains entries e
  stands_before e c = subst (λ (es : List Entry). Contains es e) (sym end_is.2) (Contains-append_left before (End end_is.0 ∷ []) e c)

  stands_end : Contains entries (End end_is.0)
  stands_end = subst (λ (es : List Entry). Contains es (End end_is.0)) (sym end_is.2)
      (Contains-append_right before (End end_is.0 ∷ []) (End end_is.0) (Contains-here (End end_is.0) [] (End end_is.0) refl))

  met_end : MeetsEnd file before end_is.0
  met_end = (meet before (End end_is.0) [] end_is.2).rules

  gives : (k : EndKind) → Contains entries (End k) → MeetsEnd file before k → (a : Answer) × Gives file entries a
  gives ending.Infeasible c m = let f = farkas_in before m in (answer.Infeasible f.0, (c, stands_before (Farkas f.0) f.1))
  gives ending.Whole c m =
      let w = whole_in before m in (
        answer.Whole (duality_vector entries) w.0 w.1,
        (c, record { c_given = refl; m = w.2; stands = stands_before (Whole w.0 w.1 w.2) w.3 }),
      )
  gives ending.NoVertex c m = absurd m
  gives ending.Solved c m =
      let met = solved_met file entries meet log.ends c in
      let stands : Stands file (lines entries) (state q entries) = rules_keep_description file entries meet met.started in
      let points = sorting (λ (g : Gen). g.y) (live_at file entries one_ℚ) (live_same file entries meet stands one_ℚ) in
      let directions = sorting (λ (g : Gen). g.y) (live_at file entries zero_ℚ) (live_same file entries meet stands zero_ℚ) in
      let ys = map (λ (g : Gen). g.y) points.0 in
      let ds = map (λ (g : Gen). g.y) directions.0 in
      let facets = sorting (λ (f : Facet). key (stated f)) (named_facets file entries ys ds) (facet_same file entries meet ys ds) in (
        answer.Solved (duality_vector entries) (shown_lines file entries) points.0 directions.0 facets.0,
        (c, record { c_given = refl; lines_are = refl; points_are = points.1; directions_are = directions.1; facets_are = facets.1 }),
      )

  some : (a : Answer) × PlainProves file entries a
  some = let g = gives end_is.0 stands_end met_end in (g.0, record { log = log; meet = meet; gives = g.1 })

pub some_answer : SomeAnswer
some_answer file entries log meet = some file entries log meet
