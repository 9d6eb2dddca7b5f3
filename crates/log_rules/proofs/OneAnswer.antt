-- Entries prove one answer only.
use Rattle.std.proofs.Common.{◌≡◌, ◌==◌, List, [], ◌∷◌, ◌++◌, refl, sym, ap, ◌∙◌, subst, Bool, true, not, IsTrue, ◌⊎◌, inl, inr, Contains, map, eq-eqb}
use Rattle.std.proofs.lemmas.List.{same_from_push}
use Rattle.std.proofs.lemmas.List.Elements.{Contains-push_cases}
use Rattle.exact_field.specs.Rational.{zero_ℚ, one_ℚ}
use Rattle.polyhedra.proofs.Lists.{Contains-cases, Contains-nil}
use Rattle.polyhedra.proofs.Tests.{or_left, or_right, not_true}
use Rattle.log_rules.specs.Laws.{OneAnswer}
use Rattle.log_rules.specs.Meets.{Meets}
use Rattle.log_rules.specs.Order.{Kind, kind, place, has, implies, stands_once}
use Rattle.log_rules.specs.Proves.{PlainProves, AllMeet, Gives, IsSorting, live_at, named_facets}
use Rattle.log_rules.specs.Right.{key, stated}
use Rattle.log_rules.proofs.Entries.{order_of, along, StandsAt, stands_at, end_last}
use Rattle.log_rules.proofs.Rising.{sorted_same}
use Rattle.vlp_problem.specs.declared.problem.Problem.{Problem}
use Rattle.deriv_log.specs.Formed.{ends_once}
use Rattle.log_rules.specs.declared.answer.Answer.{Answer}
use Rattle.log_rules.specs.declared.answer.Answer.TheVariants.{Infeasible, Whole, Solved}
use Rattle.log_rules.specs.declared.answer.Facet.{Facet}
use Rattle.log_rules.specs.declared.answer.Gen.{Gen}
use Rattle.word_lines.specs.declared.part.EndKind.{EndKind}
use Rattle.word_lines.specs.declared.part.EndKind.TheVariants as ending
use Rattle.deriv_log.specs.declared.entry.Entry.{Entry}
use Rattle.deriv_log.specs.declared.entry.Entry.TheVariants as entry
use Rattle.log_rules.specs.Order as order

-- ---- entries of a kind that stands once
has_of : (k : Kind) (entries : List Entry) (e : Entry) → Contains entries e → kind e ≡ k → IsTrue (has k entries)
has_of k [] e c h = absurd (Contains-nil e c)
has_of k (d ∷ entries) e c h = go (Contains-cases d entries e c) (λ a. has_of k entries e a h)
  where
    go : (d ≡ e) ⊎ Contains entries e → (Contains entries e → IsTrue (has k entries)) → IsTrue (has k (d ∷ entries))
    go (inl a) again = or_left (place (kind d) == place k) (has k entries) (eq-eqb (place (kind d)) (place k) (ap (λ (x : Entry). place (kind x)) a ∙ ap place h))
    go (inr a) again = or_right (place (kind d) == place k) (has k entries) (again a)

module _ (file : Problem) (k : Kind) (single : stands_once k ≡ true) where
  abbrev Only : List Entry → Type 0
  Only entries = (d e : Entry) → kind d ≡ k → kind e ≡ k → Contains entries d → Contains entries e → d ≡ e

  -- none of the kind stands before one of the kind
  first : (before : List Entry) (x d : Entry) → Meets file before x → kind x ≡ k → kind d ≡ k → Contains before d → ⊥
  first before x d m h l c =
      not_true (has k before)
      (subst (λ (b : Bool). IsTrue (implies b (not (has k before)))) single
      (subst (λ (j : Kind). IsTrue (implies (stands_once j) (not (has j before)))) h (order_of before (kind x) m.order).once))
      (has_of k before d c l)

  only_step : (before : List Entry) (x : Entry) → Meets file before x → Only before → Only (before ++ x ∷ [])
  only_step before x m h d e kd ke cd ce = go (Contains-push_cases before x d cd) (Contains-push_cases before x e ce)
    where
      go : Contains before d ⊎ (x ≡ d) → Contains before e ⊎ (x ≡ e) → d ≡ e
      go (inl a) (inl b) = h d e kd ke a b
      go (inl a) (inr b) = absurd (first before x d m (ap kind b ∙ ke) kd a)
      go (inr a) (inl b) = absurd (first before x e m (ap kind a ∙ kd) ke b)
      go (inr a) (inr b) = sym a ∙ b

  pub only_one : (entries : List Entry) → AllMeet file entries → Only entries
  only_one entries meet = along file Only only_step entries meet (λ d e kd ke c f. absurd (Contains-nil d c))

-- ---- the end
last_is : (entries : List Entry) (k : EndKind) → IsTrue (ends_once entries) → Contains entries (entry.End k) → (before : List Entry) × (entries ≡ before ++ entry.End k ∷ [])
last_is entries k ends c =
    let at : StandsAt entries (entry.End k) = stands_at entries (entry.End k) c in (
      at.before,
      at.same ∙ ap (λ (es : List Entry). at.before ++ entry.End k ∷ es)
          (end_last at.before k at.rest (subst (λ (es : List Entry). IsTrue (ends_once es)) at.same ends)),
    )

same_end : (entries : List Entry) (k k' : EndKind) → IsTrue (ends_once entries) → Contains entries (entry.End k) → Contains entries (entry.End k') → k ≡ k'
same_end entries k k' ends c c' =
    let a = last_is entries k ends c in
    let b = last_is entries k' ends c' in
    let e : entry.End k ≡ entry.End k' = (same_from_push a.0 b.0 (entry.End k) (entry.End k') (sym a.1 ∙ b.1)).1 in
    cc

abbrev end_of : Answer → EndKind
end_of (Infeasible u) = ending.Infeasible
end_of (Whole c x ray) = ending.Whole
end_of (Solved c ls points directions facets) = ending.Solved

stands_end : (file : Problem) (entries : List Entry) (answer : Answer) → Gives file entries answer → Contains entries (entry.End (end_of answer))
stands_end file entries (Infeasible u) h = h.0
stands_end file entries (Whole c x ray) h = h.0
stands_end file entries (Solved c ls points directions facets) h = h.0

-- ---- the parts
facets_same : (file : Problem) (entries : List Entry) (points points' directions directions' : List Gen) (facets facets' : List Facet) →
    points ≡ points' → directions ≡ directions' →
    IsSorting (λ (f : Facet). key (stated f)) (named_facets file entries (map (λ (g : Gen). g.y) points) (map (λ (g : Gen). g.y) directions)) facets →
    IsSorting (λ (f : Facet). key (stated f)) (named_facets file entries (map (λ (g : Gen). g.y) points') (map (λ (g : Gen). g.y) directions')) facets' →
    facets ≡ facets'
facets_same file entries points points' directions directions' facets facets' p d a b =
    sorted_same (λ (f : Facet). key (stated f)) (named_facets file entries (map (λ (g : Gen). g.y) points') (map (λ (g : Gen). g.y) directions')) facets facets'
    (subst (λ (gs : List Gen). IsSorting (λ (f : Facet). key (stated f)) (named_facets file entries (map (λ (g : Gen). g.y) points') (map (λ (g : Gen). g.y) gs)) facets) d
    (subst (λ (gs : List Gen). IsSorting (λ (f : Facet). key (stated f)) (named_facets file entries (map (λ (g : Gen). g.y) gs) (map (λ (g : Gen). g.y) directions)) facets) p a)) b

-- ---- the law
module _ (file : Problem) (entries : List Entry) where
  one : (answer answer' : Answer) → end_of answer ≡ end_of answer' → PlainProves file entries answer → PlainProves file entries answer' → answer ≡ answer'
  one (Infeasible u) (Infeasible u') e h h' =
      let p : entry.Farkas u ≡ entry.Farkas u' = only_one file order.farkas refl entries h.meet (entry.Farkas u) (entry.Farkas u') refl refl h.gives.1 h'.gives.1 in
      cc
  one (Whole c x ray) (Whole c' x' ray') e h h' =
      let g = h.gives.1 in
      let g' = h'.gives.1 in
      let p : entry.Whole x ray g.m ≡ entry.Whole x' ray' g'.m =
      only_one file order.whole refl entries h.meet (entry.Whole x ray g.m) (entry.Whole x' ray' g'.m) refl refl g.stands g'.stands in
      let q : c ≡ c' = g.c_given ∙ sym g'.c_given in
      cc
  one (Solved c ls points directions facets) (Solved c' ls' points' directions' facets') e h h' =
      let g = h.gives.1 in
      let g' = h'.gives.1 in
      let q : c ≡ c' = g.c_given ∙ sym g'.c_given in
      let l : ls ≡ ls' = g.lines_are ∙ sym g'.lines_are in
      let p : points ≡ points' = sorted_same (λ (v : Gen). v.y) (live_at file entries one_ℚ) points points' g.points_are g'.points_are in
      let d : directions ≡ directions' = sorted_same (λ (v : Gen). v.y) (live_at file entries zero_ℚ) directions directions' g.directions_are g'.directions_are in
      let f : facets ≡ facets' =
      facets_same file entries points points' directions directions' facets facets' p d g.facets_are g'.facets_are in
      cc
  one answer answer' e h h' = cc

pub one_answer : OneAnswer
one_answer file entries answer answer' h h' =
    one file entries answer answer' (same_end entries (end_of answer) (end_of answer') h.log.ends (stands_end file entries answer h.gives)
    (stands_end file entries answer' h'.gives)) h h'
