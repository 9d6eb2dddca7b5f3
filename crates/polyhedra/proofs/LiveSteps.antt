-- Steps keep the description, the norms and the numbers; an example.
use Rattle.std.proofs.Common.{◌≡◌, ℕ, ◌+◌, ◌<◌, ◌≤◌, List, [], ◌∷◌, ◌++◌, length, All, refl, sym, subst, append_assoc}
use Rattle.std.proofs.lemmas.List.{append-nil}
use Rattle.std.proofs.lemmas.List.Elements.{All-weaker, All-append}
use Rattle.exact_field.specs.Rational.{ℚ, zero_ℚ, ◌+ℚ◌, ◌*ℚ◌, neg_ℚ, inverse_ℚ, le_ℚ, whole, fraction}
use Rattle.exact_field.specs.Vector.{dot}
use Rattle.exact_field.specs.Gcd.{gcd}
use Rattle.polyhedra.specs.Vectors.{AreWide}
use Rattle.polyhedra.specs.TightSets.{IsDoubleDescriptionPair}
use Rattle.polyhedra.specs.DoubleDescription.{kept, made, new_pairs, addition, IsNormed}
use Rattle.polyhedra.proofs.Lists.{wide-head, wide-tail}
use Rattle.polyhedra.proofs.Members.{all_of_members, member_of, Contains-filter_source}
use Rattle.polyhedra.proofs.OneAddition.{made_are_normed}
use Rattle.polyhedra.proofs.NewPairs.{addition_describes, new_pairs_are_exact}
use Rattle.polyhedra.specs.LiveList.{LiveList, vectors, numbered, step, starting, steps}
use Rattle.polyhedra.specs.LiveSteps.{IsLive, AreLive, StepExample}
use Rattle.polyhedra.proofs.Generators.{described_are_extreme}
use Rattle.polyhedra.proofs.LiveList.{vectors-numbered, numbered_within, numbered_rises, still_rising, step_is_addition}

start_is_live : (n k : ℕ) (rows vs : List (List ℚ)) → IsDoubleDescriptionPair n rows vs → All IsNormed vs → IsLive n rows (starting k vs)
start_is_live n k rows vs d h = record {
  rising = record {
    rises = numbered_rises k vs;
    below = All-weaker (λ g. (k ≤ g.number) × (g.number < k + length vs)) (λ g. g.number < k + length vs) (λ g l. l.1) (numbered k vs) (numbered_within k vs);
  };
  described = subst (λ (us : List (List ℚ)). IsDoubleDescriptionPair n rows us) (sym (vectors-numbered k vs)) d;
  normed = subst (λ (us : List (List ℚ)). All IsNormed us) (sym (vectors-numbered k vs)) h;
}

addition_normed : (n : ℕ) (rows gens : List (List ℚ)) (row : List ℚ) → IsDoubleDescriptionPair n rows gens → length row ≡ n → All IsNormed gens →
    All IsNormed (addition rows gens row)
addition_normed n rows gens row d l h = All-append IsNormed (kept row gens) (made row (new_pairs rows gens row))
    (all_of_members IsNormed (kept row gens) (λ g c. member_of IsNormed gens g h (Contains-filter_source (λ v. le_ℚ zero_ℚ (dot row v)) gens g c).0))
    (made_are_normed n rows gens row (new_pairs rows gens row) d l (new_pairs_are_exact n rows gens row d))

step_is_live : (n : ℕ) (rows : List (List ℚ)) (list : LiveList) (row : List ℚ) → length row ≡ n → IsLive n rows list →
    IsLive n (rows ++ row ∷ []) (step rows list row)
step_is_live n rows list row l h =
    let same : vectors (step rows list row).live ≡ addition rows (vectors list.live) row = step_is_addition n rows list row h.rising h.described in
    record {
      rising = still_rising rows list row h.rising;
      described = subst (λ (us : List (List ℚ)). IsDoubleDescriptionPair n (rows ++ row ∷ []) us) (sym same) (addition_describes n rows (vectors list.live) row h.described l);
      normed = subst (λ (us : List (List ℚ)). All IsNormed us) (sym same) (addition_normed n rows (vectors list.live) row h.described l h.normed);
    }

steps_are_live : (n : ℕ) (rows : List (List ℚ)) (list : LiveList) (more : List (List ℚ)) → AreWide n more → IsLive n rows list →
    IsLive n (rows ++ more) (steps rows list more)
steps_are_live n rows list [] w h = subst (λ (rs : List (List ℚ)). IsLive n rs list) (sym (append-nil rows)) h
steps_are_live n rows list (row ∷ more) w h =
    subst (λ (rs : List (List ℚ)). IsLive n rs (steps rows list (row ∷ more))) (append_assoc rows (row ∷ []) more)
    (steps_are_live n (rows ++ row ∷ []) (step rows list row) more (wide-tail n row more w)
    (step_is_live n rows list row (wide-head n row more w) h))

pub are_live : AreLive
are_live = record {
  start = start_is_live;
  after = steps_are_live;
  extreme = λ n rows list h g. described_are_extreme n rows (vectors list.live) h.described h.normed g;
}

pub step_example : StepExample
unfolding whole fraction ◌+ℚ◌ ◌*ℚ◌ neg_ℚ inverse_ℚ le_ℚ gcd
step_example = record { gone = refl; paired = refl; live = refl; next = refl }
