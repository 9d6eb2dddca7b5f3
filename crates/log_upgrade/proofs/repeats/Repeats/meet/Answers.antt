use Rattle.std.proofs.Common.{◌≡◌, ◌==◌, sym, ap, ◌∙◌, [], ◌∷◌, Bool, true, false, true≢false, List, length, refl, Option, Some, None, is_some, eqb-true, arith}
use Rattle.frac128.specs.declared.vectors.Spot.{Spot}
use Rattle.log_upgrade.specs.declared.repeats.Standing.{Standing}
use Rattle.log_upgrade.specs.declared.repeats.Standing.TheVariants.{Once, Several}
use Rattle.log_upgrade.proofs.Standings.{met, empty_vector, one_vector}
use Rattle.log_upgrade.proofs.repeats.Repeats.meet.Goals.{then-contains_key, else-contains_key}
use Rattle.log_upgrade.proofs.repeats.Repeats.meet.Goals as goal

nothing : (u : List Spot) → (length u == 0) ≡ true → u ≡ []
nothing [] h = refl
nothing (s ∷ u) h = absurd (let e = eqb-true (length (s ∷ u)) 0 h in omega (arith, e))

something : (u : List Spot) → (length u == 0) ≡ false → u ≡ [] → ⊥
something u h e = true≢false (ap (λ (v : List Spot). length v == 0) (sym e) ∙ h)

found : (o : Option Standing) → true ≡ is_some o → met o ≡ Several
found None h = absurd (true≢false h)
found (Some s) h = refl

not_found : (o : Option Standing) → false ≡ is_some o → met o ≡ Once
not_found None h = refl
not_found (Some s) h = absurd (true≢false (sym h))

pub returns-then-is_empty : goal.returns-then-is_empty
returns-then-is_empty c entries e h a =
    empty_vector entries e c.args.self.now (h ∙ ap Some (nothing c.args.vector.now (sym c.if-is_empty.ensures))) a

pub returns : goal.returns
returns c entries e h a =
    one_vector entries e c.args.self.now c.insert.new.self (record { spots = c.args.vector }) c.if-contains_key.standing h
    (something c.args.vector.now (sym c.if-is_empty.ensures)) c.in_ok-insert.ensures.updates
    (elim c.if-contains_key.branch [
      | then-contains_key w ↦ w.standing-is ∙ sym (found _ w.if-contains_key.ensures)
      | else-contains_key w ↦ w.standing-is ∙ sym (not_found _ w.if-contains_key.ensures)
    ]) a
