use Rattle.std.proofs.Common.{◌≡◌, ◌∷◌, ◌++◌, [], ◌-◌, ℕ, suc, List, map, take, length, ap, ap₂, sym, ◌∙◌, subst, inl, arith, slice_index_or}
use Rattle.std.proofs.lemmas.List.{length-map, get_or-map, take-map}
use Rattle.exact_field.specs.Rational.{ℚ, zero_ℚ, one_ℚ}
use Rattle.exact_field.specs.Vector.{dot, entry, front}
use Rattle.deriv_log.specs.declared.entry.Entry.{Entry}
use Rattle.polyhedra.specs.Negatives.{negated}
use Rattle.outer_approx.specs.Task.{setting}
use Rattle.overflows.specs.Faults.{IsTermAt, Overflows}
use Rattle.lower_image.proofs.Weights.{c_wide, multiplied, told, weight_entry, weight_made, wide}
use Rattle.lower_image.proofs.weighing.weight_at.Goals as goal

pub returns-in-Ok-clause-ok : goal.returns-in-Ok-clause-ok
returns-in-Ok-clause-ok g c =
    let value = g.F.Field.value in
    let holds = g.F.Field.holds in
    let task = g.task in
    let rows = c.requires.1.1.1.0 in
    let live = c.requires.1.1.1.1 in
    let gen = c.args.generator.now in
    let G = map value gen in
    let q = task.file.objs in
    let k = length c.args.c.now - 1 in
    let c_long = length-map c.args.c.now value in
    let c_same = ap length c.requires.1.0 in
    let c_is = c_wide task holds c.requires.1.1.0 in
    let low = task.file.some_objective in
    let long : length task.c ≡ suc k = omega (arith, c_long, c_same, c_is, low) in
    let g_long = length-map gen value in
    let g_is = wide task holds c.requires.1.1.0 rows G live in
    let place : length gen - 1 ≡ suc q - 1 = omega (arith, g_long, g_is) in
    let last_one =
    ap value c.index-generator-generator.is
    ∙ sym (get_or-map value gen (length gen - 1) c.index-generator-generator.result zero_ℚ (omega (arith, g_long, g_is)))
    ∙ ap (λ (n : ℕ). slice_index_or G n zero_ℚ) place
    ∙ (told task holds c.requires.1.1.0 rows G live).last in
    let xs_is = ap (map value) c.as_slice.ensures.items ∙ c.in_ok-one.ensures ∙ ap (λ (v : List ℚ). one_ℚ ∷ negated (take k v)) c.requires.1.0 in
    let ys_is = ap (map value) (c.as_slice-2.ensures.items ∙ c.in_ok-parts.ensures) ∙ ap (λ (v : List ℚ). value c.index-generator-generator.result ∷ v) (sym (take-map value k gen)) in
    let short : k ≡ length task.c - 1 = omega (arith, long) in
    let entry_is =
    c.in-Ok.ensures.ok ∙ ap₂ dot xs_is ys_is
    ∙ ap (λ (n : ℕ). dot (one_ℚ ∷ negated (take n task.c)) (value c.index-generator-generator.result ∷ take k G)) short
    ∙ weight_entry task.c (take k G) (value c.index-generator-generator.result) last_one in
    weight_made value task.c gen c.push.new.self k c.in-Ok.entry long
    (c.in_ok-push-in-Ok.ensures.ok ∙ ap (λ l. l ++ c.in-Ok.entry ∷ []) (c.in_ok-append-in-Ok.ensures.ok ∙ ap (λ l. l ++ take k gen) c.new-w.ensures)) entry_is

pub returns-clause-left : goal.returns-clause-left
returns-clause-left g c = λ trail.
    let value = g.F.Field.value in
    let holds = g.F.Field.holds in
    let task = g.task in
    let rows = c.requires.1.1.1.0 in
    let live = c.requires.1.1.1.1 in
    let gen = c.args.generator.now in
    let G = map value gen in
    let q = task.file.objs in
    let k = length c.args.c.now - 1 in
    let c_long = length-map c.args.c.now value in
    let c_same = ap length c.requires.1.0 in
    let short : k ≡ length task.c - 1 = omega (arith, c_long, c_same) in
    let g_long = length-map gen value in
    let g_is = wide task holds c.requires.1.1.0 rows G live in
    let place : length gen - 1 ≡ suc q - 1 = omega (arith, g_long, g_is) in
    let last_is : value c.index-generator-generator.result ≡ entry G (suc q) =
    ap value c.index-generator-generator.is
    ∙ sym (get_or-map value gen (length gen - 1) c.index-generator-generator.result zero_ℚ (omega (arith, g_long, g_is)))
    ∙ ap (λ (n : ℕ). slice_index_or G n zero_ℚ) place in
    let xs_is : map value c.as_slice.result.now ≡ one_ℚ ∷ negated (front task.c) =
    ap (map value) c.as_slice.ensures.items ∙ c.in_ok-one.ensures ∙ ap (λ (v : List ℚ). one_ℚ ∷ negated (take k v)) c.requires.1.0
    ∙ ap (λ (n : ℕ). one_ℚ ∷ negated (take n task.c)) short in
    let ys_is : map value c.as_slice-2.result.now ≡ entry G (suc q) ∷ take (length task.c - 1) G =
    ap (map value) (c.as_slice-2.ensures.items ∙ c.in_ok-parts.ensures)
    ∙ ap₂ (λ (a : ℚ) (v : List ℚ). a ∷ v) last_is (sym (take-map value k gen) ∙ ap (λ (n : ℕ). take n G) short) in
    let at = subst (λ (ys : List ℚ). IsTermAt value holds (one_ℚ ∷ negated (front task.c)) ys c.in-Err.fault) ys_is
    (subst (λ (xs : List ℚ). IsTermAt value holds xs (map value c.as_slice-2.result.now) c.in-Err.fault) xs_is c.in-Err.ensures.left.term) in
    subst (λ (t : List Entry). Overflows holds (setting task trail) t c.term_fault.result) c.new.ensures
    (c.term_fault.ensures.licensed (setting task trail) (one_ℚ ∷ negated (front task.c)) (entry G (suc q) ∷ take (length task.c - 1) G)
    (inl (multiplied task holds c.requires.1.1.0 rows G live trail)) at)
