use Rattle.std.proofs.Common.{◌≡◌, ℕ, ◌+◌, ◌-◌, map, length, take, drop, sym, ap, ap₂, ◌∙◌}
use Rattle.tableaux.specs.Table.{minus}
use Rattle.lp_form.specs.Data.{cone_of}
use Rattle.lp_form.specs.Programs.{side_total}
use Rattle.lp_form.proofs.Figures.{side_number, objective_number}
use Rattle.std.proofs.lemmas.List.{take-map, drop-map, take_rest}
use Rattle.std.specs.List.{slice_range}
use Rattle.lp_form.specs.Reading.{kept_after}
use Rattle.lp_form.proofs.Signs.{part_is, after_is}
use Rattle.lp_form.proofs.Joined.{slice-map}
use Rattle.lp_form.proofs.reading.split.Goals as goal

pub returns : goal.returns
returns g c = λ file stands.
    let value = g.F.Field.value in
    let form = c.args.form.now in
    let z = c.args.z.now in
    let m : ℕ = c.len-m.result in
    let q : ℕ = c.len-q.result in
    let m_is : m ≡ side_total file = c.len-m.ensures.value ∙ side_number value file form stands in
    let q_is : q ≡ file.objs = c.len-q.ensures.value ∙ objective_number value file form stands in
    let start : m + q ≡ side_total file + file.objs = ap₂ (λ a b. a + b) m_is q_is in
    let end : m + q + q ≡ side_total file + file.objs + file.objs = ap₂ (λ a b. a + b) start q_is in
    let u_is : c.in_ok-u.u ≡ take m z = c.in_ok-u.ensures in
    let w_is : map value c.in_ok-w.w ≡ minus (map value (slice_range z m (m + q))) (map value (slice_range z (m + q) (m + q + q))) = c.in_ok-w.ensures in
    let v_is : map value c.in_ok-v.v ≡ kept_after (cone_of value form.cone) (map value (take (length z - (m + q + q)) (drop (m + q + q) z))) = c.in_ok-v.ensures in
    record {
      u = ap (map value) u_is ∙ sym (take-map value m z) ∙ ap (λ n. take n (map value z)) m_is;
      w = w_is ∙ ap₂ minus (slice-map value z m (m + q) ∙ part_is (map value z) m q (side_total file) file.objs m_is q_is)
          (slice-map value z (m + q) (m + q + q) ∙ part_is (map value z) (m + q) q (side_total file + file.objs) file.objs start q_is);
      v = v_is ∙ ap (λ l. kept_after (cone_of value form.cone) (map value l)) (take_rest z (m + q + q)) ∙ ap₂ kept_after stands.cone (sym (drop-map value (m + q + q) z) ∙ ap (λ n. drop n (map value z)) end) ∙ after_is file file.cone (map value z);
    }
